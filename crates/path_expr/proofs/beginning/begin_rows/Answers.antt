use Rattle.std.proofs.Common.{◌≡◌, ◌<◌, ◌≤◌, ◌∙◌, ℕ, ap, arith, ◌⊎◌}
use Rattle.path_expr.specs.PathExpr.{Zero}
use Rattle.path_expr.specs.Elimination.{path_through}
use Rattle.path_expr.specs.Operations.{below}
use Rattle.path_expr.specs.Sweeps.{rows_begun}
use Rattle.path_expr.specs.Numbers.{path_through_at, joins_at}
use Rattle.path_expr.proofs.RunLemmas.{Runs-then, Runs-as, Makes-exit, Makes-as, Makes-ok}
use Rattle.path_expr.proofs.SweepLemmas.{HoldsAll-as, below-more, below-rest}
use Rattle.path_expr.proofs.FirstLemmas.{AllHaveItems-kept, rows_begun-later, rows_begun-more, rows_begun-all}
use Rattle.path_expr.proofs.beginning.begin_rows.Goals as goal

pub begin_row-requires-clause-holds : goal.begin_row-requires-clause-holds
begin_row-requires-clause-holds g c =
    let so_far = c.loop-i.invariant.so_far c.requires.links.0 c.requires.links.1 in (
      c.requires.links.0,
      rows_begun (path_through_at c.args.numbers.now) c.loop-i.i,
      AllHaveItems-kept so_far.0.keeps c.requires.links.1,
      so_far.1,
      rows_begun-later (path_through_at c.args.numbers.now) c.loop-i.i,
    )

pub returns-in_err-begin_row-clause-made : goal.returns-in_err-begin_row-clause-made
returns-in_err-begin_row-clause-made g c = λ source items.
    let lt : c.loop-i.i < c.args.nodes = omega arith in
    let so_far = c.loop-i.invariant.so_far source items in
    let here = c.in_err-begin_row.ensures.made source (rows_begun (path_through_at c.args.numbers.now) c.loop-i.i) (AllHaveItems-kept so_far.0.keeps items) so_far.1
    (rows_begun-later (path_through_at c.args.numbers.now) c.loop-i.i) in
    let rest = below-rest (λ i. below (joins_at c.args.numbers.now i) c.args.nodes) c.loop-i.i c.args.nodes lt in
    Makes-as rest.1 (Makes-exit c.from_residual-in_err-begin_row.result rest.0 c.from_residual-in_err-begin_row.ensures.1 (Runs-then so_far.0 here.run))

pub loop-i-preserved : goal.loop-i-preserved
loop-i-preserved g c =
    let outside = λ (a b : ℕ) (past : (c.args.nodes ≤ a) ⊎ (c.args.nodes ≤ b)). ap (path_through Zero) (c.requires.within a b past) in record {
      places = c.begin_row.ensures.places ∙ c.loop-i.invariant.places;
      so_far = λ source items.
          let so_far = c.loop-i.invariant.so_far source items in
          let here = c.in_ok-begin_row.ensures.made source (rows_begun (path_through_at c.args.numbers.now) c.loop-i.i) (AllHaveItems-kept so_far.0.keeps items) so_far.1
          (rows_begun-later (path_through_at c.args.numbers.now) c.loop-i.i) in (
            Runs-as (below-more (λ i. below (joins_at c.args.numbers.now i) c.args.nodes) c.loop-i.i) (Runs-then so_far.0 here.run),
            HoldsAll-as (rows_begun-more (path_through_at c.args.numbers.now) c.args.nodes c.loop-i.i outside) here.good,
          );
    }

pub returns-clause-made : goal.returns-clause-made
returns-clause-made g c = λ source items.
    let e : c.loop-i.i ≡ c.args.nodes = omega arith in
    let outside = λ (a b : ℕ) (past : (c.args.nodes ≤ a) ⊎ (c.args.nodes ≤ b)). ap (path_through Zero) (c.requires.within a b past) in
    let so_far = c.loop-i.invariant.so_far source items in
    Makes-ok c.loop-i.table (Runs-as (ap (below (λ i. below (joins_at c.args.numbers.now i) c.args.nodes)) e) so_far.0)
    (HoldsAll-as (λ a b. ap (λ n. rows_begun (path_through_at c.args.numbers.now) n a b) e ∙ rows_begun-all (path_through_at c.args.numbers.now) c.args.nodes outside a b) so_far.1)
