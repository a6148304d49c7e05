use Rattle.std.proofs.Common.{◌≡◌, ◌<◌, ◌+◌, ◌-◌, suc, ◌∙◌, ap, arith, ◌++◌}
use Rattle.path_expr.specs.Elimination.{table_after}
use Rattle.path_expr.specs.Table.{cell}
use Rattle.path_expr.proofs.RunLemmas.{Runs-then, Runs-as, Makes-exit, Makes-as}
use Rattle.path_expr.proofs.SweepLemmas.{HoldsAll-as}
use Rattle.path_expr.proofs.EliminationLemmas.{table_after-more, eliminations-more, eliminations-rest, turns-more}
use Rattle.path_expr.proofs.elimination.eliminate_all.Goals as goal

pub returns-in_err-eliminate_next : goal.returns-in_err-eliminate_next
returns-in_err-eliminate_next g c = record {
  made = λ source links h.
      let so_far = c.loop-count.invariant.so_far source links h in
      let e : (c.args.nodes - 1) - c.loop-count.count ≡ c.args.nodes - suc c.loop-count.count = omega arith in
      let here = c.in_err-eliminate_next.ensures.made source (table_after c.args.nodes links source c.loop-count.count) so_far.1 in
      let rest = eliminations-rest c.args.nodes links source (c.loop-count.count + 1) (c.args.nodes - 1) (omega arith) in
      Makes-as (ap (λ x. x ++ rest.0) (eliminations-more c.args.nodes links source c.loop-count.count ((c.args.nodes - 1) - c.loop-count.count) e) ∙ rest.1)
      (Makes-exit c.from_residual.result rest.0 c.from_residual.ensures.1 (Runs-then so_far.0 here.run));
}

pub loop-count-preserved : goal.loop-count-preserved
loop-count-preserved g c =
    let n = (c.args.nodes - 1) - c.loop-count.count in
    let lt : c.loop-count.count < c.args.nodes - 1 = omega arith in
    let e : (c.args.nodes - 1) - c.loop-count.count ≡ c.args.nodes - suc c.loop-count.count = omega arith in record {
      places = c.eliminate_next.ensures.places ∙ c.loop-count.invariant.places;
      room = c.eliminate_next.ensures.star_places ∙ c.loop-count.invariant.room;
      none = λ m below. c.in_ok-eliminate_next.ensures.others m (omega arith) ∙ c.loop-count.invariant.none m (omega arith);
      so_far = λ source links h.
          let so_far = c.loop-count.invariant.so_far source links h in
          let here = c.in_ok-eliminate_next.ensures.made source (table_after c.args.nodes links source c.loop-count.count) so_far.1 in (
            Runs-as (eliminations-more c.args.nodes links source c.loop-count.count ((c.args.nodes - 1) - c.loop-count.count) e) (Runs-then so_far.0 here.run),
            HoldsAll-as (table_after-more c.args.nodes links source c.loop-count.count ((c.args.nodes - 1) - c.loop-count.count) e) here.good.0,
            turns-more c.args.nodes links source c.loop-count.count ((c.args.nodes - 1) - c.loop-count.count) (λ m. cell c.loop-count.stars m m) (λ m. cell c.eliminate_next.new.stars m m)
                (omega arith) here.run.keeps so_far.2 c.in_ok-eliminate_next.ensures.others here.good.1,
          );
    }
