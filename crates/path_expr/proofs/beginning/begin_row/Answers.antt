use Rattle.std.proofs.Common.{◌∙◌, arith}
use Rattle.path_expr.specs.Sweeps.{row_written}
use Rattle.path_expr.specs.Numbers.{path_through_at, joins_at}
use Rattle.path_expr.proofs.RunLemmas.{Runs-then, Makes-exit, Makes-as, Makes-ok}
use Rattle.path_expr.proofs.SweepLemmas.{below-rest}
use Rattle.path_expr.proofs.FirstLemmas.{AllHaveItems-kept, begun-at, begun-more, row_written-here}
use Rattle.path_expr.proofs.beginning.begin_row.Goals as goal

pub begin_cell-requires-clause-links : goal.begin_cell-requires-clause-links
begin_cell-requires-clause-links g c =
    let so_far = c.loop-j.invariant.so_far c.requires.holds.0 c.requires.holds.1 c.requires.holds.2 c.requires.holds.3 c.requires.holds.4 in
    (c.requires.holds.0, AllHaveItems-kept so_far.0.keeps c.requires.holds.2)

pub returns-in_err-begin_cell-clause-made : goal.returns-in_err-begin_cell-clause-made
returns-in_err-begin_cell-clause-made g c = λ source f items h holds_no.
    let next = c.in-Some.ensures.next in
    let so_far = begun-at f c.args.numbers.now c.args.i c.loop-j.from c.in-Some.j next.0 holds_no next.3 (c.loop-j.invariant.so_far source f items h holds_no) in
    let here = c.in_err-begin_cell.ensures.made source (row_written f c.args.i c.in-Some.j (path_through_at c.args.numbers.now c.args.i)) (AllHaveItems-kept so_far.0.keeps items) so_far.1
    (row_written-here f c.args.i c.in-Some.j (path_through_at c.args.numbers.now c.args.i) ∙ holds_no c.in-Some.j) in
    let rest = below-rest (joins_at c.args.numbers.now c.args.i) c.in-Some.j c.args.nodes next.1 in
    Makes-as rest.1 (Makes-exit c.from_residual.result rest.0 c.from_residual.ensures.1 (Runs-then so_far.0 here.run))

pub loop-j-preserved : goal.loop-j-preserved
loop-j-preserved g c =
    let next = c.in-Some.ensures.next in record {
      within = let lt = next.1 in omega arith;
      places = let e = c.in_ok-begin_cell.ensures.places in let p = c.loop-j.invariant.places in omega arith;
      so_far = λ source f items h holds_no.
          let so_far = begun-at f c.args.numbers.now c.args.i c.loop-j.from c.in-Some.j next.0 holds_no next.3 (c.loop-j.invariant.so_far source f items h holds_no) in
          let here = c.in_ok-begin_cell.ensures.made source (row_written f c.args.i c.in-Some.j (path_through_at c.args.numbers.now c.args.i)) (AllHaveItems-kept so_far.0.keeps items) so_far.1
          (row_written-here f c.args.i c.in-Some.j (path_through_at c.args.numbers.now c.args.i) ∙ holds_no c.in-Some.j) in
          begun-more f c.args.numbers.now c.args.i c.in-Some.j so_far.0 here.run here.good;
    }

pub returns-clause-made : goal.returns-clause-made
returns-clause-made g c = λ source f items h holds_no.
    let so_far = begun-at f c.args.numbers.now c.args.i c.loop-j.from c.args.nodes c.loop-j.invariant.within holds_no c.in_default.ensures.next (c.loop-j.invariant.so_far source f items h holds_no) in
    Makes-ok tt so_far.0 so_far.1
