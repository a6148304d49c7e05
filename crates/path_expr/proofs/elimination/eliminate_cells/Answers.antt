use Rattle.std.proofs.Common.{arith}
use Rattle.path_expr.specs.Sweeps.{step_operations, swept}
use Rattle.path_expr.proofs.RunLemmas.{Runs-then, Runs-as, Makes-exit, Makes-as, Makes-ok}
use Rattle.path_expr.proofs.HoldLemmas.{IsItem-kept}
use Rattle.path_expr.proofs.SweepLemmas.{cells-at, cells-more, step_operations-swept, below-rest}
use Rattle.path_expr.proofs.elimination.eliminate_cells.Goals as goal

pub eliminate_cell-requires-clause-holds : goal.eliminate_cell-requires-clause-holds
eliminate_cell-requires-clause-holds g c =
    let next = c.in-Some.ensures.next in
    let source = c.requires.holds.0 in let f = c.requires.holds.1 in let w = c.requires.holds.2 in
    let so_far = cells-at f w c.args.n c.args.i c.loop-j.from c.in-Some.j c.requires.above next.0 next.3 (c.loop-j.invariant.so_far source f w c.requires.holds.3 c.requires.holds.4) in
    (source, swept f w c.args.n c.args.i c.in-Some.j, w, so_far.1, IsItem-kept so_far.0.keeps c.requires.holds.4)

pub returns-in_err-eliminate_cell-clause-made : goal.returns-in_err-eliminate_cell-clause-made
returns-in_err-eliminate_cell-clause-made g c = λ source f w h k.
    let next = c.in-Some.ensures.next in
    let so_far = cells-at f w c.args.n c.args.i c.loop-j.from c.in-Some.j c.requires.above next.0 next.3 (c.loop-j.invariant.so_far source f w h k) in
    let here = c.in_err-eliminate_cell.ensures.made source (swept f w c.args.n c.args.i c.in-Some.j) w so_far.1 (IsItem-kept so_far.0.keeps k) in
    let rest = below-rest (step_operations f w c.args.n c.args.i) c.in-Some.j c.args.n next.1 in
    Makes-as rest.1 (Makes-exit c.from_residual.result rest.0 c.from_residual.ensures.1
    (Runs-then so_far.0 (Runs-as (step_operations-swept f w c.args.n c.args.i c.in-Some.j (omega (arith, c.requires.above))) here.run)))

pub loop-j-preserved : goal.loop-j-preserved
loop-j-preserved g c =
    let next = c.in-Some.ensures.next in record {
      within = let lt = next.1 in omega arith;
      places = let e = c.in_ok-eliminate_cell.ensures.places in let p = c.loop-j.invariant.places in omega arith;
      so_far = λ source f w h k.
          let so_far = cells-at f w c.args.n c.args.i c.loop-j.from c.in-Some.j c.requires.above next.0 next.3 (c.loop-j.invariant.so_far source f w h k) in
          let here = c.in_ok-eliminate_cell.ensures.made source (swept f w c.args.n c.args.i c.in-Some.j) w so_far.1 (IsItem-kept so_far.0.keeps k) in
          cells-more f w c.args.n c.args.i c.in-Some.j c.requires.above so_far.0 here.run here.good;
    }

pub returns-clause-made : goal.returns-clause-made
returns-clause-made g c = λ source f w h k.
    let so_far = cells-at f w c.args.n c.args.i c.loop-j.from c.args.n c.requires.above c.loop-j.invariant.within c.in_default.ensures.next (c.loop-j.invariant.so_far source f w h k) in
    Makes-ok tt so_far.0 so_far.1
