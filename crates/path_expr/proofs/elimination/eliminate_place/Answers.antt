use Rattle.std.proofs.Common.{ap, arith}
use Rattle.path_expr.specs.PathExpr.{star_of}
use Rattle.path_expr.specs.Operations.{below, row_operations}
use Rattle.path_expr.specs.Sweeps.{rows_swept}
use Rattle.path_expr.specs.Holds.{node_at}
use Rattle.path_expr.proofs.RunLemmas.{Runs-then, Runs-as, Makes-ok, Makes-as, Makes-exit}
use Rattle.path_expr.proofs.HoldLemmas.{IsItemOrOne-kept}
use Rattle.path_expr.proofs.SweepLemmas.{HoldsAll-as, rows-at, rows-more, rows-rest, rows_swept-later, rows_swept-all, row_operations-rows, place_operations-is}
use Rattle.path_expr.proofs.elimination.eliminate_place.Goals as goal

pub returns-in_err-turn-clause-made : goal.returns-in_err-turn-clause-made
returns-in_err-turn-clause-made g c = λ source f h.
    Makes-as (place_operations-is f c.args.n)
    (Makes-exit c.from_residual.result (below (row_operations f c.args.n) c.args.n) c.from_residual.ensures.1 (c.in_err-turn.ensures.made source f h).run)

pub eliminate_row-requires-clause-holds : goal.eliminate_row-requires-clause-holds
eliminate_row-requires-clause-holds g c =
    let next = c.in-Some.ensures.next in
    let source = c.requires.holds.0 in let f = c.requires.holds.1 in let h = c.requires.holds.2 in
    let so_far = rows-at f c.args.n c.loop-i.from c.in-Some.i next.0 (let lt = next.1 in omega arith) next.3 (c.loop-i.invariant.so_far source f h) in
    let same = ap star_of (rows_swept-later f c.args.n c.in-Some.i c.args.n c.args.n (let lt = next.1 in omega arith)) in (
      source,
      rows_swept f c.args.n c.in-Some.i,
      so_far.1,
      rw same (c.loop-i.invariant.turn source f h),
    )

pub returns-in_err-eliminate_row-clause-made : goal.returns-in_err-eliminate_row-clause-made
returns-in_err-eliminate_row-clause-made g c = λ source f h.
    let next = c.in-Some.ensures.next in
    let so_far = rows-at f c.args.n c.loop-i.from c.in-Some.i next.0 (let lt = next.1 in omega arith) next.3 (c.loop-i.invariant.so_far source f h) in
    let same = ap star_of (rows_swept-later f c.args.n c.in-Some.i c.args.n c.args.n (let lt = next.1 in omega arith)) in
    let here = c.in_err-eliminate_row.ensures.made source (rows_swept f c.args.n c.in-Some.i) so_far.1
    (rw same (c.loop-i.invariant.turn source f h)) in
    let rest = rows-rest f c.args.n c.in-Some.i next.1 in
    Makes-as rest.1 (Makes-exit c.from_residual-in_err-eliminate_row.result rest.0 c.from_residual-in_err-eliminate_row.ensures.1
    (Runs-then so_far.0 (Runs-as (row_operations-rows f c.args.n c.in-Some.i next.1) here.run)))

pub loop-i-preserved : goal.loop-i-preserved
loop-i-preserved g c =
    let next = c.in-Some.ensures.next in record {
      within = let lt = next.1 in omega arith;
      places = let e = c.in_ok-eliminate_row.ensures.places in let p = c.loop-i.invariant.places in omega arith;
      turn = λ source f h.
          let so_far = rows-at f c.args.n c.loop-i.from c.in-Some.i next.0 (let lt = next.1 in omega arith) next.3 (c.loop-i.invariant.so_far source f h) in
          let same = ap star_of (rows_swept-later f c.args.n c.in-Some.i c.args.n c.args.n (let lt = next.1 in omega arith)) in
          let turn = c.loop-i.invariant.turn source f h in
          let here = c.in_ok-eliminate_row.ensures.made source (rows_swept f c.args.n c.in-Some.i) so_far.1
          (rw same turn) in
          IsItemOrOne-kept here.run.keeps (star_of (f c.args.n c.args.n)) _ (node_at source c.args.n) turn;
      so_far = λ source f h.
          let so_far = rows-at f c.args.n c.loop-i.from c.in-Some.i next.0 (let lt = next.1 in omega arith) next.3 (c.loop-i.invariant.so_far source f h) in
          let same = ap star_of (rows_swept-later f c.args.n c.in-Some.i c.args.n c.args.n (let lt = next.1 in omega arith)) in
          let here = c.in_ok-eliminate_row.ensures.made source (rows_swept f c.args.n c.in-Some.i) so_far.1
          (rw same (c.loop-i.invariant.turn source f h)) in
          rows-more f c.args.n c.in-Some.i next.1 so_far.0 here.run here.good;
    }

pub returns-clause-made : goal.returns-clause-made
returns-clause-made g c = λ source f h.
    let so_far = rows-at f c.args.n c.loop-i.from c.args.n c.loop-i.invariant.within (omega arith) c.in_default.ensures.next (c.loop-i.invariant.so_far source f h) in
    Makes-as (place_operations-is f c.args.n)
    (Makes-ok _ so_far.0 (HoldsAll-as (rows_swept-all f c.args.n) so_far.1, c.loop-i.invariant.turn source f h))
