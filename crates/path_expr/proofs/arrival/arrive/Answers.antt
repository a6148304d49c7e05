use Rattle.std.proofs.Common.{◌+◌, ◌++◌, ◌∙◌, ap, subst, arith}
use Rattle.path_expr.specs.PathExpr.{Zero}
use Rattle.path_expr.specs.Elimination.{arrivals, ways, way_at}
use Rattle.path_expr.specs.Holds.{IsItemOrZero, node_at}
use Rattle.path_expr.proofs.RunLemmas.{Runs-then, Runs-as, Makes-exit, Makes-as, Makes-ok}
use Rattle.path_expr.proofs.ArrivalLemmas.{arrivals-at, arrivals-more, arrivals_operations-more, arrivals_operations-rest}
use Rattle.path_expr.proofs.ReadyWays.{arrival-ready}
use Rattle.path_expr.proofs.arrival.arrive.Goals as goal

pub arrive_by-requires : goal.arrive_by-requires
arrive_by-requires g c =
    let next = c.in-Some.ensures.next in
    let given = c.requires.holds in
    let so_far = arrivals-at given.1 c.args.n c.loop-p.from c.in-Some.p c.loop-p.total given.2 next.0 next.3 (c.loop-p.invariant.so_far given.0 given.1 given.2 given.3 given.4) in
    let ready = arrival-ready c.args.n c.in-Some.p c.args.approach.now.turn.now so_far.0.keeps given.2 given.3 given.4 c.index-found-p.is (omega (arith, next.1, c.requires.below)) in
    (given.0, given.1, way_at given.1 c.in-Some.p, arrivals given.1 c.args.n (ways given.1 c.in-Some.p) 0 Zero, ready.holds, ready.way_is, ready.turns, so_far.1)

pub returns-in_err-total : goal.returns-in_err-total
returns-in_err-total g c = record {
  made = λ source f h hw ht.
      let next = c.in-Some.ensures.next in
      let so_far = arrivals-at f c.args.n c.loop-p.from c.in-Some.p c.loop-p.total h next.0 next.3 (c.loop-p.invariant.so_far source f h hw ht) in
      let ready = arrival-ready c.args.n c.in-Some.p c.args.approach.now.turn.now so_far.0.keeps h hw ht c.index-found-p.is (omega (arith, next.1, c.requires.below)) in
      let here = c.in_err-total.ensures.made source f (way_at f c.in-Some.p) (arrivals f c.args.n (ways f c.in-Some.p) 0 Zero) ready.holds ready.way_is ready.turns so_far.1 in
      let rest = arrivals_operations-rest f c.args.n (c.in-Some.p + 1) c.args.n (let lt = next.1 in omega arith) in
      Makes-as (ap (λ x. x ++ rest.0) (arrivals_operations-more f c.args.n c.in-Some.p) ∙ rest.1)
      (Makes-exit c.from_residual.result rest.0 c.from_residual.ensures.1 (Runs-then so_far.0 here.run));
}

pub loop-p-preserved : goal.loop-p-preserved
loop-p-preserved g c =
    let next = c.in-Some.ensures.next in record {
      within = let lt = next.1 in omega arith;
      so_far = λ source f h hw ht.
          let so_far = arrivals-at f c.args.n c.loop-p.from c.in-Some.p c.loop-p.total h next.0 next.3 (c.loop-p.invariant.so_far source f h hw ht) in
          let ready = arrival-ready c.args.n c.in-Some.p c.args.approach.now.turn.now so_far.0.keeps h hw ht c.index-found-p.is (omega (arith, next.1, c.requires.below)) in
          let here = c.in_ok-total.ensures.made source f (way_at f c.in-Some.p) (arrivals f c.args.n (ways f c.in-Some.p) 0 Zero) ready.holds ready.way_is ready.turns so_far.1 in (
            Runs-as (arrivals_operations-more f c.args.n c.in-Some.p) (Runs-then so_far.0 here.run),
            subst (λ x. IsItemOrZero g.A.Algebra.fits g.A.Algebra.spans c.arrive_by.new.algebra x c.in_ok-total.total (node_at source 0) (node_at source c.args.n))
                (arrivals-more f c.args.n c.in-Some.p) here.good,
          );
    }

pub returns : goal.returns
returns g c = record {
  made = λ source f h hw ht.
      let so_far = arrivals-at f c.args.n c.loop-p.from c.args.n c.loop-p.total h c.loop-p.invariant.within c.in_default.ensures.next (c.loop-p.invariant.so_far source f h hw ht) in
      Makes-ok c.loop-p.total so_far.0 so_far.1;
}
