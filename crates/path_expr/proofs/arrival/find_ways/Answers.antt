use Rattle.std.proofs.Common.{◌≡◌, ◌∙◌, sym, ap, subst, arith}
use Rattle.path_expr.specs.Elimination.{way_at}
use Rattle.path_expr.specs.Operations.{below, way_operations}
use Rattle.path_expr.specs.Holds.{AreWays}
use Rattle.path_expr.proofs.RunLemmas.{Runs-then, Runs-as, Makes-exit, Makes-exit_memory, Makes-as, Makes-ok}
use Rattle.path_expr.proofs.HoldLemmas.{AreWays-kept, AreWays-push}
use Rattle.path_expr.proofs.ReadyWays.{way-ready}
use Rattle.path_expr.proofs.SweepLemmas.{below-more, below-rest}
use Rattle.path_expr.proofs.arrival.find_ways.Goals as goal

pub returns-in_err-next-clause-made : goal.returns-in_err-next-clause-made
returns-in_err-next-clause-made g c = λ source f h hs.
    let so_far = c.loop-n.invariant.so_far source f h hs in
    let ready = way-ready c.loop-n.n c.args.nodes c.args.stars.now c.loop-n.stars so_far.0.keeps h hs so_far.1 c.as_slice.ensures.value c.loop-n.invariant.stars (omega arith) in
    let here = c.in_err-next.ensures.made source f ready.holds ready.ways ready.star in
    let rest = below-rest (way_operations f) c.loop-n.n c.args.nodes (omega arith) in
    Makes-as rest.1 (Makes-exit c.from_residual.result rest.0 c.from_residual.ensures.1 (Runs-then so_far.0 here.run))

pub returns-in_err-push-clause-made : goal.returns-in_err-push-clause-made
returns-in_err-push-clause-made g c = λ source f h hs.
    let so_far = c.loop-n.invariant.so_far source f h hs in
    let ready = way-ready c.loop-n.n c.args.nodes c.args.stars.now c.loop-n.stars so_far.0.keeps h hs so_far.1 c.as_slice.ensures.value c.loop-n.invariant.stars (omega arith) in
    let here = c.in_ok-next.ensures.made source f ready.holds ready.ways ready.star in
    let rest = below-rest (way_operations f) c.loop-n.n c.args.nodes (omega arith) in
    Makes-as rest.1 (Makes-exit_memory c.from_residual-in_err-push.result rest.0 c.from_residual-in_err-push.ensures.1 (Runs-then so_far.0 here.run))

pub loop-n-preserved : goal.loop-n-preserved
loop-n-preserved g c = record {
  counted = let e = c.in_ok-push.ensures.len in let n = c.loop-n.invariant.counted in omega arith;
  stars = λ m le. c.way.ensures.others m (omega arith) ∙ c.loop-n.invariant.stars m (omega arith);
  so_far = λ source f h hs.
      let so_far = c.loop-n.invariant.so_far source f h hs in
      let ready = way-ready c.loop-n.n c.args.nodes c.args.stars.now c.loop-n.stars so_far.0.keeps h hs so_far.1 c.as_slice.ensures.value c.loop-n.invariant.stars (omega arith) in
      let here = c.in_ok-next.ensures.made source f ready.holds ready.ways ready.star in (
        Runs-as (below-more (way_operations f) c.loop-n.n) (Runs-then so_far.0 here.run),
        subst (λ xs. AreWays g.A.Algebra.fits g.A.Algebra.spans source c.way.new.algebra (way_at f) xs) (sym c.in_ok-push.ensures.items)
            (AreWays-push c.loop-n.n c.in_ok-next.next c.loop-n.invariant.counted (AreWays-kept here.run.keeps so_far.1) here.good),
      );
}

pub returns-clause-made : goal.returns-clause-made
returns-clause-made g c = λ source f h hs.
    let e : c.loop-n.n ≡ c.args.nodes = omega arith in
    let so_far = c.loop-n.invariant.so_far source f h hs in
    Makes-ok c.loop-n.found (Runs-as (ap (below (way_operations f)) e) so_far.0) so_far.1
