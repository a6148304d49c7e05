use Rattle.std.proofs.Common.{◌<◌, ◌∷◌, [], sym, subst, arith, length}
use Rattle.path_expr.specs.PathExpr.{Edge}
use Rattle.path_expr.specs.Holds.{AreEdges}
use Rattle.path_expr.proofs.RunLemmas.{Runs-then, Runs-as, Makes-exit, Makes-exit_memory, Makes-as}
use Rattle.path_expr.proofs.TableLemmas.{slice_get_some}
use Rattle.path_expr.proofs.HoldLemmas.{AreEdges-push}
use Rattle.path_expr.proofs.SweepLemmas.{below-more, below-rest}
use Rattle.path_expr.proofs.beginning.edges.Goals as goal

pub edge-requires : goal.edge-requires
edge-requires g c =
    let lt : c.loop-number.number < length c.args.links.now = omega arith in
    let s = slice_get_some c.args.links.now c.loop-number.number lt in
    (s.0.from, s.0.to, c.loop-number.invariant.run.keeps.numbers c.loop-number.number s.0.from s.0.to (c.requires.ends c.loop-number.number s.0 s.1))

pub returns-in_err-item-clause-made : goal.returns-in_err-item-clause-made
returns-in_err-item-clause-made g c =
    let lt : c.loop-number.number < length c.args.links.now = omega arith in
    let s = slice_get_some c.args.links.now c.loop-number.number lt in
    let here = c.in_err-item.ensures.made s.0.from s.0.to (c.loop-number.invariant.run.keeps.numbers c.loop-number.number s.0.from s.0.to (c.requires.ends c.loop-number.number s.0 s.1)) in
    let rest = below-rest (λ number. Edge number ∷ []) c.loop-number.number (length c.args.links.now) lt in
    Makes-as rest.1 (Makes-exit c.from_residual.result rest.0 c.from_residual.ensures.1 (Runs-then c.loop-number.invariant.run here.run))

pub returns-in_err-push-clause-made : goal.returns-in_err-push-clause-made
returns-in_err-push-clause-made g c =
    let lt : c.loop-number.number < length c.args.links.now = omega arith in
    let s = slice_get_some c.args.links.now c.loop-number.number lt in
    let here = c.in_ok-item.ensures.made s.0.from s.0.to (c.loop-number.invariant.run.keeps.numbers c.loop-number.number s.0.from s.0.to (c.requires.ends c.loop-number.number s.0 s.1)) in
    let rest = below-rest (λ number. Edge number ∷ []) c.loop-number.number (length c.args.links.now) lt in
    Makes-as rest.1 (Makes-exit_memory c.from_residual-in_err-push.result rest.0 c.from_residual-in_err-push.ensures.1 (Runs-then c.loop-number.invariant.run here.run))

pub loop-number-preserved : goal.loop-number-preserved
loop-number-preserved g c =
    let lt : c.loop-number.number < length c.args.links.now = omega arith in
    let s = slice_get_some c.args.links.now c.loop-number.number lt in
    let run = c.loop-number.invariant.run in
    let here = c.in_ok-item.ensures.made s.0.from s.0.to (run.keeps.numbers c.loop-number.number s.0.from s.0.to (c.requires.ends c.loop-number.number s.0 s.1)) in record {
      counted = let e = c.in_ok-push.ensures.len in let n = c.loop-number.invariant.counted in omega arith;
      run = Runs-as (below-more (λ number. Edge number ∷ []) c.loop-number.number) (Runs-then run here.run);
      items = subst (λ xs. AreEdges g.A.Algebra.fits g.A.Algebra.spans c.edge.new.algebra c.args.links.now xs) (sym c.in_ok-push.ensures.items)
          (AreEdges-push c.loop-number.number c.in_ok-item.item c.loop-number.invariant.counted here.run.keeps c.loop-number.invariant.items
          (λ link e. (c.in_ok-item.ensures.made link.from link.to
          (run.keeps.numbers c.loop-number.number link.from link.to (c.requires.ends c.loop-number.number link e))).good));
    }
