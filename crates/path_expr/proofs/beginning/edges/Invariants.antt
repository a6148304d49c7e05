use Rattle.std.proofs.Common.{◌≡◌, ◌∷◌, [], None, length}
use Rattle.path_expr.specs.PathExpr.{Edge}
use Rattle.path_expr.specs.Operations.{below}
use Rattle.path_expr.specs.Runs.{Runs}
use Rattle.path_expr.specs.Holds.{AreEdges}
use Rattle.path_expr.proofs.beginning.edges.Given as goal

abbrev pub invariant-loop-number : goal.invariant-loop-number
invariant-loop-number g l = record {
  counted : length l.items.items ≡ l.number;
  run : Runs g.A.Algebra.fits g.A.Algebra.spans g.A.Algebra.ends g.A.Algebra.is_memory g.A.Algebra.faults g.A.Algebra.made g.A.Algebra.stopped
      l.fn.algebra l.algebra (below (λ number. Edge number ∷ []) l.number) None;
  items : AreEdges g.A.Algebra.fits g.A.Algebra.spans l.algebra l.links l.items.items;
}
