use Rattle.std.proofs.Common.{◌≤◌, ◌-◌, ℕ, None}
use Rattle.path_expr.specs.PathExpr.{PathExpr, Zero, star_of}
use Rattle.path_expr.specs.Elimination.{arrivals, ways, way_at}
use Rattle.path_expr.specs.Operations.{arrivals_operations}
use Rattle.path_expr.specs.Runs.{Runs}
use Rattle.path_expr.specs.Holds.{IsItemOrZero, IsItemOrOne, AreWays, HoldsAll, node_at}
use Rattle.path_expr.proofs.arrival.arrive.Given as goal

abbrev pub invariant-loop-p : goal.invariant-loop-p
invariant-loop-p g l = record {
  within : l.from ≤ l.n;
  so_far : (source : ℕ) (f : ℕ → ℕ → PathExpr) → HoldsAll g.A.Algebra.fits g.A.Algebra.spans source l.fn.algebra f l.approach.table.now →
      AreWays g.A.Algebra.fits g.A.Algebra.spans source l.fn.algebra (way_at f) l.found →
      IsItemOrOne g.A.Algebra.fits g.A.Algebra.spans l.fn.algebra (star_of (f l.n l.n)) l.approach.turn.now (node_at source l.n) →
      Runs g.A.Algebra.fits g.A.Algebra.spans g.A.Algebra.ends g.A.Algebra.is_memory g.A.Algebra.faults g.A.Algebra.made g.A.Algebra.stopped
      l.fn.algebra l.algebra (arrivals_operations f l.n (ways f l.from) 0 Zero) None
      × IsItemOrZero g.A.Algebra.fits g.A.Algebra.spans l.algebra (arrivals f l.n (ways f l.from) 0 Zero) l.total (node_at source 0) (node_at source l.n);
}

abbrev pub decreases-loop-p : goal.decreases-loop-p
decreases-loop-p g l = l.n - l.from
