use Rattle.std.proofs.Common.{◌≡◌, ◌≤◌, ◌-◌, ℕ, None}
use Rattle.path_expr.specs.PathExpr.{PathExpr}
use Rattle.path_expr.specs.Operations.{below}
use Rattle.path_expr.specs.Sweeps.{step_operations, swept}
use Rattle.path_expr.specs.Runs.{Runs}
use Rattle.path_expr.specs.Holds.{IsItem, HoldsAll, node_at}
use Rattle.path_expr.specs.Table.{place_count}
use Rattle.path_expr.proofs.elimination.eliminate_cells.Given as goal

abbrev pub invariant-loop-j : goal.invariant-loop-j
invariant-loop-j g l = record {
  within : l.from ≤ l.n;
  places : place_count l.table ≡ place_count l.fn.table;
  so_far : (source : ℕ) (f : ℕ → ℕ → PathExpr) (w : PathExpr) → HoldsAll g.A.Algebra.fits g.A.Algebra.spans source l.fn.algebra f l.fn.table →
      IsItem g.A.Algebra.fits g.A.Algebra.spans l.fn.algebra w l.way (node_at source l.i) (node_at source l.n) →
      Runs g.A.Algebra.fits g.A.Algebra.spans g.A.Algebra.ends g.A.Algebra.is_memory g.A.Algebra.faults g.A.Algebra.made g.A.Algebra.stopped
      l.fn.algebra l.algebra (below (step_operations f w l.n l.i) l.from) None
      × HoldsAll g.A.Algebra.fits g.A.Algebra.spans source l.algebra (swept f w l.n l.i l.from) l.table;
}

abbrev pub decreases-loop-j : goal.decreases-loop-j
decreases-loop-j g l = l.n - l.from
