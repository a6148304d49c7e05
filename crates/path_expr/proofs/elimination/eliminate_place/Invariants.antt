use Rattle.std.proofs.Common.{◌≡◌, ◌≤◌, ◌-◌, ◌++◌, ℕ, None}
use Rattle.path_expr.specs.PathExpr.{PathExpr, star_of}
use Rattle.path_expr.specs.Operations.{below, star_operation, row_operations}
use Rattle.path_expr.specs.Sweeps.{rows_swept}
use Rattle.path_expr.specs.Runs.{Runs}
use Rattle.path_expr.specs.Holds.{IsItemOrOne, HoldsAll, node_at}
use Rattle.path_expr.specs.Table.{place_count}
use Rattle.path_expr.proofs.elimination.eliminate_place.Given as goal

abbrev pub invariant-loop-i : goal.invariant-loop-i
invariant-loop-i g l = record {
  within : l.from ≤ l.n;
  places : place_count l.table ≡ place_count l.fn.table;
  turn : (source : ℕ) (f : ℕ → ℕ → PathExpr) → HoldsAll g.A.Algebra.fits g.A.Algebra.spans source l.fn.algebra f l.fn.table →
      IsItemOrOne g.A.Algebra.fits g.A.Algebra.spans l.algebra (star_of (f l.n l.n)) l.turn (node_at source l.n);
  so_far : (source : ℕ) (f : ℕ → ℕ → PathExpr) → HoldsAll g.A.Algebra.fits g.A.Algebra.spans source l.fn.algebra f l.fn.table →
      Runs g.A.Algebra.fits g.A.Algebra.spans g.A.Algebra.ends g.A.Algebra.is_memory g.A.Algebra.faults g.A.Algebra.made g.A.Algebra.stopped
      l.fn.algebra l.algebra (star_operation (f l.n l.n) ++ below (row_operations f l.n) l.from) None
      × HoldsAll g.A.Algebra.fits g.A.Algebra.spans source l.algebra (rows_swept f l.n l.from) l.table;
}

abbrev pub decreases-loop-i : goal.decreases-loop-i
decreases-loop-i g l = l.n - l.from
