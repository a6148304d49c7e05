use Rattle.std.proofs.Common.{◌≡◌, ◌≤◌, ◌-◌, ℕ, None}
use Rattle.path_expr.specs.PathExpr.{PathExpr, Zero}
use Rattle.path_expr.specs.Operations.{below}
use Rattle.path_expr.specs.Runs.{Runs}
use Rattle.path_expr.specs.Holds.{HoldsAll}
use Rattle.path_expr.specs.Numbers.{path_through_at, joins_at, AllHaveItems}
use Rattle.path_expr.specs.Sweeps.{row_written}
use Rattle.path_expr.specs.Table.{place_count}
use Rattle.path_expr.proofs.beginning.begin_row.Given as goal

abbrev pub invariant-loop-j : goal.invariant-loop-j
invariant-loop-j g l = record {
  within : l.from ≤ l.nodes;
  places : place_count l.table ≡ l.nodes;
  so_far : (source : ℕ) (f : ℕ → ℕ → PathExpr) → AllHaveItems g.A.Algebra.fits g.A.Algebra.spans source l.fn.algebra l.items l.numbers →
      HoldsAll g.A.Algebra.fits g.A.Algebra.spans source l.fn.algebra f l.fn.table → ((j : ℕ) → f l.i j ≡ Zero) →
      Runs g.A.Algebra.fits g.A.Algebra.spans g.A.Algebra.ends g.A.Algebra.is_memory g.A.Algebra.faults g.A.Algebra.made g.A.Algebra.stopped
      l.fn.algebra l.algebra (below (joins_at l.numbers l.i) l.from) None
      × HoldsAll g.A.Algebra.fits g.A.Algebra.spans source l.algebra (row_written f l.i l.from (path_through_at l.numbers l.i)) l.table;
}

abbrev pub decreases-loop-j : goal.decreases-loop-j
decreases-loop-j g l = l.nodes - l.from
