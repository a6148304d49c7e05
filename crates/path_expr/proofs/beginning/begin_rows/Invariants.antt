use Rattle.std.proofs.Common.{◌≡◌, ℕ, None}
use Rattle.path_expr.specs.Operations.{below}
use Rattle.path_expr.specs.Runs.{Runs}
use Rattle.path_expr.specs.Holds.{HoldsAll}
use Rattle.path_expr.specs.Numbers.{path_through_at, joins_at, AllHaveItems}
use Rattle.path_expr.specs.Sweeps.{rows_begun}
use Rattle.path_expr.specs.Table.{place_count}
use Rattle.path_expr.proofs.beginning.begin_rows.Given as goal

abbrev pub invariant-loop-i : goal.invariant-loop-i
invariant-loop-i g l = record {
  places : place_count l.table ≡ l.nodes;
  so_far : (source : ℕ) → AllHaveItems g.A.Algebra.fits g.A.Algebra.spans source l.fn.algebra l.items l.numbers →
      Runs g.A.Algebra.fits g.A.Algebra.spans g.A.Algebra.ends g.A.Algebra.is_memory g.A.Algebra.faults g.A.Algebra.made g.A.Algebra.stopped
      l.fn.algebra l.algebra (below (λ i. below (joins_at l.numbers i) l.nodes) l.i) None
      × HoldsAll g.A.Algebra.fits g.A.Algebra.spans source l.algebra (rows_begun (path_through_at l.numbers) l.i) l.table;
}
