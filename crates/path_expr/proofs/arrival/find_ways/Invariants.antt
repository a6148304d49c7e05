use Rattle.std.proofs.Common.{◌≡◌, ◌<◌, ◌≤◌, ℕ, None, length}
use Rattle.path_expr.specs.PathExpr.{PathExpr, star_of}
use Rattle.path_expr.specs.Elimination.{way_at}
use Rattle.path_expr.specs.Operations.{below, way_operations}
use Rattle.path_expr.specs.Runs.{Runs}
use Rattle.path_expr.specs.Holds.{IsItemOrOne, AreWays, HoldsAll, node_at}
use Rattle.path_expr.specs.Table.{cell}
use Rattle.path_expr.proofs.arrival.find_ways.Given as goal

abbrev pub invariant-loop-n : goal.invariant-loop-n
invariant-loop-n g l = record {
  counted : length l.found.items ≡ l.n;
  stars : (m : ℕ) → l.n ≤ m → cell l.stars m m ≡ cell l.fn.stars m m;
  so_far : (source : ℕ) (f : ℕ → ℕ → PathExpr) → HoldsAll g.A.Algebra.fits g.A.Algebra.spans source l.fn.algebra f l.table →
      ((m : ℕ) → 0 < m → m < l.nodes → IsItemOrOne g.A.Algebra.fits g.A.Algebra.spans l.fn.algebra (star_of (f m m)) (cell l.fn.stars m m) (node_at source m)) →
      Runs g.A.Algebra.fits g.A.Algebra.spans g.A.Algebra.ends g.A.Algebra.is_memory g.A.Algebra.faults g.A.Algebra.made g.A.Algebra.stopped
      l.fn.algebra l.algebra (below (way_operations f) l.n) None
      × AreWays g.A.Algebra.fits g.A.Algebra.spans source l.algebra (way_at f) l.found.items;
}
