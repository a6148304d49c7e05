use Rattle.std.proofs.Common.{◌≡◌, ◌+◌, ◌<◌, ◌≤◌, ℕ, List, None}
use Rattle.path_expr.specs.declared.link.Link.{Link}
use Rattle.path_expr.specs.PathExpr.{star_of}
use Rattle.path_expr.specs.Elimination.{first_table, table_after}
use Rattle.path_expr.specs.Operations.{eliminations}
use Rattle.path_expr.specs.Runs.{Runs}
use Rattle.path_expr.specs.Holds.{IsItemOrOne, HoldsAll, node_at}
use Rattle.path_expr.specs.Table.{cell, place_count}
use Rattle.path_expr.proofs.elimination.eliminate_all.Given as goal

abbrev pub invariant-loop-count : goal.invariant-loop-count
invariant-loop-count g l = record {
  places : place_count l.table ≡ l.nodes;
  room : place_count l.stars ≡ l.nodes;
  none : (m : ℕ) → m + l.count < l.nodes → cell l.stars m m ≡ None;
  so_far : (source : ℕ) (links : List Link) → HoldsAll g.A.Algebra.fits g.A.Algebra.spans source l.fn.algebra (first_table links source) l.fn.table →
      Runs g.A.Algebra.fits g.A.Algebra.spans g.A.Algebra.ends g.A.Algebra.is_memory g.A.Algebra.faults g.A.Algebra.made g.A.Algebra.stopped
      l.fn.algebra l.algebra (eliminations l.nodes links source l.count) None
      × HoldsAll g.A.Algebra.fits g.A.Algebra.spans source l.algebra (table_after l.nodes links source l.count) l.table
      × ((m : ℕ) → l.nodes ≤ m + l.count → m < l.nodes →
      IsItemOrOne g.A.Algebra.fits g.A.Algebra.spans l.algebra (star_of (table_after l.nodes links source l.count m m)) (cell l.stars m m) (node_at source m));
}
