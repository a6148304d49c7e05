use Rattle.std.proofs.Common.{ℕ, None, take}
use Rattle.path_expr.specs.PathExpr.{Zero}
use Rattle.path_expr.specs.Elimination.{path_through}
use Rattle.path_expr.specs.Operations.{join_operations}
use Rattle.path_expr.specs.Runs.{Runs}
use Rattle.path_expr.specs.Holds.{IsItemOrZero}
use Rattle.path_expr.specs.Numbers.{HaveItems}
use Rattle.path_expr.proofs.beginning.first_cell.Given as goal

abbrev pub invariant-loop-number : goal.invariant-loop-number
invariant-loop-number g l = (from to : ℕ) → HaveItems g.A.Algebra.fits g.A.Algebra.spans l.fn.algebra l.items l.numbers from to →
    Runs g.A.Algebra.fits g.A.Algebra.spans g.A.Algebra.ends g.A.Algebra.is_memory g.A.Algebra.faults g.A.Algebra.made g.A.Algebra.stopped
    l.fn.algebra l.algebra (join_operations Zero (take l.number-index l.numbers)) None
    × IsItemOrZero g.A.Algebra.fits g.A.Algebra.spans l.algebra (path_through Zero (take l.number-index l.numbers)) l.total from to
