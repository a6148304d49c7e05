use Rattle.std.proofs.Common.{◌≡◌, take}
use Rattle.syntax_tree.proofs.core_expr.copy_cores.Given as goal

abbrev pub invariant-loop-part : goal.invariant-loop-part
invariant-loop-part l = l.copies ≡ take l.part-index l.part-items
