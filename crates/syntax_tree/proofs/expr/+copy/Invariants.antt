use Rattle.std.proofs.Common.{◌≡◌, take}
use Rattle.syntax_tree.proofs.expr.+copy.Given as goal

abbrev pub invariant-copy_exprs-loop-part : goal.invariant-copy_exprs-loop-part
invariant-copy_exprs-loop-part l = l.copies ≡ take l.part-index l.part-items
