use Rattle.std.proofs.Common.{◌≡◌, take}
use Rattle.syntax_tree.proofs.stmt.+copy.Given as goal

abbrev pub invariant-copy_stmts-loop-part : goal.invariant-copy_stmts-loop-part
invariant-copy_stmts-loop-part l = l.copies ≡ take l.part-index l.part-items
