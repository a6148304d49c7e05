use Rattle.std.proofs.Common.{◌≡◌, take}
use Rattle.syntax_tree.proofs.line.+copy.Given as goal

abbrev pub invariant-copy_lines-loop-part : goal.invariant-copy_lines-loop-part
invariant-copy_lines-loop-part l = l.copies ≡ take l.part-index l.part-items
