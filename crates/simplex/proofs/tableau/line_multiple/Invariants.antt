use Rattle.std.proofs.Common.{◌≡◌, drop, length, take}
use Rattle.simplex.specs.Exchange.{behind, line_multiple}
use Rattle.simplex.proofs.tableau.line_multiple.Given as goal

abbrev pub invariant-loop-i : goal.invariant-loop-i
invariant-loop-i l = (length l.made.items ≡ length l.line) × (behind (take l.i l.made.items) (line_multiple (drop l.i l.line) l.by) ≡ line_multiple l.line l.by)
