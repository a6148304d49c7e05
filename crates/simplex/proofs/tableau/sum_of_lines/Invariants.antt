use Rattle.std.proofs.Common.{◌≡◌, drop, length, take}
use Rattle.simplex.specs.Exchange.{behind, sum_of_lines}
use Rattle.simplex.proofs.tableau.sum_of_lines.Given as goal

abbrev pub invariant-loop-i : goal.invariant-loop-i
invariant-loop-i l = (length l.made.items ≡ length l.pivot) × (behind (take l.i l.made.items) (sum_of_lines l.p (drop l.i l.made.items) l.q (drop l.i l.pivot)) ≡ sum_of_lines l.p l.fn.line l.q l.pivot)
