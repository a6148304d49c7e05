use Rattle.std.proofs.Common.{◌≡◌}
use Rattle.point_induction.specs.Heads.{marked_numbers}
use Rattle.point_induction.proofs.marks.marked_numbers.Given as goal

abbrev pub invariant-loop-number : goal.invariant-loop-number
invariant-loop-number l = l.numbers ≡ marked_numbers l.number l.marks
