use Rattle.std.proofs.Common.{◌≡◌, length}
use Rattle.recurrence.specs.Progressions.{is_alone}
use Rattle.recurrence.proofs.progressions.is_alone.Given as goal

abbrev pub invariant-loop-u : goal.invariant-loop-u
invariant-loop-u l = is_alone l.variables l.numbers l.v ≡ is_alone l.fn.variables l.fn.numbers l.v

abbrev pub decreases-loop-u : goal.decreases-loop-u
decreases-loop-u l = length l.numbers
