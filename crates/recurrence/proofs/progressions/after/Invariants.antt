use Rattle.std.proofs.Common.{◌≡◌, drop}
use Rattle.recurrence.specs.Star.{after_from}
use Rattle.recurrence.proofs.progressions.after.Given as goal

abbrev pub invariant-loop-n : goal.invariant-loop-n
invariant-loop-n l = after_from l.n (drop l.n l.modified) l.v ≡ after_from 0 l.modified l.v
