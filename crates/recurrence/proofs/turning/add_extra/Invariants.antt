use Rattle.std.proofs.Common.{◌≡◌, ◌++◌, take}
use Rattle.recurrence.proofs.turning.add_extra.Given as goal

abbrev pub invariant-loop-d : goal.invariant-loop-d
invariant-loop-d l = l.directions ≡ l.initial.directions ++ take l.d-index l.voc.extra
