use Rattle.std.proofs.Common.{◌≡◌, drop}
use Rattle.alike_groups.specs.Tests.{stand_once}
use Rattle.alike_groups.proofs.callees.stand_once.Given as goal

abbrev pub invariant-loop-place : goal.invariant-loop-place
invariant-loop-place l = stand_once l.numbers ≡ stand_once (drop l.place l.numbers)
