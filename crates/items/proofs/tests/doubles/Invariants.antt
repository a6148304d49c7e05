use Rattle.std.proofs.Common.{◌≡◌, drop}
use Rattle.items.specs.Examples.{behind, doubles_of}
use Rattle.items.proofs.tests.doubles.Given as goal

-- what is stated of the numbers that are left, behind what is made
abbrev pub invariant-loop-x : goal.invariant-loop-x
invariant-loop-x l = behind l.made (doubles_of (drop l.x-index l.numbers)) ≡ doubles_of l.numbers
