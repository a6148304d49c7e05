use Rattle.std.proofs.Common.{◌≡◌, ◌++◌, drop}
use Rattle.simplex.specs.Wider.{widened_numbers}
use Rattle.simplex.proofs.widening.widened_numbers.Given as goal

abbrev pub invariant-loop-mono : goal.invariant-loop-mono
invariant-loop-mono l = l.made ++ widened_numbers (drop l.place l.own) (drop l.mono-index l.wider) (drop l.place l.numbers) ≡ widened_numbers l.own l.wider l.numbers
