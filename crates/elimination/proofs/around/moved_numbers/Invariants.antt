use Rattle.std.proofs.Common.{◌≡◌, ◌++◌, drop}
use Rattle.elimination.specs.Moves.{numbers_moved_from}
use Rattle.elimination.proofs.around.moved_numbers.Given as goal

abbrev pub invariant-loop-j : goal.invariant-loop-j
invariant-loop-j l = l.made ++ numbers_moved_from l.over l.place l.j (drop l.j l.numbers) ≡ numbers_moved_from l.over l.place 0 l.numbers
