use Rattle.std.proofs.Common.{◌≡◌, ◌++◌, map, drop}
use Rattle.recurrence.specs.Products.{sequence_of}
use Rattle.recurrence.proofs.growing.sequences_of.Given as goal

abbrev pub invariant-loop-mono : goal.invariant-loop-mono
invariant-loop-mono l = l.made ++ map (sequence_of l.next) (drop l.mono-index l.monos) ≡ map (sequence_of l.next) l.monos
