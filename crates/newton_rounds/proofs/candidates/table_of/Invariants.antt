use Rattle.std.proofs.Common.{◌≡◌, ◌++◌, drop}
use Rattle.newton_rounds.specs.Candidates.{table_of}
use Rattle.newton_rounds.proofs.candidates.table_of.Given as goal

abbrev pub invariant-loop-place : goal.invariant-loop-place
invariant-loop-place l = l.table ++ table_of (drop l.place l.members) (drop l.place l.candidates) ≡ table_of l.members l.candidates
