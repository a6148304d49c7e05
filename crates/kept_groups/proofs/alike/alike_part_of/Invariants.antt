use Rattle.kept_groups.proofs.AlikeSearch.{NoneBefore}
use Rattle.kept_groups.proofs.alike.alike_part_of.Given as goal

abbrev pub invariant-loop-place : goal.invariant-loop-place
invariant-loop-place l = NoneBefore l.program l.known l.planned l.kept l.place
