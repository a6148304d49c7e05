use Rattle.std.proofs.Common.{◌≡◌, map}
use Rattle.std.specs.List.{range_with_len}
use Rattle.polyhedra.specs.Squash.{change_after}
use Rattle.polyhedra.proofs.after.changes_after.Given as goal

abbrev pub invariant-loop-v : goal.invariant-loop-v
invariant-loop-v l = l.changes ≡ map (change_after l.one l.modified) (range_with_len 0 l.v)
