use Rattle.std.proofs.Common.{◌≡◌, map}
use Rattle.std.specs.List.{range_with_len}
use Rattle.polyhedra.specs.Squash.{after_from}
use Rattle.polyhedra.proofs.after.posts_after.Given as goal

abbrev pub invariant-loop-v : goal.invariant-loop-v
invariant-loop-v l = l.posts ≡ map (after_from l.one 0 l.modified) (range_with_len 0 l.v)
