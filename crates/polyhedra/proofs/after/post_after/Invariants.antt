use Rattle.std.proofs.Common.{◌≡◌, drop}
use Rattle.polyhedra.specs.Squash.{after_from}
use Rattle.polyhedra.proofs.after.post_after.Given as goal

abbrev pub invariant-loop-n : goal.invariant-loop-n
invariant-loop-n l = after_from l.one l.n (drop l.n l.modified) l.v ≡ after_from l.one 0 l.modified l.v
