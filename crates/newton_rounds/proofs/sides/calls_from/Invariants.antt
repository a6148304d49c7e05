use Rattle.std.proofs.Common.{◌≡◌, ◌++◌, map, drop}
use Rattle.newton_rounds.specs.Members.{calls_from, members_of}
use Rattle.newton_rounds.specs.Shapes.{plain_call}
use Rattle.newton_rounds.proofs.sides.calls_from.Given as goal

abbrev pub invariant-loop-place : goal.invariant-loop-place
invariant-loop-place l =
    map plain_call l.calls ++ calls_from l.procs l.place (members_of l.program (drop l.place l.procs)) ≡ calls_from l.procs 0 (members_of l.program l.procs)
