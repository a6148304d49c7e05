use Rattle.std.proofs.Common.{◌≡◌, Ok}
use Rattle.replay.specs.Chosen.{chosen}
use Rattle.replay.specs.Follow.{reached_state}
use Rattle.replay.proofs.turns.Run.finish.Given as goal

abbrev pub invariant-loop-steps : goal.invariant-loop-steps
invariant-loop-steps l = chosen l.program l.values l.steps ≡ Ok (reached_state l.self)
