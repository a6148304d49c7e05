use Rattle.std.proofs.Common.{take}
use Rattle.std.specs.Prelude.{All}
use Rattle.elimination.specs.Narrow.{IsNarrowGoal}
use Rattle.elimination.proofs.questions.are_narrow.Given as goal

abbrev pub invariant-loop-goal : goal.invariant-loop-goal
invariant-loop-goal l = All IsNarrowGoal (take l.goal-index l.goals)
