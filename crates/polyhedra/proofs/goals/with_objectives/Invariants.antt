use Rattle.std.proofs.Common.{◌≡◌}
use Rattle.polyhedra.specs.Kept.{with_objectives}
use Rattle.polyhedra.proofs.GoalObjectives.{put_from}
use Rattle.polyhedra.proofs.goals.with_objectives.Given as goal

abbrev pub invariant-loop-goal : goal.invariant-loop-goal
invariant-loop-goal l = put_from l.goal-index l.objectives.rest.items l.goal-items ≡ with_objectives l.fn.goals l.fn.objectives
