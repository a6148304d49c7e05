use Rattle.std.proofs.Common.{All, take}
use Rattle.farkas_check.specs.Kept.{IsCanonicalGoal}
use Rattle.farkas_check.proofs.kept.canonical_goals.Given as goal

abbrev pub invariant-loop-goal : goal.invariant-loop-goal
invariant-loop-goal l = All IsCanonicalGoal (take l.goal-index l.goals)
