use Rattle.std.proofs.Common.{◌≡◌, ◌-◌, ◌^◌, ◌+◌, ◌≤◌, length, drop, min}
use Rattle.std.specs.List.{sum_by}
use Rattle.finder.proofs.weights.goals_weight.Given as goal

abbrev pub invariant-loop-goal : goal.invariant-loop-goal
invariant-loop-goal l = (l.weight ≤ 2 ^ 64 - 1) × (min (2 ^ 64 - 1) (l.weight + sum_by (λ goal. length goal.rows) (drop l.goal-index l.goals)) ≡ min (2 ^ 64 - 1) (sum_by (λ goal. length goal.rows) l.goals))
