use Rattle.std.proofs.Common.{◌≡◌, ◌-◌, ◌^◌, ◌+◌, length, drop, min, List, [], subst, arith}
use Rattle.std.specs.List.{sum_by}
use Rattle.std.proofs.lemmas.List.{drop_all}
use Rattle.farkas_check.specs.declared.question.Goal.{Goal}
use Rattle.finder.proofs.weights.goals_weight.Goals as goal

pub returns : goal.returns
returns c =
    let rest : drop c.loop-goal.goal-index c.args.goals.now ≡ [] = drop_all c.loop-goal.goal-index c.args.goals.now (omega arith) in
    let ended : min (2 ^ 64 - 1) (c.loop-goal.weight + 0) ≡ min (2 ^ 64 - 1) (sum_by (λ (goal : Goal). length goal.rows) c.args.goals.now) = subst (λ (left : List Goal). min (2 ^ 64 - 1) (c.loop-goal.weight + sum_by (λ (goal : Goal). length goal.rows) left) ≡ min (2 ^ 64 - 1) (sum_by (λ (goal : Goal). length goal.rows) c.args.goals.now)) rest c.loop-goal.invariant.1 in
    omega (arith, ended, c.loop-goal.invariant.0)
