use Rattle.std.proofs.Common.{sym, subst, arith}
use Rattle.std.proofs.lemmas.List.{take_all}
use Rattle.std.proofs.lemmas.List.Elements.{All-more, All-same}
use Rattle.farkas_check.specs.Kept.{IsCanonicalGoal}
use Rattle.farkas_check.proofs.kept.canonical_goals.Goals as goal

pub loop-goal-preserved : goal.loop-goal-preserved
loop-goal-preserved c =
    All-more IsCanonicalGoal c.args.goals.now c.loop-goal.goal-index c.goal-item.result (omega arith) c.loop-goal.invariant
    (subst IsCanonicalGoal c.goal-item.is c.canonical_goal.ensures)

pub returns : goal.returns
returns c = All-same IsCanonicalGoal c.args.goals.now _ (sym (take_all c.loop-goal.goal-index c.args.goals.now (omega arith))) c.loop-goal.invariant
