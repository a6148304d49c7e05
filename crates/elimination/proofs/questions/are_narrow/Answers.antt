use Rattle.std.proofs.Common.{rules, refl, sym, subst, arith}
use Rattle.std.specs.Prelude.{IsTrue}
use Rattle.std.proofs.lemmas.List.{take_all}
use Rattle.std.proofs.lemmas.List.Elements.{All-more, All-same}
use Rattle.elimination.specs.Narrow.{IsNarrowGoal}
use Rattle.elimination.proofs.questions.are_narrow.Goals as goal

pub loop-goal-preserved : goal.loop-goal-preserved
loop-goal-preserved c =
    let narrow : IsTrue c.in_ok-is_narrow_goal.field-0 = search rules in
    All-more IsNarrowGoal c.args.goals.now c.loop-goal.goal-index c.goal-item.result (omega arith) c.loop-goal.invariant
    (subst IsNarrowGoal c.goal-item.is (c.in_ok-is_narrow_goal.ensures.0 narrow))

pub returns : goal.returns
returns c = (λ e. All-same IsNarrowGoal c.args.goals.now _ (sym (take_all c.loop-goal.goal-index c.args.goals.now (omega arith))) c.loop-goal.invariant, λ h. refl)
