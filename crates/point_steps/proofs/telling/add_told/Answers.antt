use Rattle.std.proofs.Common.{◌∙◌}
use Rattle.transition_formula.proofs.Loops.{one_mapped}
use Rattle.point_steps.specs.States.{told_case}
use Rattle.point_steps.proofs.telling.add_told.Goals as goal

pub loop-case-preserved : goal.loop-case-preserved
loop-case-preserved c =
    one_mapped (told_case c.args.front.now c.args.behind.now) c.cases-case-items.result.now c.loop-case.case-index c.case-item.result c.loop-case.cases c.push.new.self c.in_ok-told_case.field-0
    c.loop-case-test.true c.case-item.is c.in_ok-told_case.ensures c.in_ok-push.ensures.ok
    ∙ c.loop-case.invariant
