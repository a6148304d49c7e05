use Rattle.std.proofs.Common.{◌∙◌}
use Rattle.transition_formula.proofs.Loops.{one_mapped}
use Rattle.leaf_cases.proofs.Guards.{all_mapped}
use Rattle.context.specs.Verdicts.{extended_case}
use Rattle.context.proofs.extending.extended_cases.Goals as goal

pub loop-case-preserved : goal.loop-case-preserved
loop-case-preserved c =
    one_mapped (extended_case c.args.more) c.args.cases.now c.loop-case.case-index c.case-item.result c.loop-case.made c.push.new.self c.in_ok-extended_case.field-0
    c.loop-case-test.true c.case-item.is c.in_ok-extended_case.ensures c.in_ok-push.ensures.ok
    ∙ c.loop-case.invariant

pub returns : goal.returns
returns c = all_mapped (extended_case c.args.more) c.args.cases.now c.loop-case.case-index c.loop-case.made c.loop-case-test.false c.loop-case.invariant
