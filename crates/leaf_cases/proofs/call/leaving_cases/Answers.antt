use Rattle.std.proofs.Common.{◌++◌, take, drop, ◌∙◌}
use Rattle.leaf_cases.specs.Edges.{posts_with_value}
use Rattle.leaf_cases.specs.Guard.{with_posts}
use Rattle.leaf_cases.specs.Steps.{operand}
use Rattle.transition_formula.proofs.Loops.{one_mapped}
use Rattle.leaf_cases.proofs.Guards.{all_mapped}
use Rattle.leaf_cases.proofs.call.leaving_cases.Goals as goal

pub loop-case-preserved : goal.loop-case-preserved
loop-case-preserved c =
    one_mapped (λ case. with_posts (posts_with_value c.args.into (operand c.args.globals case) (take c.args.globals case.post ++ drop c.args.globals c.args.same.now)) case) c.args.cases.now c.loop-case.case-index c.case-item.result c.loop-case.made c.push.new.self c.in_ok-leaving_case.field-0
    c.loop-case-test.true c.case-item.is c.in_ok-leaving_case.ensures c.in_ok-push.ensures.ok
    ∙ c.loop-case.invariant

pub returns : goal.returns
returns c = all_mapped (λ case. with_posts (posts_with_value c.args.into (operand c.args.globals case) (take c.args.globals case.post ++ drop c.args.globals c.args.same.now)) case) c.args.cases.now c.loop-case.case-index c.loop-case.made c.loop-case-test.false c.loop-case.invariant
