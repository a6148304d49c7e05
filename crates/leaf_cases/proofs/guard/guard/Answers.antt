use Rattle.std.proofs.Common.{ap, ◌∙◌}
use Rattle.leaf_cases.specs.Guard.{columns_of, with_posts}
use Rattle.transition_formula.proofs.Loops.{one_mapped}
use Rattle.leaf_cases.proofs.Guards.{guard_fits, all_mapped}
use Rattle.leaf_cases.proofs.guard.guard.Goals as goal

pub loop-case-preserved : goal.loop-case-preserved
loop-case-preserved c =
    one_mapped (with_posts (columns_of c.args.columns)) c.args.cases.now c.loop-case.case-index c.case-item.result c.loop-case.made c.push.new.self c.in_ok-with_posts.field-0
    c.loop-case-test.true c.case-item.is (c.in_ok-with_posts.ensures ∙ ap (λ post. with_posts post c.case-item.result) c.in_ok-post.ensures) c.in_ok-push.ensures.ok
    ∙ c.loop-case.invariant

pub formula-requires : goal.formula-requires
formula-requires c =
    guard_fits c.args.columns c.args.cases.now c.loop-case.made c.requires
    (all_mapped (with_posts (columns_of c.args.columns)) c.args.cases.now c.loop-case.case-index c.loop-case.made c.loop-case-test.false c.loop-case.invariant)
