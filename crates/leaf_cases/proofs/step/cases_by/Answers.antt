use Rattle.std.proofs.Common.{◌++◌, ◌∙◌}
use Rattle.std.specs.List.{flat_map}
use Rattle.transition_formula.proofs.Loops.{one_gathered, all_gathered}
use Rattle.leaf_cases.specs.Steps.{cases_of_step, losses_at}
use Rattle.leaf_cases.specs.Steps as steps
use Rattle.leaf_cases.proofs.StatedPolys.{default_free}
use Rattle.leaf_cases.proofs.step.cases_by.Goals as goal

pub loop-step-preserved : goal.loop-step-preserved
loop-step-preserved c =
    record {
      made =
          one_gathered (λ step. flat_map (cases_of_step step) c.args.cases.now) c.args.steps.now c.loop-step.step-index _ c.loop-step.made c.push_each.new.made
          c.loop-step-test.true (default_free c.args.steps.now c.loop-step.step-index _ _ c.loop-step-test.true) c.in_ok-push_each.ensures.made
          ∙ c.loop-step.invariant.made;
      noted =
          one_gathered (λ step. flat_map (losses_at step) c.args.cases.now) c.args.steps.now c.loop-step.step-index _ c.loop-step.losses c.push_each.new.losses
          c.loop-step-test.true (default_free c.args.steps.now c.loop-step.step-index _ _ c.loop-step-test.true) c.in_ok-push_each.ensures.noted
          ∙ c.loop-step.invariant.noted;
    }

pub returns-clause-exact : goal.returns-clause-exact
unfolding steps.cases_by
returns-clause-exact c =
    all_gathered (λ step. flat_map (cases_of_step step) c.args.cases.now) c.args.steps.now c.loop-step.step-index c.loop-step.made (flat_map (λ step. flat_map (cases_of_step step) c.args.cases.now) c.args.steps.now)
    c.loop-step-test.false c.loop-step.invariant.made

pub returns-clause-noted : goal.returns-clause-noted
unfolding steps.losses_by_steps
returns-clause-noted c =
    all_gathered (λ step. flat_map (losses_at step) c.args.cases.now) c.args.steps.now c.loop-step.step-index c.loop-step.losses (c.args.losses.now ++ flat_map (λ step. flat_map (losses_at step) c.args.cases.now) c.args.steps.now)
    c.loop-step-test.false c.loop-step.invariant.noted
