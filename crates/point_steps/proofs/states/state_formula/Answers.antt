use Rattle.std.proofs.Common.{map, sym, subst, ◌∙◌}
use Rattle.std.specs.List.{flat_map}
use Rattle.transition_formula.specs.Composition.{after_case, losses_by}
use Rattle.transition_formula.specs.Transition.{IsTransition}
use Rattle.transition_formula.proofs.Loops.{all_gathered, one_gathered}
use Rattle.point_steps.specs.States.{begun_case, state_case, state_formula}
use Rattle.point_steps.proofs.StateFormulas.{entry-case-at, state-fits}
use Rattle.point_steps.proofs.states.state_formula.Goals as goal

pub add_states-requires-clause-entry : goal.add_states-requires-clause-entry
add_states-requires-clause-entry c =
    entry-case-at c.args.ends.now c.requires.ends c.args.entry.now c.requires.entry c.cases-case-items.result.now c.cases-case-items.ensures.cases c.loop-case.case-index c.case-item.result c.loop-case-test.true c.case-item.is

pub loop-case-preserved : goal.loop-case-preserved
loop-case-preserved c =
    record {
      made =
          one_gathered (λ first. map (state_case c.args.ends.now first) c.args.reach.now.cases) c.cases-case-items.result.now c.loop-case.case-index c.case-item.result c.loop-case.cases c.add_states.new.cases
          c.loop-case-test.true c.case-item.is c.in_ok-add_states.ensures.made
          ∙ c.loop-case.invariant.made;
      noted =
          one_gathered (λ first. flat_map (λ second. losses_by (after_case (begun_case c.args.ends.now first) second) second) c.args.reach.now.cases) c.cases-case-items.result.now c.loop-case.case-index c.case-item.result c.loop-case.losses c.add_states.new.losses
          c.loop-case-test.true c.case-item.is c.in_ok-add_states.ensures.noted
          ∙ c.loop-case.invariant.noted;
    }

pub from_cases-requires : goal.from_cases-requires
from_cases-requires c =
    let ends = c.args.ends.now in
    let made = all_gathered (λ first. map (state_case ends first) c.args.reach.now.cases) c.cases-case-items.result.now c.loop-case.case-index c.loop-case.cases (state_formula ends c.args.entry.now c.args.reach.now).cases c.loop-case-test.false c.loop-case.invariant.made in
    subst (IsTransition 0 _) (sym made) (state-fits ends c.requires.ends c.args.entry.now c.args.reach.now c.requires.entry c.requires.reach)
