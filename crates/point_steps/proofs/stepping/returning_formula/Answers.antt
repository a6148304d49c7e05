use Rattle.std.proofs.Common.{◌+◌, ◌<◌, length, map, sym, subst, ◌∙◌}
use Rattle.std.specs.List.{flat_map}
use Rattle.transition_formula.specs.Composition.{after_case, losses_by}
use Rattle.std.specs.Prelude.{All}
use Rattle.transition_formula.specs.Transition.{IsTransition, Transition}
use Rattle.transition_formula.proofs.Loops.{all_gathered, one_gathered}
use Rattle.point_steps.specs.Parts.{IsStateCase}
use Rattle.point_steps.specs.Steps.{returning_case, returning_formula, point_case}
use Rattle.point_steps.proofs.Carrying.{each-at}
use Rattle.point_steps.proofs.Making.{returned-made}
use Rattle.point_steps.proofs.StepFormulas.{each-state_case, returning-fits}
use Rattle.point_steps.proofs.stepping.returning_formula.Goals as goal

pub through_cases-requires-clause-case : goal.through_cases-requires-clause-case
through_cases-requires-clause-case c =
    each-at (IsStateCase c.args.point.columns) c.cases-case-items.result.now c.args.point.state.now.cases c.loop-case.case-index c.case-item.result
    (each-state_case c.args.point.columns c.args.point.places.now c.args.point.state.now c.requires.state) c.cases-case-items.ensures.cases c.loop-case-test.true c.case-item.is

pub with_posts-requires-clause-there : goal.with_posts-requires-clause-there
with_posts-requires-clause-there c = subst (λ (f : Transition). All (λ place. place < f.to) c.args.point.places.now) (sym c.in_ok-through.ensures.exact) c.requires.places

pub loop-case-preserved : goal.loop-case-preserved
loop-case-preserved c =
    let item = c.case-item.result in
    record {
      made =
          one_gathered (λ first. map (returning_case c.args.point.columns c.args.point.places.now first) c.args.way.now.cases) c.cases-case-items.result.now c.loop-case.case-index item c.loop-case.cases c.add_told.new.cases c.loop-case-test.true c.case-item.is
          (returned-made (point_case c.args.point.columns item) c.args.way.now c.args.point.places.now item.post c.as_slice.result.now c.as_slice.ensures c.in_ok-through.through c.in_ok-told.told c.loop-case.cases c.add_told.new.cases c.in_ok-through.ensures.exact c.in_ok-told.ensures.exact c.in_ok-add_told.ensures)
          ∙ c.loop-case.invariant.made;
      noted =
          one_gathered (λ first. flat_map (λ second. losses_by (after_case (point_case c.args.point.columns first) second) second) c.args.way.now.cases) c.cases-case-items.result.now c.loop-case.case-index item c.loop-case.losses c.through_cases.new.losses
          c.loop-case-test.true c.case-item.is c.in_ok-through.ensures.noted
          ∙ c.loop-case.invariant.noted;
    }

pub from_cases-requires : goal.from_cases-requires
from_cases-requires c =
    let made = all_gathered (λ first. map (returning_case c.args.point.columns c.args.point.places.now first) c.args.way.now.cases) c.cases-case-items.result.now c.loop-case.case-index c.loop-case.cases
    (returning_formula c.args.point.columns c.args.point.places.now c.args.point.state.now c.args.way.now).cases c.loop-case-test.false c.loop-case.invariant.made in
    subst (λ n. IsTransition 0 (n + length c.args.point.places.now) c.loop-case.cases) (sym c.to.ensures)
    (subst (IsTransition 0 (c.args.point.state.now.to + length c.args.point.places.now)) (sym made)
    (returning-fits c.args.point.columns c.args.point.places.now c.args.point.state.now c.requires.state c.args.way.now c.requires.way c.requires.places))
