use Rattle.std.proofs.Common.{◌+◌, ◌++◌, ◌≤◌, [], length, map, take, ap, sym, subst, ◌∙◌}
use Rattle.std.specs.List.{flat_map}
use Rattle.transition_formula.specs.Composition.{after_case, losses_by}
use Rattle.transition_formula.specs.Transition.{IsTransition}
use Rattle.transition_formula.proofs.Loops.{all_gathered, one_gathered}
use Rattle.point_steps.specs.Parts.{IsStateCase}
use Rattle.point_steps.specs.States.{told_case}
use Rattle.point_steps.specs.Steps.{passing_case, passing_formula, point_case, through_case}
use Rattle.point_steps.proofs.Carrying.{each-at}
use Rattle.point_steps.proofs.Making.{told-made}
use Rattle.point_steps.proofs.StepFormulas.{each-state_case, passing-fits}
use Rattle.point_steps.proofs.stepping.passing_formula.Goals as goal

pub through_cases-requires-clause-case : goal.through_cases-requires-clause-case
through_cases-requires-clause-case c =
    each-at (IsStateCase c.args.point.columns) c.cases-case-items.result.now c.args.point.state.now.cases c.loop-case.case-index c.case-item.result
    (each-state_case c.args.point.columns c.args.point.places.now c.args.point.state.now c.requires.state) c.cases-case-items.ensures.cases c.loop-case-test.true c.case-item.is

pub first_of-front-requires : goal.first_of-front-requires
first_of-front-requires c =
    subst (λ posts. c.args.point.columns ≤ length posts) (sym c.as_slice.ensures)
    (each-at (IsStateCase c.args.point.columns) c.cases-case-items.result.now c.args.point.state.now.cases c.loop-case.case-index c.case-item.result
    (each-state_case c.args.point.columns c.args.point.places.now c.args.point.state.now c.requires.state) c.cases-case-items.ensures.cases c.loop-case-test.true c.case-item.is).long

pub loop-case-preserved : goal.loop-case-preserved
loop-case-preserved c =
    let item = c.case-item.result in
    record {
      made =
          one_gathered (λ first. map (passing_case c.args.point.columns first) c.args.way.now.cases) c.cases-case-items.result.now c.loop-case.case-index item c.loop-case.cases c.add_told.new.cases c.loop-case-test.true c.case-item.is
          (told-made (point_case c.args.point.columns item) c.args.way.now c.first_of-front.result.now [] c.in_ok-through.through c.loop-case.cases c.add_told.new.cases c.in_ok-through.ensures.exact c.in_ok-add_told.ensures
          ∙ (λ i. c.loop-case.cases ++ map (λ case. told_case ((c.first_of-front.ensures ∙ ap (take c.args.point.columns) c.as_slice.ensures) i) [] (through_case c.args.point.columns item case)) c.args.way.now.cases))
          ∙ c.loop-case.invariant.made;
      noted =
          one_gathered (λ first. flat_map (λ second. losses_by (after_case (point_case c.args.point.columns first) second) second) c.args.way.now.cases) c.cases-case-items.result.now c.loop-case.case-index item c.loop-case.losses c.through_cases.new.losses
          c.loop-case-test.true c.case-item.is c.in_ok-through.ensures.noted
          ∙ c.loop-case.invariant.noted;
    }

pub from_cases-requires : goal.from_cases-requires
from_cases-requires c =
    let made = all_gathered (λ first. map (passing_case c.args.point.columns first) c.args.way.now.cases) c.cases-case-items.result.now c.loop-case.case-index c.loop-case.cases (passing_formula c.args.point.columns c.args.point.state.now c.args.way.now).cases
    c.loop-case-test.false c.loop-case.invariant.made in
    subst (λ n. IsTransition 0 (c.args.point.columns + n) c.loop-case.cases) (sym c.to.ensures)
    (subst (IsTransition 0 (c.args.point.columns + c.args.way.now.to)) (sym made) (passing-fits c.args.point.columns c.args.point.places.now c.args.point.state.now c.requires.state c.args.way.now c.requires.way))
