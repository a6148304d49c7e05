use Rattle.std.proofs.Common.{◌≡◌, ◌++◌, map, drop}
use Rattle.std.specs.List.{flat_map}
use Rattle.transition_formula.specs.Composition.{after_case, losses_by}
use Rattle.point_steps.specs.States.{begun_case, losses_in_state, state_case, state_formula}
use Rattle.point_steps.proofs.states.state_formula.Given as goal

abbrev pub invariant-loop-case : goal.invariant-loop-case
invariant-loop-case l =
    record {
      made : l.cases ++ flat_map (λ first. map (state_case l.ends first) l.reach.cases) (drop l.case-index l.case-items) ≡ (state_formula l.ends l.entry l.reach).cases;
      noted : l.losses ++ flat_map (λ first. flat_map (λ second. losses_by (after_case (begun_case l.ends first) second) second) l.reach.cases) (drop l.case-index l.case-items) ≡ l.initial.losses ++ losses_in_state l.ends l.entry l.reach;
    }
