use Rattle.std.proofs.Common.{◌≡◌, ◌++◌, map, drop}
use Rattle.std.specs.List.{flat_map}
use Rattle.transition_formula.specs.Composition.{after_case, losses_by}
use Rattle.point_steps.specs.Steps.{losses_in_step, passing_case, passing_formula, point_case}
use Rattle.point_steps.proofs.stepping.passing_formula.Given as goal

abbrev pub invariant-loop-case : goal.invariant-loop-case
invariant-loop-case l =
    record {
      made : l.cases ++ flat_map (λ first. map (passing_case l.point.columns first) l.way.cases) (drop l.case-index l.case-items) ≡ (passing_formula l.point.columns l.point.state.now l.way).cases;
      noted : l.losses ++ flat_map (λ first. flat_map (λ second. losses_by (after_case (point_case l.point.columns first) second) second) l.way.cases) (drop l.case-index l.case-items) ≡ l.initial.losses ++ losses_in_step l.point.columns l.point.state.now l.way;
    }
