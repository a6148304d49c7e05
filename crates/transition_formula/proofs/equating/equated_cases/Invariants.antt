use Rattle.std.proofs.Common.{◌≡◌, ◌++◌, map, drop}
use Rattle.std.specs.List.{flat_map}
use Rattle.transition_formula.specs.Equating.{equated_case, losses_in_equating, losses_in_equating_case}
use Rattle.transition_formula.proofs.equating.equated_cases.Given as goal

abbrev pub invariant-loop-case : goal.invariant-loop-case
invariant-loop-case l =
    record {
      made : l.cases ++ map (equated_case l.first l.places) (drop l.case-index l.case-items) ≡ map (equated_case l.first l.places) l.f.cases;
      noted : l.losses ++ flat_map (losses_in_equating_case l.first l.places) (drop l.case-index l.case-items) ≡ l.initial.losses ++ losses_in_equating l.first l.places l.f;
    }
