use Rattle.std.proofs.Common.{◌≡◌, ◌++◌, drop}
use Rattle.std.specs.List.{flat_map}
use Rattle.leaf_cases.specs.Steps.{cases_of_step, losses_at}
use Rattle.leaf_cases.proofs.step.push_each.Given as goal

abbrev pub invariant-loop-case : goal.invariant-loop-case
invariant-loop-case l =
    record {
      made : l.made ++ flat_map (cases_of_step l.step) (drop l.case-index l.cases) ≡ l.initial.made ++ flat_map (cases_of_step l.step) l.cases;
      noted : l.losses ++ flat_map (losses_at l.step) (drop l.case-index l.cases) ≡ l.initial.losses ++ flat_map (losses_at l.step) l.cases;
    }
