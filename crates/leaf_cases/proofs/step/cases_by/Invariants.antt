use Rattle.std.proofs.Common.{◌≡◌, ◌++◌, drop}
use Rattle.std.specs.List.{flat_map}
use Rattle.leaf_cases.specs.Steps.{cases_of_step, losses_at}
use Rattle.leaf_cases.proofs.step.cases_by.Given as goal

abbrev pub invariant-loop-step : goal.invariant-loop-step
invariant-loop-step l =
    record {
      made : l.made ++ flat_map (λ step. flat_map (cases_of_step step) l.cases) (drop l.step-index l.steps) ≡ flat_map (λ step. flat_map (cases_of_step step) l.cases) l.steps;
      noted : l.losses ++ flat_map (λ step. flat_map (losses_at step) l.cases) (drop l.step-index l.steps) ≡ l.initial.losses ++ flat_map (λ step. flat_map (losses_at step) l.cases) l.steps;
    }
