use Rattle.std.proofs.Common.{◌≡◌, ◌++◌, map, drop}
use Rattle.std.specs.List.{flat_map}
use Rattle.transition_formula.specs.Composition.{sequence_of_cases, losses_by, after_case}
use Rattle.transition_formula.proofs.sequence.before_each.Given as goal

abbrev pub invariant-loop-second : goal.invariant-loop-second
invariant-loop-second l =
    record {
      made : l.cases ++ map (sequence_of_cases l.first) (drop l.second-index l.second-items) ≡ l.initial.cases ++ map (sequence_of_cases l.first) l.b.cases;
      noted : l.losses ++ flat_map (λ second. losses_by (after_case l.first second) second) (drop l.second-index l.second-items) ≡ l.initial.losses ++ flat_map (λ second. losses_by (after_case l.first second) second) l.b.cases;
    }
