use Rattle.std.proofs.Common.{◌≡◌, ◌++◌, map, drop}
use Rattle.std.specs.List.{flat_map}
use Rattle.transition_formula.specs.Composition.{sequence_of_cases, losses_by, after_case, sequence_of, losses_in_sequence}
use Rattle.transition_formula.proofs.sequence.sequence_formula.Given as goal

abbrev pub invariant-loop-first : goal.invariant-loop-first
invariant-loop-first l =
    record {
      made : l.cases ++ flat_map (λ first. map (sequence_of_cases first) l.b.cases) (drop l.first-index l.first-items) ≡ (sequence_of l.a l.b).cases;
      noted : l.losses ++ flat_map (λ first. flat_map (λ second. losses_by (after_case first second) second) l.b.cases) (drop l.first-index l.first-items) ≡ l.initial.losses ++ losses_in_sequence l.a l.b;
    }
