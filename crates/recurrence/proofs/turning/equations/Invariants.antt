use Rattle.std.proofs.Common.{◌≡◌, ◌++◌, drop}
use Rattle.std.specs.List.{filter_map, flat_map}
use Rattle.transition_formula.specs.Loss.{answer_of, losses_of}
use Rattle.recurrence.specs.Words.{row_of_term}
use Rattle.recurrence.proofs.turning.equations.Given as goal

abbrev pub invariant-loop-term : goal.invariant-loop-term
invariant-loop-term l =
    record {
      rows : l.rows ++ filter_map (λ t. answer_of (row_of_term l.monos l.modified l.moving t)) (drop l.term-index l.terms) ≡ filter_map (λ t. answer_of (row_of_term l.monos l.modified l.moving t)) l.terms;
      losses : l.losses ++ flat_map (λ t. losses_of (row_of_term l.monos l.modified l.moving t)) (drop l.term-index l.terms) ≡ flat_map (λ t. losses_of (row_of_term l.monos l.modified l.moving t)) l.terms;
    }
