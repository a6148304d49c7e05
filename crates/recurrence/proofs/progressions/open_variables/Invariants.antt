use Rattle.std.proofs.Common.{◌≡◌, ◌++◌, drop}
use Rattle.std.specs.List.{filter}
use Rattle.std.specs.Prelude.{not, ◌&&◌}
use Rattle.recurrence.specs.Progressions.{is_term}
use Rattle.recurrence.specs.Strata.{all_terms}
use Rattle.recurrence.specs.Words.{is_among}
use Rattle.recurrence.proofs.progressions.open_variables.Given as goal

abbrev pub invariant-loop-v : goal.invariant-loop-v
invariant-loop-v l =
    l.variables ++ filter (λ v. is_among l.named v && not (is_term l.movement.moving (all_terms l.strata) v)) (drop l.v-index l.movement.modified)
    ≡ filter (λ v. is_among l.named v && not (is_term l.movement.moving (all_terms l.strata) v)) l.movement.modified
