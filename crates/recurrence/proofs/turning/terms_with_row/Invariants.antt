use Rattle.std.proofs.Common.{◌≡◌}
use Rattle.std.specs.List.{filter}
use Rattle.recurrence.specs.Star.{past_third, is_none_or_lost}
use Rattle.recurrence.proofs.turning.terms_with_row.Given as goal

abbrev pub invariant-loop-term : goal.invariant-loop-term
invariant-loop-term l = l.left ≡ filter (λ t. is_none_or_lost (past_third l.monos t)) l.yielded
