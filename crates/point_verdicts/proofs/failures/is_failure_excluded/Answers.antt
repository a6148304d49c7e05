use Rattle.std.proofs.Common.{ap, refl, sym, ◌∙◌}
use Rattle.posing.proofs.Steps.{at_end, in_other_words, notes_first}
use Rattle.point_verdicts.specs.Exclusions.{failure_excluded, left_excluded}
use Rattle.point_verdicts.proofs.failures.is_failure_excluded.Goals as goal

pub returns-in-None : goal.returns-in-None
unfolding failure_excluded
returns-in-None g c =
    notes_first c.in_ok-failing_left.ensures.noted refl
    (in_other_words (ap left_excluded (sym c.in-None.is ∙ c.in_ok-failing_left.ensures.exact)) (at_end refl))

pub returns-in-Some : goal.returns-in-Some
unfolding failure_excluded
returns-in-Some g c =
    notes_first c.in_ok-failing_left.ensures.noted refl
    (in_other_words (ap left_excluded (sym c.in-Some.is ∙ c.in_ok-failing_left.ensures.exact)) c.is_refuted_twofold.ensures)
