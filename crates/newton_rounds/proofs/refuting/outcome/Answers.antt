use Rattle.std.proofs.Common.{refl, sym, ap, ◌∙◌}
use Rattle.posing.proofs.Steps.{at_end, in_other_words, notes_first}
use Rattle.newton_rounds.specs.Candidates.{limit_notes, outcome_by}
use Rattle.newton_rounds.proofs.refuting.outcome.Goals as goal

pub returns-in-Some : goal.returns-in-Some
returns-in-Some g c =
    in_other_words (ap (λ point. outcome_by point c.args.found.limits) (sym c.in-Some.is))
    (notes_first c.in_ok-add_notes-in-Some.ensures (c.in_ok-notes-in-Some.ensures ∙ ap limit_notes c.as_slice.ensures) (at_end refl))
