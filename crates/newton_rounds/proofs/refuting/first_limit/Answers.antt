use Rattle.std.proofs.Common.{refl, ap, ◌∙◌}
use Rattle.posing.proofs.Steps.{at_end, in_other_words, notes_first}
use Rattle.newton_rounds.specs.Candidates.{limit_notes}
use Rattle.newton_rounds.proofs.RowRefutations.{first-told, others-are}
use Rattle.newton_rounds.proofs.refuting.first_limit.Goals as goal

pub returns-in_ok-add_notes-in-len1-up : goal.returns-in_ok-add_notes-in-len1-up
returns-in_ok-add_notes-in-len1-up g c =
    in_other_words (first-told c.args.limits.now _ c.in-len1-up.len_at_least)
    (notes_first c.in_ok-add_notes-in-len1-up.ensures (c.in_ok-notes-in-len1-up.ensures ∙ ap limit_notes (others-are c.args.limits.now)) (at_end refl))
