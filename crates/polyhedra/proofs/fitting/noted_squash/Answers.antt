use Rattle.std.proofs.Common.{[], ◌∷◌, length, refl, ◌∙◌}
use Rattle.posing.proofs.Following.{stops}
use Rattle.posing.proofs.Steps.{notes_first}
use Rattle.posing.specs.declared.note.Note.TheVariants.{Squash}
use Rattle.polyhedra.specs.Finish.{told_count}
use Rattle.polyhedra.specs.Squash.{noted_squash}
use Rattle.polyhedra.proofs.fitting.noted_squash.Goals as goal

pub squash-requires : goal.squash-requires
squash-requires g c = c.requires

pub returns-in_err-notes : goal.returns-in_err-notes
returns-in_err-notes g c = stops _ _ _ _ _ _ refl c.from_residual.ensures.1

pub returns-in_err-add_notes : goal.returns-in_err-add_notes
returns-in_err-add_notes g c = stops _ _ _ _ _ _ c.in_err-add_notes.ensures c.from_residual-in_err-add_notes.ensures.1

pub returns : goal.returns
unfolding noted_squash
returns g c =
    notes_first c.in_ok-add_notes.ensures (c.in_ok-notes.ensures ∙ (λ i. Squash (told_count (length (c.cases.ensures.cases i))) ∷ [])) c.squash.ensures
