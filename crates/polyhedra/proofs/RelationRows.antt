-- The rows of relations, whose losses are noted together.
use Rattle.std.proofs.Common.{◌≡◌, List, [], ◌∷◌, ◌++◌, Option, None, Some, Ok, refl, sym, ap, subst, ◌∙◌, append_assoc, append-nil}
use Rattle.std.specs.Prelude.{option_to_list}
use Rattle.std.specs.List.{cons_option}
use Rattle.std.proofs.lemmas.List.{map-append}
use Rattle.farkas_check.specs.Asking.{Asking}
use Rattle.farkas_check.specs.declared.stratum.Relation.{Relation}
use Rattle.linear_terms.specs.Polynomial.{Polynomial}
use Rattle.linear_terms.specs.declared.row.Row.{Row}
use Rattle.transition_formula.specs.Loss.{answer_of, losses_of}
use Rattle.transition_formula.specs.declared.loss.Loss.{Loss}
use Rattle.posing.specs.Follows.{Follows}
use Rattle.posing.specs.Logs.{with_notes, HasNoted, loss_notes}
use Rattle.posing.specs.Posing.{Done, ◌>>=◌, each}
use Rattle.posing.specs.declared.log.Log.{Log}
use Rattle.posing.specs.declared.note.Note.TheVariants as note
use Rattle.posing.proofs.Steps.{at_end, notes_first}
use Rattle.polyhedra.specs.Bounds.{with_row}
use Rattle.polyhedra.specs.Squash.{relation_row, relation_rows, relation_losses, with_relation}

module _ (terms lower : List Polynomial) where
  onto : (rows : List Row) (o : Option Row) (rest : List Row) → rows ++ cons_option o rest ≡ (rows ++ option_to_list o) ++ rest
  onto rows None rest = ap (λ rs. rs ++ rest) (sym (append-nil rows))
  onto rows (Some row) rest = sym (append_assoc rows (row ∷ []) rest)

  split : (before : Log) (first rest : List Loss) → with_notes before (loss_notes (first ++ rest)) ≡ with_notes (with_notes before (loss_notes first)) (loss_notes rest)
  split before first rest =
      ap (λ ns. record { notes = ns; answers = before.answers })
      (ap (λ ns. before.notes ++ ns) (map-append (λ loss. note.Loss loss) first rest) ∙ sym (append_assoc before.notes (loss_notes first) (loss_notes rest)))

  noted_from : {S : Type 0} (O : Asking S) (state : S) (rows : List Row) (relations : List Relation) (before : Log)
      → Follows O state state before (with_notes before (loss_notes (relation_losses terms lower relations))) (Ok (rows ++ relation_rows terms lower relations)) (each (with_relation terms lower) rows relations)
  unfolding with_row ◌>>=◌
  noted_from O state rows [] before =
      subst (λ log. Follows O state state before log (Ok (rows ++ [])) (Done rows)) (ap (λ ns. record { notes = ns; answers = before.answers }) (sym (append-nil before.notes))) (at_end (append-nil rows))
  noted_from O state rows (r ∷ relations) before =
      let made = relation_row terms lower r in
      let between = with_notes before (loss_notes (losses_of made)) in
      subst (λ log. Follows O state state before log (Ok (rows ++ relation_rows terms lower (r ∷ relations))) (each (with_relation terms lower) rows (r ∷ relations)))
      (sym (split before (losses_of made) (relation_losses terms lower relations)))
      (subst (λ rs. Follows O state state before (with_notes between (loss_notes (relation_losses terms lower relations))) (Ok rs) (each (with_relation terms lower) rows (r ∷ relations)))
      (sym (onto rows (answer_of made) (relation_rows terms lower relations)))
      (notes_first (record { is = refl }) refl (noted_from O state (rows ++ option_to_list (answer_of made)) relations between)))

  -- the rows, where their losses were noted
  pub noted_rows : {S : Type 0} (O : Asking S) (state : S) (relations : List Relation) (before after : Log) (made : List Row) → HasNoted before after (loss_notes (relation_losses terms lower relations)) → made ≡ relation_rows terms lower relations
      → Follows O state state before after (Ok made) (each (with_relation terms lower) [] relations)
  noted_rows O state relations before after made noted is =
      subst (λ log. Follows O state state before log (Ok made) (each (with_relation terms lower) [] relations)) (sym noted.is)
      (subst (λ rs. Follows O state state before (with_notes before (loss_notes (relation_losses terms lower relations))) (Ok rs) (each (with_relation terms lower) [] relations)) (sym is) (noted_from O state [] relations before))
