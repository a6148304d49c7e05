-- The loop over rows with those before and those after each.
use Rattle.std.proofs.Common.{◌≡◌, ℕ, ◌+◌, ◌<◌, Bool, true, false, length, get_or, take, drop, List, [], ◌∷◌, ◌++◌, Option, Some, None, refl, sym, ap, ◌∙◌, append_assoc}
use Rattle.std.specs.List.{list_any, find, cons_option}
use Rattle.std.proofs.lemmas.List.{take_more}
use Rattle.linear_terms.specs.declared.row.Row.{Row}
use Rattle.transition_formula.specs.Rows.{close, with_met, met_rows}
use Rattle.transition_formula.proofs.Loops.{at_index}

with_met-front : (r : Row) (b : Bool) (o : Option Row) (rows : List Row) → with_met r b o rows ≡ with_met r b o [] ++ rows
with_met-front r true o rows = refl
with_met-front r false None rows = refl
with_met-front r false (Some s) rows = refl

pub met-next : (rows : List Row) (i : ℕ) (r : Row) (made next : List Row) (before later : List Row) (row : Option Row) → i < length rows → r ≡ get_or rows i r → before ≡ take i rows → later ≡ drop (i + 1) rows
    → cons_option row [] ≡ with_met r (list_any (λ s. close s r) before) (find (close r) later) [] → next ≡ made ++ cons_option row []
    → next ++ met_rows (take (i + 1) rows) (drop (i + 1) rows) ≡ made ++ met_rows (take i rows) (drop i rows)
met-next rows i r made next before later row lt e f g h k =
    ap (λ l. l ++ met_rows (take (i + 1) rows) (drop (i + 1) rows)) (k ∙ ap (λ l. made ++ l) h)
    ∙ append_assoc made (with_met r (list_any (λ s. close s r) before) (find (close r) later) []) (met_rows (take (i + 1) rows) (drop (i + 1) rows))
    ∙ ap (λ l. made ++ l) (sym (with_met-front r (list_any (λ s. close s r) before) (find (close r) later) (met_rows (take (i + 1) rows) (drop (i + 1) rows))))
    ∙ (λ j. made ++ with_met r (list_any (λ s. close s r) (f j)) (find (close r) (g j)) (met_rows (front j) (drop (i + 1) rows)))
    ∙ ap (λ l. made ++ met_rows (take i rows) l) (sym (at_index rows i r lt e))
  where
    front : take (i + 1) rows ≡ take i rows ++ r ∷ []
    front = take_more rows i r lt ∙ ap (λ x. take i rows ++ x ∷ []) (sym e)
