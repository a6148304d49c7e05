-- Rows in normal form are true where they were, if they are canonical.
use Rattle.std.proofs.Common.{◌≡◌, true, false, List, [], ◌∷◌, ◌++◌, Option, Some, None, Result, Ok, Err, refl, sym, ◌∙◌}
use Rattle.std.specs.Option.{option_map}
use Rattle.linear_terms.specs.declared.error.TermError.{TermError}
use Rattle.linear_terms.specs.declared.row.Row.{Row}
use Rattle.linear_terms.specs.declared.row.Normal.{Normal}
use Rattle.linear_terms.specs.declared.row.Normal.TheVariants.{Constant, Kept}
use Rattle.linear_terms.specs.Polynomial.{IsCanonical}
use Rattle.linear_terms.specs.Row.{normal_form, SaysAsMuch, RowsHold}
use Rattle.linear_terms.specs.Value.{Valuation}
use Rattle.linear_terms.proofs.Normals.{normal_form-SaysAsMuch}
use Rattle.transition_formula.specs.Meaning.{AreTrueLeft}
use Rattle.transition_formula.specs.Loss.{error_losses}
use Rattle.transition_formula.specs.Rows.{with_normal, normal_rows, each_once, opposites_met, tidied_rows}
use Rattle.transition_formula.proofs.TidiedRows.{EachRow}
use Rattle.transition_formula.proofs.Truths.{once_met-hold, once_met-held}
use Rattle.transition_formula.proofs.NotedErrors.{Tells, lost-some, normal_form-tells}
use Rattle.transition_formula.proofs.Values.{none-of}

abbrev pub AreCanonicalEach : List Row → Type 0
AreCanonicalEach rows = EachRow (λ p. IsCanonical p.terms) rows

module _ (at : Valuation) where
  normal-hold : (rows : List Row) → AreCanonicalEach rows → RowsHold at rows → AreTrueLeft at (normal_rows rows).rows
  normal-hold [] canonical h = tt
  normal-hold (row ∷ rows) canonical h = go (normal_form row) (λ n e. normal_form-SaysAsMuch at row n canonical.0 e) (normal-hold rows canonical.1 h.1)
    where
      kept : (r : Row) (o : Option (List Row)) → SaysAsMuch at row (Kept r) → AreTrueLeft at o → AreTrueLeft at (option_map (λ rows. r ∷ rows) o)
      kept r None s later = later
      kept r (Some more) s later = (s.1 h.0, later)

      go : (n : Result Normal TermError) → ((m : Normal) → n ≡ Ok m → SaysAsMuch at row m) → AreTrueLeft at (normal_rows rows).rows → AreTrueLeft at (with_normal n (normal_rows rows)).rows
      go (Err e) says later = later
      go (Ok (Constant true)) says later = later
      go (Ok (Constant false)) says later = let said : false ≡ true = (says (Constant false) refl).1 h.0 in absurd (cc said)
      go (Ok (Kept r)) says later = kept r (normal_rows rows).rows (says (Kept r) refl) later

  normal-held : (rows : List Row) → AreCanonicalEach rows → (normal_rows rows).losses ≡ [] → AreTrueLeft at (normal_rows rows).rows → RowsHold at rows
  normal-held [] canonical none h = tt
  normal-held (row ∷ rows) canonical none h = go (normal_form row) (normal_form-tells row) (λ n e. normal_form-SaysAsMuch at row n canonical.0 e) none h (λ n l. normal-held rows canonical.1 n l)
    where
      kept : (r : Row) (o : Option (List Row)) → SaysAsMuch at row (Kept r) → AreTrueLeft at (option_map (λ rows. r ∷ rows) o) → (AreTrueLeft at o → RowsHold at rows) → RowsHold at (row ∷ rows)
      kept r None s l ih = absurd l
      kept r (Some more) s l ih = (s.0 l.0, ih l.1)

      go : (n : Result Normal TermError) → Tells n → ((m : Normal) → n ≡ Ok m → SaysAsMuch at row m) → (with_normal n (normal_rows rows)).losses ≡ [] → AreTrueLeft at (with_normal n (normal_rows rows)).rows → ((normal_rows rows).losses ≡ [] → AreTrueLeft at (normal_rows rows).rows → RowsHold at rows) → RowsHold at (row ∷ rows)
      go (Err e) tells says n l ih = absurd (lost-some (Err e) e tells refl (none-of (error_losses e) (normal_rows rows).losses n).0)
      go (Ok (Constant true)) tells says n l ih = ((says (Constant true) refl).0 refl, ih n l)
      go (Ok (Constant false)) tells says n l ih = absurd l
      go (Ok (Kept r)) tells says n l ih = kept r (normal_rows rows).rows (says (Kept r) refl) l (ih n)

  -- ---- with each once and the opposite ones met

  met-hold : (o : Option (List Row)) → AreTrueLeft at o → AreTrueLeft at (opposites_met (option_map each_once o))
  met-hold None h = h
  met-hold (Some rows) h = once_met-hold at rows h

  met-held : (o : Option (List Row)) → AreTrueLeft at (opposites_met (option_map each_once o)) → AreTrueLeft at o
  met-held None h = h
  met-held (Some rows) h = once_met-held at rows h

  pub tidied-hold : (rows : List Row) → AreCanonicalEach rows → RowsHold at rows → AreTrueLeft at (tidied_rows rows).rows
  tidied-hold rows canonical h = met-hold (normal_rows rows).rows (normal-hold rows canonical h)

  pub tidied-held : (rows : List Row) → AreCanonicalEach rows → (tidied_rows rows).losses ≡ [] → AreTrueLeft at (tidied_rows rows).rows → RowsHold at rows
  tidied-held rows canonical none h = normal-held rows canonical none (met-held (normal_rows rows).rows h)

-- nothing was added
pub nothing_new : {X : Type 0} (old new more : List X) → new ≡ old ++ more → new ≡ old → more ≡ []
nothing_new [] new more e f = sym e ∙ f
nothing_new (x ∷ old) [] more e f = cc
nothing_new (x ∷ old) (y ∷ new) more e f = let rest : new ≡ old ++ more = cc in let same : new ≡ old = cc in nothing_new old new more rest same
