-- Laws of thinning: what is left holds of all that the case holds of, and passes each test that all
-- its rows pass.
use Rattle.std.proofs.Common.{◌≡◌, ℕ, zero, suc, List, [], ◌∷◌, ◌++◌, Option, None, Some, Bool, true, false, Result, Ok, Err, length, refl, sym, ap}
use Rattle.std.specs.Prelude.{slice_get, IsTrue}
use Rattle.std.specs.List.{remove, insert, list_all}
use Rattle.linear_terms.specs.Row.{RowsHold}
use Rattle.linear_terms.specs.Expressions.{negation}
use Rattle.linear_terms.specs.Polynomial.{Polynomial}
use Rattle.linear_terms.specs.Value.{Valuation}
use Rattle.linear_terms.specs.declared.error.TermError.{TermError}
use Rattle.linear_terms.specs.declared.row.Kind.{Kind}
use Rattle.linear_terms.specs.declared.row.Kind.TheVariants.{AtMost, Equal}
use Rattle.linear_terms.specs.declared.row.Row.{Row}
use Rattle.linear_terms.specs.declared.row.Case.{Case}
use Rattle.transition_formula.specs.Meaning.{numbers}
use Rattle.transition_formula.proofs.Rounding.{test_removed}
use Rattle.posing.specs.Posing.{Done, Always}
use Rattle.posing.proofs.Paths.{always_bind, always_any, always_down}
use Rattle.polyhedra.specs.Infeasibility.{infeasible}
use Rattle.polyhedra.specs.Thin.{without_if, thinning_with, thinning_by, thinning_of, thinned_found, thinning_at, thinned_rows, thinned_case}
use Rattle.polyhedra.specs.Laws.{IsWider, ThinningCovers}

-- ---- what each step keeps, if leaving a row out keeps it

module _ (Keeps : List Row → Type 0) (removes : (rows : List Row) (place : ℕ) → Keeps rows → Keeps (remove rows place)) where
  without_if-keeps : (drops : Bool) (place : ℕ) (rows : List Row) → Keeps rows → Keeps (without_if drops place rows)
  without_if-keeps true place rows h = removes rows place h
  without_if-keeps false place rows h = h

  thinned_with-keeps : (negation : Row) (place : ℕ) (rows : List Row) → Keeps rows → Always Keeps (thinning_with negation place rows)
  unfolding thinning_with
  thinned_with-keeps negation place rows h =
      always_bind (λ drops. Unit {0}) Keeps (infeasible (remove rows place ++ negation ∷ [])) (λ drops. Done (without_if drops place rows))
      (always_any (λ drops. Unit {0}) (infeasible (remove rows place ++ negation ∷ [])) (λ drops. tt)) (λ drops any. without_if-keeps drops place rows h)

  thinned_by-keeps : (made : Result Row TermError) (place : ℕ) (rows : List Row) → Keeps rows → Always Keeps (thinning_by made place rows)
  unfolding thinning_by
  thinned_by-keeps (Ok negation) place rows h = thinned_with-keeps negation place rows h
  thinned_by-keeps (Err e) place rows h = h

  thinned_of-keeps : (kind : Kind) (poly : Polynomial) (place : ℕ) (rows : List Row) → Keeps rows → Always Keeps (thinning_of kind poly place rows)
  thinned_of-keeps AtMost poly place rows h = thinned_by-keeps (negation poly) place rows h
  thinned_of-keeps Equal poly place rows h = h

  thinned_at-keeps : (rows : List Row) (place : ℕ) → Keeps rows → Always Keeps (thinning_at rows place)
  unfolding thinning_at
  thinned_at-keeps rows place h = go (slice_get rows place)
    where
      go : (o : Option Row) → Always Keeps (thinned_found o place rows)
      go None = h
      go (Some row) = thinned_of-keeps row.kind row.poly place rows h

  pub thinned_rows-keep : (rows : List Row) → Keeps rows → Always Keeps (thinned_rows rows)
  thinned_rows-keep rows h = always_down Keeps thinning_at rows (length rows) (λ made place k. thinned_at-keeps made place k) h

-- ---- what is left holds of all that the case holds of

removed : (at : Valuation) (rows : List Row) (place : ℕ) → RowsHold at rows → RowsHold at (remove rows place)
removed at [] zero h = h
removed at [] (suc place) h = h
removed at (row ∷ rows) zero h = h.1
removed at (row ∷ rows) (suc place) h = (h.0, removed at rows place h.1)

abbrev Weaker : List Row → List Row → Type 0
Weaker rows made = (at : Valuation) → RowsHold at rows → RowsHold at made

pub thinned-covers : ThinningCovers
unfolding thinned_case
thinned-covers case =
    always_bind (Weaker case.rows) (IsWider case) (thinned_rows case.rows) (λ rows. Done record { aux = case.aux; rows = rows; post = case.post })
    (thinned_rows-keep (Weaker case.rows) (λ rows place weaker at h. removed at rows place (weaker at h)) case.rows (λ at h. h))
    (λ rows weaker before after (aux, h). (aux, record { rows = weaker (numbers before aux) h.rows; posts = h.posts }))

-- ---- what is left has the auxiliaries and posts of the case, and rows of it

pub record IsThinned (test : Row → Bool) (case left : Case) : Type 0 where
  pub aux : left.aux ≡ case.aux
  pub post : left.post ≡ case.post
  pub rows : IsTrue (list_all test left.rows)

pub thinned-tested : (test : Row → Bool) (case : Case) → IsTrue (list_all test case.rows) → Always (IsThinned test case) (thinned_case case)
unfolding thinned_case
thinned-tested test case h =
    always_bind (λ rows. IsTrue (list_all test rows)) (IsThinned test case) (thinned_rows case.rows) (λ rows. Done record { aux = case.aux; rows = rows; post = case.post })
    (thinned_rows-keep (λ rows. IsTrue (list_all test rows)) (λ rows place k. test_removed test rows place k) case.rows h) (λ rows k. record { aux = refl; post = refl; rows = k })

-- ---- a row that is put back

pub put_back : (rows : List Row) (place : ℕ) (row : Row) → slice_get rows place ≡ Some row → insert (remove rows place) place row ≡ rows
put_back [] place row e = cc
put_back (first ∷ rows) zero row e = let same : first ≡ row = cc in ap (λ r. r ∷ rows) (sym same)
put_back (first ∷ rows) (suc place) row e = ap (λ rs. first ∷ rs) (put_back rows place row e)
