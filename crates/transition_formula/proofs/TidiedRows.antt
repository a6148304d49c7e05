-- What holds of each row's polynomial holds of those that are left when the rows are tidied, if a
-- normal form keeps it.
use Rattle.std.proofs.Common.{◌≡◌, Bool, true, false, cond, fold, List, [], ◌∷◌, ◌++◌, Option, Some, None, Result, Ok, Err, refl, subst}
use Rattle.std.specs.Prelude.{int_lt}
use Rattle.std.specs.List.{AllByRecursion, list_any, find}
use Rattle.std.specs.Option.{option_map}
use Rattle.linear_terms.specs.declared.error.TermError.{TermError}
use Rattle.linear_terms.specs.declared.row.Row.{Row}
use Rattle.linear_terms.specs.declared.row.Normal.{Normal}
use Rattle.linear_terms.specs.declared.row.Normal.TheVariants.{Constant, Kept}
use Rattle.linear_terms.specs.Polynomial.{Polynomial}
use Rattle.linear_terms.specs.Row.{normal_form, starts_negative}
use Rattle.transition_formula.specs.Rows.{with_normal, normal_rows, stronger, alike, with_row, each_once, close, with_met, met_rows, can_agree, opposites_met, tidied_rows}

-- it holds of each row's polynomial
abbrev pub EachRow : (Polynomial → Type 0) → List Row → Type 0
EachRow P rows = AllByRecursion (λ row. P row.poly) rows

module _ (P : Polynomial → Type 0) (normal_keeps : (row r : Row) → normal_form row ≡ Ok (Kept r) → P row.poly → P r.poly) where
  normal_rows-keep : (rows made : List Row) → (normal_rows rows).rows ≡ Some made → EachRow P rows → EachRow P made
  normal_rows-keep [] made e h = let same : [] ≡ made = cc in subst (EachRow P) same tt
  normal_rows-keep (row ∷ rows) made e h = go (normal_form row) refl e (λ m f. normal_rows-keep rows m f h.1)
    where
      kept : (r : Row) (o : Option (List Row)) → option_map (λ l. r ∷ l) o ≡ Some made → P r.poly → ((m : List Row) → o ≡ Some m → EachRow P m) → EachRow P made
      kept r None f k ih = cc
      kept r (Some l) f k ih = let same : r ∷ l ≡ made = cc in subst (EachRow P) same (k, ih l refl)

      go : (n : Result Normal TermError) → normal_form row ≡ n → (with_normal n (normal_rows rows)).rows ≡ Some made → ((m : List Row) → (normal_rows rows).rows ≡ Some m → EachRow P m) → EachRow P made
      go (Err x) n f ih = ih made f
      go (Ok (Constant true)) n f ih = ih made f
      go (Ok (Constant false)) n f ih = cc
      go (Ok (Kept r)) n f ih = kept r (normal_rows rows).rows f (normal_keeps row r n h.0) ih

  -- ---- each once

  with_row-keeps : (rows : List Row) (s : Row) → EachRow P rows → P s.poly → EachRow P (with_row rows s)
  with_row-keeps [] s h k = (k, tt)
  with_row-keeps (r ∷ rows) s h k = go (alike r s) (with_row-keeps rows s h.1 k)
    where
      strong : (b : Bool) → P (cond b s r).poly
      strong true = k
      strong false = h.0

      go : (b : Bool) → EachRow P (with_row rows s) → EachRow P (cond b (stronger r s ∷ rows) (r ∷ with_row rows s))
      go true later = (strong (int_lt r.poly.rest s.poly.rest), h.1)
      go false later = (h.0, later)

  fold-keeps : (rows more : List Row) → EachRow P rows → EachRow P more → EachRow P (fold with_row rows more)
  fold-keeps rows [] h k = h
  fold-keeps rows (s ∷ more) h k = fold-keeps (with_row rows s) more (with_row-keeps rows s h k.0) k.1

  -- ---- opposite rows

  found-keeps : (test : Row → Bool) (rows : List Row) (s : Row) → find test rows ≡ Some s → EachRow P rows → P s.poly
  found-keeps test [] s e h = cc
  found-keeps test (r ∷ rows) s e h = go (test r) e (λ f. found-keeps test rows s f h.1)
    where
      go : (b : Bool) → cond b (Some r) (find test rows) ≡ Some s → (find test rows ≡ Some s → P s.poly) → P s.poly
      go true f ih = let same : r ≡ s = cc in subst (λ (x : Row). P x.poly) same h.0
      go false f ih = ih f

  met-keeps : (before rows : List Row) → EachRow P rows → EachRow P (met_rows before rows)
  met-keeps before [] h = tt
  met-keeps before (r ∷ rows) h = go (list_any (λ s. close s r) before) (find (close r) rows) (λ s f. found-keeps (close r) rows s f h.1) (met-keeps (before ++ r ∷ []) rows h.1)
    where
      either : (b : Bool) (s : Row) → P s.poly → P (cond b s.poly r.poly)
      either true s f = f
      either false s f = h.0

      go : (b : Bool) (o : Option Row) → ((s : Row) → o ≡ Some s → P s.poly) → EachRow P (met_rows (before ++ r ∷ []) rows) → EachRow P (with_met r b o (met_rows (before ++ r ∷ []) rows))
      go true o found later = later
      go false None found later = (h.0, later)
      go false (Some s) found later = (either (starts_negative r.poly.terms) s (found s refl), later)

  pub tidied-keeps : (rows made : List Row) → (tidied_rows rows).rows ≡ Some made → EachRow P rows → EachRow P made
  tidied-keeps rows made e h = go (normal_rows rows).rows (λ l f. normal_rows-keep rows l f h) e
    where
      agreed : (b : Bool) (l : List Row) → cond b (Some (met_rows [] l)) None ≡ Some made → EachRow P l → EachRow P made
      agreed true l f k = let same : met_rows [] l ≡ made = cc in subst (EachRow P) same (met-keeps [] l k)
      agreed false l f k = cc

      go : (o : Option (List Row)) → ((l : List Row) → o ≡ Some l → EachRow P l) → opposites_met (option_map each_once o) ≡ Some made → EachRow P made
      go None tells f = cc
      go (Some l) tells f = agreed (can_agree (each_once l)) (each_once l) f (fold-keeps [] l tt (tells l refl))
