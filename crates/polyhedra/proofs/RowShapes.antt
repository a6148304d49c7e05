-- What each row has that bounds and relations give: a property of whatever rows can be made is one
-- of all of them.
use Rattle.std.proofs.Common.{◌≡◌, List, [], ◌∷◌, Option, None, Some, Ok, Err, ℤ, refl}
use Rattle.std.specs.Prelude.{Result}
use Rattle.std.specs.List.{AllByRecursion}
use Rattle.items.proofs.Each.{each-append}
use Rattle.linear_terms.specs.declared.error.TermError.{TermError}
use Rattle.linear_terms.specs.declared.row.Row.{Row}
use Rattle.linear_terms.specs.declared.row.Case.{Case}
use Rattle.linear_terms.specs.Expressions.{Made}
use Rattle.posing.specs.Posing.{Posing, each, Always}
use Rattle.posing.proofs.Paths.{always_bind, always_any, always_each, always_weaker}
use Rattle.polyhedra.specs.Bounds.{bound_of, with_row, with_row_for, rows_with_bound}

module _ (Q : Row → Type 0) where
  abbrev pub HaveAll : List Row → Type 0
  HaveAll rows = AllByRecursion Q rows

  -- the row has it, if it can be made
  abbrev pub HasIfMade : Result Row TermError → Type 0
  HasIfMade made = (r : Row) → made ≡ Ok r → Q r

  pub with_row-keeps : (rows : List Row) (made : Result Row TermError) → HasIfMade made → HaveAll rows → Always HaveAll (with_row rows made)
  unfolding with_row
  with_row-keeps rows (Ok r) has h = each-append Q rows (r ∷ []) h (has r refl, tt)
  with_row-keeps rows (Err e) has h = each-append Q rows [] h tt

  pub bounded-keeps : (cases : List Case) (objective : Case → Made) (row : ℤ → Result Row TermError) (rows : List Row) → ((most : ℤ) → HasIfMade (row most)) → HaveAll rows → Always HaveAll (rows_with_bound cases objective row rows)
  unfolding rows_with_bound
  bounded-keeps cases objective row rows has h =
      always_bind (λ most. Unit {0}) HaveAll (bound_of cases objective) (λ most. with_row_for rows row most) (always_any (λ most. Unit {0}) (bound_of cases objective) (λ most. tt)) (λ most any. go most)
    where
      go : (most : Option ℤ) → Always HaveAll (with_row_for rows row most)
      go None = h
      go (Some most) = with_row-keeps rows (row most) (has most) h

  -- a step for each element that has a property of its own
  pub each-keeps : {A : Type 0} (P : A → Type 0) (step : List Row → A → Posing (List Row)) (rows : List Row) (xs : List A)
      → ((rows : List Row) (x : A) → P x → HaveAll rows → Always HaveAll (step rows x)) → AllByRecursion P xs → HaveAll rows → Always HaveAll (each step rows xs)
  each-keeps {A = A} P step rows xs kept all h =
      always_weaker (Keeps []) HaveAll (each step rows xs) (λ made both. both.1)
      (always_each Keeps step rows xs (λ x rest made both. always_weaker HaveAll (Keeps rest) (step made x) (λ next here. (both.0.1, here)) (kept made x both.0.0 both.1)) (all, h))
    where
      Keeps : List A → List Row → Type 0
      Keeps rest made = AllByRecursion P rest × HaveAll made
