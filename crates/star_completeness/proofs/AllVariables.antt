-- Forms over all variables: a variable that is not modified adds nothing.
use Rattle.std.proofs.Common.{◌≡◌, ℕ, List, [], ◌∷◌, length, map, Bool, true, false, Ok, Err, refl, sym, ap, subst, ◌∙◌, arith, ℤ, pos, ◌+ℤ◌, ◌-ℤ◌, ◌*ℤ◌, ◌≤ℤ◌}
use Rattle.std.specs.Prelude.{not, ◌&&◌, if◌then◌else◌}
use Rattle.std.specs.List.{AllByRecursion, filter, range_with_len}
use Rattle.std.specs.Ordering.{int_eq}
use Rattle.std.specs.Cmp.Lexicographic.{pointwise}
use Rattle.std.proofs.lemmas.Int.{ints}
use Rattle.std.proofs.lemmas.List.{length-map}
use Rattle.std.proofs.lemmas.List.FromFn.{fill_by_all}
use Rattle.std.proofs.lemmas.Option.{unwrap_or-slice_get}
use Rattle.items.proofs.Each.{each-any, each-more}
use Rattle.whole_numbers.specs.Dot.{dot}
use Rattle.linear_terms.specs.declared.row.Case.{Case}
use Rattle.linear_terms.specs.Equality.{term_eq}
use Rattle.linear_terms.specs.Expressions.{Made, or_zero}
use Rattle.linear_terms.specs.Polynomial.{Terms}
use Rattle.linear_terms.proofs.Values.{int_eq-zero}
use Rattle.farkas_check.specs.Rational.{RationalPoint, terms_at, sum_at}
use Rattle.transition_formula.specs.Transition.{Transition}
use Rattle.polyhedra.specs.Changes.{change, changes_in, is_zero, is_modified, modified_variables}
use Rattle.polyhedra.proofs.Lists.{none-passes}
use Rattle.polyhedra.proofs.Places.{mapped}
use Rattle.facet_hull.specs.Changes.{Rational, IsBound, changes_at}
use Rattle.facet_hull.specs.Facets.{hull_cases}
use Rattle.facet_hull.specs.Laws.{IsBoundOver}
use Rattle.star_completeness.specs.Laws.{all_changes, number_in, changes_between}

-- ---- sums over those that pass

-- what is 0 wherever the test fails has its whole sum where it passes
dot-filtered : (g f : ℕ → ℤ) (test : ℕ → Bool) (vs : List ℕ) → AllByRecursion (λ v. test v ≡ false → f v ≡ pos 0) vs → dot (map g (filter test vs)) (map f (filter test vs)) ≡ dot (map g vs) (map f vs)
dot-filtered g f test [] h = refl
dot-filtered g f test (v ∷ vs) h = go (test v) refl (dot-filtered g f test vs h.1)
  where
    skipped : (x y s t : ℤ) → y ≡ pos 0 → s ≡ t → s ≡ x *ℤ y +ℤ t
    skipped x y s t e k = rw e (nothing x s t k)
      where
        nothing : (x s t : ℤ) → s ≡ t → s ≡ x *ℤ pos 0 +ℤ t
        nothing x s t k = omega (arith, ints)

    go : (b : Bool) → test v ≡ b → dot (map g (filter test vs)) (map f (filter test vs)) ≡ dot (map g vs) (map f vs)
        → dot (map g (if b then v ∷ filter test vs else filter test vs)) (map f (if b then v ∷ filter test vs else filter test vs)) ≡ g v *ℤ f v +ℤ dot (map g vs) (map f vs)
    go true e rest = ap (λ s. g v *ℤ f v +ℤ s) rest
    go false e rest = skipped (g v) (f v) (dot (map g (filter test vs)) (map f (filter test vs))) (dot (map g vs) (map f vs)) (h.0 e) rest

-- a list by its numbers
list-numbers : (form : List ℤ) (n : ℕ) → length form ≡ n → form ≡ map (number_in form) (range_with_len 0 n)
list-numbers form n long = fill_by_all (number_in form) form n (pos 0) long (λ k low. sym (unwrap_or-slice_get form k (pos 0)))

-- ---- a change that is zero

zero-at : (point : RationalPoint) (m : Made) → is_zero m ≡ true → sum_at point (or_zero m) ≡ pos 0
zero-at point (Ok p) e = of_parts p.terms p.rest e
  where
    alone : (r d : ℤ) → r ≡ pos 0 → pos 0 +ℤ r *ℤ d ≡ pos 0
    alone r d f = rw f (nothing d)
      where
        nothing : (d : ℤ) → pos 0 +ℤ pos 0 *ℤ d ≡ pos 0
        nothing d = omega (arith, ints)

    of_parts : (ts : Terms) (r : ℤ) → (pointwise term_eq ts [] && int_eq r (pos 0)) ≡ true → terms_at point.numerator ts +ℤ r *ℤ point.over ≡ pos 0
    of_parts [] r f = alone r point.over (int_eq-zero r f)
    of_parts (t ∷ ts) r f = cc
zero-at point (Err fault) e = cc

module _ (body : Transition) where
  abbrev is_changed : ℕ → Bool
  is_changed v = is_modified true body.cases v

  -- the form at the modified variables
  abbrev restricted : List ℤ → List ℤ
  restricted form = map (number_in form) (modified_variables true body)

  -- it has the form's value on changes that are 0 where nothing is modified
  restricted-dot : (form : List ℤ) → length form ≡ body.to → (f : ℕ → ℤ) → AllByRecursion (λ v. is_changed v ≡ false → f v ≡ pos 0) (range_with_len 0 body.to)
      → dot (restricted form) (map f (modified_variables true body)) ≡ dot form (map f (range_with_len 0 body.to))
  restricted-dot form long f stays =
      dot-filtered (number_in form) f (is_modified true body.cases) (range_with_len 0 body.to) stays
      ∙ ap (λ ns. dot ns (map f (range_with_len 0 body.to))) (sym (list-numbers form body.to long))

  abbrev AreUnchanged : List Case → Type 0
  AreUnchanged cases = (v : ℕ) → is_changed v ≡ false → AllByRecursion (λ case. is_zero (change true case v) ≡ true) cases

  restricted-value : (form : List ℤ) → length form ≡ body.to → (point : RationalPoint) (case : Case) → ((v : ℕ) → is_changed v ≡ false → is_zero (change true case v) ≡ true)
      → dot (restricted form) (changes_at (changes_in true (modified_variables true body) case).terms point) ≡ dot form (changes_at (changes_in true (range_with_len 0 body.to) case).terms point)
  restricted-value form long point case zeros =
      ap (dot (restricted form)) (mapped (sum_at point) (λ v. or_zero (change true case v)) (modified_variables true body))
      ∙ restricted-dot form long (λ v. sum_at point (or_zero (change true case v))) (each-any (λ v. is_changed v ≡ false → sum_at point (or_zero (change true case v)) ≡ pos 0) (λ v e. zero-at point (change true case v) (zeros v e)) (range_with_len 0 body.to))
      ∙ ap (dot form) (sym (mapped (sum_at point) (λ v. or_zero (change true case v)) (range_with_len 0 body.to)))

  restricted-bound : (form : List ℤ) → length form ≡ body.to → (most : Rational) (cases : List Case) → AreUnchanged cases
      → IsBound (map (changes_in true (range_with_len 0 body.to)) cases) form most → IsBound (map (changes_in true (modified_variables true body)) cases) (restricted form) most
  restricted-bound form long most [] zeros h = tt
  restricted-bound form long most (case ∷ cases) zeros h = (
    λ point meets. subst (λ x. (x *ℤ most.bottom) ≤ℤ (most.top *ℤ point.over)) (sym (restricted-value form long point case (λ v e. (zeros v e).0))) (h.0 point meets),
    restricted-bound form long most cases (λ v e. (zeros v e).1) h.1,
  )

  unchanged : AreUnchanged body.cases
  unchanged v e = each-more (λ case. not (is_zero (change true case v)) ≡ false) (λ case. is_zero (change true case v) ≡ true) (λ case f. is (is_zero (change true case v)) f) body.cases (none-passes (λ case. not (is_zero (change true case v))) body.cases e)
    where
      is : (b : Bool) → not b ≡ false → b ≡ true
      is true f = refl
      is false f = cc

  -- a bound of the modified variables is one of all
  pub bound-of_all : (before last : List ℤ) (turns : ℤ) → AllByRecursion (λ v. is_changed v ≡ false → number_in last v -ℤ number_in before v ≡ pos 0) (range_with_len 0 body.to)
      → IsBoundOver (length (modified_variables true body)) (hull_cases body) (map (λ v. number_in last v -ℤ number_in before v) (modified_variables true body)) turns
      → IsBoundOver body.to (all_changes body) (changes_between body.to before last) turns
  bound-of_all before last turns stays narrow = λ form most long bounded.
      subst (λ x. (x *ℤ most.bottom) ≤ℤ (most.top *ℤ turns)) (restricted-dot form long (λ v. number_in last v -ℤ number_in before v) stays)
      (narrow (restricted form) most (length-map (modified_variables true body) (number_in form)) (restricted-bound form long most body.cases unchanged bounded))
