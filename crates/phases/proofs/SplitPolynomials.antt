-- What the inequalities keep by which a body may split, and how they are gathered.
use Rattle.std.proofs.Common.{inl, inr, length-append, ◌≡◌, ℕ, zero, suc, ◌+◌, ◌<◌, ◌≤◌, Bool, true, false, List, [], ◌∷◌, ◌++◌, length, take, drop, get_or, pos, negsuc, Option, Some, None, Result, Ok, Err, refl, sym, ap, subst, ◌∙◌, arith}
use Rattle.std.specs.Prelude.{IsTrue, ◌&&◌, nat_lt, not, fold, option_to_list, if◌then◌else◌}
use Rattle.std.specs.List.{AllByRecursion, flat_map, list_any}
use Rattle.std.specs.Option.{option_map}
use Rattle.std.proofs.lemmas.Bool.{cases_lt}
use Rattle.std.proofs.lemmas.List.{drop_more, length-take-le, take_all, take-append-le}
use Rattle.std.proofs.lemmas.List.Sums.{fold-append}
use Rattle.items.specs.Gives.{◌>>=◌}
use Rattle.items.proofs.Each.{each-flat_map}
use Rattle.items.proofs.Gives.{on_ok}
use Rattle.linear_terms.specs.declared.col.Col.{Col}
use Rattle.linear_terms.specs.declared.error.TermError.{TermError}
use Rattle.linear_terms.specs.declared.row.Kind.{Kind}
use Rattle.linear_terms.specs.declared.row.Kind.TheVariants.{AtMost, Equal}
use Rattle.linear_terms.specs.declared.row.Normal.{Normal}
use Rattle.linear_terms.specs.declared.row.Normal.TheVariants.{Constant, Kept}
use Rattle.linear_terms.specs.declared.row.Row.{Row}
use Rattle.linear_terms.specs.declared.row.Case.{Case}
use Rattle.linear_terms.specs.Equality.{poly_eq}
use Rattle.linear_terms.specs.Expressions.{Made, ◌⊞◌, all_of, negative_of, whole}
use Rattle.linear_terms.specs.Polynomial.{Polynomial, IsCanonical, constant_of}
use Rattle.linear_terms.specs.Row.{normal_form}
use Rattle.linear_terms.proofs.Canonical.{IsCanonical-multiple_of, IsCanonical-sum_of_polys}
use Rattle.linear_terms.proofs.Columns.{multiple_of-each, sum_of_polys-each}
use Rattle.linear_terms.proofs.Normals.{normal_form-HasCanonicalTerms}
use Rattle.transition_formula.specs.Rows.{each_once, opposites_met, tidied_rows, with_normal}
use Rattle.transition_formula.specs.Transition.{Transition, every_column, is_below}
use Rattle.transition_formula.proofs.CarriedColumns.{passes, tidied-passes}
use Rattle.transition_formula.proofs.Fitting.{below-true, true-below}
use Rattle.transition_formula.proofs.ColumnTests.{both, both_true, columns_from_test, test_from_columns}
use Rattle.polyhedra.specs.Directions.{distinct, with_new}
use Rattle.polyhedra.proofs.DirectionShapes.{each-distinct}
use Rattle.phases.specs.Limits.{most_splits}
use Rattle.phases.specs.Splits.{all_splits, contrary, inequality, normal_polynomial, normal_polynomials, offers, polynomial_in, splits, splits_of}
use Rattle.phases.specs.Words.{IsOverEntries, with_split, with_splits}

-- ---- a property that the steps to an inequality keep

pub record Steps (Q : Polynomial → Type 0) : Type 0 where
  pub turns : (p q : Polynomial) → negative_of (Ok p) ≡ Ok q → Q p → Q q
  pub adds : (p q : Polynomial) → Ok p ⊞ whole (pos 1) ≡ Ok q → Q p → Q q
  pub norms : (p q : Polynomial) → normal_polynomial p ≡ Some q → Q p → Q q

module _ (Q : Polynomial → Type 0) (steps : Steps Q) where
  pub contrary-keeps : (p q : Polynomial) → contrary p ≡ Ok q → Q p → Q q
  contrary-keeps p q e h = on_ok (negative_of (Ok p)) (λ t. Ok t ⊞ whole (pos 1)) q e (λ t f g. steps.adds t q g (steps.turns p t f h))

  all_of-keeps : (ms : List Made) → AllByRecursion (λ (m : Made). (q : Polynomial) → m ≡ Ok q → Q q) ms → (ps : List Polynomial) → all_of ms ≡ Ok ps → AllByRecursion Q ps
  all_of-keeps [] h ps e = let same : [] ≡ ps = cc in subst (AllByRecursion Q) same tt
  all_of-keeps (m ∷ ms) h ps e =
      on_ok m (λ p. all_of ms >>= λ qs. Ok (p ∷ qs)) ps e (λ p f g.
      on_ok (all_of ms) (λ qs. Ok (p ∷ qs)) ps g (λ qs k l. let same : p ∷ qs ≡ ps = cc in subst (AllByRecursion Q) same (h.0 p f, all_of-keeps ms h.1 qs k)))

  offers-keep : (kind : Kind) (p : Polynomial) → Q p → (ps : List Polynomial) → offers kind p ≡ Ok ps → AllByRecursion Q ps
  offers-keep AtMost p h ps e = all_of-keeps (Ok p ∷ contrary p ∷ []) ((λ q f. let same : p ≡ q = cc in subst Q same h), ((λ q f. contrary-keeps p q f h), tt)) ps e
  offers-keep Equal p h ps e =
      all_of-keeps (Ok p ∷ contrary p ∷ negative_of (Ok p) ∷ (Ok p ⊞ whole (pos 1)) ∷ [])
      ((λ q f. let same : p ≡ q = cc in subst Q same h), ((λ q f. contrary-keeps p q f h), ((λ q f. steps.turns p q f h), ((λ q f. steps.adds p q f h), tt)))) ps e

  normal-keeps : (p : Polynomial) → Q p → AllByRecursion Q (option_to_list (normal_polynomial p))
  normal-keeps p h = go (normal_polynomial p) refl
    where
      go : (o : Option Polynomial) → normal_polynomial p ≡ o → AllByRecursion Q (option_to_list o)
      go None e = tt
      go (Some q) e = (steps.norms p q e h, tt)

  offered-keep : (r : Result (List Polynomial) TermError) → ((ps : List Polynomial) → r ≡ Ok ps → AllByRecursion Q ps) → AllByRecursion Q (normal_polynomials r)
  offered-keep (Ok ps) h = each-flat_map Q Q (λ p. option_to_list (normal_polynomial p)) normal-keeps ps (h ps refl)
  offered-keep (Err e) h = tt

  -- the row has it, if it has entry columns alone
  abbrev pub HasOverEntries : ℕ → Row → Type 0
  HasOverEntries from row = IsOverEntries from row.poly → Q row.poly

  splits_of-keep : (from : ℕ) (row : Row) → HasOverEntries from row → AllByRecursion Q (splits_of from row)
  splits_of-keep from row h = go (every_column (is_below from 0) row.poly) refl
    where
      go : (b : Bool) → every_column (is_below from 0) row.poly ≡ b → AllByRecursion Q (if b then normal_polynomials (offers row.kind row.poly) else [])
      go true e = offered-keep (offers row.kind row.poly) (offers-keep row.kind row.poly (h e))
      go false e = tt

  each-first : (n : ℕ) (ps : List Polynomial) → AllByRecursion Q ps → AllByRecursion Q (take n ps)
  each-first zero ps h = tt
  each-first (suc n) [] h = h
  each-first (suc n) (p ∷ ps) h = (h.0, each-first n ps h.1)

  pub splits-keep : (body : Transition) → AllByRecursion (λ (case : Case). AllByRecursion (HasOverEntries body.from) case.rows) body.cases → AllByRecursion Q (splits body)
  unfolding splits
  splits-keep body h =
      each-first most_splits (distinct poly_eq (all_splits body))
      (each-distinct Q poly_eq (all_splits body)
      (each-flat_map (λ (case : Case). AllByRecursion (HasOverEntries body.from) case.rows) Q (λ case. flat_map (splits_of body.from) case.rows)
      (λ case k. each-flat_map (HasOverEntries body.from) Q (splits_of body.from) (splits_of-keep body.from) case.rows k) body.cases h))

-- ---- the columns

module _ (test : Col → Bool) where
  abbrev Passes : Polynomial → Type 0
  Passes p = IsTrue (every_column test p)

  -- one row is tidied to its normal form
  tidied-one : (p : Polynomial) (row : Row) → normal_form (inequality p) ≡ Ok (Kept row) → (tidied_rows (inequality p ∷ [])).rows ≡ Some (row ∷ [])
  tidied-one p row e = ap (λ n. opposites_met (option_map each_once (with_normal n (record { rows = Some []; losses = [] })).rows)) e

  norms-pass : (p q : Polynomial) → normal_polynomial p ≡ Some q → Passes p → Passes q
  norms-pass p q e h = go (normal_form (inequality p)) refl e
    where
      go : (r : Result Normal TermError) → normal_form (inequality p) ≡ r → polynomial_in r ≡ Some q → Passes q
      go (Ok (Kept row)) f g =
          let all = tidied-passes test (inequality p ∷ []) (row ∷ []) (tidied-one p row f) (both_true (passes test (inequality p)) true h refl) in
          let same : row.poly ≡ q = cc in subst Passes same (both (passes test row) true all).0
      go (Ok (Constant holds)) f g = cc
      go (Err x) f g = cc

  pub column-steps : Steps Passes
  column-steps = record {
    turns = λ p q e h. test_from_columns test q (multiple_of-each (λ c. IsTrue (test c)) p (negsuc 0) q e (columns_from_test test p h));
    adds = λ p q e h. test_from_columns test q (sum_of_polys-each (λ c. IsTrue (test c)) p (constant_of (pos 1)) q e (columns_from_test test p h) tt);
    norms = norms-pass;
  }

-- ---- the form

abbrev pub IsInForm : Polynomial → Type 0
IsInForm p = IsCanonical p.terms

pub form-steps : Steps IsInForm
form-steps = record {
  turns = λ p q e h. IsCanonical-multiple_of p (negsuc 0) q e h;
  adds = λ p q e h. IsCanonical-sum_of_polys p (constant_of (pos 1)) q e h;
  norms = norms-form;
}
  where
    norms-form : (p q : Polynomial) → normal_polynomial p ≡ Some q → IsInForm p → IsInForm q
    norms-form p q e h = go (normal_form (inequality p)) refl e
      where
        go : (r : Result Normal TermError) → normal_form (inequality p) ≡ r → polynomial_in r ≡ Some q → IsInForm q
        go (Ok (Kept row)) f g = let same : row.poly ≡ q = cc in subst IsInForm same (normal_form-HasCanonicalTerms (inequality p) (Kept row) h f)
        go (Ok (Constant holds)) f g = cc
        go (Err x) f g = cc

-- ---- gathered while there is room

-- the same for any number
abbrev with_room : ℕ → List Polynomial → Polynomial → List Polynomial
with_room n made p = if nat_lt (length made) n && not (list_any (poly_eq p) made) then made ++ p ∷ [] else made

full-stays : (n : ℕ) (made : List Polynomial) (p : Polynomial) → n ≤ length made → with_room n made p ≡ made
full-stays n made p le = go (nat_lt (length made) n) refl
  where
    go : (b : Bool) → nat_lt (length made) n ≡ b → (if b && not (list_any (poly_eq p) made) then made ++ p ∷ [] else made) ≡ made
    go true e = let lt = true-below (length made) n e in absurd (omega (arith, lt, le))
    go false e = refl

one-first : (n : ℕ) (made : List Polynomial) (p : Polynomial) → take n (with_new poly_eq made p) ≡ with_room n (take n made) p
one-first n made p = go (nat_lt (length made) n) refl (list_any (poly_eq p) made) refl
  where
    full : n ≤ length made → with_room n (take n made) p ≡ take n made
    full le = let long = length-take-le n made le in full-stays n (take n made) p (omega (arith, long))

    below : nat_lt (length made) n ≡ true → length made < n
    below e = true-below (length made) n e

    past : nat_lt (length made) n ≡ false → n ≤ length made
    past e = elim (cases_lt (length made) n) [ inl lt ↦ let f = below-true (length made) n lt in cc | inr le ↦ le ]

    go : (b : Bool) → nat_lt (length made) n ≡ b → (c : Bool) → list_any (poly_eq p) made ≡ c → take n (if c then made else made ++ p ∷ []) ≡ with_room n (take n made) p
    go true e true f =
        let all : take n made ≡ made = take_all n made (let lt = below e in omega (arith, lt)) in
        let kept : with_room n made p ≡ made = (λ i. if e i && not (f i) then made ++ p ∷ [] else made) in
        all ∙ sym kept ∙ ap (λ ms. with_room n ms p) (sym all)
    go true e false f =
        let all : take n made ≡ made = take_all n made (let lt = below e in omega (arith, lt)) in
        let added : with_room n made p ≡ made ++ p ∷ [] = (λ i. if e i && not (f i) then made ++ p ∷ [] else made) in
        take_all n (made ++ p ∷ []) (let lt = below e in simp length-append (omega (arith, lt))) ∙ sym added ∙ ap (λ ms. with_room n ms p) (sym all)
    go false e true f = sym (full (past e))
    go false e false f = take-append-le n made (p ∷ []) (past e) ∙ sym (full (past e))

pub first-gathered : (n : ℕ) (made ps : List Polynomial) → take n (fold (with_new poly_eq) made ps) ≡ fold (with_room n) (take n made) ps
first-gathered n made [] = refl
first-gathered n made (p ∷ ps) = first-gathered n (with_new poly_eq made p) ps ∙ ap (λ ms. fold (with_room n) ms ps) (one-first n made p)

pub splits-gathered : (body : Transition) → with_splits [] (all_splits body) ≡ splits body
unfolding splits
splits-gathered body = sym (first-gathered most_splits [] (all_splits body))

-- what an element gives, and then what those behind it give
pub with_splits-next : {X : Type 0} (f : X → List Polynomial) (made : List Polynomial) (xs : List X) (i : ℕ) (x : X) → i < length xs → x ≡ get_or xs i x
    → with_splits made (flat_map f (drop i xs)) ≡ with_splits (with_splits made (f x)) (flat_map f (drop (i + 1) xs))
with_splits-next f made xs i x lt is =
    ap (λ ys. with_splits made (flat_map f ys)) (drop_more xs i x lt ∙ ap (λ y. y ∷ drop (i + 1) xs) (sym is))
    ∙ fold-append with_split made (f x) (flat_map f (drop (i + 1) xs))
