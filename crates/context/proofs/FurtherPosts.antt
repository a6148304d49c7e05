-- Formulas with further posts that may be any numbers.
use Rattle.std.proofs.Common.{◌≡◌, inl, inr, ℕ, zero, suc, ◌+◌, ◌-◌, ◌<◌, ◌≤◌, ℤ, pos, length, map, get_or, List, [], ◌∷◌, ◌++◌, refl, sym, ap, subst, ◌∙◌, length-append, arith}
use Rattle.std.specs.Prelude.{IsTrue}
use Rattle.std.specs.List.{list_all, range_with_len}
use Rattle.std.proofs.lemmas.List.{map-append, length-map}
use Rattle.std.proofs.lemmas.List.Elements.{recursion_from_All, All-from_recursion}
use Rattle.std.proofs.lemmas.List.Folds.{list_all-append}
use Rattle.items.proofs.Each.{each-map}
use Rattle.linear_terms.specs.declared.col.Col.{Col}
use Rattle.linear_terms.specs.declared.col.Col.TheVariants.{At, Aux}
use Rattle.linear_terms.specs.declared.row.Case.{Case}
use Rattle.linear_terms.specs.Polynomial.{Polynomial, column_of}
use Rattle.linear_terms.specs.Value.{Valuation, value_of}
use Rattle.transition_formula.specs.Meaning.{numbers, HoldsCase, HoldsSome, Holds}
use Rattle.transition_formula.specs.Transition.{Transition, every_column, is_below, fits, IsTransition}
use Rattle.transition_formula.proofs.ColumnTests.{both, both_true, all_more, more_columns, more_columns_of}
use Rattle.transition_formula.proofs.Fitting.{Fitting, fitting, from_fitting, below-true, true-below, is_below-more, columns_pass}
use Rattle.transition_formula.proofs.Meanings.{both_aux, first_aux, lost_aux}
use Rattle.transition_formula.proofs.Values.{column-value, rows-agree, posts-agree}
use Rattle.context.specs.Ends.{HasFew}
use Rattle.context.specs.Verdicts.{extended_formula, extended_case}

pub length-range : (a n : ℕ) → length (range_with_len a n) ≡ n
length-range a zero = refl
length-range a (suc n) = let e = length-range (a + 1) n in omega (arith, e)

-- ---- one case

case-fits : (from to more : ℕ) (case : Case) → Fitting from to case → Fitting from (to + more) (extended_case more case)
case-fits from to more case f =
    let wider = is_below-more from case.aux (case.aux + more) (omega arith) in
    let new : List Polynomial = map (λ n. column_of (Aux n)) (range_with_len case.aux more) in
    record {
      length_is = length-append case.post new ∙ (λ i. f.length_is i + (length-map (range_with_len case.aux more) (λ n. column_of (Aux n)) ∙ length-range case.aux more) i);
      rows_are = more_columns_of (is_below from case.aux) (is_below from (case.aux + more)) wider case.rows f.rows_are;
      posts_are =
          list_all-append (every_column (is_below from (case.aux + more))) case.post new
          ∙ both_true (list_all (every_column (is_below from (case.aux + more))) case.post) (list_all (every_column (is_below from (case.aux + more))) new)
          (all_more (every_column (is_below from case.aux)) (every_column (is_below from (case.aux + more))) (more_columns (is_below from case.aux) (is_below from (case.aux + more)) wider) case.post f.posts_are)
          (columns_pass (is_below from (case.aux + more)) Aux case.aux more (λ j le lt. below-true j (case.aux + more) lt));
    }

-- new auxiliaries have these numbers
new-values : (w : Valuation) (a : ℕ) (others : List ℤ) → ((k : ℕ) → k < length others → w (Aux (a + k)) ≡ get_or others k (pos 0)) → map (value_of w) (map (λ n. column_of (Aux n)) (range_with_len a (length others))) ≡ others
new-values w a [] h = refl
new-values w a (x ∷ xs) h =
    let start : a ≡ a + 0 = omega arith in
    let first : value_of w (column_of (Aux a)) ≡ x = column-value w (Aux a) ∙ ap (λ n. w (Aux n)) start ∙ h 0 (omega arith) in
    let rest = new-values w (a + 1) xs (λ k lt. let e : a + 1 + k ≡ a + suc k = omega arith in ap (λ n. w (Aux n)) e ∙ h (suc k) (omega arith)) in
    λ i. first i ∷ rest i

case-holds : (from to : ℕ) (case : Case) → Fitting from to case → (before begun others : List ℤ) → HoldsCase case before begun → HoldsCase (extended_case (length others) case) before (begun ++ others)
case-holds from to case f before begun others h =
    let aux : ℕ → ℤ = both_aux case.aux 0 h.0 h.0 others in
    let w : Valuation = numbers before aux in
    let agree : (c : Col) → IsTrue (is_below from case.aux c) → numbers before h.0 c ≡ w c = agrees from case.aux before h.0 others in
    let new : List Polynomial = map (λ n. column_of (Aux n)) (range_with_len case.aux (length others)) in
    let front : map (value_of w) case.post ≡ begun = sym (posts-agree (numbers before h.0) w (is_below from case.aux) agree case.post f.posts_are) ∙ h.1.posts in
    let back : map (value_of w) new ≡ others = new-values w case.aux others (λ k lt. let e : case.aux + k ≡ case.aux + 0 + k = omega arith in ap aux e ∙ lost_aux case.aux 0 h.0 h.0 others k) in (
      aux,
      record {
        rows = rows-agree (numbers before h.0) w (is_below from case.aux) agree case.rows f.rows_are h.1.rows;
        posts = map-append (value_of w) case.post new ∙ (λ i. front i ++ back i);
      },
    )
  where
    agrees : (from a : ℕ) (before : List ℤ) (aux : ℕ → ℤ) (others : List ℤ) (c : Col) → IsTrue (is_below from a c) → numbers before aux c ≡ numbers before (both_aux a 0 aux aux others) c
    agrees from a before aux others (At n) e = refl
    agrees from a before aux others (Aux n) e = first_aux a 0 aux aux others n (true-below n a e)

-- ---- all cases

cases-fit : (from to more : ℕ) (cases : List Case) → IsTransition from to cases → IsTransition from (to + more) (map (extended_case more) cases)
cases-fit from to more [] h = refl
cases-fit from to more (case ∷ cases) h =
    let parts = both (fits from to case) (list_all (fits from to) cases) h in
    both_true (fits from (to + more) (extended_case more case)) (list_all (fits from (to + more)) (map (extended_case more) cases))
    (from_fitting from (to + more) (extended_case more case) (case-fits from to more case (fitting from to case parts.0))) (cases-fit from to more cases parts.1)

some-holds : (from to : ℕ) (cases : List Case) → IsTransition from to cases → (before begun others : List ℤ) → HoldsSome cases before begun → HoldsSome (map (extended_case (length others)) cases) before (begun ++ others)
some-holds from to [] h before begun others k = absurd k
some-holds from to (case ∷ cases) h before begun others (inl k) =
    let parts = both (fits from to case) (list_all (fits from to) cases) h in inl (case-holds from to case (fitting from to case parts.0) before begun others k)
some-holds from to (case ∷ cases) h before begun others (inr k) =
    let parts = both (fits from to case) (list_all (fits from to) cases) h in inr (some-holds from to cases parts.1 before begun others k)

pub extended-fits : (columns : ℕ) (f : Transition) → f.to ≤ columns → IsTransition f.from f.to f.cases → IsTransition f.from columns (extended_formula columns f).cases
extended-fits columns f le h =
    let all : f.to + (columns - f.to) ≡ columns = omega arith in
    subst (λ n. IsTransition f.from n (extended_formula columns f).cases) all (cases-fit f.from f.to (columns - f.to) f.cases h)

pub extended-holds : (columns : ℕ) (f : Transition) → IsTransition f.from f.to f.cases → (before begun others : List ℤ) → length others ≡ columns - f.to → Holds f before begun → Holds (extended_formula columns f) before (begun ++ others)
extended-holds columns f h before begun others long holds =
    record {
      enters = holds.enters;
      some = subst (λ n. HoldsSome (map (extended_case n) f.cases) before (begun ++ others)) long (some-holds f.from f.to f.cases h before begun others holds.some);
    }

pub extended-few : (columns : ℕ) (f : Transition) → columns ≤ 63 → HasFew 64 f → HasFew 127 (extended_formula columns f)
extended-few columns f narrow few =
    All-from_recursion (λ (case : Case). case.aux ≤ 127) (map (extended_case (columns - f.to)) f.cases)
    (each-map (λ (case : Case). case.aux ≤ 64) (λ (case : Case). case.aux ≤ 127) (extended_case (columns - f.to)) (λ case le. omega (arith, le, narrow)) f.cases (recursion_from_All (λ (case : Case). case.aux ≤ 64) f.cases few))

-- as the code makes it
pub extended-made-fits : (columns : ℕ) (f : Transition) (from to : ℕ) (cases made : List Case) → f.to ≤ columns → to ≡ f.to → from ≡ f.from → IsTransition f.from f.to f.cases → cases ≡ f.cases → made ≡ map (extended_case (columns - to)) cases → IsTransition from columns made
extended-made-fits columns f from to cases made le to_is from_is fit cases_are made_are =
    subst (λ n. IsTransition n columns made) (sym from_is)
    (subst (IsTransition f.from columns) (sym (made_are ∙ (λ i. map (extended_case (columns - to_is i)) (cases_are i)))) (extended-fits columns f le fit))
