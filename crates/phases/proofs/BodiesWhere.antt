-- The turns of a body that begin where an inequality is true.
use Rattle.std.proofs.Common.{◌≡◌, ◌⊎◌, inl, inr, ℕ, zero, suc, ◌+◌, ◌≤◌, ◌<◌, ◌^◌, ℤ, pos, negsuc, true, List, [], ◌∷◌, map, Ok, refl, ap, subst, ◌∙◌, arith, ◌≤ℤ◌}
use Rattle.std.specs.Prelude.{IsTrue}
use Rattle.std.specs.List.{AllByRecursion, list_all}
use Rattle.std.proofs.lemmas.Int.{ints}
use Rattle.std.proofs.lemmas.List.Elements.{All-from_recursion}
use Rattle.std.proofs.lemmas.List.Folds.{list_all-append}
use Rattle.items.proofs.Each.{each-append, each-both, each-map, each-more, each_from_test, test_from_each}
use Rattle.linear_terms.specs.declared.col.Col.{Col}
use Rattle.linear_terms.specs.declared.col.Col.TheVariants.{At, Aux}
use Rattle.linear_terms.specs.declared.row.Row.{Row}
use Rattle.linear_terms.specs.declared.row.Case.{Case}
use Rattle.linear_terms.specs.declared.row.Kind.TheVariants.{AtMost}
use Rattle.linear_terms.specs.Expressions.{at_most}
use Rattle.linear_terms.specs.Polynomial.{Polynomial, IsCanonical}
use Rattle.linear_terms.specs.Row.{RowHolds, IsWithin}
use Rattle.linear_terms.specs.Value.{value_of}
use Rattle.linear_terms.proofs.Worth.{RowHolds-negation}
use Rattle.transition_formula.specs.Meaning.{numbers, HoldsSome, Holds}
use Rattle.transition_formula.specs.Transition.{Transition, every_column, is_below, fits, IsTransition, IsSolvable, AreSolvable}
use Rattle.transition_formula.proofs.ColumnTests.{both_true, more_columns}
use Rattle.transition_formula.proofs.FittedFormulas.{fits-solvable}
use Rattle.transition_formula.proofs.Fitting.{fitting, from_fitting, is_below-more, true-below}
use Rattle.transition_formula.proofs.Values.{value-agrees}
use Rattle.posing.specs.Posing.{Always}
use Rattle.posing.proofs.Paths.{always_weaker}
use Rattle.polyhedra.specs.Settle.{settled_formula}
use Rattle.polyhedra.proofs.SettleLaws.{settled-covers}
use Rattle.phases.specs.Phases.{body_where, case_where, turns_where}
use Rattle.phases.specs.Splits.{contrary, inequality}
use Rattle.phases.specs.Words.{IsHalvable, IsOverEntries}
use Rattle.phases.proofs.CanonicalForms.{rows-canonical}
use Rattle.recurrence.proofs.CanonicalOrder.{IsCanonicalCase, IsCanonicalFormula, IsCanonicalRow}

-- ---- an inequality at a state

abbrev pub IsTrueAt : Polynomial → List ℤ → Type 0
IsTrueAt p state = value_of (numbers state (λ n. pos 0)) p ≤ℤ pos 0

below-decided : (z : ℤ) → (z ≤ℤ pos 0) ⊎ (z ≤ℤ pos 0 → ⊥)
below-decided (pos zero) = inl (omega (arith, ints))
below-decided (pos (suc n)) = inr (λ h. omega (arith, ints, h))
below-decided (negsuc n) = inl (omega (arith, ints))

pub truth-decided : (p : Polynomial) (state : List ℤ) → IsTrueAt p state ⊎ (IsTrueAt p state → ⊥)
truth-decided p state = below-decided (value_of (numbers state (λ n. pos 0)) p)

-- the contrary is true exactly where the inequality is not
pub contrary-true : (p q : Polynomial) → contrary p ≡ Ok q → (state : List ℤ) → (IsTrueAt p state → ⊥) → IsTrueAt q state
contrary-true p q e state = (RowHolds-negation (numbers state (λ n. pos 0)) p (inequality q) (ap at_most e)).1

-- the auxiliaries have no part in it
numbers-agree : (state : List ℤ) (aux : ℕ → ℤ) (from : ℕ) (c : Col) → IsTrue (is_below from 0 c) → numbers state (λ n. pos 0) c ≡ numbers state aux c
numbers-agree state aux from (At n) h = refl
numbers-agree state aux from (Aux n) h = let lt = true-below n 0 h in absurd (omega (arith, lt))

pub truth-under : (from : ℕ) (p : Polynomial) (state : List ℤ) (aux : ℕ → ℤ) → IsOverEntries from p → IsTrueAt p state → RowHolds (numbers state aux) (inequality p)
truth-under from p state aux over h =
    subst (IsWithin AtMost) (value-agrees (numbers state (λ n. pos 0)) (numbers state aux) (is_below from 0) (numbers-agree state aux from) p over) h

-- ---- a case, and then all, with one more row

pub case-fits : (from to : ℕ) (p : Polynomial) → IsOverEntries from p → (case : Case) → IsTrue (fits from to case) → IsTrue (fits from to (case_where p case))
case-fits from to p over case h =
    let f = fitting from to case h in
    from_fitting from to (case_where p case) (record {
      length_is = f.length_is;
      rows_are =
          list_all-append (λ (row : Row). every_column (is_below from case.aux) row.poly) case.rows (inequality p ∷ [])
          ∙ both_true (list_all (λ (row : Row). every_column (is_below from case.aux) row.poly) case.rows) _ f.rows_are
          (both_true (every_column (is_below from case.aux) p) true (more_columns (is_below from 0) (is_below from case.aux) (is_below-more from 0 case.aux (omega arith)) p over) refl);
      posts_are = f.posts_are;
    })

pub where-fits : (body : Transition) (p : Polynomial) → IsTransition body.from body.to body.cases → IsOverEntries body.from p → IsTransition body.from body.to (body_where p body).cases
where-fits body p h over =
    test_from_each (fits body.from body.to) (λ case. IsTrue (fits body.from body.to case)) (λ case k. k) (map (case_where p) body.cases)
    (each-map (λ case. IsTrue (fits body.from body.to case)) (λ case. IsTrue (fits body.from body.to case)) (case_where p) (λ case k. case-fits body.from body.to p over case k) body.cases
    (each_from_test (fits body.from body.to) (λ case. IsTrue (fits body.from body.to case)) (λ case k. k) body.cases h))

-- formulas over few columns, by cases of few auxiliaries
abbrev pub AreFewAuxiliaries : ℕ → List Case → Type 0
AreFewAuxiliaries most cases = AllByRecursion (λ (case : Case). case.aux ≤ most) cases

pub few-solvable : (from to most : ℕ) → most + to < 2 ^ 32 → (cases : List Case) → IsTransition from to cases → AreFewAuxiliaries most cases → AreSolvable cases
few-solvable from to most small cases h few =
    All-from_recursion IsSolvable cases
    (each-more (λ (case : Case). IsTrue (fits from to case) × (case.aux ≤ most)) IsSolvable (λ case k. fits-solvable from to case k.0 (let le = k.1 in omega (arith, le, small))) cases
    (each-both (λ case. IsTrue (fits from to case)) (λ (case : Case). case.aux ≤ most) cases (each_from_test (fits from to) (λ case. IsTrue (fits from to case)) (λ case k. k) cases h) few))

pub where-few : (most : ℕ) (p : Polynomial) (cases : List Case) → AreFewAuxiliaries most cases → AreFewAuxiliaries most (map (case_where p) cases)
where-few most p cases few = each-map (λ (case : Case). case.aux ≤ most) (λ (case : Case). case.aux ≤ most) (case_where p) (λ case k. k) cases few

pub where-solvable : (body : Transition) (p : Polynomial) → IsHalvable body p → AreSolvable (body_where p body).cases
where-solvable body p is =
    let few = is.splittable.few_columns in
    few-solvable body.from body.to 1000 (omega (arith, few)) (map (case_where p) body.cases) (where-fits body p is.splittable.fits is.over) (where-few 1000 p body.cases is.splittable.few)

pub where-canonical : (p : Polynomial) (body : Transition) → IsCanonical p.terms → IsCanonicalFormula body → IsCanonicalFormula (body_where p body)
where-canonical p body h k =
    each-map IsCanonicalCase IsCanonicalCase (case_where p) (λ case l. each-append IsCanonicalRow case.rows (inequality p ∷ []) l (h, tt)) body.cases k

-- ---- what it holds of

some-where : (from : ℕ) (p : Polynomial) (cases : List Case) (before after : List ℤ) → IsOverEntries from p → IsTrueAt p before → HoldsSome cases before after → HoldsSome (map (case_where p) cases) before after
some-where from p [] before after over h k = k
some-where from p (case ∷ cases) before after over h (inl k) =
    inl (k.0, record { rows = each-append (RowHolds (numbers before k.0)) case.rows (inequality p ∷ []) k.1.rows (truth-under from p before k.0 over h, tt); posts = k.1.posts })
some-where from p (case ∷ cases) before after over h (inr k) = inr (some-where from p cases before after over h k)

-- the turns of the body that begin where the inequality is true are some of these
abbrev pub HoldsWhere : Transition → Polynomial → Transition → Type 0
HoldsWhere body p g = (before after : List ℤ) → Holds body before after → IsTrueAt p before → Holds g before after

pub turns_where-holds : (body : Transition) (p : Polynomial) → IsHalvable body p → IsCanonical p.terms → IsCanonicalFormula body → Always (HoldsWhere body p) (turns_where p body)
unfolding turns_where
turns_where-holds body p is h k =
    always_weaker _ (HoldsWhere body p) (settled_formula (body_where p body))
    (λ g covers before after held true_there. covers before after (record { enters = held.enters; some = some-where body.from p body.cases before after is.over true_there held.some }))
    (settled-covers (body_where p body) (rows-canonical (body_where p body) (where-canonical p body h k)) (where-solvable body p is))
