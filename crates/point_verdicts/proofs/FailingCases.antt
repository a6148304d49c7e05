-- The case in which a step arrives at an assertion and its condition is false: it fits, it can be put
-- in order, and it holds where both parts hold.
use Rattle.std.proofs.Common.{◌≡◌, ℕ, zero, suc, ◌+◌, ◌-◌, ◌<◌, ◌≤◌, ◌^◌, ℤ, length, drop, List, [], ◌∷◌, ◌++◌, Some, refl, sym, ap, subst, ◌∙◌, arith, append-nil}
use Rattle.std.specs.Prelude.{All, Bool, true, IsTrue, OnOk, Result, Ok, Err}
use Rattle.std.specs.List.{list_all}
use Rattle.std.proofs.lemmas.List.{length-drop}
use Rattle.std.proofs.lemmas.List.Elements.{All-from_recursion, recursion_from_All}
use Rattle.items.proofs.Each.{each-both, each-more, each_from_test}
use Rattle.linear_terms.specs.declared.row.Case.{Case}
use Rattle.linear_terms.specs.declared.row.Row.{Row}
use Rattle.linear_terms.specs.Polynomial.{Polynomial}
use Rattle.linear_terms.specs.Row.{AreCanonical}
use Rattle.transition_formula.specs.Composition.{after_case, losses_by, losses_in_sequence, sequence_of, sequence_of_cases}
use Rattle.transition_formula.specs.Meaning.{HoldsCase}
use Rattle.transition_formula.specs.Transition.{AreFew, IsSolvable, IsTransition, Transition, every_column, fits, is_below}
use Rattle.transition_formula.proofs.ColumnTests.{both, both_true}
use Rattle.transition_formula.proofs.FittedFormulas.{fits-solvable}
use Rattle.transition_formula.proofs.Fitting.{fitting, from_fitting, sequence_of_cases-fits}
use Rattle.transition_formula.proofs.Meanings.{cases-hold}
use Rattle.checked_tree.proofs.Between.{sequence-canonical}
use Rattle.context.specs.Ends.{HasFew}
use Rattle.context.proofs.Few.{few-pairs, sequence-few}
use Rattle.point_rows.specs.Reading.{AreOverColumns, given_rows}
use Rattle.point_rows.proofs.ReadColumns.{given_rows-fit}
use Rattle.point_rounds.proofs.RowColumns.{over-more}
use Rattle.point_verdicts.specs.Exclusions.{arriving_case, failing_case, most_step_auxiliaries}
use Rattle.point_verdicts.specs.Parts.{AreFailures, IsArrival, IsArrivingCase, IsFailure, formula_of_case, only_case}

-- ---- a step that arrives

-- what all elements of a list pass, those behind some pass
passes-behind : {A : Type 0} (test : A → Bool) (n : ℕ) (xs : List A) → IsTrue (list_all test xs) → IsTrue (list_all test (drop n xs))
passes-behind test zero xs h = h
passes-behind test (suc n) [] h = refl
passes-behind test (suc n) (x ∷ xs) h = passes-behind test n xs (both (test x) (list_all test xs) h).1

module _ (columns : ℕ) (case : Case) (arrives : IsArrivingCase columns case) where
  pub posts-long : columns ≤ length case.post
  posts-long = let long = (fitting 0 (columns + columns) case arrives).length_is in omega (arith, long)

  -- the rows at the point are over its columns, which are the first posts
  pub source-over : (source : List Row) → AreOverColumns columns source → AreOverColumns (length case.post) source
  source-over source over = over-more columns (length case.post) source posts-long over

  pub arriving-fits : (source given : List Row) → AreOverColumns columns source → given_rows case.post case.rows source ≡ Some given → IsTrue (fits 0 columns (arriving_case columns given case))
  arriving-fits source given over is =
      let f = fitting 0 (columns + columns) case arrives in
      let cut = length-drop columns case.post in
      let long = f.length_is in
      from_fitting 0 columns (arriving_case columns given case) record {
        length_is = omega (arith, cut, long);
        rows_are = given_rows-fit 0 case.aux case.post case.rows source given f.posts_are f.rows_are (source-over source over) is;
        posts_are = passes-behind (every_column (is_below 0 case.aux)) columns case.post f.posts_are;
      }

-- ---- a step that arrives, and then the falsity of the condition

-- a formula of one case with few auxiliaries
one-few : (n from to : ℕ) (case : Case) → case.aux ≤ n → HasFew n (formula_of_case from to case)
one-few n from to case few = All-from_recursion (λ (c : Case). c.aux ≤ n) (case ∷ []) (few, tt)

module _ (columns : ℕ) (arriving bad : Case) (fit : IsTrue (fits 0 columns arriving)) (few : arriving.aux ≤ most_step_auxiliaries) (is_bad : IsFailure columns bad) where
  abbrev first : Transition
  first = formula_of_case 0 columns arriving

  abbrev second : Transition
  second = formula_of_case columns columns bad

  second-fits : IsTransition columns columns (bad ∷ [])
  second-fits = both_true (fits columns columns bad) true is_bad.fits refl

  second-few : HasFew (2 ^ 31 - 1) second
  second-few = let small = is_bad.few in one-few (2 ^ 31 - 1) columns columns bad (omega (arith, small))

  pub pairs-few : AreFew first second
  pairs-few = let narrow = is_bad.narrow in few-pairs (2 ^ 30) (2 ^ 31 - 1) first second (one-few (2 ^ 30) 0 columns arriving few) second-few (omega (arith, narrow))

  pub failing-fits : IsTrue (fits 0 0 (failing_case arriving bad))
  failing-fits =
      let f = fitting 0 columns (sequence_of_cases arriving bad) (sequence_of_cases-fits 0 columns columns arriving bad fit is_bad.fits) in
      from_fitting 0 0 (failing_case arriving bad) record { length_is = refl; rows_are = f.rows_are; posts_are = refl }

  pub failing-solvable : IsSolvable (failing_case arriving bad)
  failing-solvable =
      let narrow = is_bad.narrow in
      let most : ℕ = 2 ^ 30 + (2 ^ 31 - 1) + columns in
      let all = sequence-few (2 ^ 30) (2 ^ 31 - 1) first second second-fits (one-few (2 ^ 30) 0 columns arriving few) second-few in
      let made = (recursion_from_All (λ (c : Case). c.aux ≤ most) (sequence_of_cases arriving bad ∷ []) all).0 in
      fits-solvable 0 0 (failing_case arriving bad) failing-fits (omega (arith, narrow, made))

  pub failing-canonical : AreCanonical arriving.rows → AreCanonical (failing_case arriving bad).rows
  failing-canonical canonical =
      (recursion_from_All (λ (c : Case). AreCanonical c.rows) (sequence_of_cases arriving bad ∷ [])
      (sequence-canonical first second (All-from_recursion (λ (c : Case). AreCanonical c.rows) (arriving ∷ []) (canonical, tt)))).0

  -- it holds where the step arrives and the condition is false
  pub failing-holds : (middle after : List ℤ) → HoldsCase arriving [] middle → HoldsCase bad middle after → HoldsCase (failing_case arriving bad) [] []
  failing-holds middle after one two =
      let held = cases-hold 0 columns columns arriving bad (fitting 0 columns arriving fit) (fitting columns columns bad is_bad.fits) [] middle after one two in
      (held.0, record { rows = held.1.rows; posts = refl })

-- ---- as the code makes it

module _ (a b f : Transition) (bad : Case) (is : IsArrival a) (same : b ≡ formula_of_case a.to a.to bad) where
  pub made-case : f ≡ sequence_of a b → f.cases ≡ sequence_of_cases (only_case a) bad ∷ []
  made-case made = ap (λ (g : Transition). g.cases) made ∙ (λ i. Transition.cases (sequence_of (is.is i) (same i)))

  pub made-losses : losses_in_sequence a b ≡ losses_by (after_case (only_case a) bad) bad
  made-losses =
      (λ i. losses_in_sequence (is.is i) (same i))
      ∙ append-nil (losses_by (after_case (only_case a) bad) bad ++ [])
      ∙ append-nil (losses_by (after_case (only_case a) bad) bad)

  pub made-few : IsFailure a.to bad → AreFew a b
  made-few is_bad = subst (AreFew a) (sym same) (subst (λ g. AreFew g (formula_of_case a.to a.to bad)) (sym is.is) (pairs-few a.to (only_case a) bad is.fits is.few is_bad))

-- a formula of one case that is made is one
pub arrival-of : (columns : ℕ) (f : Transition) (case : Case) → IsTrue (fits 0 columns case) → case.aux ≤ most_step_auxiliaries → f ≡ formula_of_case 0 columns case → IsArrival f
arrival-of columns f case fit few e = subst IsArrival (sym e) record { is = refl; fits = fit; few = few }

-- the falsity of a condition, as it is made
pub failures-of : (columns : ℕ) (f : Transition) (cases : List Case) → columns ≤ 63 → f.from ≡ columns → f.to ≡ columns → f.cases ≡ cases → IsTransition f.from f.to cases → All (λ (case : Case). case.aux < 2 ^ 31) f.cases → AreFailures columns f
failures-of columns f cases narrow from to same fit few =
    let all : IsTransition columns columns f.cases = subst (λ cs. IsTransition columns columns cs) (sym same) (subst (λ n. IsTransition columns n cases) to (subst (λ n. IsTransition n f.to cases) from fit)) in
    let each = each_from_test (fits columns columns) (λ (case : Case). IsTrue (fits columns columns case)) (λ case k. k) f.cases all in
    record {
      from = from;
      each =
          each-more (λ (case : Case). IsTrue (fits columns columns case) × (case.aux < 2 ^ 31)) (IsFailure columns) (λ case k. record { narrow = narrow; fits = k.0; few = k.1 }) f.cases
          (each-both (λ (case : Case). IsTrue (fits columns columns case)) (λ (case : Case). case.aux < 2 ^ 31) f.cases each (recursion_from_All (λ (case : Case). case.aux < 2 ^ 31) f.cases few));
    }

-- the case that arrives, as the code makes it
pub arriving-made : (columns : ℕ) (given : List Row) (case : Case) (posts behind made : List Polynomial) → posts ≡ case.post → behind ≡ drop columns posts → made ≡ behind
    → record { aux = case.aux; rows = given; post = made } ≡ arriving_case columns given case
arriving-made columns given case posts behind made same cut copied = λ i. record { aux = case.aux; rows = given; post = (copied ∙ cut ∙ ap (drop columns) same) i }

-- what holds whatever a call answers
pub on_ok-any : {A E : Type 0} {P : Type 0} (r : Result A E) → P → OnOk r P
on_ok-any (Ok x) holds = holds
on_ok-any (Err e) holds = tt
