-- The cases of an expression have few auxiliaries, and no columns but these and those of the
-- expression.
use Rattle.std.proofs.Common.{◌≡◌, ℕ, zero, suc, ◌+◌, ◌≤◌, Bool, true, false, ℤ, pos, negsuc, map, List, [], ◌∷◌, Ok, Err, refl, ◌∙◌, arith}
use Rattle.std.specs.Prelude.{IsTrue, slice_get, unwrap_or}
use Rattle.std.specs.List.{AllByRecursion, list_all, flat_map, cons_option}
use Rattle.std.proofs.lemmas.List.Folds.{list_all-append}
use Rattle.items.specs.Gives.{◌>>=◌}
use Rattle.items.proofs.Gives.{on_ok}
use Rattle.items.proofs.Each.{each-flat_map, each-map, each-any}
use Rattle.linear_terms.specs.declared.col.Col.{Col}
use Rattle.linear_terms.specs.declared.col.Col.TheVariants.{At, Aux}
use Rattle.linear_terms.specs.declared.row.Case.{Case}
use Rattle.linear_terms.specs.Auxiliaries.{renumbered_polynomial, renumbered_column}
use Rattle.linear_terms.specs.Polynomial.{Polynomial, column_of, constant_of}
use Rattle.linear_terms.specs.Operations.{multiple_of, sum_of_polys, product_of_polys, difference_of_polys}
use Rattle.linear_terms.proofs.Columns.{multiple_of-each, product_of_polys-each, sum_of_polys-each}
use Rattle.transition_formula.specs.Composition.{row_of}
use Rattle.transition_formula.specs.Renumbering.{renumbered_row}
use Rattle.transition_formula.specs.Transition.{every_column, is_below}
use Rattle.transition_formula.proofs.ColumnTests.{both, both_true, columns_from_test, test_from_columns, more_columns, more_columns_of, all_more}
use Rattle.transition_formula.proofs.Fitting.{below-true, true-below, is_below-more}
use Rattle.leaf_cases.specs.declared.division.DivisionPart.{DivisionPart}
use Rattle.leaf_cases.specs.declared.division.DivisionPart.TheVariants.{Quotient, Remainder}
use Rattle.leaf_cases.specs.declared.division.Signs.{Signs}
use Rattle.leaf_cases.specs.declared.step.Arithmetic.{Arithmetic}
use Rattle.leaf_cases.specs.declared.step.Arithmetic.TheVariants.{Negate, Sum, Difference, Product}
use Rattle.leaf_cases.specs.declared.step.TestRelation.{TestRelation}
use Rattle.leaf_cases.specs.declared.step.TestRelation.TheVariants.{Less, LessOrEqual, Greater, GreaterOrEqual, Same, Negative, Positive, Zero}
use Rattle.leaf_cases.specs.declared.step.CaseStep.{CaseStep}
use Rattle.leaf_cases.specs.declared.step.CaseStep.TheVariants.{Value, Divide, Test}
use Rattle.leaf_cases.specs.Claims.{Answer, Claim, rows_of, case_with_claims, case_with_value}
use Rattle.leaf_cases.specs.Division.{one, minus_one, equation, divisor_sign, dividend_sign, lower_bound, upper_bound, division, all_signs}
use Rattle.leaf_cases.specs.Listed.{beside}
use Rattle.leaf_cases.specs.Listed as listed
use Rattle.leaf_cases.specs.Steps.{one_more, operand, value_at, test_at, test_claim, division_at, part_at, cases_of_step, cases_by, with_number}

-- ---- lists

mapped-passes : {X Y : Type 0} (f : X → Y) (s : X → Bool) (t : Y → Bool) → ((x : X) → IsTrue (s x) → IsTrue (t (f x))) → (xs : List X) → IsTrue (list_all s xs) → IsTrue (list_all t (map f xs))
mapped-passes f s t tells [] h = refl
mapped-passes f s t tells (x ∷ xs) h = let parts = both (s x) (list_all s xs) h in both_true (t (f x)) (list_all t (map f xs)) (tells x parts.0) (mapped-passes f s t tells xs parts.1)

renumbered-passes : (number : ℕ → ℕ) (s t : Col → Bool) → ((c : Col) → IsTrue (s c) → IsTrue (t (renumbered_column number c))) → (p : Polynomial) → IsTrue (every_column s p) → IsTrue (every_column t (renumbered_polynomial number p))
renumbered-passes number s t tells p = mapped-passes (λ u. (map (renumbered_column number) u.0, u.1)) (λ u. list_all s u.0) (λ u. list_all t u.0) (λ u. mapped-passes (renumbered_column number) s t tells u.0) p.terms

-- ---- answers whose columns pass a test

pub record Covers (t : Col → Bool) (r : Answer) : Type 0 where
  pub is : (p : Polynomial) → r ≡ Ok p → IsTrue (every_column t p)

module _ (t : Col → Bool) where
  sum-covered : (a b : Polynomial) → IsTrue (every_column t a) → IsTrue (every_column t b) → Covers t (sum_of_polys a b)
  sum-covered a b h k = record { is = λ p e. test_from_columns t p (sum_of_polys-each (λ c. IsTrue (t c)) a b p e (columns_from_test t a h) (columns_from_test t b k)) }

  multiple-covered : (a : Polynomial) (by : ℤ) → IsTrue (every_column t a) → Covers t (multiple_of a by)
  multiple-covered a by h = record { is = λ p e. test_from_columns t p (multiple_of-each (λ c. IsTrue (t c)) a by p e (columns_from_test t a h)) }

  product-covered : (a b : Polynomial) → IsTrue (every_column t a) → IsTrue (every_column t b) → Covers t (product_of_polys a b)
  product-covered a b h k = record { is = λ p e. test_from_columns t p (product_of_polys-each (λ c. IsTrue (t c)) a b p e (columns_from_test t a h) (columns_from_test t b k)) }

  bind-covered : (r : Answer) (f : Polynomial → Answer) → Covers t r → ((p : Polynomial) → IsTrue (every_column t p) → Covers t (f p)) → Covers t (r >>= f)
  bind-covered r f h tells = record { is = λ p e. on_ok r f p e (λ x g k. (tells x (h.is x g)).is p k) }

  difference-covered : (a b : Polynomial) → IsTrue (every_column t a) → IsTrue (every_column t b) → Covers t (difference_of_polys a b)
  difference-covered a b h k = bind-covered (multiple_of b (negsuc 0)) (λ turned. sum_of_polys a turned) (multiple-covered b (negsuc 0) k) (λ m l. sum-covered a m h l)

  value-covered : (arithmetic : Arithmetic) (a b : Polynomial) → IsTrue (every_column t a) → IsTrue (every_column t b) → Covers t (value_at arithmetic a b)
  value-covered Negate a b h k = multiple-covered a (negsuc 0) h
  value-covered Sum a b h k = sum-covered a b h k
  value-covered Difference a b h k = difference-covered a b h k
  value-covered Product a b h k = product-covered a b h k

  one_more-covered : (a b : Polynomial) → IsTrue (every_column t a) → IsTrue (every_column t b) → Covers t (one_more a b)
  one_more-covered a b h k = bind-covered (difference_of_polys a b) (λ d. sum_of_polys d one) (difference-covered a b h k) (λ d l. sum-covered d one l refl)

  test-covered : (relation : TestRelation) (a b : Polynomial) → IsTrue (every_column t a) → IsTrue (every_column t b) → Covers t (test_at relation a b)
  test-covered Less a b h k = one_more-covered a b h k
  test-covered LessOrEqual a b h k = difference-covered a b h k
  test-covered Greater a b h k = one_more-covered b a k h
  test-covered GreaterOrEqual a b h k = difference-covered b a k h
  test-covered Same a b h k = difference-covered a b h k
  test-covered Negative a b h k = difference-covered a minus_one h refl
  test-covered Positive a b h k = difference-covered one a refl h
  test-covered Zero a b h k = difference-covered a (constant_of (pos 0)) h refl

  divisor-covered : (sign : Bool) (b : Polynomial) → IsTrue (every_column t b) → Covers t (divisor_sign sign b)
  divisor-covered true b h = difference-covered one b refl h
  divisor-covered false b h = difference-covered b minus_one h refl

  dividend-covered : (sign : Bool) (a : Polynomial) → IsTrue (every_column t a) → Covers t (dividend_sign sign a)
  dividend-covered true a h = difference-covered (constant_of (pos 0)) a refl h
  dividend-covered false a h = difference-covered a minus_one h refl

  lower-covered : (divisor dividend : Bool) (b r : Polynomial) → IsTrue (every_column t b) → IsTrue (every_column t r) → Covers t (lower_bound divisor dividend b r)
  lower-covered true true b r h k = difference-covered (constant_of (pos 0)) r refl k
  lower-covered false true b r h k = difference-covered (constant_of (pos 0)) r refl k
  lower-covered true false b r h k =
      bind-covered (multiple_of b (negsuc 0)) (λ turned. sum_of_polys turned one >>= λ least. difference_of_polys least r) (multiple-covered b (negsuc 0) h)
      (λ m l. bind-covered (sum_of_polys m one) (λ least. difference_of_polys least r) (sum-covered m one l refl) (λ least n. difference-covered least r n k))
  lower-covered false false b r h k = bind-covered (sum_of_polys b one) (λ least. difference_of_polys least r) (sum-covered b one h refl) (λ least n. difference-covered least r n k)

  upper-covered : (divisor dividend : Bool) (b r : Polynomial) → IsTrue (every_column t b) → IsTrue (every_column t r) → Covers t (upper_bound divisor dividend b r)
  upper-covered true false b r h k = difference-covered r (constant_of (pos 0)) k refl
  upper-covered false false b r h k = difference-covered r (constant_of (pos 0)) k refl
  upper-covered true true b r h k = bind-covered (difference_of_polys b one) (λ most. difference_of_polys r most) (difference-covered b one h refl) (λ most n. difference-covered r most k n)
  upper-covered false true b r h k =
      bind-covered (multiple_of b (negsuc 0)) (λ turned. difference_of_polys turned one >>= λ most. difference_of_polys r most) (multiple-covered b (negsuc 0) h)
      (λ m l. bind-covered (difference_of_polys m one) (λ most. difference_of_polys r most) (difference-covered m one l refl) (λ most n. difference-covered r most k n))

  equation-covered : (a b q r : Polynomial) → IsTrue (every_column t a) → IsTrue (every_column t b) → IsTrue (every_column t q) → IsTrue (every_column t r) → Covers t (equation a b q r)
  equation-covered a b q r h k l m =
      bind-covered (product_of_polys q b) (λ p. difference_of_polys a p >>= λ d. difference_of_polys d r) (product-covered q b l k)
      (λ p n. bind-covered (difference_of_polys a p) (λ d. difference_of_polys d r) (difference-covered a p h n) (λ d o. difference-covered d r o m))

  pub division-covered : (signs : Signs) (a b q r : Polynomial) → IsTrue (every_column t a) → IsTrue (every_column t b) → IsTrue (every_column t q) → IsTrue (every_column t r)
      → AllByRecursion (λ claim. Covers t claim.poly) (division signs a b q r)
  division-covered signs a b q r h k l m = (
    equation-covered a b q r h k l m,
    (divisor-covered signs.divisor b k, (dividend-covered signs.dividend a h, (lower-covered signs.divisor signs.dividend b r k m, (upper-covered signs.divisor signs.dividend b r k m, tt)))),
  )

  pub rows_of-covered : (claims : List Claim) → AllByRecursion (λ claim. Covers t claim.poly) claims → IsTrue (list_all (λ row. every_column t row.poly) (rows_of claims))
  rows_of-covered [] h = refl
  rows_of-covered (claim ∷ claims) h = go claim.poly refl (rows_of-covered claims h.1)
    where
      go : (r : Answer) → claim.poly ≡ r → IsTrue (list_all (λ row. every_column t row.poly) (rows_of claims)) → IsTrue (list_all (λ row. every_column t row.poly) (cons_option (row_of claim.kind r) (rows_of claims)))
      go (Ok p) e rest = both_true (every_column t p) (list_all (λ row. every_column t row.poly) (rows_of claims)) (h.0.is p e) rest
      go (Err d) e rest = rest

  pub column_passes : (c : Col) → IsTrue (t c) → IsTrue (every_column t (column_of c))
  column_passes c h = test_from_columns t (column_of c) ((h, tt), tt)

  pub got-covered : (posts : List Polynomial) (n : ℕ) → IsTrue (list_all (every_column t) posts) → IsTrue (every_column t (unwrap_or (slice_get posts n) (constant_of (pos 0))))
  got-covered [] n h = refl
  got-covered (p ∷ posts) zero h = (both (every_column t p) (list_all (every_column t) posts) h).0
  got-covered (p ∷ posts) (suc n) h = got-covered posts n (both (every_column t p) (list_all (every_column t) posts) h).1

-- ---- a case

-- it has at most so many auxiliaries, and no columns but these and the first ones of the state
pub record Sits (columns most : ℕ) (case : Case) : Type 0 where
  pub few : case.aux ≤ most
  pub rows_are : IsTrue (list_all (λ row. every_column (is_below columns case.aux) row.poly) case.rows)
  pub posts_are : IsTrue (list_all (every_column (is_below columns case.aux)) case.post)

pub sits-more : (columns most more : ℕ) → most ≤ more → (case : Case) → Sits columns most case → Sits columns more case
sits-more columns most more le case s = let few = s.few in record { few = omega arith; rows_are = s.rows_are; posts_are = s.posts_are }

module _ (columns : ℕ) where
  moved-below : (a b : ℕ) (c : Col) → IsTrue (is_below columns b c) → IsTrue (is_below columns (a + b) (renumbered_column (λ n. a + n) c))
  moved-below a b (At m) h = h
  moved-below a b (Aux m) h = let lt = true-below m b h in below-true (a + m) (a + b) (omega arith)

  pub sits-beside : (j k : ℕ) (a b : Case) → Sits columns j a → Sits columns k b → Sits columns (j + k) (beside a b)
  sits-beside j k a b s u =
      let all = is_below columns (a.aux + b.aux) in
      let wider = is_below-more columns a.aux (a.aux + b.aux) (omega arith) in
      let few = s.few in
      let few' = u.few in
      record {
        few = omega arith;
        rows_are =
            list_all-append (λ row. every_column all row.poly) a.rows (map (renumbered_row (λ n. a.aux + n)) b.rows)
            ∙ both_true (list_all (λ row. every_column all row.poly) a.rows) (list_all (λ row. every_column all row.poly) (map (renumbered_row (λ n. a.aux + n)) b.rows))
            (more_columns_of (is_below columns a.aux) all wider a.rows s.rows_are)
            (mapped-passes (renumbered_row (λ n. a.aux + n)) (λ row. every_column (is_below columns b.aux) row.poly) (λ row. every_column all row.poly)
            (λ row. renumbered-passes (λ n. a.aux + n) (is_below columns b.aux) all (moved-below a.aux b.aux) row.poly) b.rows u.rows_are);
        posts_are =
            list_all-append (every_column all) a.post (map (renumbered_polynomial (λ n. a.aux + n)) b.post)
            ∙ both_true (list_all (every_column all) a.post) (list_all (every_column all) (map (renumbered_polynomial (λ n. a.aux + n)) b.post))
            (all_more (every_column (is_below columns a.aux)) (every_column all) (more_columns (is_below columns a.aux) all wider) a.post s.posts_are)
            (mapped-passes (renumbered_polynomial (λ n. a.aux + n)) (every_column (is_below columns b.aux)) (every_column all) (renumbered-passes (λ n. a.aux + n) (is_below columns b.aux) all (moved-below a.aux b.aux)) b.post u.posts_are);
      }

  pub sits-both : (j k : ℕ) (firsts seconds : List Case) → AllByRecursion (Sits columns j) firsts → AllByRecursion (Sits columns k) seconds → AllByRecursion (Sits columns (j + k)) (listed.both firsts seconds)
  unfolding listed.both
  sits-both j k firsts seconds h l = each-flat_map (Sits columns j) (Sits columns (j + k)) (λ a. map (beside a) seconds) (λ a s. each-map (Sits columns k) (Sits columns (j + k)) (beside a) (λ b u. sits-beside j k a b s u) seconds l) firsts h

  pub sits-limited : (most more : ℕ) (case : Case) (claims : List Claim) (post : List Polynomial) → Sits columns most case
      → AllByRecursion (λ claim. Covers (is_below columns (case.aux + more)) claim.poly) claims → IsTrue (list_all (every_column (is_below columns (case.aux + more))) post)
      → Sits columns (most + more) (case_with_claims case more claims post)
  sits-limited most more case claims post s h k =
      let all = is_below columns (case.aux + more) in
      let few = s.few in
      record {
        few = omega arith;
        rows_are =
            list_all-append (λ row. every_column all row.poly) case.rows (rows_of claims)
            ∙ both_true (list_all (λ row. every_column all row.poly) case.rows) (list_all (λ row. every_column all row.poly) (rows_of claims))
            (more_columns_of (is_below columns case.aux) all (is_below-more columns case.aux (case.aux + more) (omega arith)) case.rows s.rows_are) (rows_of-covered all claims h);
        posts_are = k;
      }

  operand-covered : (most more n : ℕ) (case : Case) → Sits columns most case → IsTrue (every_column (is_below columns (case.aux + more)) (operand n case))
  operand-covered most more n case s =
      let all = is_below columns (case.aux + more) in
      got-covered all case.post n
      (all_more (every_column (is_below columns case.aux)) (every_column all) (more_columns (is_below columns case.aux) all (is_below-more columns case.aux (case.aux + more) (omega arith))) case.post s.posts_are)

  one-post : (t : Col → Bool) (p : Polynomial) → IsTrue (every_column t p) → IsTrue (list_all (every_column t) (p ∷ []))
  one-post t p h = both_true (every_column t p) true h refl

  pub sits-valued : (most : ℕ) (case : Case) (r : Answer) → Sits columns most case → Covers (is_below columns (case.aux + 0)) r → Sits columns (most + 2) (case_with_value case r)
  sits-valued most case (Ok p) s h =
      sits-more columns (most + 0) (most + 2) (omega arith) (case_with_value case (Ok p)) (sits-limited most 0 case [] (p ∷ []) s tt (one-post (is_below columns (case.aux + 0)) p (h.is p refl)))
  sits-valued most case (Err e) s h =
      let t = is_below columns (case.aux + 1) in
      sits-more columns (most + 1) (most + 2) (omega arith) (case_with_value case (Err e))
      (sits-limited most 1 case [] (column_of (Aux case.aux) ∷ []) s tt (one-post t (column_of (Aux case.aux)) (column_passes t (Aux case.aux) (below-true case.aux (case.aux + 1) (omega arith)))))

  part-below : (part : DivisionPart) (aux : ℕ) → IsTrue (is_below columns (aux + 2) (Aux (part_at part aux)))
  part-below Quotient aux = below-true aux (aux + 2) (omega arith)
  part-below Remainder aux = below-true (aux + 1) (aux + 2) (omega arith)

  pub sits-step : (most : ℕ) (step : CaseStep) (case : Case) → Sits columns most case → AllByRecursion (Sits columns (most + 2)) (cases_of_step step case)
  sits-step most (Value arithmetic) case s =
      (sits-valued most case (value_at arithmetic (operand 0 case) (operand 1 case)) s (value-covered (is_below columns (case.aux + 0)) arithmetic (operand 0 case) (operand 1 case) (operand-covered most 0 0 case s) (operand-covered most 0 1 case s)), tt)
  sits-step most (Divide part) case s =
      let t = is_below columns (case.aux + 2) in
      each-map (λ signs. Unit {0}) (Sits columns (most + 2)) (λ signs. case_with_claims case 2 (division_at signs case) (column_of (Aux (part_at part case.aux)) ∷ []))
      (λ signs _. sits-limited most 2 case (division_at signs case) (column_of (Aux (part_at part case.aux)) ∷ []) s
      (division-covered t signs (operand 0 case) (operand 1 case) (column_of (Aux case.aux)) (column_of (Aux (case.aux + 1))) (operand-covered most 2 0 case s) (operand-covered most 2 1 case s)
      (column_passes t (Aux case.aux) (part-below Quotient case.aux)) (column_passes t (Aux (case.aux + 1)) (part-below Remainder case.aux)))
      (one-post t (column_of (Aux (part_at part case.aux))) (column_passes t (Aux (part_at part case.aux)) (part-below part case.aux))))
      all_signs (each-any (λ signs. Unit {0}) (λ signs. tt) all_signs)
  sits-step most (Test relation) case s =
      let t = is_below columns (case.aux + 0) in (
        sits-more columns (most + 0) (most + 2) (omega arith) (case_with_claims case 0 (test_claim relation case ∷ []) [])
            (sits-limited most 0 case (test_claim relation case ∷ []) [] s (test-covered t relation (operand 0 case) (operand 1 case) (operand-covered most 0 0 case s) (operand-covered most 0 1 case s), tt) refl),
        tt,
      )

  pub sits-cases_by : (most : ℕ) (steps : List CaseStep) (cases : List Case) → AllByRecursion (Sits columns most) cases → AllByRecursion (Sits columns (most + 2)) (cases_by steps cases)
  unfolding cases_by
  sits-cases_by most steps cases h =
      each-flat_map (λ step. Unit {0}) (Sits columns (most + 2)) (λ step. flat_map (cases_of_step step) cases)
      (λ step _. each-flat_map (Sits columns most) (Sits columns (most + 2)) (cases_of_step step) (λ case s. sits-step most step case s) cases h) steps (each-any (λ step. Unit {0}) (λ step. tt) steps)

  pub sits-numbered : (most : ℕ) (value : ℤ) (cases : List Case) → AllByRecursion (Sits columns most) cases → AllByRecursion (Sits columns most) (map (with_number value) cases)
  sits-numbered most value cases h =
      each-map (Sits columns most) (Sits columns most) (with_number value)
      (λ case s. sits-more columns (most + 0) most (omega arith) (with_number value case) (sits-limited most 0 case [] (constant_of value ∷ []) s tt refl)) cases h
