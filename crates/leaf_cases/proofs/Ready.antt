-- The cases that the code makes have few auxiliaries, numbered below their count.
use Rattle.std.proofs.Common.{◌≡◌, ℕ, ◌+◌, ◌*◌, ◌<◌, ◌≤◌, ◌^◌, true, pos, map, List, [], ◌∷◌, ◌++◌, refl, sym, ap, subst, ◌∙◌, arith}
use Rattle.std.specs.Prelude.{IsTrue, nat_lt}
use Rattle.std.specs.List.{AllByRecursion, list_all}
use Rattle.items.proofs.Each.{each-append, each-more}
use Rattle.linear_terms.specs.declared.col.Col as col
use Rattle.linear_terms.specs.declared.col.Col.TheVariants.{At, Aux}
use Rattle.linear_terms.specs.declared.row.Case.{Case}
use Rattle.linear_terms.specs.Auxiliaries.{is_numbered}
use Rattle.linear_terms.specs.Polynomial.{column_of, constant_of}
use Rattle.syntax_tree.specs.declared.op.Op.{Op}
use Rattle.syntax_tree.specs.declared.op.Op.TheVariants.{Add, Sub, Mul, Div, Rem, Lt, Le, Gt, Ge, Eq, Ne, And, Or}
use Rattle.syntax_tree.specs.declared.op.Sign.{Sign}
use Rattle.syntax_tree.specs.declared.op.Sign.TheVariants.{Plus, Minus, Not}
use Rattle.syntax_tree.specs.Term.{Term, Lit, Col, Unary, Binary}
use Rattle.syntax_tree.specs.WellFormed.{columns_below, operators_of}
use Rattle.transition_formula.specs.Transition.{every_column, every_column_of, is_below}
use Rattle.transition_formula.proofs.ColumnTests.{both, both_true, more_columns, more_columns_of, all_more, test_from_each}
use Rattle.transition_formula.proofs.Fitting.{below-true, true-below}
use Rattle.leaf_cases.specs.declared.division.DivisionPart.TheVariants.{Quotient, Remainder}
use Rattle.leaf_cases.specs.declared.expression.Sought.{Sought}
use Rattle.leaf_cases.specs.declared.expression.Sought.TheVariants as sought
use Rattle.leaf_cases.specs.declared.step.Arithmetic.TheVariants.{Negate, Sum, Difference, Product}
use Rattle.leaf_cases.specs.declared.step.TestRelation.TheVariants.{Negative, Positive, Zero}
use Rattle.leaf_cases.specs.declared.step.CaseStep.{CaseStep}
use Rattle.leaf_cases.specs.declared.step.CaseStep.TheVariants.{Value, Divide, Test}
use Rattle.leaf_cases.specs.Expression.{Lists, of_number, of_test, sign_lists, calculation_lists, comparison_list, comparison, opposite, tests_of, operator_lists, lists_of, sought_in, one_case}
use Rattle.leaf_cases.specs.Listed.{Listed, AreFew, AreReady, is_ready}
use Rattle.leaf_cases.specs.Listed as listed
use Rattle.leaf_cases.specs.Steps.{cases_by, with_number}
use Rattle.leaf_cases.proofs.CaseColumns.{Sits, sits-more, sits-both, sits-cases_by, sits-numbered, column_passes}

-- ---- the cases of an expression

pub record SitLists (columns n : ℕ) (lists : Lists) : Type 0 where
  pub value : AllByRecursion (Sits columns n) lists.value.cases
  pub truth : AllByRecursion (Sits columns (n + 2)) lists.truth.cases
  pub falsity : AllByRecursion (Sits columns (n + 2)) lists.falsity.cases

module _ (columns : ℕ) where
  wider : (n m : ℕ) → n ≤ m → (cases : List Case) → AllByRecursion (Sits columns n) cases → AllByRecursion (Sits columns m) cases
  wider n m le cases h = each-more (Sits columns n) (Sits columns m) (sits-more columns n m le) cases h

  sit-more : (n m : ℕ) → n ≤ m → (lists : Lists) → SitLists columns n lists → SitLists columns m lists
  sit-more n m le lists s =
      record {
        value = wider n m le lists.value.cases s.value;
        truth = wider (n + 2) (m + 2) (omega arith) lists.truth.cases s.truth;
        falsity = wider (n + 2) (m + 2) (omega arith) lists.falsity.cases s.falsity;
      }

  sit-number : (n : ℕ) (v : Listed) → AllByRecursion (Sits columns n) v.cases → SitLists columns n (of_number v)
  sit-number n v h =
      record {
        value = h;
        truth = sits-cases_by columns n (Test Negative ∷ Test Positive ∷ []) v.cases h;
        falsity = sits-cases_by columns n (Test Zero ∷ []) v.cases h;
      }

  sit-test : (n : ℕ) (t f : Listed) → AllByRecursion (Sits columns n) t.cases → AllByRecursion (Sits columns n) f.cases → SitLists columns n (of_test t f)
  sit-test n t f h k =
      record {
        value = each-append (Sits columns n) (map (with_number (pos 1)) t.cases) (map (with_number (pos 0)) f.cases) (sits-numbered columns n (pos 1) t.cases h) (sits-numbered columns n (pos 0) f.cases k);
        truth = wider n (n + 2) (omega arith) t.cases h;
        falsity = wider n (n + 2) (omega arith) f.cases k;
      }

  sit-sign : (n : ℕ) (sign : Sign) (inner : Lists) → SitLists columns n inner → SitLists columns (n + 2) (sign_lists sign inner)
  sit-sign n Plus inner s = sit-more n (n + 2) (omega arith) (of_number inner.value) (sit-number n inner.value s.value)
  sit-sign n Minus inner s = sit-number (n + 2) _ (sits-cases_by columns n (Value Negate ∷ []) inner.value.cases s.value)
  sit-sign n Not inner s = sit-test (n + 2) inner.falsity inner.truth s.falsity s.truth

  module _ (j k : ℕ) (l r : Lists) (s : SitLists columns j l) (u : SitLists columns k r) where
    sit-calculated : (step : CaseStep) → SitLists columns (j + k + 4) (calculation_lists step l r)
    sit-calculated step =
        sit-more (j + k + 2) (j + k + 4) (omega arith) (calculation_lists step l r)
        (sit-number (j + k + 2) _ (sits-cases_by columns (j + k) (step ∷ []) (listed.both l.value.cases r.value.cases) (sits-both columns j k l.value.cases r.value.cases s.value u.value)))

    sit-compared : (op : Op) → AllByRecursion (Sits columns (j + k + 2)) (comparison_list op l r).cases
    sit-compared op = sits-cases_by columns (j + k) (tests_of op) (listed.both l.value.cases r.value.cases) (sits-both columns j k l.value.cases r.value.cases s.value u.value)

    sit-comparison : (op : Op) → SitLists columns (j + k + 4) (comparison op l r)
    sit-comparison op =
        sit-more (j + k + 2) (j + k + 4) (omega arith) (comparison op l r) (sit-test (j + k + 2) (comparison_list op l r) (comparison_list (opposite op) l r) (sit-compared op) (sit-compared (opposite op)))

    -- a logical operator: both sides together, or the left one alone
    sit-joint : (firsts seconds : List Case) → AllByRecursion (Sits columns (j + 2)) firsts → AllByRecursion (Sits columns (k + 2)) seconds → AllByRecursion (Sits columns (j + k + 4)) (listed.both firsts seconds)
    sit-joint firsts seconds h g = wider (j + 2 + (k + 2)) (j + k + 4) (omega arith) (listed.both firsts seconds) (sits-both columns (j + 2) (k + 2) firsts seconds h g)

    sit-early : (early firsts seconds : List Case) → AllByRecursion (Sits columns (j + 2)) early → AllByRecursion (Sits columns (j + 2)) firsts → AllByRecursion (Sits columns (k + 2)) seconds
        → AllByRecursion (Sits columns (j + k + 4)) (early ++ listed.both firsts seconds)
    sit-early early firsts seconds e h g = each-append (Sits columns (j + k + 4)) early (listed.both firsts seconds) (wider (j + 2) (j + k + 4) (omega arith) early e) (sit-joint firsts seconds h g)

    sit-operator : (op : Op) → SitLists columns (j + k + 4) (operator_lists op l r)
    sit-operator Add = sit-calculated (Value Sum)
    sit-operator Sub = sit-calculated (Value Difference)
    sit-operator Mul = sit-calculated (Value Product)
    sit-operator Div = sit-calculated (Divide Quotient)
    sit-operator Rem = sit-calculated (Divide Remainder)
    sit-operator Lt = sit-comparison Lt
    sit-operator Le = sit-comparison Le
    sit-operator Gt = sit-comparison Gt
    sit-operator Ge = sit-comparison Ge
    sit-operator Eq = sit-comparison Eq
    sit-operator Ne = sit-comparison Ne
    sit-operator And =
        sit-test (j + k + 4) _ _ (sit-joint l.truth.cases r.truth.cases s.truth u.truth) (sit-early l.falsity.cases l.truth.cases r.falsity.cases s.falsity s.truth u.falsity)
    sit-operator Or =
        sit-test (j + k + 4) _ _ (sit-early l.truth.cases l.falsity.cases r.truth.cases s.truth s.falsity u.truth) (sit-joint l.falsity.cases r.falsity.cases s.falsity u.falsity)

  pub sit : (e : Term) → IsTrue (columns_below columns e) → SitLists columns (4 * operators_of e) (lists_of e)
  unfolding lists_of
  sit (Lit value) h = sit-number 0 (one_case (constant_of value)) (record { few = omega arith; rows_are = refl; posts_are = refl }, tt)
  sit (Col c) h =
      sit-number 0 (one_case (column_of (At c)))
      (record { few = omega arith; rows_are = refl; posts_are = both_true (every_column (is_below columns 0) (column_of (At c))) true (column_passes (is_below columns 0) (At c) h) refl }, tt)
  sit (Unary sign inner) h =
      sit-more (4 * operators_of inner + 2) (4 * (1 + operators_of inner)) (omega arith) (sign_lists sign (lists_of inner)) (sit-sign (4 * operators_of inner) sign (lists_of inner) (sit inner h))
  sit (Binary op left right) h =
      let parts = both (columns_below columns left) (columns_below columns right) h in
      sit-more (4 * operators_of left + 4 * operators_of right + 4) (4 * (1 + operators_of left + operators_of right)) (omega arith) (operator_lists op (lists_of left) (lists_of right))
      (sit-operator (4 * operators_of left) (4 * operators_of right) (lists_of left) (lists_of right) (sit left parts.0) (sit right parts.1) op)

-- ---- any expression has its columns below some number

pub columns_below-more : (n m : ℕ) (e : Term) → n ≤ m → IsTrue (columns_below n e) → IsTrue (columns_below m e)
columns_below-more n m (Lit value) le h = refl
columns_below-more n m (Col c) le h = let lt = true-below c n h in below-true c m (omega arith)
columns_below-more n m (Unary sign inner) le h = columns_below-more n m inner le h
columns_below-more n m (Binary op left right) le h =
    let parts = both (columns_below n left) (columns_below n right) h in
    both_true (columns_below m left) (columns_below m right) (columns_below-more n m left le parts.0) (columns_below-more n m right le parts.1)

pub width_of : (e : Term) → (n : ℕ) × IsTrue (columns_below n e)
width_of (Lit value) = (0, refl)
width_of (Col c) = (c + 1, below-true c (c + 1) (omega arith))
width_of (Unary sign inner) = width_of inner
width_of (Binary op left right) =
    let a = width_of left in
    let b = width_of right in (
      a.0 + b.0,
      both_true (columns_below (a.0 + b.0) left) (columns_below (a.0 + b.0) right) (columns_below-more a.0 (a.0 + b.0) left (omega arith) a.1) (columns_below-more b.0 (a.0 + b.0) right (omega arith) b.1),
    )

-- ---- for the code

below-numbered : (columns aux : ℕ) (c : col.Col) → IsTrue (is_below columns aux c) → IsTrue (is_numbered aux c)
below-numbered columns aux (At n) h = refl
below-numbered columns aux (Aux n) h = h

is_ready-sits : (columns most limit : ℕ) → most < limit → (case : Case) → Sits columns most case → IsTrue (is_ready limit case)
is_ready-sits columns most limit lt case s =
    let few = s.few in
    both_true (nat_lt case.aux limit) (every_column_of (is_numbered case.aux) case) (below-true case.aux limit (omega arith))
    (both_true (list_all (λ row. every_column (is_numbered case.aux) row.poly) case.rows) (list_all (every_column (is_numbered case.aux)) case.post)
    (more_columns_of (is_below columns case.aux) (is_numbered case.aux) (below-numbered columns case.aux) case.rows s.rows_are)
    (all_more (every_column (is_below columns case.aux)) (every_column (is_numbered case.aux)) (more_columns (is_below columns case.aux) (is_numbered case.aux) (below-numbered columns case.aux)) case.post s.posts_are))

pub are_ready : (columns most limit : ℕ) → most < limit → (cases : List Case) → AllByRecursion (Sits columns most) cases → AreReady limit cases
are_ready columns most limit lt cases h = test_from_each (is_ready limit) (Sits columns most) (is_ready-sits columns most limit lt) cases h

pub are_few : (columns most limit : ℕ) → most < limit → (cases : List Case) → AllByRecursion (Sits columns most) cases → AreFew limit cases
are_few columns most limit lt cases h = test_from_each (λ case. nat_lt case.aux limit) (Sits columns most) (λ case s. let few = s.few in below-true case.aux limit (omega arith)) cases h

sought-sits : (columns : ℕ) (e : Term) → IsTrue (columns_below columns e) → (s : Sought) → AllByRecursion (Sits columns (4 * operators_of e + 2)) (sought_in s (lists_of e)).cases
sought-sits columns e h sought.Value =
    each-more (Sits columns (4 * operators_of e)) (Sits columns (4 * operators_of e + 2)) (sits-more columns (4 * operators_of e) (4 * operators_of e + 2) (omega arith)) (lists_of e).value.cases (sit columns e h).value
sought-sits columns e h sought.Truth = (sit columns e h).truth
sought-sits columns e h sought.Falsity = (sit columns e h).falsity

pub found_ready : (e : Term) (s : Sought) (made cases : List Case) → operators_of e ≤ 200001 → cases ≡ (sought_in s (lists_of e)).cases → made ≡ cases → AreReady (2 ^ 30) made
found_ready e s made cases few is same =
    let width = width_of e in
    subst (AreReady (2 ^ 30)) (sym (same ∙ is)) (are_ready width.0 (4 * operators_of e + 2) (2 ^ 30) (omega arith) (sought_in s (lists_of e)).cases (sought-sits width.0 e width.1 s))

pub found_few : (e : Term) (s : Sought) (made cases : List Case) → operators_of e ≤ 200001 → cases ≡ (sought_in s (lists_of e)).cases → made ≡ cases → AreFew (2 ^ 31) made
found_few e s made cases few is same =
    let width = width_of e in
    subst (AreFew (2 ^ 31)) (sym (same ∙ is)) (are_few width.0 (4 * operators_of e + 2) (2 ^ 31) (omega arith) (sought_in s (lists_of e)).cases (sought-sits width.0 e width.1 s))

pub stepped_few : (e : Term) (steps : List CaseStep) (slice cases made : List Case) → operators_of e ≤ 200001 → cases ≡ (lists_of e).value.cases → slice ≡ cases → made ≡ cases_by steps slice → AreFew (2 ^ 31) made
stepped_few e steps slice cases made few is same stepped =
    let width = width_of e in
    let all = cases_by steps (lists_of e).value.cases in
    subst (AreFew (2 ^ 31)) (sym (stepped ∙ ap (cases_by steps) (same ∙ is))) (are_few width.0 (4 * operators_of e + 2) (2 ^ 31) (omega arith) all (sits-cases_by width.0 (4 * operators_of e) steps (lists_of e).value.cases (sit width.0 e width.1).value))

module _ (l r : Term) (few_left : operators_of l ≤ 200001) (few_right : operators_of r ≤ 200001) where
  width : ℕ
  width = (width_of l).0 + (width_of r).0

  pairs-sit : AllByRecursion (Sits width (4 * operators_of l + 4 * operators_of r)) (listed.both (lists_of l).value.cases (lists_of r).value.cases)
  unfolding width
  pairs-sit =
      let a = width_of l in
      let b = width_of r in
      sits-both (a.0 + b.0) (4 * operators_of l) (4 * operators_of r) (lists_of l).value.cases (lists_of r).value.cases
      (sit (a.0 + b.0) l (columns_below-more a.0 (a.0 + b.0) l (omega arith) a.1)).value (sit (a.0 + b.0) r (columns_below-more b.0 (a.0 + b.0) r (omega arith) b.1)).value

  pub pairs_few : (made cases : List Case) → cases ≡ listed.both (lists_of l).value.cases (lists_of r).value.cases → made ≡ cases → AreFew (2 ^ 31) made
  pairs_few made cases is same =
      subst (AreFew (2 ^ 31)) (sym (same ∙ is)) (are_few width (4 * operators_of l + 4 * operators_of r) (2 ^ 31) (omega arith) (listed.both (lists_of l).value.cases (lists_of r).value.cases) pairs-sit)

  pub calculated_few : (step : CaseStep) (slice cases made : List Case) → cases ≡ listed.both (lists_of l).value.cases (lists_of r).value.cases → slice ≡ cases → made ≡ cases_by (step ∷ []) slice → AreFew (2 ^ 31) made
  calculated_few step slice cases made is same stepped =
      let pairs = listed.both (lists_of l).value.cases (lists_of r).value.cases in
      subst (AreFew (2 ^ 31)) (sym (stepped ∙ ap (cases_by (step ∷ [])) (same ∙ is)))
      (are_few width (4 * operators_of l + 4 * operators_of r + 2) (2 ^ 31) (omega arith) (cases_by (step ∷ []) pairs) (sits-cases_by width (4 * operators_of l + 4 * operators_of r) (step ∷ []) pairs pairs-sit))
