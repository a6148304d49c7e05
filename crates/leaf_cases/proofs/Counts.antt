-- How many cases the lists of an expression have: as many as are counted for it.
use Rattle.std.proofs.Common.{◌≡◌, ℕ, suc, ◌+◌, ◌*◌, pos, length, map, List, [], ◌∷◌, ◌++◌, refl, ap, ◌∙◌, arith, length-append}
use Rattle.std.specs.List.{flat_map}
use Rattle.std.proofs.lemmas.List.{length-map}
use Rattle.std.proofs.Math.Nat.{mul_assoc}
use Rattle.linear_terms.specs.declared.row.Case.{Case}
use Rattle.syntax_tree.specs.declared.cases.Cases.{Cases}
use Rattle.syntax_tree.specs.Cases as counted
use Rattle.syntax_tree.specs.declared.op.Op.{Op}
use Rattle.syntax_tree.specs.declared.op.Op.TheVariants.{Add, Sub, Mul, Div, Rem, Lt, Le, Gt, Ge, Eq, Ne, And, Or}
use Rattle.syntax_tree.specs.declared.op.Sign.{Sign}
use Rattle.syntax_tree.specs.declared.op.Sign.TheVariants.{Plus, Minus, Not}
use Rattle.syntax_tree.specs.Term.{Term, Lit, Col, Unary, Binary}
use Rattle.leaf_cases.specs.declared.division.DivisionPart.TheVariants.{Quotient, Remainder}
use Rattle.leaf_cases.specs.declared.step.Arithmetic.TheVariants.{Negate, Sum, Difference, Product}
use Rattle.leaf_cases.specs.declared.step.TestRelation.TheVariants.{Less, LessOrEqual, Greater, GreaterOrEqual, Same, Negative, Positive, Zero}
use Rattle.leaf_cases.specs.declared.step.CaseStep.{CaseStep}
use Rattle.leaf_cases.specs.declared.step.CaseStep.TheVariants.{Value, Divide, Test}
use Rattle.leaf_cases.specs.Edges.{arguments_after, arguments_of, no_values}
use Rattle.leaf_cases.specs.Expression.{Lists, of_number, of_test, sign_lists, calculation_lists, comparison_list, operator_lists, lists_of}
use Rattle.leaf_cases.specs.Listed.{Listed, beside}
use Rattle.leaf_cases.specs.Listed as listed
use Rattle.leaf_cases.specs.Steps.{cases_of_step, cases_by, with_number}

pub flat_count : {X Y : Type 0} (f : X → List Y) (n : ℕ) → ((x : X) → length (f x) ≡ n) → (xs : List X) → length (flat_map f xs) ≡ length xs * n
flat_count f n each [] = omega arith
flat_count f n each (x ∷ xs) = length-append (f x) (flat_map f xs) ∙ (λ i. each x i + flat_count f n each xs i) ∙ more n (length xs)
  where
    more : (n k : ℕ) → n + k * n ≡ suc k * n
    more n k = omega arith

length-both : (firsts seconds : List Case) → length (listed.both firsts seconds) ≡ length firsts * length seconds
unfolding listed.both
length-both firsts seconds = flat_count (λ a. map (beside a) seconds) (length seconds) (λ a. length-map seconds (beside a)) firsts

-- how many cases a step makes of one
abbrev made_count : CaseStep → ℕ
made_count (Value arithmetic) = 1
made_count (Divide part) = 4
made_count (Test relation) = 1

length-made : (step : CaseStep) (case : Case) → length (cases_of_step step case) ≡ made_count step
length-made (Value arithmetic) case = refl
length-made (Divide part) case = refl
length-made (Test relation) case = refl

one-step : (step : CaseStep) (cases : List Case) → length (cases_by (step ∷ []) cases) ≡ length cases * made_count step
unfolding cases_by
one-step step cases =
    length-append (flat_map (cases_of_step step) cases) [] ∙ nothing (length (flat_map (cases_of_step step) cases)) ∙ flat_count (cases_of_step step) (made_count step) (length-made step) cases
  where
    nothing : (n : ℕ) → n + 0 ≡ n
    nothing n = omega arith

two-steps : (step other : CaseStep) (cases : List Case) → length (cases_by (step ∷ other ∷ []) cases) ≡ length cases * made_count step + length cases * made_count other
unfolding cases_by
two-steps step other cases =
    length-append (flat_map (cases_of_step step) cases) (flat_map (cases_of_step other) cases ++ [])
    ∙ (λ i. flat_count (cases_of_step step) (made_count step) (length-made step) cases i + one i)
  where
    nothing : (n : ℕ) → n + 0 ≡ n
    nothing n = omega arith

    one : length (flat_map (cases_of_step other) cases ++ []) ≡ length cases * made_count other
    one = length-append (flat_map (cases_of_step other) cases) [] ∙ nothing (length (flat_map (cases_of_step other) cases)) ∙ flat_count (cases_of_step other) (made_count other) (length-made other) cases

record Counted (lists : Lists) (c : Cases) : Type 0 where
  value : length lists.value.cases ≡ c.value
  truth : length lists.truth.cases ≡ c.truth
  falsity : length lists.falsity.cases ≡ c.falsity

times-one : (n m : ℕ) → n ≡ m → n * 1 ≡ m
times-one n m e = omega arith

twice : (n m : ℕ) → n ≡ m → n * 1 + n * 1 ≡ 2 * m
twice n m e = omega arith

count-number : (v : Listed) (n : ℕ) → length v.cases ≡ n → Counted (of_number v) (counted.of_number n)
count-number v n e =
    record {
      value = e;
      truth = two-steps (Test Negative) (Test Positive) v.cases ∙ twice (length v.cases) n e;
      falsity = one-step (Test Zero) v.cases ∙ times-one (length v.cases) n e;
    }

count-test : (t f : Listed) (n m : ℕ) → length t.cases ≡ n → length f.cases ≡ m → Counted (of_test t f) (counted.of_test n m)
count-test t f n m e g =
    record {
      value = length-append (map (with_number (pos 1)) t.cases) (map (with_number (pos 0)) f.cases) ∙ (λ i. (length-map t.cases (with_number (pos 1)) ∙ e) i + (length-map f.cases (with_number (pos 0)) ∙ g) i);
      truth = e;
      falsity = g;
    }

count-sign : (sign : Sign) (inner : Lists) (c : Cases) → Counted inner c → Counted (sign_lists sign inner) (counted.sign_cases sign c)
count-sign Plus inner c h = count-number inner.value c.value h.value
count-sign Minus inner c h = count-number _ c.value (one-step (Value Negate) inner.value.cases ∙ times-one (length inner.value.cases) c.value h.value)
count-sign Not inner c h = count-test inner.falsity inner.truth c.falsity c.truth h.falsity h.truth

module _ (l r : Lists) (a b : Cases) (h : Counted l a) (k : Counted r b) where
  pairs : length (listed.both l.value.cases r.value.cases) ≡ a.value * b.value
  pairs = length-both l.value.cases r.value.cases ∙ (λ i. h.value i * k.value i)

  count-polynomial : (step : CaseStep) → made_count step ≡ 1 → Counted (calculation_lists step l r) (counted.of_number (a.value * b.value))
  count-polynomial step one =
      count-number _ (a.value * b.value)
      (one-step step (listed.both l.value.cases r.value.cases) ∙ ap (λ n. length (listed.both l.value.cases r.value.cases) * n) one ∙ times-one (length (listed.both l.value.cases r.value.cases)) (a.value * b.value) pairs)

  count-division : (step : CaseStep) → made_count step ≡ 4 → Counted (calculation_lists step l r) (counted.of_number (4 * (a.value * b.value)))
  count-division step four =
      count-number _ (4 * (a.value * b.value))
      (one-step step (listed.both l.value.cases r.value.cases) ∙ ap (λ n. length (listed.both l.value.cases r.value.cases) * n) four ∙ times-four (length (listed.both l.value.cases r.value.cases)) (a.value * b.value) pairs)
    where
      times-four : (n m : ℕ) → n ≡ m → n * 4 ≡ 4 * m
      times-four n m e = omega arith

  one-test : (step : CaseStep) → made_count step ≡ 1 → length (cases_by (step ∷ []) (listed.both l.value.cases r.value.cases)) ≡ a.value * b.value
  one-test step one =
      one-step step (listed.both l.value.cases r.value.cases) ∙ ap (λ n. length (listed.both l.value.cases r.value.cases) * n) one ∙ times-one (length (listed.both l.value.cases r.value.cases)) (a.value * b.value) pairs

  two-tests : length (cases_by (Test Less ∷ Test Greater ∷ []) (listed.both l.value.cases r.value.cases)) ≡ 2 * (a.value * b.value)
  two-tests = two-steps (Test Less) (Test Greater) (listed.both l.value.cases r.value.cases) ∙ twice (length (listed.both l.value.cases r.value.cases)) (a.value * b.value) pairs

  count-joint : (xs ys : Listed) (n m : ℕ) → length xs.cases ≡ n → length ys.cases ≡ m → length (listed.both xs.cases ys.cases) ≡ n * m
  count-joint xs ys n m e g = length-both xs.cases ys.cases ∙ (λ i. e i * g i)

  count-early : (early xs ys : Listed) (p n m : ℕ) → length early.cases ≡ p → length xs.cases ≡ n → length ys.cases ≡ m → length (early.cases ++ listed.both xs.cases ys.cases) ≡ p + n * m
  count-early early xs ys p n m d e g = length-append early.cases (listed.both xs.cases ys.cases) ∙ (λ i. d i + count-joint xs ys n m e g i)

  count-operator : (op : Op) → Counted (operator_lists op l r) (counted.operator_cases op a b)
  count-operator Add = count-polynomial (Value Sum) refl
  count-operator Sub = count-polynomial (Value Difference) refl
  count-operator Mul = count-polynomial (Value Product) refl
  count-operator Div = count-division (Divide Quotient) refl
  count-operator Rem = count-division (Divide Remainder) refl
  count-operator Lt = count-test (comparison_list Lt l r) (comparison_list Ge l r) _ _ (one-test (Test Less) refl) (one-test (Test GreaterOrEqual) refl)
  count-operator Le = count-test (comparison_list Le l r) (comparison_list Gt l r) _ _ (one-test (Test LessOrEqual) refl) (one-test (Test Greater) refl)
  count-operator Gt = count-test (comparison_list Gt l r) (comparison_list Le l r) _ _ (one-test (Test Greater) refl) (one-test (Test LessOrEqual) refl)
  count-operator Ge = count-test (comparison_list Ge l r) (comparison_list Lt l r) _ _ (one-test (Test GreaterOrEqual) refl) (one-test (Test Less) refl)
  count-operator Eq = count-test (comparison_list Eq l r) (comparison_list Ne l r) _ _ (one-test (Test Same) refl) two-tests
  count-operator Ne = count-test (comparison_list Ne l r) (comparison_list Eq l r) _ _ two-tests (one-test (Test Same) refl)
  count-operator And = count-test _ _ _ _ (count-joint l.truth r.truth a.truth b.truth h.truth k.truth) (count-early l.falsity l.truth r.falsity a.falsity a.truth b.falsity h.falsity h.truth k.falsity)
  count-operator Or = count-test _ _ _ _ (count-early l.truth l.falsity r.truth a.truth a.falsity b.truth h.truth h.falsity k.truth) (count-joint l.falsity r.falsity a.falsity b.falsity h.falsity k.falsity)

count : (e : Term) → Counted (lists_of e) (counted.cases_of e)
unfolding lists_of
count (Lit value) = count-number _ 1 refl
count (Col col) = count-number _ 1 refl
count (Unary sign inner) = count-sign sign (lists_of inner) (counted.cases_of inner) (count inner)
count (Binary op left right) = count-operator (lists_of left) (lists_of right) (counted.cases_of left) (counted.cases_of right) (count left) (count right) op

pub value-count : (e : Term) → length (lists_of e).value.cases ≡ (counted.cases_of e).value
value-count e = (count e).value

pub truth-count : (e : Term) → length (lists_of e).truth.cases ≡ (counted.cases_of e).truth
truth-count e = (count e).truth

after-count : (made : Listed) (args : List Term) → length (arguments_after made args).cases ≡ length made.cases * counted.joint_cases args
after-count made [] = omega arith
after-count made (e ∷ rest) =
    after-count record { cases = listed.both made.cases (lists_of e).value.cases; lost = made.lost ++ (lists_of e).value.lost } rest
    ∙ ap (λ n. n * counted.joint_cases rest) (length-both made.cases (lists_of e).value.cases ∙ ap (λ n. length made.cases * n) (value-count e))
    ∙ mul_assoc (length made.cases) (counted.cases_of e).value (counted.joint_cases rest)

pub arguments-count : (args : List Term) → length (arguments_of args).cases ≡ counted.joint_cases args
unfolding arguments_of
arguments-count args = after-count no_values args ∙ once (counted.joint_cases args)
  where
    once : (n : ℕ) → 1 * n ≡ n
    once n = omega arith
