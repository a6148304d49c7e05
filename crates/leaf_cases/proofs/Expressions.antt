-- The cases of an expression mean its value, its truth and its falsity.
use Rattle.std.proofs.Common.{◌≡◌, ◌≢◌, ◌⊎◌, inl, inr, ℕ, zero, suc, Bool, true, false, ℤ, pos, negsuc, ◌+ℤ◌, ◌-ℤ◌, ◌*ℤ◌, ◌≤ℤ◌, cond, List, [], ◌∷◌, ◌++◌, Option, Some, None, refl, sym, ap, subst, ◌∙◌, arith}
use Rattle.std.specs.Prelude.{IsTrue, int_div, int_lt, int_le, not, ◌&&◌, ◌||◌, slice_index_or}
use Rattle.std.specs.Ordering.{int_eq}
use Rattle.std.proofs.lemmas.Int.{ints, by_lt_z}
use Rattle.std.proofs.lemmas.Bool.Decides.{Decides-int_eq}
use Rattle.std.proofs.lemmas.Option.{unwrap_or-slice_get}
use Rattle.linear_terms.specs.declared.col.Col.TheVariants.{At}
use Rattle.linear_terms.specs.Polynomial.{column_of, constant_of}
use Rattle.syntax_tree.specs.declared.op.Op.{Op}
use Rattle.syntax_tree.specs.declared.op.Op.TheVariants.{Add, Sub, Mul, Div, Rem, Lt, Le, Gt, Ge, Eq, Ne, And, Or}
use Rattle.syntax_tree.specs.declared.op.Sign.{Sign}
use Rattle.syntax_tree.specs.declared.op.Sign.TheVariants.{Plus, Minus, Not}
use Rattle.syntax_tree.specs.Term.{Term, Lit, Col, Unary, Binary}
use Rattle.syntax_tree.specs.Value.{State, value_of, with_number, or_else, early_value, result_of, if_divisor, unary_value, truth_value, is_true}
use Rattle.syntax_tree.specs.WellFormed.{columns_below}
use Rattle.transition_formula.specs.Meaning.{numbers}
use Rattle.transition_formula.proofs.ColumnTests.{both}
use Rattle.transition_formula.proofs.Values.{column-value}
use Rattle.leaf_cases.specs.declared.division.DivisionPart.TheVariants.{Quotient, Remainder}
use Rattle.leaf_cases.specs.declared.step.Arithmetic.TheVariants.{Negate, Sum, Difference, Product}
use Rattle.leaf_cases.specs.declared.step.TestRelation.TheVariants.{Negative, Positive, Zero}
use Rattle.leaf_cases.specs.declared.step.CaseStep.{CaseStep}
use Rattle.leaf_cases.specs.declared.step.CaseStep.TheVariants.{Value, Divide, Test}
use Rattle.leaf_cases.specs.Expression.{Lists, by, one_case, number_cases, of_number, of_test, sign_lists, calculation_lists, comparison_list, comparison, opposite, tests_of, operator_lists, lists_of}
use Rattle.leaf_cases.specs.Listed.{Listed, together, either}
use Rattle.leaf_cases.proofs.StepCases.{Stepped, Numbered, SomeGives, constant-value}
use Rattle.leaf_cases.proofs.CaseMeanings.{Means, OneOf, Known, means-as, means-together, means-either, means-by, means-numbered, means-known}
use Rattle.leaf_cases.proofs.Ready.{sit}
use Rattle.leaf_cases.proofs.StepClaims.{StepGives, first_of, second_of}
use Rattle.leaf_cases.proofs.Together.{Both}

-- ---- the values of an expression

pub record ValueIs (e : Term) (s z : List ℤ) : Type 0 where
  pub number : ℤ
  pub value : value_of e s ≡ Some number
  pub is : z ≡ number ∷ []

pub record TrueIs (e : Term) (s z : List ℤ) : Type 0 where
  pub number : ℤ
  pub value : value_of e s ≡ Some number
  pub some : number ≢ pos 0
  pub none : z ≡ []

pub record FalseIs (e : Term) (s z : List ℤ) : Type 0 where
  pub value : value_of e s ≡ Some (pos 0)
  pub none : z ≡ []

pub record MeansAll (columns : ℕ) (e : Term) (lists : Lists) : Type 0 where
  pub value : Means columns lists.value (ValueIs e)
  pub truth : Means columns lists.truth (TrueIs e)
  pub falsity : Means columns lists.falsity (FalseIs e)

-- ---- numbers

above_or_below : (v : ℤ) → v ≢ pos 0 → (v ≤ℤ negsuc 0) ⊎ (pos 1 ≤ℤ v)
above_or_below (pos zero) h = absurd (h refl)
above_or_below (pos (suc n)) h = inr (omega (arith, ints))
above_or_below (negsuc n) h = inl (omega (arith, ints))

numbers_differ : (a b : ℤ) → a ≡ b → (let x : Option ℤ = Some a in x ≡ Some b)
numbers_differ a b e = ap (λ v. Some v) e

some_is : (a b : ℤ) → (let x : Option ℤ = Some a in x ≡ Some b) → a ≡ b
some_is a b e = cc

module _ (columns : ℕ) (e : Term) where
  number-means : (v : Listed) → Means columns v (ValueIs e) → MeansAll columns e (of_number v)
  number-means v h =
      record {
        value = h;
        truth = means-as columns (of_number v).truth (Stepped (Test Negative ∷ Test Positive ∷ []) (ValueIs e)) (TrueIs e) (means-by columns (Test Negative ∷ Test Positive ∷ []) v (ValueIs e) h) truth-there truth-back;
        falsity = means-as columns (of_number v).falsity (Stepped (Test Zero ∷ []) (ValueIs e)) (FalseIs e) (means-by columns (Test Zero ∷ []) v (ValueIs e) h) falsity-there falsity-back;
      }
    where
      below : (x v : ℤ) → x ≡ v → (x -ℤ negsuc 0) ≤ℤ pos 0 → v ≢ pos 0
      below x v same h none = omega (arith, ints, same, none)

      above : (x v : ℤ) → x ≡ v → (pos 1 -ℤ x) ≤ℤ pos 0 → v ≢ pos 0
      above x v same h none = omega (arith, ints, same, none)

      truth-there : (s z : List ℤ) → Stepped (Test Negative ∷ Test Positive ∷ []) (ValueIs e) s z → TrueIs e s z
      truth-there s z m = go m.gives
        where
          same : first_of m.numbers_are ≡ m.holds.number
          same = ap first_of m.holds.is

          go : SomeGives (Test Negative ∷ Test Positive ∷ []) (first_of m.numbers_are) (second_of m.numbers_are) z → TrueIs e s z
          go (inl (w, none)) = record { number = m.holds.number; value = m.holds.value; some = below (first_of m.numbers_are) m.holds.number (ap first_of m.holds.is) w; none = none }
          go (inr (inl (w, none))) = record { number = m.holds.number; value = m.holds.value; some = above (first_of m.numbers_are) m.holds.number (ap first_of m.holds.is) w; none = none }
          go (inr (inr k)) = absurd k

      truth-back : (s z : List ℤ) → TrueIs e s z → Stepped (Test Negative ∷ Test Positive ∷ []) (ValueIs e) s z
      truth-back s z m = record { numbers_are = m.number ∷ []; holds = record { number = m.number; value = m.value; is = refl }; gives = go (above_or_below m.number m.some) }
        where
          go : (m.number ≤ℤ negsuc 0) ⊎ (pos 1 ≤ℤ m.number) → SomeGives (Test Negative ∷ Test Positive ∷ []) m.number (pos 0) z
          go (inl le) = inl (omega (arith, ints), m.none)
          go (inr le) = inr (inl (omega (arith, ints), m.none))

      falsity-there : (s z : List ℤ) → Stepped (Test Zero ∷ []) (ValueIs e) s z → FalseIs e s z
      falsity-there s z m = go m.gives
        where
          is_zero : (x v : ℤ) → x ≡ v → x -ℤ pos 0 ≡ pos 0 → v ≡ pos 0
          is_zero x v same w = omega (arith, ints, same, w)

          go : SomeGives (Test Zero ∷ []) (first_of m.numbers_are) (second_of m.numbers_are) z → FalseIs e s z
          go (inl (w, none)) = record { value = m.holds.value ∙ numbers_differ m.holds.number (pos 0) (is_zero (first_of m.numbers_are) m.holds.number (ap first_of m.holds.is) w); none = none }
          go (inr k) = absurd k

      falsity-back : (s z : List ℤ) → FalseIs e s z → Stepped (Test Zero ∷ []) (ValueIs e) s z
      falsity-back s z m = record { numbers_are = pos 0 ∷ []; holds = record { number = pos 0; value = m.value; is = refl }; gives = inl (refl, m.none) }

  -- the value of a test is 0 or 1
  record IsTest : Type 0 where
    test : (s : List ℤ) (v : ℤ) → value_of e s ≡ Some v → (v ≡ pos 0) ⊎ (v ≡ pos 1)

  test-means : (t f : Listed) → IsTest → Means columns t (TrueIs e) → Means columns f (FalseIs e) → MeansAll columns e (of_test t f)
  test-means t f bit h k =
      record {
        value =
            means-as columns (of_test t f).value (OneOf (Numbered (pos 1) (TrueIs e)) (Numbered (pos 0) (FalseIs e))) (ValueIs e)
            (means-either columns (number_cases (pos 1) t) (number_cases (pos 0) f) (Numbered (pos 1) (TrueIs e)) (Numbered (pos 0) (FalseIs e)) (means-numbered columns (pos 1) t (TrueIs e) h) (means-numbered columns (pos 0) f (FalseIs e) k)) there back;
        truth = h;
        falsity = k;
      }
    where
      one : (v : ℤ) → v ≢ pos 0 → (v ≡ pos 0) ⊎ (v ≡ pos 1) → v ≡ pos 1
      one v some (inl h) = absurd (some h)
      one v some (inr h) = h

      there : (s z : List ℤ) → OneOf (Numbered (pos 1) (TrueIs e)) (Numbered (pos 0) (FalseIs e)) s z → ValueIs e s z
      there s z m = go m.one
        where
          go : Numbered (pos 1) (TrueIs e) s z ⊎ Numbered (pos 0) (FalseIs e) s z → ValueIs e s z
          go (inl a) = record { number = pos 1; value = a.holds.value ∙ numbers_differ a.holds.number (pos 1) (one a.holds.number a.holds.some (bit.test s a.holds.number a.holds.value)); is = a.value_is }
          go (inr a) = record { number = pos 0; value = a.holds.value; is = a.value_is }

      back : (s z : List ℤ) → ValueIs e s z → OneOf (Numbered (pos 1) (TrueIs e)) (Numbered (pos 0) (FalseIs e)) s z
      back s z m = go (bit.test s m.number m.value)
        where
          go : (m.number ≡ pos 0) ⊎ (m.number ≡ pos 1) → OneOf (Numbered (pos 1) (TrueIs e)) (Numbered (pos 0) (FalseIs e)) s z
          go (inl nought) = record { one = inr (record { numbers_are = []; holds = record { value = m.value ∙ numbers_differ m.number (pos 0) nought; none = refl }; value_is = m.is ∙ (λ i. nought i ∷ []) }) }
          go (inr is) =
              record {
                one = inl (record { numbers_are = []; holds = record { number = m.number; value = m.value; some = λ nought. clash m.number nought is; none = refl }; value_is = m.is ∙ (λ i. is i ∷ []) });
              }
            where
              clash : (v : ℤ) → v ≡ pos 0 → v ≡ pos 1 → ⊥
              clash v h k = omega (arith, ints, h, k)

-- ---- unary operators

record Operand (o : Option ℤ) (f : ℤ → ℤ) (v : ℤ) : Type 0 where
  number : ℤ
  is : o ≡ Some number
  gives : f number ≡ v

unary-operand : (o : Option ℤ) (f : ℤ → ℤ) (v : ℤ) → with_number o (λ x. Some (f x)) ≡ Some v → Operand o f v
unary-operand None f v e = cc
unary-operand (Some x) f v e = record { number = x; is = refl; gives = some_is (f x) v e }

signed-value : (sign : Sign) (e : Term) (s : State) (x : ℤ) → value_of e s ≡ Some x → value_of (Unary sign e) s ≡ Some (unary_value sign x)
signed-value sign e s x h = ap (λ o. with_number o (λ x. Some (unary_value sign x))) h

int_eq-zero : (x : ℤ) → x ≢ pos 0 → int_eq x (pos 0) ≡ false
int_eq-zero x h = go (int_eq x (pos 0)) refl
  where
    go : (b : Bool) → int_eq x (pos 0) ≡ b → b ≡ false
    go true e = absurd (h ((Decides-int_eq x (pos 0)).0 e))
    go false e = refl

pub truth_value-bit : (b : Bool) (v : ℤ) → truth_value b ≡ v → (v ≡ pos 0) ⊎ (v ≡ pos 1)
truth_value-bit true v e = inr (sym e)
truth_value-bit false v e = inl (sym e)

-- where a test is 1, and where it is 0
test-one : (b : Bool) → b ≡ true → truth_value b ≡ pos 1
test-one b e = ap truth_value e

test-zero : (b : Bool) → b ≡ false → truth_value b ≡ pos 0
test-zero b e = ap truth_value e

is-true : (b : Bool) (v : ℤ) → truth_value b ≡ v → v ≢ pos 0 → b ≡ true
is-true true v e h = refl
is-true false v e h = absurd (h (sym e))

is-false : (b : Bool) → truth_value b ≡ pos 0 → b ≡ false
is-false true e = absurd (omega (arith, ints, e))
is-false false e = refl

not-true : (b : Bool) → not b ≡ true → b ≡ false
not-true true e = cc
not-true false e = refl

not-false : (b : Bool) → not b ≡ false → b ≡ true
not-false true e = refl
not-false false e = cc

is_true-zero : is_true (pos 0) ≡ false
is_true-zero = refl

is_true-some : (x : ℤ) → x ≢ pos 0 → is_true x ≡ true
is_true-some x h = ap not (int_eq-zero x h)

some-is_true : (x : ℤ) → is_true x ≡ true → x ≢ pos 0
some-is_true x h none = let k = ap is_true none in cc

zero-is_true : (x : ℤ) → is_true x ≡ false → x ≡ pos 0
zero-is_true x h = go (int_eq x (pos 0)) refl h
  where
    go : (b : Bool) → int_eq x (pos 0) ≡ b → not b ≡ false → x ≡ pos 0
    go true e k = (Decides-int_eq x (pos 0)).0 e
    go false e k = cc

module _ (columns : ℕ) (e : Term) (lists : Lists) (h : MeansAll columns e lists) where
  plus-means : MeansAll columns (Unary Plus e) (sign_lists Plus lists)
  plus-means =
      number-means columns (Unary Plus e) lists.value
      (means-as columns lists.value (ValueIs e) (ValueIs (Unary Plus e)) h.value (λ s z m. record { number = m.number; value = signed-value Plus e s m.number m.value; is = m.is })
      (λ s z m. let o = unary-operand (value_of e s) (unary_value Plus) m.number m.value in record { number = o.number; value = o.is; is = m.is ∙ (λ i. sym o.gives i ∷ []) }))

  minus-means : MeansAll columns (Unary Minus e) (sign_lists Minus lists)
  minus-means =
      number-means columns (Unary Minus e) (by (Value Negate ∷ []) lists.value)
      (means-as columns (by (Value Negate ∷ []) lists.value) (Stepped (Value Negate ∷ []) (ValueIs e)) (ValueIs (Unary Minus e)) (means-by columns (Value Negate ∷ []) lists.value (ValueIs e) h.value) there back)
    where
      there : (s z : List ℤ) → Stepped (Value Negate ∷ []) (ValueIs e) s z → ValueIs (Unary Minus e) s z
      there s z m = go m.gives
        where
          go : SomeGives (Value Negate ∷ []) (first_of m.numbers_are) (second_of m.numbers_are) z → ValueIs (Unary Minus e) s z
          go (inl k) = record { number = pos 0 -ℤ m.holds.number; value = signed-value Minus e s m.holds.number m.holds.value; is = k ∙ (λ i. (pos 0 -ℤ first_of (m.holds.is i)) ∷ []) }
          go (inr k) = absurd k

      back : (s z : List ℤ) → ValueIs (Unary Minus e) s z → Stepped (Value Negate ∷ []) (ValueIs e) s z
      back s z m =
          let o = unary-operand (value_of e s) (unary_value Minus) m.number m.value in
          record { numbers_are = o.number ∷ []; holds = record { number = o.number; value = o.is; is = refl }; gives = inl (m.is ∙ (λ i. sym o.gives i ∷ [])) }

  not-means : MeansAll columns (Unary Not e) (sign_lists Not lists)
  not-means =
      test-means columns (Unary Not e) lists.falsity lists.truth (record { test = λ s v k. let o = unary-operand (value_of e s) (unary_value Not) v k in truth_value-bit (not (is_true o.number)) v o.gives })
      (means-as columns lists.falsity (FalseIs e) (TrueIs (Unary Not e)) h.falsity (λ s z m. record { number = pos 1; value = signed-value Not e s (pos 0) m.value; some = λ k. omega (arith, ints, k); none = m.none })
      (λ s z m.
      let o = unary-operand (value_of e s) (unary_value Not) m.number m.value in
      let nought = zero-is_true o.number (not-true (is_true o.number) (is-true (not (is_true o.number)) m.number o.gives m.some)) in
      record { value = o.is ∙ numbers_differ o.number (pos 0) nought; none = m.none }))
      (means-as columns lists.truth (TrueIs e) (FalseIs (Unary Not e)) h.truth
      (λ s z m. record { value = signed-value Not e s m.number m.value ∙ numbers_differ (unary_value Not m.number) (pos 0) (ap (λ b. truth_value (not b)) (is_true-some m.number m.some)); none = m.none })
      (λ s z m.
      let o = unary-operand (value_of e s) (unary_value Not) (pos 0) m.value in
      record { number = o.number; value = o.is; some = some-is_true o.number (not-false (is_true o.number) (is-false (not (is_true o.number)) o.gives)); none = m.none }))

  pub sign-means : (sign : Sign) → MeansAll columns (Unary sign e) (sign_lists sign lists)
  sign-means Plus = plus-means
  sign-means Minus = minus-means
  sign-means Not = not-means

-- ---- binary operators

-- the values of both operands, and what the operator gives
record Operands (op : Op) (l r : Term) (s : State) (v : ℤ) : Type 0 where
  left : ℤ
  right : ℤ
  left_is : value_of l s ≡ Some left
  right_is : value_of r s ≡ Some right
  gives : result_of op left right ≡ Some v

binary-value : (op : Op) (l r : Term) (s : State) (x y : ℤ) → early_value op x ≡ None → value_of l s ≡ Some x → value_of r s ≡ Some y → value_of (Binary op l r) s ≡ result_of op x y
binary-value op l r s x y early h k =
    ap (λ o. with_number o (λ x. or_else (early_value op x) (with_number (value_of r s) (result_of op x)))) h
    ∙ ap (λ o. or_else o (with_number (value_of r s) (result_of op x))) early
    ∙ ap (λ o. with_number o (result_of op x)) k

binary-operands : (op : Op) (l r : Term) (s : State) (v : ℤ) → ((x : ℤ) → early_value op x ≡ None) → value_of (Binary op l r) s ≡ Some v → Operands op l r s v
binary-operands op l r s v early e = go (value_of l s) refl (value_of r s) refl e
  where
    late : (x : ℤ) (o : Option ℤ) → or_else (early_value op x) o ≡ o
    late x o = ap (λ p. or_else p o) (early x)

    go : (a : Option ℤ) → value_of l s ≡ a → (b : Option ℤ) → value_of r s ≡ b → with_number a (λ x. or_else (early_value op x) (with_number b (result_of op x))) ≡ Some v → Operands op l r s v
    go None f b g e = cc
    go (Some x) f None g e = let k = sym (late x None) ∙ e in cc
    go (Some x) f (Some y) g e = record { left = x; right = y; left_is = f; right_is = g; gives = sym (late x (result_of op x y)) ∙ e }

-- a number that a step gives is what the operator gives
record Answers (op : Op) (x y : ℤ) (z : List ℤ) : Type 0 where
  number : ℤ
  is : result_of op x y ≡ Some number
  only : z ≡ number ∷ []

record Calculates (op : Op) (step : CaseStep) : Type 0 where
  early : (x : ℤ) → early_value op x ≡ None
  answers : (x y : ℤ) (z : List ℤ) → StepGives step x y z → Answers op x y z
  gives : (x y : ℤ) (z : List ℤ) → Answers op x y z → StepGives step x y z

if-divisor : (y z : ℤ) → y ≢ pos 0 → if_divisor y z ≡ Some z
if-divisor y z h = ap (λ b. cond b None (Some z)) (int_eq-zero y h)

divisor-some : (y z v : ℤ) → if_divisor y z ≡ Some v → (y ≢ pos 0) × (z ≡ v)
divisor-some y z v e = go (int_eq y (pos 0)) refl e
  where
    go : (b : Bool) → int_eq y (pos 0) ≡ b → cond b None (Some z) ≡ Some v → (y ≢ pos 0) × (z ≡ v)
    go true f e = cc
    go false f e = (λ none. let k = (Decides-int_eq y (pos 0)).1 none in cc, some_is z v e)

one-list : (a b : ℤ) → a ≡ b → a ∷ [] ≡ b ∷ []
one-list a b e = λ i. e i ∷ []

calculates-Add : Calculates Add (Value Sum)
calculates-Add =
    record {
      early = λ x. refl;
      answers = λ x y z e. record { number = x +ℤ y; is = refl; only = e };
      gives = λ x y z a. a.only ∙ one-list a.number (x +ℤ y) (sym (some_is (x +ℤ y) a.number a.is));
    }

calculates-Sub : Calculates Sub (Value Difference)
calculates-Sub =
    record {
      early = λ x. refl;
      answers = λ x y z e. record { number = x -ℤ y; is = refl; only = e };
      gives = λ x y z a. a.only ∙ one-list a.number (x -ℤ y) (sym (some_is (x -ℤ y) a.number a.is));
    }

calculates-Mul : Calculates Mul (Value Product)
calculates-Mul =
    record {
      early = λ x. refl;
      answers = λ x y z e. record { number = x *ℤ y; is = refl; only = e };
      gives = λ x y z a. a.only ∙ one-list a.number (x *ℤ y) (sym (some_is (x *ℤ y) a.number a.is));
    }

calculates-Div : Calculates Div (Divide Quotient)
calculates-Div =
    record {
      early = λ x. refl;
      answers = λ x y z e. record { number = int_div x y; is = if-divisor y (int_div x y) e.0; only = e.1 };
      gives = λ x y z a. let d = divisor-some y (int_div x y) a.number a.is in (d.0, a.only ∙ one-list a.number (int_div x y) (sym d.1));
    }

calculates-Rem : Calculates Rem (Divide Remainder)
calculates-Rem =
    record {
      early = λ x. refl;
      answers = λ x y z e. record { number = x -ℤ (int_div x y *ℤ y); is = if-divisor y (x -ℤ (int_div x y *ℤ y)) e.0; only = e.1 };
      gives = λ x y z a. let d = divisor-some y (x -ℤ (int_div x y *ℤ y)) a.number a.is in (d.0, a.only ∙ one-list a.number (x -ℤ (int_div x y *ℤ y)) (sym d.1));
    }

-- ---- comparisons

abbrev test : Op → ℤ → ℤ → Bool
test Lt x y = int_lt x y
test Le x y = int_le x y
test Gt x y = int_lt y x
test Ge x y = int_le y x
test Eq x y = int_eq x y
test Ne x y = not (int_eq x y)
test _ x y = false

record Compares (op : Op) : Type 0 where
  early : (x : ℤ) → early_value op x ≡ None
  result : (x y : ℤ) → result_of op x y ≡ Some (truth_value (test op x y))
  holds : (x y : ℤ) (z : List ℤ) → SomeGives (tests_of op) x y z → (test op x y ≡ true) × (z ≡ [])
  held : (x y : ℤ) (z : List ℤ) → test op x y ≡ true → z ≡ [] → SomeGives (tests_of op) x y z
  fails : (x y : ℤ) (z : List ℤ) → SomeGives (tests_of (opposite op)) x y z → (test op x y ≡ false) × (z ≡ [])
  failed : (x y : ℤ) (z : List ℤ) → test op x y ≡ false → z ≡ [] → SomeGives (tests_of (opposite op)) x y z

true-or : (b : Bool) → (b ≡ false → ⊥) → b ≡ true
true-or true h = refl
true-or false h = absurd (h refl)

false-or : (b : Bool) → (b ≡ true → ⊥) → b ≡ false
false-or true h = absurd (h refl)
false-or false h = refl

less-true : (x y : ℤ) → (x -ℤ y +ℤ pos 1) ≤ℤ pos 0 → int_lt x y ≡ true
less-true x y h = true-or (int_lt x y) (λ e. omega (arith, ints))

true-less : (x y : ℤ) → int_lt x y ≡ true → (x -ℤ y +ℤ pos 1) ≤ℤ pos 0
true-less x y h = omega (arith, ints)

less-false : (x y : ℤ) → (y -ℤ x) ≤ℤ pos 0 → int_lt x y ≡ false
less-false x y h = false-or (int_lt x y) (λ e. omega (arith, ints))

false-less : (x y : ℤ) → int_lt x y ≡ false → (y -ℤ x) ≤ℤ pos 0
false-less x y h = omega (arith, ints)

most-true : (x y : ℤ) → (x -ℤ y) ≤ℤ pos 0 → int_le x y ≡ true
most-true x y h = true-or (int_le x y) (λ e. omega (arith, ints))

true-most : (x y : ℤ) → int_le x y ≡ true → (x -ℤ y) ≤ℤ pos 0
true-most x y h = omega (arith, ints)

most-false : (x y : ℤ) → (y -ℤ x +ℤ pos 1) ≤ℤ pos 0 → int_le x y ≡ false
most-false x y h = false-or (int_le x y) (λ e. omega (arith, ints))

false-most : (x y : ℤ) → int_le x y ≡ false → (y -ℤ x +ℤ pos 1) ≤ℤ pos 0
false-most x y h = omega (arith, ints)

same-true : (x y : ℤ) → x -ℤ y ≡ pos 0 → int_eq x y ≡ true
same-true x y h = (Decides-int_eq x y).1 (omega (arith, ints, h))

true-same : (x y : ℤ) → int_eq x y ≡ true → x -ℤ y ≡ pos 0
true-same x y h = let e = (Decides-int_eq x y).0 h in omega (arith, ints, e)

less-differ : (x y : ℤ) → (x -ℤ y +ℤ pos 1) ≤ℤ pos 0 → int_eq x y ≡ false
less-differ x y h = false-or (int_eq x y) (λ e. clash x y h ((Decides-int_eq x y).0 e))
  where
    clash : (x y : ℤ) → (x -ℤ y +ℤ pos 1) ≤ℤ pos 0 → x ≡ y → ⊥
    clash x y h e = omega (arith, ints, e)

more-differ : (x y : ℤ) → (y -ℤ x +ℤ pos 1) ≤ℤ pos 0 → int_eq x y ≡ false
more-differ x y h = false-or (int_eq x y) (λ e. clash x y h ((Decides-int_eq x y).0 e))
  where
    clash : (x y : ℤ) → (y -ℤ x +ℤ pos 1) ≤ℤ pos 0 → x ≡ y → ⊥
    clash x y h e = omega (arith, ints, e)

differ : (x y : ℤ) → int_eq x y ≡ false → ((x -ℤ y +ℤ pos 1) ≤ℤ pos 0) ⊎ ((y -ℤ x +ℤ pos 1) ≤ℤ pos 0)
differ x y h = by_lt_z x y (λ lt. inl (omega (arith, ints))) (λ ge. by_lt_z y x (λ gt. inr (omega (arith, ints))) (λ le. absurd (clash (antisymmetric x y le ge))))
  where
    antisymmetric : (x y : ℤ) → x ≤ℤ y → y ≤ℤ x → x ≡ y
    antisymmetric x y h g = omega (arith, ints)

    clash : x ≡ y → ⊥
    clash e = let k = (Decides-int_eq x y).1 e in cc

one-gives : (P : Type 0) (z : List ℤ) → (P × (z ≡ [])) ⊎ ⊥ → P × (z ≡ [])
one-gives P z (inl h) = h
one-gives P z (inr h) = absurd h

compares-Lt : Compares Lt
compares-Lt =
    record {
      early = λ x. refl;
      result = λ x y. refl;
      holds = λ x y z g. let h = one-gives ((x -ℤ y +ℤ pos 1) ≤ℤ pos 0) z g in (less-true x y h.0, h.1);
      held = λ x y z e n. inl (true-less x y e, n);
      fails = λ x y z g. let h = one-gives ((y -ℤ x) ≤ℤ pos 0) z g in (less-false x y h.0, h.1);
      failed = λ x y z e n. inl (false-less x y e, n);
    }

compares-Ge : Compares Ge
compares-Ge =
    record {
      early = λ x. refl;
      result = λ x y. refl;
      holds = λ x y z g. let h = one-gives ((y -ℤ x) ≤ℤ pos 0) z g in (most-true y x h.0, h.1);
      held = λ x y z e n. inl (true-most y x e, n);
      fails = λ x y z g. let h = one-gives ((x -ℤ y +ℤ pos 1) ≤ℤ pos 0) z g in (most-false y x h.0, h.1);
      failed = λ x y z e n. inl (false-most y x e, n);
    }

compares-Le : Compares Le
compares-Le =
    record {
      early = λ x. refl;
      result = λ x y. refl;
      holds = λ x y z g. let h = one-gives ((x -ℤ y) ≤ℤ pos 0) z g in (most-true x y h.0, h.1);
      held = λ x y z e n. inl (true-most x y e, n);
      fails = λ x y z g. let h = one-gives ((y -ℤ x +ℤ pos 1) ≤ℤ pos 0) z g in (most-false x y h.0, h.1);
      failed = λ x y z e n. inl (false-most x y e, n);
    }

compares-Gt : Compares Gt
compares-Gt =
    record {
      early = λ x. refl;
      result = λ x y. refl;
      holds = λ x y z g. let h = one-gives ((y -ℤ x +ℤ pos 1) ≤ℤ pos 0) z g in (less-true y x h.0, h.1);
      held = λ x y z e n. inl (true-less y x e, n);
      fails = λ x y z g. let h = one-gives ((x -ℤ y) ≤ℤ pos 0) z g in (less-false y x h.0, h.1);
      failed = λ x y z e n. inl (false-less y x e, n);
    }

equals : (x y : ℤ) (z : List ℤ) → SomeGives (tests_of Eq) x y z → (int_eq x y ≡ true) × (z ≡ [])
equals x y z g = let h = one-gives (x -ℤ y ≡ pos 0) z g in (same-true x y h.0, h.1)

differs : (x y : ℤ) (z : List ℤ) → SomeGives (tests_of Ne) x y z → (int_eq x y ≡ false) × (z ≡ [])
differs x y z (inl (h, n)) = (less-differ x y h, n)
differs x y z (inr (inl (h, n))) = (more-differ x y h, n)
differs x y z (inr (inr h)) = absurd h

differ-gives : (x y : ℤ) (z : List ℤ) → int_eq x y ≡ false → z ≡ [] → SomeGives (tests_of Ne) x y z
differ-gives x y z e n = go (differ x y e)
  where
    go : ((x -ℤ y +ℤ pos 1) ≤ℤ pos 0) ⊎ ((y -ℤ x +ℤ pos 1) ≤ℤ pos 0) → SomeGives (tests_of Ne) x y z
    go (inl h) = inl (h, n)
    go (inr h) = inr (inl (h, n))

compares-Eq : Compares Eq
compares-Eq =
    record {
      early = λ x. refl;
      result = λ x y. refl;
      holds = equals;
      held = λ x y z e n. inl (true-same x y e, n);
      fails = differs;
      failed = differ-gives;
    }

compares-Ne : Compares Ne
compares-Ne =
    record {
      early = λ x. refl;
      result = λ x y. refl;
      holds = λ x y z g. let h = differs x y z g in (ap not h.0, h.1);
      held = λ x y z e n. differ-gives x y z (not-true (int_eq x y) e) n;
      fails = λ x y z g. let h = equals x y z g in (ap not h.0, h.1);
      failed = λ x y z e n. inl (true-same x y (not-false (int_eq x y) e), n);
    }

-- ---- logical operators

-- a side of a test: it is true, or it is false
record SideIs (side : Bool) (e : Term) (s z : List ℤ) : Type 0 where
  number : ℤ
  value : value_of e s ≡ Some number
  is : is_true number ≡ side
  none : z ≡ []

abbrev side_of : Bool → Lists → Listed
side_of true lists = lists.truth
side_of false lists = lists.falsity

true-side : (e : Term) (s z : List ℤ) → TrueIs e s z → SideIs true e s z
true-side e s z m = record { number = m.number; value = m.value; is = is_true-some m.number m.some; none = m.none }

side-true : (e : Term) (s z : List ℤ) → SideIs true e s z → TrueIs e s z
side-true e s z m = record { number = m.number; value = m.value; some = some-is_true m.number m.is; none = m.none }

false-side : (e : Term) (s z : List ℤ) → FalseIs e s z → SideIs false e s z
false-side e s z m = record { number = pos 0; value = m.value; is = refl; none = m.none }

side-false : (e : Term) (s z : List ℤ) → SideIs false e s z → FalseIs e s z
side-false e s z m = record { value = m.value ∙ numbers_differ m.number (pos 0) (zero-is_true m.number m.is); none = m.none }

side-means : (columns : ℕ) (e : Term) (lists : Lists) → MeansAll columns e lists → (side : Bool) → Means columns (side_of side lists) (SideIs side e)
side-means columns e lists h true = means-as columns lists.truth (TrueIs e) (SideIs true e) h.truth (true-side e) (side-true e)
side-means columns e lists h false = means-as columns lists.falsity (FalseIs e) (SideIs false e) h.falsity (false-side e) (side-false e)

-- the left operand decides, or the right one does
record Decided (d : Bool) (l : Term) (s : State) (v : ℤ) : Type 0 where
  left : ℤ
  left_is : value_of l s ≡ Some left
  side : is_true left ≡ d
  result : v ≡ truth_value d

record Later (d : Bool) (l r : Term) (s : State) (v : ℤ) : Type 0 where
  left : ℤ
  left_is : value_of l s ≡ Some left
  side : is_true left ≡ not d
  right : ℤ
  right_is : value_of r s ≡ Some right
  result : v ≡ truth_value (is_true right)

record Decides (op : Op) (d : Bool) : Type 0 where
  decided : (l r : Term) (s : State) (x : ℤ) → value_of l s ≡ Some x → is_true x ≡ d → value_of (Binary op l r) s ≡ Some (truth_value d)
  later : (l r : Term) (s : State) (x y : ℤ) → value_of l s ≡ Some x → is_true x ≡ not d → value_of r s ≡ Some y → value_of (Binary op l r) s ≡ Some (truth_value (is_true y))
  found : (l r : Term) (s : State) (v : ℤ) → value_of (Binary op l r) s ≡ Some v → Decided d l s v ⊎ Later d l r s v

and-decides : Decides And false
and-decides =
    record {
      decided = λ l r s x h e.
          ap (λ o. with_number o (λ x. or_else (early_value And x) (with_number (value_of r s) (result_of And x)))) h
          ∙ ap (λ b. or_else (cond b None (Some (pos 0))) (with_number (value_of r s) (result_of And x))) e;
      later = λ l r s x y h e k. binary-value And l r s x y (ap (λ b. cond b None (Some (pos 0))) e) h k ∙ ap (λ b. Some (truth_value (b && is_true y))) e;
      found = found;
    }
  where
    found : (l r : Term) (s : State) (v : ℤ) → value_of (Binary And l r) s ≡ Some v → Decided false l s v ⊎ Later false l r s v
    found l r s v e = go (value_of l s) refl (value_of r s) refl e
      where
        pick : (x : ℤ) (b : Option ℤ) → value_of l s ≡ Some x → value_of r s ≡ b → (t : Bool) → is_true x ≡ t → or_else (cond t None (Some (pos 0))) (with_number b (λ y. Some (truth_value (t && is_true y)))) ≡ Some v → Decided false l s v ⊎ Later false l r s v
        pick x b f g false t e = inl (record { left = x; left_is = f; side = t; result = sym (some_is (pos 0) v e) })
        pick x None f g true t e = cc
        pick x (Some y) f g true t e = inr (record { left = x; left_is = f; side = t; right = y; right_is = g; result = sym (some_is (truth_value (is_true y)) v e) })

        go : (a : Option ℤ) → value_of l s ≡ a → (b : Option ℤ) → value_of r s ≡ b → with_number a (λ x. or_else (early_value And x) (with_number b (result_of And x))) ≡ Some v → Decided false l s v ⊎ Later false l r s v
        go None f b g e = cc
        go (Some x) f b g e = pick x b f g (is_true x) refl e

or-decides : Decides Or true
or-decides =
    record {
      decided = λ l r s x h e.
          ap (λ o. with_number o (λ x. or_else (early_value Or x) (with_number (value_of r s) (result_of Or x)))) h
          ∙ ap (λ b. or_else (cond b (Some (pos 1)) None) (with_number (value_of r s) (result_of Or x))) e;
      later = λ l r s x y h e k. binary-value Or l r s x y (ap (λ b. cond b (Some (pos 1)) None) e) h k ∙ ap (λ b. Some (truth_value (b || is_true y))) e;
      found = found;
    }
  where
    found : (l r : Term) (s : State) (v : ℤ) → value_of (Binary Or l r) s ≡ Some v → Decided true l s v ⊎ Later true l r s v
    found l r s v e = go (value_of l s) refl (value_of r s) refl e
      where
        pick : (x : ℤ) (b : Option ℤ) → value_of l s ≡ Some x → value_of r s ≡ b → (t : Bool) → is_true x ≡ t → or_else (cond t (Some (pos 1)) None) (with_number b (λ y. Some (truth_value (t || is_true y)))) ≡ Some v → Decided true l s v ⊎ Later true l r s v
        pick x b f g true t e = inl (record { left = x; left_is = f; side = t; result = sym (some_is (pos 1) v e) })
        pick x None f g false t e = cc
        pick x (Some y) f g false t e = inr (record { left = x; left_is = f; side = t; right = y; right_is = g; result = sym (some_is (truth_value (is_true y)) v e) })

        go : (a : Option ℤ) → value_of l s ≡ a → (b : Option ℤ) → value_of r s ≡ b → with_number a (λ x. or_else (early_value Or x) (with_number b (result_of Or x))) ≡ Some v → Decided true l s v ⊎ Later true l r s v
        go None f b g e = cc
        go (Some x) f b g e = pick x b f g (is_true x) refl e

truth-side : (b : Bool) → is_true (truth_value b) ≡ b
truth-side true = refl
truth-side false = refl

not-same : (b : Bool) → b ≡ not b → ⊥
not-same true e = cc
not-same false e = cc

module _ (columns : ℕ) (l r : Term) (L R : Lists) (h : MeansAll columns l L) (k : MeansAll columns r R) where
  pairs-mean : Means columns (together L.value R.value) (Both (ValueIs l) (ValueIs r))
  pairs-mean = means-together columns L.value R.value (ValueIs l) (ValueIs r) h.value k.value

  pair_is : (s z : List ℤ) → (m : Both (ValueIs l) (ValueIs r) s z) → z ≡ m.left.number ∷ m.right.number ∷ []
  pair_is s z m = m.joined ∙ (λ i. m.left.is i ++ m.right.is i)

  pair_of : (s : List ℤ) (x y : ℤ) → value_of l s ≡ Some x → value_of r s ≡ Some y → Both (ValueIs l) (ValueIs r) s (x ∷ y ∷ [])
  pair_of s x y f g = record { first = x ∷ []; second = y ∷ []; left = record { number = x; value = f; is = refl }; right = record { number = y; value = g; is = refl }; joined = refl }

  calculated-means : (op : Op) (step : CaseStep) → Calculates op step → MeansAll columns (Binary op l r) (calculation_lists step L R)
  calculated-means op step does =
      number-means columns (Binary op l r) (by (step ∷ []) (together L.value R.value))
      (means-as columns (by (step ∷ []) (together L.value R.value)) (Stepped (step ∷ []) (Both (ValueIs l) (ValueIs r))) (ValueIs (Binary op l r)) (means-by columns (step ∷ []) (together L.value R.value) (Both (ValueIs l) (ValueIs r)) pairs-mean) there back)
    where
      there : (s z : List ℤ) → Stepped (step ∷ []) (Both (ValueIs l) (ValueIs r)) s z → ValueIs (Binary op l r) s z
      there s z m = go m.gives
        where
          go : SomeGives (step ∷ []) (first_of m.numbers_are) (second_of m.numbers_are) z → ValueIs (Binary op l r) s z
          go (inl g) =
              let x = m.holds.left.number in
              let y = m.holds.right.number in
              let a = does.answers x y z (subst (λ n. StepGives step (first_of n) (second_of n) z) (pair_is s m.numbers_are m.holds) g) in
              record { number = a.number; value = binary-value op l r s x y (does.early x) m.holds.left.value m.holds.right.value ∙ a.is; is = a.only }
          go (inr g) = absurd g

      back : (s z : List ℤ) → ValueIs (Binary op l r) s z → Stepped (step ∷ []) (Both (ValueIs l) (ValueIs r)) s z
      back s z m =
          let o = binary-operands op l r s m.number does.early m.value in
          record { numbers_are = o.left ∷ o.right ∷ []; holds = pair_of s o.left o.right o.left_is o.right_is; gives = inl (does.gives o.left o.right z (record { number = m.number; is = o.gives; only = m.is })) }

  comparison-means : (op : Op) → Compares op → MeansAll columns (Binary op l r) (comparison op L R)
  comparison-means op does =
      test-means columns (Binary op l r) (comparison_list op L R) (comparison_list (opposite op) L R)
      (record { test = λ s v e. let o = binary-operands op l r s v does.early e in truth_value-bit (test op o.left o.right) v (some_is (truth_value (test op o.left o.right)) v (sym (does.result o.left o.right) ∙ o.gives)) })
      (means-as columns (comparison_list op L R) (Stepped (tests_of op) (Both (ValueIs l) (ValueIs r))) (TrueIs (Binary op l r)) (means-by columns (tests_of op) (together L.value R.value) (Both (ValueIs l) (ValueIs r)) pairs-mean)
      (λ s z m.
      let x = m.holds.left.number in
      let y = m.holds.right.number in
      let t = does.holds x y z (subst (λ n. SomeGives (tests_of op) (first_of n) (second_of n) z) (pair_is s m.numbers_are m.holds) m.gives) in
      record {
        number = pos 1;
        value = binary-value op l r s x y (does.early x) m.holds.left.value m.holds.right.value ∙ does.result x y ∙ numbers_differ (truth_value (test op x y)) (pos 1) (test-one (test op x y) t.0);
        some = λ e. omega (arith, ints, e);
        none = t.1;
      })
      (λ s z m.
      let o = binary-operands op l r s m.number does.early m.value in
      let t = is-true (test op o.left o.right) m.number (some_is (truth_value (test op o.left o.right)) m.number (sym (does.result o.left o.right) ∙ o.gives)) m.some in
      record { numbers_are = o.left ∷ o.right ∷ []; holds = pair_of s o.left o.right o.left_is o.right_is; gives = does.held o.left o.right z t m.none }))
      (means-as columns (comparison_list (opposite op) L R) (Stepped (tests_of (opposite op)) (Both (ValueIs l) (ValueIs r))) (FalseIs (Binary op l r)) (means-by columns (tests_of (opposite op)) (together L.value R.value) (Both (ValueIs l) (ValueIs r)) pairs-mean)
      (λ s z m.
      let x = m.holds.left.number in
      let y = m.holds.right.number in
      let t = does.fails x y z (subst (λ n. SomeGives (tests_of (opposite op)) (first_of n) (second_of n) z) (pair_is s m.numbers_are m.holds) m.gives) in
      record {
        value = binary-value op l r s x y (does.early x) m.holds.left.value m.holds.right.value ∙ does.result x y ∙ numbers_differ (truth_value (test op x y)) (pos 0) (test-zero (test op x y) t.0);
        none = t.1;
      })
      (λ s z m.
      let o = binary-operands op l r s (pos 0) does.early m.value in
      let t = is-false (test op o.left o.right) (some_is (truth_value (test op o.left o.right)) (pos 0) (sym (does.result o.left o.right) ∙ o.gives)) in
      record { numbers_are = o.left ∷ o.right ∷ []; holds = pair_of s o.left o.right o.left_is o.right_is; gives = does.failed o.left o.right z t m.none }))

  -- both operands are on the side that does not decide
  joint-means : (op : Op) (d : Bool) → Decides op d → Means columns (together (side_of (not d) L) (side_of (not d) R)) (SideIs (not d) (Binary op l r))
  joint-means op d does =
      means-as columns (together (side_of (not d) L) (side_of (not d) R)) (Both (SideIs (not d) l) (SideIs (not d) r)) (SideIs (not d) (Binary op l r))
      (means-together columns (side_of (not d) L) (side_of (not d) R) (SideIs (not d) l) (SideIs (not d) r) (side-means columns l L h (not d)) (side-means columns r R k (not d)))
      (λ s z m. record {
        number = truth_value (is_true m.right.number);
        value = does.later l r s m.left.number m.right.number m.left.value m.left.is m.right.value;
        is = truth-side (is_true m.right.number) ∙ m.right.is;
        none = m.joined ∙ (λ i. m.left.none i ++ m.right.none i);
      })
      (λ s z m. go s z m (does.found l r s m.number m.value))
    where
      go : (s z : List ℤ) → (m : SideIs (not d) (Binary op l r) s z) → Decided d l s m.number ⊎ Later d l r s m.number → Both (SideIs (not d) l) (SideIs (not d) r) s z
      go s z m (inl f) = absurd (not-same d (sym (truth-side d) ∙ ap is_true (sym f.result) ∙ m.is))
      go s z m (inr f) =
          record {
            first = [];
            second = [];
            left = record { number = f.left; value = f.left_is; is = f.side; none = refl };
            right = record { number = f.right; value = f.right_is; is = sym (truth-side (is_true f.right)) ∙ ap is_true (sym f.result) ∙ m.is; none = refl };
            joined = m.none;
          }

  -- the left operand decides, or both do
  early-means : (op : Op) (d : Bool) → Decides op d → Means columns (either (side_of d L) (together (side_of (not d) L) (side_of d R))) (SideIs d (Binary op l r))
  early-means op d does =
      means-as columns (either (side_of d L) (together (side_of (not d) L) (side_of d R))) (OneOf (SideIs d l) (Both (SideIs (not d) l) (SideIs d r))) (SideIs d (Binary op l r))
      (means-either columns (side_of d L) (together (side_of (not d) L) (side_of d R)) (SideIs d l) (Both (SideIs (not d) l) (SideIs d r)) (side-means columns l L h d)
      (means-together columns (side_of (not d) L) (side_of d R) (SideIs (not d) l) (SideIs d r) (side-means columns l L h (not d)) (side-means columns r R k d)))
      (λ s z m. there s z m.one) (λ s z m. back s z m (does.found l r s m.number m.value))
    where
      there : (s z : List ℤ) → SideIs d l s z ⊎ Both (SideIs (not d) l) (SideIs d r) s z → SideIs d (Binary op l r) s z
      there s z (inl m) = record { number = truth_value d; value = does.decided l r s m.number m.value m.is; is = truth-side d; none = m.none }
      there s z (inr m) =
          record {
            number = truth_value (is_true m.right.number);
            value = does.later l r s m.left.number m.right.number m.left.value m.left.is m.right.value;
            is = truth-side (is_true m.right.number) ∙ m.right.is;
            none = m.joined ∙ (λ i. m.left.none i ++ m.right.none i);
          }

      back : (s z : List ℤ) → (m : SideIs d (Binary op l r) s z) → Decided d l s m.number ⊎ Later d l r s m.number → OneOf (SideIs d l) (Both (SideIs (not d) l) (SideIs d r)) s z
      back s z m (inl f) = record { one = inl (record { number = f.left; value = f.left_is; is = f.side; none = m.none }) }
      back s z m (inr f) =
          record {
            one = inr (record {
              first = [];
              second = [];
              left = record { number = f.left; value = f.left_is; is = f.side; none = refl };
              right = record { number = f.right; value = f.right_is; is = sym (truth-side (is_true f.right)) ∙ ap is_true (sym f.result) ∙ m.is; none = refl };
              joined = m.none;
            });
          }

  logic-test : (op : Op) (d : Bool) → Decides op d → IsTest columns (Binary op l r)
  logic-test op d does = record { test = λ s v e. go s v (does.found l r s v e) }
    where
      go : (s : List ℤ) (v : ℤ) → Decided d l s v ⊎ Later d l r s v → (v ≡ pos 0) ⊎ (v ≡ pos 1)
      go s v (inl f) = truth_value-bit d v (sym f.result)
      go s v (inr f) = truth_value-bit (is_true f.right) v (sym f.result)

  and-means : MeansAll columns (Binary And l r) (operator_lists And L R)
  and-means =
      test-means columns (Binary And l r) (operator_lists And L R).truth (operator_lists And L R).falsity (logic-test And false and-decides)
      (means-as columns (operator_lists And L R).truth (SideIs true (Binary And l r)) (TrueIs (Binary And l r)) (joint-means And false and-decides) (side-true (Binary And l r)) (true-side (Binary And l r)))
      (means-as columns (operator_lists And L R).falsity (SideIs false (Binary And l r)) (FalseIs (Binary And l r)) (early-means And false and-decides) (side-false (Binary And l r)) (false-side (Binary And l r)))

  or-means : MeansAll columns (Binary Or l r) (operator_lists Or L R)
  or-means =
      test-means columns (Binary Or l r) (operator_lists Or L R).truth (operator_lists Or L R).falsity (logic-test Or true or-decides)
      (means-as columns (operator_lists Or L R).truth (SideIs true (Binary Or l r)) (TrueIs (Binary Or l r)) (early-means Or true or-decides) (side-true (Binary Or l r)) (true-side (Binary Or l r)))
      (means-as columns (operator_lists Or L R).falsity (SideIs false (Binary Or l r)) (FalseIs (Binary Or l r)) (joint-means Or true or-decides) (side-false (Binary Or l r)) (false-side (Binary Or l r)))

  operator-means : (op : Op) → MeansAll columns (Binary op l r) (operator_lists op L R)
  operator-means Add = calculated-means Add (Value Sum) calculates-Add
  operator-means Sub = calculated-means Sub (Value Difference) calculates-Sub
  operator-means Mul = calculated-means Mul (Value Product) calculates-Mul
  operator-means Div = calculated-means Div (Divide Quotient) calculates-Div
  operator-means Rem = calculated-means Rem (Divide Remainder) calculates-Rem
  operator-means Lt = comparison-means Lt compares-Lt
  operator-means Le = comparison-means Le compares-Le
  operator-means Gt = comparison-means Gt compares-Gt
  operator-means Ge = comparison-means Ge compares-Ge
  operator-means Eq = comparison-means Eq compares-Eq
  operator-means Ne = comparison-means Ne compares-Ne
  operator-means And = and-means
  operator-means Or = or-means

-- ---- every expression

-- the lists of an expression mean its value, its truth and its falsity
pub expression-means : (columns : ℕ) (e : Term) → IsTrue (columns_below columns e) → MeansAll columns e (lists_of e)
unfolding lists_of
expression-means columns (Lit n) h =
    number-means columns (Lit n) (one_case (constant_of n))
    (means-as columns (one_case (constant_of n)) (Known (λ s. n)) (ValueIs (Lit n)) (means-known columns (constant_of n) (λ s. n) (λ s aux. constant-value (numbers s aux) n) 0 (sit columns (Lit n) h).value)
    (λ s z m. record { number = n; value = refl; is = m.is }) (λ s z m. record { is = m.is ∙ one-list m.number n (sym (some_is n m.number m.value)) }))
expression-means columns (Col c) h =
    number-means columns (Col c) (one_case (column_of (At c)))
    (means-as columns (one_case (column_of (At c))) (Known (λ s. slice_index_or s c (pos 0))) (ValueIs (Col c))
    (means-known columns (column_of (At c)) (λ s. slice_index_or s c (pos 0)) (λ s aux. column-value (numbers s aux) (At c) ∙ unwrap_or-slice_get s c (pos 0)) 0 (sit columns (Col c) h).value)
    (λ s z m. record { number = slice_index_or s c (pos 0); value = refl; is = m.is }) (λ s z m. record { is = m.is ∙ one-list m.number (slice_index_or s c (pos 0)) (sym (some_is (slice_index_or s c (pos 0)) m.number m.value)) }))
expression-means columns (Unary sign inner) h = sign-means columns inner (lists_of inner) (expression-means columns inner h) sign
expression-means columns (Binary op left right) h =
    let parts = both (columns_below columns left) (columns_below columns right) h in
    operator-means columns left right (lists_of left) (lists_of right) (expression-means columns left parts.0) (expression-means columns right parts.1) op
