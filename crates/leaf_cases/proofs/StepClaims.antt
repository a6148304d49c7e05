-- What a step makes of a case holds of the numbers that the step gives.
use Rattle.std.proofs.Common.{◌≡◌, ◌≢◌, ℕ, zero, suc, Bool, true, false, cond, ℤ, pos, negsuc, ◌+ℤ◌, ◌-ℤ◌, ◌*ℤ◌, map, List, [], ◌∷◌, Ok, Err, refl, sym, ap, subst, ◌∙◌, arith}
use Rattle.std.specs.Prelude.{slice_get, unwrap_or, int_div}
use Rattle.std.specs.List.{cons_option}
use Rattle.std.proofs.lemmas.Int.{ints}
use Rattle.items.specs.Gives.{◌>>=◌}
use Rattle.items.proofs.Gives.{on_ok}
use Rattle.linear_terms.specs.declared.row.Case.{Case}
use Rattle.linear_terms.specs.Polynomial.{Polynomial, constant_of}
use Rattle.linear_terms.specs.Operations.{multiple_of, sum_of_polys, product_of_polys, difference_of_polys}
use Rattle.linear_terms.specs.Row.{IsWithin, RowsHold}
use Rattle.linear_terms.specs.Value.{Valuation, value_of}
use Rattle.linear_terms.proofs.Values.{sum_of_polys-value, multiple_of-value, product_of_polys-value}
use Rattle.transition_formula.specs.Composition.{row_of}
use Rattle.transition_formula.specs.Loss.{losses_of}
use Rattle.transition_formula.specs.Meaning.{HoldsAt}
use Rattle.transition_formula.proofs.NotedErrors.{lost-some}
use Rattle.transition_formula.proofs.Values.{none-of}
use Rattle.leaf_cases.specs.declared.division.DivisionPart.{DivisionPart}
use Rattle.leaf_cases.specs.declared.division.DivisionPart.TheVariants.{Quotient, Remainder}
use Rattle.leaf_cases.specs.declared.division.Signs.{Signs}
use Rattle.leaf_cases.specs.declared.step.Arithmetic.{Arithmetic}
use Rattle.leaf_cases.specs.declared.step.Arithmetic.TheVariants.{Negate, Sum, Difference, Product}
use Rattle.leaf_cases.specs.declared.step.TestRelation.{TestRelation}
use Rattle.leaf_cases.specs.declared.step.TestRelation.TheVariants.{Less, LessOrEqual, Greater, GreaterOrEqual, Same, Negative, Positive, Zero}
use Rattle.leaf_cases.specs.declared.step.CaseStep.{CaseStep}
use Rattle.leaf_cases.specs.declared.step.CaseStep.TheVariants.{Value, Divide, Test}
use Rattle.leaf_cases.specs.Claims.{Answer, Claim, rows_of, claim_losses}
use Rattle.leaf_cases.specs.Division.{one, minus_one, equation, divisor_sign, dividend_sign, lower_bound, upper_bound, division}
use Rattle.leaf_cases.specs.Steps.{one_more, operand, value_at, test_at, kind_of}
use Rattle.leaf_cases.proofs.Quotients.{Splits}
use Rattle.leaf_cases.proofs.StepsTell.{AllTell}

-- ---- answers and their numbers

-- the answer, if there is one, has this value
pub record Says (w : Valuation) (r : Answer) (z : ℤ) : Type 0 where
  pub is : (p : Polynomial) → r ≡ Ok p → value_of w p ≡ z

module _ (w : Valuation) where
  known-says : (p : Polynomial) (z : ℤ) → value_of w p ≡ z → (q : Polynomial) → (let r : Answer = Ok p in r ≡ Ok q) → value_of w q ≡ z
  known-says p z h q e = let same : p ≡ q = cc in subst (λ x. value_of w x ≡ z) same h

  bind-says : (r : Answer) (f : Polynomial → Answer) (z : ℤ) → ((p : Polynomial) → r ≡ Ok p → Says w (f p) z) → Says w (r >>= f) z
  bind-says r f z tells = record { is = λ q e. on_ok r f q e (λ p g k. (tells p g).is q k) }

  sum-says : (a b : Polynomial) → Says w (sum_of_polys a b) (value_of w a +ℤ value_of w b)
  sum-says a b = record { is = λ p e. sum_of_polys-value w a b p e }

  turned-says : (a : Polynomial) → Says w (multiple_of a (negsuc 0)) (pos 0 -ℤ value_of w a)
  turned-says a = record { is = λ p e. multiple_of-value w a (negsuc 0) p e ∙ turn (value_of w a) }
    where
      turn : (x : ℤ) → x *ℤ negsuc 0 ≡ pos 0 -ℤ x
      turn x = omega (arith, ints)

  difference-says : (a b : Polynomial) → Says w (difference_of_polys a b) (value_of w a -ℤ value_of w b)
  difference-says a b =
      bind-says (multiple_of b (negsuc 0)) (λ turned. sum_of_polys a turned) (value_of w a -ℤ value_of w b)
      (λ m e. record { is = λ p f. (sum-says a m).is p f ∙ less (value_of w a) (value_of w b) (value_of w m) ((turned-says b).is m e) })
    where
      less : (x y z : ℤ) → z ≡ pos 0 -ℤ y → x +ℤ z ≡ x -ℤ y
      less x y z e = omega (arith, ints, e)

  one_more-says : (a b : Polynomial) → Says w (one_more a b) (value_of w a -ℤ value_of w b +ℤ pos 1)
  one_more-says a b =
      bind-says (difference_of_polys a b) (λ d. sum_of_polys d one) (value_of w a -ℤ value_of w b +ℤ pos 1)
      (λ d e. record { is = λ p f. (sum-says d one).is p f ∙ ap (λ x. x +ℤ pos 1) ((difference-says a b).is d e) })

-- ---- rows

-- the claims' polynomials have these values, and these values are as the rows ask
abbrev pub AllSay : Valuation → List Claim → List ℤ → Type 0
AllSay w [] [] = Unit {0}
AllSay w [] (z ∷ zs) = ⊥
AllSay w (claim ∷ claims) [] = ⊥
AllSay w (claim ∷ claims) (z ∷ zs) = Says w claim.poly z × AllSay w claims zs

abbrev pub AllWithin : List Claim → List ℤ → Type 0
AllWithin [] [] = Unit {0}
AllWithin [] (z ∷ zs) = ⊥
AllWithin (claim ∷ claims) [] = ⊥
AllWithin (claim ∷ claims) (z ∷ zs) = IsWithin claim.kind z × AllWithin claims zs

pub claims-hold : (w : Valuation) (claims : List Claim) (zs : List ℤ) → AllSay w claims zs → AllWithin claims zs → RowsHold w (rows_of claims)
claims-hold w [] zs h k = tt
claims-hold w (claim ∷ claims) [] h k = absurd h
claims-hold w (claim ∷ claims) (z ∷ zs) h k = go claim.poly refl (claims-hold w claims zs h.1 k.1)
  where
    go : (r : Answer) → claim.poly ≡ r → RowsHold w (rows_of claims) → RowsHold w (cons_option (row_of claim.kind r) (rows_of claims))
    go (Ok p) e rest = (subst (IsWithin claim.kind) (sym (h.0.is p e)) k.0, rest)
    go (Err d) e rest = rest

pub claims-held : (w : Valuation) (claims : List Claim) (zs : List ℤ) → AllTell claims → AllSay w claims zs → claim_losses claims ≡ [] → RowsHold w (rows_of claims) → AllWithin claims zs
claims-held w [] [] tells h none k = tt
claims-held w [] (z ∷ zs) tells h none k = absurd h
claims-held w (claim ∷ claims) [] tells h none k = absurd h
claims-held w (claim ∷ claims) (z ∷ zs) tells h none k =
    let parts = none-of (losses_of claim.poly) (claim_losses claims) none in
    go claim.poly refl parts.0 k (λ rest. claims-held w claims zs tells.1 h.1 parts.1 rest)
  where
    go : (r : Answer) → claim.poly ≡ r → losses_of r ≡ [] → RowsHold w (cons_option (row_of claim.kind r) (rows_of claims)) → (RowsHold w (rows_of claims) → AllWithin claims zs) → AllWithin (claim ∷ claims) (z ∷ zs)
    go (Ok p) e n held ih = (subst (IsWithin claim.kind) (h.0.is p e) held.0, ih held.1)
    go (Err d) e n held ih = absurd (lost-some claim.poly d tells.0 e n)

-- ---- the values of operands

abbrev pub first_of : List ℤ → ℤ
first_of z = unwrap_or (slice_get z 0) (pos 0)

abbrev pub second_of : List ℤ → ℤ
second_of z = unwrap_or (slice_get z 1) (pos 0)

pub got : (f : Polynomial → ℤ) (d : Polynomial) (xs : List Polynomial) (n : ℕ) → f d ≡ pos 0 → f (unwrap_or (slice_get xs n) d) ≡ unwrap_or (slice_get (map f xs) n) (pos 0)
got f d [] n e = e
got f d (x ∷ xs) zero e = refl
got f d (x ∷ xs) (suc n) e = got f d xs n e

pub operand-value : (w : Valuation) (case : Case) (z : List ℤ) (n : ℕ) → HoldsAt w case z → value_of w (operand n case) ≡ unwrap_or (slice_get z n) (pos 0)
operand-value w case z n h = got (value_of w) (constant_of (pos 0)) case.post n refl ∙ ap (λ l. unwrap_or (slice_get l n) (pos 0)) h.posts

-- ---- what a step says of numbers

abbrev pub calculated_number : Arithmetic → ℤ → ℤ → ℤ
calculated_number Negate a b = pos 0 -ℤ a
calculated_number Sum a b = a +ℤ b
calculated_number Difference a b = a -ℤ b
calculated_number Product a b = a *ℤ b

abbrev pub tested_number : TestRelation → ℤ → ℤ → ℤ
tested_number Less a b = a -ℤ b +ℤ pos 1
tested_number LessOrEqual a b = a -ℤ b
tested_number Greater a b = b -ℤ a +ℤ pos 1
tested_number GreaterOrEqual a b = b -ℤ a
tested_number Same a b = a -ℤ b
tested_number Negative a b = a -ℤ negsuc 0
tested_number Positive a b = pos 1 -ℤ a
tested_number Zero a b = a -ℤ pos 0

abbrev pub part_number : DivisionPart → ℤ → ℤ → ℤ
part_number Quotient a b = int_div a b
part_number Remainder a b = a -ℤ (int_div a b *ℤ b)

abbrev pub StepGives : CaseStep → ℤ → ℤ → List ℤ → Type 0
StepGives (Value arithmetic) a b y = y ≡ calculated_number arithmetic a b ∷ []
StepGives (Divide part) a b y = (b ≢ pos 0) × (y ≡ part_number part a b ∷ [])
StepGives (Test relation) a b y = IsWithin (kind_of relation) (tested_number relation a b) × (y ≡ [])

module _ (w : Valuation) (a b : Polynomial) (x y : ℤ) (h : value_of w a ≡ x) (k : value_of w b ≡ y) where
  pub value-says : (arithmetic : Arithmetic) → Says w (value_at arithmetic a b) (calculated_number arithmetic x y)
  value-says Negate = record { is = λ p e. (turned-says w a).is p e ∙ ap (λ v. pos 0 -ℤ v) h }
  value-says Sum = record { is = λ p e. (sum-says w a b).is p e ∙ (λ i. h i +ℤ k i) }
  value-says Difference = record { is = λ p e. (difference-says w a b).is p e ∙ (λ i. h i -ℤ k i) }
  value-says Product = record { is = λ p e. product_of_polys-value w a b p e ∙ (λ i. h i *ℤ k i) }

  pub test-says : (relation : TestRelation) → Says w (test_at relation a b) (tested_number relation x y)
  test-says Less = record { is = λ p e. (one_more-says w a b).is p e ∙ (λ i. h i -ℤ k i +ℤ pos 1) }
  test-says LessOrEqual = record { is = λ p e. (difference-says w a b).is p e ∙ (λ i. h i -ℤ k i) }
  test-says Greater = record { is = λ p e. (one_more-says w b a).is p e ∙ (λ i. k i -ℤ h i +ℤ pos 1) }
  test-says GreaterOrEqual = record { is = λ p e. (difference-says w b a).is p e ∙ (λ i. k i -ℤ h i) }
  test-says Same = record { is = λ p e. (difference-says w a b).is p e ∙ (λ i. h i -ℤ k i) }
  test-says Negative = record { is = λ p e. (difference-says w a minus_one).is p e ∙ (λ i. h i -ℤ negsuc 0) }
  test-says Positive = record { is = λ p e. (difference-says w one a).is p e ∙ (λ i. pos 1 -ℤ h i) }
  test-says Zero = record { is = λ p e. (difference-says w a (constant_of (pos 0))).is p e ∙ (λ i. h i -ℤ pos 0) }

  module _ (q r : Polynomial) (u v : ℤ) (l : value_of w q ≡ u) (m : value_of w r ≡ v) where
    equation-says : Says w (equation a b q r) (x -ℤ u *ℤ y -ℤ v)
    equation-says =
        bind-says w (product_of_polys q b) (λ p. difference_of_polys a p >>= λ d. difference_of_polys d r) (x -ℤ u *ℤ y -ℤ v)
        (λ p e. bind-says w (difference_of_polys a p) (λ d. difference_of_polys d r) (x -ℤ u *ℤ y -ℤ v)
        (λ d f. record {
          is = λ s g. (difference-says w d r).is s g
              ∙ (λ i. ((difference-says w a p).is d f ∙ (λ j. h j -ℤ (product_of_polys-value w q b p e ∙ (λ n. l n *ℤ k n)) j)) i -ℤ m i);
        }))

    divisor-says : (sign : Bool) → Says w (divisor_sign sign b) (cond sign (pos 1 -ℤ y) (y -ℤ negsuc 0))
    divisor-says true = record { is = λ p e. (difference-says w one b).is p e ∙ (λ i. pos 1 -ℤ k i) }
    divisor-says false = record { is = λ p e. (difference-says w b minus_one).is p e ∙ (λ i. k i -ℤ negsuc 0) }

    dividend-says : (sign : Bool) → Says w (dividend_sign sign a) (cond sign (pos 0 -ℤ x) (x -ℤ negsuc 0))
    dividend-says true = record { is = λ p e. (difference-says w (constant_of (pos 0)) a).is p e ∙ (λ i. pos 0 -ℤ h i) }
    dividend-says false = record { is = λ p e. (difference-says w a minus_one).is p e ∙ (λ i. h i -ℤ negsuc 0) }

    lower-says : (divisor dividend : Bool) → Says w (lower_bound divisor dividend b r) (cond dividend (pos 0 -ℤ v) (cond divisor (pos 1 -ℤ y -ℤ v) (y +ℤ pos 1 -ℤ v)))
    lower-says true true = record { is = λ p e. (difference-says w (constant_of (pos 0)) r).is p e ∙ (λ i. pos 0 -ℤ m i) }
    lower-says false true = record { is = λ p e. (difference-says w (constant_of (pos 0)) r).is p e ∙ (λ i. pos 0 -ℤ m i) }
    lower-says true false =
        bind-says w (multiple_of b (negsuc 0)) (λ turned. sum_of_polys turned one >>= λ least. difference_of_polys least r) (pos 1 -ℤ y -ℤ v)
        (λ t e. bind-says w (sum_of_polys t one) (λ least. difference_of_polys least r) (pos 1 -ℤ y -ℤ v)
        (λ n f. record {
          is = λ p g. (difference-says w n r).is p g ∙ (λ i. value_of w n -ℤ m i)
              ∙ least (value_of w n) (value_of w t) ((sum-says w t one).is n f) ((turned-says w b).is t e ∙ (λ i. pos 0 -ℤ k i));
        }))
      where
        least : (n t : ℤ) → n ≡ t +ℤ pos 1 → t ≡ pos 0 -ℤ y → n -ℤ v ≡ pos 1 -ℤ y -ℤ v
        least n t e f = omega (arith, ints, e, f)
    lower-says false false =
        bind-says w (sum_of_polys b one) (λ least. difference_of_polys least r) (y +ℤ pos 1 -ℤ v)
        (λ n f. record { is = λ p g. (difference-says w n r).is p g ∙ (λ i. ((sum-says w b one).is n f ∙ (λ j. k j +ℤ pos 1)) i -ℤ m i) })

    upper-says : (divisor dividend : Bool) → Says w (upper_bound divisor dividend b r) (cond dividend (cond divisor (v -ℤ (y -ℤ pos 1)) (v -ℤ (negsuc 0 -ℤ y))) (v -ℤ pos 0))
    upper-says true true =
        bind-says w (difference_of_polys b one) (λ most. difference_of_polys r most) (v -ℤ (y -ℤ pos 1))
        (λ n f. record { is = λ p g. (difference-says w r n).is p g ∙ (λ i. m i -ℤ ((difference-says w b one).is n f ∙ (λ j. k j -ℤ pos 1)) i) })
    upper-says false true =
        bind-says w (multiple_of b (negsuc 0)) (λ turned. difference_of_polys turned one >>= λ most. difference_of_polys r most) (v -ℤ (negsuc 0 -ℤ y))
        (λ t e. bind-says w (difference_of_polys t one) (λ most. difference_of_polys r most) (v -ℤ (negsuc 0 -ℤ y))
        (λ n f. record {
          is = λ p g. (difference-says w r n).is p g ∙ (λ i. m i -ℤ value_of w n)
              ∙ most (value_of w n) (value_of w t) ((difference-says w t one).is n f) ((turned-says w b).is t e ∙ (λ i. pos 0 -ℤ k i));
        }))
      where
        most : (n t : ℤ) → n ≡ t -ℤ pos 1 → t ≡ pos 0 -ℤ y → v -ℤ n ≡ v -ℤ (negsuc 0 -ℤ y)
        most n t e f = omega (arith, ints, e, f)
    upper-says true false = record { is = λ p e. (difference-says w r (constant_of (pos 0))).is p e ∙ (λ i. m i -ℤ pos 0) }
    upper-says false false = record { is = λ p e. (difference-says w r (constant_of (pos 0))).is p e ∙ (λ i. m i -ℤ pos 0) }

-- the numbers of the rows of a division
abbrev pub division_numbers : Bool → Bool → ℤ → ℤ → ℤ → ℤ → List ℤ
division_numbers divisor dividend x y u v =
    (x -ℤ u *ℤ y -ℤ v)
    ∷ (cond divisor (pos 1 -ℤ y) (y -ℤ negsuc 0))
    ∷ (cond dividend (pos 0 -ℤ x) (x -ℤ negsuc 0))
    ∷ (cond dividend (pos 0 -ℤ v) (cond divisor (pos 1 -ℤ y -ℤ v) (y +ℤ pos 1 -ℤ v)))
    ∷ (cond dividend (cond divisor (v -ℤ (y -ℤ pos 1)) (v -ℤ (negsuc 0 -ℤ y))) (v -ℤ pos 0))
    ∷ []

pub division-says : (w : Valuation) (signs : Signs) (a b q r : Polynomial) (x y u v : ℤ) → value_of w a ≡ x → value_of w b ≡ y → value_of w q ≡ u → value_of w r ≡ v
    → AllSay w (division signs a b q r) (division_numbers signs.divisor signs.dividend x y u v)
division-says w signs a b q r x y u v h k l m = (
  equation-says w a b x y h k q r u v l m,
  (
    divisor-says w a b x y h k q r u v l m signs.divisor,
    (
      dividend-says w a b x y h k q r u v l m signs.dividend,
      (lower-says w a b x y h k q r u v l m signs.divisor signs.dividend, (upper-says w a b x y h k q r u v l m signs.divisor signs.dividend, tt)),
    ),
  ),
)

-- the rows hold where the division falls under their case
abbrev WithinDivision : Bool → Bool → ℤ → ℤ → ℤ → ℤ → Type 0
WithinDivision divisor dividend x y u v = AllWithin (division (record { divisor = divisor; dividend = dividend }) one one one one) (division_numbers divisor dividend x y u v)

module _ (x y u v : ℤ) where
  pub splits-within : (divisor dividend : Bool) → Splits divisor dividend x y u v → WithinDivision divisor dividend x y u v
  splits-within true true h = let a = h.equation in let b = h.divisor_is in let c = h.dividend_is in let d = h.lower in let e = h.upper in (omega (arith, ints), (omega (arith, ints), (omega (arith, ints), (omega (arith, ints), (omega (arith, ints), tt)))))
  splits-within true false h = let a = h.equation in let b = h.divisor_is in let c = h.dividend_is in let d = h.lower in let e = h.upper in (omega (arith, ints), (omega (arith, ints), (omega (arith, ints), (omega (arith, ints), (omega (arith, ints), tt)))))
  splits-within false true h = let a = h.equation in let b = h.divisor_is in let c = h.dividend_is in let d = h.lower in let e = h.upper in (omega (arith, ints), (omega (arith, ints), (omega (arith, ints), (omega (arith, ints), (omega (arith, ints), tt)))))
  splits-within false false h = let a = h.equation in let b = h.divisor_is in let c = h.dividend_is in let d = h.lower in let e = h.upper in (omega (arith, ints), (omega (arith, ints), (omega (arith, ints), (omega (arith, ints), (omega (arith, ints), tt)))))

  pub within-splits : (divisor dividend : Bool) → WithinDivision divisor dividend x y u v → Splits divisor dividend x y u v
  within-splits true true (a, (b, (c, (d, (e, t))))) = record { equation = omega (arith, ints); divisor_is = omega (arith, ints); dividend_is = omega (arith, ints); lower = omega (arith, ints); upper = omega (arith, ints) }
  within-splits true false (a, (b, (c, (d, (e, t))))) = record { equation = omega (arith, ints); divisor_is = omega (arith, ints); dividend_is = omega (arith, ints); lower = omega (arith, ints); upper = omega (arith, ints) }
  within-splits false true (a, (b, (c, (d, (e, t))))) = record { equation = omega (arith, ints); divisor_is = omega (arith, ints); dividend_is = omega (arith, ints); lower = omega (arith, ints); upper = omega (arith, ints) }
  within-splits false false (a, (b, (c, (d, (e, t))))) = record { equation = omega (arith, ints); divisor_is = omega (arith, ints); dividend_is = omega (arith, ints); lower = omega (arith, ints); upper = omega (arith, ints) }
