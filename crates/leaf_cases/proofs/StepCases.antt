-- What steps make of cases holds of the numbers that they give, and of no others where nothing is
-- lost.
use Rattle.std.proofs.Common.{◌≡◌, ◌⊎◌, inl, inr, ℕ, zero, suc, ◌+◌, Bool, true, false, ℤ, ◌-ℤ◌, ◌*ℤ◌, map, List, [], ◌∷◌, Ok, Err, refl, sym, ap, ◌∙◌, arith}
use Rattle.std.specs.Prelude.{int_div}
use Rattle.std.proofs.lemmas.Int.{ints}
use Rattle.std.specs.List.{AllByRecursion, flat_map}
use Rattle.items.proofs.Each.{each-append, each-front, each-back}
use Rattle.linear_terms.specs.declared.col.Col.TheVariants.{Aux}
use Rattle.linear_terms.specs.declared.row.Case.{Case}
use Rattle.linear_terms.specs.Polynomial.{Polynomial, column_of, constant_of}
use Rattle.linear_terms.specs.Row.{RowHolds, RowsHold}
use Rattle.linear_terms.specs.Value.{Valuation, value_of}
use Rattle.transition_formula.specs.Loss.{losses_of}
use Rattle.transition_formula.specs.Meaning.{numbers, HoldsAt, HoldsCase, HoldsSome}
use Rattle.transition_formula.proofs.NotedErrors.{lost-some}
use Rattle.transition_formula.proofs.Values.{column-value, none-of}
use Rattle.transition_formula.proofs.Meanings.{some-either, some-left, some-right}
use Rattle.leaf_cases.specs.declared.division.DivisionPart.{DivisionPart}
use Rattle.leaf_cases.specs.declared.division.DivisionPart.TheVariants.{Quotient, Remainder}
use Rattle.leaf_cases.specs.declared.division.Signs.{Signs}
use Rattle.leaf_cases.specs.declared.step.Arithmetic.{Arithmetic}
use Rattle.leaf_cases.specs.declared.step.TestRelation.{TestRelation}
use Rattle.leaf_cases.specs.declared.step.CaseStep.{CaseStep}
use Rattle.leaf_cases.specs.declared.step.CaseStep.TheVariants.{Value, Divide, Test}
use Rattle.leaf_cases.specs.Claims.{Answer, Claim, rows_of, claim_losses, case_with_claims, case_with_value}
use Rattle.leaf_cases.specs.Division.{all_signs}
use Rattle.leaf_cases.specs.Steps as steps
use Rattle.leaf_cases.specs.Steps.{operand, value_at, test_at, test_claim, division_at, part_at, cases_of_step, losses_at, with_number}
use Rattle.leaf_cases.proofs.Quotients.{IsDivision, Falls, division_falls, splits-divide}
use Rattle.leaf_cases.proofs.CaseColumns.{Sits}
use Rattle.leaf_cases.proofs.StepsTell.{value_at-tells, test_at-tells, division-tells}
use Rattle.leaf_cases.proofs.StepClaims.{AllSay, AllWithin, claims-hold, claims-held, first_of, second_of, operand-value, calculated_number, tested_number, part_number, StepGives, value-says, test-says, division_numbers, division-says, splits-within, within-splits}
use Rattle.leaf_cases.proofs.Together.{extended, extended-more, extended-holds}

-- ---- a case with more rows and other posts

limited-holds : (w : Valuation) (case : Case) (x : List ℤ) → HoldsAt w case x → (more : ℕ) (claims : List Claim) (zs : List ℤ) → AllSay w claims zs → AllWithin claims zs → (post : List Polynomial) (y : List ℤ) → map (value_of w) post ≡ y
    → HoldsAt w (case_with_claims case more claims post) y
limited-holds w case x h more claims zs says within post y e = record { rows = each-append (RowHolds w) case.rows (rows_of claims) h.rows (claims-hold w claims zs says within); posts = e }

-- the numbers of the case before
before-limited : (w : Valuation) (case : Case) (more : ℕ) (claims : List Claim) (post : List Polynomial) (y : List ℤ) → HoldsAt w (case_with_claims case more claims post) y → HoldsAt w case (map (value_of w) case.post)
before-limited w case more claims post y h = record { rows = each-front (RowHolds w) case.rows (rows_of claims) h.rows; posts = refl }

rows-limited : (w : Valuation) (case : Case) (more : ℕ) (claims : List Claim) (post : List Polynomial) (y : List ℤ) → HoldsAt w (case_with_claims case more claims post) y → RowsHold w (rows_of claims)
rows-limited w case more claims post y h = each-back (RowHolds w) case.rows (rows_of claims) h.rows

one-value : (w : Valuation) (p : Polynomial) (z : ℤ) → value_of w p ≡ z → map (value_of w) (p ∷ []) ≡ z ∷ []
one-value w p z e = λ i. e i ∷ []

-- what a step makes of a case holds of numbers that it gives from those of the case
pub record From (case : Case) (step : CaseStep) (s y : List ℤ) : Type 0 where
  pub numbers_are : List ℤ
  pub holds : HoldsCase case s numbers_are
  pub gives : StepGives step (first_of numbers_are) (second_of numbers_are) y

module _ (columns most : ℕ) (case : Case) (sits : Sits columns most case) (s x : List ℤ) (h : HoldsCase case s x) where
  value-holds : (arithmetic : Arithmetic) (y : List ℤ) → y ≡ calculated_number arithmetic (first_of x) (second_of x) ∷ [] → HoldsCase (case_with_value case (value_at arithmetic (operand 0 case) (operand 1 case))) s y
  value-holds arithmetic y e = go (value_at arithmetic (operand 0 case) (operand 1 case)) refl
    where
      z : ℤ
      z = calculated_number arithmetic (first_of x) (second_of x)

      go : (r : Answer) → value_at arithmetic (operand 0 case) (operand 1 case) ≡ r → HoldsCase (case_with_value case r) s y
      go (Ok p) f =
          let w = numbers s h.0 in
          let says = value-says w (operand 0 case) (operand 1 case) (first_of x) (second_of x) (operand-value w case x 0 h.1) (operand-value w case x 1 h.1) arithmetic in
          (h.0, limited-holds w case x h.1 0 [] [] tt tt (p ∷ []) y (one-value w p (calculated_number arithmetic (first_of x) (second_of x)) (says.is p f) ∙ sym e))
      go (Err d) f =
          let aux = extended case.aux h.0 (λ n. calculated_number arithmetic (first_of x) (second_of x)) in
          let w = numbers s aux in
          let same : case.aux + 0 ≡ case.aux = omega arith in
          let new : w (Aux case.aux) ≡ calculated_number arithmetic (first_of x) (second_of x) =
          ap (λ n. aux n) (sym same) ∙ extended-more case.aux h.0 (λ n. calculated_number arithmetic (first_of x) (second_of x)) 0 in (
            aux,
            limited-holds w case x (extended-holds columns most case sits s x h.0 (λ n. calculated_number arithmetic (first_of x) (second_of x)) h.1) 1 [] [] tt tt (column_of (Aux case.aux) ∷ []) y
                (one-value w (column_of (Aux case.aux)) (calculated_number arithmetic (first_of x) (second_of x)) (column-value w (Aux case.aux) ∙ new) ∙ sym e),
          )

  test-holds : (relation : TestRelation) (y : List ℤ) → StepGives (Test relation) (first_of x) (second_of x) y → HoldsCase (case_with_claims case 0 (test_claim relation case ∷ []) []) s y
  test-holds relation y (within, e) =
      let w = numbers s h.0 in (
        h.0,
        limited-holds w case x h.1 0 (test_claim relation case ∷ []) (tested_number relation (first_of x) (second_of x) ∷ [])
            (test-says w (operand 0 case) (operand 1 case) (first_of x) (second_of x) (operand-value w case x 0 h.1) (operand-value w case x 1 h.1) relation, tt) (within, tt) [] y (sym e),
      )

  abbrev halves : ℕ → ℤ
  halves zero = int_div (first_of x) (second_of x)
  halves (suc n) = first_of x -ℤ (int_div (first_of x) (second_of x) *ℤ second_of x)

  division-holds : (part : DivisionPart) (y : List ℤ) → y ≡ part_number part (first_of x) (second_of x) ∷ [] → (f : Falls (first_of x) (second_of x))
      → HoldsCase (case_with_claims case 2 (division_at (record { divisor = f.divisor; dividend = f.dividend }) case) (column_of (Aux (part_at part case.aux)) ∷ [])) s y
  division-holds part y e f =
      let a = first_of x in
      let b = second_of x in
      let aux = extended case.aux h.0 halves in
      let w = numbers s aux in
      let at = extended-holds columns most case sits s x h.0 halves h.1 in
      let same : case.aux + 0 ≡ case.aux = omega arith in
      let q : w (Aux case.aux) ≡ int_div a b = ap (λ n. aux n) (sym same) ∙ extended-more case.aux h.0 halves 0 in
      let r : w (Aux (case.aux + 1)) ≡ a -ℤ (int_div a b *ℤ b) = extended-more case.aux h.0 halves 1 in
      let says = division-says w (record { divisor = f.divisor; dividend = f.dividend }) (operand 0 case) (operand 1 case) (column_of (Aux case.aux)) (column_of (Aux (case.aux + 1))) a b (int_div a b) (a -ℤ (int_div a b *ℤ b))
      (operand-value w case x 0 at) (operand-value w case x 1 at) (column-value w (Aux case.aux) ∙ q) (column-value w (Aux (case.aux + 1)) ∙ r) in
      let within = splits-within a b (int_div a b) (a -ℤ (int_div a b *ℤ b)) f.divisor f.dividend f.splits in
      let value : value_of w (column_of (Aux (part_at part case.aux))) ≡ part_number part a b = column-value w (Aux (part_at part case.aux)) ∙ part_is part w q r in (
        aux,
        limited-holds w case x at 2 (division_at (record { divisor = f.divisor; dividend = f.dividend }) case) (division_numbers f.divisor f.dividend a b (int_div a b) (a -ℤ (int_div a b *ℤ b))) says within
            (column_of (Aux (part_at part case.aux)) ∷ []) y (one-value w (column_of (Aux (part_at part case.aux))) (part_number part a b) value ∙ sym e),
      )
    where
      part_is : (part : DivisionPart) (w : Valuation) → w (Aux case.aux) ≡ int_div (first_of x) (second_of x) → w (Aux (case.aux + 1)) ≡ first_of x -ℤ (int_div (first_of x) (second_of x) *ℤ second_of x)
          → w (Aux (part_at part case.aux)) ≡ part_number part (first_of x) (second_of x)
      part_is Quotient w q r = q
      part_is Remainder w q r = r

  place-signs : (f : Signs → Case) (y : List ℤ) (divisor dividend : Bool) → HoldsCase (f (record { divisor = divisor; dividend = dividend })) s y → HoldsSome (map f all_signs) s y
  place-signs f y true true k = inl k
  place-signs f y true false k = inr (inl k)
  place-signs f y false true k = inr (inr (inl k))
  place-signs f y false false k = inr (inr (inr (inl k)))

  pub step-holds : (step : CaseStep) (y : List ℤ) → StepGives step (first_of x) (second_of x) y → HoldsSome (cases_of_step step case) s y
  step-holds (Value arithmetic) y e = inl (value-holds arithmetic y e)
  step-holds (Test relation) y e = inl (test-holds relation y e)
  step-holds (Divide part) y (some, e) =
      let f = division_falls (first_of x) (second_of x) some in
      place-signs (λ signs. case_with_claims case 2 (division_at signs case) (column_of (Aux (part_at part case.aux)) ∷ [])) y f.divisor f.dividend (division-holds part y e f)

-- ---- the other way

module _ (case : Case) (s y : List ℤ) where
  value-held : (arithmetic : Arithmetic) → losses_of (value_at arithmetic (operand 0 case) (operand 1 case)) ≡ [] → HoldsCase (case_with_value case (value_at arithmetic (operand 0 case) (operand 1 case))) s y → From case (Value arithmetic) s y
  value-held arithmetic none h = go (value_at arithmetic (operand 0 case) (operand 1 case)) refl none h
    where
      go : (r : Answer) → value_at arithmetic (operand 0 case) (operand 1 case) ≡ r → losses_of r ≡ [] → HoldsCase (case_with_value case r) s y → From case (Value arithmetic) s y
      go (Ok p) f n (aux, k) =
          let w = numbers s aux in
          let at = before-limited w case 0 [] (p ∷ []) y k in
          let x = map (value_of w) case.post in
          let says = value-says w (operand 0 case) (operand 1 case) (first_of x) (second_of x) (operand-value w case x 0 at) (operand-value w case x 1 at) arithmetic in
          record { numbers_are = x; holds = (aux, at); gives = sym k.posts ∙ one-value w p (calculated_number arithmetic (first_of x) (second_of x)) (says.is p f) }
      go (Err d) f n k = absurd (lost-some (value_at arithmetic (operand 0 case) (operand 1 case)) d (value_at-tells arithmetic (operand 0 case) (operand 1 case)) f n)

  test-held : (relation : TestRelation) → claim_losses (test_claim relation case ∷ []) ≡ [] → HoldsCase (case_with_claims case 0 (test_claim relation case ∷ []) []) s y → From case (Test relation) s y
  test-held relation none (aux, k) =
      let w = numbers s aux in
      let claims = test_claim relation case ∷ [] in
      let at = before-limited w case 0 claims [] y k in
      let x = map (value_of w) case.post in
      let says = test-says w (operand 0 case) (operand 1 case) (first_of x) (second_of x) (operand-value w case x 0 at) (operand-value w case x 1 at) relation in
      let within = claims-held w claims (tested_number relation (first_of x) (second_of x) ∷ []) (test_at-tells relation (operand 0 case) (operand 1 case), tt) (says, tt) none (rows-limited w case 0 claims [] y k) in
      record { numbers_are = x; holds = (aux, at); gives = (within.0, sym k.posts) }

  division-held : (part : DivisionPart) (divisor dividend : Bool) → (let signs : Signs = record { divisor = divisor; dividend = dividend } in claim_losses (division_at signs case)) ≡ []
      → HoldsCase (case_with_claims case 2 (division_at (record { divisor = divisor; dividend = dividend }) case) (column_of (Aux (part_at part case.aux)) ∷ [])) s y → From case (Divide part) s y
  division-held part divisor dividend none (aux, k) =
      let signs : Signs = record { divisor = divisor; dividend = dividend } in
      let w = numbers s aux in
      let claims = division_at signs case in
      let post = column_of (Aux (part_at part case.aux)) ∷ [] in
      let at = before-limited w case 2 claims post y k in
      let x = map (value_of w) case.post in
      let a = first_of x in
      let b = second_of x in
      let q = w (Aux case.aux) in
      let r = w (Aux (case.aux + 1)) in
      let says = division-says w signs (operand 0 case) (operand 1 case) (column_of (Aux case.aux)) (column_of (Aux (case.aux + 1))) a b q r (operand-value w case x 0 at) (operand-value w case x 1 at) (column-value w (Aux case.aux)) (column-value w (Aux (case.aux + 1))) in
      let within = claims-held w claims (division_numbers divisor dividend a b q r)
      (division-tells signs (operand 0 case) (operand 1 case) (column_of (Aux case.aux)) (column_of (Aux (case.aux + 1)))) says none (rows-limited w case 2 claims post y k) in
      let is = splits-divide divisor dividend a b q r (within-splits a b q r divisor dividend within) in
      record { numbers_are = x; holds = (aux, at); gives = (is.some, sym k.posts ∙ one-value w (column_of (Aux (part_at part case.aux))) (part_number part a b) (column-value w (Aux (part_at part case.aux)) ∙ part_is part a b q r w refl refl is)) }
    where
      part_is : (part : DivisionPart) (a b q r : ℤ) (w : Valuation) → w (Aux case.aux) ≡ q → w (Aux (case.aux + 1)) ≡ r → IsDivision a b q r → w (Aux (part_at part case.aux)) ≡ part_number part a b
      part_is Quotient a b q r w e f is = e ∙ is.quotient
      part_is Remainder a b q r w e f is = f ∙ is.remainder

  pub step-held : (step : CaseStep) → losses_at step case ≡ [] → HoldsSome (cases_of_step step case) s y → From case step s y
  step-held (Value arithmetic) none (inl h) = value-held arithmetic none h
  step-held (Value arithmetic) none (inr h) = absurd h
  step-held (Test relation) none (inl h) = test-held relation none h
  step-held (Test relation) none (inr h) = absurd h
  step-held (Divide part) none h = four h
    where
      four : HoldsSome (cases_of_step (Divide part) case) s y → From case (Divide part) s y
      four (inl k) = division-held part true true (none-of (claim_losses (division_at (record { divisor = true; dividend = true }) case)) _ none).0 k
      four (inr (inl k)) = division-held part true false (none-of (claim_losses (division_at (record { divisor = true; dividend = false }) case)) _ (none-of (claim_losses (division_at (record { divisor = true; dividend = true }) case)) _ none).1).0 k
      four (inr (inr (inl k))) =
          division-held part false true
          (none-of (claim_losses (division_at (record { divisor = false; dividend = true }) case)) _
          (none-of (claim_losses (division_at (record { divisor = true; dividend = false }) case)) _ (none-of (claim_losses (division_at (record { divisor = true; dividend = true }) case)) _ none).1).1).0 k
      four (inr (inr (inr (inl k)))) =
          division-held part false false
          (none-of (claim_losses (division_at (record { divisor = false; dividend = false }) case)) _
          (none-of (claim_losses (division_at (record { divisor = false; dividend = true }) case)) _
          (none-of (claim_losses (division_at (record { divisor = true; dividend = false }) case)) _ (none-of (claim_losses (division_at (record { divisor = true; dividend = true }) case)) _ none).1).1).1).0 k
      four (inr (inr (inr (inr k)))) = absurd k

-- ---- lists of cases and of steps

abbrev pub SomeGives : List CaseStep → ℤ → ℤ → List ℤ → Type 0
SomeGives [] a b y = ⊥
SomeGives (step ∷ more) a b y = StepGives step a b y ⊎ SomeGives more a b y

-- numbers of which one of the cases holds, and from which one of the steps gives y
pub record Stepped (all : List CaseStep) (P : List ℤ → List ℤ → Type 0) (s y : List ℤ) : Type 0 where
  pub numbers_are : List ℤ
  pub holds : P s numbers_are
  pub gives : SomeGives all (first_of numbers_are) (second_of numbers_are) y

each-holds : (columns most : ℕ) (step : CaseStep) (cases : List Case) → AllByRecursion (Sits columns most) cases → (s x y : List ℤ) → HoldsSome cases s x → StepGives step (first_of x) (second_of x) y → HoldsSome (flat_map (cases_of_step step) cases) s y
each-holds columns most step [] sits s x y h k = absurd h
each-holds columns most step (case ∷ cases) sits s x y (inl h) k = some-left (cases_of_step step case) (flat_map (cases_of_step step) cases) s y (step-holds columns most case sits.0 s x h step y k)
each-holds columns most step (case ∷ cases) sits s x y (inr h) k = some-right (cases_of_step step case) (flat_map (cases_of_step step) cases) s y (each-holds columns most step cases sits.1 s x y h k)

pub steps-hold : (columns most : ℕ) (all : List CaseStep) (cases : List Case) → AllByRecursion (Sits columns most) cases → (s x y : List ℤ) → HoldsSome cases s x → SomeGives all (first_of x) (second_of x) y → HoldsSome (steps.cases_by all cases) s y
unfolding steps.cases_by
steps-hold columns most [] cases sits s x y h k = absurd k
steps-hold columns most (step ∷ more) cases sits s x y h (inl k) = some-left (flat_map (cases_of_step step) cases) (flat_map (λ step. flat_map (cases_of_step step) cases) more) s y (each-holds columns most step cases sits s x y h k)
steps-hold columns most (step ∷ more) cases sits s x y h (inr k) = some-right (flat_map (cases_of_step step) cases) (flat_map (λ step. flat_map (cases_of_step step) cases) more) s y (steps-hold columns most more cases sits s x y h k)

-- numbers of which one of the cases holds, and from which the step gives y
record FromSome (cases : List Case) (step : CaseStep) (s y : List ℤ) : Type 0 where
  numbers_are : List ℤ
  holds : HoldsSome cases s numbers_are
  gives : StepGives step (first_of numbers_are) (second_of numbers_are) y

each-held : (step : CaseStep) (cases : List Case) (s y : List ℤ) → flat_map (losses_at step) cases ≡ [] → HoldsSome (flat_map (cases_of_step step) cases) s y → FromSome cases step s y
each-held step [] s y none h = absurd h
each-held step (case ∷ cases) s y none h =
    let parts = none-of (losses_at step case) (flat_map (losses_at step) cases) none in
    go parts.0 (some-either (cases_of_step step case) (flat_map (cases_of_step step) cases) s y h) (each-held step cases s y parts.1)
  where
    go : losses_at step case ≡ [] → HoldsSome (cases_of_step step case) s y ⊎ HoldsSome (flat_map (cases_of_step step) cases) s y → (HoldsSome (flat_map (cases_of_step step) cases) s y → FromSome cases step s y) → FromSome (case ∷ cases) step s y
    go n (inl k) ih = let one = step-held case s y step n k in record { numbers_are = one.numbers_are; holds = inl one.holds; gives = one.gives }
    go n (inr k) ih = let one = ih k in record { numbers_are = one.numbers_are; holds = inr one.holds; gives = one.gives }

pub steps-held : (all : List CaseStep) (cases : List Case) (s y : List ℤ) → steps.losses_by_steps all cases ≡ [] → HoldsSome (steps.cases_by all cases) s y → Stepped all (HoldsSome cases) s y
unfolding steps.cases_by steps.losses_by_steps
steps-held [] cases s y none h = absurd h
steps-held (step ∷ more) cases s y none h =
    let parts = none-of (flat_map (losses_at step) cases) (flat_map (λ step. flat_map (losses_at step) cases) more) none in
    go parts.0 (some-either (flat_map (cases_of_step step) cases) (flat_map (λ step. flat_map (cases_of_step step) cases) more) s y h) (steps-held more cases s y parts.1)
  where
    go : flat_map (losses_at step) cases ≡ [] → HoldsSome (flat_map (cases_of_step step) cases) s y ⊎ HoldsSome (flat_map (λ step. flat_map (cases_of_step step) cases) more) s y
        → (HoldsSome (flat_map (λ step. flat_map (cases_of_step step) cases) more) s y → Stepped more (HoldsSome cases) s y) → Stepped (step ∷ more) (HoldsSome cases) s y
    go n (inl k) ih = let one = each-held step cases s y n k in record { numbers_are = one.numbers_are; holds = one.holds; gives = inl one.gives }
    go n (inr k) ih = let one = ih k in record { numbers_are = one.numbers_are; holds = one.holds; gives = inr one.gives }

-- ---- a number as the value

-- numbers of which one of the cases holds, where the value is another
pub record Numbered (value : ℤ) (P : List ℤ → List ℤ → Type 0) (s y : List ℤ) : Type 0 where
  pub numbers_are : List ℤ
  pub holds : P s numbers_are
  pub value_is : y ≡ value ∷ []

pub constant-value : (w : Valuation) (value : ℤ) → value_of w (constant_of value) ≡ value
constant-value w value = omega (arith, ints)

pub numbered-hold : (value : ℤ) (cases : List Case) (s x : List ℤ) → HoldsSome cases s x → HoldsSome (map (with_number value) cases) s (value ∷ [])
numbered-hold value [] s x h = absurd h
numbered-hold value (case ∷ cases) s x (inl h) =
    inl (h.0, limited-holds (numbers s h.0) case x h.1 0 [] [] tt tt (constant_of value ∷ []) (value ∷ []) (one-value (numbers s h.0) (constant_of value) value (constant-value (numbers s h.0) value)))
numbered-hold value (case ∷ cases) s x (inr h) = inr (numbered-hold value cases s x h)

pub numbered-held : (value : ℤ) (cases : List Case) (s y : List ℤ) → HoldsSome (map (with_number value) cases) s y → Numbered value (HoldsSome cases) s y
numbered-held value [] s y h = absurd h
numbered-held value (case ∷ cases) s y (inl (aux, h)) =
    let w = numbers s aux in
    record {
      numbers_are = map (value_of w) case.post;
      holds = inl (aux, before-limited w case 0 [] (constant_of value ∷ []) y h);
      value_is = sym h.posts ∙ one-value w (constant_of value) value (constant-value w value);
    }
numbered-held value (case ∷ cases) s y (inr h) = let one = numbered-held value cases s y h in record { numbers_are = one.numbers_are; holds = inr one.holds; value_is = one.value_is }
