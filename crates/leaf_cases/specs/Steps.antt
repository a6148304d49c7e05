-- One step of an expression, at a case of the values of its operands.
use Rattle.std.specs.Prelude.{ℕ, ℤ, ◌+◌, negsuc, List, [], ◌∷◌, map, slice_get, unwrap_or}
use Rattle.std.specs.List.{flat_map}
use Rattle.items.specs.Gives.{◌>>=◌}
use Rattle.linear_terms.specs.declared.col.Col.TheVariants.{Aux}
use Rattle.linear_terms.specs.declared.row.Kind.{Kind}
use Rattle.linear_terms.specs.declared.row.Kind.TheVariants as kind
use Rattle.linear_terms.specs.declared.row.Case.{Case}
use Rattle.linear_terms.specs.Polynomial.{Polynomial, column_of, constant_of}
use Rattle.linear_terms.specs.Operations.{multiple_of, sum_of_polys, product_of_polys, difference_of_polys}
use Rattle.transition_formula.specs.declared.loss.Loss.{Loss}
use Rattle.transition_formula.specs.Loss.{losses_of}
use Rattle.leaf_cases.specs.declared.division.DivisionPart.{DivisionPart}
use Rattle.leaf_cases.specs.declared.division.DivisionPart.TheVariants.{Quotient, Remainder}
use Rattle.leaf_cases.specs.declared.division.Signs.{Signs}
use Rattle.leaf_cases.specs.declared.step.Arithmetic.{Arithmetic}
use Rattle.leaf_cases.specs.declared.step.Arithmetic.TheVariants.{Negate, Sum, Difference, Product}
use Rattle.leaf_cases.specs.declared.step.TestRelation.{TestRelation}
use Rattle.leaf_cases.specs.declared.step.TestRelation.TheVariants.{Less, LessOrEqual, Greater, GreaterOrEqual, Same, Negative, Positive, Zero}
use Rattle.leaf_cases.specs.declared.step.CaseStep.{CaseStep}
use Rattle.leaf_cases.specs.declared.step.CaseStep.TheVariants.{Value, Divide, Test}
use Rattle.leaf_cases.specs.Claims.{Answer, Claim, case_with_claims, claim_losses, case_with_value}
use Rattle.leaf_cases.specs.Division.{zero, one, minus_one, division, all_signs}

-- the value of the first operand, or of the second
abbrev pub operand : ℕ → Case → Polynomial
operand n case = unwrap_or (slice_get case.post n) zero

-- the value of a calculation with its operands; a negation has the first alone
abbrev pub value_at : Arithmetic → Polynomial → Polynomial → Answer
value_at Negate a b = multiple_of a (negsuc 0)
value_at Sum a b = sum_of_polys a b
value_at Difference a b = difference_of_polys a b
value_at Product a b = product_of_polys a b

-- a - b + 1
abbrev pub one_more : Polynomial → Polynomial → Answer
one_more a b = difference_of_polys a b >>= λ d. sum_of_polys d one

-- what a test says of its operands, or of its one operand and 0: `a < b` is the row `a - b + 1 <=
-- 0`
abbrev pub test_at : TestRelation → Polynomial → Polynomial → Answer
test_at Less a b = one_more a b
test_at LessOrEqual a b = difference_of_polys a b
test_at Greater a b = one_more b a
test_at GreaterOrEqual a b = difference_of_polys b a
test_at Same a b = difference_of_polys a b
test_at Negative a b = difference_of_polys a minus_one
test_at Positive a b = difference_of_polys one a
test_at Zero a b = difference_of_polys a zero

-- the kind of the row that a test says: an equation, or an inequality
abbrev pub kind_of : TestRelation → Kind
kind_of Same = kind.Equal
kind_of Zero = kind.Equal
kind_of _ = kind.AtMost

-- the quotient is the first new auxiliary of the case, and the remainder the second
abbrev pub part_at : DivisionPart → ℕ → ℕ
part_at Quotient next = next
part_at Remainder next = next + 1

-- the rows of a division, for one choice of signs, at a case of its operands
abbrev pub division_at : Signs → Case → List Claim
division_at signs case = division signs (operand 0 case) (operand 1 case) (column_of (Aux case.aux))
    (column_of (Aux (case.aux + 1)))

-- the row of a test at a case of its operands
abbrev pub test_claim : TestRelation → Case → Claim
test_claim relation case = record {
  kind = kind_of relation;
  poly = test_at relation (operand 0 case) (operand 1 case);
}

-- the cases that a step makes of one
abbrev pub cases_of_step : CaseStep → Case → List Case
cases_of_step (Value arithmetic) case =
    case_with_value case (value_at arithmetic (operand 0 case) (operand 1 case)) ∷ []
cases_of_step (Divide part) case =
    map (λ signs. case_with_claims case 2 (division_at signs case)
    (column_of (Aux (part_at part case.aux)) ∷ [])) all_signs
cases_of_step (Test relation) case = case_with_claims case 0 (test_claim relation case ∷ []) [] ∷ []

-- what is lost where a step is made at one case, in order
abbrev pub losses_at : CaseStep → Case → List Loss
losses_at (Value arithmetic) case = losses_of (value_at arithmetic (operand 0 case) (operand 1 case))
losses_at (Divide part) case = flat_map (λ signs. claim_losses (division_at signs case)) all_signs
losses_at (Test relation) case = claim_losses (test_claim relation case ∷ [])

-- the case with a number as its value
abbrev pub with_number : ℤ → Case → Case
with_number value case = case_with_claims case 0 [] (constant_of value ∷ [])

-- a step at each case, one step after another
unfoldable pub cases_by : List CaseStep → List Case → List Case
cases_by steps cases = flat_map (λ step. flat_map (cases_of_step step) cases) steps

-- what is lost where steps are made at each case, one step after another
unfoldable pub losses_by_steps : List CaseStep → List Case → List Loss
losses_by_steps steps cases = flat_map (λ step. flat_map (losses_at step) cases) steps
