-- The cases of an expression, by its shape: those of its value, of its truth and of its falsity. Of
-- two operands the cases of the left one are outermost.
use Rattle.std.specs.Prelude.{ℤ, pos, List, [], ◌∷◌, ◌++◌, map}
use Rattle.linear_terms.specs.declared.col.Col.TheVariants.{At}
use Rattle.linear_terms.specs.Polynomial.{Polynomial, column_of, constant_of}
use Rattle.syntax_tree.specs.declared.op.Op.{Op}
use Rattle.syntax_tree.specs.declared.op.Op.TheVariants.{Add, Sub, Mul, Div, Rem, Lt, Le, Gt, Ge, Eq, Ne, And, Or}
use Rattle.syntax_tree.specs.declared.op.Sign.{Sign}
use Rattle.syntax_tree.specs.declared.op.Sign.TheVariants.{Plus, Minus, Not}
use Rattle.syntax_tree.specs.Term.{Term, Lit, Col, Unary, Binary}
use Rattle.leaf_cases.specs.declared.division.DivisionPart.TheVariants.{Quotient, Remainder}
use Rattle.leaf_cases.specs.declared.expression.Sought.{Sought}
use Rattle.leaf_cases.specs.declared.expression.Sought.TheVariants as sought
use Rattle.leaf_cases.specs.declared.step.Arithmetic.TheVariants.{Negate, Sum, Difference, Product}
use Rattle.leaf_cases.specs.declared.step.TestRelation.TheVariants.{Less, LessOrEqual, Greater, GreaterOrEqual, Same, Negative, Positive, Zero}
use Rattle.leaf_cases.specs.declared.step.CaseStep.{CaseStep}
use Rattle.leaf_cases.specs.declared.step.CaseStep.TheVariants.{Value, Divide, Test}
use Rattle.leaf_cases.specs.Listed.{Listed, together, either}
use Rattle.leaf_cases.specs.Steps.{cases_by, losses_by_steps, with_number}

-- the cases of an expression: those of its value, of its truth and of its falsity
pub record Lists : Type 0 where
  pub value : Listed
  pub truth : Listed
  pub falsity : Listed

-- the steps at each case of a list
abbrev pub by : List CaseStep → Listed → Listed
by steps list = record {
  cases = cases_by steps list.cases;
  lost = list.lost ++ losses_by_steps steps list.cases;
}

-- one case without rows
abbrev pub one_case : Polynomial → Listed
one_case p = record { cases = record { aux = 0; rows = []; post = p ∷ [] } ∷ []; lost = [] }

-- each case with a number as its value
abbrev pub number_cases : ℤ → Listed → Listed
number_cases value list = record { cases = map (with_number value) list.cases; lost = list.lost }

-- a number is true below 0 and above 0, and false at 0
abbrev pub of_number : Listed → Lists
of_number value =
    record {
      value = value;
      truth = by (Test Negative ∷ Test Positive ∷ []) value;
      falsity = by (Test Zero ∷ []) value;
    }

-- a test is 1 where it is true and 0 where it is false
abbrev pub of_test : Listed → Listed → Lists
of_test truth falsity =
    record {
      value = either (number_cases (pos 1) truth) (number_cases (pos 0) falsity);
      truth = truth;
      falsity = falsity;
    }

-- the cases of an expression with a sign before it, by those of its operand
abbrev pub sign_lists : Sign → Lists → Lists
sign_lists Plus inner = of_number inner.value
sign_lists Minus inner = of_number (by (Value Negate ∷ []) inner.value)
sign_lists Not inner = of_test inner.falsity inner.truth

-- by a step at each pair of values
abbrev pub calculation_lists : CaseStep → Lists → Lists → Lists
calculation_lists step left right = of_number (by (step ∷ []) (together left.value right.value))

-- what a comparison says of its operands: one of these
abbrev pub tests_of : Op → List CaseStep
tests_of Lt = Test Less ∷ []
tests_of Le = Test LessOrEqual ∷ []
tests_of Gt = Test Greater ∷ []
tests_of Ge = Test GreaterOrEqual ∷ []
tests_of Eq = Test Same ∷ []
tests_of Ne = Test Less ∷ Test Greater ∷ []
tests_of _ = []

-- what holds where a comparison does not
abbrev pub opposite : Op → Op
opposite Lt = Ge
opposite Le = Gt
opposite Gt = Le
opposite Ge = Lt
opposite Eq = Ne
opposite Ne = Eq
opposite op = op

-- the cases in which a comparison is true, by those of its operands
abbrev pub comparison_list : Op → Lists → Lists → Listed
comparison_list op left right = by (tests_of op) (together left.value right.value)

-- the cases of a comparison, which is false where its opposite is true
abbrev pub comparison : Op → Lists → Lists → Lists
comparison op left right = of_test (comparison_list op left right) (comparison_list (opposite op) left right)

-- Where the left operand of `&&` is false, or that of `||` true, the right one has no part (C11
-- 6.5.13, 6.5.14).
abbrev pub operator_lists : Op → Lists → Lists → Lists
operator_lists Add left right = calculation_lists (Value Sum) left right
operator_lists Sub left right = calculation_lists (Value Difference) left right
operator_lists Mul left right = calculation_lists (Value Product) left right
operator_lists Div left right = calculation_lists (Divide Quotient) left right
operator_lists Rem left right = calculation_lists (Divide Remainder) left right
operator_lists And left right =
    of_test (together left.truth right.truth)
    (either left.falsity (together left.truth right.falsity))
operator_lists Or left right =
    of_test (either left.truth (together left.falsity right.truth))
    (together left.falsity right.falsity)
operator_lists Lt left right = comparison Lt left right
operator_lists Le left right = comparison Le left right
operator_lists Gt left right = comparison Gt left right
operator_lists Ge left right = comparison Ge left right
operator_lists Eq left right = comparison Eq left right
operator_lists Ne left right = comparison Ne left right

-- the cases of an expression, over the columns of a state
unfoldable pub lists_of : Term → Lists
lists_of (Lit value) = of_number (one_case (constant_of value))
lists_of (Col col) = of_number (one_case (column_of (At col)))
lists_of (Unary sign inner) = sign_lists sign (lists_of inner)
lists_of (Binary op left right) = operator_lists op (lists_of left) (lists_of right)

-- the list that is sought
abbrev pub sought_in : Sought → Lists → Listed
sought_in sought.Value lists = lists.value
sought_in sought.Truth lists = lists.truth
sought_in sought.Falsity lists = lists.falsity
