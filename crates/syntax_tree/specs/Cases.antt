-- How many cases an expression has: each stands for one way to evaluate it with no test left
-- inside.
use Rattle.std.specs.Prelude.{ℕ, ◌+◌, ◌*◌, min, List, [], ◌∷◌}
use Rattle.syntax_tree.specs.declared.cases.Cases.{Cases}
use Rattle.syntax_tree.specs.declared.op.Op.{Op}
use Rattle.syntax_tree.specs.declared.op.Op.TheVariants.{Add, Sub, Mul, Div, Rem, Lt, Le, Gt, Ge, Eq, Ne, And, Or}
use Rattle.syntax_tree.specs.declared.op.Sign.{Sign}
use Rattle.syntax_tree.specs.declared.op.Sign.TheVariants.{Not}
use Rattle.syntax_tree.specs.Term.{Term, Lit, Col, Unary, Binary}

-- a number is true below 0 and above 0, and false at 0
abbrev pub of_number : ℕ → Cases
of_number value = record { value = value; truth = 2 * value; falsity = value }

-- a test is 1 where it is true and 0 where it is false
abbrev pub of_test : ℕ → ℕ → Cases
of_test truth falsity = record { value = truth + falsity; truth = truth; falsity = falsity }

-- the cases of a sign at its operand: `!` exchanges truth and falsity, the others are numbers
abbrev pub sign_cases : Sign → Cases → Cases
sign_cases Not inner = of_test inner.falsity inner.truth
sign_cases _ inner = of_number inner.value

-- A division has four cases, by the signs of its operands. Operands differ in two ways, by the side
-- that is less.
abbrev pub operator_cases : Op → Cases → Cases → Cases
operator_cases Add left right = of_number (left.value * right.value)
operator_cases Sub left right = of_number (left.value * right.value)
operator_cases Mul left right = of_number (left.value * right.value)
operator_cases Div left right = of_number (4 * (left.value * right.value))
operator_cases Rem left right = of_number (4 * (left.value * right.value))
operator_cases Lt left right = of_test (left.value * right.value) (left.value * right.value)
operator_cases Le left right = of_test (left.value * right.value) (left.value * right.value)
operator_cases Gt left right = of_test (left.value * right.value) (left.value * right.value)
operator_cases Ge left right = of_test (left.value * right.value) (left.value * right.value)
operator_cases Eq left right = of_test (left.value * right.value) (2 * (left.value * right.value))
operator_cases Ne left right = of_test (2 * (left.value * right.value)) (left.value * right.value)
operator_cases And left right =
    of_test (left.truth * right.truth) (left.falsity + left.truth * right.falsity)
operator_cases Or left right = of_test (left.truth + left.falsity * right.truth)
    (left.falsity * right.falsity)

-- the cases of an expression's value, of its truth and of its falsity
abbrev pub cases_of : Term → Cases
cases_of (Lit value) = of_number 1
cases_of (Col col) = of_number 1
cases_of (Unary sign inner) = sign_cases sign (cases_of inner)
cases_of (Binary op left right) = operator_cases op (cases_of left) (cases_of right)

-- the cases of several values together
abbrev pub joint_cases : List Term → ℕ
joint_cases [] = 1
joint_cases (e ∷ rest) = (cases_of e).value * joint_cases rest

-- each number, or `most` where it is more
abbrev pub at_most : ℕ → Cases → Cases
at_most most c = record {
  value = min c.value most;
  truth = min c.truth most;
  falsity = min c.falsity most;
}
