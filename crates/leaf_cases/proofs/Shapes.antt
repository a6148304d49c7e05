-- The lists of an expression, shape by shape.
use Rattle.std.proofs.Common.{◌≡◌, ℕ, ℤ, refl}
use Rattle.linear_terms.specs.declared.col.Col.TheVariants.{At}
use Rattle.linear_terms.specs.Polynomial.{column_of, constant_of}
use Rattle.syntax_tree.specs.declared.op.Op.{Op}
use Rattle.syntax_tree.specs.declared.op.Sign.{Sign}
use Rattle.syntax_tree.specs.Term.{Term, Lit, Col, Unary, Binary}
use Rattle.leaf_cases.specs.Expression.{one_case, of_number, sign_lists, operator_lists, lists_of}

pub lists_of-Lit : (value : ℤ) → lists_of (Lit value) ≡ of_number (one_case (constant_of value))
unfolding lists_of
lists_of-Lit value = refl

pub lists_of-Col : (col : ℕ) → lists_of (Col col) ≡ of_number (one_case (column_of (At col)))
unfolding lists_of
lists_of-Col col = refl

pub lists_of-Unary : (sign : Sign) (inner : Term) → lists_of (Unary sign inner) ≡ sign_lists sign (lists_of inner)
unfolding lists_of
lists_of-Unary sign inner = refl

pub lists_of-Binary : (op : Op) (left right : Term) → lists_of (Binary op left right) ≡ operator_lists op (lists_of left) (lists_of right)
unfolding lists_of
lists_of-Binary op left right = refl

pub ruleset shapes = (lists_of-Lit, lists_of-Col, lists_of-Unary, lists_of-Binary)
