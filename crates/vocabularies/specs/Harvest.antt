-- The linear terms that a procedure compares. They are directions in which bounds of its states are
-- asked for, since what a text compares is what it relies on.
use Rattle.std.specs.Prelude.{ℕ, pos, List, [], ◌∷◌, ◌++◌, length, take, Bool, true, false, ◌&&◌, ◌==◌, Option, None, Some, Result, Ok, Err, option_to_list, if◌then◌else◌}
use Rattle.std.specs.List.{list_all}
use Rattle.items.specs.Gives.{◌>>=◌}
use Rattle.linear_terms.specs.declared.col.Col.TheVariants.{At}
use Rattle.linear_terms.specs.declared.error.TermError.{TermError}
use Rattle.linear_terms.specs.declared.row.Kind.TheVariants.{Equal}
use Rattle.linear_terms.specs.declared.row.Normal.{Normal}
use Rattle.linear_terms.specs.declared.row.Normal.TheVariants.{Constant, Kept}
use Rattle.linear_terms.specs.declared.row.Row.{Row}
use Rattle.linear_terms.specs.Equality.{poly_eq}
use Rattle.linear_terms.specs.Expressions.{Made, ◌⊞◌, ◌⊟◌, ◌⊠◌, whole, column, negative_of}
use Rattle.linear_terms.specs.Polynomial.{Terms, Polynomial, without_constant}
use Rattle.linear_terms.specs.Row.{normal_form}
use Rattle.polyhedra.specs.Directions.{distinct}
use Rattle.syntax_tree.specs.declared.op.Op.{Op}
use Rattle.syntax_tree.specs.declared.op.Op.TheVariants.{Add, Sub, Mul, Div, Rem, Lt, Le, Gt, Ge, Eq, Ne, And, Or}
use Rattle.syntax_tree.specs.declared.op.Sign.{Sign}
use Rattle.syntax_tree.specs.declared.op.Sign.TheVariants.{Plus, Minus, Not}
use Rattle.syntax_tree.specs.declared.stmt.Stmt.{Stmt}
use Rattle.syntax_tree.specs.Term.{Term, Lit, Col, Unary, Binary}
use Rattle.syntax_tree.specs.Code.{Statement, Set, Any, Call, Guard, Check, If, Loop, Break, Continue, Return, Code, End, Then, code_of}

-- ---- expressions that are polynomials

-- the sign is `+` or `-`
abbrev pub keeps_polynomials : Sign → Bool
keeps_polynomials Plus = true
keeps_polynomials Minus = true
keeps_polynomials Not = false

-- a sum, a difference or a product
abbrev pub is_ring_operator : Op → Bool
is_ring_operator Add = true
is_ring_operator Sub = true
is_ring_operator Mul = true
is_ring_operator op = false

-- columns and numbers, put together by sums, differences, products and the signs `+` and `-` alone
abbrev pub is_polynomial : Term → Bool
is_polynomial (Lit value) = true
is_polynomial (Col col) = true
is_polynomial (Unary sign inner) = keeps_polynomials sign && is_polynomial inner
is_polynomial (Binary op left right) = is_ring_operator op
    && (is_polynomial left && is_polynomial right)

-- a polynomial under a sign; 0 under `!`
abbrev pub with_sign : Sign → Polynomial → Made
with_sign Plus p = Ok p
with_sign Minus p = negative_of (Ok p)
with_sign Not p = whole (pos 0)

-- the sum, the difference or the product of two polynomials; 0 for another operator
abbrev pub combination_of : Op → Polynomial → Polynomial → Made
combination_of Add p q = Ok p ⊞ Ok q
combination_of Sub p q = Ok p ⊟ Ok q
combination_of Mul p q = Ok p ⊠ Ok q
combination_of op p q = whole (pos 0)

-- the polynomial of such an expression
abbrev pub polynomial_of : Term → Made
polynomial_of (Lit value) = whole value
polynomial_of (Col col) = column (At col)
polynomial_of (Unary sign inner) = polynomial_of inner >>= with_sign sign
polynomial_of (Binary op left right) = polynomial_of left >>= λ p. polynomial_of right
    >>= combination_of op p

-- ---- the term of a comparison

-- the operator compares two numbers
abbrev pub is_comparison : Op → Bool
is_comparison Lt = true
is_comparison Le = true
is_comparison Gt = true
is_comparison Ge = true
is_comparison Eq = true
is_comparison Ne = true
is_comparison op = false

-- each is one column with its number
abbrev pub are_single : Terms → Bool
are_single ts = list_all (λ t. length t.0 == 1) ts

-- and there are some
abbrev pub is_linear : Terms → Bool
is_linear [] = false
is_linear (t ∷ ts) = are_single (t ∷ ts)

-- the row that says that a polynomial without its constant is zero
abbrev pub equation_of : Polynomial → Row
equation_of p = record { poly = without_constant p; kind = Equal }

-- the polynomial of a normal form; None where that is constant, or cannot be made
abbrev pub kept_term : Result Normal TermError → Option Polynomial
kept_term (Ok (Constant holds)) = None
kept_term (Ok (Kept row)) = Some row.poly
kept_term (Err e) = None

-- a linear polynomial without its constant, divided by the greatest common divisor of its numbers,
-- the first of them positive
abbrev pub linear_term : Made → Option Polynomial
linear_term (Ok p) = if is_linear p.terms then kept_term (normal_form (equation_of p)) else None
linear_term (Err e) = None

-- of a comparison of two polynomials, that of their difference; none where a step of it leaves 128
-- bits or passes degree 4
abbrev pub compared_term : Op → Term → Term → Option Polynomial
compared_term op left right =
    if is_comparison op && (is_polynomial left && is_polynomial right)
    then linear_term (polynomial_of left ⊟ polynomial_of right) else None

-- ---- the terms of all comparisons in order: an expression before its operands, statements as they
-- stand, a loop by its
-- preparation, condition, body and step

-- the terms of the comparisons in an expression, its own before those of its operands
abbrev pub compared_terms : Term → List Polynomial
compared_terms (Lit value) = []
compared_terms (Col col) = []
compared_terms (Unary sign inner) = compared_terms inner
compared_terms (Binary op left right) = option_to_list (compared_term op left right)
    ++ (compared_terms left ++ compared_terms right)

-- the terms of the comparisons in a list of expressions, in order
abbrev pub compared_each : List Term → List Polynomial
compared_each [] = []
compared_each (e ∷ es) = compared_terms e ++ compared_each es

abbrev mutual
  pub compared_by : Statement → List Polynomial
  compared_by (Set col value) = compared_terms value
  compared_by (Any col) = []
  compared_by (Call proc args into) = compared_each args
  compared_by (Guard cond) = compared_terms cond
  compared_by (Check number cond) = compared_terms cond
  compared_by (If cond on_true on_false) =
      compared_terms cond ++ (compared_in on_true ++ compared_in on_false)
  compared_by (Loop pre cond body step first) =
      compared_in pre ++ (compared_terms cond ++ (compared_in body ++ compared_in step))
  compared_by Break = []
  compared_by Continue = []
  compared_by Return = []

  pub compared_in : Code → List Polynomial
  compared_in End = []
  compared_in (Then statement rest) = compared_by statement ++ compared_in rest

-- how many terms are kept
abbrev pub most_terms : ℕ
most_terms = 32

-- the first 32 different terms that a body compares
unfoldable pub harvest_of : List Stmt → List Polynomial
harvest_of body = take most_terms (distinct poly_eq (compared_in (code_of body)))
