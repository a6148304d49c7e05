-- An expression of the core program as plain data, by whose cases its meaning is defined. The cases
-- are those of `Core`; `term_of` leaves out how the parts are kept in memory, and nothing else.
use Rattle.std.specs.Prelude.{ℕ, ℤ}
use Rattle.syntax_tree.specs.declared.op.Op.{Op}
use Rattle.syntax_tree.specs.declared.op.Sign.{Sign}
use Rattle.syntax_tree.specs.declared.core_expr.Core.{Core, fold-Core}
use Rattle.syntax_tree.specs.declared.core_expr.Core.TheOpen.{Core-F}

-- an expression of the core program: a number, a column by its place (from 0), or an operator at
-- its operands
pub data Term : Type 0 where
  Lit : (value : ℤ) → Term
  Col : (col : ℕ) → Term
  Unary : (sign : Sign) (inner : Term) → Term
  Binary : (op : Op) (left right : Term) → Term

-- the plain form of an expression whose operands are in plain form already
abbrev pub term_layer : Core-F Term → Term
term_layer (Core-F.Lit value) = Lit value
term_layer (Core-F.Col col) = Col col
term_layer (Core-F.Unary sign inner) = Unary sign inner
term_layer (Core-F.Binary op left right) = Binary op left right

-- the plain form of an expression
abbrev pub term_of : Core → Term
term_of = fold-Core Term term_layer
