-- Expressions of a text as plain data, by whose cases the grammar and elaboration are defined. The
-- cases are those of `Expr`, and a list of expressions is a `SourceExprs`.
use Rattle.std.specs.Prelude.{ℕ, ℤ, List, [], ◌∷◌}
use Rattle.syntax_tree.specs.declared.op.Op.{Op}
use Rattle.syntax_tree.specs.declared.op.Sign.{Sign}
use Rattle.syntax_tree.specs.declared.expr.Expr.{Expr, fold-Expr}
use Rattle.syntax_tree.specs.declared.expr.Expr.TheOpen.{Expr-F}

mutual
  -- an expression of a text, each part with the place of its first token, a byte offset
  pub data SourceExpr : Type 0 where
    Lit : (at : ℕ) (value : ℤ) → SourceExpr
    Var : (at : ℕ) (name : List ℕ) → SourceExpr
    Call : (at : ℕ) (name : List ℕ) (args : SourceExprs) → SourceExpr
    Unary : (at : ℕ) (sign : Sign) (inner : SourceExpr) → SourceExpr
    Binary : (at : ℕ) (op : Op) (left right : SourceExpr) → SourceExpr

  -- a list of expressions, in the order of the text
  pub data SourceExprs : Type 0 where
    End : SourceExprs
    Then : (expr : SourceExpr) (rest : SourceExprs) → SourceExprs

-- the `SourceExprs` of these expressions, in their order
abbrev pub exprs_from : List SourceExpr → SourceExprs
exprs_from [] = End
exprs_from (expr ∷ rest) = Then expr (exprs_from rest)

-- the plain form of an expression whose operands and arguments are in plain form already
abbrev pub source_expr_layer : Expr-F SourceExpr → SourceExpr
source_expr_layer (Expr-F.Lit at value) = Lit at value
source_expr_layer (Expr-F.Var at name) = Var at name
source_expr_layer (Expr-F.Call at name args) = Call at name (exprs_from args)
source_expr_layer (Expr-F.Unary at sign inner) = Unary at sign inner
source_expr_layer (Expr-F.Binary at op left right) = Binary at op left right

-- the plain form of an expression
abbrev pub source_expr_of : Expr → SourceExpr
source_expr_of = fold-Expr SourceExpr source_expr_layer

-- the plain form of a list of expressions
abbrev pub source_exprs_of : List Expr → SourceExprs
source_exprs_of [] = End
source_exprs_of (expr ∷ rest) = Then (source_expr_of expr) (source_exprs_of rest)
