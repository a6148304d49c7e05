-- The plain form of an expression of a text, case by case.
use Rattle.std.proofs.Common.{◌≡◌, ℕ, ℤ, List, [], ◌∷◌, refl, sym, ap, ◌∙◌}
use Rattle.std.specs.Prelude.{map}
use Rattle.syntax_tree.specs.declared.op.Op.{Op}
use Rattle.syntax_tree.specs.declared.op.Sign.{Sign}
use Rattle.syntax_tree.specs.declared.expr.Expr.{Expr, fold-roll-Expr}
use Rattle.syntax_tree.specs.declared.expr.Expr.TheOpen.{Expr-F}
use Rattle.syntax_tree.specs.declared.expr.Expr.TheVariants as made
use Rattle.syntax_tree.specs.SourceExpr.{SourceExpr, Lit, Var, Call, Unary, Binary, Then, exprs_from, source_expr_layer, source_expr_of, source_exprs_of}

exprs_from-map : (exprs : List Expr) → exprs_from (map source_expr_of exprs) ≡ source_exprs_of exprs
exprs_from-map [] = refl
exprs_from-map (e ∷ rest) = ap (Then (source_expr_of e)) (exprs_from-map rest)

pub source_expr_of-Lit : (at : ℕ) (value : ℤ) → source_expr_of (made.Lit at value) ≡ Lit at value
source_expr_of-Lit at value = ap source_expr_of (sym (made.rolls-Lit at value)) ∙ fold-roll-Expr SourceExpr source_expr_layer (Expr-F.Lit at value)

pub source_expr_of-Var : (at : ℕ) (name : List ℕ) → source_expr_of (made.Var at name) ≡ Var at name
source_expr_of-Var at name = ap source_expr_of (sym (made.rolls-Var at name)) ∙ fold-roll-Expr SourceExpr source_expr_layer (Expr-F.Var at name)

pub source_expr_of-Call : (at : ℕ) (name : List ℕ) (args : List Expr) → source_expr_of (made.Call at name args) ≡ Call at name (source_exprs_of args)
source_expr_of-Call at name args =
    ap source_expr_of (sym (made.rolls-Call at name args)) ∙ fold-roll-Expr SourceExpr source_expr_layer (Expr-F.Call at name args)
    ∙ ap (Call at name) (exprs_from-map args)

pub source_expr_of-Unary : (at : ℕ) (sign : Sign) (inner : Expr) → source_expr_of (made.Unary at sign inner) ≡ Unary at sign (source_expr_of inner)
source_expr_of-Unary at sign inner = ap source_expr_of (sym (made.rolls-Unary at sign inner)) ∙ fold-roll-Expr SourceExpr source_expr_layer (Expr-F.Unary at sign inner)

pub source_expr_of-Binary : (at : ℕ) (op : Op) (left right : Expr) → source_expr_of (made.Binary at op left right) ≡ Binary at op (source_expr_of left) (source_expr_of right)
source_expr_of-Binary at op left right = ap source_expr_of (sym (made.rolls-Binary at op left right)) ∙ fold-roll-Expr SourceExpr source_expr_layer (Expr-F.Binary at op left right)

pub ruleset source_exprs = (source_expr_of-Lit, source_expr_of-Var, source_expr_of-Call, source_expr_of-Unary, source_expr_of-Binary)
