use Rattle.std.proofs.Common.{◌≡◌, List, [], ◌∷◌, ap, map, refl, sym, ◌∙◌, subst, arith}
use Rattle.std.proofs.lemmas.Result.{err_from_is_err_and}
use Rattle.std.proofs.lemmas.List.{length-map, map_push}
use Rattle.items.specs.Gives.{FailsBy}
use Rattle.syntax_tree.specs.declared.expr.Expr.{Expr}
use Rattle.syntax_tree.specs.SourceExpr.{Then, exprs_from, source_expr_of, source_exprs_of}
use Rattle.syntax_tree.proofs.SourceExprs.{source_expr_of-Binary, source_expr_of-Call, source_expr_of-Unary}
use Rattle.c_parser.specs.Descent.{expression_below, operand, rest_of, exact_error}
use Rattle.c_parser.proofs.Equations.{operand-none, operand-some, refused-exact}
use Rattle.c_parser.proofs.Loops.{links-done, links-fails, links-more, arguments-done, arguments-fail, arguments-more}
use Rattle.c_parser.proofs.expression.+expression.Goals as goal

pub operand-returns-in-empty-clause-exact : goal.operand-returns-in-empty-clause-exact
operand-returns-in-empty-clause-exact t c = operand-none _ c.args.rest.tokens.now _ c.in-empty.len_below

pub operand-returns-in-len1-up-clause-exact : goal.operand-returns-in-len1-up-clause-exact
operand-returns-in-len1-up-clause-exact t c =
    rw (operand-some c.args.levels c.args.rest.tokens.now c.args.rest.operators c.token-item.result c.in-len1-up.len_at_least c.token-item.is, ← c.refusal_of.ensures)
    (c.token_operand.ensures.exact (rw c.refusal_of.ensures (refused-exact _)))

pub expression_below-returns-in_err-next-clause-exact : goal.expression_below-returns-in_err-next-clause-exact
expression_below-returns-in_err-next-clause-exact t c =
    let p = err_from_is_err_and c.from_residual-in_err-next.result c.from_residual-in_err-next.ensures.1 in
    rw (p.1, p.2) (subst (FailsBy (exact_error c.in_err-next.field-0.0)) c.links.invariant.stated
    (links-fails _ _ _ (source_expr_of c.links.left, rest_of c.links.after.tokens.now c.links.after.operators) _ c.in-Some.op (sym c.op_at.ensures ∙ c.in-Some.is) c.in_err-next.ensures.exact))

pub expression_below-links-preserved : goal.expression_below-links-preserved
expression_below-links-preserved t c = record {
  rank = c.links.invariant.rank;
  stated =
      sym (links-more _ _ _ (source_expr_of c.links.left, rest_of c.links.after.tokens.now c.links.after.operators) c.in-Some.op _ (sym c.op_at.ensures ∙ c.in-Some.is) c.in_ok-next.ensures.exact
      (simp length-map (omega (arith, c.in_ok-next.ensures.shorter))))
      ∙ c.links.invariant.stated;
  shorter = omega (arith, c.in_ok-next.ensures.shorter);
}

pub expression_below-returns-clause-exact : goal.expression_below-returns-clause-exact
expression_below-returns-clause-exact t c = sym c.links.invariant.stated ∙ links-done _ _ _ _ (sym c.op_at.ensures ∙ c.in_default.is)

pub arguments-returns-in_err-arg-clause-exact : goal.arguments-returns-in_err-arg-clause-exact
arguments-returns-in_err-arg-clause-exact t c =
    let p = err_from_is_err_and c.from_residual-in_err-arg.result c.from_residual-in_err-arg.ensures.1 in
    rw (p.1, p.2) (subst (FailsBy (exact_error c.in_err-arg.field-0.0)) c.more.invariant.stated
    (arguments-fail (expression_below (operand c.args.level) 6) (map source_expr_of c.more.args, rest_of c.more.after.tokens.now c.more.after.operators) _
    (sym c.begins_with-in-more.ensures.exact ∙ c.more-test.true) (rw (← c.tail.ensures.exact) c.in_err-arg.ensures.exact)))

pub arguments-more-preserved : goal.arguments-more-preserved
arguments-more-preserved t c = record {
  stated =
      rw (c.in_ok-push-2.ensures.ok, map_push)
      (sym (arguments-more (expression_below (operand c.args.level) 6) (map source_expr_of c.more.args, rest_of c.more.after.tokens.now c.more.after.operators) _
      (sym c.begins_with-in-more.ensures.exact ∙ c.more-test.true) (rw (← c.tail.ensures.exact) c.in_ok-arg.ensures.exact)
      (simp length-map (omega (arith, c.in_ok-arg.ensures.shorter, c.tail.ensures.within))))
      ∙ c.more.invariant.stated);
  shorter = omega (arith, c.in_ok-arg.ensures.shorter, c.tail.ensures.within);
}

pub arguments-returns-clause-exact : goal.arguments-returns-clause-exact
arguments-returns-clause-exact t c =
    sym c.more.invariant.stated
    ∙ arguments-done (expression_below (operand c.args.level) 6) (map source_expr_of c.more.args, rest_of c.more.after.tokens.now c.more.after.operators) (sym c.begins_with-in-more.ensures.exact ∙ c.more-test.false)

exprs_from-map : (exprs : List Expr) → exprs_from (map source_expr_of exprs) ≡ source_exprs_of exprs
exprs_from-map [] = refl
exprs_from-map (e ∷ rest) = ap (Then (source_expr_of e)) (exprs_from-map rest)

pub call-returns-clause-exact : goal.call-returns-clause-exact
call-returns-clause-exact t c =
    simp (sym c.place_at.ensures, c.in_ok-level.ensures.exact, c.in_ok-inside.ensures.exact, c.in_ok-args.ensures.exact, c.in_ok-after.ensures.exact, c.in_ok-name_copy.ensures.copy, source_expr_of-Call, exprs_from-map) refl

pub bracketed_expression-returns-clause-exact : goal.bracketed_expression-returns-clause-exact
bracketed_expression-returns-clause-exact t c =
    simp (c.in_ok-level.ensures.exact, c.in_ok-inner.ensures.exact, c.in_ok-after.ensures.exact, c.with_place.ensures) refl

pub signed_operand-returns-clause-exact : goal.signed_operand-returns-clause-exact
signed_operand-returns-clause-exact t c =
    simp (c.in_ok-level.ensures.exact, c.in_ok-inner.ensures.exact, source_expr_of-Unary) (simp c.in_ok-new.ensures.ok refl)

pub link-returns-clause-exact : goal.link-returns-clause-exact
link-returns-clause-exact t c =
    simp (c.in_ok-behind.ensures.exact, c.in_ok-right.ensures.exact, source_expr_of-Binary) (simp (c.in_ok-left.ensures.ok, c.in_ok-right-2.ensures.ok) refl)
