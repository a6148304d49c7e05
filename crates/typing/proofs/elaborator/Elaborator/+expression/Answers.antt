use Rattle.std.proofs.Common.{◌≡◌, List, ◌++◌, refl, subst, sym, ◌∙◌, append_assoc}
use Rattle.std.proofs.lemmas.Result.{IfOk-weaker}
use Rattle.syntax_tree.specs.declared.expr.Expr.{Expr}
use Rattle.syntax_tree.specs.SourceExpr.{source_exprs_of}
use Rattle.syntax_tree.proofs.SourceExprs.{source_expr_of-Binary, source_expr_of-Call}
use Rattle.typing.specs.CallFaults.{all_expression_faults}
use Rattle.typing.specs.Calls.{all_calls_in}
use Rattle.typing.specs.Env.{with_columns_taken}
use Rattle.typing.specs.Faults.{least_of}
use Rattle.typing.specs.Terms.{all_temporaries, terms_in}
use Rattle.typing.proofs.Steps.{count_of-length, least_of-append, next_left, none_left, with_columns_taken-taken, with_columns_taken-zero}
use Rattle.typing.proofs.elaborator.Elaborator.+expression.Goals as goal

pub expressions-loop-arg-preserved : goal.expressions-loop-arg-preserved
expressions-loop-arg-preserved t c =
    let left = next_left c.args.args.now c.loop-arg.arg-index c.arg-item.result c.arg-item.is c.loop-arg-test.true in
    record {
      terms = rw (c.in_ok-push.ensures.ok, c.in_ok-term.ensures.term, c.in_ok-term.ensures.env, append_assoc)
          (subst (λ (es : List Expr). c.loop-arg.terms ++ terms_in c.loop-arg.self.env (source_exprs_of es) ≡ terms_in c.args.self.now.env (source_exprs_of c.args.args.now)) left c.loop-arg.invariant.terms);
      calls = rw (c.in_ok-term.ensures.calls, c.in_ok-term.ensures.env, append_assoc)
          (subst (λ (es : List Expr). c.loop-arg.out ++ all_calls_in c.loop-arg.self.env (source_exprs_of es) ≡ c.args.out.now ++ all_calls_in c.args.self.now.env (source_exprs_of c.args.args.now)) left c.loop-arg.invariant.calls);
      env = rw (c.in_ok-term.ensures.env, with_columns_taken-taken)
          (subst (λ (es : List Expr). with_columns_taken (all_temporaries (source_exprs_of es)) c.loop-arg.self.env ≡ with_columns_taken (all_temporaries (source_exprs_of c.args.args.now)) c.args.self.now.env) left c.loop-arg.invariant.env);
      least = rw (c.in_ok-term.ensures.least, c.in_ok-term.ensures.env, ← least_of-append)
          (subst (λ (es : List Expr). least_of c.loop-arg.self.least (all_expression_faults c.loop-arg.self.env c.args.right (source_exprs_of es)) ≡ least_of c.args.self.now.least (all_expression_faults c.args.self.now.env c.args.right (source_exprs_of c.args.args.now))) left c.loop-arg.invariant.least);
    }

pub expressions-returns-clause-env : goal.expressions-returns-clause-env
expressions-returns-clause-env t c =
    let none = none_left c.args.args.now c.loop-arg.arg-index c.loop-arg-test.false in
    sym (with_columns_taken-zero _) ∙ subst (λ (es : List Expr). with_columns_taken (all_temporaries (source_exprs_of es)) c.loop-arg.self.env ≡ with_columns_taken (all_temporaries (source_exprs_of c.args.args.now)) c.args.self.now.env) none c.loop-arg.invariant.env

pub expression-returns-in_ok-rest-in-Binary-clause-least : goal.expression-returns-in_ok-rest-in-Binary-clause-least
expression-returns-in_ok-rest-in-Binary-clause-least t c =
    IfOk-weaker c.binary.result _ _ (λ _ _. simp (c.in_ok-rest-in-Binary.ensures.least, c.in_ok-left-in-Binary.ensures.least, c.in_ok-left-in-Binary.ensures.env, c.is_right.ensures, c.deref-in-Binary.ensures, c.deref-in-Binary-2.ensures, c.in-Binary.is, source_expr_of-Binary, least_of-append) refl) c.binary.ensures

pub expression-returns-in_ok-col-in-Call-clause-least : goal.expression-returns-in_ok-col-in-Call-clause-least
expression-returns-in_ok-col-in-Call-clause-least t c =
    simp (c.in_ok-col-in-Call.ensures.least, c.in_ok-terms-in-Call.ensures.least, c.in_ok-terms-in-Call.ensures.env, c.value_callee-callee.ensures.least, c.value_callee-callee.ensures.env, c.len.ensures, c.as_slice.ensures, c.in-Call.is, source_expr_of-Call, count_of-length, least_of-append) refl
