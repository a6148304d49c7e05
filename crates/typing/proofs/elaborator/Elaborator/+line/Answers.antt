use Rattle.std.proofs.Common.{◌≡◌, List, ◌++◌, arith, subst, append_assoc, refl}
use Rattle.std.proofs.lemmas.Result.{on_ok_weaker}
use Rattle.syntax_tree.specs.declared.line.Line.{Line}
use Rattle.syntax_tree.specs.SourceLine.{source_lines_of}
use Rattle.typing.specs.Faults.{least_of}
use Rattle.typing.specs.LineFaults.{all_faults_in}
use Rattle.typing.specs.Lines.{after_all, all_statements_of}
use Rattle.typing.proofs.Sizes.{item_size}
use Rattle.typing.proofs.Steps.{least_of-append, next_left}
use Rattle.typing.proofs.elaborator.Elaborator.+line.Goals as goal

pub lines-loop-line-preserved : goal.lines-loop-line-preserved
lines-loop-line-preserved t c =
    let left = next_left c.args.lines.now c.loop-line.line-index c.line-item.result c.line-item.is c.loop-line-test.true in
    record {
      statements = rw (c.in_ok-line.ensures.statements, c.in_ok-line.ensures.env, append_assoc)
          (subst (λ (ls : List Line). c.loop-line.out ++ all_statements_of c.loop-line.self.env (source_lines_of ls) ≡ c.args.out.now ++ all_statements_of c.args.self.now.env (source_lines_of c.args.lines.now)) left c.loop-line.invariant.statements);
      env = rw c.in_ok-line.ensures.env
          (subst (λ (ls : List Line). after_all c.loop-line.self.env (source_lines_of ls) ≡ after_all c.args.self.now.env (source_lines_of c.args.lines.now)) left c.loop-line.invariant.env);
      least = rw (c.in_ok-line.ensures.least, c.in_ok-line.ensures.env, ← least_of-append)
          (subst (λ (ls : List Line). least_of c.loop-line.self.least (all_faults_in c.loop-line.self.env (source_lines_of ls)) ≡ least_of c.args.self.now.least (all_faults_in c.args.self.now.env (source_lines_of c.args.lines.now))) left c.loop-line.invariant.least);
    }

pub lines-line-requires : goal.lines-line-requires
lines-line-requires t c =
    let less = item_size c.args.lines.now c.loop-line.line-index c.line-item.result c.line-item.is c.loop-line-test.true in
    omega (arith, c.decreases)

pub branch-returns : goal.branch-returns
branch-returns t c = record {
  statements = simp (c.in_ok-push.ensures.ok, c.in_ok-no.ensures.statements, c.in_ok-yes.ensures.statements, c.in_ok-yes.ensures.env, c.in_ok-cond.ensures.calls, c.in_ok-cond.ensures.term, c.in_ok-cond.ensures.env, append_assoc) refl;
  env = simp (c.in_ok-no.ensures.env, c.in_ok-yes.ensures.env, c.in_ok-cond.ensures.env) refl;
  least = simp (c.in_ok-no.ensures.least, c.in_ok-yes.ensures.least, c.in_ok-yes.ensures.env, c.in_ok-cond.ensures.least, c.in_ok-cond.ensures.env, least_of-append) refl;
}

pub while_loop-returns-clause-statements : goal.while_loop-returns-clause-statements
while_loop-returns-clause-statements t c =
    simp (c.loop_statement.ensures, c.in_ok-body.ensures.statements, c.in_ok-step.ensures.statements, c.in_ok-step.ensures.env, c.in_ok-pre.ensures.calls, c.in_ok-pre.ensures.term, c.in_ok-pre.ensures.env, c.in_ok-begin_loop.ensures.statements, c.in_ok-begin_loop.ensures.env, append_assoc) at c.end_loop.ensures.statements

pub while_loop-returns-clause-env : goal.while_loop-returns-clause-env
while_loop-returns-clause-env t c =
    on_ok_weaker c.end_loop.result (λ _. simp (c.end_loop.ensures.env, c.in_ok-body.ensures.env, c.in_ok-step.ensures.env, c.in_ok-pre.ensures.env, c.in_ok-begin_loop.ensures.env) refl) c.end_loop.ensures.statements

pub while_loop-returns-clause-least : goal.while_loop-returns-clause-least
while_loop-returns-clause-least t c =
    on_ok_weaker c.end_loop.result (λ _. simp (c.end_loop.ensures.least, c.in_ok-body.ensures.least, c.in_ok-step.ensures.least, c.in_ok-step.ensures.env, c.in_ok-pre.ensures.least, c.in_ok-pre.ensures.env, c.in_ok-begin_loop.ensures.least, c.in_ok-begin_loop.ensures.env, least_of-append) refl) c.end_loop.ensures.statements

pub do_loop-returns-clause-statements : goal.do_loop-returns-clause-statements
do_loop-returns-clause-statements t c =
    simp (c.loop_statement.ensures, c.in_ok-step.ensures.statements, c.in_ok-pre.ensures.calls, c.in_ok-pre.ensures.term, c.in_ok-pre.ensures.env, c.in_ok-body.ensures.statements, c.in_ok-body.ensures.env, c.in_ok-begin_loop.ensures.statements, c.in_ok-begin_loop.ensures.env, append_assoc) at c.end_loop.ensures.statements

pub do_loop-returns-clause-env : goal.do_loop-returns-clause-env
do_loop-returns-clause-env t c =
    on_ok_weaker c.end_loop.result (λ _. simp (c.end_loop.ensures.env, c.in_ok-step.ensures.env, c.in_ok-pre.ensures.env, c.in_ok-body.ensures.env, c.in_ok-begin_loop.ensures.env) refl) c.end_loop.ensures.statements

pub do_loop-returns-clause-least : goal.do_loop-returns-clause-least
do_loop-returns-clause-least t c =
    on_ok_weaker c.end_loop.result (λ _. simp (c.end_loop.ensures.least, c.in_ok-step.ensures.least, c.in_ok-pre.ensures.least, c.in_ok-pre.ensures.env, c.in_ok-body.ensures.least, c.in_ok-body.ensures.env, c.in_ok-begin_loop.ensures.least, c.in_ok-begin_loop.ensures.env, least_of-append) refl) c.end_loop.ensures.statements
