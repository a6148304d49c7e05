use Rattle.std.proofs.Common.{◌≡◌, ap, sym, ◌∙◌, subst, arith}
use Rattle.std.proofs.lemmas.Result.{err_from_is_err_and}
use Rattle.items.specs.Gives.{Gives}
use Rattle.linear_terms.specs.TermError.{cause}
use Rattle.linear_terms.specs.Polynomial.{Polynomial}
use Rattle.linear_terms.specs.Auxiliaries.{put_for}
use Rattle.linear_terms.proofs.Steps.{substituted-next, substituted-last, substituted-failed}
use Rattle.linear_terms.proofs.auxiliaries.substituted_polynomial.Goals as goal

pub loop-term-preserved : goal.loop-term-preserved
loop-term-preserved c =
    sym (substituted-next (put_for c.args.aux c.args.by.now) c.as_slice-term-items.result.now c.loop-term.term-index c.term-item.result c.loop-term.total c.add_replaced.new.total (omega arith) c.term-item.is c.in_ok-add_replaced.ensures.ok)
    ∙ c.loop-term.invariant

pub returns-in_err-add_replaced : goal.returns-in_err-add_replaced
returns-in_err-add_replaced c =
    let p = err_from_is_err_and c.from_residual.result c.from_residual.ensures.1 in
    rw (p.1, p.2)
    (substituted-failed (put_for c.args.aux c.args.by.now) c.args.a.now c.as_slice-term-items.result.now c.loop-term.term-index c.term-item.result c.loop-term.total (cause c.in_err-add_replaced.field-0.0)
    (omega arith) c.term-item.is c.loop-term.invariant c.in_err-add_replaced.ensures.err)

pub returns : goal.returns
returns c =
    let rest : c.a.inside.rest ≡ c.args.a.now.rest = ap (λ (p : Polynomial). p.rest) c.a.view_is in
    subst (λ stated. Gives cause (λ (p : Polynomial). p) c.with_constant.result stated)
    (sym (substituted-last (put_for c.args.aux c.args.by.now) c.args.a.now c.a.inside.rest c.as_slice-term-items.result.now c.loop-term.term-index c.loop-term.total (omega arith) c.loop-term.invariant rest))
    c.with_constant.ensures
