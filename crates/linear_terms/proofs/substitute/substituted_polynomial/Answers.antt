use Rattle.std.proofs.Common.{◌≡◌, ap, sym, ◌∙◌, subst, arith}
use Rattle.std.proofs.lemmas.Result.{err_from_is_err_and}
use Rattle.items.specs.Gives.{Gives}
use Rattle.linear_terms.specs.TermError.{cause}
use Rattle.linear_terms.specs.Polynomial.{Polynomial}
use Rattle.linear_terms.specs.Replacement.{put_in}
use Rattle.linear_terms.proofs.Steps.{substituted-next, substituted-last, substituted-failed}
use Rattle.linear_terms.proofs.substitute.substituted_polynomial.Goals as goal

pub loop-term-preserved : goal.loop-term-preserved
loop-term-preserved c =
    sym (substituted-next (put_in c.args.at.now c.args.aux.now) c.as_slice-term-items.result.now c.loop-term.term-index c.term-item.result c.loop-term.total c.in_ok-total.total (omega arith) c.term-item.is c.in_ok-total.ensures)
    ∙ c.loop-term.invariant

pub returns-in_err-total : goal.returns-in_err-total
returns-in_err-total c =
    let p = err_from_is_err_and c.from_residual.result c.from_residual.ensures.1 in
    rw (p.1, p.2)
    (substituted-failed (put_in c.args.at.now c.args.aux.now) c.args.a.now c.as_slice-term-items.result.now c.loop-term.term-index c.term-item.result c.loop-term.total (cause c.in_err-total.field-0.0)
    (omega arith) c.term-item.is c.loop-term.invariant c.in_err-total.ensures)

pub returns : goal.returns
returns c =
    let rest : c.a.inside.rest ≡ c.args.a.now.rest = ap (λ (p : Polynomial). p.rest) c.a.view_is in
    subst (λ stated. Gives cause (λ (p : Polynomial). p) c.with_constant.result stated)
    (sym (substituted-last (put_in c.args.at.now c.args.aux.now) c.args.a.now c.a.inside.rest c.as_slice-term-items.result.now c.loop-term.term-index c.loop-term.total (omega arith) c.loop-term.invariant rest))
    c.with_constant.ensures
