use Rattle.std.proofs.Common.{◌≡◌, [], ap, subst, sym, ◌∙◌, arith}
use Rattle.std.proofs.lemmas.Result.{err_from_is_err_and, on_ok_weaker, IfErr-weaker}
use Rattle.items.specs.Gives.{FailsBy}
use Rattle.linear_terms.specs.TermError.{cause}
use Rattle.linear_terms.specs.Polynomial.{Polynomial}
use Rattle.linear_terms.specs.Operations.{put_part, sum_of_polys}
use Rattle.linear_terms.proofs.Steps.{total-next, total-failed, total-last}
use Rattle.linear_terms.proofs.total.Total.add.Goals as goal

pub loop-term-preserved : goal.loop-term-preserved
loop-term-preserved c =
    let next = total-next c.as_slice-term-items.result.now c.loop-term.term-index c.term-item.result c.loop-term.self c.put.new.self (omega arith) c.term-item.is c.in_ok-put.ensures.ok in
    record { same = sym next.0 ∙ c.loop-term.invariant.same; constant = next.1 ∙ c.loop-term.invariant.constant }

pub returns-in_err-put-clause-err : goal.returns-in_err-put-clause-err
returns-in_err-put-clause-err c =
    let p = err_from_is_err_and c.from_residual.result c.from_residual.ensures.1 in
    rw (p.1, p.2)
    (total-failed c.args.self.now c.loop-term.self c.args.poly.now c.as_slice-term-items.result.now c.loop-term.term-index c.term-item.result (cause c.in_err-put.field-0.0)
    (omega arith) c.term-item.is c.loop-term.invariant.same c.in_err-put.ensures.err)

pub returns-clause-ok : goal.returns-clause-ok
returns-clause-ok c =
    let rest : c.poly.inside.rest ≡ c.args.poly.now.rest = ap (λ (p : Polynomial). p.rest) c.poly.view_is in
    let last = total-last c.args.self.now c.loop-term.self c.args.poly.now c.as_slice-term-items.result.now c.loop-term.term-index c.poly.inside.rest (omega arith) c.loop-term.invariant.same c.loop-term.invariant.constant rest in
    on_ok_weaker c.add_constant.result (λ made. last ∙ made) c.add_constant.ensures.ok

pub returns-clause-err : goal.returns-clause-err
returns-clause-err c =
    let rest : c.poly.inside.rest ≡ c.args.poly.now.rest = ap (λ (p : Polynomial). p.rest) c.poly.view_is in
    let last = total-last c.args.self.now c.loop-term.self c.args.poly.now c.as_slice-term-items.result.now c.loop-term.term-index c.poly.inside.rest (omega arith) c.loop-term.invariant.same c.loop-term.invariant.constant rest in
    IfErr-weaker c.add_constant.result (λ e. FailsBy (cause e) (put_part [] c.poly.inside.rest c.loop-term.self)) (λ e. FailsBy (cause e) (sum_of_polys c.args.self.now c.args.poly.now))
    (λ e fails. subst (λ r. FailsBy (cause e) r) (sym last) fails) c.add_constant.ensures.err
