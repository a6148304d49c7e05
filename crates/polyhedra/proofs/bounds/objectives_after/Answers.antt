use Rattle.std.proofs.Common.{List, length, sym, subst}
use Rattle.std.proofs.lemmas.Result.{err_from_is_err_and}
use Rattle.linear_terms.specs.declared.row.Case.{Case}
use Rattle.linear_terms.specs.Polynomial.{Polynomial}
use Rattle.linear_terms.specs.TermError.{cause}
use Rattle.polyhedra.specs.Bounds.{IsCovered, put_in_for}
use Rattle.polyhedra.specs.Kept.{objectives_of}
use Rattle.polyhedra.proofs.Objectives.{objectives_of-next, objectives_of-fails}
use Rattle.polyhedra.proofs.bounds.objectives_after.Goals as goal

pub put_in_for-requires : goal.put_in_for-requires
put_in_for-requires c =
    subst (λ (posts : List Polynomial). IsCovered (length posts) c.args.d.now) (sym c.as_slice.ensures)
    (subst (λ (case : Case). IsCovered (length case.post) c.args.d.now) (sym c.case-item.is) (c.requires c.loop-case.case-index c.case-item.result c.loop-case-test.true))

pub returns-in_err-put_in_for : goal.returns-in_err-put_in_for
returns-in_err-put_in_for c =
    let p = err_from_is_err_and c.from_residual.result c.from_residual.ensures.1 in
    rw (p.1, p.2)
    (objectives_of-fails (λ case. put_in_for case.post c.args.d.now) c.args.cases.now c.loop-case.case-index c.case-item.result c.loop-case.objectives (objectives_of (λ case. put_in_for case.post c.args.d.now) c.args.cases.now)
    c.loop-case-test.true c.case-item.is c.loop-case.invariant (cause c.in_err-put_in_for.field-0.0) (rw c.as_slice.ensures at c.in_err-put_in_for.ensures))

pub loop-case-preserved : goal.loop-case-preserved
loop-case-preserved c =
    let next = objectives_of-next (λ case. put_in_for case.post c.args.d.now) c.args.cases.now c.loop-case.case-index c.case-item.result c.loop-case.objectives (objectives_of (λ case. put_in_for case.post c.args.d.now) c.args.cases.now)
    c.loop-case-test.true c.case-item.is c.loop-case.invariant c.in_ok-put_in_for.field-0 (rw c.as_slice.ensures at c.in_ok-put_in_for.ensures) in
    rw c.in_ok-push.ensures.ok next
