use Rattle.std.proofs.Common.{arith, subst, sym}
use Rattle.transition_formula.specs.Transition.{IsFitted, IsSolvable}
use Rattle.transition_formula.proofs.FittedFormulas.{fitted-solvable}
use Rattle.test_formulas.proofs.calls.show_finish.Goals as goal

pub finish-requires : goal.finish-requires
finish-requires c =
    let f = c.args.f.now in
    let cases = c.cases-cases.result.now in
    let solvable = fitted-solvable f.from f.to cases (omega (arith, c.if-to-gt63.false, c.to.ensures)) c.cases-cases.ensures.fit
    (subst IsFitted (sym c.cases-cases.ensures.cases) (sym c.if-not-is_fitted.ensures)) in
    subst IsSolvable (sym c.full-item.is) (solvable 0 c.full-item.result (omega (arith, c.in-len1.len_at_least)))
