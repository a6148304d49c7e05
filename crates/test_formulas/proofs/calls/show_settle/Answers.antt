use Rattle.std.proofs.Common.{arith, subst, sym}
use Rattle.transition_formula.specs.Transition.{IsTransition}
use Rattle.transition_formula.proofs.FittedFormulas.{fitted-solvable}
use Rattle.test_formulas.proofs.calls.show_settle.Goals as goal

pub settle-requires : goal.settle-requires
settle-requires c =
    let f = c.args.f.now in
    fitted-solvable f.from f.to f.cases (omega (arith, c.if-to-gt63.false, c.to.ensures))
    (subst (IsTransition f.from f.to) c.cases-cases.ensures.cases c.cases-cases.ensures.fit) (sym c.if-not-is_fitted.ensures)
