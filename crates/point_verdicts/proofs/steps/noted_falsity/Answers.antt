use Rattle.std.proofs.Common.{ap, sym}
use Rattle.transition_formula.specs.Transition.{Transition}
use Rattle.point_verdicts.proofs.FailingCases.{failures-of}
use Rattle.point_verdicts.proofs.steps.noted_falsity.Goals as goal

pub returns-clause-fits : goal.returns-clause-fits
returns-clause-fits c =
    failures-of c.args.columns c.in_ok-f.f c.cases.result.now c.requires.narrow (ap (λ (g : Transition). g.from) c.in_ok-f.ensures.exact) (ap (λ (g : Transition). g.to) c.in_ok-f.ensures.exact) (sym c.cases.ensures.cases) c.cases.ensures.fit
    c.in_ok-f.ensures.few

pub returns-clause-holds : goal.returns-clause-holds
returns-clause-holds c = λ state long false. c.in_ok-f.ensures.at_least state long false
