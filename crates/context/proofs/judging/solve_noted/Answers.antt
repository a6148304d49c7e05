use Rattle.context.proofs.CaseVerdicts.{kept-known, false-known}
use Rattle.context.proofs.judging.solve_noted.Goals as goal

pub returns-in-Kept-clause-known : goal.returns-in-Kept-clause-known
returns-in-Kept-clause-known c =
    kept-known c.args.case.now c.in-Kept.left c.in_ok-solved.solved (λ before after. c.in_ok-solved.ensures.at_least before after) (λ from to. c.in_ok-solved.ensures.fits from to) c.in-Kept.is

pub returns-clause-known : goal.returns-clause-known
returns-clause-known c = false-known c.args.case.now c.in_ok-solved.solved (λ before after. c.in_ok-solved.ensures.at_least before after) c.in-False.is
