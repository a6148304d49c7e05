use Rattle.std.proofs.Common.{refl, sym, ap, ◌∙◌}
use Rattle.posing.proofs.Steps.{at_end, in_other_words, notes_first}
use Rattle.context.specs.Verdicts.{case_verdict, verdict_left}
use Rattle.context.proofs.CaseVerdicts.{left-known, none-known}
use Rattle.context.proofs.judging.case_verdict.Goals as goal

pub returns-in-None-clause-follows : goal.returns-in-None-clause-follows
unfolding case_verdict
returns-in-None-clause-follows g c =
    notes_first c.in_ok-solve_noted.ensures.noted refl
    (in_other_words (ap (verdict_left c.args.rule) (sym c.in-None.is ∙ c.in_ok-solve_noted.ensures.exact)) (at_end refl))

pub returns-in-None-clause-known : goal.returns-in-None-clause-known
returns-in-None-clause-known g c = none-known c.args.case.now c.in_ok-solve_noted.field-0 c.in_ok-solve_noted.ensures.known c.in-None.is

pub returns-in-Some-clause-known : goal.returns-in-Some-clause-known
returns-in-Some-clause-known g c =
    left-known c.args.case.now c.in-Some.left c.in_ok-solve_noted.field-0 c.verdict_left.result c.in_ok-solve_noted.ensures.known c.in-Some.is c.verdict_left.ensures.known
