use Rattle.std.proofs.Common.{length, ap, refl, subst, sym, ◌∙◌}
use Rattle.std.specs.Prelude.{IfOk, IsTrue}
use Rattle.std.specs.List.{AllByRecursion}
use Rattle.transition_formula.specs.Transition.{Transition, fits}
use Rattle.posing.proofs.Steps.{in_other_words, notes_first}
use Rattle.syntax_tree.specs.Term.{term_of}
use Rattle.report.specs.Claims.{IsRefuted}
use Rattle.context.specs.Claims.{FitsVerdict}
use Rattle.context.specs.Judging.{IsVerdictOnAll}
use Rattle.context.specs.Verdicts.{failure_verdict_from, verdict_on_cases_from}
use Rattle.context.proofs.WaysToAssertions.{cases-fit-shown, dead-of, if_ok-more, none-fails-at}
use Rattle.context.proofs.assertion.failure_verdict.Goals as goal

pub returns-clause-follows : goal.returns-clause-follows
unfolding failure_verdict_from
returns-clause-follows g c =
    notes_first c.in_ok-failing.ensures.noted refl
    (in_other_words (λ i. verdict_on_cases_from (c.rule.ensures i) ((c.cases.ensures.cases ∙ ap (λ (f : Transition). f.cases) c.in_ok-failing.ensures.exact) i)) c.verdict_on_cases.ensures.follows)

pub returns-clause-sound : goal.returns-clause-sound
returns-clause-sound g c = λ e.
    none-fails-at c.args.place.now.shown (term_of c.args.cond.now) c.args.f.now c.in_ok-failing.failing c.in_ok-failing.ensures.holds
    (dead-of c.in_ok-failing.failing.cases c.verdict_on_cases.result (subst (λ cases. IfOk c.verdict_on_cases.result (IsVerdictOnAll cases)) c.cases.ensures.cases c.verdict_on_cases.ensures.known) e)

pub returns-clause-refuted : goal.returns-clause-refuted
returns-clause-refuted g c = if_ok-more (IsVerdictOnAll c.cases.result.now) IsRefuted c.verdict_on_cases.result (λ verdict known. known.refuted) c.verdict_on_cases.ensures.known

pub returns-clause-fits : goal.returns-clause-fits
returns-clause-fits g c =
    if_ok-more (IsVerdictOnAll c.cases.result.now) (FitsVerdict (length c.args.place.now.shown)) c.verdict_on_cases.result
    (λ verdict known. known.fits (length c.args.place.now.shown) (subst (AllByRecursion (λ case. IsTrue (fits 0 (length c.args.place.now.shown) case))) (sym c.cases.ensures.cases) (cases-fit-shown (length c.args.place.now.shown) c.in_ok-failing.failing c.in_ok-failing.ensures.fits)))
    c.verdict_on_cases.ensures.known
