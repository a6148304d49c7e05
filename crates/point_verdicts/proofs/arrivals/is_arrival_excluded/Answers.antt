use Rattle.std.proofs.Common.{◌≤◌, ap, length, refl, subst, sym, ◌∙◌}
use Rattle.std.specs.Prelude.{IsTrue}
use Rattle.transition_formula.specs.Transition.{Transition, fits}
use Rattle.posing.proofs.Following.{stops}
use Rattle.posing.proofs.Steps.{in_other_words}
use Rattle.point_verdicts.specs.Exclusions.{arriving_case, every, failure_excluded}
use Rattle.point_verdicts.specs.Parts.{AreFailures, formula_of_case, only_case}
use Rattle.point_verdicts.proofs.FailingCases.{arrival-of, posts-long}
use Rattle.point_verdicts.proofs.arrivals.is_arrival_excluded.Goals as goal

pub arriving_formula-requires-clause-fits : goal.arriving_formula-requires-clause-fits
arriving_formula-requires-clause-fits g c = subst (λ n. IsTrue (fits 0 n (arriving_case n c.args.given c.args.case.now))) (sym c.from.ensures) c.requires.fits

pub arriving_formula-requires-clause-long : goal.arriving_formula-requires-clause-long
arriving_formula-requires-clause-long g c = subst (λ n. n ≤ length c.args.case.now.post) (sym c.from.ensures) (posts-long c.args.falsity.now.from c.args.case.now c.requires.case)

pub returns-in_err-arriving : goal.returns-in_err-arriving
returns-in_err-arriving g c = stops _ _ _ _ _ _ refl c.from_residual.ensures.1

pub are_failures_excluded-requires-clause-arriving : goal.are_failures_excluded-requires-clause-arriving
are_failures_excluded-requires-clause-arriving g c =
    let n = c.args.falsity.now.from in
    arrival-of n c.in_ok-arriving.arriving (arriving_case n c.args.given c.args.case.now) c.requires.fits c.requires.few (c.in_ok-arriving.ensures ∙ ap (λ m. formula_of_case 0 m (arriving_case m c.args.given c.args.case.now)) c.from.ensures)

pub are_failures_excluded-requires-clause-falsity : goal.are_failures_excluded-requires-clause-falsity
are_failures_excluded-requires-clause-falsity g c =
    subst (λ n. AreFailures n c.args.falsity.now) (sym (ap (λ (f : Transition). f.to) c.in_ok-arriving.ensures ∙ c.from.ensures)) c.requires.falsity

pub returns : goal.returns
returns g c =
    in_other_words
    (ap (λ f. every (failure_excluded (only_case f)) c.args.falsity.now.cases) (c.in_ok-arriving.ensures ∙ ap (λ m. formula_of_case 0 m (arriving_case m c.args.given c.args.case.now)) c.from.ensures))
    c.are_failures_excluded.ensures
