use Rattle.std.proofs.Common.{◌≤◌, ap, refl, sym, subst, ◌∙◌}
use Rattle.posing.proofs.Steps.{in_other_words, notes_first}
use Rattle.syntax_tree.specs.Term.{term_of}
use Rattle.transition_formula.specs.Transition.{Transition}
use Rattle.context.specs.Ends.{IsCondition}
use Rattle.context.specs.Verdicts.{falsity_of}
use Rattle.point_steps.proofs.StepLaws.{if_ok-has}
use Rattle.point_verdicts.specs.Exclusions.{every, exclusion_of, step_excluded}
use Rattle.point_verdicts.specs.Parts.{AreFailures, FailsByStep, HaveCanonicalSteps, HoldsWhereFalse}
use Rattle.point_verdicts.proofs.Assertions.{columns-narrow}
use Rattle.point_verdicts.proofs.Every.{TellsOf}
use Rattle.point_verdicts.proofs.Exclusions.{exclusion-tells}
use Rattle.point_verdicts.proofs.assertion.is_never_false.Goals as goal

pub noted_falsity-requires-clause-cond : goal.noted_falsity-requires-clause-cond
noted_falsity-requires-clause-cond g c = subst (λ n. IsCondition n (term_of c.args.cond.now)) (sym c.columns_of-columns.ensures) c.requires.cond

pub noted_falsity-requires-clause-narrow : goal.noted_falsity-requires-clause-narrow
noted_falsity-requires-clause-narrow g c =
    subst (λ n. n ≤ 63) (sym c.columns_of-columns.ensures) (columns-narrow c.args.assertion.program.now c.args.assertion.proc c.requires.assertion.formed c.requires.assertion.procedure)

pub are_steps_excluded-requires-clause-falsity : goal.are_steps_excluded-requires-clause-falsity
are_steps_excluded-requires-clause-falsity g c = subst (λ n. AreFailures n c.in_ok-falsity.falsity) c.columns_of-columns.ensures c.in_ok-falsity.ensures.fits

pub returns-clause-follows : goal.returns-clause-follows
unfolding exclusion_of
returns-clause-follows g c =
    let assertion = c.args.assertion in
    let same = c.in_ok-falsity.ensures.exact ∙ ap (λ n. falsity_of n (term_of c.args.cond.now)) c.columns_of-columns.ensures in
    notes_first c.in_ok-falsity.ensures.noted refl
    (in_other_words (ap (λ (f : Transition). every (step_excluded assertion.program.now assertion.round.now.table assertion.proc assertion.check f.cases) assertion.round.now.steps) same) c.are_steps_excluded.ensures)

pub returns-clause-excludes : goal.returns-clause-excludes
unfolding exclusion_of
returns-clause-excludes g c =
    let assertion = c.args.assertion in
    let cond = term_of c.args.cond.now in
    let f = c.in_ok-falsity.falsity in
    let same = c.in_ok-falsity.ensures.exact ∙ ap (λ n. falsity_of n cond) c.columns_of-columns.ensures in
    if_ok-has c.are_steps_excluded.result (TellsOf (FailsByStep assertion.program.now assertion.round.now assertion.proc assertion.check cond → ⊥))
    (notes_first c.in_ok-falsity.ensures.noted refl
    (in_other_words (ap (λ (f : Transition). every (step_excluded assertion.program.now assertion.round.now.table assertion.proc assertion.check f.cases) assertion.round.now.steps) same) c.are_steps_excluded.ensures))
    (exclusion-tells assertion.program.now assertion.proc assertion.check cond assertion.round.now f c.requires.assertion.formed c.requires.assertion.table c.requires.assertion.steps (subst HaveCanonicalSteps c.as_slice.ensures c.see_steps.ensures)
    same (subst (λ n. AreFailures n f) c.columns_of-columns.ensures c.in_ok-falsity.ensures.fits) (subst (λ n. HoldsWhereFalse n cond f) c.columns_of-columns.ensures c.in_ok-falsity.ensures.holds))
