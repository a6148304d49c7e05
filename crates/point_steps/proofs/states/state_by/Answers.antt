use Rattle.std.proofs.Common.{◌+◌, ap, refl, sym, subst, arith}
use Rattle.transition_formula.specs.Transition.{AreSolvable, Transition}
use Rattle.posing.specs.Posing.{Done}
use Rattle.posing.proofs.Steps.{at_end, error_first, notes_first, value_first}
use Rattle.posing.proofs.Following.{stops}
use Rattle.checked_tree.specs.Evaluation.{settled_and_fitted}
use Rattle.context.specs.Verdicts.{extended_formula}
use Rattle.context.proofs.Few.{fitted-few}
use Rattle.point_steps.specs.Claims.{IsState}
use Rattle.point_steps.specs.Parts.{HoldsAtPoint}
use Rattle.point_steps.specs.States.{state_by}
use Rattle.point_steps.proofs.StateFormulas.{made-more, state-from, state-solvable, whole-holds, whole-state}
use Rattle.point_steps.proofs.states.state_by.Goals as goal

pub settled_and_fitted-requires-clause-between : goal.settled_and_fitted-requires-clause-between
settled_and_fitted-requires-clause-between g c =
    state-from c.args.ends.now c.requires.ends c.args.entry.now c.args.reach.now c.requires.entry c.requires.reach c.in_ok-f.f c.in_ok-f.ensures.exact

pub settled_and_fitted-requires-clause-start : goal.settled_and_fitted-requires-clause-start
settled_and_fitted-requires-clause-start g c = c.requires.ends.start

pub settled_and_fitted-requires-clause-end : goal.settled_and_fitted-requires-clause-end
settled_and_fitted-requires-clause-end g c = c.requires.ends.point

pub settled_and_fitted-requires-clause-solvable : goal.settled_and_fitted-requires-clause-solvable
settled_and_fitted-requires-clause-solvable g c =
    subst (λ (f : Transition). AreSolvable f.cases) (sym c.in_ok-f.ensures.exact) (state-solvable c.args.ends.now c.requires.ends c.args.entry.now c.args.reach.now c.requires.entry c.requires.reach)

pub extended_formula-requires-clause-more : goal.extended_formula-requires-clause-more
extended_formula-requires-clause-more g c =
    made-more c.args.ends.now c.requires.ends c.args.entry.now c.args.reach.now c.requires.entry c.requires.reach c.in_ok-fitted.fitted c.in_ok-fitted.ensures.fits

pub extended_formula-requires-clause-few : goal.extended_formula-requires-clause-few
extended_formula-requires-clause-few g c = fitted-few c.in_ok-fitted.fitted c.in_ok-fitted.ensures.fits.fitted

pub extended_formula-requires-clause-narrow : goal.extended_formula-requires-clause-narrow
extended_formula-requires-clause-narrow g c = let columns = c.requires.ends.few_columns in let entry = c.requires.ends.few_entry in omega (arith, columns, entry)

pub returns-clause-follows : goal.returns-clause-follows
unfolding state_by
returns-clause-follows g c =
    let ends = c.args.ends.now in
    notes_first c.in_ok-f.ensures.noted refl
    (value_first (λ f. Done (extended_formula (ends.columns + ends.entry) f)) c.in_ok-fitted.ensures.follows (ap (λ f. settled_and_fitted f ends.start ends.point) c.in_ok-f.ensures.exact) (at_end c.in_ok-whole.ensures))

pub returns-clause-fits : goal.returns-clause-fits
returns-clause-fits g c =
    let ends = c.args.ends.now in
    subst (IsState (ends.columns + ends.entry)) (sym c.in_ok-whole.ensures)
    (whole-state ends c.requires.ends c.args.entry.now c.args.reach.now c.requires.entry c.requires.reach c.in_ok-fitted.fitted c.in_ok-fitted.ensures.fits)

pub returns-clause-holds : goal.returns-clause-holds
returns-clause-holds g c =
    let ends = c.args.ends.now in
    subst (HoldsAtPoint ends.columns c.args.entry.now c.args.reach.now) (sym c.in_ok-whole.ensures)
    (whole-holds ends c.requires.ends c.args.entry.now c.args.reach.now c.requires.entry c.requires.reach c.in_ok-fitted.fitted c.in_ok-fitted.ensures.fits c.in_ok-f.f c.in_ok-f.ensures.exact c.in_ok-fitted.ensures.covers)

pub returns-in_err-fitted-clause-follows : goal.returns-in_err-fitted-clause-follows
unfolding state_by
returns-in_err-fitted-clause-follows g c =
    let ends = c.args.ends.now in
    notes_first c.in_ok-f.ensures.noted refl
    (error_first (λ f. Done (extended_formula (ends.columns + ends.entry) f)) c.in_err-fitted.ensures.follows (ap (λ f. settled_and_fitted f ends.start ends.point) c.in_ok-f.ensures.exact) c.from_residual-in_err-fitted.ensures.1)

pub returns-in_err-whole-clause-follows : goal.returns-in_err-whole-clause-follows
unfolding state_by
returns-in_err-whole-clause-follows g c =
    let ends = c.args.ends.now in
    notes_first c.in_ok-f.ensures.noted refl
    (value_first (λ f. Done (extended_formula (ends.columns + ends.entry) f)) c.in_ok-fitted.ensures.follows (ap (λ f. settled_and_fitted f ends.start ends.point) c.in_ok-f.ensures.exact) (stops _ _ _ _ _ _ refl c.from_residual-in_err-whole.ensures.1))
