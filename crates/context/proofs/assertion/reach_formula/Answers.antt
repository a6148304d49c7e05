use Rattle.std.proofs.Common.{◌++◌, [], ap, ◌∙◌}
use Rattle.transition_formula.specs.Composition.{losses_in_sequence}
use Rattle.transition_formula.specs.Meaning.{Covers}
use Rattle.posing.specs.Logs.{loss_notes}
use Rattle.posing.proofs.Steps.{in_other_words, notes_first}
use Rattle.checked_tree.specs.Evaluation.{settled_and_fitted}
use Rattle.checked_tree.specs.Law.{IsBetweenEnds}
use Rattle.context.specs.Ends.{HasFew, HoldsAfter, IsFromStart}
use Rattle.context.specs.Verdicts.{reach_from}
use Rattle.context.proofs.Few.{fitted-few}
use Rattle.context.proofs.WaysToAssertions.{ends-from_start, if_ok-more, sequence-from, sequence-meets, sequence-pairs, sequence-solvable}
use Rattle.context.proofs.assertion.reach_formula.Goals as goal

pub seq-requires-clause-between : goal.seq-requires-clause-between
seq-requires-clause-between g c = sequence-meets c.args.place.now.columns c.args.begun.now c.args.stand.now c.requires.begun c.requires.stand

pub seq-requires-clause-few : goal.seq-requires-clause-few
seq-requires-clause-few g c = sequence-pairs c.args.place.now c.args.begun.now c.args.stand.now c.requires.place c.requires.few c.requires.stand

pub settled_and_fitted-requires-clause-between : goal.settled_and_fitted-requires-clause-between
settled_and_fitted-requires-clause-between g c =
    sequence-from c.args.place.now c.args.begun.now c.args.stand.now c.in_ok-f.f c.requires.place c.requires.begun c.requires.stand c.in_ok-f.ensures.exact

pub settled_and_fitted-requires-clause-start : goal.settled_and_fitted-requires-clause-start
settled_and_fitted-requires-clause-start g c = c.requires.place.start

pub settled_and_fitted-requires-clause-end : goal.settled_and_fitted-requires-clause-end
settled_and_fitted-requires-clause-end g c = c.requires.place.full

pub settled_and_fitted-requires-clause-solvable : goal.settled_and_fitted-requires-clause-solvable
settled_and_fitted-requires-clause-solvable g c =
    sequence-solvable c.args.place.now c.args.begun.now c.args.stand.now c.in_ok-f.f c.requires.place c.requires.begun c.requires.few c.requires.stand c.in_ok-f.ensures.exact

pub returns-clause-fits : goal.returns-clause-fits
returns-clause-fits g c =
    let place = c.args.place.now in
    if_ok-more (IsBetweenEnds place.start place.full) (IsFromStart place.columns) c.settled_and_fitted.result
    (λ f is. ends-from_start place f c.requires.place is) c.settled_and_fitted.ensures.fits

pub returns-clause-few : goal.returns-clause-few
returns-clause-few g c =
    let place = c.args.place.now in
    if_ok-more (IsBetweenEnds place.start place.full) (HasFew 64) c.settled_and_fitted.result (λ f is. fitted-few f is.fitted) c.settled_and_fitted.ensures.fits

pub returns-clause-holds : goal.returns-clause-holds
returns-clause-holds g c =
    if_ok-more (λ f. Covers f c.in_ok-f.f) (HoldsAfter c.args.begun.now c.args.stand.now) c.settled_and_fitted.result
    (λ f covers middle final first second. covers [] final (c.in_ok-f.ensures.at_least [] middle final first second))
    c.settled_and_fitted.ensures.covers

pub returns-clause-follows : goal.returns-clause-follows
unfolding reach_from
returns-clause-follows g c =
    notes_first c.in_ok-add_losses.ensures
    (ap loss_notes (c.as_slice.ensures ∙ c.in_ok-f.ensures.noted ∙ ap (λ l. l ++ losses_in_sequence c.args.begun.now c.args.stand.now) c.new-losses.ensures))
    (in_other_words (ap (λ f. settled_and_fitted f c.args.place.now.start c.args.place.now.full) c.in_ok-f.ensures.exact) c.settled_and_fitted.ensures.follows)
