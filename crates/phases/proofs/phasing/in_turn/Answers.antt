use Rattle.std.proofs.Common.{◌++◌, ◌∙◌, sym, ap, subst}
use Rattle.transition_formula.specs.Composition.{losses_in_sequence}
use Rattle.transition_formula.specs.Transition.{Transition, AreSolvable}
use Rattle.posing.specs.Logs.{loss_notes}
use Rattle.posing.specs.Posing.{Always}
use Rattle.posing.proofs.Steps.{error_first, notes_first, value_first, value_has}
use Rattle.polyhedra.specs.Settle.{settled_formula}
use Rattle.polyhedra.specs.Squash.{fitted_formula}
use Rattle.phases.specs.Phases.{in_turn}
use Rattle.phases.proofs.Whole.{IsSettled, sequence-settled, sequence-solvable, settled-between}
use Rattle.phases.proofs.phasing.in_turn.Goals as goal

pub settle-requires : goal.settle-requires
settle-requires g c =
    subst (λ (f : Transition). AreSolvable f.cases) (sym c.in_ok-both.ensures.exact) (sequence-solvable c.args.voc.now c.args.first.now c.args.second.now c.requires)

pub returns-in_err-left : goal.returns-in_err-left
unfolding in_turn
returns-in_err-left g c =
    notes_first c.in_ok-add_losses.ensures
    (ap loss_notes (c.as_slice.ensures ∙ c.in_ok-both.ensures.noted ∙ ap (λ l. l ++ losses_in_sequence c.args.first.now c.args.second.now) c.new-losses.ensures))
    (error_first (λ f. fitted_formula f c.args.voc.now c.args.voc.now) c.in_err-left.ensures.follows (ap settled_formula c.in_ok-both.ensures.exact) c.from_residual-in_err-left.ensures.1)

pub fit-requires : goal.fit-requires
fit-requires g c =
    let settled_there = IsSettled c.args.voc.now c.args.first.now c.args.second.now c.requires in
    settled-between c.args.voc.now c.args.first.now c.args.second.now c.requires c.in_ok-left.left
    (value_has settled_there c.in_ok-left.ensures.follows
    (subst (λ f. Always settled_there (settled_formula f)) (sym c.in_ok-both.ensures.exact) (sequence-settled c.args.voc.now c.args.first.now c.args.second.now c.requires)))

pub returns : goal.returns
unfolding in_turn
returns g c =
    notes_first c.in_ok-add_losses.ensures
    (ap loss_notes (c.as_slice.ensures ∙ c.in_ok-both.ensures.noted ∙ ap (λ l. l ++ losses_in_sequence c.args.first.now c.args.second.now) c.new-losses.ensures))
    (value_first (λ f. fitted_formula f c.args.voc.now c.args.voc.now) c.in_ok-left.ensures.follows (ap settled_formula c.in_ok-both.ensures.exact) c.fit.ensures.follows)
