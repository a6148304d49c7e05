use Rattle.std.proofs.Common.{◌++◌, ap, refl, sym, subst}
use Rattle.std.specs.Prelude.{slice_get}
use Rattle.std.proofs.lemmas.Option.{slice_get_within}
use Rattle.posing.specs.Posing.{Done}
use Rattle.posing.proofs.Following.{stops}
use Rattle.posing.proofs.Steps.{at_end, error_first, in_other_words, value_first}
use Rattle.syntax_tree.specs.declared.program.Proc.{Proc}
use Rattle.syntax_tree.specs.WellFormed.{width_of}
use Rattle.vocabularies.specs.Ends.{entry_width}
use Rattle.proc_summary.specs.Claims.{FitsIf}
use Rattle.context.specs.Claims.{IsEntryIf}
use Rattle.context.proofs.AssertionPlaces.{some-one}
use Rattle.point_states.specs.AllStates.{state_in, with_point, with_point_in}
use Rattle.point_states.proofs.AddedStates.{one-added}
use Rattle.point_states.proofs.states.with_point.Goals as goal

pub state-requires-clause-formed : goal.state-requires-clause-formed
state-requires-clause-formed g c = c.requires.formed

pub state-requires-clause-procedure : goal.state-requires-clause-procedure
state-requires-clause-procedure g c = slice_get_within c.args.owner.program.now.procs c.args.owner.proc c.requires.p c.requires.is

pub state-requires-clause-entry : goal.state-requires-clause-entry
state-requires-clause-entry g c = λ p is.
    subst (λ (q : Proc). IsEntryIf (entry_width c.args.owner.program.now q) c.args.owner.begun.now) (some-one (slice_get c.args.owner.program.now.procs c.args.owner.proc) c.requires.p p c.requires.is is) c.requires.entry

pub state-requires-clause-reach : goal.state-requires-clause-reach
state-requires-clause-reach g c = λ p is.
    subst (λ (q : Proc). FitsIf (width_of c.args.owner.program.now q) c.args.stop.now.formula) (some-one (slice_get c.args.owner.program.now.procs c.args.owner.proc) c.requires.p p c.requires.is is) c.requires.each.0.fits

pub returns-clause-follows : goal.returns-clause-follows
unfolding with_point
returns-clause-follows g c =
    let owner = c.args.owner in
    let stop = c.args.stop.now in
    in_other_words (ap (λ o. with_point_in owner.program.now owner.proc o owner.begun.now c.args.made stop) (sym c.requires.is))
    (value_first (λ f. Done (c.args.made ++ state_in owner.proc stop.node f f.cases)) (c.in_ok-f.ensures.follows c.requires.p c.requires.is) refl
    (at_end {stated = c.args.made ++ state_in owner.proc stop.node c.in_ok-f.f c.in_ok-f.f.cases} c.in_ok-all.ensures))

pub returns-clause-added : goal.returns-clause-added
returns-clause-added g c =
    let owner = c.args.owner in
    let stop = c.args.stop.now in
    one-added owner.program.now owner.proc owner.begun.now stop c.requires.p c.requires.is c.requires.each.0 c.args.made c.in_ok-all.all c.in_ok-f.f (c.in_ok-f.ensures.fits c.requires.p c.requires.is) (c.in_ok-f.ensures.holds stop.node) c.in_ok-all.ensures

pub returns-in_err-f-clause-follows : goal.returns-in_err-f-clause-follows
unfolding with_point
returns-in_err-f-clause-follows g c =
    let owner = c.args.owner in
    let stop = c.args.stop.now in
    in_other_words (ap (λ o. with_point_in owner.program.now owner.proc o owner.begun.now c.args.made stop) (sym c.requires.is))
    (error_first (λ f. Done (c.args.made ++ state_in owner.proc stop.node f f.cases)) (c.in_err-f.ensures.follows c.requires.p c.requires.is) refl c.from_residual.ensures.1)

pub returns-in_err-all-clause-follows : goal.returns-in_err-all-clause-follows
unfolding with_point
returns-in_err-all-clause-follows g c =
    let owner = c.args.owner in
    let stop = c.args.stop.now in
    in_other_words (ap (λ o. with_point_in owner.program.now owner.proc o owner.begun.now c.args.made stop) (sym c.requires.is))
    (value_first (λ f. Done (c.args.made ++ state_in owner.proc stop.node f f.cases)) (c.in_ok-f.ensures.follows c.requires.p c.requires.is) refl (stops _ _ _ _ _ _ refl c.from_residual-in_err-all.ensures.1))
