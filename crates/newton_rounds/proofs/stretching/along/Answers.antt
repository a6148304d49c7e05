use Rattle.std.proofs.Common.{◌≡◌, ◌<◌, ◌^◌, List, ◌++◌, ◌∙◌, sym, ap, subst}
use Rattle.std.specs.Prelude.{All, OnOk}
use Rattle.linear_terms.specs.declared.row.Case.{Case}
use Rattle.transition_formula.specs.declared.loss.Loss.{Loss}
use Rattle.transition_formula.specs.Composition.{losses_in_sequence, sequence_of}
use Rattle.transition_formula.specs.Transition.{Transition, AreFew, IsTransition}
use Rattle.newton_rounds.specs.Pairs.{stations_of}
use Rattle.newton_rounds.specs.Shapes.{stretch_of}
use Rattle.newton_rounds.proofs.CallStations.{entered-third, first-few, noted-along, returned-fourth}
use Rattle.newton_rounds.proofs.stretching.along.Goals as goal

pub seq-requires-clause-few : goal.seq-requires-clause-few
seq-requires-clause-few c =
    let s = stretch_of c.args.call.now c.args.sides.now in
    let fits = subst (λ (f : Transition). IsTransition f.from f.to f.cases) c.in_ok-second.ensures.made c.in_ok-second.ensures.fits in
    let few = subst (λ (f : Transition). All (λ (case : Case). case.aux < 2 ^ 31) f.cases) c.in_ok-second.ensures.made c.in_ok-second.ensures.few in
    subst (λ (both : Transition × Transition). AreFew both.0 both.1) (λ i. (sym c.in_ok-first.ensures.made i, sym c.in_ok-second.ensures.made i))
    (first-few c.args.caller.now c.args.callee.now s c.requires fits few)

pub along_from_entry-requires : goal.along_from_entry-requires
along_from_entry-requires c =
    let s = stretch_of c.args.call.now c.args.sides.now in
    let stations = stations_of c.args.caller.now c.args.callee.now s in
    let fits = subst (λ (f : Transition). IsTransition f.from f.to f.cases) c.in_ok-second.ensures.made c.in_ok-second.ensures.fits in
    let few = subst (λ (f : Transition). All (λ (case : Case). case.aux < 2 ^ 31) f.cases) c.in_ok-second.ensures.made c.in_ok-second.ensures.few in
    let entered : c.in_ok-entered.entered ≡ sequence_of stations.first stations.second =
    c.in_ok-entered.ensures.exact ∙ (λ i. sequence_of (c.in_ok-first.ensures.made i) (c.in_ok-second.ensures.made i)) in
    record {
      stretch = c.requires;
      entered = entered;
      third = subst (λ f. AreFew f stations.third) (sym entered) (entered-third c.args.caller.now c.args.callee.now s c.requires fits few);
      fourth = subst (λ f. AreFew (sequence_of f stations.third) stations.fourth) (sym entered) (returned-fourth c.args.caller.now c.args.callee.now s c.requires fits few);
    }

pub returns-clause-made : goal.returns-clause-made
returns-clause-made c = c.along_from_entry.ensures.made

pub returns-clause-noted : goal.returns-clause-noted
returns-clause-noted c =
    let s = stretch_of c.args.call.now c.args.sides.now in
    let stations = stations_of c.args.caller.now c.args.callee.now s in
    let entered = c.in_ok-entered.ensures.exact ∙ (λ i. sequence_of (c.in_ok-first.ensures.made i) (c.in_ok-second.ensures.made i)) in
    subst (λ (lost : List Loss). OnOk c.along_from_entry.result (c.along_from_entry.new.lost ≡ lost))
    (noted-along c.args.lost.now _ _ _ _ _ _ c.call_entry.new.lost c.seq.new.losses _ c.entry_told.new.lost
    c.in_ok-first.ensures.noted c.in_ok-second.ensures.noted
    (c.in_ok-entered.ensures.noted ∙ (λ i. c.call_entry.new.lost ++ losses_in_sequence (c.in_ok-first.ensures.made i) (c.in_ok-second.ensures.made i)))
    (ap (λ f. c.seq.new.losses ++ losses_in_sequence f stations.third) entered)
    (ap (λ f. losses_in_sequence (sequence_of f stations.third) stations.fourth) entered))
    c.along_from_entry.ensures.noted
