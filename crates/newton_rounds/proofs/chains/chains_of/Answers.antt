use Rattle.std.proofs.Common.{length, sym, subst}
use Rattle.transition_formula.specs.Transition.{IsTransition}
use Rattle.newton_rounds.specs.Between.{width_at}
use Rattle.newton_rounds.specs.Closure.{chain_end, chains_of, losses_in_chain_end}
use Rattle.newton_rounds.proofs.ChainFormulas.{chains-go, others-end, others-next}
use Rattle.newton_rounds.proofs.chains.chains_of.Goals as goal

pub loop-n-preserved : goal.loop-n-preserved
loop-n-preserved c =
    let members = c.args.parts.members.now in
    let bases = c.args.parts.bases.now in
    let cells = c.args.parts.cells.now in
    let place = c.args.parts.place in
    record {
      made = others-next (λ n. (chain_end members bases cells place n).cases) place c.loop-n.n (length members) c.loop-n.cases c.add_others.new.cases _ c.loop-n-test.true c.in_ok-add_others.ensures.made c.loop-n.invariant.made;
      noted = others-next (losses_in_chain_end members bases cells place) place c.loop-n.n (length members) c.loop-n.lost c.add_others.new.lost _ c.loop-n-test.true c.in_ok-add_others.ensures.noted c.loop-n.invariant.noted;
    }

pub from_cases-requires : goal.from_cases-requires
from_cases-requires c =
    let members = c.args.parts.members.now in
    let bases = c.args.parts.bases.now in
    let cells = c.args.parts.cells.now in
    let place = c.args.parts.place in
    let goes = chains-go members bases place cells c.requires in
    let same = others-end (λ n. (chain_end members bases cells place n).cases) place c.loop-n.n (length members) c.loop-n.cases (chains_of members bases cells place).cases c.loop-n-test.false c.loop-n.invariant.made in
    subst (λ from. IsTransition from 0 c.loop-n.cases) (sym c.width_at.ensures) (subst (λ cases. IsTransition (width_at members place) 0 cases) (sym same) goes.fits)
