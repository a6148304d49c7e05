use Rattle.std.proofs.Common.{◌≡◌, ◌++◌, ◌∙◌, sym, ap, subst}
use Rattle.transition_formula.specs.Transition.{AreSolvable, Transition}
use Rattle.proc_summary.specs.Summary.{Ends}
use Rattle.posing.specs.Logs.{loss_notes}
use Rattle.posing.proofs.Steps.{in_other_words, notes_first}
use Rattle.checked_tree.specs.Evaluation.{leaf_formula}
use Rattle.checked_tree.specs.Law.{IsFrom}
use Rattle.newton_rounds.specs.Closure.{chains_of, closure_at, ends_at, exits_told, losses_in_chains, losses_in_exits, no_pair}
use Rattle.newton_rounds.specs.Pairs.{PairEnds}
use Rattle.newton_rounds.specs.Between.{GoesBetween}
use Rattle.newton_rounds.proofs.ChainFormulas.{chains-go, exits-from, exits-solvable, member-at, read-at}
use Rattle.newton_rounds.proofs.chains.closure_at.Goals as goal

pub exits_told-requires-clause-over : goal.exits_told-requires-clause-over
exits_told-requires-clause-over g c =
    let members = c.args.parts.members.now in
    let chained = c.requires in
    let member : c.index-members-place.result ≡ ends_at members c.args.parts.place = sym (read-at members c.args.parts.place c.index-members-place.result no_pair chained.within c.index-members-place.is) in
    subst (λ (m : PairEnds). GoesBetween 2000 m.pair.columns 0 c.in_ok-chains.chains) (sym member)
    (subst (GoesBetween 2000 (ends_at members c.args.parts.place).pair.columns 0) (sym c.in_ok-chains.ensures.made) (chains-go members c.args.parts.bases.now c.args.parts.place c.args.parts.cells.now chained))

pub leaf-requires-clause-between : goal.leaf-requires-clause-between
leaf-requires-clause-between g c =
    let members = c.args.parts.members.now in
    let chained = c.requires in
    let m = ends_at members c.args.parts.place in
    let chains = chains_of members c.args.parts.bases.now c.args.parts.cells.now c.args.parts.place in
    let member : c.index-members-place.result ≡ m = sym (read-at members c.args.parts.place c.index-members-place.result no_pair chained.within c.index-members-place.is) in
    let told : c.in_ok-told.told ≡ exits_told m chains = c.in_ok-told.ensures.made ∙ (λ i. exits_told (member i) (c.in_ok-chains.ensures.made i)) in
    let ends = member-at members c.args.parts.place chained.within chained.each_member in
    let are = ap (λ (p : PairEnds). p.ends) (c.member.view_is ∙ member) in
    subst (λ (e : Ends). IsFrom e.entry e.exit c.in_ok-told.told) (sym are)
    (subst (IsFrom m.ends.entry m.ends.exit) (sym told) (exits-from m ends.ends chains (chains-go members c.args.parts.bases.now c.args.parts.place c.args.parts.cells.now chained)))

pub leaf-requires-clause-solvable : goal.leaf-requires-clause-solvable
leaf-requires-clause-solvable g c =
    let members = c.args.parts.members.now in
    let chained = c.requires in
    let m = ends_at members c.args.parts.place in
    let chains = chains_of members c.args.parts.bases.now c.args.parts.cells.now c.args.parts.place in
    let member : c.index-members-place.result ≡ m = sym (read-at members c.args.parts.place c.index-members-place.result no_pair chained.within c.index-members-place.is) in
    let told : c.in_ok-told.told ≡ exits_told m chains = c.in_ok-told.ensures.made ∙ (λ i. exits_told (member i) (c.in_ok-chains.ensures.made i)) in
    let ends = member-at members c.args.parts.place chained.within chained.each_member in
    subst (λ (f : Transition). AreSolvable f.cases) (sym told) (exits-solvable m ends.ends chains (chains-go members c.args.parts.bases.now c.args.parts.place c.args.parts.cells.now chained))

pub returns : goal.returns
unfolding closure_at leaf_formula
returns g c =
    let members = c.args.parts.members.now in
    let chained = c.requires in
    let m = ends_at members c.args.parts.place in
    let chains = chains_of members c.args.parts.bases.now c.args.parts.cells.now c.args.parts.place in
    let member : c.index-members-place.result ≡ m = sym (read-at members c.args.parts.place c.index-members-place.result no_pair chained.within c.index-members-place.is) in
    let told : c.in_ok-told.told ≡ exits_told m chains = c.in_ok-told.ensures.made ∙ (λ i. exits_told (member i) (c.in_ok-chains.ensures.made i)) in
    let are = ap (λ (p : PairEnds). p.ends) (c.member.view_is ∙ member) in
    let lost : c.as_slice.result.now ≡ losses_in_chains members c.args.parts.bases.now c.args.parts.cells.now c.args.parts.place ++ losses_in_exits m chains =
    c.as_slice.ensures ∙ c.in_ok-told.ensures.noted ∙ (λ i. (c.in_ok-chains.ensures.noted ∙ ap (λ l. l ++ losses_in_chains members c.args.parts.bases.now c.args.parts.cells.now c.args.parts.place) c.new-lost.ensures) i ++ losses_in_exits (member i) (c.in_ok-chains.ensures.made i)) in
    notes_first c.in_ok-add_losses.ensures (ap loss_notes lost)
    (in_other_words (λ i. leaf_formula (told i) (are i).entry (are i).exit) c.leaf.ensures)
