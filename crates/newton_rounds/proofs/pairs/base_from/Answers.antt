use Rattle.std.proofs.Common.{◌≡◌, ◌<◌, ◌∙◌, length, sym, ap, subst, arith}
use Rattle.std.specs.Prelude.{All}
use Rattle.transition_formula.specs.Transition.{Transition}
use Rattle.proc_summary.specs.Summary.{exit_places}
use Rattle.newton_rounds.specs.Pairs.{PairEnds, entry_told}
use Rattle.newton_rounds.proofs.ExitColumns.{pair-holds}
use Rattle.newton_rounds.proofs.PairStates.{told-there}
use Rattle.newton_rounds.proofs.pairs.base_from.Goals as goal

pub equated_formula-requires-clause-there : goal.equated_formula-requires-clause-there
equated_formula-requires-clause-there c =
    let m = c.args.member.now in
    let f = c.args.exit.now in
    let same : c.as_slice.result.now ≡ exit_places m.ends = c.as_slice.ensures ∙ c.in_ok-places.ensures in
    subst (λ (t : Transition). All (λ place. place < t.to) c.as_slice.result.now) (sym c.in_ok-told.ensures.made)
    (subst (λ places. All (λ place. place < (entry_told m f).to) places) (sym same) (told-there m c.requires.ends f c.requires.fits))

pub equated_formula-requires-clause-columns : goal.equated_formula-requires-clause-columns
equated_formula-requires-clause-columns c =
    let m = c.args.member.now in
    let same : c.as_slice.result.now ≡ exit_places m.ends = c.as_slice.ensures ∙ c.in_ok-places.ensures in
    let long = ap length same in
    let first : c.columns-first.result ≡ m.ends.entry.columns = c.columns-first.ensures.columns ∙ ap (λ (p : PairEnds). p.ends.entry.columns) c.member.view_is in
    let from : c.in_ok-told.told.from ≡ m.pair.columns = ap (λ (t : Transition). t.from) c.in_ok-told.ensures.made in
    let holds = pair-holds m c.requires.ends in
    omega (arith, long, first, from, holds)
