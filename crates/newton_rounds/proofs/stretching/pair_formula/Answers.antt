use Rattle.std.proofs.Common.{◌≡◌, ◌+◌, ◌<◌, ◌^◌, ◌∙◌, length, sym, ap, subst, arith}
use Rattle.std.specs.Prelude.{All}
use Rattle.std.specs.List.{range_with_len}
use Rattle.std.proofs.lemmas.List.{length-map}
use Rattle.syntax_tree.specs.Term.{term_of}
use Rattle.transition_formula.specs.Transition.{Transition}
use Rattle.proc_summary.specs.Summary.{exit_places}
use Rattle.newton_rounds.specs.Pairs.{PairEnds, along, callee_width, stations_of}
use Rattle.newton_rounds.specs.Shapes.{stretch_of}
use Rattle.newton_rounds.proofs.ExitColumns.{pair-holds}
use Rattle.newton_rounds.proofs.CallStations.{callee-along, few-along, told-along}
use Rattle.newton_rounds.proofs.stretching.pair_formula.Goals as goal

pub equated_formula-requires-clause-there : goal.equated_formula-requires-clause-there
equated_formula-requires-clause-there c =
    let s = stretch_of c.args.call.now c.args.sides.now in
    let caller = c.args.caller.now in
    let same : c.as_slice.result.now ≡ exit_places caller.ends = c.as_slice.ensures ∙ c.in_ok-told.ensures in
    subst (λ (t : Transition). All (λ place. place < t.to) c.as_slice.result.now) (sym c.in_ok-whole.ensures.made)
    (subst (λ places. All (λ place. place < (along (stations_of caller c.args.callee.now s)).to) places) (sym same) (told-along caller c.args.callee.now s c.requires))

pub equated_formula-requires-clause-columns : goal.equated_formula-requires-clause-columns
equated_formula-requires-clause-columns c =
    let caller = c.args.caller.now in
    let long = ap length (c.as_slice.ensures ∙ c.in_ok-told.ensures) in
    let first : c.columns-first.result ≡ caller.ends.entry.columns = c.columns-first.ensures.columns ∙ ap (λ (p : PairEnds). p.ends.entry.columns) c.caller.view_is in
    let from : c.in_ok-whole.whole.from ≡ caller.pair.columns = ap (λ (t : Transition). t.from) c.in_ok-whole.ensures.made in
    let holds = pair-holds caller c.requires.caller_is in
    omega (arith, long, first, from, holds)

pub with_posts-requires-clause-there : goal.with_posts-requires-clause-there
with_posts-requires-clause-there c =
    let s = stretch_of c.args.call.now c.args.sides.now in
    let caller = c.args.caller.now in
    let callee = c.args.callee.now in
    let to : c.in_ok-equal.equal.to ≡ (along (stations_of caller callee s)).to =
    ap (λ (t : Transition). t.to) c.in_ok-equal.ensures.exact ∙ ap (λ (t : Transition). t.to) c.in_ok-whole.ensures.made in
    let wide = c.columns-2.ensures.columns ∙ ap (λ (m : PairEnds). m.ends.full.columns) c.caller.view_is in
    let globals = ap (λ (m : PairEnds). m.ends.globals) c.caller.view_is in
    let exit = c.columns.ensures.columns ∙ ap (λ (m : PairEnds). m.ends.exit.columns) c.callee.view_is in
    let args = c.len.ensures ∙ sym (length-map c.args.call.now.args term_of) in
    let places : c.as_slice-2.result.now ≡ range_with_len caller.ends.full.columns (callee_width caller.ends callee.ends s.call.args) =
    c.as_slice-2.ensures ∙ c.in_ok-places.ensures ∙ (λ i. range_with_len (wide i) (globals i + args i + exit i)) in
    subst (λ n. All (λ place. place < n) c.as_slice-2.result.now) (sym to)
    (subst (λ all. All (λ place. place < (along (stations_of caller callee s)).to) all) (sym places) (callee-along caller callee s c.requires))

pub with_posts-requires-clause-few : goal.with_posts-requires-clause-few
with_posts-requires-clause-few c =
    let s = stretch_of c.args.call.now c.args.sides.now in
    let caller = c.args.caller.now in
    let callee = c.args.callee.now in
    let wide = c.columns-2.ensures.columns ∙ ap (λ (m : PairEnds). m.ends.full.columns) c.caller.view_is in
    let globals = ap (λ (m : PairEnds). m.ends.globals) c.caller.view_is in
    let exit = c.columns.ensures.columns ∙ ap (λ (m : PairEnds). m.ends.exit.columns) c.callee.view_is in
    let args = c.len.ensures ∙ sym (length-map c.args.call.now.args term_of) in
    let places : c.as_slice-2.result.now ≡ range_with_len caller.ends.full.columns (callee_width caller.ends callee.ends s.call.args) =
    c.as_slice-2.ensures ∙ c.in_ok-places.ensures ∙ (λ i. range_with_len (wide i) (globals i + args i + exit i)) in
    subst (λ all. length all < 2 ^ 32) (sym places) (few-along caller callee s c.requires)
