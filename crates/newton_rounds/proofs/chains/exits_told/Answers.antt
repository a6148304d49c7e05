use Rattle.std.proofs.Common.{◌≡◌, ◌<◌, ◌-◌, ◌+◌, ◌^◌, ◌∙◌, List, ℕ, ap, length, sym, subst}
use Rattle.std.specs.Prelude.{All}
use Rattle.std.specs.List.{range_with_len}
use Rattle.linear_terms.specs.declared.row.Case.{Case}
use Rattle.transition_formula.specs.Posts.{with_entries}
use Rattle.transition_formula.specs.Transition.{Transition}
use Rattle.newton_rounds.specs.Pairs.{PairEnds}
use Rattle.newton_rounds.proofs.ChainFormulas.{places-few, places-there, told-few}
use Rattle.newton_rounds.proofs.chains.exits_told.Goals as goal

pub with_entries-requires-clause-there : goal.with_entries-requires-clause-there
with_entries-requires-clause-there c =
    let are : c.as_slice.result.now ≡ range_with_len c.args.member.now.ends.entry.columns c.args.member.now.ends.exit.columns =
    c.as_slice.ensures ∙ c.in_ok-places.ensures
    ∙ (λ i. range_with_len ((c.columns-entry.ensures.columns ∙ ap (λ (m : PairEnds). m.ends.entry.columns) c.member.view_is) i) ((c.columns.ensures.columns ∙ ap (λ (m : PairEnds). m.ends.exit.columns) c.member.view_is) i)) in
    subst (λ places. All (λ place. place < c.args.f.now.from) places) (sym are) (places-there c.args.member.now c.requires.ends c.args.f.now c.requires.over)

pub with_entries-requires-clause-few : goal.with_entries-requires-clause-few
with_entries-requires-clause-few c =
    let are : c.as_slice.result.now ≡ range_with_len c.args.member.now.ends.entry.columns c.args.member.now.ends.exit.columns =
    c.as_slice.ensures ∙ c.in_ok-places.ensures
    ∙ (λ i. range_with_len ((c.columns-entry.ensures.columns ∙ ap (λ (m : PairEnds). m.ends.entry.columns) c.member.view_is) i) ((c.columns.ensures.columns ∙ ap (λ (m : PairEnds). m.ends.exit.columns) c.member.view_is) i)) in
    subst (λ (places : List ℕ). length places < 2 ^ 32) (sym are) (places-few c.args.member.now c.requires.ends c.args.f.now c.requires.over)

pub hidden-requires-clause-few : goal.hidden-requires-clause-few
hidden-requires-clause-few c =
    let are : c.as_slice.result.now ≡ range_with_len c.args.member.now.ends.entry.columns c.args.member.now.ends.exit.columns =
    c.as_slice.ensures ∙ c.in_ok-places.ensures
    ∙ (λ i. range_with_len ((c.columns-entry.ensures.columns ∙ ap (λ (m : PairEnds). m.ends.entry.columns) c.member.view_is) i) ((c.columns.ensures.columns ∙ ap (λ (m : PairEnds). m.ends.exit.columns) c.member.view_is) i)) in
    let same : c.in_ok-told.told ≡ with_entries (range_with_len c.args.member.now.ends.entry.columns c.args.member.now.ends.exit.columns) c.args.f.now =
    c.in_ok-told.ensures.exact ∙ (λ i. with_entries (are i) c.args.f.now) in
    subst (λ (t : Transition). All (λ (case : Case). case.aux + (t.from - c.columns-entry.result) + t.to < 2 ^ 32) t.cases) (sym same)
    (subst (λ n. All (λ (case : Case). case.aux + (c.args.f.now.from - n) + length (range_with_len c.args.member.now.ends.entry.columns c.args.member.now.ends.exit.columns) < 2 ^ 32)
    (with_entries (range_with_len c.args.member.now.ends.entry.columns c.args.member.now.ends.exit.columns) c.args.f.now).cases)
    (sym (c.columns-entry.ensures.columns ∙ ap (λ (m : PairEnds). m.ends.entry.columns) c.member.view_is)) (told-few c.args.member.now c.requires.ends c.args.f.now c.requires.over))
