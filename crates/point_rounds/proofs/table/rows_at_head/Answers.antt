use Rattle.std.proofs.Common.{get_or, refl, ◌∙◌, sym}
use Rattle.std.specs.Prelude.{slice_get}
use Rattle.std.proofs.lemmas.Bool.{eq-eqb, ne_eqb}
use Rattle.transition_formula.proofs.SomePosts.{same_default}
use Rattle.point_rounds.proofs.LeftRows.{heads-end, heads-found, heads-passed}
use Rattle.point_rounds.proofs.table.rows_at_head.Goals as goal

pub loop-place-preserved : goal.loop-place-preserved
loop-place-preserved c =
    let heads = c.args.heads.now in
    let head = get_or heads c.loop-place.place 0 in
    heads-passed c.args.node heads c.args.lists.now c.loop-place.place head c.loop-place-test.true (same_default heads c.loop-place.place 0 head c.loop-place-test.true) (ne_eqb c.args.node head c.if-node-head.false)
    ∙ c.loop-place.invariant

pub returns-then-node-head : goal.returns-then-node-head
returns-then-node-head c =
    let heads = c.args.heads.now in
    let head = get_or heads c.loop-place.place 0 in
    heads-found c.args.node heads c.args.lists.now c.loop-place.place head c.loop-place-test.true (same_default heads c.loop-place.place 0 head c.loop-place-test.true) (eq-eqb c.args.node head c.if-node-head.true)
    (slice_get c.args.lists.now c.loop-place.place) refl c.list_at.result.now c.list_at.ensures
    ∙ c.loop-place.invariant

pub returns : goal.returns
returns c = sym (heads-end c.args.node c.args.heads.now c.args.lists.now c.loop-place.place c.loop-place-test.false) ∙ c.loop-place.invariant
