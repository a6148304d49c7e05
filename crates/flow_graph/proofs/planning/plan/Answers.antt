use Rattle.std.proofs.Common.{◌≡◌, ℕ, List, [], ◌∷◌, ◌++◌, length, get_or, set, ap, refl, sym, subst, arith, ◌∙◌}
use Rattle.std.proofs.lemmas.List.{get_or_default}
use Rattle.flow_graph.specs.Components.{group_at}
use Rattle.flow_graph.specs.Reaching.{callees_of}
use Rattle.flow_graph.specs.Plans.{AreFilled, empty_rows}
use Rattle.flow_graph.proofs.Filling.{none_filled, one_more_filled}
use Rattle.flow_graph.proofs.planning.plan.Goals as goal

pub loop-p-init : goal.loop-p-init
loop-p-init c =
    subst (λ (x : List (List ℕ)). AreFilled c.args.calls.now c.args.groups c.args.count 0 x c.in_ok-rows.rows.items) (sym c.in_ok-members.ensures)
    (subst (λ (x : List (List ℕ)). AreFilled c.args.calls.now c.args.groups c.args.count 0 (empty_rows c.args.count) x) (sym c.in_ok-rows.ensures)
    (none_filled c.args.calls.now c.args.groups c.args.count))

pub loop-p-preserved : goal.loop-p-preserved
loop-p-preserved c =
    let calls = c.args.calls.now in
    let k = c.loop-p.p in
    let members = c.loop-p.members.items in
    let rows = c.loop-p.rows.items in
    let g : c.group_at-group.result ≡ group_at c.args.groups k = c.group_at-group.ensures ∙ ap (λ (xs : List ℕ). group_at xs k) c.as_slice.ensures in
    let more : c.in_ok-more.more ≡ callees_of calls k =
    c.in_ok-more.ensures ∙ c.as_slice-in-loop-p.ensures ∙ c.index-calls-p.is ∙ get_or_default calls k _ [] (omega (arith, c.loop-p-test.true, c.requires.all)) in
    one_more_filled calls c.args.groups c.args.count k members rows c.loop-p.invariant
    (c.requires.within k (omega (arith, c.loop-p-test.true, c.requires.all))) c.add.new.rows.items c.extend.new.rows.items
    (c.in_ok-add.ensures ∙ (λ i. set members (g i) (get_or members (g i) [] ++ k ∷ [])))
    (c.in_ok-extend.ensures ∙ (λ i. set rows (g i) (get_or rows (g i) [] ++ more i)))

pub returns : goal.returns
returns c =
    let end : c.loop-p.p ≡ length c.args.calls.now = omega (arith, c.loop-p-test.false, c.loop-p.auto.p-end, c.requires.all) in (
      refl,
      subst (λ (x : List (List ℕ)). AreFilled c.args.calls.now c.args.groups c.args.count (length c.args.calls.now) x c.from_vec-2.result) (sym c.from_vec.ensures)
          (subst (λ (x : List (List ℕ)). AreFilled c.args.calls.now c.args.groups c.args.count (length c.args.calls.now) c.loop-p.members.items x) (sym c.from_vec-2.ensures)
          (subst (λ (k : ℕ). AreFilled c.args.calls.now c.args.groups c.args.count k c.loop-p.members.items c.loop-p.rows.items) end c.loop-p.invariant)),
    )
