use Rattle.std.proofs.Common.{◌≡◌, ◌≤◌, ◌<◌, ℕ, Bool, List, [], length, get_or, set, ◌++◌, ◌∷◌, ap, refl, sym, subst, arith, ◌∙◌, false}
use Rattle.std.proofs.lemmas.List.{get_or_default}
use Rattle.std.specs.Ordering.{nat_cmp}
use Rattle.std.specs.BTreeSet.{insert_key}
use Rattle.flow_graph.specs.Components.{group_at}
use Rattle.flow_graph.specs.Turns.{group, stage_of, row_of, flag, IsBlocked}
use Rattle.flow_graph.proofs.Settling.{blocked_as, on_ok, settled_ready, settled_waits}
use Rattle.flow_graph.proofs.turns.Order.settle.Goals as goal

pub returns-then-at-row : goal.returns-then-at-row
returns-then-at-row c =
    let plan = c.args.plan.now in
    let s = stage_of c.args.self.now in
    let g = c.args.group in
    let at = c.next_open_place-at.result in
    let late : flag s.come g ≡ false = ap (λ (xs : List Bool). flag xs g) (sym c.deref.ensures.value) ∙ sym c.flag.ensures ∙ c.if-flag.false in
    let next : c.index.result.now ≡ get_or s.next g 0 = c.index.ensures ∙ get_or_default s.next g c.index.result.now 0 c.requires.there in
    let blocked : IsBlocked plan.groups s.come (row_of plan g) g (get_or s.next g 0) at =
    blocked_as _ _ _ _ _ _ g _ _ at c.as_slice-groups.ensures c.deref-2.ensures.value c.row_of-row.ensures next c.next_open_place-at.ensures in
    let stop : at < length (row_of plan g) = subst (λ (xs : List ℕ). at < length xs) c.row_of-row.ensures c.if-at-row.true in
    let to : c.group_at.result ≡ group plan (get_or (row_of plan g) at 0) =
    c.group_at.ensures ∙ (λ i. group_at (c.as_slice-groups.ensures i) (get_or (c.row_of-row.ensures i) at 0)) in
    on_ok _ _ c.wait.result
    (λ put. settled_waits plan s g at c.requires.past c.requires.there late blocked c.requires.within stop c.wait.new.waiting.items
    (put ∙ (λ i. set s.waiting (to i) (get_or s.waiting (to i) [] ++ g ∷ []))))
    c.wait.ensures

pub returns-in_ok-insert : goal.returns-in_ok-insert
returns-in_ok-insert c =
    let plan = c.args.plan.now in
    let s = stage_of c.args.self.now in
    let g = c.args.group in
    let at = c.next_open_place-at.result in
    let late : flag s.come g ≡ false = ap (λ (xs : List Bool). flag xs g) (sym c.deref.ensures.value) ∙ sym c.flag.ensures ∙ c.if-flag.false in
    let next : c.index.result.now ≡ get_or s.next g 0 = c.index.ensures ∙ get_or_default s.next g c.index.result.now 0 c.requires.there in
    let blocked : IsBlocked plan.groups s.come (row_of plan g) g (get_or s.next g 0) at =
    blocked_as _ _ _ _ _ _ g _ _ at c.as_slice-groups.ensures c.deref-2.ensures.value c.row_of-row.ensures next c.next_open_place-at.ensures in
    let end : length (row_of plan g) ≤ at = subst (λ (xs : List ℕ). length xs ≤ at) c.row_of-row.ensures (omega (arith, c.if-at-row.false)) in
    settled_ready plan s g at c.requires.past c.requires.there late blocked c.args.self.now.ready.keys c.insert.new.self.keys refl
    (c.in_ok-insert.ensures.keys ∙ ap (insert_key nat_cmp c.args.self.now.ready.keys) c.first_of.ensures) end
