use Rattle.std.proofs.Common.{◌≡◌, ℕ, true, List, [], ◌∷◌, ◌++◌, set, ap, sym, subst, arith, ◌∙◌}
use Rattle.std.specs.Prelude.{not}
use Rattle.std.specs.List.{count_by}
use Rattle.flow_graph.specs.declared.grouping.Group.{Group}
use Rattle.flow_graph.specs.Components.{group_at}
use Rattle.flow_graph.specs.Turns.{Going, group, leads_back, members_of, mem, row_of, stage_of, waiters}
use Rattle.flow_graph.proofs.Orders.{Ordered, fewer_late, going_after, late_first, mem_of, ordered_after, ordered_end, ordered_none, taken_is}
use Rattle.flow_graph.proofs.turns.groups_in_order.Goals as goal

pub loop-first-init : goal.loop-first-init
loop-first-init c = subst (Ordered c.args.program.now c.args.plan.now (stage_of c.args.order.now)) (sym c.new-groups.ensures)
    (ordered_none c.args.program.now c.args.plan.now (stage_of c.args.order.now) c.requires.going c.requires.none)

pub wake-requires : goal.wake-requires
wake-requires c =
    let program = c.args.program.now in
    let plan = c.args.plan.now in
    let s = stage_of c.loop-first.order in
    let f = c.in-Some.first in
    let taken = taken_is _ _ f c.in-Some.ensures.removal c.in-Some.ensures.all_above in
    let g : c.group_at-group.result ≡ group plan f = c.group_at-group.ensures ∙ ap (λ (xs : List ℕ). group_at xs f) c.as_slice.ensures in
    subst (λ (k : ℕ). Going program plan (record s { come = set s.come k true; ready = mem c.pop_first.new.self.keys }) (waiters s k)) (sym g)
    (going_after program plan s c.loop-first.groups f (mem c.pop_first.new.self.keys) c.loop-first.invariant taken)

pub loop-first-smaller : goal.loop-first-smaller
loop-first-smaller c =
    let program = c.args.program.now in
    let plan = c.args.plan.now in
    let s = stage_of c.loop-first.order in
    let f = c.in-Some.first in
    let taken = taken_is _ _ f c.in-Some.ensures.removal c.in-Some.ensures.all_above in
    let g : c.group_at-group.result ≡ group plan f = c.group_at-group.ensures ∙ ap (λ (xs : List ℕ). group_at xs f) c.as_slice.ensures in
    let same : c.wake.new.self.come.items ≡ set s.come (group plan f) true = c.in_ok-wake.ensures.1 ∙ ap (λ (k : ℕ). set s.come k true) g in
    let ordered = c.loop-first.invariant in
    let within = ordered.going.plans.within f (ordered.going.stands.ready f taken.had).there in
    let late = late_first program plan s c.loop-first.groups f (mem c.pop_first.new.self.keys) ordered taken in
    let fewer = fewer_late s.come (group plan f) (omega (arith, within, ordered.going.stands.all)) late in
    omega (arith, fewer, ap (count_by not) same)

pub loop-first-preserved : goal.loop-first-preserved
loop-first-preserved c =
    let program = c.args.program.now in
    let plan = c.args.plan.now in
    let s = stage_of c.loop-first.order in
    let f = c.in-Some.first in
    let taken = taken_is _ _ f c.in-Some.ensures.removal c.in-Some.ensures.all_above in
    let g : c.group_at-group.result ≡ group plan f = c.group_at-group.ensures ∙ ap (λ (xs : List ℕ). group_at xs f) c.as_slice.ensures in
    let same : c.wake.new.self.come.items ≡ set s.come (group plan f) true = c.in_ok-wake.ensures.1 ∙ ap (λ (k : ℕ). set s.come k true) g in
    let made : c.in_ok-made.made ≡ record { procs = members_of plan (group plan f); recursive = leads_back plan.groups (group plan f) (row_of plan (group plan f)) } =
    (λ i. record {
      procs = (c.in_ok-made.ensures.0 ∙ ap (members_of plan) g) i;
      recursive = (c.in_ok-made.ensures.1 ∙ ap (λ (k : ℕ). leads_back plan.groups k (row_of plan k)) g) i;
    }) in
    subst (Ordered program plan (stage_of c.wake.new.self)) (sym (c.in_ok-push.ensures.ok ∙ ap (λ (x : Group). c.loop-first.groups ++ x ∷ []) made))
    (ordered_after program plan s c.loop-first.groups f (mem c.pop_first.new.self.keys) c.loop-first.invariant taken (stage_of c.wake.new.self) c.in_ok-wake.ensures.0 same)

pub returns : goal.returns
returns c = ordered_end c.args.program.now c.args.plan.now (stage_of c.loop-first.order) c.loop-first.groups c.loop-first.invariant
    (λ f has. let there = mem_of c.loop-first.order.ready.keys f has in
    let none = c.in_default.ensures.variant.1 (omega (arith, there.1)) in absurd (cc none))
