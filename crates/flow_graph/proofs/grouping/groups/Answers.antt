use Rattle.std.proofs.Common.{ℕ, List, length, subst, sym, ◌∙◌}
use Rattle.flow_graph.specs.Components.{AreComponents}
use Rattle.flow_graph.specs.Plans.{AreFilled, call_lists}
use Rattle.flow_graph.specs.Search.{AreNumbers}
use Rattle.flow_graph.proofs.GroupOrders.{are_numbers, going_first, is_plan}
use Rattle.flow_graph.proofs.grouping.groups.Goals as goal

pub strong_components-requires-clause-numbers : goal.strong_components-requires-clause-numbers
strong_components-requires-clause-numbers c =
    subst (λ (xs : List (List ℕ)). AreNumbers xs (length xs)) (sym (c.as_slice.ensures ∙ c.in_ok-calls.ensures)) (are_numbers c.args.program.now)

pub in_order-requires : goal.in_order-requires
in_order-requires c =
    let program = c.args.program.now in
    let made = c.in_ok-made.made in
    let plan = c.in_ok-plan.plan in
    let components = subst (λ (xs : List (List ℕ)). AreComponents xs made.group_of made.count) (c.as_slice.ensures ∙ c.in_ok-calls.ensures) c.in_ok-made.ensures in
    let same = c.in_ok-plan.ensures.0 in
    let filled = subst (λ (xs : List (List ℕ)). AreFilled xs made.group_of made.count (length xs) plan.members plan.rows)
    (c.as_slice-2.ensures ∙ c.in_ok-calls.ensures) c.in_ok-plan.ensures.1 in
    let own = subst (λ (xs : List ℕ). AreFilled (call_lists program.procs) xs made.count (length (call_lists program.procs)) plan.members plan.rows) (sym same) filled in
    going_first program plan made.group_of made.count components same (is_plan program made.group_of made.count components plan same own)
