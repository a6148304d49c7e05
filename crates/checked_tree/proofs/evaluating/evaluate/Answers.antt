use Rattle.std.specs.Prelude.{map}
use Rattle.std.specs.Rc.{rc_value}
use Rattle.std.proofs.Common.{◌<◌, refl, sym, subst, ap, ◌∙◌}
use Rattle.path_expr.specs.Walks.{IsGraph}
use Rattle.posing.specs.Posing.{Done}
use Rattle.posing.proofs.Steps.{in_other_words, value_first, at_end}
use Rattle.checked_tree.specs.ByNumber.{cell_by, evaluated_cells_by}
use Rattle.checked_tree.specs.Grown.{formulas_of}
use Rattle.checked_tree.specs.Growing.{tree_cell, AreGrownCells}
use Rattle.checked_tree.proofs.GrownCells.{formulas-same, grown-hold, grown-fit}
use Rattle.checked_tree.proofs.LogGains.{wanting, first_fails}
use Rattle.checked_tree.proofs.ReadyPlans.{plan-ready, plan-growing, plan-evaluated, plan-cells, plan-grown}
use Rattle.checked_tree.proofs.evaluating.evaluate.Goals as goal

pub elimination_plan-requires-clause-graph : goal.elimination_plan-requires-clause-graph
elimination_plan-requires-clause-graph g c = subst (λ n. IsGraph n c.args.links.now) (sym c.count_of-count.ensures) c.requires.graph.graph

pub elimination_plan-requires-clause-source : goal.elimination_plan-requires-clause-source
elimination_plan-requires-clause-source g c = subst (λ n. c.args.source < n) (sym c.count_of-count.ensures) c.requires.graph.source_is

pub returns-in_err-shared-clause-follows : goal.returns-in_err-shared-clause-follows
returns-in_err-shared-clause-follows g c = wanting c.from_residual.result formulas_of c.from_residual.ensures.1

pub returns-in_err-plan-clause-follows : goal.returns-in_err-plan-clause-follows
returns-in_err-plan-clause-follows g c = wanting c.from_residual-in_err-plan.result formulas_of c.from_residual-in_err-plan.ensures.1

pub growths_of-requires : goal.growths_of-requires
growths_of-requires g c =
    let ready = plan-ready (ap (map rc_value) c.as_slice-nodes.ensures ∙ c.in_ok-shared.ensures) c.count_of-count.ensures c.as_slice-keys.ensures.keys
    c.as_slice-keys.ensures.unique c.as_slice-order.ensures c.as_slice-places.ensures.value c.in_ok-plan.ensures c.requires.graph c.see_leaves.ensures in
    record { source = c.args.source; start = c.args.log.now; growing = plan-growing ready c.args.log.now }

pub cells_by-requires : goal.cells_by-requires
cells_by-requires g c =
    let ready = plan-ready (ap (map rc_value) c.as_slice-nodes.ensures ∙ c.in_ok-shared.ensures) c.count_of-count.ensures c.as_slice-keys.ensures.keys
    c.as_slice-keys.ensures.unique c.as_slice-order.ensures c.as_slice-places.ensures.value c.in_ok-plan.ensures c.requires.graph c.see_leaves.ensures in
    let all = c.in_ok-growths.ensures.grown c.args.source c.args.log.now (plan-growing ready c.args.log.now) in
    subst (λ made. AreGrownCells made c.as_slice-places.result.now) (sym c.as_slice.ensures) (plan-cells ready all)

pub returns-in_err-growths-clause-follows : goal.returns-in_err-growths-clause-follows
unfolding evaluated_cells_by
returns-in_err-growths-clause-follows g c =
    let ready = plan-ready (ap (map rc_value) c.as_slice-nodes.ensures ∙ c.in_ok-shared.ensures) c.count_of-count.ensures c.as_slice-keys.ensures.keys
    c.as_slice-keys.ensures.unique c.as_slice-order.ensures c.as_slice-places.ensures.value c.in_ok-plan.ensures c.requires.graph c.see_leaves.ensures in
    in_other_words (plan-evaluated ready)
    (first_fails c.from_residual-in_err-growths.result formulas_of (λ entries. Done (map (cell_by entries) c.as_slice-places.result.now)) c.in_err-growths.ensures.follows refl c.from_residual-in_err-growths.ensures.1)

pub returns-in_err-made-clause-follows : goal.returns-in_err-made-clause-follows
unfolding evaluated_cells_by
returns-in_err-made-clause-follows g c =
    let ready = plan-ready (ap (map rc_value) c.as_slice-nodes.ensures ∙ c.in_ok-shared.ensures) c.count_of-count.ensures c.as_slice-keys.ensures.keys
    c.as_slice-keys.ensures.unique c.as_slice-order.ensures c.as_slice-places.ensures.value c.in_ok-plan.ensures c.requires.graph c.see_leaves.ensures in
    in_other_words (plan-evaluated ready)
    (value_first (λ entries. Done (map (cell_by entries) c.as_slice-places.result.now)) c.in_ok-growths.ensures.follows refl (wanting c.from_residual-in_err-made.result formulas_of c.from_residual-in_err-made.ensures.1))

pub returns-clause-follows : goal.returns-clause-follows
unfolding evaluated_cells_by
returns-clause-follows g c =
    let ready = plan-ready (ap (map rc_value) c.as_slice-nodes.ensures ∙ c.in_ok-shared.ensures) c.count_of-count.ensures c.as_slice-keys.ensures.keys
    c.as_slice-keys.ensures.unique c.as_slice-order.ensures c.as_slice-places.ensures.value c.in_ok-plan.ensures c.requires.graph c.see_leaves.ensures in
    let made = c.in_ok-made.ensures ∙ (λ i. map (tree_cell (c.as_slice.ensures i)) c.as_slice-places.result.now) in
    in_other_words (plan-evaluated ready)
    (value_first (λ entries. Done (map (cell_by entries) c.as_slice-places.result.now)) c.in_ok-growths.ensures.follows refl
    (at_end (formulas-same c.in_ok-growths.growths c.as_slice-places.result.now c.in_ok-made.made made)))

pub returns-clause-grown : goal.returns-clause-grown
returns-clause-grown g c =
    let ready = plan-ready (ap (map rc_value) c.as_slice-nodes.ensures ∙ c.in_ok-shared.ensures) c.count_of-count.ensures c.as_slice-keys.ensures.keys
    c.as_slice-keys.ensures.unique c.as_slice-order.ensures c.as_slice-places.ensures.value c.in_ok-plan.ensures c.requires.graph c.see_leaves.ensures in
    let all = c.in_ok-growths.ensures.grown c.args.source c.args.log.now (plan-growing ready c.args.log.now) in
    let made = c.in_ok-made.ensures ∙ (λ i. map (tree_cell (c.as_slice.ensures i)) c.as_slice-places.result.now) in
    plan-grown ready all c.in_ok-made.made made

pub returns-clause-holds : goal.returns-clause-holds
returns-clause-holds g c =
    let ready = plan-ready (ap (map rc_value) c.as_slice-nodes.ensures ∙ c.in_ok-shared.ensures) c.count_of-count.ensures c.as_slice-keys.ensures.keys
    c.as_slice-keys.ensures.unique c.as_slice-order.ensures c.as_slice-places.ensures.value c.in_ok-plan.ensures c.requires.graph c.see_leaves.ensures in
    let all = c.in_ok-growths.ensures.grown c.args.source c.args.log.now (plan-growing ready c.args.log.now) in
    let made = c.in_ok-made.ensures ∙ (λ i. map (tree_cell (c.as_slice.ensures i)) c.as_slice-places.result.now) in
    grown-hold _ c.args.source c.requires.graph c.args.log.now c.growths_of.new.log c.in_ok-made.made (plan-grown ready all c.in_ok-made.made made)

pub returns-clause-fits : goal.returns-clause-fits
returns-clause-fits g c =
    let ready = plan-ready (ap (map rc_value) c.as_slice-nodes.ensures ∙ c.in_ok-shared.ensures) c.count_of-count.ensures c.as_slice-keys.ensures.keys
    c.as_slice-keys.ensures.unique c.as_slice-order.ensures c.as_slice-places.ensures.value c.in_ok-plan.ensures c.requires.graph c.see_leaves.ensures in
    let all = c.in_ok-growths.ensures.grown c.args.source c.args.log.now (plan-growing ready c.args.log.now) in
    let made = c.in_ok-made.ensures ∙ (λ i. map (tree_cell (c.as_slice.ensures i)) c.as_slice-places.result.now) in
    grown-fit _ c.args.source c.requires.graph c.args.log.now c.growths_of.new.log c.in_ok-made.made (plan-grown ready all c.in_ok-made.made made)
