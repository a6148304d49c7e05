use Rattle.std.proofs.Common.{◌<◌, ◌+◌, [], List, length, drop, get_or, sym, subst, ap, ◌∙◌, arith}
use Rattle.std.proofs.lemmas.List.{get_or_default}
use Rattle.std.proofs.lemmas.List.{drop_more}
use Rattle.std.proofs.lemmas.List.FromFn.{get_or-map-range_with_len, length-map-range_with_len}
use Rattle.path_expr.specs.declared.cell.Cell.{Cell}
use Rattle.transition_formula.specs.Transition.{Transition}
use Rattle.posing.specs.Follows.{Leads}
use Rattle.posing.specs.Posing.{each}
use Rattle.posing.proofs.Following.{leads_none}
use Rattle.posing.proofs.Steps.{each_next, each_fails, value_has}
use Rattle.forward_graphs.specs.Evaluation.{with_node}
use Rattle.forward_graphs.specs.Order.{arrivals}
use Rattle.forward_graphs.specs.UnderWay.{graph_of}
use Rattle.forward_graphs.proofs.CellLaws.{KeepsCells, before-known, cells-begin, with_node-keeps}
use Rattle.forward_graphs.proofs.walking.cells_of.Goals as goal

pub loop-node-init : goal.loop-node-init
loop-node-init g c =
    subst
    (λ (cells : List (Cell Transition)). Leads g.O.Oracle.asking c.args.oracle.now c.args.oracle.now c.args.log.now c.args.log.now
    (each (with_node (graph_of c.args.walks) c.args.walks.source c.args.walks.steps.now) [] c.args.nodes.now)
    (each (with_node (graph_of c.args.walks) c.args.walks.source c.args.walks.steps.now) cells c.args.nodes.now)
    × KeepsCells (graph_of c.args.walks) c.args.walks.source c.args.walks.steps.now c.args.nodes.now cells)
    (sym c.new-cells.ensures) (
      leads_none _ _ _ _,
      subst (λ nodes. KeepsCells (graph_of c.args.walks) c.args.walks.source c.args.walks.steps.now nodes []) (sym c.requires.nodes)
          (cells-begin (graph_of c.args.walks) c.args.walks.source c.requires.source c.args.walks.steps.now c.requires.steps),
    )

pub numbers_to-numbers-requires : goal.numbers_to-numbers-requires
numbers_to-numbers-requires g c =
    let kept = subst (λ nodes. KeepsCells (graph_of c.args.walks) c.args.walks.source c.args.walks.steps.now nodes c.loop-node.cells) (drop_more c.args.nodes.now c.loop-node.node-index 0 c.loop-node-test.true) c.loop-node.invariant.1 in
    let known = before-known (graph_of c.args.walks) c.args.walks.source c.requires.source c.args.walks.steps.now c.requires.steps (get_or c.args.nodes.now c.loop-node.node-index 0)
    (drop (c.loop-node.node-index + 1) c.args.nodes.now) c.loop-node.cells kept in
    subst (λ n. get_or c.args.nodes.now c.loop-node.node-index 0 < n)
    (sym (ap length c.requires.by_target ∙ length-map-range_with_len (arrivals c.args.walks.steps.now) 0 (length c.args.walks.graph.nodes.now))) known.is

pub with_node-requires-clause-before : goal.with_node-requires-clause-before
with_node-requires-clause-before g c =
    let kept = subst (λ nodes. KeepsCells (graph_of c.args.walks) c.args.walks.source c.args.walks.steps.now nodes c.loop-node.cells) (drop_more c.args.nodes.now c.loop-node.node-index 0 c.loop-node-test.true) c.loop-node.invariant.1 in
    before-known (graph_of c.args.walks) c.args.walks.source c.requires.source c.args.walks.steps.now c.requires.steps (get_or c.args.nodes.now c.loop-node.node-index 0)
    (drop (c.loop-node.node-index + 1) c.args.nodes.now) c.loop-node.cells kept

pub with_node-requires-clause-numbers : goal.with_node-requires-clause-numbers
with_node-requires-clause-numbers g c =
    let kept = subst (λ nodes. KeepsCells (graph_of c.args.walks) c.args.walks.source c.args.walks.steps.now nodes c.loop-node.cells) (drop_more c.args.nodes.now c.loop-node.node-index 0 c.loop-node-test.true) c.loop-node.invariant.1 in
    let known = before-known (graph_of c.args.walks) c.args.walks.source c.requires.source c.args.walks.steps.now c.requires.steps (get_or c.args.nodes.now c.loop-node.node-index 0)
    (drop (c.loop-node.node-index + 1) c.args.nodes.now) c.loop-node.cells kept in
    c.numbers_to-numbers.ensures ∙ ap (λ xs. get_or xs (get_or c.args.nodes.now c.loop-node.node-index 0) []) c.requires.by_target
    ∙ get_or-map-range_with_len (arrivals c.args.walks.steps.now) 0 (length c.args.walks.graph.nodes.now) (get_or c.args.nodes.now c.loop-node.node-index 0)
    (get_or c.args.nodes.now c.loop-node.node-index 0) [] known.is (omega arith)

pub returns-in_err-cells : goal.returns-in_err-cells
returns-in_err-cells g c =
    each_fails (with_node (graph_of c.args.walks) c.args.walks.source c.args.walks.steps.now) _ _ c.loop-node.invariant.0 c.loop-node-test.true
    (get_or_default c.args.nodes.now c.loop-node.node-index _ _ c.loop-node-test.true) c.in_err-cells.ensures c.from_residual.ensures.1

pub loop-node-preserved : goal.loop-node-preserved
loop-node-preserved g c =
    let kept = subst (λ nodes. KeepsCells (graph_of c.args.walks) c.args.walks.source c.args.walks.steps.now nodes c.loop-node.cells) (drop_more c.args.nodes.now c.loop-node.node-index 0 c.loop-node-test.true) c.loop-node.invariant.1 in (
      each_next (with_node (graph_of c.args.walks) c.args.walks.source c.args.walks.steps.now) _ _ c.loop-node.invariant.0 c.loop-node-test.true
          (get_or_default c.args.nodes.now c.loop-node.node-index _ _ c.loop-node-test.true) c.in_ok-cells.ensures,
      value_has (KeepsCells (graph_of c.args.walks) c.args.walks.source c.args.walks.steps.now (drop (c.loop-node.node-index + 1) c.args.nodes.now)) c.in_ok-cells.ensures
          (with_node-keeps (graph_of c.args.walks) c.args.walks.source c.requires.source c.args.walks.steps.now c.requires.steps (get_or c.args.nodes.now c.loop-node.node-index 0)
          (drop (c.loop-node.node-index + 1) c.args.nodes.now) c.loop-node.cells kept),
    )
