use mathlib.Core.Path.{transport}
use Rattle.std.proofs.Common.{◌<◌, ◌^◌, ap, length, refl, sym, subst, ◌∙◌}
use Rattle.posing.specs.Logs.{loss_notes}
use Rattle.posing.specs.Posing.{Always, Done}
use Rattle.posing.proofs.Steps.{at_end, error_first, notes_first, value_first, value_has}
use Rattle.posing.proofs.Following.{stops}
use Rattle.checked_tree.specs.Evaluation.{evaluated_cells}
use Rattle.checked_tree.specs.Graph.{graph_of}
use Rattle.checked_tree.specs.Law.{AreFittedCells, CellsHold, IsEvaluated}
use Rattle.context.specs.declared.edges.Edges.{Edges}
use Rattle.context.specs.Entries.{entries_from, entries_in}
use Rattle.context.proofs.EntryWalks.{NeverOne, few-made, few-made-nodes, graph-made, made-evaluated, made-fit, made-hold, made-never}
use Rattle.context.proofs.entry_formulas.entries.Goals as goal

pub evaluate_formulas-requires-clause-graph : goal.evaluate_formulas-requires-clause-graph
evaluate_formulas-requires-clause-graph g c =
    transport (λ i. IsEvaluated (graph_of (sym c.as_slice-2.ensures i) (sym c.as_slice-3.ensures i) (sym c.as_slice-4.ensures i)) 0)
    (made-evaluated c.args.program.now c.args.flows.now c.requires.formed c.requires.flows c.in_ok-edges.edges c.in_ok-nodes.nodes c.in_ok-edges.ensures c.in_ok-nodes.ensures)

pub evaluate_formulas-requires-clause-few_links : goal.evaluate_formulas-requires-clause-few_links
evaluate_formulas-requires-clause-few_links g c =
    subst (λ links. length links < 2 ^ 32) (sym c.as_slice-2.ensures)
    (few-made c.args.program.now c.args.flows.now c.requires.formed c.requires.flows c.in_ok-edges.edges c.in_ok-nodes.nodes c.in_ok-edges.ensures c.in_ok-nodes.ensures)

pub evaluate_formulas-requires-clause-few_nodes : goal.evaluate_formulas-requires-clause-few_nodes
evaluate_formulas-requires-clause-few_nodes g c =
    subst (λ nodes. length nodes < 2 ^ 32) (sym c.as_slice-4.ensures)
    (few-made-nodes c.args.program.now c.args.flows.now c.requires.formed c.requires.flows c.in_ok-edges.edges c.in_ok-nodes.nodes c.in_ok-edges.ensures c.in_ok-nodes.ensures)

pub returns-clause-follows : goal.returns-clause-follows
unfolding entries_from
returns-clause-follows g c =
    let program = c.args.program.now in
    notes_first c.in_ok-add_losses.ensures (ap loss_notes (c.as_slice.ensures ∙ ap (λ (e : Edges). e.losses) c.in_ok-edges.ensures))
    (value_first (λ cells. Done (entries_in program cells)) c.in_ok-cells.ensures.follows
    ((λ i. evaluated_cells (graph_of (c.as_slice-2.ensures i) (c.as_slice-3.ensures i) (c.as_slice-4.ensures i)) 0)
    ∙ ap (λ h. evaluated_cells h 0) (graph-made program c.args.flows.now c.requires.formed c.requires.flows c.in_ok-edges.edges c.in_ok-nodes.nodes c.in_ok-edges.ensures c.in_ok-nodes.ensures))
    (at_end (c.in_ok-made.ensures ∙ ap (entries_in program) c.as_slice-5.ensures)))

pub returns-clause-fits : goal.returns-clause-fits
returns-clause-fits g c =
    let program = c.args.program.now in
    made-fit program c.args.flows.now c.requires.formed c.requires.flows c.in_ok-edges.edges c.in_ok-nodes.nodes c.in_ok-edges.ensures c.in_ok-nodes.ensures c.in_ok-cells.cells
    (transport (λ i. AreFittedCells (graph_of (c.as_slice-2.ensures i) (c.as_slice-3.ensures i) (c.as_slice-4.ensures i)) 0 c.in_ok-cells.cells) c.in_ok-cells.ensures.fits) c.in_ok-made.made
    (c.in_ok-made.ensures ∙ ap (entries_in program) c.as_slice-5.ensures)
    (value_has NeverOne c.in_ok-cells.ensures.follows
    (transport (λ i. Always NeverOne (evaluated_cells (graph_of (sym c.as_slice-2.ensures i) (sym c.as_slice-3.ensures i) (sym c.as_slice-4.ensures i)) 0))
    (made-never program c.args.flows.now c.requires.formed c.requires.flows c.in_ok-edges.edges c.in_ok-nodes.nodes c.in_ok-edges.ensures c.in_ok-nodes.ensures)))

pub returns-clause-holds : goal.returns-clause-holds
returns-clause-holds g c = λ hold.
    let program = c.args.program.now in
    made-hold program c.args.flows.now c.requires.formed c.requires.flows c.in_ok-edges.edges c.in_ok-nodes.nodes c.in_ok-edges.ensures c.in_ok-nodes.ensures c.in_ok-cells.cells
    (transport (λ i. AreFittedCells (graph_of (c.as_slice-2.ensures i) (c.as_slice-3.ensures i) (c.as_slice-4.ensures i)) 0 c.in_ok-cells.cells) c.in_ok-cells.ensures.fits) c.in_ok-made.made
    (c.in_ok-made.ensures ∙ ap (entries_in program) c.as_slice-5.ensures)
    (transport (λ i. CellsHold (graph_of (c.as_slice-2.ensures i) (c.as_slice-3.ensures i) (c.as_slice-4.ensures i)) 0 c.in_ok-cells.cells) c.in_ok-cells.ensures.holds) hold

pub returns-in_err-cells-clause-follows : goal.returns-in_err-cells-clause-follows
unfolding entries_from
returns-in_err-cells-clause-follows g c =
    let program = c.args.program.now in
    notes_first c.in_ok-add_losses.ensures (ap loss_notes (c.as_slice.ensures ∙ ap (λ (e : Edges). e.losses) c.in_ok-edges.ensures))
    (error_first (λ cells. Done (entries_in program cells)) c.in_err-cells.ensures.follows
    ((λ i. evaluated_cells (graph_of (c.as_slice-2.ensures i) (c.as_slice-3.ensures i) (c.as_slice-4.ensures i)) 0)
    ∙ ap (λ h. evaluated_cells h 0) (graph-made program c.args.flows.now c.requires.formed c.requires.flows c.in_ok-edges.edges c.in_ok-nodes.nodes c.in_ok-edges.ensures c.in_ok-nodes.ensures))
    c.from_residual-in_err-cells.ensures.1)

pub returns-in_err-made-clause-follows : goal.returns-in_err-made-clause-follows
unfolding entries_from
returns-in_err-made-clause-follows g c =
    let program = c.args.program.now in
    notes_first c.in_ok-add_losses.ensures (ap loss_notes (c.as_slice.ensures ∙ ap (λ (e : Edges). e.losses) c.in_ok-edges.ensures))
    (value_first (λ cells. Done (entries_in program cells)) c.in_ok-cells.ensures.follows
    ((λ i. evaluated_cells (graph_of (c.as_slice-2.ensures i) (c.as_slice-3.ensures i) (c.as_slice-4.ensures i)) 0)
    ∙ ap (λ h. evaluated_cells h 0) (graph-made program c.args.flows.now c.requires.formed c.requires.flows c.in_ok-edges.edges c.in_ok-nodes.nodes c.in_ok-edges.ensures c.in_ok-nodes.ensures))
    (stops _ _ _ _ _ _ refl c.from_residual-in_err-made.ensures.1))
