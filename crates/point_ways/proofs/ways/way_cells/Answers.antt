use Rattle.std.proofs.Common.{◌≡◌, ap, subst, sym, ◌∙◌}
use Rattle.std.specs.Prelude.{IfOk}
use Rattle.std.proofs.lemmas.Result.{IfOk-weaker}
use Rattle.posing.specs.Logs.{loss_notes}
use Rattle.posing.proofs.Steps.{in_other_words, notes_first}
use Rattle.checked_tree.specs.Graph.{Graph, graph_of}
use Rattle.forward_graphs.specs.Evaluation.{walk_cells}
use Rattle.forward_graphs.specs.Law.{AreFittedCells, CellsHold, IsForward}
use Rattle.proc_summary.proofs.CratesBelow.{some_at}
use Rattle.point_ways.specs.Claims.{WaysHold}
use Rattle.point_ways.specs.Parts.{own_ways}
use Rattle.point_ways.specs.Ways.{ways_from}
use Rattle.point_ways.proofs.WayGraphs.{own-forward, own-hold}
use Rattle.point_ways.proofs.ways.way_cells.Goals as goal

pub walk_cells-requires : goal.walk_cells-requires
walk_cells-requires g c =
    let there = some_at c.args.own.program.now.procs c.args.own.proc c.requires.own.procedure in
    let made = c.in_ok-parts.ensures there.0 there.1 in
    let same : graph_of c.as_slice-2.result.now c.as_slice-3.result.now c.as_slice-4.result.now ≡ own_ways c.args.own there.0 c.args.source =
    (λ i. graph_of (c.as_slice-2.ensures i) (c.as_slice-3.ensures i) (c.as_slice-4.ensures i)) ∙ made.graph in
    subst (λ (h : Graph). IsForward h c.args.source) (sym same)
    (own-forward c.args.own there.0 there.1 c.requires.own c.args.source c.in_ok-parts.parts made c.requires.source)

pub returns-clause-follows : goal.returns-clause-follows
unfolding ways_from
returns-clause-follows g c = λ p is.
    let made = c.in_ok-parts.ensures p is in
    let same : graph_of c.as_slice-2.result.now c.as_slice-3.result.now c.as_slice-4.result.now ≡ own_ways c.args.own p c.args.source =
    (λ i. graph_of (c.as_slice-2.ensures i) (c.as_slice-3.ensures i) (c.as_slice-4.ensures i)) ∙ made.graph in
    notes_first c.in_ok-add_losses.ensures (ap loss_notes (c.as_slice.ensures ∙ made.lost))
    (in_other_words (ap (λ (h : Graph). walk_cells h c.args.source) same) c.walk_cells.ensures.follows)

pub returns-clause-fits : goal.returns-clause-fits
returns-clause-fits g c = λ p is.
    let made = c.in_ok-parts.ensures p is in
    let same : graph_of c.as_slice-2.result.now c.as_slice-3.result.now c.as_slice-4.result.now ≡ own_ways c.args.own p c.args.source =
    (λ i. graph_of (c.as_slice-2.ensures i) (c.as_slice-3.ensures i) (c.as_slice-4.ensures i)) ∙ made.graph in
    subst (λ (h : Graph). IfOk c.walk_cells.result (AreFittedCells h c.args.source)) same c.walk_cells.ensures.fits

pub returns-clause-holds : goal.returns-clause-holds
returns-clause-holds g c = λ p is.
    let made = c.in_ok-parts.ensures p is in
    let same : graph_of c.as_slice-2.result.now c.as_slice-3.result.now c.as_slice-4.result.now ≡ own_ways c.args.own p c.args.source =
    (λ i. graph_of (c.as_slice-2.ensures i) (c.as_slice-3.ensures i) (c.as_slice-4.ensures i)) ∙ made.graph in
    IfOk-weaker c.walk_cells.result (CellsHold (own_ways c.args.own p c.args.source) c.args.source) (WaysHold c.args.own.program.now p c.args.own.known.now c.args.source)
    (λ cells hold. own-hold c.args.own p is c.requires.own c.args.source c.in_ok-parts.parts made c.requires.source cells hold)
    (subst (λ (h : Graph). IfOk c.walk_cells.result (CellsHold h c.args.source)) same c.walk_cells.ensures.holds)
