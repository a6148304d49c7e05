use Rattle.std.proofs.Common.{◌≡◌, ◌<◌, ◌^◌, ◌∙◌, Ok, Err, ap, length, sym, subst}
use Rattle.std.specs.Prelude.{Result, IfOk}
use Rattle.posing.specs.declared.log.Log.{Log}
use Rattle.posing.specs.Logs.{loss_notes, with_notes}
use Rattle.posing.proofs.Steps.{in_other_words, notes_first}
use Rattle.checked_tree.specs.Evaluation.{evaluated_cells}
use Rattle.checked_tree.specs.Graph.{graph_of}
use Rattle.checked_tree.specs.Grown.{AreGrown, formulas_of, trees_of}
use Rattle.checked_tree.specs.Law.{AreFittedCells, CellsHold, IsEvaluated}
use Rattle.proc_summary.specs.Claims.{HoldsOfWalks}
use Rattle.proc_summary.specs.Flow.{cells_from}
use Rattle.proc_summary.specs.Parts.{graph_of_parts}
use Rattle.proc_summary.specs.Subject.{graph_by, subject_of}
use Rattle.proc_summary.proofs.CratesBelow.{some_at}
use Rattle.proc_summary.proofs.Graphs.{few-links, few-nodes, graph-made, parts-evaluated, parts-hold}
use Rattle.proc_summary.proofs.nodes.trees_in.Goals as goal

pub evaluate-requires-clause-graph : goal.evaluate-requires-clause-graph
evaluate-requires-clause-graph g c =
    let there = some_at c.args.own.program.now.procs c.args.own.proc c.requires.own.procedure in
    let same : graph_of c.as_slice-2.result.now c.as_slice-3.result.now c.as_slice-4.result.now ≡ graph_of_parts c.in_ok-parts.parts =
    λ i. record { links = c.as_slice-2.ensures i; leaves = c.as_slice-3.ensures i; nodes = c.as_slice-4.ensures i } in
    subst (λ h. IsEvaluated h c.args.source) (sym same)
    (parts-evaluated c.args.own.program.now c.args.own.proc there.0 c.args.own.known.now there.1 c.args.own.graph.now c.requires.own.graph c.in_ok-parts.parts (c.in_ok-parts.ensures.made there.0 there.1) c.requires.own.formed c.requires.own.known c.in_ok-parts.ensures.fit c.args.source c.requires.source)

pub evaluate-requires-clause-few_links : goal.evaluate-requires-clause-few_links
evaluate-requires-clause-few_links g c =
    let there = some_at c.args.own.program.now.procs c.args.own.proc c.requires.own.procedure in
    subst (λ links. length links < 2 ^ 32) (sym c.as_slice-2.ensures)
    (few-links c.args.own.program.now c.args.own.proc there.0 c.args.own.known.now there.1 c.args.own.graph.now c.requires.own.graph c.in_ok-parts.parts (c.in_ok-parts.ensures.made there.0 there.1) c.requires.own.formed)

pub evaluate-requires-clause-few_nodes : goal.evaluate-requires-clause-few_nodes
evaluate-requires-clause-few_nodes g c =
    let there = some_at c.args.own.program.now.procs c.args.own.proc c.requires.own.procedure in
    subst (λ nodes. length nodes < 2 ^ 32) (sym c.as_slice-4.ensures)
    (few-nodes c.args.own.program.now c.args.own.proc there.0 c.args.own.known.now there.1 c.args.own.graph.now c.requires.own.graph c.in_ok-parts.parts (c.in_ok-parts.ensures.made there.0 there.1) c.requires.own.formed)

pub returns-clause-follows : goal.returns-clause-follows
unfolding cells_from
returns-clause-follows g c = λ p is.
    let made = c.in_ok-parts.ensures.made p is in
    let same : graph_of c.as_slice-2.result.now c.as_slice-3.result.now c.as_slice-4.result.now ≡ graph_of_parts c.in_ok-parts.parts =
    λ i. record { links = c.as_slice-2.ensures i; leaves = c.as_slice-3.ensures i; nodes = c.as_slice-4.ensures i } in
    notes_first c.in_ok-add_losses.ensures (ap loss_notes (c.as_slice.ensures ∙ made.lost))
    (in_other_words (ap (λ h. evaluated_cells h c.args.source) (same ∙ graph-made c.args.own.program.now c.args.own.proc p c.args.own.known.now is c.args.own.graph.now c.requires.own.graph c.in_ok-parts.parts made)) c.evaluate.ensures.follows)

pub returns-clause-grown : goal.returns-clause-grown
returns-clause-grown g c = λ p is.
    let made = c.in_ok-parts.ensures.made p is in
    let same : graph_of c.as_slice-2.result.now c.as_slice-3.result.now c.as_slice-4.result.now ≡ graph_of_parts c.in_ok-parts.parts =
    λ i. record { links = c.as_slice-2.ensures i; leaves = c.as_slice-3.ensures i; nodes = c.as_slice-4.ensures i } in
    let noted = c.in_ok-add_losses.ensures.is ∙ ap (λ lost. with_notes c.args.log.now (loss_notes lost)) (c.as_slice.ensures ∙ made.lost) in
    subst (λ (log : Log). IfOk c.evaluate.result (λ cells. AreGrown (graph_by (subject_of c.args.own.program.now p c.args.own.known.now)) c.args.source log c.evaluate.new.log (trees_of cells))) noted
    (subst (λ h. IfOk c.evaluate.result (λ cells. AreGrown h c.args.source c.add_losses.new.self c.evaluate.new.log (trees_of cells)))
    (same ∙ graph-made c.args.own.program.now c.args.own.proc p c.args.own.known.now is c.args.own.graph.now c.requires.own.graph c.in_ok-parts.parts made) c.evaluate.ensures.grown)

pub returns-clause-fits : goal.returns-clause-fits
returns-clause-fits g c = λ p is.
    let made = c.in_ok-parts.ensures.made p is in
    let same : graph_of c.as_slice-2.result.now c.as_slice-3.result.now c.as_slice-4.result.now ≡ graph_of_parts c.in_ok-parts.parts =
    λ i. record { links = c.as_slice-2.ensures i; leaves = c.as_slice-3.ensures i; nodes = c.as_slice-4.ensures i } in
    subst (λ h. IfOk c.evaluate.result (λ cells. AreFittedCells h c.args.source (formulas_of cells)))
    (same ∙ graph-made c.args.own.program.now c.args.own.proc p c.args.own.known.now is c.args.own.graph.now c.requires.own.graph c.in_ok-parts.parts made) c.evaluate.ensures.fits

if_ok-more : {A E : Type 0} (P Q : A → Type 0) (r : Result A E) → ((x : A) → P x → Q x) → IfOk r P → IfOk r Q
if_ok-more P Q (Ok x) more h = more x h
if_ok-more P Q (Err e) more h = tt

pub returns-clause-holds : goal.returns-clause-holds
returns-clause-holds g c = λ p is.
    let made = c.in_ok-parts.ensures.made p is in
    let same : graph_of c.as_slice-2.result.now c.as_slice-3.result.now c.as_slice-4.result.now ≡ graph_of_parts c.in_ok-parts.parts =
    λ i. record { links = c.as_slice-2.ensures i; leaves = c.as_slice-3.ensures i; nodes = c.as_slice-4.ensures i } in
    if_ok-more (λ cells. CellsHold (graph_of c.as_slice-2.result.now c.as_slice-3.result.now c.as_slice-4.result.now) c.args.source (formulas_of cells))
    (λ cells. HoldsOfWalks c.args.own.program.now p c.args.own.known.now c.args.source (formulas_of cells)) c.evaluate.result
    (λ cells hold. parts-hold c.args.own.program.now c.args.own.proc p c.args.own.known.now is c.args.own.graph.now c.requires.own.graph c.in_ok-parts.parts made c.requires.own.formed c.requires.own.known c.in_ok-parts.ensures.fit c.args.source c.requires.source (formulas_of cells)
    (subst (λ h. CellsHold h c.args.source (formulas_of cells)) same hold)) c.evaluate.ensures.holds
