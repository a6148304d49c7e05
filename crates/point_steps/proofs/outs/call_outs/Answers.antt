use Rattle.std.proofs.Common.{◌<◌, ap, sym, subst, ◌∙◌}
use Rattle.std.proofs.lemmas.List.Elements.{recursion_from_All}
use Rattle.transition_formula.proofs.Loops.{all_gathered, one_gathered}
use Rattle.flow_graph.specs.declared.parts.Edge.{Edge}
use Rattle.flow_graph.specs.Plain.{arc_of, statement_of_act}
use Rattle.leaf_cases.specs.Conditions.{columns_in}
use Rattle.syntax_tree.specs.WellFormed.{width_of}
use Rattle.context.specs.Made.{IsCallFit}
use Rattle.context.proofs.CallEdges.{calls-fit}
use Rattle.context.proofs.PlaceColumns.{got}
use Rattle.point_steps.specs.Parts.{outs_by_edge}
use Rattle.point_steps.proofs.Carrying.{each-at}
use Rattle.point_steps.proofs.Loops.{flat_map-mapped}
use Rattle.point_steps.proofs.outs.call_outs.Goals as goal

pub add_edge-requires-clause-call : goal.add_edge-requires-clause-call
add_edge-requires-clause-call c =
    let source = c.args.source in
    let there = got source.program.now.procs source.proc c.requires.procedure in
    subst (λ n. IsCallFit n (statement_of_act c.edge-item.result.act)) (sym (ap (columns_in source.program.now) there.1))
    (each-at (λ (edge : Edge). IsCallFit (width_of source.program.now there.0) (statement_of_act edge.act)) c.as_slice-edge-items.result.now source.graph.now.edges c.loop-edge.edge-index c.edge-item.result
    (recursion_from_All (λ (edge : Edge). IsCallFit (width_of source.program.now there.0) (statement_of_act edge.act)) source.graph.now.edges (calls-fit source.program.now source.proc there.0 there.1 source.graph.now c.requires.graph.same c.requires.formed)) c.as_slice-edge-items.ensures c.loop-edge-test.true c.edge-item.is)

pub add_edge-requires-clause-there : goal.add_edge-requires-clause-there
add_edge-requires-clause-there c =
    let source = c.args.source in
    (each-at (λ (edge : Edge). (edge.from < source.graph.now.nodes) × (edge.to < source.graph.now.nodes)) c.as_slice-edge-items.result.now source.graph.now.edges c.loop-edge.edge-index c.edge-item.result
    (recursion_from_All (λ (edge : Edge). (edge.from < source.graph.now.nodes) × (edge.to < source.graph.now.nodes)) source.graph.now.edges c.requires.graph.edges) c.as_slice-edge-items.ensures c.loop-edge-test.true c.edge-item.is).0

pub loop-edge-preserved : goal.loop-edge-preserved
loop-edge-preserved c =
    one_gathered (λ edge. outs_by_edge c.args.source (arc_of edge)) c.as_slice-edge-items.result.now c.loop-edge.edge-index c.edge-item.result c.loop-edge.outs c.add_edge.new.outs c.loop-edge-test.true c.edge-item.is c.in_ok-add_edge.ensures
    ∙ c.loop-edge.invariant

pub returns : goal.returns
returns c =
    all_gathered (λ edge. outs_by_edge c.args.source (arc_of edge)) c.as_slice-edge-items.result.now c.loop-edge.edge-index c.loop-edge.outs _ c.loop-edge-test.false c.loop-edge.invariant
    ∙ sym (flat_map-mapped (outs_by_edge c.args.source) arc_of c.args.source.graph.now.edges)
