use Rattle.std.proofs.Common.{◌++◌, ap, ◌∙◌, map, replicate}
use Rattle.std.specs.List.{flat_map}
use Rattle.vocabularies.specs.Ends.{full_of}
use Rattle.proc_summary.specs.Parts.{edge_leaf, edge_link, losses_in_edge}
use Rattle.proc_summary.proofs.Graphs.{acts-are, leaves-are, links-are, losses-are, nodes-are}
use Rattle.proc_summary.proofs.edges.parts_of.Goals as goal

pub leaves_of-requires-clause-acts : goal.leaves_of-requires-clause-acts
leaves_of-requires-clause-acts c = acts-are c.args.own.program.now c.args.own.proc c.args.own.graph.now c.requires.graph c.as_slice-edges.result.now c.as_slice-edges.ensures

pub returns-clause-made : goal.returns-clause-made
returns-clause-made c = λ p is.
    let program = c.args.own.program.now in
    let known = c.args.own.known.now in
    record {
      links = c.in_ok-links.ensures ∙ ap (map edge_link) c.as_slice-edges.ensures ∙ links-are program c.args.own.proc p known is c.args.own.graph.now c.requires.graph;
      leaves = c.in_ok-leaves.ensures.made ∙ ap (map (edge_leaf program c.args.own.proc known)) c.as_slice-edges.ensures ∙ leaves-are program c.args.own.proc p known is c.args.own.graph.now c.requires.graph;
      lost = c.in_ok-leaves.ensures.noted ∙ ap (λ front. front ++ flat_map (losses_in_edge program c.args.own.proc known) c.as_slice-edges.result.now) c.new-lost.ensures ∙ ap (flat_map (losses_in_edge program c.args.own.proc known)) c.as_slice-edges.ensures ∙ losses-are program c.args.own.proc p known is c.args.own.graph.now c.requires.graph;
      nodes = c.in_ok-nodes.ensures p is ∙ (λ i. replicate (nodes-are program c.args.own.proc p known is c.args.own.graph.now c.requires.graph i) (full_of program p));
    }
