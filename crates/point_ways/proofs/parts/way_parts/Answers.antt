use Rattle.std.proofs.Common.{◌≡◌, List, Bool, map, ap, subst, ◌∙◌, ◌++◌}
use Rattle.std.specs.List.{AllByRecursion, flat_map}
use Rattle.checked_tree.specs.Graph.{graph_of}
use Rattle.flow_graph.specs.Plain.{plain}
use Rattle.proc_summary.specs.Parts.{IsFit, edge_leaf, losses_in_edge}
use Rattle.point_ways.specs.Parts.{end_link, marked_edges, way_ends}
use Rattle.point_ways.specs.Ways.{marks_ahead}
use Rattle.point_ways.proofs.WayGraphs.{few-nodes, leaves-are, links-are, losses-are, vocabularies-are}
use Rattle.point_ways.proofs.parts.way_parts.Goals as goal

pub head_marks-requires : goal.head_marks-requires
head_marks-requires c = c.requires.graph.edges

pub marks_ahead-requires-clause-inside : goal.marks_ahead-requires-clause-inside
marks_ahead-requires-clause-inside c = c.requires.graph.edges

pub way_links-requires-clause-inside : goal.way_links-requires-clause-inside
way_links-requires-clause-inside c = c.requires.graph.edges

pub way_links-requires-clause-few : goal.way_links-requires-clause-few
way_links-requires-clause-few c = few-nodes c.args.own.program.now c.args.own.proc c.args.own.graph.now c.requires.formed c.requires.procedure c.requires.graph

pub returns : goal.returns
returns c = λ p is.
    let own = c.args.own in
    let g = own.graph.now in
    let known = own.known.now in
    let program = own.program.now in
    let leaf = edge_leaf program own.proc known in
    let losses = losses_in_edge program own.proc known in
    let for_leaves : c.as_slice-2.result.now ≡ marks_ahead (plain g).arcs c.args.source g.nodes = c.as_slice-2.ensures ∙ c.in_ok-ahead.ensures in
    let for_links : c.as_slice-4.result.now ≡ marks_ahead (plain g).arcs c.args.source g.nodes = c.as_slice-4.ensures ∙ c.in_ok-ahead.ensures in
    let links =
    c.in_ok-links.ensures ∙ ap (λ (marks : List Bool). map (end_link (way_ends (plain g))) (marked_edges marks g.edges)) for_links ∙ links-are program own.proc p known is g c.requires.graph c.args.source in
    let leaves =
    c.in_ok-leaves.ensures.made ∙ ap (λ (marks : List Bool). map leaf (marked_edges marks g.edges)) for_leaves ∙ leaves-are program own.proc p known is g c.requires.graph c.args.source in
    let nodes = c.in_ok-nodes.ensures p is ∙ vocabularies-are program own.proc p known is g c.requires.graph c.args.source in
    record {
      graph = λ i. graph_of (links i) (leaves i) (nodes i);
      lost =
          c.in_ok-leaves.ensures.noted
          ∙ ap (λ front. front ++ flat_map losses (marked_edges c.as_slice-2.result.now g.edges)) c.new-lost.ensures
          ∙ ap (λ (marks : List Bool). flat_map losses (marked_edges marks g.edges)) for_leaves
          ∙ losses-are program own.proc p known is g c.requires.graph c.args.source;
      fit = subst (AllByRecursion IsFit) c.as_slice-5.ensures c.see_fit.ensures;
    }
