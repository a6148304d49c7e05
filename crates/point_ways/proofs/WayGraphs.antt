-- What the code makes is the graph of ways.
use Rattle.std.proofs.Common.{◌≡◌, ℕ, ◌+◌, ◌<◌, ◌≤◌, List, [], Option, map, length, replicate, refl, sym, ap, subst, ◌∙◌, arith}
use Rattle.std.specs.List.{AllByRecursion, flat_map}
use Rattle.std.proofs.lemmas.List.Elements.{All-filter, recursion_from_All}
use Rattle.std.proofs.lemmas.List.FromFn.{get_or-map-range_with_len}
use Rattle.items.proofs.Each.{each-more}
use Rattle.path_expr.specs.declared.cell.Cell.{Cell}
use Rattle.path_expr.specs.Walks.{IsGraph}
use Rattle.syntax_tree.specs.declared.program.Proc.{Proc}
use Rattle.syntax_tree.specs.declared.program.Program.{Program}
use Rattle.syntax_tree.specs.Limits.{most_nodes}
use Rattle.syntax_tree.specs.WellFormed.{IsProcFit, IsWellFormed}
use Rattle.transition_formula.specs.Transition.{Transition}
use Rattle.flow_graph.specs.declared.parts.Edge.{Edge}
use Rattle.flow_graph.specs.declared.parts.Graph.{Graph as MadeGraph}
use Rattle.flow_graph.specs.FlowGraph.{Arc, FlowGraph}
use Rattle.flow_graph.specs.Plain.{arc_of, plain, statement_of_act}
use Rattle.leaf_cases.specs.Edges.{leaf_of, losses_in_leaf}
use Rattle.vocabularies.specs.Ends.{full_of}
use Rattle.vocabularies.specs.Procs.{IsProcOf}
use Rattle.checked_tree.specs.Graph.{Graph}
use Rattle.forward_graphs.specs.Law.{CellsHold, IsForward}
use Rattle.point_induction.specs.Points.{heads_of}
use Rattle.proc_summary.specs.Parts.{IsFit, IsGraphOf, edge_leaf, losses_in_edge}
use Rattle.proc_summary.specs.Subject.{arc_leaf, link_of, losses_in_arc, own_graph}
use Rattle.proc_summary.proofs.CratesBelow.{some_at}
use Rattle.proc_summary.proofs.Graphs.{columns-is, flat-arcs, links-inside, map-arcs, nodes-are, plain-is, proc-fit}
use Rattle.point_induction.specs.Heads.{AreInside}
use Rattle.point_ways.specs.declared.parts.KnownGraph.{KnownGraph}
use Rattle.point_ways.specs.declared.parts.WayParts.{WayParts}
use Rattle.point_ways.specs.Claims.{WaysHold}
use Rattle.point_ways.specs.Parts.{AreWayParts, IsKnownGraph, end_link, marked_edges, own_ways, starts_marked, way_ends}
use Rattle.point_ways.specs.Ways.{is_ahead, losses_on_ways, marks_ahead, way_arcs, way_end, way_graph, way_link}
use Rattle.point_ways.proofs.Choices.{filter-arcs, map-arcs_each}
use Rattle.point_ways.proofs.ForwardWays.{is-forward}
use Rattle.point_ways.proofs.NodeMarks.{rank-most}
use Rattle.point_ways.proofs.WayRuns.{ways-hold}

module _ (g : MadeGraph) (source : ℕ) where
  -- the edges whose starts are marked are those of the ways
  pub edges-chosen : map arc_of (marked_edges (marks_ahead (plain g).arcs source g.nodes) g.edges) ≡ way_arcs (plain g) source
  edges-chosen =
      filter-arcs (starts_marked (marks_ahead (plain g).arcs source g.nodes)) (λ (way : Arc). is_ahead (plain g) source way.from) (λ edge. refl) g.edges

  abbrev IsInside : Edge → Type 0
  IsInside edge = (edge.from < g.nodes) × (edge.to < g.nodes)

  abbrev IsSame : Edge → Type 0
  IsSame edge = end_link (way_ends (plain g)) edge ≡ way_link (plain g) (arc_of edge)

  links-same : (edge : Edge) → IsInside edge → IsSame edge
  links-same edge lt = λ i. record { from = edge.from; to = get_or-map-range_with_len (way_end (plain g)) 0 g.nodes edge.to edge.to 0 lt.1 (omega arith) i }

  pub links-made : AreInside g → map (end_link (way_ends (plain g))) (marked_edges (marks_ahead (plain g).arcs source g.nodes) g.edges) ≡ map (way_link (plain g)) (way_arcs (plain g) source)
  links-made inside =
      let test = starts_marked (marks_ahead (plain g).arcs source g.nodes) in
      let chosen = marked_edges (marks_ahead (plain g).arcs source g.nodes) g.edges in
      map-arcs_each (end_link (way_ends (plain g))) (way_link (plain g)) chosen
      (each-more IsInside IsSame links-same chosen (recursion_from_All IsInside chosen (All-filter test IsInside g.edges inside)))
      ∙ ap (map (way_link (plain g))) edges-chosen

module _ (program : Program) (proc : ℕ) (p : Proc) (known : List (Option Transition)) (is : IsProcOf program proc p) (g : MadeGraph) (of : IsGraphOf program proc g) (source : ℕ) where
  pub links-are : map (end_link (way_ends (plain g))) (marked_edges (marks_ahead (plain g).arcs source g.nodes) g.edges) ≡ (way_graph program p known source).links
  links-are = links-made g source of.edges ∙ ap (λ (f : FlowGraph). map (way_link f) (way_arcs f source)) (plain-is program proc p known is g of)

  pub leaves-are : map (edge_leaf program proc known) (marked_edges (marks_ahead (plain g).arcs source g.nodes) g.edges) ≡ (way_graph program p known source).leaves
  leaves-are =
      map-arcs (edge_leaf program proc known) (arc_leaf program p known)
      (λ edge. λ i. leaf_of (columns-is program proc p known is i) (length program.globals) known (statement_of_act edge.act)) (marked_edges (marks_ahead (plain g).arcs source g.nodes) g.edges)
      ∙ ap (map (arc_leaf program p known)) (edges-chosen g source)
      ∙ ap (λ (f : FlowGraph). map (arc_leaf program p known) (way_arcs f source)) (plain-is program proc p known is g of)

  pub losses-are : flat_map (losses_in_edge program proc known) (marked_edges (marks_ahead (plain g).arcs source g.nodes) g.edges) ≡ losses_on_ways program p known source
  losses-are =
      flat-arcs (losses_in_edge program proc known) (losses_in_arc program p known)
      (λ edge. λ i. losses_in_leaf (columns-is program proc p known is i) (length program.globals) known (statement_of_act edge.act)) (marked_edges (marks_ahead (plain g).arcs source g.nodes) g.edges)
      ∙ ap (flat_map (losses_in_arc program p known)) (edges-chosen g source)
      ∙ ap (λ (f : FlowGraph). flat_map (losses_in_arc program p known) (way_arcs f source)) (plain-is program proc p known is g of)

  pub vocabularies-are : replicate (g.nodes + length (heads_of (plain g))) (full_of program p) ≡ (way_graph program p known source).nodes
  vocabularies-are = ap (λ (f : FlowGraph). replicate (f.nodes + length (heads_of f)) (full_of program p)) (plain-is program proc p known is g of)

pub few-nodes : (program : Program) (proc : ℕ) (g : MadeGraph) → IsWellFormed program → proc < length program.procs → IsGraphOf program proc g → g.nodes ≤ most_nodes
few-nodes program proc g formed lt of =
    let there = some_at program.procs proc lt in
    let fit : IsProcFit program there.0 = proc-fit program proc there.0 formed there.1 in
    subst (λ n. n ≤ most_nodes) (sym (nodes-are program proc there.0 [] there.1 g of)) fit.nodes

pub few-heads : (graph : FlowGraph) → length (heads_of graph) ≤ graph.nodes
few-heads graph = rank-most graph graph.nodes

-- ---- the parts and the graph

module _ (own : KnownGraph) (p : Proc) (is : IsProcOf own.program.now own.proc p) (ready : IsKnownGraph own) (source : ℕ) (parts : WayParts) (made : AreWayParts own p source parts) where
  abbrev program : Program
  program = own.program.now

  inside : IsGraph (own_graph p).nodes (map link_of (own_graph p).arcs)
  inside = links-inside program own.proc p own.known.now is own.graph.now ready.graph

  fit : AllByRecursion IsFit (map (arc_leaf program p own.known.now) (way_arcs (own_graph p) source))
  fit = subst (AllByRecursion IsFit) (ap (λ (g : Graph). g.leaves) made.graph) made.fit

  within-own : source < own.graph.now.nodes → source < (own_graph p).nodes
  within-own lt = subst (λ n. source < n) (nodes-are program own.proc p own.known.now is own.graph.now ready.graph) lt

  pub own-forward : source < own.graph.now.nodes → IsForward (own_ways own p source) source
  own-forward lt = is-forward program own.proc p own.known.now is ready.formed ready.known source inside fit (within-own lt)

  pub own-hold : source < own.graph.now.nodes → (cells : List (Cell Transition)) → CellsHold (own_ways own p source) source cells → WaysHold program p own.known.now source cells
  own-hold lt cells hold = ways-hold program own.proc p own.known.now is ready.formed ready.known source inside fit (within-own lt) cells hold
