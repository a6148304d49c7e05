-- The ways from a point of a procedure to its nodes and to heads: the edges that start where a path
-- that enters no head leads to, as a graph whose links all lead forward. An edge to a head leads to
-- the head's arrival, a node of its own behind the nodes of the flow graph.
use Rattle.std.specs.Prelude.{◌≡◌, ◌==◌, ◌&&◌, ◌||◌, ◌+◌, not, if◌then◌else◌, ℕ, zero, suc, Bool, false, Option, Some, List, [], ◌∷◌, ◌++◌, get_or, length, map, replicate, slice_get}
use Rattle.std.specs.List.{filter, flat_map, list_any, range_with_len}
use Rattle.path_expr.specs.declared.cell.Cell.{Cell}
use Rattle.path_expr.specs.declared.link.Link.{Link}
use Rattle.syntax_tree.specs.declared.program.Proc.{Proc}
use Rattle.syntax_tree.specs.declared.program.Program.{Program}
use Rattle.transition_formula.specs.declared.loss.Loss.{Loss}
use Rattle.transition_formula.specs.Transition.{Transition}
use Rattle.posing.specs.Logs.{loss_notes}
use Rattle.posing.specs.Posing.{Posing, Noted}
use Rattle.flow_graph.specs.FlowGraph.{Arc, FlowGraph}
use Rattle.vocabularies.specs.Ends.{full_of}
use Rattle.checked_tree.specs.Graph.{Graph, graph_of}
use Rattle.forward_graphs.specs.Evaluation.{walk_cells}
use Rattle.proc_summary.specs.Subject.{arc_leaf, losses_in_arc, own_graph}
use Rattle.point_induction.specs.Points.{heads_of, is_head}

-- ---- the nodes ahead of a source

-- A path of edges, told by their places, leads from a node to a node and enters no head.
abbrev pub LeadsAhead : List Arc → ℕ → List ℕ → ℕ → Type 0
LeadsAhead arcs from [] to = from ≡ to
LeadsAhead arcs from (edge ∷ path) to =
    (way : Arc) × (slice_get arcs edge ≡ Some way) × (way.from ≡ from)
    × (is_head arcs way.to ≡ false) × LeadsAhead arcs way.to path to

-- the edge ends at the node, and starts at a node that is marked
abbrev pub leads_from_marked : List Bool → ℕ → Arc → Bool
leads_from_marked marks node way = way.to == node && get_or marks way.from false

-- A node is ahead of a source if it is the source, or if it is no head and an edge leads to it from
-- a node ahead. Such an edge leads forward, so the marks of the lower nodes decide.
abbrev pub is_led_to : List Arc → ℕ → List Bool → ℕ → Bool
is_led_to arcs source lower node =
    node == source || (not (is_head arcs node) && list_any (leads_from_marked lower node) arcs)

-- for each node below a number, from node 0 on, whether it is ahead of a source
unfoldable pub marks_ahead : List Arc → ℕ → ℕ → List Bool
marks_ahead arcs source zero = []
marks_ahead arcs source (suc n) =
    marks_ahead arcs source n ++ is_led_to arcs source (marks_ahead arcs source n) n ∷ []

-- whether a node is ahead of a source
abbrev pub is_ahead : FlowGraph → ℕ → ℕ → Bool
is_ahead graph source node = get_or (marks_ahead graph.arcs source graph.nodes) node false

-- ---- arrivals at heads

-- how many heads are lower than a node
abbrev pub head_rank : FlowGraph → ℕ → ℕ
head_rank graph node = length (filter (is_head graph.arcs) (range_with_len 0 node))

-- The node at which ways arrive at a head. Arrivals stand behind the nodes of the graph, in the
-- order of the heads.
abbrev pub arrival_node : FlowGraph → ℕ → ℕ
arrival_node graph head = graph.nodes + head_rank graph head

-- the node to which a way leads by an edge to a node: a head's arrival in place of the head
abbrev pub way_end : FlowGraph → ℕ → ℕ
way_end graph node = if is_head graph.arcs node then arrival_node graph node else node

-- ---- the ways as a graph

-- the edges that start at nodes ahead of a source, in their order
abbrev pub way_arcs : FlowGraph → ℕ → List Arc
way_arcs graph source = filter (λ way. is_ahead graph source way.from) graph.arcs

-- the two nodes of an edge among the nodes and the arrivals
abbrev pub way_link : FlowGraph → Arc → Link
way_link graph way = record { from = way.from; to = way_end graph way.to }

-- the graph of the ways from a source, by the known formulas of procedures
abbrev pub way_graph : Program → Proc → List (Option Transition) → ℕ → Graph
way_graph program p known source =
    graph_of (map (way_link (own_graph p)) (way_arcs (own_graph p) source))
    (map (arc_leaf program p known) (way_arcs (own_graph p) source))
    (replicate ((own_graph p).nodes + length (heads_of (own_graph p))) (full_of program p))

-- what was lost where the formulas of its edges were made, in order
abbrev pub losses_on_ways : Program → Proc → List (Option Transition) → ℕ → List Loss
losses_on_ways program p known source =
    flat_map (losses_in_arc program p known) (way_arcs (own_graph p) source)

-- what stands at each node and each arrival: losses are noted before the first question
unfoldable pub ways_from : Program → Proc → List (Option Transition) → ℕ
    → Posing (List (Cell Transition))
ways_from program p known source =
    Noted (loss_notes (losses_on_ways program p known source))
    (walk_cells (way_graph program p known source) source)
