-- What the code makes the graph of ways from.
use Rattle.std.specs.Prelude.{◌≡◌, ◌<◌, ◌==◌, ℕ, false, Bool, List, get_or, length, map}
use Rattle.std.specs.List.{AllByRecursion, filter, range_with_len}
use Rattle.flow_graph.specs.declared.parts.Edge.{Edge}
use Rattle.flow_graph.specs.FlowGraph.{Arc, FlowGraph}
use Rattle.path_expr.specs.declared.link.Link.{Link}
use Rattle.syntax_tree.specs.WellFormed.{IsWellFormed}
use Rattle.syntax_tree.specs.declared.program.Proc.{Proc}
use Rattle.checked_tree.specs.Graph.{Graph, graph_of}
use Rattle.leaf_cases.specs.Conditions.{AreKnown}
use Rattle.proc_summary.specs.Parts.{IsFit, IsGraphOf}
use Rattle.point_ways.specs.declared.parts.KnownGraph.{KnownGraph}
use Rattle.point_ways.specs.declared.parts.WayParts.{WayParts}
use Rattle.point_ways.specs.Ways.{losses_on_ways, way_end, way_graph}

-- the nodes at which edges start that end at a node, in the order of the edges
abbrev pub starts_at : List Arc → ℕ → List ℕ
starts_at arcs node = map (λ way. way.from) (filter (λ way. way.to == node) arcs)

-- for each node those nodes
abbrev pub all_starts : List Arc → ℕ → List (List ℕ)
all_starts arcs nodes = map (starts_at arcs) (range_with_len 0 nodes)

-- for each node to which node a way leads by an edge to it
abbrev pub way_ends : FlowGraph → List ℕ
way_ends graph = map (way_end graph) (range_with_len 0 graph.nodes)

-- the edge starts at a node that is marked
abbrev pub starts_marked : List Bool → Edge → Bool
starts_marked marks edge = get_or marks edge.from false

-- the edges that do, in their order
abbrev pub marked_edges : List Bool → List Edge → List Edge
marked_edges marks edges = filter (starts_marked marks) edges

-- an edge of the made graph as a link of the ways, by the ends of nodes
abbrev pub end_link : List ℕ → Edge → Link
end_link ends edge = record { from = edge.from; to = get_or ends edge.to 0 }

-- ---- the graph of a procedure

-- the graph of a procedure of the program, and formulas that fit its procedures
pub record IsKnownGraph (own : KnownGraph) : Type 0 where
  pub formed : IsWellFormed own.program.now
  pub procedure : own.proc < length own.program.now.procs
  pub graph : IsGraphOf own.program.now own.proc own.graph.now
  pub known : AreKnown own.program.now own.known.now

-- the graph of the ways from a source of it
abbrev pub own_ways : KnownGraph → Proc → ℕ → Graph
own_ways own p source = way_graph own.program.now p own.known.now source

-- the parts of the ways from a source of it
pub record AreWayParts (own : KnownGraph) (p : Proc) (source : ℕ) (parts : WayParts) : Type 0 where
  pub graph : graph_of parts.links parts.leaves parts.nodes ≡ own_ways own p source
  pub lost : parts.lost ≡ losses_on_ways own.program.now p own.known.now source
  pub fit : AllByRecursion IsFit parts.leaves
