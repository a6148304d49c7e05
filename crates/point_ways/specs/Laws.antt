-- Laws of the nodes ahead and of heads.
use Rattle.std.specs.Prelude.{◌≡◌, ◌↔◌, ◌<◌, ℕ, true, List, Some, slice_get}
use Rattle.flow_graph.specs.FlowGraph.{FlowGraph}
use Rattle.point_induction.specs.Points.{heads_of, is_head}
use Rattle.point_ways.specs.Ways.{LeadsAhead, head_rank, is_ahead}

-- exactly the nodes are ahead of a source to which a path leads from it that enters no head
abbrev pub NodesAheadAreLedTo : Type 0
NodesAheadAreLedTo = (graph : FlowGraph) (source node : ℕ) → node < graph.nodes
    → (is_ahead graph source node ≡ true) ↔ ((path : List ℕ)
    × LeadsAhead graph.arcs source path node)

-- the rank of a head is its place among the heads
abbrev pub RanksArePlaces : Type 0
RanksArePlaces = (graph : FlowGraph) (head : ℕ) → head < graph.nodes
    → is_head graph.arcs head ≡ true
    → slice_get (heads_of graph) (head_rank graph head) ≡ Some head

-- and what stands at a place among the heads is a head of that rank
abbrev pub PlacesAreRanks : Type 0
PlacesAreRanks = (graph : FlowGraph) (place head : ℕ) → slice_get (heads_of graph) place ≡ Some head
    → (head < graph.nodes) × (is_head graph.arcs head ≡ true) × (head_rank graph head ≡ place)
