-- The points of a procedure are its entry, node 0 of its graph, and the heads of its loops: they
-- cut every cycle (Floyd 1967). An activation goes from point to point by passages, which enter no
-- head on their way.
use Rattle.std.specs.Prelude.{◌≡◌, ◌&&◌, ◌||◌, ◌==◌, not, nat_lt, ℕ, Bool, false, true, Some, List, [], ◌∷◌, slice_get}
use Rattle.std.specs.List.{filter, list_any, range_with_len}
use Rattle.syntax_tree.specs.Value.{State}
use Rattle.flow_graph.specs.FlowGraph.{Arc, FlowGraph}
use Rattle.flow_graph.specs.Walks.{CallMeaning, EdgeRelates, Stride, Walks}

-- the edge ends at the node and does not lead forward: to the node where it starts, or to a lower
-- one
abbrev pub leads_back_to : ℕ → Arc → Bool
leads_back_to node way = way.to == node && not (nat_lt way.from way.to)

-- some edge that does not lead forward ends at the node
abbrev pub is_head : List Arc → ℕ → Bool
is_head arcs node = list_any (leads_back_to node) arcs

-- the heads of a graph, in the order of their numbers
abbrev pub heads_of : FlowGraph → List ℕ
heads_of graph = filter (is_head graph.arcs) (range_with_len 0 graph.nodes)

-- the points of a graph in their order: the entry, and then the heads
abbrev pub points_of : FlowGraph → List ℕ
points_of graph = 0 ∷ heads_of graph

-- the entry or a head
abbrev pub is_point : List Arc → ℕ → Bool
is_point arcs node = node == 0 || is_head arcs node

-- each edge of a path is there, and ends at no head
abbrev pub EntersNoHead : List Arc → List Stride → Type 0
EntersNoHead arcs [] = Unit {0}
EntersNoHead arcs (stride ∷ path) =
    ((way : Arc) → slice_get arcs stride.edge ≡ Some way → is_head arcs way.to ≡ false)
    × EntersNoHead arcs path

-- a walk from a node in a state to a node in a state that enters no head
pub record Passage (calls : CallMeaning) (globals : ℕ) (arcs : List Arc) (from : ℕ) (before : State)
    (to : ℕ) (after : State) : Type 0 where
  pub path : List Stride
  pub walk : Walks calls globals arcs from before path to after
  pub free : EntersNoHead arcs path

-- a passage, and behind it an edge to a head
pub record Arrival (calls : CallMeaning) (globals : ℕ) (arcs : List Arc) (from : ℕ) (before : State)
    (head : ℕ) (after : State) : Type 0 where
  pub last : ℕ
  pub between : State
  pub passage : Passage calls globals arcs from before last between
  pub edge : ℕ
  pub way : Arc
  pub is : slice_get arcs edge ≡ Some way
  pub starts : way.from ≡ last
  pub ends : way.to ≡ head
  pub head_is : is_head arcs head ≡ true
  pub relates : EdgeRelates calls globals way.act between after
