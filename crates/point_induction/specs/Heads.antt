-- The heads of a graph that was made, by marks of its nodes.
use Rattle.std.specs.Prelude.{◌<◌, ℕ, All, Bool, false, List, get_or, map}
use Rattle.std.specs.List.{filter, range_with_len}
use Rattle.flow_graph.specs.declared.parts.Graph.{Graph}
use Rattle.flow_graph.specs.FlowGraph.{FlowGraph}
use Rattle.point_induction.specs.Points.{is_head}

-- the edges lead between the nodes
abbrev pub AreInside : Graph → Type 0
AreInside graph = All (λ edge. (edge.from < graph.nodes) × (edge.to < graph.nodes)) graph.edges

-- for each node whether it is a head
abbrev pub head_marks : FlowGraph → List Bool
head_marks graph = map (is_head graph.arcs) (range_with_len 0 graph.nodes)

-- the numbers that are marked, of so many, in ascending order
abbrev pub marked_numbers : ℕ → List Bool → List ℕ
marked_numbers count marks = filter (λ n. get_or marks n false) (range_with_len 0 count)
