-- What the flow of a procedure is made from, and nothing else of its program.
use Rattle.std.specs.Prelude.{ℕ, List, [], ◌∷◌, Option, length, map, replicate}
use Rattle.std.specs.List.{flat_map}
use Rattle.path_expr.specs.declared.link.Link.{Link}
use Rattle.polyhedra.specs.Vocabulary.{Vocabulary}
use Rattle.syntax_tree.specs.declared.program.Proc.{Proc}
use Rattle.syntax_tree.specs.declared.program.Program.{Program}
use Rattle.syntax_tree.specs.Code.{Call, Statement, code_of}
use Rattle.syntax_tree.specs.WellFormed.{width_of}
use Rattle.transition_formula.specs.declared.loss.Loss.{Loss}
use Rattle.transition_formula.specs.Transition.{Transition}
use Rattle.flow_graph.specs.FlowGraph.{Arc, CheckPlace, FlowGraph, exit_of, flow_of}
use Rattle.point_induction.specs.Points.{points_of}
use Rattle.leaf_cases.specs.Edges.{leaf_of, losses_in_leaf}
use Rattle.checked_tree.specs.Graph.{Graph, graph_of}
use Rattle.vocabularies.specs.Ends.{full_of}

-- The edges of its graph with the formula of each, what was lost in making these, the vocabulary of
-- each node, and the nodes that count: the exit, those of the assertions, those from which calls
-- lead, and the points.
pub record Subject : Type 0 where
  pub links : List Link
  pub leaves : List Transition
  pub lost : List Loss
  pub nodes : List Vocabulary
  pub exit : ℕ
  pub checks : List ℕ
  pub calls : List ℕ
  pub points : List ℕ

-- the two nodes of an edge, without what it does
abbrev pub link_of : Arc → Link
link_of way = record { from = way.from; to = way.to }

-- the node that a call leads from; other edges have none
abbrev pub call_node : ℕ → Statement → List ℕ
call_node from (Call proc args into) = from ∷ []
call_node from _ = []

-- the nodes from which calls lead, in the order of the edges
abbrev pub call_nodes : List Arc → List ℕ
call_nodes ways = flat_map (λ way. call_node way.from way.act) ways

-- the nodes of assertions, in the order of the graph
abbrev pub check_nodes : List CheckPlace → List ℕ
check_nodes checks = map (λ check. check.node) checks

-- the flow graph of a procedure
abbrev pub own_graph : Proc → FlowGraph
own_graph p = flow_of (code_of p.body)

-- the formula of an edge by the known formulas of procedures
abbrev pub arc_leaf : Program → Proc → List (Option Transition) → Arc → Transition
arc_leaf program p known way = leaf_of (width_of program p) (length program.globals) known way.act

-- what was lost where the formula of an edge was made, in order
abbrev pub losses_in_arc : Program → Proc → List (Option Transition) → Arc → List Loss
losses_in_arc program p known way = losses_in_leaf (width_of program p) (length program.globals) known
    way.act

-- the subject that a procedure is, by the known formulas of procedures
abbrev pub subject_of : Program → Proc → List (Option Transition) → Subject
subject_of program p known =
    record {
      links = map link_of (own_graph p).arcs;
      leaves = map (arc_leaf program p known) (own_graph p).arcs;
      lost = flat_map (losses_in_arc program p known) (own_graph p).arcs;
      nodes = replicate (own_graph p).nodes (full_of program p);
      exit = exit_of (code_of p.body);
      checks = check_nodes (own_graph p).checks;
      calls = call_nodes (own_graph p).arcs;
      points = points_of (own_graph p);
    }

-- as a graph that can be evaluated
abbrev pub graph_by : Subject → Graph
graph_by s = graph_of s.links s.leaves s.nodes
