-- The graph that is made, as plain data: without how its parts lie in memory.
use Rattle.std.specs.Prelude.{map}
use Rattle.syntax_tree.specs.Term.{term_of}
use Rattle.syntax_tree.specs.Code.{Statement, Set, Any, Call, Guard}
use Rattle.flow_graph.specs.declared.parts.Act.{Act}
use Rattle.flow_graph.specs.declared.parts.Act.TheVariants as act
use Rattle.flow_graph.specs.declared.parts.Edge.{Edge}
use Rattle.flow_graph.specs.declared.parts.CheckNode.{CheckNode}
use Rattle.flow_graph.specs.declared.parts.Graph.{Graph}
use Rattle.flow_graph.specs.FlowGraph.{Arc, CheckPlace, FlowGraph}

-- what an edge of the made graph does, as a statement
abbrev pub statement_of_act : Act → Statement
statement_of_act (act.Guard cond) = Guard (term_of cond)
statement_of_act (act.Set col value) = Set col (term_of value)
statement_of_act (act.Any col) = Any col
statement_of_act (act.Call proc args into) = Call proc (map term_of args) into

-- an edge of the made graph as plain data
abbrev pub arc_of : Edge → Arc
arc_of edge = record { from = edge.from; to = edge.to; act = statement_of_act edge.act }

-- the node of an assertion of the made graph as plain data
abbrev pub check_of : CheckNode → CheckPlace
check_of check = record { node = check.node; number = check.number; cond = term_of check.cond }

-- the made graph as plain data, with its edges and assertions in the same order
abbrev pub plain : Graph → FlowGraph
plain g = record { nodes = g.nodes; arcs = map arc_of g.edges; checks = map check_of g.checks }
