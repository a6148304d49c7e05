use Rattle.std.proofs.Common.{◌≡◌, ◌≤◌, ◌+◌, ◌*◌, ◌++◌, drop, map}
use Rattle.syntax_tree.specs.Code.{code_of, statement_of}
use Rattle.syntax_tree.specs.Nodes.{code_nodes, statement_nodes}
use Rattle.flow_graph.specs.FlowGraph.{code_arcs, code_checks_at}
use Rattle.flow_graph.specs.Plain.{arc_of, check_of}
use Rattle.flow_graph.proofs.making.Made.+making.Given as goal

-- what is made, and what the statements that are left will make, is what all of them make
abbrev pub invariant-code-loop-stmt : goal.invariant-code-loop-stmt
invariant-code-loop-stmt l = record {
  edges : map arc_of l.self.edges ++ code_arcs l.targets l.node (code_of (drop l.stmt-index l.stmts))
      ≡ map arc_of l.initial.self.edges ++ code_arcs l.targets l.at (code_of l.stmts);
  checks : map check_of l.self.checks ++ code_checks_at l.node (code_of (drop l.stmt-index l.stmts))
      ≡ map check_of l.initial.self.checks ++ code_checks_at l.at (code_of l.stmts);
  from : l.at ≤ l.node;
  node : l.node + code_nodes (code_of (drop l.stmt-index l.stmts)) ≡ l.at + code_nodes (code_of l.stmts);
}

-- a body has fewer nodes than its statement
abbrev pub decreases-code : goal.decreases-code
decreases-code l = 3 * code_nodes (code_of l.stmts.now) + 2

abbrev pub decreases-statement : goal.decreases-statement
decreases-statement l = 3 * statement_nodes (statement_of l.stmt.now) + 1

abbrev pub decreases-branch : goal.decreases-branch
decreases-branch l = 3 * (3 + code_nodes (code_of l.yes.now) + code_nodes (code_of l.no.now))

abbrev pub decreases-while_loop : goal.decreases-while_loop
decreases-while_loop l = 3 * (4 + code_nodes (code_of l.pre.now) + code_nodes (code_of l.body.now) + code_nodes (code_of l.step.now))

abbrev pub decreases-do_loop : goal.decreases-do_loop
decreases-do_loop l = 3 * (3 + code_nodes (code_of l.pre.now) + code_nodes (code_of l.body.now))
