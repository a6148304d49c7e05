use Rattle.std.proofs.Common.{◌≡◌, ◌≤◌, ◌+◌, drop}
use Rattle.std.specs.Prelude.{min}
use Rattle.syntax_tree.specs.Code.{code_of}
use Rattle.syntax_tree.specs.Nodes.{code_nodes}
use Rattle.syntax_tree.proofs.nodes.+nodes.Given as goal

abbrev pub invariant-nodes_of-loop-stmt : goal.invariant-nodes_of-loop-stmt
invariant-nodes_of-loop-stmt l = record {
  cut : l.total ≤ 513;
  sum : min (l.total + code_nodes (code_of (drop l.stmt-index l.stmts))) 513 ≡ min (code_nodes (code_of l.stmts)) 513;
}
