use Rattle.std.proofs.Common.{◌≡◌, ◌++◌, drop}
use Rattle.syntax_tree.specs.Code.{code_of}
use Rattle.flow_graph.specs.Groups.{called}
use Rattle.flow_graph.proofs.planning.+calling.Given as goal

abbrev pub invariant-push_calls-loop-stmt : goal.invariant-push_calls-loop-stmt
invariant-push_calls-loop-stmt l = l.row ++ called (code_of (drop l.stmt-index l.stmts)) ≡ l.initial.row ++ called (code_of l.stmts)
