use Rattle.std.proofs.Common.{◌≡◌, ◌≤◌, ◌+◌, drop}
use Rattle.std.specs.Prelude.{map, min}
use Rattle.syntax_tree.specs.Term.{term_of}
use Rattle.syntax_tree.specs.WellFormed.{joint_operators}
use Rattle.syntax_tree.proofs.measure.joint_operators.Given as goal

abbrev pub invariant-loop-e : goal.invariant-loop-e
invariant-loop-e l = record {
  cut : l.total ≤ 200001;
  sum : min (l.total + joint_operators (map term_of (drop l.e-index l.args))) 200001 ≡ min (joint_operators (map term_of l.args)) 200001;
}
