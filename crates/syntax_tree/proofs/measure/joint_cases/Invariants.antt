use Rattle.std.proofs.Common.{◌≡◌, ◌≤◌, ◌*◌, drop}
use Rattle.std.specs.Prelude.{map, min}
use Rattle.syntax_tree.specs.Term.{term_of}
use Rattle.syntax_tree.specs.Cases.{joint_cases}
use Rattle.syntax_tree.proofs.measure.joint_cases.Given as goal

abbrev pub invariant-loop-e : goal.invariant-loop-e
invariant-loop-e l = record {
  cut : l.total ≤ 257;
  product : min (l.total * joint_cases (map term_of (drop l.e-index l.args))) 257 ≡ min (joint_cases (map term_of l.args)) 257;
}
