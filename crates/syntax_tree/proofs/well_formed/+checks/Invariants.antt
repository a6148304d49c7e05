use Rattle.std.proofs.Common.{◌≡◌, ◌≤◌, ◌+◌, drop}
use Rattle.std.specs.Prelude.{min}
use Rattle.syntax_tree.specs.Code.{code_of}
use Rattle.syntax_tree.specs.WellFormed.{code_checks}
use Rattle.syntax_tree.proofs.well_formed.+checks.Given as goal

abbrev pub invariant-checks_in-loop-stmt : goal.invariant-checks_in-loop-stmt
invariant-checks_in-loop-stmt l = record {
  cut : l.total ≤ 2;
  sum : min (l.total + code_checks l.number (code_of (drop l.stmt-index l.stmts))) 2 ≡ min (code_checks l.number (code_of l.stmts)) 2;
}
