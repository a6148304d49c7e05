use Rattle.std.proofs.Common.{◌≡◌, ◌≤◌, ◌+◌, drop}
use Rattle.std.specs.Prelude.{min}
use Rattle.syntax_tree.specs.WellFormed.{procs_checks}
use Rattle.syntax_tree.proofs.well_formed.procs_checks.Given as goal

abbrev pub invariant-loop-proc : goal.invariant-loop-proc
invariant-loop-proc l = record {
  cut : l.total ≤ 2;
  sum : min (l.total + procs_checks l.number (drop l.proc-index l.procs)) 2 ≡ min (procs_checks l.number l.procs) 2;
}
