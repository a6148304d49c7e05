use Rattle.std.proofs.Common.{◌≡◌, ◌++◌, map, drop}
use Rattle.flow_graph.specs.Plain.{check_of}
use Rattle.analysis.specs.Judging.{checks_from}
use Rattle.analysis.proofs.standing.add_checks.Given as goal

abbrev pub invariant-loop-check : goal.invariant-loop-check
invariant-loop-check l = l.checks ++ checks_from l.proc l.check (map check_of (drop l.check l.nodes)) ≡ l.initial.checks ++ checks_from l.proc 0 (map check_of l.nodes)
