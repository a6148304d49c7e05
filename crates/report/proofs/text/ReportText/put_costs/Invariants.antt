use Rattle.std.proofs.Common.{◌≡◌, ◌++◌, ◌+◌, drop}
use Rattle.report.specs.Costs.{costs_from}
use Rattle.report.proofs.text.ReportText.put_costs.Given as goal

abbrev pub invariant-loop-i : goal.invariant-loop-i
invariant-loop-i l =
    l.self ++ costs_from l.names (l.i + 1) (drop l.i l.costs) ≡ l.fn.self ++ costs_from l.names 1 l.costs
