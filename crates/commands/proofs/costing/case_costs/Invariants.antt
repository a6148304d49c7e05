use Rattle.commands.specs.Cost.{IsCostOf}
use Rattle.commands.proofs.Pairs.{AreSoFar}
use Rattle.commands.proofs.costing.case_costs.Given as goal

abbrev pub invariant-loop-case : goal.invariant-loop-case
invariant-loop-case l = AreSoFar (IsCostOf l.number) l.cases l.case-index l.costs
