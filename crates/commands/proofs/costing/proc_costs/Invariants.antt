use Rattle.report.specs.declared.blocks.ProcBlock.{ProcBlock}
use Rattle.commands.specs.Cost.{AreCostsOf}
use Rattle.commands.proofs.Pairs.{AreSoFar}
use Rattle.commands.proofs.costing.proc_costs.Given as goal

abbrev pub invariant-loop-block : goal.invariant-loop-block
invariant-loop-block l = AreSoFar (λ (block : ProcBlock) made. AreCostsOf l.number block.formula.cases made) l.blocks l.block-index l.costs
