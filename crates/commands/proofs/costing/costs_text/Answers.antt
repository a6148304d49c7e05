use Rattle.std.proofs.Common.{⊎_elim}
use Rattle.commands.proofs.Costs.{costs-end, blocks-end}
use Rattle.commands.proofs.costing.costs_text.Goals as goal

pub returns : goal.returns
returns c =
    let blocks = c.loop-block.block-iterator.a.rest.now in
    let costs = c.loop-block.block-iterator.b.rest.now in
    ⊎_elim (λ s. blocks-end blocks costs c.loop-block.invariant s.1.0) (λ s. costs-end blocks costs c.loop-block.invariant s.1.0) c.in-None.ensures.steps
