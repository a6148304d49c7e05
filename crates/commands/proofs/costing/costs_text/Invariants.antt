use Rattle.std.proofs.Common.{◌≡◌, ◌++◌}
use Rattle.commands.specs.Cost.{costs_text}
use Rattle.commands.proofs.costing.costs_text.Given as goal

abbrev pub invariant-loop-block : goal.invariant-loop-block
invariant-loop-block l =
    l.text.bytes.items ++ costs_text l.block-iterator.a.rest.now l.block-iterator.b.rest.now ≡ costs_text l.blocks l.costs
