use Rattle.std.proofs.Common.{◌≡◌, take}
use Rattle.kept_groups.proofs.copies.flow_copies.Given as goal

abbrev pub invariant-loop-flow : goal.invariant-loop-flow
invariant-loop-flow l = l.copies ≡ take l.flow-index l.flows
