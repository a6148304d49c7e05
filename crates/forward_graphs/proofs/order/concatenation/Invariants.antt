use Rattle.std.proofs.Common.{◌≡◌, ◌++◌, drop}
use Rattle.std.specs.List.{concat}
use Rattle.forward_graphs.proofs.order.concatenation.Given as goal

abbrev pub invariant-loop-group : goal.invariant-loop-group
invariant-loop-group l = l.made ++ concat (drop l.group-index l.groups) ≡ concat l.groups
