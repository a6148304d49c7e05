use Rattle.std.proofs.Common.{◌≡◌}
use Rattle.flow_graph.specs.Numbers.{numbers_from}
use Rattle.flow_graph.proofs.turns.numbers.Given as goal

abbrev pub invariant-loop-number : goal.invariant-loop-number
invariant-loop-number l = l.numbers ≡ numbers_from 0 l.number
