use Rattle.std.proofs.Common.{◌≡◌}
use Rattle.flow_graph.specs.Numbers.{no_bits}
use Rattle.flow_graph.proofs.turns.no_bits.Given as goal

abbrev pub invariant-loop-place : goal.invariant-loop-place
invariant-loop-place l = l.made.items ≡ no_bits l._place
