use Rattle.std.proofs.Common.{◌≡◌}
use Rattle.flow_graph.specs.Turns.{zeros}
use Rattle.flow_graph.proofs.turns.zeros.Given as goal

abbrev pub invariant-loop-place : goal.invariant-loop-place
invariant-loop-place l = l.made.items ≡ zeros l._place
