use Rattle.std.proofs.Common.{◌≡◌}
use Rattle.flow_graph.specs.Plans.{empty_rows}
use Rattle.flow_graph.proofs.turns.empty_waiting.Given as goal

abbrev pub invariant-loop-place : goal.invariant-loop-place
invariant-loop-place l = l.made.items ≡ empty_rows l._place
