use Rattle.std.proofs.Common.{◌≡◌}
use Rattle.flow_graph.specs.Search.{all_new}
use Rattle.flow_graph.proofs.components.new_marks.Given as goal

abbrev pub invariant-loop-place : goal.invariant-loop-place
invariant-loop-place l = l.marks.items ≡ all_new l._place
