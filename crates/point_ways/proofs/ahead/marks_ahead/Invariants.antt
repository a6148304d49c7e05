use Rattle.std.proofs.Common.{◌≡◌}
use Rattle.flow_graph.specs.Plain.{plain}
use Rattle.point_ways.specs.Ways.{marks_ahead}
use Rattle.point_ways.proofs.ahead.marks_ahead.Given as goal

-- the marks of the nodes gone over
abbrev pub invariant-loop-node : goal.invariant-loop-node
invariant-loop-node l = l.marks ≡ marks_ahead (plain l.graph).arcs l.source l.node
