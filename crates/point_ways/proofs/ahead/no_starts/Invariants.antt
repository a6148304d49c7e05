use Rattle.std.proofs.Common.{◌≡◌, [], replicate}
use Rattle.point_ways.proofs.ahead.no_starts.Given as goal

abbrev pub invariant-loop-node : goal.invariant-loop-node
invariant-loop-node l = l.starts ≡ replicate l._node []
