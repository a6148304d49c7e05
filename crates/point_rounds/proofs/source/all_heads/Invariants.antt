use Rattle.std.proofs.Common.{◌≡◌, ◌++◌, drop}
use Rattle.point_rounds.specs.Source.{all_heads}
use Rattle.point_rounds.proofs.source.all_heads.Given as goal

abbrev pub invariant-loop-graph : goal.invariant-loop-graph
invariant-loop-graph l = l.all ++ all_heads (drop l.graph-index l.graphs) ≡ all_heads l.graphs
