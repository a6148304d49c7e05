use Rattle.std.proofs.Common.{◌≡◌, ◌+◌, ◌++◌, drop}
use Rattle.point_steps.specs.Outs.{head_outs}
use Rattle.point_steps.proofs.outs.head_outs.Given as goal

abbrev pub invariant-loop-head : goal.invariant-loop-head
invariant-loop-head l =
    record {
      made : l.outs ++ head_outs l.columns l.source.cells.now l.arrival (drop l.head-index l.heads) ≡ head_outs l.columns l.source.cells.now l.source.graph.now.nodes l.heads;
      at : l.arrival ≡ l.source.graph.now.nodes + l.head-index;
    }
