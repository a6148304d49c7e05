use Rattle.std.proofs.Common.{take}
use Rattle.std.specs.List.{AllByRecursion}
use Rattle.flow_graph.specs.FlowGraph.{graph_of}
use Rattle.newton_rounds.specs.Members.{AreApart}
use Rattle.newton_rounds.proofs.linear.is_linear.Given as goal

abbrev pub invariant-loop-proc : goal.invariant-loop-proc
invariant-loop-proc l =
    record {
      apart : AllByRecursion (λ proc. AreApart l.fn.group.procs (graph_of l.fn.program proc).arcs) (take l.proc-index l.procs);
    }
