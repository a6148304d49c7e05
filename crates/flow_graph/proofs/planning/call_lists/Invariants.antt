use Rattle.std.proofs.Common.{◌≡◌, length, take}
use Rattle.flow_graph.specs.Plans.{lists_of}
use Rattle.flow_graph.proofs.planning.call_lists.Given as goal

abbrev pub invariant-loop-proc : goal.invariant-loop-proc
invariant-loop-proc l = l.lists ≡ lists_of (length l.program.procs) (take l.proc-index l.proc-items)
