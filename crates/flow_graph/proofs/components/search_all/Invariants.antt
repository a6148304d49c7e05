use Rattle.flow_graph.specs.Search.{state_of, AreDone}
use Rattle.flow_graph.proofs.components.search_all.Given as goal

abbrev pub invariant-loop-p : goal.invariant-loop-p
invariant-loop-p l = AreDone l.calls (state_of l.search) l.p
