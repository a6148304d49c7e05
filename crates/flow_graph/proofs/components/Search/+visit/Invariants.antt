use Rattle.std.specs.List.{count_by}
use Rattle.flow_graph.specs.Search.{is_new, state_of}
use Rattle.flow_graph.proofs.Visiting.{IsOpen}
use Rattle.flow_graph.proofs.components.Search.+visit.Given as goal

abbrev pub decreases-visit : goal.decreases-visit
decreases-visit l = count_by is_new l.self.now.marks.items

abbrev pub invariant-loop-q : goal.invariant-loop-q
invariant-loop-q l = IsOpen l.calls (state_of l.fn.self) (state_of l.self) l.p l.q-index
