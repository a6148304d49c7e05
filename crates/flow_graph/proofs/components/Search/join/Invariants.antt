use Rattle.std.proofs.Common.{◌≡◌, length}
use Rattle.flow_graph.specs.Search.{state_of, with_starts}
use Rattle.flow_graph.proofs.Joins.{IsPopped}
use Rattle.flow_graph.proofs.components.Search.join.Given as goal

abbrev pub invariant-loop-self : goal.invariant-loop-self
invariant-loop-self l = record {
  popped : IsPopped l.fn.self.starts.items l.self.starts.items l.place;
  rest : state_of l.self ≡ with_starts (state_of l.fn.self) l.self.starts.items;
}

abbrev pub decreases-loop-self : goal.decreases-loop-self
decreases-loop-self l = length l.self.starts.items
