use Rattle.std.proofs.Common.{◌≡◌, map}
use Rattle.flow_graph.specs.Search.{left_mark}
use Rattle.flow_graph.proofs.components.Search.leave.Given as goal

abbrev pub invariant-loop-place : goal.invariant-loop-place
invariant-loop-place l = record {
  marks : l.self.marks.items ≡ map (left_mark l.at l.place l.fn.self.groups) l.fn.self.marks.items;
  path : l.self.path ≡ l.fn.self.path;
  starts : l.self.starts ≡ l.fn.self.starts;
  groups : l.self.groups ≡ l.fn.self.groups;
}
