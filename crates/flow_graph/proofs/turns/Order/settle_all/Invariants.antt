use Rattle.std.proofs.Common.{◌≡◌, drop}
use Rattle.flow_graph.specs.Turns.{stage_of, Going}
use Rattle.flow_graph.proofs.turns.Order.settle_all.Given as goal

abbrev pub invariant-loop-group : goal.invariant-loop-group
invariant-loop-group l = record {
  going : Going l.program l.plan (stage_of l.self) (drop l.group-index l.todo);
  come : l.self.come.items ≡ l.fn.self.come.items;
}
