use Rattle.std.proofs.Common.{ap, arith}
use Rattle.flow_graph.specs.Search.{State, with_starts}
use Rattle.flow_graph.proofs.Joins.{popped_step, popped_all}
use Rattle.flow_graph.proofs.components.Search.join.Goals as goal

pub loop-self-preserved : goal.loop-self-preserved
loop-self-preserved c = record {
  popped = popped_step _ _ _ _ _ c.loop-self.invariant.popped c.pop.ensures.items (omega (arith, c.loop-self-test.true, c.last_start.ensures));
  rest = ap (λ (s : State). with_starts s c.pop.new.self.items) c.loop-self.invariant.rest;
}

pub returns-clause-cut : goal.returns-clause-cut
returns-clause-cut c = popped_all _ _ _ c.loop-self.invariant.popped (omega (arith, c.loop-self-test.false, c.last_start.ensures))
