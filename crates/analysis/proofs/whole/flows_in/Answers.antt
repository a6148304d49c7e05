use Rattle.analysis.proofs.ListLoops.{flows-more, flows-same}
use Rattle.analysis.proofs.whole.flows_in.Goals as goal

pub loop-flow-preserved-in-Continue-1 : goal.loop-flow-preserved-in-Continue-1
loop-flow-preserved-in-Continue-1 c = flows-more c.loop-flow.yielded c.in-Some.flow c.in-Some-flow.flow c.loop-flow.all c.push.new.self c.loop-flow.invariant c.in-Some-flow.is c.in_ok-push-in-Some-flow.ensures.ok

pub loop-flow-preserved : goal.loop-flow-preserved
loop-flow-preserved c = flows-same c.loop-flow.yielded c.in-Some.flow c.loop-flow.all c.loop-flow.invariant c.in-None-flow.is
