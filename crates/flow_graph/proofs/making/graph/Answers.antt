use Rattle.std.proofs.Common.{Result, Ok, Err, IfOk}
use Rattle.flow_graph.proofs.Within.{edges_within, stops_within}
use Rattle.flow_graph.proofs.making.graph.Goals as goal

if_ok : {X E : Type 0} (P Q : X → Type 0) (r : Result X E) → ((x : X) → P x → Q x) → IfOk r P → IfOk r Q
if_ok P Q (Ok x) h there = h x there
if_ok P Q (Err e) h there = there

pub returns-clause-edges : goal.returns-clause-edges
returns-clause-edges c = if_ok _ _ c.whole.result (edges_within c.args.program.now c.args.proc) c.whole.ensures

pub returns-clause-checks : goal.returns-clause-checks
returns-clause-checks c = if_ok _ _ c.whole.result (stops_within c.args.program.now c.args.proc) c.whole.ensures
