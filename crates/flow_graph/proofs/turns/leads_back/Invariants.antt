use Rattle.std.proofs.Common.{◌≡◌, drop}
use Rattle.flow_graph.specs.Turns.{leads_back}
use Rattle.flow_graph.proofs.turns.leads_back.Given as goal

abbrev pub invariant-loop-q : goal.invariant-loop-q
invariant-loop-q l = leads_back l.groups l.group l.row ≡ leads_back l.groups l.group (drop l.q-index l.row)
