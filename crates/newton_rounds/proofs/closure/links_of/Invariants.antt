use Rattle.std.proofs.Common.{◌≡◌, map, take}
use Rattle.newton_rounds.proofs.closure.links_of.Given as goal

abbrev pub invariant-loop-call : goal.invariant-loop-call
invariant-loop-call l = l.links ≡ map (λ call. record { from = call.caller; to = call.callee }) (take l.call-index l.calls)
