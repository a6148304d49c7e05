use Rattle.std.proofs.Common.{◌≡◌, ◌+◌, drop, length}
use Rattle.context.specs.Entries.{call_ways}
use Rattle.context.specs.Made.{callings_on, with_ways}
use Rattle.context.proofs.callings.Caller.with_callings.Given as goal

-- the ways so far, and then those of the calls that are left
abbrev pub invariant-loop-edge : goal.invariant-loop-edge
invariant-loop-edge l =
    record {
      made : with_ways l.all (call_ways l.self.main l.self.number l.self.widths (callings_on (drop l.edge-index l.edges)) (drop l.place l.stops)) ≡ with_ways l.initial.all (call_ways l.self.main l.self.number l.self.widths (callings_on l.edges) l.stops);
      left : l.place + length (callings_on (drop l.edge-index l.edges)) ≡ length l.stops;
    }
