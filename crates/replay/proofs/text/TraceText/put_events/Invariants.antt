use Rattle.std.proofs.Common.{◌≡◌, ◌++◌, drop}
use Rattle.std.specs.List.{flat_map}
use Rattle.replay.specs.TraceText.{event_line}
use Rattle.replay.proofs.text.TraceText.put_events.Given as goal

abbrev pub invariant-loop-event : goal.invariant-loop-event
invariant-loop-event l =
    l.self.bytes.items ++ flat_map (event_line l.program) (drop l.event-index l.events)
    ≡ l.fn.self.bytes.items ++ flat_map (event_line l.program) l.events
