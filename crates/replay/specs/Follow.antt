-- A run in memory as what the chosen execution has come to.
use Rattle.std.specs.Prelude.{Option, None, Some}
use Rattle.execution.specs.declared.outcome.Stop.{Stop}
use Rattle.execution.specs.declared.outcome.Stop.TheVariants as why
use Rattle.execution.specs.Interpreter.{machine_config}
use Rattle.replay.specs.declared.turns.Run.{Run}
use Rattle.replay.specs.declared.trace.TraceStop.{TraceStop}
use Rattle.replay.specs.declared.trace.TraceStop.TheVariants as stop
use Rattle.replay.specs.Chosen.{Reached}

-- what a run in memory has reached: its configuration, the values taken and the events
abbrev pub reached_state : Run → Reached
reached_state run = record {
  config = machine_config run.machine;
  taken = run.taken;
  events = run.events;
}

-- the stop of a trace that stands for a cause; want of memory is none
abbrev pub stop_of : Stop → Option TraceStop
stop_of (why.Done v) = Some (stop.Done v)
stop_of (why.Failed n) = Some (stop.Failed n)
stop_of why.Guard = Some stop.Guard
stop_of why.Zero = Some stop.Zero
stop_of why.Dry = Some stop.Dry
stop_of (why.Wide wide) = Some (stop.Wide wide.left wide.right wide.op)
stop_of why.Memory = None
