-- What is answered to `cra replay`: one execution on given values.
use Rattle.std.specs.Prelude.{◌≡◌, ℕ, ◌≤◌, List, length, Option, Some, Ok, if◌then◌else◌}
use Rattle.syntax_tree.specs.declared.program.Program.{Program}
use Rattle.execution.specs.Execution.{Fails}
use Rattle.replay.specs.declared.printing.LineColumn.{LineColumn}
use Rattle.replay.specs.declared.trace.TraceStop.{TraceStop}
use Rattle.replay.specs.declared.trace.TraceStop.TheVariants.{Failed}
use Rattle.replay.specs.declared.trace.Trace.{Trace}
use Rattle.replay.specs.Chosen.{IsTrace}
use Rattle.replay.specs.TraceText.{failure_place, is_failed, trace_text}
use Rattle.wire.specs.declared.input.Input.{Input}
use Rattle.wire.specs.Inputs.{input_of}
use Rattle.summary_cache.specs.Accepted.{Accepts}
use Rattle.summary_cache.specs.Place.{column_at, line_at}
use Rattle.commands.specs.declared.reply.Reply.{Reply}
use Rattle.commands.specs.declared.status.Status.{Status}
use Rattle.commands.specs.declared.status.Status.TheVariants as ended
use Rattle.commands.specs.declared.words.Work.TheVariants.{Replay}
use Rattle.commands.specs.Limits.{most_input}
use Rattle.commands.specs.Within.{OrRefused, OrWrong, Within}
use Rattle.commands.specs.Words.{work_of}

-- The text is accepted as the program, and the trace is that of its chosen execution on the values.
-- Where it ends at a failed assertion, the program fails there.
pub record IsFollowed (input : Input) (program : Program) (trace : Trace) : Type 0 where
  pub accepted : Accepts input.text program
  pub traced : IsTrace program input.values input.turns trace
  pub fails : (number : ℕ) → trace.stop ≡ Failed number → Fails program number

-- the status of a trace: whether it ends at a failed assertion
abbrev pub status_of : TraceStop → Status
status_of stop = if is_failed stop then ended.SomeFailed else ended.NoneFailed

-- the line and the column of a byte of a text
abbrev pub place_of : List ℕ → ℕ → LineColumn
place_of text at = record { line = line_at text at; column = column_at text at }

-- the text of a trace; the status tells whether it ends at a failed assertion
abbrev pub trace_reply : List ℕ → Program → Trace → Reply
trace_reply text program trace = record {
  status = status_of trace.stop;
  text = trace_text program (place_of text (failure_place program trace.stop)) trace;
}

-- the text is accepted, and this tells the trace of its program
abbrev pub TellsTrace : Input → Reply → Type 0
TellsTrace input reply = (program : Program) × (trace : Trace) × IsFollowed input program trace
    × (reply ≡ trace_reply input.text program trace)

-- an input is answered with the trace of its program, or with the reason why its text is refused
abbrev pub IsTraceOf : Input → Reply → Type 0
IsTraceOf input reply = OrRefused input.text (TellsTrace input) reply

-- an input within the limit whose text is accepted is answered with the trace of its program
abbrev pub IsReplyToReplay : List ℕ → Reply → Type 0
IsReplyToReplay bytes reply = Within most_input bytes (OrWrong (input_of bytes) IsTraceOf) reply

-- The words ask for one execution on all that the source has: an input within the limit that has
-- its shape, and whose text is accepted.
pub record IsToReplay (words : List (List ℕ)) (left : Option (List ℕ)) : Type 0 where
  pub asked : work_of words ≡ Some Replay
  pub bytes : List ℕ
  pub whole : left ≡ Some bytes
  pub short : length bytes ≤ most_input
  pub input : Input
  pub shaped : input_of bytes ≡ Ok input
  pub program : Program
  pub accepted : Accepts input.text program
