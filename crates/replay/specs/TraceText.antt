-- The text of a trace: a line for each thing that the execution showed, and a last one that tells
-- why it made no more steps.
use Rattle.std.specs.Prelude.{ℕ, ℤ, Bool, true, false, ◌-◌, decimal, Option, None, Some, List, [], ◌++◌, codes, slice_get, slice_index_or, if◌then◌else◌}
use Rattle.std.specs.List.{flat_map, join_by}
use Rattle.std.specs.Fmt.{signed_decimal}
use Rattle.syntax_tree.specs.declared.op.Op.{Op}
use Rattle.syntax_tree.specs.declared.op.Op.TheVariants as op
use Rattle.syntax_tree.specs.declared.program.Proc.{Proc}
use Rattle.syntax_tree.specs.declared.program.Program.{Program}
use Rattle.execution.specs.declared.outcome.Event.{Event}
use Rattle.execution.specs.declared.outcome.Event.TheVariants as event
use Rattle.replay.specs.declared.printing.LineColumn.{LineColumn}
use Rattle.replay.specs.declared.trace.TraceStop.{TraceStop}
use Rattle.replay.specs.declared.trace.TraceStop.TheVariants as stop
use Rattle.replay.specs.declared.trace.Trace.{Trace}

-- ---- procedures, by their places in the program

-- the name of a procedure; [] where there is none
abbrev pub name_of : Option Proc → List ℕ
name_of None = []
name_of (Some proc) = proc.name

-- a returned value behind a space; none where the procedure is void
abbrev pub returned_text : Option Proc → ℤ → List ℕ
returned_text None value = []
returned_text (Some proc) value = if proc.returns then codes " " ++ signed_decimal value else []

-- ---- what an execution shows

-- what an execution shows, as a text without its line end
abbrev pub event_text : Program → Event → List ℕ
event_text program (event.Call proc args) =
    codes "call " ++ name_of (slice_get program.procs proc) ++ codes "(" ++ join_by signed_decimal
    (codes ", ") args ++ codes ")"
event_text program (event.Any value) = codes "any " ++ signed_decimal value
event_text program (event.Holds number) = codes "check " ++ decimal number ++ codes " holds"
event_text program (event.Return proc value) =
    codes "return" ++ returned_text (slice_get program.procs proc) value

-- what an execution shows, as a line with its end
abbrev pub event_line : Program → Event → List ℕ
event_line program shown = event_text program shown ++ codes "\n"

-- ---- why it made no more steps

-- an operator as C spells it
abbrev pub op_text : Op → List ℕ
op_text op.Add = codes "+"
op_text op.Sub = codes "-"
op_text op.Mul = codes "*"
op_text op.Div = codes "/"
op_text op.Rem = codes "%"
op_text op.Lt = codes "<"
op_text op.Le = codes "<="
op_text op.Gt = codes ">"
op_text op.Ge = codes ">="
op_text op.Eq = codes "=="
op_text op.Ne = codes "!="
op_text op.And = codes "&&"
op_text op.Or = codes "||"

-- the cause, where a failed assertion stands at a place
abbrev pub cause_text : Program → LineColumn → TraceStop → List ℕ
cause_text program place (stop.Done value) =
    codes "main returned" ++ returned_text (slice_get program.procs program.main) value
cause_text program place (stop.Failed number) =
    codes "assertion " ++ decimal number ++ codes " failed at " ++ decimal place.line ++ codes ":"
    ++ decimal place.column
cause_text program place stop.Guard = codes "guard"
cause_text program place stop.Zero = codes "division by zero"
cause_text program place stop.Dry = codes "no value left"
cause_text program place (stop.Wide left right op) = codes "wide " ++ signed_decimal left
    ++ codes " " ++ op_text op ++ codes " " ++ signed_decimal right
cause_text program place stop.Spent = codes "turns spent"

-- the last line: why the execution stopped, and after how many steps
abbrev pub last_line : Program → LineColumn → Trace → List ℕ
last_line program place trace =
    codes "stopped: " ++ cause_text program place trace.stop ++ codes " after "
    ++ decimal trace.steps ++ codes " steps\n"

-- the text of a trace: a line for each event in order, and the last one
abbrev pub trace_text : Program → LineColumn → Trace → List ℕ
trace_text program place trace = flat_map (event_line program) trace.events ++ last_line program
    place trace

-- where the assertion that failed stands in the text of the program, by its byte; 0 where none
-- failed
abbrev pub failure_place : Program → TraceStop → ℕ
failure_place program (stop.Failed number) = slice_index_or program.checks (number - 1) 0
failure_place program _ = 0

-- the trace stops at a failed assertion
abbrev pub is_failed : TraceStop → Bool
is_failed (stop.Failed number) = true
is_failed _ = false
