-- What a report with rows at points claims of a program, and when that is true. It speaks of
-- executions alone.
use Rattle.std.specs.Prelude.{◌≡◌, ◌-◌, ℕ, ℤ, List, Some, slice_get}
use Rattle.linear_terms.specs.declared.row.Row.{Row}
use Rattle.syntax_tree.specs.declared.program.Program.{Program}
use Rattle.syntax_tree.specs.Value.{State}
use Rattle.execution.specs.Execution.{Returns}
use Rattle.execution.specs.Machine.{Config}
use Rattle.flow_graph.specs.FlowGraph.{graph_of}
use Rattle.flow_graph.specs.Stack.{IsChain}
use Rattle.flow_graph.specs.Walks.{WalksTo}
use Rattle.point_induction.specs.Induction.{start_of}
use Rattle.point_induction.specs.Points.{heads_of}
use Rattle.point_rows.specs.Reading.{AreTrueOf}
use Rattle.report.specs.declared.points.PointRows.{PointRows}
use Rattle.report.specs.declared.points.RowsAt.{RowsAt}
use Rattle.report.specs.declared.points.RowsAt.TheVariants.{Entry, Loop, Return}
use Rattle.report.specs.Claims.{ClaimsAreMet}
use Rattle.point_rounds.specs.Sayings.{pair_numbers}
use Rattle.point_reports.specs.declared.whole.PointReport.{PointReport}

-- Wherever an activation of the procedure that stands at the top of the stack in an execution from
-- `main` comes to the node, the rows are true of its columns.
abbrev pub AreTrueAt : Program → (proc node : ℕ) → List Row → Type 0
AreTrueAt program proc node rows =
    (config : Config) (chain : IsChain program (start_of program) config)
    → chain.top.proc ≡ proc → (after : State)
    → WalksTo program proc chain.top.globals chain.top.args node after → AreTrueOf rows after

-- Wherever such an activation returns, the rows are true of the globals and arguments with which it
-- began, and behind them of the globals and the value that it leaves.
abbrev pub AreTrueOfReturns : Program → (proc : ℕ) → List Row → Type 0
AreTrueOfReturns program proc rows =
    (config : Config) (chain : IsChain program (start_of program) config)
    → chain.top.proc ≡ proc → (left : State) (value : ℤ)
    → Returns program proc chain.top.globals chain.top.args left value
    → AreTrueOf rows (pair_numbers program proc chain.top.globals chain.top.args left value)

-- rows at a place of a procedure are true; the heads of its loops are numbered from 1
abbrev pub AreMetAt : Program → (proc : ℕ) → RowsAt → List Row → Type 0
AreMetAt program proc Entry rows = AreTrueAt program proc 0 rows
AreMetAt program proc (Loop number) rows = (node : ℕ)
    → slice_get (heads_of (graph_of program proc)) (number - 1) ≡ Some node
    → AreTrueAt program proc node rows
AreMetAt program proc Return rows = AreTrueOfReturns program proc rows

-- the rows of each place that is told are true
abbrev pub PointRowsAreMet : Program → List PointRows → Type 0
PointRowsAreMet program points = (n : ℕ) (told : PointRows) → slice_get points n ≡ Some told
    → AreMetAt program told.proc told.at told.rows

-- the claims of the report are met, and those of the rows at points
pub record AreAllMet (program : Program) (made : PointReport) : Type 0 where
  pub claims : ClaimsAreMet program made.report
  pub points : PointRowsAreMet program made.points.rows
