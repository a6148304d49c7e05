-- The laws of tables and rounds.
use Rattle.std.specs.Prelude.{List, Option}
use Rattle.syntax_tree.specs.declared.program.Program.{Program}
use Rattle.syntax_tree.specs.WellFormed.{IsWellFormed}
use Rattle.transition_formula.specs.Transition.{Transition}
use Rattle.posing.specs.Posing.{AlwaysPassing}
use Rattle.point_induction.specs.Induction.{AreTrue}
use Rattle.point_rounds.specs.declared.round.PointState.{PointState}
use Rattle.point_rounds.specs.declared.round.StepFrom.{StepFrom}
use Rattle.point_rounds.specs.declared.table.PointTable.{PointTable}
use Rattle.point_rounds.specs.Closed.{AreKeptBy, CoverTable, StatesHold, TellCalls}
use Rattle.point_rounds.specs.Rounds.{last_round}
use Rattle.point_rounds.specs.Sayings.{sayings_of_table}
use Rattle.point_rounds.specs.Table.{IsTable}

-- The rows of a table that the steps keep are true in every execution from `main`, where the states
-- hold of all activations at points, and the steps cover what happens from there.
abbrev pub ClosedTablesAreTrue : Type 0
ClosedTablesAreTrue = (program : Program) (known : List (Option Transition))
    (states : List PointState) (steps : List StepFrom) (table : PointTable)
    → IsTable program table → TellCalls program known → StatesHold program states
    → CoverTable program known states steps table → AreKeptBy program steps table
    → AreTrue program (sayings_of_table program table)

-- Under answers that pass, what the last round leaves of a table is one, which its steps keep.
abbrev pub LastRoundsKeep : Type 0
LastRoundsKeep = (program : Program) (known : List (Option Transition))
    (states : List PointState) (table : PointTable) → IsWellFormed program
    → IsTable program table → AlwaysPassing
    (λ left. IsTable program left.table × AreKeptBy program left.steps left.table)
    (last_round program known states table)
