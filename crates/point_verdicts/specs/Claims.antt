-- What is asked of an assertion whose steps are judged, and what is known of executions.
use Rattle.std.specs.Prelude.{◌≡◌, ◌<◌, List, Option, length}
use Rattle.syntax_tree.specs.declared.program.Program.{Program}
use Rattle.syntax_tree.specs.WellFormed.{IsWellFormed}
use Rattle.transition_formula.specs.Transition.{Transition}
use Rattle.flow_graph.specs.Plain.{plain}
use Rattle.proc_summary.specs.Parts.{IsGraphOf}
use Rattle.point_induction.specs.Points.{heads_of}
use Rattle.point_induction.specs.Induction.{AreTrue}
use Rattle.point_rounds.specs.declared.round.PointRound.{PointRound}
use Rattle.point_rounds.specs.declared.round.PointState.{PointState}
use Rattle.point_rounds.specs.Closed.{AreStepsFrom, CoverTable, StatesHold, TellCalls}
use Rattle.point_rounds.specs.Sayings.{sayings_of_table}
use Rattle.point_rounds.specs.Table.{IsTable}
use Rattle.point_verdicts.specs.declared.assertion.PointAssertion.{PointAssertion}

-- an assertion of a procedure of the program with the procedure's graph and heads, and with a table
-- and steps of the program
pub record IsPointAssertion (assertion : PointAssertion) : Type 0 where
  pub formed : IsWellFormed assertion.program.now
  pub procedure : assertion.proc < length assertion.program.now.procs
  pub graph : IsGraphOf assertion.program.now assertion.proc assertion.graph.now
  pub heads : assertion.heads.now ≡ heads_of (plain assertion.graph.now)
  pub check : assertion.check < length assertion.graph.now.checks
  pub table : IsTable assertion.program.now assertion.round.now.table
  pub steps : AreStepsFrom assertion.program.now assertion.round.now.steps

-- The rows of the table are true in every execution from `main`; the known formulas tell what calls
-- do, the states hold at points, and the steps from them cover what happens there.
pub record StandsAtPoints (program : Program) (known : List (Option Transition))
    (states : List PointState) (round : PointRound) : Type 0 where
  pub rows : AreTrue program (sayings_of_table program round.table)
  pub calls : TellCalls program known
  pub reached : StatesHold program states
  pub covered : CoverTable program known states round.steps round.table
