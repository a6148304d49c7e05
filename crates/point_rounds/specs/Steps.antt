-- Steps: what leads from a point to the next point of the same activation, to the entry of a
-- procedure that it calls, or out of it. Rows that every step keeps are true in every execution.
use Rattle.std.specs.Prelude.{◌≡◌, ◌≢◌, ℕ, Option, Some, List, ◌++◌, length, slice_get, take, true}
use Rattle.linear_terms.specs.declared.row.Row.{Row}
use Rattle.syntax_tree.specs.declared.program.Program.{Program}
use Rattle.syntax_tree.specs.Code.{Call}
use Rattle.syntax_tree.specs.Term.{Term}
use Rattle.syntax_tree.specs.Value.{State}
use Rattle.execution.specs.Step.{values_of}
use Rattle.flow_graph.specs.FlowGraph.{Arc, body_of, exit_of}
use Rattle.flow_graph.specs.Laws.{last_of}
use Rattle.flow_graph.specs.Walks.{WalksTo}
use Rattle.point_induction.specs.Points.{Arrival, Passage, is_point}
use Rattle.point_induction.specs.Induction.{AreTrue, ReturnsSaid, arcs_of}
use Rattle.point_rows.specs.Reading.{AreTrueOf}
use Rattle.point_rounds.specs.declared.table.PointTable.{PointTable}
use Rattle.point_rounds.specs.Chains.{StandsOnChain}
use Rattle.point_rounds.specs.Sayings.{pair_numbers, sayings_of_table}
use Rattle.point_rounds.specs.Table.{IsTable, rows_at, rows_at_exit}

-- where a step from a point of a procedure leads: to a head of the procedure, to the entry of a
-- procedure that is called, or to the exit
pub data StepGoal : Type 0 where
  ToHead : (node : ℕ) → StepGoal
  ToEntry : (callee : ℕ) → StepGoal
  ToExit : StepGoal

-- which steps there are from a point of a procedure to a goal, between which numbers: of the
-- columns at the point; and of the columns at a head, of the globals and arguments at an entry, or
-- of the pair of entry and exit
abbrev pub StepMeaning : Type 1
StepMeaning = (proc node : ℕ) → StepGoal → (before after : State) → Type 0

-- the rows at a goal of steps of a procedure
abbrev pub rows_at_goal : Program → PointTable → ℕ → StepGoal → List Row
rows_at_goal program table proc (ToHead node) = rows_at program table proc node
rows_at_goal program table proc (ToEntry callee) = rows_at program table callee 0
rows_at_goal program table proc ToExit = rows_at_exit table proc

-- Each step keeps the rows: where those at its point are true, those at its goal are.
abbrev pub KeepsRows : Program → PointTable → StepMeaning → Type 0
KeepsRows program table steps = (proc node : ℕ) (goal : StepGoal) (before after : State)
    → steps proc node goal before after → AreTrueOf (rows_at program table proc node) before
    → AreTrueOf (rows_at_goal program table proc goal) after

-- an activation on top of a stack from `main` is at a point in a state
pub record IsAtPoint (program : Program) (proc point : ℕ) (globals args before : State)
    : Type 0 where
  pub is : is_point (arcs_of program proc) point ≡ true
  pub stands : StandsOnChain program (record { proc = proc; globals = globals; args = args })
  pub walk : WalksTo program proc globals args point before

-- There is a step for all that an activation does from a point on, where the rows at exits are true
-- of each call that returned: for each arrival at a head, each call behind a passage, and, but in
-- `main`, each passage to the exit.
pub record CoversPassages (program : Program) (table : PointTable) (steps : StepMeaning)
    : Type 0 where
  pub heads : (proc point head : ℕ) (globals args before after : State)
      → IsAtPoint program proc point globals args before
      → Arrival (ReturnsSaid program (sayings_of_table program table)) (length program.globals)
      (arcs_of program proc) point before head after
      → steps proc point (ToHead head) before after
  pub entries : (proc point : ℕ) (globals args before after : State)
      → IsAtPoint program proc point globals args before
      → (edge : ℕ) (way : Arc) → slice_get (arcs_of program proc) edge ≡ Some way
      → Passage (ReturnsSaid program (sayings_of_table program table)) (length program.globals)
      (arcs_of program proc) point before way.from after
      → (callee : ℕ) (terms : List Term) (into : Option ℕ) (values : State)
      → way.act ≡ Call callee terms into → values_of terms after ≡ Some values
      → steps proc point (ToEntry callee) before (take (length program.globals) after ++ values)
  pub exits : (proc point : ℕ) (globals args before after : State) → proc ≢ program.main
      → IsAtPoint program proc point globals args before
      → Passage (ReturnsSaid program (sayings_of_table program table)) (length program.globals)
      (arcs_of program proc) point before (exit_of (body_of (slice_get program.procs proc))) after
      → steps proc point ToExit before
      (pair_numbers program proc globals args (take (length program.globals) after) (last_of after))

-- Rows that every step keeps, where there is a step for all that happens, are true in every
-- execution from `main`.
abbrev pub KeptRowsAreTrue : Type 1
KeptRowsAreTrue = (program : Program) (table : PointTable) (steps : StepMeaning)
    → IsTable program table → CoversPassages program table steps → KeepsRows program table steps
    → AreTrue program (sayings_of_table program table)
