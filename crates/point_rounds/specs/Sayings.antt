-- What a table of rows says of executions from `main`.
use Rattle.std.specs.Prelude.{ℕ, ℤ, List, ◌++◌, Option, None, Some, slice_get}
use Rattle.syntax_tree.specs.declared.program.Proc.{Proc}
use Rattle.syntax_tree.specs.declared.program.Program.{Program}
use Rattle.syntax_tree.specs.Value.{State}
use Rattle.flow_graph.specs.Walks.{WalksTo}
use Rattle.leaf_cases.specs.Summaries.{exit_values}
use Rattle.point_induction.specs.Induction.{Sayings}
use Rattle.point_rows.specs.Reading.{AreTrueOf}
use Rattle.point_rounds.specs.declared.table.PointTable.{PointTable}
use Rattle.point_rounds.specs.Chains.{StandsOnChain}
use Rattle.point_rounds.specs.Table.{rows_at, rows_at_exit}

-- An activation on top of a stack from `main` came to a node in a state, and the rows that the
-- table has there are true of it.
pub record IsMetAt (program : Program) (table : PointTable) (proc node : ℕ)
    (globals args state : State) : Type 0 where
  pub stands : StandsOnChain program (record { proc = proc; globals = globals; args = args })
  pub walk : WalksTo program proc globals args node state
  pub rows : AreTrueOf (rows_at program table proc node) state

-- the numbers of a return, behind those of the entry: the globals that are left and the value, if
-- the procedure returns one
abbrev pub exit_numbers : Option Proc → State → ℤ → List ℤ
exit_numbers None left value = left
exit_numbers (Some p) left value = exit_values p left value

-- what a return is over: the globals and arguments at the entry, and the numbers of the return
abbrev pub pair_numbers : Program → ℕ → State → State → State → ℤ → List ℤ
pair_numbers program proc globals args left value =
    globals ++ (args ++ exit_numbers (slice_get program.procs proc) left value)

-- the rows at points are true there, and the rows at exits of what returned
abbrev pub sayings_of_table : Program → PointTable → Sayings
sayings_of_table program table = record {
  at = IsMetAt program table;
  returned = λ proc globals args left value. AreTrueOf (rows_at_exit table proc)
      (pair_numbers program proc globals args left value);
}
