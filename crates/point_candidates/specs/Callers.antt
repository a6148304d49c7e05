-- The rows of a procedure's callers.
use Rattle.std.specs.Prelude.{◌+◌}
use Rattle.syntax_tree.specs.declared.program.Proc.{Proc}
use Rattle.syntax_tree.specs.declared.program.Program.{Program}
use Rattle.vocabularies.specs.Ends.{entry_width}
use Rattle.leaf_cases.specs.Conditions.{exits_of}
use Rattle.point_rows.specs.Reading.{AreOverColumns}
use Rattle.point_candidates.specs.declared.calling.CallerRows.{CallerRows}

-- the rows at the entry are over its columns, and those at the exit over the columns of the pair
pub record AreCallerRows (program : Program) (p : Proc) (rows : CallerRows) : Type 0 where
  pub entry : AreOverColumns (entry_width program p) rows.at_entry
  pub exit : AreOverColumns (entry_width program p + exits_of program p) rows.at_exit
