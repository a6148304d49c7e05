-- The table of rows: which stand at a point of a procedure and at its exit.
use Rattle.std.specs.Prelude.{◌≡◌, ◌≤◌, ◌+◌, ◌==◌, ℕ, List, [], ◌∷◌, Some, length, unwrap_or, slice_get, if◌then◌else◌}
use Rattle.linear_terms.specs.declared.row.Row.{Row}
use Rattle.syntax_tree.specs.declared.program.Proc.{Proc}
use Rattle.syntax_tree.specs.declared.program.Program.{Program}
use Rattle.syntax_tree.specs.WellFormed.{width_of}
use Rattle.vocabularies.specs.Ends.{entry_width}
use Rattle.vocabularies.specs.Procs.{IsProcOf}
use Rattle.flow_graph.specs.FlowGraph.{graph_of}
use Rattle.point_induction.specs.Points.{points_of}
use Rattle.leaf_cases.specs.Conditions.{exits_of}
use Rattle.point_rows.specs.Exits.{exit_rows_at}
use Rattle.point_rows.specs.Reading.{AreOverColumns}
use Rattle.point_rounds.specs.declared.table.PointTable.{PointTable}

-- how many rows stand at a place at most
abbrev pub most_rows_at_point : ℕ
most_rows_at_point = 96

-- ---- places

-- what stands for a point in a list that has one for each of these points; nothing where the point
-- is none of them
abbrev pub list_at_node : {A : Type 0} → ℕ → List ℕ → List (List A) → List A
list_at_node node [] lists = []
list_at_node node (point ∷ points) [] = []
list_at_node node (point ∷ points) (list ∷ lists) =
    if node == point then list else list_at_node node points lists

-- what stands for a point of a procedure in lists by procedures and points; nothing where there is
-- no such point
abbrev pub list_at_point : {A : Type 0} → Program → List (List (List A)) → ℕ → ℕ → List A
list_at_point program lists proc node =
    list_at_node node (points_of (graph_of program proc)) (unwrap_or (slice_get lists proc) [])

-- the rows at a point of a procedure
abbrev pub rows_at : Program → PointTable → ℕ → ℕ → List Row
rows_at program table proc node = list_at_point program table.points proc node

-- the rows at the exit of a procedure
abbrev pub rows_at_exit : PointTable → ℕ → List Row
rows_at_exit table proc = exit_rows_at table.exits proc

-- ---- which tables there are

-- the number of columns of the rows at a point
abbrev pub point_columns : Program → Proc → ℕ → ℕ
point_columns program p node = if node == 0 then entry_width program p else width_of program p

-- the number of columns of the rows at an exit
abbrev pub pair_columns : Program → Proc → ℕ
pair_columns program p = entry_width program p + exits_of program p

-- the rows of a place: few, over so many columns
pub record ArePlaced (columns : ℕ) (rows : List Row) : Type 0 where
  pub few : length rows ≤ most_rows_at_point
  pub over : AreOverColumns columns rows

-- A list of rows for each point and each exit. `main` begins as it likes, so no rows stand at its
-- entry; and none at its exit, where the execution is over.
pub record IsTable (program : Program) (table : PointTable) : Type 0 where
  pub procs : length table.points ≡ length program.procs
  pub exits : length table.exits ≡ length program.procs
  pub points : (proc : ℕ) (lists : List (List Row)) → slice_get table.points proc ≡ Some lists
      → length lists ≡ length (points_of (graph_of program proc))
  pub at : (proc : ℕ) (p : Proc) → IsProcOf program proc p → (node : ℕ)
      → ArePlaced (point_columns program p node) (rows_at program table proc node)
  pub at_exit : (proc : ℕ) (p : Proc) → IsProcOf program proc p
      → ArePlaced (pair_columns program p) (rows_at_exit table proc)
  pub main_entry : rows_at program table program.main 0 ≡ []
  pub main_exit : rows_at_exit table program.main ≡ []
