-- The lists of which a table is made.
use Rattle.std.specs.Prelude.{◌≡◌, ℕ, Bool, true, List, [], ◌∷◌, Some, length, slice_get}
use Rattle.std.specs.List.{AllByRecursion}
use Rattle.linear_terms.specs.declared.row.Row.{Row}
use Rattle.syntax_tree.specs.declared.program.Proc.{Proc}
use Rattle.syntax_tree.specs.declared.program.Program.{Program}
use Rattle.syntax_tree.specs.WellFormed.{width_of}
use Rattle.flow_graph.specs.FlowGraph.{graph_of}
use Rattle.point_induction.specs.Points.{heads_of}
use Rattle.vocabularies.specs.Ends.{entry_width}
use Rattle.vocabularies.specs.Procs.{IsProcOf}
use Rattle.point_rounds.specs.Table.{ArePlaced, pair_columns}

-- few rows over columns, and none where none may be
pub record ArePlacedUnless (none : Bool) (columns : ℕ) (rows : List Row) : Type 0 where
  pub placed : ArePlaced columns rows
  pub no_rows : none ≡ true → rows ≡ []

-- so many lists of few rows over columns
pub record ArePlacedAt (count columns : ℕ) (lists : List (List Row)) : Type 0 where
  pub long : length lists ≡ count
  pub placed : AllByRecursion (ArePlaced columns) lists

-- the rows at the entry of a procedure, where none stand if it is `main`
pub record IsEntryList (program : Program) (proc : ℕ) (p : Proc) (rows : List Row) : Type 0 where
  pub main : proc ≡ program.main → rows ≡ []
  pub placed : ArePlaced (entry_width program p) rows

-- the lists of a procedure: one for its entry, where none stand if it is `main`, and one for each of
-- its heads
pub record AreListsOf (program : Program) (proc : ℕ) (lists : List (List Row)) : Type 0 where
  pub entry : List Row
  pub others : List (List Row)
  pub is : lists ≡ entry ∷ others
  pub long : length others ≡ length (heads_of (graph_of program proc))
  pub main : proc ≡ program.main → entry ≡ []
  pub at_entry : (p : Proc) → IsProcOf program proc p → ArePlaced (entry_width program p) entry
  pub at_heads : (p : Proc) → IsProcOf program proc p
      → AllByRecursion (ArePlaced (width_of program p)) others

-- the lists of so many procedures
pub record ArePointLists (program : Program) (count : ℕ) (points : List (List (List Row)))
    : Type 0 where
  pub each : length points ≡ count
  pub are : (proc : ℕ) (lists : List (List Row)) → slice_get points proc ≡ Some lists
      → AreListsOf program proc lists

-- the rows at the exit of a procedure, where none stand if it is `main`
pub record IsExitList (program : Program) (proc : ℕ) (rows : List Row) : Type 0 where
  pub main : proc ≡ program.main → rows ≡ []
  pub placed : (p : Proc) → IsProcOf program proc p → ArePlaced (pair_columns program p) rows

-- the rows at the exits of so many procedures
pub record AreExitLists (program : Program) (count : ℕ) (exits : List (List Row)) : Type 0 where
  pub each : length exits ≡ count
  pub are : (proc : ℕ) (rows : List Row) → slice_get exits proc ≡ Some rows
      → IsExitList program proc rows
