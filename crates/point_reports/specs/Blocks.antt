-- The rows of a table as they are told: procedure by procedure, in each those at its points in their
-- order, and then those where it returns.
use Rattle.std.specs.Prelude.{ℕ, ◌+◌, List, [], ◌∷◌, ◌++◌, map, take, unwrap_or}
use Rattle.linear_terms.specs.declared.row.Row.{Row}
use Rattle.syntax_tree.specs.declared.program.Column.{Column}
use Rattle.syntax_tree.specs.declared.program.Proc.{Proc}
use Rattle.syntax_tree.specs.declared.program.Program.{Program}
use Rattle.flow_graph.specs.FlowGraph.{graph_of}
use Rattle.point_induction.specs.Points.{heads_of}
use Rattle.report.specs.declared.points.PointRows.{PointRows}
use Rattle.report.specs.declared.points.RowsAt.{RowsAt}
use Rattle.report.specs.declared.points.RowsAt.TheVariants.{Entry, Loop, Return}
use Rattle.point_rounds.specs.declared.table.PointTable.{PointTable}
use Rattle.point_rounds.specs.Table.{rows_at, rows_at_exit}
use Rattle.analysis.specs.Judging.{global_names}

-- the name of a column; the empty one where the text has none
abbrev pub name_of : Column → List ℕ
name_of c = unwrap_or c.name []

-- the names of the globals, and behind them those of columns
abbrev pub names_before : Program → List Column → List (List ℕ)
names_before program columns = global_names program ++ map name_of columns

-- The names of the first columns that rows at a place have: at a point all of the procedure but the
-- last one, which has the returned value, and where it returns those of its entry.
abbrev pub names_at : Program → Proc → RowsAt → List (List ℕ)
names_at program p Entry = names_before program p.columns
names_at program p (Loop number) = names_before program p.columns
names_at program p Return = names_before program (take p.params p.columns)

-- the globals where rows are on a return
abbrev pub names_after : Program → RowsAt → List (List ℕ)
names_after program Entry = []
names_after program (Loop number) = []
names_after program Return = global_names program

-- the rows at a place of the procedure of a number, if there are some
abbrev pub rows_told : Program → ℕ → Proc → RowsAt → List Row → List PointRows
rows_told program proc p at [] = []
rows_told program proc p at (row ∷ rows) =
    record {
      proc = proc;
      name = p.name;
      at = at;
      columns = names_at program p at;
      after = names_after program at;
      rows = row ∷ rows;
    } ∷ []

-- the rows at these heads, of which the first has a number
abbrev pub rows_at_loops : Program → PointTable → ℕ → Proc → ℕ → List ℕ → List PointRows
rows_at_loops program table proc p number [] = []
rows_at_loops program table proc p number (head ∷ heads) =
    rows_told program proc p (Loop number) (rows_at program table proc head)
    ++ rows_at_loops program table proc p (number + 1) heads

-- the rows of a procedure: at its entry, at its heads in their order, and where it returns
abbrev pub rows_of_proc : Program → PointTable → ℕ → Proc → List PointRows
rows_of_proc program table proc p =
    rows_told program proc p Entry (rows_at program table proc 0)
    ++ (rows_at_loops program table proc p 1 (heads_of (graph_of program proc))
    ++ rows_told program proc p Return (rows_at_exit table proc))

-- the rows of the procedures, of which the first has a number
abbrev pub rows_from : Program → PointTable → ℕ → List Proc → List PointRows
rows_from program table proc [] = []
rows_from program table proc (p ∷ procs) =
    rows_of_proc program table proc p ++ rows_from program table (proc + 1) procs

-- the rows of a table
abbrev pub rows_of_table : Program → PointTable → List PointRows
rows_of_table program table = rows_from program table 0 program.procs
