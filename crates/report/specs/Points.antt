-- The text of rows that hold where activations are at points of their procedures, or return; and
-- the report with these.
use Rattle.std.specs.Prelude.{ℕ, Bool, decimal, List, ◌++◌, codes, if◌then◌else◌}
use Rattle.std.specs.List.{flat_map}
use Rattle.report.specs.declared.blocks.Report.{Report}
use Rattle.report.specs.declared.points.PointRows.{PointRows}
use Rattle.report.specs.declared.points.PointsTold.{PointsTold}
use Rattle.report.specs.declared.points.RowsAt.{RowsAt}
use Rattle.report.specs.declared.points.RowsAt.TheVariants.{Entry, Loop, Return}
use Rattle.report.specs.Text.{Names, assertions_text_from, entry_names, exit_names, note_line, proc_text, row_line, total_text}

-- where rows hold, by the name of the procedure
unfoldable pub place_text : RowsAt → List ℕ → List ℕ
place_text Entry name = codes "reached " ++ name
place_text (Loop number) name = codes "reached " ++ name ++ codes " loop " ++ decimal number
place_text Return name = codes "returned " ++ name

-- the names that the rows have: their first columns, and behind these the globals at the exit and
-- the returned value
abbrev pub row_names : PointRows → Names
row_names point = entry_names point.columns ++ exit_names point.after

-- a line that says where the rows hold, and below it a line for each
abbrev pub point_rows_text : PointRows → List ℕ
point_rows_text point =
    place_text point.at point.name ++ codes "\n"
    ++ flat_map (row_line (row_names point)) point.rows

-- a line that says that rows may be missing, where the search for them ended at its counts
abbrev pub search_text : Bool → List ℕ
search_text is_cut = if is_cut then codes "note search beyond\n" else codes ""

-- the whole report with rows at points: the procedures, the notes on their entries and on the search
-- for rows, the rows, the assertions numbered from 1, and the total
abbrev pub text_with_points : Report → PointsTold → List ℕ
text_with_points report told =
    flat_map (proc_text report.procs) report.procs ++ flat_map (note_line report.procs) report.notes
    ++ search_text told.is_cut ++ flat_map point_rows_text told.rows
    ++ assertions_text_from report.procs 1 report.judged ++ total_text report.judged
