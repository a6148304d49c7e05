-- The text of a report.
use Rattle.std.specs.Prelude.{ℕ, ℤ, ◌+◌, ◌-◌, Bool, true, false, ◌&&◌, nat_lt, decimal, Option, None, Some, List, [], ◌∷◌, ◌++◌, length, codes, map, take, if◌then◌else◌, slice_get, slice_index_or}
use Rattle.std.specs.List.{flat_map, count_by, list_any, range_with_len}
use Rattle.std.specs.Str.{bytes_eq}
use Rattle.std.specs.Fmt.{signed_decimal}
use Rattle.linear_terms.specs.declared.col.Col.{Col}
use Rattle.linear_terms.specs.declared.col.Col.TheVariants.{At, Aux}
use Rattle.linear_terms.specs.declared.row.Row.{Row}
use Rattle.linear_terms.specs.declared.row.Case.{Case}
use Rattle.linear_terms.specs.Polynomial.{Polynomial}
use Rattle.linear_terms.specs.Texts.{mono_text, poly_text, row_text}
use Rattle.transition_formula.specs.declared.loss.Loss.{Loss}
use Rattle.transition_formula.specs.declared.loss.Loss.TheVariants as loss
use Rattle.farkas_check.specs.declared.answer.Limit.{Limit}
use Rattle.farkas_check.specs.declared.answer.Limit.TheVariants as limit
use Rattle.farkas_check.specs.Columns.{columns}
use Rattle.farkas_check.specs.Ratios.{Fraction, ratio_text}
use Rattle.posing.specs.declared.note.Note.{Note}
use Rattle.posing.specs.declared.note.Note.TheVariants as note
use Rattle.posing.specs.declared.note.Witness.{Witness}
use Rattle.posing.specs.declared.note.Witness.TheVariants as witness
use Rattle.report.specs.declared.verdict.Verdict.{Verdict}
use Rattle.report.specs.declared.verdict.Verdict.TheVariants.{Proved, Unproved, UnprovedLimit}
use Rattle.report.specs.declared.blocks.ProcBlock.{ProcBlock}
use Rattle.report.specs.declared.blocks.Judged.{Judged}
use Rattle.report.specs.declared.blocks.Report.{Report}

-- texts by their places, and the names of columns by their numbers
abbrev pub Names : Type 0
Names = List (List ℕ)

-- a name by its place
abbrev pub name_at : Names → ℕ → List ℕ
name_at names i = slice_index_or names i []

-- ---- columns, by which polynomials and rows are written as everywhere

-- a column by its name, and an auxiliary by its number from 1
abbrev pub column_text : Names → Col → List ℕ
column_text names (At number) = name_at names number
column_text names (Aux number) = codes "$" ++ decimal (number + 1)

-- ---- points and limits

-- a monomial and its number
abbrev pub value_text : Names → List Col → Fraction → List ℕ
value_text names m z = mono_text (column_text names) m ++ codes " = " ++ ratio_text z

-- the numbers of the monomials that are left
abbrev pub more_values : Names → List (List Col) → List Fraction → List ℕ
more_values names [] at = []
more_values names (m ∷ of) [] = []
more_values names (m ∷ of) (z ∷ at) = codes ", " ++ value_text names m z ++ more_values names of at

-- a point: a number for each monomial, or none where there is no monomial
abbrev pub point_text : Names → List (List Col) → List Fraction → List ℕ
point_text names [] at = codes "point none"
point_text names (m ∷ of) [] = codes "point none"
point_text names (m ∷ of) (z ∷ at) = codes "point " ++ value_text names m z ++ more_values names of
    at

-- two numbers whose product or sum has no 128 bits
unfoldable pub wide_text : ℤ → ℤ → Bool → List ℕ
wide_text left right times =
    codes "wide " ++ signed_decimal left ++ (if times then codes " * " else codes " + ")
    ++ signed_decimal right

-- a limit by its kind; of one that is too wide the two numbers are told
abbrev pub limit_text : Limit → List ℕ
limit_text (limit.Wide left right times) = codes "limit " ++ wide_text left right times
limit_text limit.Pivots = codes "limit pivots"

-- ---- the names of columns

-- an earlier name is the same as the one at a place
abbrev pub stands_before : Names → ℕ → Bool
stands_before names i = nat_lt i (length names) && list_any (bytes_eq (name_at names i))
    (take i names)

-- a column's name, with its number where an earlier column has the same name
abbrev pub shown_name : Names → ℕ → ℕ → List ℕ
shown_name names number i =
    name_at names i ++ (if stands_before names i then codes "#" ++ decimal number else [])

-- a column at the exit: a global, or the returned value behind these
abbrev pub exit_name : Names → ℕ → List ℕ
exit_name after i = if nat_lt i (length after) then name_at after i ++ codes "'" else codes "$ret"

-- the names of the columns at the entry
abbrev pub entry_names : Names → Names
entry_names before = map (λ i. shown_name before i i) (range_with_len 0 (length before))

-- the names of the columns at the exit: the globals, each with a prime, and `$ret` last
abbrev pub exit_names : Names → Names
exit_names after = map (λ name. name ++ codes "'") after ++ codes "$ret" ∷ []

-- the names that a procedure's rows have: its columns at the entry, and behind these those at the
-- exit
abbrev pub column_names : ProcBlock → Names
column_names block = entry_names block.before ++ exit_names block.after

-- the names that a procedure's rows have; [] where there is no procedure
abbrev pub names_if : Option ProcBlock → Names
names_if None = []
names_if (Some block) = column_names block

-- those of the procedure of a number
abbrev pub names_of : List ProcBlock → ℕ → Names
names_of blocks proc = names_if (slice_get blocks proc)

-- ---- notes

-- what was lost: two numbers whose product or sum is too wide, or a monomial of too many columns
abbrev pub loss_text : Loss → List ℕ
loss_text (loss.Wide left right times) = wide_text left right times
loss_text loss.Degree = codes "degree"

-- what speaks against a row: a point or a limit
abbrev pub witness_text : Names → Witness → List ℕ
witness_text names (witness.Point of at) = point_text names of at
witness_text names (witness.Limit l) = limit_text l

-- a row that was dropped, and what speaks against it
unfoldable pub dropped_text : Names → Row → Witness → List ℕ
dropped_text names row by = codes "dropped " ++ row_text (column_text names) row ++ codes " "
    ++ witness_text names by

-- a note without its line; a dropped row has the names of its own procedure
abbrev pub note_text : List ProcBlock → Note → List ℕ
note_text blocks (note.Loss l) = loss_text l
note_text blocks (note.Squash n) = codes "squash " ++ decimal n ++ codes " cases"
note_text blocks (note.Cut n) = codes "cut " ++ decimal n ++ codes " rows"
note_text blocks (note.Limit l) = limit_text l
note_text blocks (note.Dropped proc row by) = dropped_text (names_of blocks proc) row by
note_text blocks note.Facets = codes "facets beyond"

-- the line of a note
abbrev pub note_line : List ProcBlock → Note → List ℕ
note_line blocks n = codes "note " ++ note_text blocks n ++ codes "\n"

-- ---- procedures

-- the line of a row, indented by two spaces
abbrev pub row_line : Names → Row → List ℕ
row_line names row = codes "  " ++ row_text (column_text names) row ++ codes "\n"

-- the line of a post behind its name, indented by two spaces
abbrev pub post_line : Names → List ℕ → Polynomial → List ℕ
post_line names name p = codes "  " ++ name ++ codes " = " ++ poly_text (column_text names) p
    ++ codes "\n"

-- the posts from number i on, each behind the name that it has by its number
abbrev pub post_lines : Names → (ℕ → List ℕ) → ℕ → List Polynomial → List ℕ
post_lines names name i [] = []
post_lines names name i (p ∷ posts) = post_line names (name i) p ++ post_lines names name (i + 1)
    posts

-- a case with its number: its rows, and then its posts by the names at the exit
abbrev pub case_text : Names → Names → ℕ → Case → List ℕ
case_text names after number case =
    codes "case " ++ decimal number ++ codes "\n" ++ flat_map (row_line names) case.rows
    ++ post_lines names (exit_name after) 0 case.post

-- the cases, of which the first has a number
abbrev pub cases_from : Names → Names → ℕ → List Case → List ℕ
cases_from names after number [] = []
cases_from names after number (case ∷ cases) = case_text names after number case ++ cases_from names
    after (number + 1) cases

-- all cases, numbered from 1; `none` where there is no case
abbrev pub cases_text : Names → Names → List Case → List ℕ
cases_text names after [] = codes "none\n"
cases_text names after (case ∷ cases) = cases_from names after 1 (case ∷ cases)

-- a procedure, and the notes of its group
abbrev pub proc_text : List ProcBlock → ProcBlock → List ℕ
proc_text blocks block =
    codes "procedure " ++ block.name ++ codes "\n" ++ cases_text (column_names block) block.after
    block.formula.cases
    ++ flat_map (note_line blocks) block.notes

-- ---- assertions

-- the name of the i-th shown column
abbrev pub shown_name_at : Names → List ℕ → ℕ → List ℕ
shown_name_at named shown i = shown_name named (slice_index_or shown i 0) i

-- a case in which an assertion would fail: in it columns are auxiliaries
abbrev pub refuting_text : Names → List ℕ → Case → List ℕ
refuting_text named shown case = flat_map (row_line []) case.rows ++ post_lines []
    (shown_name_at named shown) 0 case.post

-- the rest of an assertion's line, and below it the case and the point or limit of an unproved one
abbrev pub verdict_text : Names → List ℕ → Verdict → List ℕ
verdict_text named shown Proved = codes " proved\n"
verdict_text named shown (Unproved case point) =
    codes " unproved\n" ++ refuting_text named shown case ++ codes "  " ++ point_text []
    (columns case.rows []) point ++ codes "\n"
verdict_text named shown (UnprovedLimit case l) =
    codes " unproved\n" ++ refuting_text named shown case ++ codes "  " ++ limit_text l
    ++ codes "\n"

-- an assertion with its number, its line and column, its verdict and its notes
abbrev pub judged_text : List ProcBlock → ℕ → Judged → List ℕ
judged_text blocks number j =
    codes "assertion " ++ decimal number ++ codes " at " ++ decimal j.line ++ codes ":"
    ++ decimal j.column
    ++ verdict_text j.named j.shown j.verdict ++ flat_map (note_line blocks) j.notes

-- the assertions, of which the first has a number
abbrev pub assertions_text_from : List ProcBlock → ℕ → List Judged → List ℕ
assertions_text_from blocks number [] = []
assertions_text_from blocks number (j ∷ js) = judged_text blocks number j ++ assertions_text_from blocks (number + 1)
    js

-- ---- the whole

-- whether a verdict is that it is proved
abbrev pub is_proof : Verdict → Bool
is_proof Proved = true
is_proof (Unproved case point) = false
is_proof (UnprovedLimit case l) = false

-- whether an assertion is proved
abbrev pub is_proved : Judged → Bool
is_proved j = is_proof j.verdict

-- how many of the assertions are proved
abbrev pub proved_count : List Judged → ℕ
proved_count js = count_by is_proved js

-- the last line: how many assertions are proved, and how many are not
abbrev pub total_text : List Judged → List ℕ
total_text js =
    codes "total " ++ decimal (proved_count js) ++ codes " proved, "
    ++ decimal (length js - proved_count js) ++ codes " unproved\n"

-- the whole report: the procedures, the notes on their entries, the assertions numbered from 1, and
-- the total
abbrev pub text_of : Report → List ℕ
text_of report =
    flat_map (proc_text report.procs) report.procs ++ flat_map (note_line report.procs) report.notes
    ++ assertions_text_from report.procs 1 report.judged ++ total_text report.judged
