-- Rounds of questions on a table of rows. A round makes the steps by the table as it stands, asks
-- each row in each case of each step to its place, and drops the rows that are not shown; the last
-- round drops none.
use Rattle.std.specs.Prelude.{ℕ, suc, ◌+◌, ◌==◌, ◌&&◌, Bool, true, false, if◌then◌else◌, List, [], ◌∷◌, ◌++◌, Option, None, Some, drop, length, map, slice_get}
use Rattle.std.specs.List.{list_any}
use Rattle.linear_terms.specs.declared.row.Case.{Case}
use Rattle.linear_terms.specs.declared.row.Row.{Row}
use Rattle.linear_terms.specs.Polynomial.{Polynomial}
use Rattle.farkas_check.specs.declared.question.Question.TheVariants.{Infeasible}
use Rattle.syntax_tree.specs.declared.program.Proc.{Proc}
use Rattle.syntax_tree.specs.declared.program.Program.{Program}
use Rattle.transition_formula.specs.Transition.{Transition}
use Rattle.posing.specs.Posing.{Posing, Done, answer_to, ◌>>=◌, each, until}
use Rattle.polyhedra.specs.Infeasibility.{is_yes}
use Rattle.flow_graph.specs.FlowGraph.{graph_of}
use Rattle.point_induction.specs.Points.{points_of}
use Rattle.leaf_cases.specs.Conditions.{columns_at}
use Rattle.point_induction.specs.Points.{points_of}
use Rattle.point_rows.specs.Exits.{formulas_with_exits}
use Rattle.point_rows.specs.Reading.{contraries_of, given_rows}
use Rattle.point_ways.specs.Ways.{ways_from}
use Rattle.point_steps.specs.declared.target.PointStep.{PointStep}
use Rattle.point_steps.specs.declared.target.Target.{Target}
use Rattle.point_steps.specs.declared.target.Target.TheVariants as target
use Rattle.point_steps.specs.Steps.{steps_from}
use Rattle.point_rounds.specs.declared.round.FallenRow.{FallenRow}
use Rattle.point_rounds.specs.declared.round.PointRound.{PointRound}
use Rattle.point_rounds.specs.declared.round.PointState.{PointState}
use Rattle.point_rounds.specs.declared.round.RowPlace.{RowPlace}
use Rattle.point_rounds.specs.declared.round.RowPlace.TheVariants.{AtPoint, AtExit}
use Rattle.point_rounds.specs.declared.round.StepFrom.{StepFrom}
use Rattle.point_rounds.specs.declared.table.PointTable.{PointTable}
use Rattle.point_rounds.specs.Table.{rows_at, rows_at_exit}

-- ---- the steps by a table

-- the steps, each with where it leads from
abbrev pub from_point : PointState → List PointStep → List StepFrom
from_point state steps =
    map (λ (step : PointStep). record { proc = state.proc; node = state.node; step = step }) steps

-- the steps from a point of this procedure; of a procedure that isn't there, none
abbrev pub steps_in : Program → List (Option Transition) → PointState → Option Proc
    → Posing (List PointStep)
steps_in program known state None = Done []
steps_in program known state (Some p) =
    ways_from program p known state.node >>= λ cells.
    steps_from program state.proc p state.node state.formula cells

-- the steps made, and behind them those from one point more
unfoldable pub with_state : Program → List (Option Transition) → List StepFrom → PointState
    → Posing (List StepFrom)
with_state program known made state =
    steps_in program known state (slice_get program.procs state.proc) >>= λ steps.
    Done (made ++ from_point state steps)

-- the steps from all points, where calls are read by the known formulas with the rows at exits
abbrev pub steps_by_table : Program → List (Option Transition) → List PointState → PointTable
    → Posing (List StepFrom)
steps_by_table program known states table =
    each (with_state program (formulas_with_exits known table.exits)) [] states

-- ---- the questions on a row

-- whether a row is refuted, put behind those that are given
unfoldable pub row_refuted : List Row → Row → Posing Bool
row_refuted given row =
    answer_to (Infeasible (given ++ row ∷ [])) >>= λ answer. Done (is_yes answer)

-- whether each of the rows is; the first that is not ends it
abbrev pub all_refuted : List Row → List Row → Posing Bool
all_refuted given [] = Done true
all_refuted given (row ∷ rows) =
    row_refuted given row >>= λ refuted. if refuted then all_refuted given rows else Done false

-- the same of contraries that may be lost: then nothing is asked
abbrev pub none_possible : List Row → Option (List Row) → Posing Bool
none_possible given None = Done false
none_possible given (Some contraries) = all_refuted given contraries

-- whether what is given shows the row, whose columns are the posts
unfoldable pub row_shown : List Row → List Polynomial → Row → Posing Bool
row_shown given posts row = none_possible given (contraries_of posts row)

-- ---- rows that fall

-- where a step of a procedure leads to; no rows stand at checks
abbrev pub place_of : ℕ → Target → Option RowPlace
place_of proc (target.Head node) = Some (AtPoint proc node)
place_of proc (target.Entry callee) = Some (AtPoint callee 0)
place_of proc target.Exit = Some (AtExit proc)
place_of proc (target.Check number) = None

-- the rows at a place
abbrev pub rows_at_place : Program → PointTable → RowPlace → List Row
rows_at_place program table (AtPoint proc node) = rows_at program table proc node
rows_at_place program table (AtExit proc) = rows_at_exit table proc

-- the rows with their numbers, from one on
abbrev pub with_numbers_from : ℕ → List Row → List (ℕ × Row)
with_numbers_from n [] = []
with_numbers_from n (row ∷ rows) = (n, row) ∷ with_numbers_from (n + 1) rows

-- the rows that fell, and one more unless it is shown
abbrev pub unless_shown : RowPlace → ℕ → List FallenRow → Bool → List FallenRow
unless_shown place number fell shown =
    if shown then fell else (fell ++ record { place = place; number = number } ∷ [])

-- the rows that fell, with the judgement on one row of the place
unfoldable pub with_row : RowPlace → List Row → List Polynomial → List FallenRow → ℕ × Row
    → Posing (List FallenRow)
with_row place given posts fell numbered =
    row_shown given posts numbered.1 >>= λ shown. Done (unless_shown place numbered.0 fell shown)

-- with those on all rows of the place, where something is given
abbrev pub with_rows : RowPlace → List Row → List Polynomial → List FallenRow → Option (List Row)
    → Posing (List FallenRow)
with_rows place rows posts fell None = Done fell
with_rows place rows posts fell (Some given) =
    each (with_row place given posts) fell (with_numbers_from 0 rows)

-- With those in one case, whose first so many posts are the columns of the point where these rows
-- stand, and whose other posts are those of the place. Where one of the former is false, nothing is
-- asked.
unfoldable pub with_case : ℕ → List Row → RowPlace → List Row → List FallenRow → Case
    → Posing (List FallenRow)
with_case columns source place rows fell case =
    with_rows place rows (drop columns case.post) fell (given_rows case.post case.rows source)

-- with those in all cases, where there are rows
abbrev pub with_cases : ℕ → List Row → List Case → RowPlace → List FallenRow → List Row
    → Posing (List FallenRow)
with_cases columns source cases place fell [] = Done fell
with_cases columns source cases place fell (row ∷ rows) =
    each (with_case columns source place (row ∷ rows)) fell cases

-- with those of a step that may lead to a place
abbrev pub with_place : Program → PointTable → StepFrom → List FallenRow → Option RowPlace
    → Posing (List FallenRow)
with_place program table from fell None = Done fell
with_place program table from fell (Some place) =
    with_cases (columns_at program from.proc) (rows_at program table from.proc from.node)
    from.step.formula.cases place fell (rows_at_place program table place)

-- with those of a step
unfoldable pub with_step : Program → PointTable → List FallenRow → StepFrom
    → Posing (List FallenRow)
with_step program table fell from =
    with_place program table from fell (place_of from.proc from.step.target)

-- the rows that fall in the cases of these steps
abbrev pub fallen_rows : Program → PointTable → List StepFrom → Posing (List FallenRow)
fallen_rows program table steps = each (with_step program table) [] steps

-- ---- the table that is left

-- both are the same point, or the same exit
abbrev pub is_same_place : RowPlace → RowPlace → Bool
is_same_place (AtPoint proc node) (AtPoint other at) = proc == other && node == at
is_same_place (AtExit proc) (AtExit other) = proc == other
is_same_place _ _ = false

-- the row of that number at the place is among those that fell
abbrev pub is_fallen : List FallenRow → RowPlace → ℕ → Bool
is_fallen fell place number =
    list_any (λ (row : FallenRow). is_same_place row.place place && row.number == number) fell

-- the rows of a place, from that of a number on, without those that fell
abbrev pub rows_left : List FallenRow → RowPlace → ℕ → List Row → List Row
rows_left fell place number [] = []
rows_left fell place number (row ∷ rows) =
    if is_fallen fell place number then rows_left fell place (number + 1) rows
    else (row ∷ rows_left fell place (number + 1) rows)

-- the same at each of these points of a procedure
abbrev pub lists_left : List FallenRow → ℕ → List ℕ → List (List Row) → List (List Row)
lists_left fell proc [] lists = []
lists_left fell proc (node ∷ nodes) [] = []
lists_left fell proc (node ∷ nodes) (rows ∷ lists) =
    rows_left fell (AtPoint proc node) 0 rows ∷ lists_left fell proc nodes lists

-- the same at the points of the procedures, from that of a number on
abbrev pub points_left : Program → List FallenRow → ℕ → List (List (List Row))
    → List (List (List Row))
points_left program fell proc [] = []
points_left program fell proc (lists ∷ more) =
    lists_left fell proc (points_of (graph_of program proc)) lists
    ∷ points_left program fell (proc + 1) more

-- the same at the exits of the procedures, from that of a number on
abbrev pub exits_left : List FallenRow → ℕ → List (List Row) → List (List Row)
exits_left fell proc [] = []
exits_left fell proc (rows ∷ exits) =
    rows_left fell (AtExit proc) 0 rows ∷ exits_left fell (proc + 1) exits

-- the table without the rows that fell
abbrev pub table_left : Program → List FallenRow → PointTable → PointTable
table_left program fell table = record {
  points = points_left program fell 0 table.points;
  exits = exits_left fell 0 table.exits;
}

-- how many rows there are in lists
abbrev pub count_of : List (List Row) → ℕ
count_of [] = 0
count_of (rows ∷ lists) = length rows + count_of lists

-- how many rows there are at the points of procedures
abbrev pub count_at_points : List (List (List Row)) → ℕ
count_at_points [] = 0
count_at_points (lists ∷ points) = count_of lists + count_at_points points

-- how many rows there are in a table
abbrev pub row_count : PointTable → ℕ
row_count table = count_at_points table.points + count_of table.exits

-- ---- rounds

-- whether a row fell
abbrev pub some_fell : List FallenRow → Bool
some_fell [] = false
some_fell (row ∷ fell) = true

-- what is left after a round in which these rows fell
abbrev pub round_left : Program → PointTable → List StepFrom → List FallenRow → PointRound
round_left program table steps fell = record {
  table = table_left program fell table;
  steps = steps;
}

-- one round on a table: all rows that fall are dropped together at its end; whether any fell
unfoldable pub round : Program → List (Option Transition) → List PointState → PointTable
    → Posing (PointRound × Bool)
round program known states table =
    steps_by_table program known states table >>= λ steps.
    fallen_rows program table steps >>= λ fell.
    Done (round_left program table steps fell, some_fell fell)

-- how many rounds there are at most: each but the last drops a row at least
abbrev pub most_rounds : PointTable → ℕ
most_rounds table = suc (row_count table)

-- what stands before the first round
abbrev pub before_rounds : PointTable → PointRound
before_rounds table = record { table = table; steps = [] }

-- what the last round leaves, after rounds until none drops a row
unfoldable pub last_round : Program → List (Option Transition) → List PointState → PointTable
    → Posing PointRound
last_round program known states table =
    until (λ (left : PointRound). round program known states left.table) (most_rounds table)
    (before_rounds table)
