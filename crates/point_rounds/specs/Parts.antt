-- What the code makes on the way through a round.
use Rattle.std.specs.Prelude.{◌≡◌, ◌≤◌, ◌+◌, ◌==◌, ℕ, Bool, false, if◌then◌else◌, Option, None, Some, List, [], ◌∷◌, ◌++◌, drop, length, map, slice_get}
use Rattle.std.specs.List.{filter, list_any}
use Rattle.linear_terms.specs.declared.row.Case.{Case}
use Rattle.linear_terms.specs.declared.row.Row.{Row}
use Rattle.syntax_tree.specs.declared.program.Program.{Program}
use Rattle.transition_formula.specs.Transition.{Transition}
use Rattle.point_rows.specs.Reading.{AreOverColumns}
use Rattle.point_rounds.specs.declared.falling.StepRows.{StepRows}
use Rattle.point_rounds.specs.declared.round.FallenRow.{FallenRow}
use Rattle.point_rounds.specs.declared.round.PointRound.{PointRound}
use Rattle.point_rounds.specs.declared.round.PointState.{PointState}
use Rattle.point_rounds.specs.declared.round.RowPlace.{RowPlace}
use Rattle.point_rounds.specs.declared.round.RowPlace.TheVariants.{AtPoint}
use Rattle.point_rounds.specs.declared.round.StepFrom.{StepFrom}
use Rattle.point_rounds.specs.declared.source.RoundSource.{RoundSource}
use Rattle.point_rounds.specs.declared.table.PointTable.{PointTable}
use Rattle.point_rounds.specs.Closed.{AreStepsFrom, CoverTable, CoversState}
use Rattle.point_rounds.specs.Rounds.{is_same_place, row_count, rows_left}
use Rattle.point_rounds.specs.Table.{IsTable}

-- ---- the rows at both ends of a step

-- the posts of a case are the columns of the point and behind them those of the place, over which
-- the rows are
pub record IsReadBy (ends : StepRows) (case : Case) : Type 0 where
  pub long : ends.columns ≤ length case.post
  pub source : AreOverColumns (length case.post) ends.source.now
  pub rows : AreOverColumns (length (drop ends.columns case.post)) ends.rows.now

-- ---- rows that are left

-- the numbers of the rows of a place among those that fell
abbrev pub numbers_at : RowPlace → List FallenRow → List ℕ
numbers_at place fell =
    map (λ (row : FallenRow). row.number)
    (filter (λ (row : FallenRow). is_same_place row.place place) fell)

-- the rows from that of a number on, without those whose numbers are told
abbrev pub rows_without : List ℕ → ℕ → List Row → List Row
rows_without numbers n [] = []
rows_without numbers n (row ∷ rows) =
    if list_any (λ number. number == n) numbers then rows_without numbers (n + 1) rows
    else (row ∷ rows_without numbers (n + 1) rows)

-- the lists left of the first points, and behind them what is left of the next, if it is there
abbrev pub with_next : List FallenRow → ℕ → List (List Row) → List Row → Option ℕ
    → List (List Row)
with_next fell proc left rows None = left
with_next fell proc left rows (Some node) = left ++ rows_left fell (AtPoint proc node) 0 rows ∷ []

-- the same, where the points of the procedure are told
abbrev pub with_list : List FallenRow → ℕ → List ℕ → List (List Row) → List Row → List (List Row)
with_list fell proc nodes left rows =
    with_next fell proc left rows (slice_get nodes (length left))

-- ---- steps

-- Steps stand behind others. They are those from the point of a state, and cover what happens from
-- there.
pub record AreMoreSteps (program : Program) (known : List (Option Transition)) (state : PointState)
    (made all : List StepFrom) : Type 0 where
  pub more : List StepFrom
  pub is : all ≡ made ++ more
  pub fits : AreStepsFrom program more
  pub covers : CoversState program known more state

-- ---- a round

-- What a round leaves of a table is one, and so are its steps. There are fewer rows where one fell,
-- and else the steps cover what happens from the points of the states.
pub record IsRoundOf (source : RoundSource) (table : PointTable) (next : PointRound × Bool)
    : Type 0 where
  pub shape : IsTable source.program.now next.0.table
  pub steps : AreStepsFrom source.program.now next.0.steps
  pub fewer : row_count next.0.table + (if next.1 then 1 else 0) ≤ row_count table
  pub covers : next.1 ≡ false
      → CoverTable source.program.now source.known.now source.states.now next.0.steps next.0.table
