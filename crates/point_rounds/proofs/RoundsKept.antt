-- What the last round leaves is a table that its steps keep.
use Rattle.std.proofs.Common.{List, [], ◌∷◌, sym, subst, arith}
use Rattle.std.specs.Prelude.{Option}
use Rattle.std.specs.List.{AllByRecursion}
use Rattle.syntax_tree.specs.declared.program.Program.{Program}
use Rattle.syntax_tree.specs.WellFormed.{IsWellFormed}
use Rattle.transition_formula.specs.Transition.{Transition}
use Rattle.posing.specs.Posing.{Posing, Done, ◌>>=◌, AlwaysPassing, IsPassing}
use Rattle.posing.proofs.Paths.{always_any}
use Rattle.posing.proofs.UnderAnswers.{IsRound, passing-always, under-bind, under-until}
use Rattle.point_rows.specs.Laws.{ContrariesDecide, GivenRowsHold}
use Rattle.point_rounds.specs.declared.round.FallenRow.{FallenRow}
use Rattle.point_rounds.specs.declared.round.PointRound.{PointRound}
use Rattle.point_rounds.specs.declared.round.PointState.{PointState}
use Rattle.point_rounds.specs.declared.round.StepFrom.{StepFrom}
use Rattle.point_rounds.specs.declared.table.PointTable.{PointTable}
use Rattle.point_rounds.specs.Closed.{AreKeptBy}
use Rattle.point_rounds.specs.Rounds.{before_rounds, fallen_rows, last_round, most_rounds, round, round_left, row_count, some_fell, steps_by_table}
use Rattle.point_rounds.specs.Table.{IsTable}
use Rattle.point_rounds.proofs.FallenRows.{IsThere, StepTold, fallen-first, fallen-told}
use Rattle.point_rounds.proofs.KeptTables.{none-fell}
use Rattle.point_rounds.proofs.RowColumns.{points-over}
use Rattle.point_rounds.proofs.TablesLeft.{table-falls, table-left, table-same}

module _ (decide : ContrariesDecide) (hold : GivenRowsHold) (program : Program) (known : List (Option Transition)) (states : List PointState) (formed : IsWellFormed program) where
  abbrev IsLeft : PointRound → Type 0
  IsLeft left = IsTable program left.table

  abbrev IsKept : PointRound → Type 0
  IsKept left = AreKeptBy program left.steps left.table

  -- of the rows that fell in a round
  round-of : (left : PointRound) → IsLeft left → (steps : List StepFrom) (fell : List FallenRow) → AllByRecursion (IsThere program left.table) fell
      → AllByRecursion (λ from. StepTold program left.table decide from fell) steps
      → IsRound IsLeft IsKept (λ r. row_count r.table) left (round_left program left.table steps fell, some_fell fell)
  round-of left shape steps [] there told =
      record {
        keeps = table-left [] program left.table shape;
        falls = λ e. absurd (cc);
        fine = λ e. subst (AreKeptBy program steps) (sym (table-same program left.table shape)) (none-fell program left.table decide hold (points-over program left.table formed shape) steps told);
      }
  round-of left shape steps (row ∷ fell) there told =
      record {
        keeps = table-left (row ∷ fell) program left.table shape;
        falls = λ e. table-falls (row ∷ fell) program left.table row.place row.number there.0 (fallen-first row fell);
        fine = λ e. absurd (cc);
      }

  round-kept : (left : PointRound) → IsLeft left → AlwaysPassing (IsRound IsLeft IsKept (λ r. row_count r.table) left) (round program known states left.table)
  unfolding round
  round-kept left shape =
      under-bind IsPassing (λ steps. Unit {0}) (IsRound IsLeft IsKept (λ r. row_count r.table) left) (steps_by_table program known states left.table)
      (λ steps. fallen_rows program left.table steps >>= λ fell. Done (round_left program left.table steps fell, some_fell fell)) (any-passing (steps_by_table program known states left.table))
      (λ steps h. under-bind IsPassing (λ fell. AllByRecursion (IsThere program left.table) fell × AllByRecursion (λ from. StepTold program left.table decide from fell) steps)
      (IsRound IsLeft IsKept (λ r. row_count r.table) left) (fallen_rows program left.table steps) (λ fell. Done (round_left program left.table steps fell, some_fell fell))
      (fallen-told program left.table decide steps) (λ fell told. round-of left shape steps fell told.0 told.1))
    where
      any-passing : {A : Type 0} (p : Posing A) → AlwaysPassing (λ x. Unit {0}) p
      any-passing p = passing-always (λ x. Unit {0}) p (always_any (λ x. Unit {0}) p (λ x. tt))

  -- the table that the last round leaves is one, and its steps keep it
  pub last_round-kept : (table : PointTable) → IsTable program table → AlwaysPassing (λ left. IsTable program left.table × AreKeptBy program left.steps left.table) (last_round program known states table)
  unfolding last_round
  last_round-kept table shape =
      under-until IsPassing IsLeft IsKept (λ r. row_count r.table) (λ (left : PointRound). round program known states left.table) (most_rounds table) (before_rounds table) round-kept (omega arith) shape
