-- What the closed row says under numbers for its columns.
use Rattle.std.proofs.Common.{◌≡◌, ℕ, Ok, arith, ℤ, pos, ◌+ℤ◌, ◌-ℤ◌, ◌*ℤ◌}
use Rattle.std.specs.Prelude.{◌↔◌}
use Rattle.std.proofs.lemmas.Int.{ints}
use Rattle.linear_terms.specs.declared.col.Col.{Col}
use Rattle.linear_terms.specs.declared.row.Row.{Row}
use Rattle.linear_terms.specs.Expressions.{◌⊠◌, ◌⊟◌, whole, column}
use Rattle.linear_terms.specs.Polynomial.{Polynomial}
use Rattle.linear_terms.specs.Row.{RowHolds}
use Rattle.linear_terms.specs.Value.{Valuation, value_of}
use Rattle.linear_terms.proofs.Worth.{IsWorth, IsWorth-Ok, IsWorth-whole, IsWorth-column, IsWorth-product, IsWorth-difference, RowHolds-equation}
use Rattle.closed_form.specs.ClosedRow.{closed_poly, closed_row}
use Rattle.closed_form.specs.Differences.{IsForwardSum, Run, IsRun, ReadsAs}
use Rattle.closed_form.proofs.Formula.{run-holds}

-- ---- the row

-- the formula of the values
abbrev FormulaHolds : Valuation → (after before d1 d2 d3 : Polynomial) → Col → Type 0
FormulaHolds at after before d1 d2 d3 k =
    IsForwardSum (value_of at after) (value_of at before) (value_of at d1) (value_of at d2) (value_of at d3) (at k)

closed_poly-value : (at : Valuation) (after before d1 d2 d3 : Polynomial) (k : Col) →
    IsWorth at (closed_poly (Ok after) (Ok before) (Ok d1) (Ok d2) (Ok d3) (column k))
    (pos 6 *ℤ value_of at after -ℤ pos 6 *ℤ value_of at before -ℤ pos 6 *ℤ at k *ℤ value_of at d1
    -ℤ pos 3 *ℤ at k *ℤ (at k -ℤ pos 1) *ℤ value_of at d2
    -ℤ at k *ℤ (at k -ℤ pos 1) *ℤ (at k -ℤ pos 2) *ℤ value_of at d3)
closed_poly-value at after before d1 d2 d3 k =
    IsWorth-difference (IsWorth-difference (IsWorth-difference (IsWorth-difference (six_times after) (six_times before)) first) second) third
  where
    number : (n : ℕ) → IsWorth at (whole (pos n)) (pos n)
    number n = IsWorth-whole at (pos n)

    count : IsWorth at (column k) (at k)
    count = IsWorth-column at k

    six_times : (p : Polynomial) → IsWorth at (whole (pos 6) ⊠ Ok p) (pos 6 *ℤ value_of at p)
    six_times p = IsWorth-product (number 6) (IsWorth-Ok at p)

    less : (n : ℕ) → IsWorth at (column k ⊟ whole (pos n)) (at k -ℤ pos n)
    less n = IsWorth-difference count (number n)

    first : IsWorth at (whole (pos 6) ⊠ column k ⊠ Ok d1) (pos 6 *ℤ at k *ℤ value_of at d1)
    first = IsWorth-product (IsWorth-product (number 6) count) (IsWorth-Ok at d1)

    second : IsWorth at (whole (pos 3) ⊠ column k ⊠ (column k ⊟ whole (pos 1)) ⊠ Ok d2)
        (pos 3 *ℤ at k *ℤ (at k -ℤ pos 1) *ℤ value_of at d2)
    second = IsWorth-product (IsWorth-product (IsWorth-product (number 3) count) (less 1)) (IsWorth-Ok at d2)

    third : IsWorth at (column k ⊠ (column k ⊟ whole (pos 1)) ⊠ (column k ⊟ whole (pos 2)) ⊠ Ok d3)
        (at k *ℤ (at k -ℤ pos 1) *ℤ (at k -ℤ pos 2) *ℤ value_of at d3)
    third = IsWorth-product (IsWorth-product (IsWorth-product count (less 1)) (less 2)) (IsWorth-Ok at d3)

pub closed_row-value : (at : Valuation) (after before d1 d2 d3 : Polynomial) (k : Col) (r : Row) →
    closed_row after before d1 d2 d3 k ≡ Ok r → RowHolds at r ↔ FormulaHolds at after before d1 d2 d3 k
closed_row-value at after before d1 d2 d3 k r e =
    let says = RowHolds-equation (closed_poly-value at after before d1 d2 d3 k) r e in
    let sides = moved (pos 6 *ℤ value_of at after) (pos 6 *ℤ value_of at before)
    (pos 6 *ℤ at k *ℤ value_of at d1)
    (pos 3 *ℤ at k *ℤ (at k -ℤ pos 1) *ℤ value_of at d2)
    (at k *ℤ (at k -ℤ pos 1) *ℤ (at k -ℤ pos 2) *ℤ value_of at d3) in
    (λ h. sides.0 (says.0 h), λ h. says.1 (sides.1 h))
  where
    moved : (a b x y z : ℤ) → (a -ℤ b -ℤ x -ℤ y -ℤ z ≡ pos 0) ↔ (a ≡ b +ℤ x +ℤ y +ℤ z)
    moved a b x y z = (λ zero_there. omega (arith, ints), λ equal. omega (arith, ints))

-- ---- runs

pub closed_row-run : (at : Valuation) (run : Run) (after before d1 d2 d3 : Polynomial) (k : Col) (r : Row) →
    closed_row after before d1 d2 d3 k ≡ Ok r → IsRun run → ReadsAs at run after before d1 d2 d3 k → RowHolds at r
closed_row-run at run after before d1 d2 d3 k r e is_run reads =
    (closed_row-value at after before d1 d2 d3 k r e).1
    (rw (
      reads.number_after,
      reads.number_before,
      reads.first_before,
      reads.second_before,
      reads.third_before,
      reads.steps_made,
    ) (run-holds run is_run))
