-- A climb stays below the sum of its progression, and the row says so.
use Rattle.std.proofs.Common.{◌≡◌, ℕ, zero, suc, ◌+◌, ◌<◌, ◌≤◌, Ok, ap, ◌∙◌, arith, add-one, ℤ, pos, ◌+ℤ◌, ◌-ℤ◌, ◌*ℤ◌, ◌≤ℤ◌}
use Rattle.std.specs.Prelude.{◌↔◌}
use Rattle.std.proofs.lemmas.Int.{ints}
use Rattle.std.proofs.Math.IntN.{zero-*ℤ}
use Rattle.whole_numbers.proofs.Ring.{ring}
use Rattle.linear_terms.specs.declared.col.Col.{Col}
use Rattle.linear_terms.specs.declared.row.Row.{Row}
use Rattle.linear_terms.specs.Expressions.{whole, column}
use Rattle.linear_terms.specs.Polynomial.{Polynomial}
use Rattle.linear_terms.specs.Row.{RowHolds}
use Rattle.linear_terms.specs.Value.{Valuation, value_of}
use Rattle.linear_terms.proofs.Worth.{IsWorth, IsWorth-Ok, IsWorth-whole, IsWorth-column, IsWorth-product, IsWorth-difference, RowHolds-at_most}
use Rattle.closed_form.specs.ClosedRow.{sum_poly, sum_row}
use Rattle.closed_form.specs.Progressions.{Climb, IsClimb, IsSumBound, ReadsClimb}
use Rattle.closed_form.proofs.Formula.{sums-are, pos-suc, twice}

-- ---- the sum of a progression

-- twice what is reached after k turns
abbrev bound : (s e c k : ℤ) → ℤ
bound s e c k = pos 2 *ℤ k *ℤ s +ℤ e *ℤ k *ℤ (k -ℤ pos 1) +ℤ pos 2 *ℤ c *ℤ k

bound-next : (s e c k : ℤ) → bound s e c (k +ℤ pos 1) ≡ bound s e c k +ℤ pos 2 *ℤ (s +ℤ k *ℤ e) +ℤ pos 2 *ℤ c
bound-next s e c k = simp (ring, twice) (omega (arith, ints))

climbed : (climb : Climb) → IsClimb climb → (i : ℕ) → i ≤ climb.turns → (pos 2 *ℤ (climb.numbers i -ℤ climb.numbers 0)) ≤ℤ bound (climb.slopes 0) climb.growth climb.constant (pos i)
climbed climb is zero within = at_start (climb.numbers 0) (climb.slopes 0) climb.growth climb.constant
  where
    at_start : (u s e c : ℤ) → (pos 2 *ℤ (u -ℤ u)) ≤ℤ bound s e c (pos 0)
    at_start u s e c = omega (arith, ints, zero-*ℤ s, zero-*ℤ (pos 0 -ℤ pos 1), zero-*ℤ e)
climbed climb is (suc i) within =
    let lt : i < climb.turns = omega arith in
    let at_turn : (climb.numbers (i + 1) -ℤ climb.numbers i) ≤ℤ (climb.slopes i +ℤ climb.constant) = is.numbers_grow i lt in
    let grown : (climb.numbers (suc i) -ℤ climb.numbers i) ≤ℤ (climb.slopes i +ℤ climb.constant) = rw add-one at at_turn in
    let slope = sums-are climb.turns climb.slopes climb.growth is.slopes_grow i (omega arith) in
    let next = ap (bound (climb.slopes 0) climb.growth climb.constant) (pos-suc i) ∙ bound-next (climb.slopes 0) climb.growth climb.constant (pos i) in
    step (climb.numbers (suc i)) (climb.numbers i) (climb.numbers 0) (climb.slopes i) (climb.slopes 0 +ℤ pos i *ℤ climb.growth) climb.constant
    (bound (climb.slopes 0) climb.growth climb.constant (pos i)) (bound (climb.slopes 0) climb.growth climb.constant (pos (suc i)))
    grown slope next (climbed climb is i (omega arith))
  where
    step : (v u first slope told c b d : ℤ) → (v -ℤ u) ≤ℤ (slope +ℤ c) → slope ≡ told → d ≡ b +ℤ pos 2 *ℤ told +ℤ pos 2 *ℤ c → (pos 2 *ℤ (u -ℤ first)) ≤ℤ b → (pos 2 *ℤ (v -ℤ first)) ≤ℤ d
    step v u first slope told c b d grown e f h = omega (arith, ints)

-- ---- the row

sum_poly-value : (at : Valuation) (change s : Polynomial) (e c : ℤ) (k : Col) →
    IsWorth at (sum_poly (Ok change) (Ok s) e c (column k))
    (pos 2 *ℤ value_of at change -ℤ pos 2 *ℤ at k *ℤ value_of at s -ℤ e *ℤ at k *ℤ (at k -ℤ pos 1) -ℤ pos 2 *ℤ c *ℤ at k)
sum_poly-value at change s e c k =
    IsWorth-difference (IsWorth-difference (IsWorth-difference (IsWorth-product two (IsWorth-Ok at change)) (IsWorth-product (IsWorth-product two count) (IsWorth-Ok at s)))
    (IsWorth-product (IsWorth-product (IsWorth-whole at e) count) (IsWorth-difference count (IsWorth-whole at (pos 1)))))
    (IsWorth-product (IsWorth-product two (IsWorth-whole at c)) count)
  where
    two : IsWorth at (whole (pos 2)) (pos 2)
    two = IsWorth-whole at (pos 2)

    count : IsWorth at (column k) (at k)
    count = IsWorth-column at k

pub sum_row-value : (at : Valuation) (change s : Polynomial) (e c : ℤ) (k : Col) (r : Row) → sum_row change s e c k ≡ Ok r → RowHolds at r ↔ IsSumBound (value_of at change) (value_of at s) e c (at k)
sum_row-value at change s e c k r f =
    let says = RowHolds-at_most (sum_poly-value at change s e c k) r f in
    let sides = moved (pos 2 *ℤ value_of at change) (pos 2 *ℤ at k *ℤ value_of at s) (e *ℤ at k *ℤ (at k -ℤ pos 1)) (pos 2 *ℤ c *ℤ at k) in
    (λ h. sides.0 (says.0 h), λ h. says.1 (sides.1 h))
  where
    moved : (a x y z : ℤ) → ((a -ℤ x -ℤ y -ℤ z) ≤ℤ pos 0) ↔ (a ≤ℤ (x +ℤ y +ℤ z))
    moved a x y z = (λ below. omega (arith, ints), λ below. omega (arith, ints))

pub sum_row-climb : (at : Valuation) (climb : Climb) (change s : Polynomial) (e c : ℤ) (k : Col) (r : Row) → sum_row change s e c k ≡ Ok r → IsClimb climb → ReadsClimb at climb change s e c k → RowHolds at r
sum_row-climb at climb change s e c k r f is reads =
    (sum_row-value at change s e c k r f).1
    (rw (reads.change_made, reads.first_slope, reads.growth_given, reads.constant_given, reads.turns_made) (climbed climb is climb.turns (omega arith)))
