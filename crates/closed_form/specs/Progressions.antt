-- A number that grows in each turn by at most a slope and a constant, where the slope grows by the
-- same amount in each turn: in all it grows by at most the sum of an arithmetic progression.
--
-- Source: Graham, Knuth and Patashnik, Concrete Mathematics, section 2.3.
use Rattle.std.specs.Prelude.{◌≡◌, ℕ, ◌<◌, ℤ, pos, ◌+ℤ◌, ◌-ℤ◌, ◌*ℤ◌, ◌≤ℤ◌}
use Rattle.linear_terms.specs.declared.col.Col.{Col}
use Rattle.linear_terms.specs.Polynomial.{Polynomial}
use Rattle.linear_terms.specs.Value.{Valuation, value_of}
use Rattle.closed_form.specs.Differences.{Sequence, difference, GrowsBy}

-- a number of turns, the numbers before each turn and the slopes there, by how much the slope
-- grows, and the constant
pub record Climb : Type 0 where
  pub turns : ℕ
  pub numbers : Sequence
  pub slopes : Sequence
  pub growth : ℤ
  pub constant : ℤ

-- in each turn the number grows by at most the slope and the constant, and the slope by the growth
pub record IsClimb (climb : Climb) : Type 0 where
  -- in each turn the number grows by the slope and the constant at most
  pub numbers_grow : (i : ℕ) → i < climb.turns
      → difference climb.numbers i ≤ℤ (climb.slopes i +ℤ climb.constant)
  -- and the slope by the same amount
  pub slopes_grow : GrowsBy climb.turns (λ i. climb.growth) climb.slopes

-- change <= k s + e k (k - 1) / 2 + c k, twice over so that nothing is divided
abbrev pub IsSumBound : (change s e c k : ℤ) → Type 0
IsSumBound change s e c k =
    (pos 2 *ℤ change) ≤ℤ (pos 2 *ℤ k *ℤ s +ℤ e *ℤ k *ℤ (k -ℤ pos 1) +ℤ pos 2 *ℤ c *ℤ k)

-- polynomials and a column that are the change in all turns, the first slope and the number of
-- turns
pub record ReadsClimb (at : Valuation) (climb : Climb) (change s : Polynomial) (e c : ℤ)
    (k : Col) : Type 0 where
  pub change_made : value_of at change ≡ climb.numbers climb.turns -ℤ climb.numbers 0
  pub first_slope : value_of at s ≡ climb.slopes 0
  pub growth_given : e ≡ climb.growth
  pub constant_given : c ≡ climb.constant
  pub turns_made : at k ≡ pos climb.turns
