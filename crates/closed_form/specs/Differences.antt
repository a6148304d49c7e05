-- Sequences of whole numbers, their differences, and Newton's forward difference formula up to the
-- third difference.
--
-- Source: Isaac Newton, Methodus differentialis, 1711; Graham, Knuth and Patashnik, Concrete
-- Mathematics, section 5.3.
use Rattle.std.specs.Prelude.{◌≡◌, ℕ, ◌+◌, ◌<◌, ℤ, pos, ◌+ℤ◌, ◌-ℤ◌, ◌*ℤ◌}
use Rattle.linear_terms.specs.declared.col.Col.{Col}
use Rattle.linear_terms.specs.Polynomial.{Polynomial}
use Rattle.linear_terms.specs.Value.{Valuation, value_of}

-- a sequence of whole numbers, by their places from 0
abbrev pub Sequence : Type 0
Sequence = ℕ → ℤ

-- by how much a sequence grows at each step
abbrev pub difference : Sequence → Sequence
difference u n = u (n + 1) -ℤ u n

-- the differences of the differences of the differences
abbrev pub third_difference : Sequence → Sequence
third_difference u = difference (difference (difference u))

-- each number of the sequence is the one at 0
abbrev pub IsConstant : Sequence → Type 0
IsConstant u = (n : ℕ) → u n ≡ u 0

-- after = before + k d1 + k (k - 1) / 2 d2 + k (k - 1) (k - 2) / 6 d3, six times over so that
-- nothing is divided
abbrev pub IsForwardSum : ℤ → ℤ → ℤ → ℤ → ℤ → ℤ → Type 0
IsForwardSum after before d1 d2 d3 k =
    pos 6 *ℤ after
    ≡ pos 6 *ℤ before +ℤ pos 6 *ℤ k *ℤ d1 +ℤ pos 3 *ℤ k *ℤ (k -ℤ pos 1) *ℤ d2 +ℤ k *ℤ
    (k -ℤ pos 1) *ℤ (k -ℤ pos 2) *ℤ d3

-- Newton's formula: where the third difference is constant, the number and the differences at 0
-- give the number at n.
abbrev pub ForwardDifferenceFormula : Type 0
ForwardDifferenceFormula =
    (u : Sequence) → IsConstant (third_difference u) → (n : ℕ) →
    IsForwardSum (u n) (u 0) (difference u 0) (difference (difference u) 0) (third_difference u 0)
    (pos n)

-- ---- runs: a sequence of which the first steps alone are known

-- a number of steps, the numbers of a sequence, and what their first, second and third differences
-- should be
pub record Run : Type 0 where
  pub steps : ℕ
  pub numbers : Sequence
  pub first : Sequence
  pub second : Sequence
  pub third : ℤ

-- in each of the first n steps the sequence grows by the other's number there
abbrev pub GrowsBy : ℕ → Sequence → Sequence → Type 0
GrowsBy n growth u = (i : ℕ) → i < n → difference u i ≡ growth i

-- the differences are in each step what they should be
pub record IsRun (run : Run) : Type 0 where
  pub numbers_grow : GrowsBy run.steps run.first run.numbers
  pub first_grow : GrowsBy run.steps run.second run.first
  pub second_grow : GrowsBy run.steps (λ i. run.third) run.second

-- the first n steps of a sequence whose third difference is constant
abbrev pub run_of : Sequence → ℕ → Run
run_of u n = record {
  steps = n;
  numbers = u;
  first = difference u;
  second = difference (difference u);
  third = third_difference u 0;
}

-- The polynomials are the run's number after its last step, and its number and its differences at
-- the start. The column is its number of steps.
pub record ReadsAs (at : Valuation) (run : Run) (after before d1 d2 d3 : Polynomial)
    (k : Col) : Type 0 where
  pub number_after : value_of at after ≡ run.numbers run.steps
  pub number_before : value_of at before ≡ run.numbers 0
  pub first_before : value_of at d1 ≡ run.first 0
  pub second_before : value_of at d2 ≡ run.second 0
  pub third_before : value_of at d3 ≡ run.third
  pub steps_made : at k ≡ pos run.steps
