-- Words of the steps that make the spots around an inner point, and the multiples that they take.
use Rattle.std.specs.Prelude.{ℕ, zero, suc, ◌+◌, ◌≤◌, ◌^◌, ◌==◌, ℤ, pos, ◌+ℤ◌, ◌*ℤ◌, ◌<ℤ◌, List, [], ◌∷◌, ◌++◌, length, unsigned_abs, if◌then◌else◌}
use Rattle.std.specs.List.{AllByRecursion}
use Rattle.farkas_check.specs.declared.stratum.Spot.{Spot}
use Rattle.farkas_check.specs.Ratios.{Fraction, lowest_terms}
use Rattle.elimination.specs.declared.inner.Inner.{Inner}
use Rattle.elimination.specs.Around.{weight_at}

-- at most three small numbers over a small denominator
pub record IsSmallInner (inner : Inner) : Type 0 where
  pub few : length inner.numbers ≤ 3
  pub positive : pos 0 <ℤ inner.over
  pub over_small : unsigned_abs inner.over ≤ 20 ^ 5
  pub small : AllByRecursion (λ z. unsigned_abs z ≤ 20 ^ 5) inner.numbers

-- four times the number of the j-th column, and one more in the spot that is moved along it
abbrev pub moved_number : ℕ → ℕ → ℤ → ℤ
moved_number place j number = pos 4 *ℤ number +ℤ (if place == j + 1 then pos 1 else pos 0)

-- the numbers of a spot over four times the denominator, from the j-th column on
abbrev pub numbers_moved_from : ℤ → ℕ → ℕ → List ℤ → List Fraction
numbers_moved_from over place j [] = []
numbers_moved_from over place j (z ∷ zs) = lowest_terms (moved_number place j z) (pos 4 *ℤ over) ∷ numbers_moved_from over
    place (j + 1) zs

-- the spot at a place
abbrev pub spot_at : ℕ → Inner → ℕ → Spot
spot_at case inner place = record { case = case; at = numbers_moved_from inner.over place 0 inner.numbers }

-- the first so many spots
abbrev pub spots_to : ℕ → Inner → ℕ → List Spot
spots_to case inner zero = []
spots_to case inner (suc n) = spots_to case inner n ++ spot_at case inner n ∷ []

-- the multiples of the first so many spots that a place takes
abbrev pub weights_to : ℕ → Inner → ℕ → ℕ → List ℤ
weights_to columns inner place zero = []
weights_to columns inner place (suc n) = weights_to columns inner place n ++ weight_at columns inner
    place n ∷ []
