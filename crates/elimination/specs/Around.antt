-- The spots around an inner point: the point itself, and for each column the point moved along it
-- by a quarter of 1 over its denominator. Whole multiples of the values at them give what a
-- polynomial has at each place.
use Rattle.std.specs.Prelude.{◌≡◌, ℕ, zero, suc, ◌+◌, nat_eq, nat_lt, ℤ, pos, negsuc, ◌+ℤ◌, ◌*ℤ◌, List, [], ◌∷◌, length, slice_get, Some, true, Ok, if◌then◌else◌}
use Rattle.std.specs.List.{AllByRecursion}
use Rattle.std.specs.Map.{keys_of}
use Rattle.linear_terms.specs.declared.col.Col.{Col}
use Rattle.linear_terms.specs.Polynomial.{Polynomial, IsCanonical}
use Rattle.farkas_check.specs.declared.stratum.Change.{Change}
use Rattle.farkas_check.specs.declared.stratum.Spot.{Spot}
use Rattle.farkas_check.specs.Frames.{sum_below}
use Rattle.farkas_check.specs.Ratios.{Fraction, IsLowest}
use Rattle.farkas_check.specs.Relations.{entry}
use Rattle.farkas_check.specs.Sizes.{HasNumbersUpTo}
use Rattle.farkas_check.specs.Stratum.{spot_value, tested_spot}
use Rattle.farkas_check.proofs.Spreads.{is_among}
use Rattle.elimination.specs.declared.inner.Inner.{Inner}
use Rattle.elimination.specs.Probes.{read_at, value_in}

-- the value at the spot of a place, times four times the denominator of the inner point
abbrev pub around_value : List (List Col) → Inner → ℕ → Polynomial → ℤ
around_value cs inner zero p = pos 4 *ℤ value_in cs inner p
around_value cs inner (suc column) p = pos 4 *ℤ value_in cs inner p +ℤ read_at cs column p

-- the polynomial's value at a spot, in lowest terms, is a numerator over a denominator
pub record HasValue (cs : List (List Col)) (spot : Spot) (p : Polynomial)
    (num den : ℤ) : Type 0 where
  pub value : Fraction
  pub is : spot_value cs spot p ≡ Ok value
  pub lowest : IsLowest value
  pub same : value.num *ℤ den ≡ num *ℤ value.den

-- a small polynomial over the columns
pub record IsSmallOver (cs : List (List Col)) (p : Polynomial) : Type 0 where
  pub canonical : IsCanonical p.terms
  pub small : HasNumbersUpTo 4 p
  pub among : (m : List Col) → is_among m (keys_of p.terms) ≡ true → is_among m cs ≡ true

-- spots of a case around an inner point of its rows
pub record AreAround (cs : List (List Col)) (cases : List Change) (case : ℕ) (inner : Inner)
    (spots : List Spot) : Type 0 where
  pub each : length spots ≡ length cs + 1
  pub case_is : AllByRecursion (λ (spot : Spot). spot.case ≡ case) spots
  pub tested : AllByRecursion (λ (spot : Spot). tested_spot cs cases spot ≡ Ok true) spots
  pub values : (i : ℕ) (spot : Spot) → slice_get spots i ≡ Some spot → (p : Polynomial)
      → IsSmallOver cs p
      → HasValue cs spot p (around_value cs inner i p) (pos 4 *ℤ inner.over)

-- the sum of all numbers
abbrev pub sum_of_all : List ℤ → ℤ
sum_of_all [] = pos 0
sum_of_all (z ∷ zs) = z +ℤ sum_of_all zs

-- the multiple of the spot at a place that the constants take
abbrev pub constant_weight : Inner → ℕ → ℤ
constant_weight inner zero = pos 1 +ℤ pos 4 *ℤ sum_of_all inner.numbers
constant_weight inner (suc column) = negsuc 3 *ℤ entry inner.numbers column

-- the multiple of the spot at a place that a column takes
abbrev pub column_weight : Inner → ℕ → ℕ → ℤ
column_weight inner own zero = negsuc 3 *ℤ inner.over
column_weight inner own (suc column) = if nat_eq column own then pos 4 *ℤ inner.over else pos 0

-- the multiple of the spot at a place that a place of the case takes: one of so many columns, or
-- the constants
abbrev pub weight_at : ℕ → Inner → ℕ → ℕ → ℤ
weight_at columns inner place spot = if nat_lt place columns then column_weight inner place spot
    else constant_weight inner spot

-- a law: these multiples of the values give what the polynomial has at the place, times the common
-- denominator
abbrev pub WeightsRead : List (List Col) → Inner → ℕ → Polynomial → Type 0
WeightsRead cs inner place p =
    sum_below (length cs + 1)
    (λ i. weight_at (length cs) inner place i *ℤ around_value cs inner i p)
    ≡ (pos 4 *ℤ inner.over) *ℤ read_at cs place p
