-- Forms on the changes of a body, and what bounds them over all rational points of all cases. A
-- form has a number for each term of a case.
use Rattle.std.specs.Prelude.{◌≡◌, ℤ, pos, ◌*ℤ◌, ◌<ℤ◌, ◌≤ℤ◌, ℕ, List, map, slice_get, Some}
use Rattle.std.specs.List.{AllByRecursion}
use Rattle.whole_numbers.specs.Dot.{dot}
use Rattle.linear_terms.specs.Polynomial.{Polynomial}
use Rattle.farkas_check.specs.Rational.{RationalPoint, sum_at, Meets}
use Rattle.farkas_check.specs.declared.stratum.Change.{Change}

-- the values of the terms at a point, times its denominator
abbrev pub changes_at : List Polynomial → RationalPoint → List ℤ
changes_at terms point = map (sum_at point) terms

-- a rational point of some case of the body
pub record HasChange (cases : List Change) : Type 0 where
  pub place : ℕ
  pub case : Change
  pub is : slice_get cases place ≡ Some case
  pub point : RationalPoint
  pub meets : Meets point case.rows

-- a rational number: a whole number over a positive one
pub record Rational : Type 0 where
  pub top : ℤ
  pub bottom : ℤ
  pub positive : pos 0 <ℤ bottom

-- at each rational point of the case the form is at most so much
abbrev pub IsBoundIn : List ℤ → Rational → Change → Type 0
IsBoundIn form most case = (point : RationalPoint) → Meets point case.rows
    → (dot form (changes_at case.terms point) *ℤ most.bottom) ≤ℤ (most.top *ℤ point.over)

-- and so at those of every case
abbrev pub IsBound : List Change → List ℤ → Rational → Type 0
IsBound cases form most = AllByRecursion (IsBoundIn form most) cases

-- one is at most the other
abbrev pub IsUpTo : Rational → Rational → Type 0
IsUpTo a b = (a.top *ℤ b.bottom) ≤ℤ (b.top *ℤ a.bottom)

-- the least of the bounds: the supremum of the form over the changes
pub record IsSupremum (cases : List Change) (form : List ℤ) (most : Rational) : Type 0 where
  pub bound : IsBound cases form most
  pub least : (other : Rational) → IsBound cases form other → IsUpTo most other

-- the form has one value at all rational points of the case
abbrev pub HasValueIn : List ℤ → Rational → Change → Type 0
HasValueIn form value case = (point : RationalPoint) → Meets point case.rows
    → dot form (changes_at case.terms point) *ℤ value.bottom ≡ value.top *ℤ point.over

-- and the same at those of every case
pub record IsConstant (cases : List Change) (form : List ℤ) : Type 0 where
  pub value : Rational
  pub same : AllByRecursion (HasValueIn form value) cases
