-- Words of the steps that make a reduced basis of rows of at most three numbers: vectors of three
-- whole numbers, and spaces, which are what they span, as conditions on a vector.
use Rattle.std.specs.Prelude.{◌≡◌, ◌≢◌, ℕ, zero, suc, ◌^◌, ◌≤◌, ℤ, pos, ◌+ℤ◌, ◌-ℤ◌, ◌*ℤ◌, ◌<ℤ◌, List, length, unsigned_abs}
use Rattle.std.specs.List.{AllByRecursion}
use Rattle.farkas_check.specs.Ratios.{Fraction}
use Rattle.elimination.specs.declared.vectors.Vector.{Vector}
use Rattle.elimination.specs.declared.spaces.Space.{Space}
use Rattle.elimination.specs.declared.spaces.Space.TheVariants.{Origin, Line, Plane, Whole}
use Rattle.elimination.specs.Echelon.{number_in, IsSpanned, IsEchelon}

-- ---- vectors

-- the number at a place; 0 past the third
abbrev pub coordinate : Vector → ℕ → ℤ
coordinate v zero = v.x
coordinate v (suc zero) = v.y
coordinate v (suc (suc zero)) = v.z
coordinate v (suc (suc (suc place))) = pos 0

-- each number of the vector is 0
pub record IsZero (v : Vector) : Type 0 where
  pub x : v.x ≡ pos 0
  pub y : v.y ≡ pos 0
  pub z : v.z ≡ pos 0

-- no number is greater in magnitude
pub record IsUpTo (most : ℕ) (v : Vector) : Type 0 where
  pub x : unsigned_abs v.x ≤ most
  pub y : unsigned_abs v.y ≤ most
  pub z : unsigned_abs v.z ≤ most

-- orthogonal to both
abbrev pub cross : Vector → Vector → Vector
cross a b = record {
  x = a.y *ℤ b.z -ℤ a.z *ℤ b.y;
  y = a.z *ℤ b.x -ℤ a.x *ℤ b.z;
  z = a.x *ℤ b.y -ℤ a.y *ℤ b.x;
}

-- the sum of the products of the numbers at the same place
abbrev pub vector_dot : Vector → Vector → ℤ
vector_dot a b = a.x *ℤ b.x +ℤ a.y *ℤ b.y +ℤ a.z *ℤ b.z

-- ---- rows

-- the numerator at a place, times the denominators at two others
abbrev pub cleared_number : List Fraction → ℕ → ℕ → ℕ → ℤ
cleared_number row place i k =
    (number_in row place).num *ℤ ((number_in row i).den *ℤ (number_in row k).den)

-- a row times its three denominators
abbrev pub cleared_row : List Fraction → Vector
cleared_row row = record {
  x = cleared_number row 0 1 2;
  y = cleared_number row 1 0 2;
  z = cleared_number row 2 0 1;
}

-- each denominator of the row is positive
pub record ArePositive (row : List Fraction) : Type 0 where
  pub at : (j : ℕ) → pos 0 <ℤ (number_in row j).den

-- what clearing a small row gives
pub record IsClearing (row : List Fraction) (v : Vector) : Type 0 where
  pub value : v ≡ cleared_row row
  pub positive : ArePositive row
  pub small : IsUpTo (2 ^ 18) v

-- a line of ratios is a vector over a number
pub record IsOver (line : List Fraction) (v : Vector) (q : ℤ) : Type 0 where
  pub apart : q ≢ pos 0
  pub same : (j : ℕ) → coordinate v j *ℤ (number_in line j).den ≡ q *ℤ (number_in line j).num

-- ---- spaces

-- 0 alone; the multiples of a vector; what is orthogonal to one; all
abbrev pub IsIn : Space → Vector → Type 0
IsIn Origin w = IsZero w
IsIn (Line p) w = IsZero (cross p w)
IsIn (Plane n) w = vector_dot n w ≡ pos 0
IsIn Whole w = Unit {0}

-- the vector is not 0, and none of its numbers is greater in magnitude than `most`
pub record IsSome (most : ℕ) (v : Vector) : Type 0 where
  pub some : IsZero v → ⊥
  pub small : IsUpTo most v

-- the vector of a line and that of a plane are not 0, and small
abbrev pub IsProper : Space → Type 0
IsProper Origin = Unit {0}
IsProper (Line p) = IsSome (2 ^ 18) p
IsProper (Plane n) = IsSome (2 ^ 37) n
IsProper Whole = Unit {0}

-- a multiple of a vector is a vector of the space plus a multiple of another
pub record IsSum (space : Space) (v w : Vector) : Type 0 where
  pub part : Vector
  pub by : ℤ
  pub times : ℤ
  pub apart : times ≢ pos 0
  pub within : IsIn space part
  pub x : times *ℤ w.x ≡ part.x +ℤ by *ℤ v.x
  pub y : times *ℤ w.y ≡ part.y +ℤ by *ℤ v.y
  pub z : times *ℤ w.z ≡ part.z +ℤ by *ℤ v.z

-- the space that a space and one more vector span
pub record Extends (before : Space) (v : Vector) (after : Space) : Type 0 where
  pub proper : IsProper after
  pub kept : (w : Vector) → IsIn before w → IsIn after w
  pub own : IsIn after v
  pub made : (w : Vector) → IsIn after w → IsSum before v w

-- ---- spaces of rows

-- a row of at most three numbers lies in the space
pub record IsRowIn (space : Space) (row : List Fraction) : Type 0 where
  pub few : length row ≤ 3
  pub positive : ArePositive row
  pub inside : IsIn space (cleared_row row)

-- the rows span the space
pub record IsSpanOf (rows : List (List Fraction)) (space : Space) : Type 0 where
  pub within : AllByRecursion (IsRowIn space) rows
  pub spanned : (w : Vector) → IsIn space w → IsSpanned rows (coordinate w)

-- the space that the rows span, as the code keeps it
pub record IsSpaceOf (rows : List (List Fraction)) (space : Space) : Type 0 where
  pub proper : IsProper space
  pub span : IsSpanOf rows space

-- ---- bases

-- each vector of the space is 0 from so many numbers on
pub record HasWidth (width : ℕ) (space : Space) : Type 0 where
  pub zero_past : (w : Vector) → IsIn space w → (j : ℕ) → width ≤ j → coordinate w j ≡ pos 0

-- the ratio is a numerator over a denominator
pub record IsRatioOf (r : Fraction) (num den : ℤ) : Type 0 where
  pub positive : pos 0 <ℤ r.den
  pub same : num *ℤ r.den ≡ den *ℤ r.num

-- lines of so many numbers in reduced echelon form that span the space
pub record IsBasisOf (width : ℕ) (space : Space) (lines : List (List Fraction)) : Type 0 where
  pub equal : AllByRecursion (λ (line : List Fraction). length line ≡ width) lines
  pub echelon : IsEchelon lines
  pub span : IsSpanOf lines space
