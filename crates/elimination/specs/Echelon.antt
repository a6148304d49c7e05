-- What rows of rational numbers span, and their reduced row echelon form.
use Rattle.std.specs.Prelude.{◌≡◌, ◌≢◌, ◌↔◌, ℕ, ◌<◌, ◌≤◌, ℤ, pos, ◌+ℤ◌, ◌*ℤ◌, List, [], ◌∷◌, map, length, get_or, slice_get, Some, unsigned_abs, All}
use Rattle.std.specs.List.{AllByRecursion}
use Rattle.farkas_check.specs.Ratios.{Fraction, IsLowest, whole}
use Rattle.farkas_check.specs.Relations.{pivot}

-- ---- rows

-- the number of a row at a place; 0 past the last
abbrev pub number_in : List Fraction → ℕ → Fraction
number_in row place = get_or row place (whole (pos 0))

-- how many numbers the first row has; none without rows
abbrev pub width : List (List Fraction) → ℕ
width [] = 0
width (row ∷ rows) = length row

-- numerator and denominator are at most 64 in magnitude
pub record IsSmallRatio (r : Fraction) : Type 0 where
  pub num : unsigned_abs r.num ≤ 64
  pub den : unsigned_abs r.den ≤ 64

-- rows of equally many numbers, at most three, all of them small
pub record AreSmallRatios (rows : List (List Fraction)) : Type 0 where
  pub equal : All (λ (row : List Fraction). length row ≡ width rows) rows
  pub few : width rows ≤ 3
  pub small : All (All IsSmallRatio) rows

-- ---- what rows span: whole numbers, one for each place, to which each rational vector of the span
-- is proportional

-- the numbers are a multiple of those of a row
pub record IsMultipleOf (row : List Fraction) (numbers : ℕ → ℤ) : Type 0 where
  pub times : ℤ
  pub same : (j : ℕ) → numbers j *ℤ (number_in row j).den ≡ times *ℤ (number_in row j).num

-- The least set that has 0 and the multiples of each row, and all numbers of which a multiple, but
-- not by 0, is a sum of multiples of two others.
pub data IsSpanned (rows : List (List Fraction)) : (ℕ → ℤ) → Type 0 where
  Zero : (numbers : ℕ → ℤ) → ((j : ℕ) → numbers j ≡ pos 0) → IsSpanned rows numbers
  Own : (place : ℕ) (row : List Fraction) (numbers : ℕ → ℤ) → slice_get rows place ≡ Some row
      → IsMultipleOf row numbers → IsSpanned rows numbers
  Sum : (first second numbers : ℕ → ℤ) (a b times : ℤ) → IsSpanned rows first
      → IsSpanned rows second → times ≢ pos 0
      → ((j : ℕ) → times *ℤ numbers j ≡ a *ℤ first j +ℤ b *ℤ second j) → IsSpanned rows numbers

-- ---- reduced row echelon form

-- how many zeros stand before the first number that is not 0: the place of the pivot
abbrev pub pivot_in : List Fraction → ℕ
pivot_in line = pivot (map (λ (r : Fraction). r.num) line)

-- the first number that is not 0 is 1
abbrev pub HasUnitPivot : List Fraction → Type 0
HasUnitPivot line = number_in line (pivot_in line) ≡ whole (pos 1)

-- the later line's pivot stands further on, and the earlier line is 0 there
pub record StandsBefore (line later : List Fraction) : Type 0 where
  pub rising : pivot_in line < pivot_in later
  pub alone : number_in line (pivot_in later) ≡ whole (pos 0)

-- Each line has the pivot 1, and pivots rise. All other lines are 0 there: the lines before it as
-- is asked, and those behind it since they begin with zeros up to their own pivot.
abbrev pub IsEchelon : List (List Fraction) → Type 0
IsEchelon [] = Unit {0}
IsEchelon (line ∷ lines) = HasUnitPivot line × AllByRecursion (StandsBefore line) lines
    × IsEchelon lines

-- the reduced row echelon basis of rows: lines as long as these, in that form, that span the same
pub record IsReducedOf (rows lines : List (List Fraction)) : Type 0 where
  pub equal : AllByRecursion (λ (line : List Fraction). length line ≡ width rows) lines
  pub echelon : IsEchelon lines
  pub same : (numbers : ℕ → ℤ) → IsSpanned rows numbers ↔ IsSpanned lines numbers

-- a law: rows have one reduced basis, of numbers in lowest terms
abbrev pub OneReducedBasis : Type 0
OneReducedBasis = (rows lines others : List (List Fraction))
    → AllByRecursion (AllByRecursion IsLowest) lines
    → AllByRecursion (AllByRecursion IsLowest) others
    → IsReducedOf rows lines → IsReducedOf rows others → lines ≡ others
