-- Whole numbers that make each of a few lines negative, and the goal that asks for them.
use Rattle.std.specs.Prelude.{◌≡◌, ℕ, ◌≤◌, ◌^◌, ℤ, pos, negsuc, ◌<ℤ◌, ◌≤ℤ◌, List, [], ◌∷◌, ◌++◌, map, length, unsigned_abs, Option, None, Some, Bool, true, false}
use Rattle.std.specs.List.{AllByRecursion}
use Rattle.linear_terms.specs.declared.col.Col.{Col}
use Rattle.linear_terms.specs.declared.row.Kind.{Kind}
use Rattle.linear_terms.specs.declared.row.Kind.TheVariants.{AtMost, Equal}
use Rattle.linear_terms.specs.declared.row.Row.{Row}
use Rattle.linear_terms.specs.Polynomial.{Terms, Polynomial, constant_of}
use Rattle.linear_terms.specs.Row.{is_within}
use Rattle.farkas_check.specs.declared.question.Goal.{Goal}
use Rattle.farkas_check.specs.Calm.{paired_sum}
use Rattle.farkas_check.specs.Frames.{line_of}
use Rattle.farkas_check.specs.Ratios.{Fraction}
use Rattle.farkas_check.specs.Tested.{goal_columns}
use Rattle.farkas_check.proofs.Spreads.{RowsAmong}
use Rattle.farkas_check.proofs.Walks.{IsOrdered}
use Rattle.simplex.specs.Points.{IsCornerPoint}
use Rattle.simplex.proofs.Numerators.{IsRatioBelow}
use Rattle.simplex.specs.declared.supremum.Supremum.{Supremum}
use Rattle.simplex.specs.declared.supremum.Supremum.TheVariants as supremum
use Rattle.elimination.specs.Equations.{poly_from}

-- ---- descents

-- few lines of equally many small numbers
pub record AreSmallLines (count : ℕ) (lines : List (List ℤ)) : Type 0 where
  pub few_columns : count ≤ 4
  pub few : length lines ≤ 13
  pub each : AllByRecursion (λ line. length line ≡ count) lines
  pub small : AllByRecursion (λ line. AllByRecursion (λ z. unsigned_abs z ≤ 4) line) lines

-- the line is negative on the numbers
abbrev pub IsBelow : List ℤ → List ℤ → Type 0
IsBelow numbers line = paired_sum line numbers ≤ℤ negsuc 0

-- small numbers on which each line is negative
pub record IsDescent (count : ℕ) (lines : List (List ℤ)) (numbers : List ℤ) : Type 0 where
  pub each : length numbers ≡ count
  pub small : AllByRecursion (λ z. unsigned_abs z ≤ 20 ^ 5) numbers
  pub below : AllByRecursion (IsBelow numbers) lines

-- on no numbers is each line negative
pub record HasNoDescent (count : ℕ) (lines : List (List ℤ)) : Type 0 where
  pub none : (numbers : List ℤ) → length numbers ≡ count → AllByRecursion (IsBelow numbers) lines
      → ⊥

-- ---- the goal: each line and 1 is at most 0

-- a line's numbers at the entry columns, and 1
abbrev pub line_poly : List ℤ → Polynomial
line_poly line = poly_from 0 (line ++ pos 1 ∷ [])

-- the row that says that a line and 1 are at most 0
abbrev pub line_row : List ℤ → Row
line_row line = record { poly = line_poly line; kind = AtMost }

-- the goal with the row of each line, in order, and the objective 0
abbrev pub line_goal : List (List ℤ) → Goal
line_goal lines = record { rows = map line_row lines; objective = constant_of (pos 0) }

-- ---- its points

-- the point of a supremum
abbrev pub point_of : Supremum → Option (List Fraction)
point_of supremum.Empty = None
point_of supremum.Pivots = None
point_of (supremum.Bound cert point) = Some point
point_of (supremum.Unbounded point ray) = Some point

-- the point is a corner of the rows of the lines, over the columns of their goal
abbrev pub IsLineCorner : List (List ℤ) → List Fraction → Type 0
IsLineCorner lines point = IsCornerPoint (goal_columns (line_goal lines)) (map line_row lines) point

-- ratios with numbers up to a size over one denominator up to that size
pub record AreRatiosBelow (most : ℕ) (rs : List Fraction) : Type 0 where
  pub over : ℤ
  pub positive : pos 0 <ℤ over
  pub small : unsigned_abs over ≤ most
  pub each : AllByRecursion (IsRatioBelow most over) rs

-- ---- rows as lines

-- at most three columns, in print order, among which are those of the rows
pub record HasColumns (cs : List (List Col)) (rows : List Row) : Type 0 where
  pub few : length cs ≤ 3
  pub ordered : IsOrdered cs
  pub among : RowsAmong rows cs

-- the kind is that of an inequality
abbrev pub is_at_most : Kind → Bool
is_at_most AtMost = true
is_at_most Equal = false

-- a row of these terms, this kind and this constant is true without columns, or is an inequality
abbrev pub is_open_with : Terms → Kind → ℤ → Bool
is_open_with [] kind rest = is_within kind rest
is_open_with (t ∷ ts) kind rest = is_at_most kind

-- the row is true without columns, or is an inequality
abbrev pub is_open : Row → Bool
is_open row = is_open_with row.poly.terms row.kind row.poly.rest

-- the line alone; no line where there are no terms
abbrev pub line_unless : Terms → List ℤ → List (List ℤ)
line_unless [] line = []
line_unless (t ∷ ts) line = line ∷ []

-- the numbers of a row at columns and its constant, where it has columns
abbrev pub row_lines : List (List Col) → Row → List (List ℤ)
row_lines cs row = line_unless row.poly.terms (line_of cs row.poly)

-- the line that says that the denominator is positive
abbrev pub over_line : List (List Col) → List ℤ
over_line [] = negsuc 0 ∷ []
over_line (c ∷ cs) = pos 0 ∷ over_line cs

-- the lines of rows, and last that of the denominator
abbrev pub deep_lines : List (List Col) → List Row → List (List ℤ)
deep_lines cs [] = over_line cs ∷ []
deep_lines cs (row ∷ rows) = row_lines cs row ++ deep_lines cs rows
