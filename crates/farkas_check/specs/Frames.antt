-- Frames of rows, and the ways to write one by some of its columns, as in the simplex method
-- (Dantzig).
use Rattle.std.specs.Prelude.{◌≡◌, ℕ, zero, suc, ◌+◌, ◌*◌, ◌<◌, ◌≤◌, ◌==◌, ℤ, pos, ◌+ℤ◌, ◌*ℤ◌, ◌<ℤ◌, unsigned_abs, List, [], ◌∷◌, map, length, get_or, nat_lt, if◌then◌else◌}
use Rattle.std.specs.List.{AllByRecursion}
use Rattle.whole_numbers.specs.Divisors.{gcd_of_all}
use Rattle.linear_terms.specs.declared.col.Col.{Col}
use Rattle.linear_terms.specs.Polynomial.{Polynomial, coefficient_in}
use Rattle.farkas_check.specs.Relations.{entry, places}

-- ---- frames

-- Lines of equally many whole numbers. Behind them stand unit columns, one for each line, which has
-- 1 there and the other lines 0.
pub record Frame : Type 0 where
  pub lines : List (List ℤ)
  -- how many numbers each line has before its unit columns
  pub units : ℕ

-- how many lines a frame has
abbrev pub line_count : Frame → ℕ
line_count frame = length frame.lines

-- how many columns a frame has, its unit columns among them
abbrev pub width : Frame → ℕ
width frame = frame.units + line_count frame

-- the number of a line at a column
abbrev pub number_in : Frame → ℕ → ℕ → ℤ
number_in frame line column =
    if nat_lt column frame.units then entry (get_or frame.lines line []) column
    else (if column == frame.units + line then pos 1 else pos 0)

-- the coefficients of a polynomial at columns, and then its constant
abbrev pub line_of : List (List Col) → Polynomial → List ℤ
line_of [] p = p.rest ∷ []
line_of (c ∷ cs) p = coefficient_in p.terms c ∷ line_of cs p

-- the frame of polynomials over columns: a line for each
abbrev pub frame_of : List (List Col) → List Polynomial → Frame
frame_of cs ps = record { lines = map (line_of cs) ps; units = length cs + 1 }

-- ---- tableaux

-- f 0 + .. + f (n - 1)
abbrev pub sum_below : ℕ → (ℕ → ℤ) → ℤ
sum_below zero f = pos 0
sum_below (suc n) f = sum_below n f +ℤ f n

-- A tableau chooses as many columns of the frame as it has lines, and writes each column of the
-- frame as a sum of rational multiples of the chosen ones. The multiple of the k-th chosen column
-- in column j is `multiple k j` over one denominator.
pub record IsTableau (frame : Frame) (chosen : List ℕ) (over : ℤ)
    (multiple : ℕ → ℕ → ℤ) : Type 0 where
  pub each : length chosen ≡ line_count frame
  pub within : AllByRecursion (λ column. column < width frame) chosen
  pub positive : pos 0 <ℤ over
  pub writes : (line column : ℕ) → line < line_count frame → column < width frame
      → over *ℤ number_in frame line column
      ≡ sum_below (line_count frame)
      (λ k. multiple k column *ℤ number_in frame line (get_or chosen k 0))

-- ---- size

-- Over their least common denominator, which is what is left of it without the common divisor, the
-- numbers and the denominator are at most so great in magnitude.
abbrev pub AreUpTo : ℕ → List ℤ → Type 0
AreUpTo most numbers = AllByRecursion (λ z. unsigned_abs z ≤ most * gcd_of_all numbers) numbers

-- each line and each column of multiples of each tableau, with its least common denominator, is at
-- most so great
pub record IsCalmUpTo (most : ℕ) (frame : Frame) : Type 0 where
  pub lines : (chosen : List ℕ) (over : ℤ) (multiple : ℕ → ℕ → ℤ)
      → IsTableau frame chosen over multiple
      → (k : ℕ) → k < line_count frame
      → AreUpTo most (over ∷ map (multiple k) (places (width frame)))
  pub columns : (chosen : List ℕ) (over : ℤ) (multiple : ℕ → ℕ → ℤ)
      → IsTableau frame chosen over multiple
      → (column : ℕ) → column < width frame
      → AreUpTo most (over ∷ map (λ k. multiple k column) (places (line_count frame)))

-- ---- choices

-- the number of ways to choose k of n
abbrev pub choose : ℕ → ℕ → ℕ
choose n zero = 1
choose zero (suc k) = 0
choose (suc n) (suc k) = choose n k + choose n (suc k)

-- how many ways there are to choose as many columns as lines in a frame of so many lines over so
-- many columns of a case
abbrev pub choice_count : ℕ → ℕ → ℕ
choice_count column_count lines = choose (column_count + 1 + lines) lines
