-- Words of the steps that make a null vector: the equations that lines of numbers stand for, and
-- what solves them.
use Rattle.std.specs.Prelude.{◌≡◌, ℕ, zero, suc, ◌+◌, ◌<◌, ◌≤◌, ℤ, pos, ◌*ℤ◌, ◌<ℤ◌, List, [], ◌∷◌, ◌++◌, length, get_or, unsigned_abs, Result}
use Rattle.std.specs.List.{AllByRecursion}
use Rattle.items.specs.Gives.{◌>>=◌}
use Rattle.whole_numbers.specs.declared.wide.Wide as Step
use Rattle.linear_terms.specs.declared.col.Col.{Col}
use Rattle.linear_terms.specs.declared.col.Col.TheVariants.{At}
use Rattle.linear_terms.specs.declared.row.Kind.TheVariants.{Equal}
use Rattle.linear_terms.specs.declared.row.Row.{Row}
use Rattle.linear_terms.specs.Operations.{with_term}
use Rattle.linear_terms.specs.Polynomial.{Terms, Polynomial, constant_of}
use Rattle.farkas_check.specs.Frames.{sum_below}
use Rattle.farkas_check.specs.Points.{ratio_at}
use Rattle.farkas_check.specs.Ratios.{Fraction, whole}
use Rattle.simplex.specs.Spots.{common_denominator, numerators_over}
use Rattle.elimination.specs.Probes.{IsRegular, number_at}

-- ---- lines

-- small lines of one number more than there are lines, which are regular without their last numbers
pub record AreRegularLines (lines : List (List ℤ)) : Type 0 where
  pub few : length lines ≤ 6
  pub wide : AllByRecursion (λ (line : List ℤ). length line ≡ length lines + 1) lines
  pub small : AllByRecursion (AllByRecursion (λ z. unsigned_abs z ≤ 4)) lines
  pub regular : IsRegular (length lines) (number_at lines)

-- ---- equations

-- a polynomial with one more entry column, in front
abbrev pub with_column : ℕ → ℤ → Polynomial → Polynomial
with_column place number p = record { terms = with_term (At place ∷ []) number p.terms; rest = p.rest }

-- the polynomial of numbers at the entry columns from a place on; the last number is the constant
abbrev pub poly_from : ℕ → List ℤ → Polynomial
poly_from place [] = constant_of (pos 0)
poly_from place (z ∷ []) = constant_of z
poly_from place (z ∷ (y ∷ zs)) = with_column place z (poly_from (place + 1) (y ∷ zs))

-- the line's polynomial is 0
abbrev pub equation_of : List ℤ → Row
equation_of line = record { poly = poly_from 0 line; kind = Equal }

-- the first of the terms stands at an entry column behind a place
abbrev pub StandsBehind : ℕ → Terms → Type 0
StandsBehind place [] = Unit {0}
StandsBehind place (t ∷ ts) = (j : ℕ) × ((place < j) × (t.0 ≡ At j ∷ []))

-- ---- solutions

-- the numbers that a point has at the first so many entry columns
abbrev pub values_to : List (List Col) → List Fraction → ℕ → List Fraction
values_to cs point zero = []
values_to cs point (suc n) = values_to cs point n ++ ratio_at cs point (At n ∷ []) ∷ []

-- ratios, and 1 behind them, that the lines make 0
pub record IsSolution (lines : List (List ℤ)) (values : List Fraction) : Type 0 where
  pub numerator : ℕ → ℤ
  pub over : ℤ
  pub positive : pos 0 <ℤ over
  pub each : length values ≡ length lines + 1
  pub same : (j : ℕ) → j < length values → (get_or values j (whole (pos 0))).num *ℤ over
      ≡ numerator j *ℤ (get_or values j (whole (pos 0))).den
  pub last : get_or values (length lines) (whole (pos 0)) ≡ whole (pos 1)
  pub last_too : numerator (length lines) ≡ over
  pub solves : (i : ℕ) → i < length lines
      → sum_below (length lines + 1) (λ j. number_at lines i j *ℤ numerator j) ≡ pos 0

-- the numerators over the least common denominator
abbrev pub least_numerators : List Fraction → Result (List ℤ) Step.Wide
least_numerators rs = common_denominator rs >>= λ common. numerators_over common rs
