-- Probes of a stratum question: what a difference has at a column, or as its constant. In a case
-- with room in each direction a difference is 0 at each point exactly where it is 0 at each probe.
--
-- The places of a case are its columns in order, and behind them the constants.
use Rattle.std.specs.Prelude.{◌≡◌, ℕ, zero, suc, ◌+◌, ◌<◌, ◌≤◌, ◌^◌, ◌==◌, ℤ, pos, negsuc, ◌*ℤ◌, ◌<ℤ◌, ◌≤ℤ◌, ◌⊎◌, List, [], ◌∷◌, ◌++◌, length, get_or, unsigned_abs, IsTrue, if◌then◌else◌}
use Rattle.std.specs.List.{AllByRecursion}
use Rattle.whole_numbers.specs.Divisors.{gcd_of_all}
use Rattle.linear_terms.specs.declared.col.Col.{Col}
use Rattle.linear_terms.specs.declared.row.Kind.TheVariants.{AtMost}
use Rattle.linear_terms.specs.declared.row.Row.{Row}
use Rattle.linear_terms.specs.Polynomial.{Polynomial, coefficient_in}
use Rattle.linear_terms.specs.Row.{IsWithin}
use Rattle.farkas_check.specs.declared.stratum.Change.{Change}
use Rattle.farkas_check.specs.Calm.{paired_sum}
use Rattle.farkas_check.specs.Frames.{line_of, sum_below}
use Rattle.farkas_check.specs.Relations.{Side, sides, side_value, difference, entry, unknown_count, is_reduced, free_places}
use Rattle.farkas_check.specs.Stratum.{terms_of}
use Rattle.elimination.specs.declared.probes.Probe.{Probe}
use Rattle.elimination.specs.declared.kernel.Kernel.{Kernel}
use Rattle.elimination.specs.declared.inner.Inner.{Inner}

-- ---- reading at a place

-- a polynomial at a place: its coefficient at the column, or its constant; 0 past that
abbrev pub read_at : List (List Col) → ℕ → Polynomial → ℤ
read_at [] zero p = p.rest
read_at [] (suc place) p = pos 0
read_at (c ∷ cs) zero p = coefficient_in p.terms c
read_at (c ∷ cs) (suc place) p = read_at cs place p

-- the polynomial 1 at a place
abbrev pub one_at : List (List Col) → ℕ → ℤ
one_at [] zero = pos 1
one_at [] (suc place) = pos 0
one_at (c ∷ cs) zero = pos 0
one_at (c ∷ cs) (suc place) = one_at cs place

-- what stands at an unknown, at a place; 0 past the last unknown
abbrev pub side_at : List (List Col) → ℕ → List Side → ℕ → ℤ
side_at cs place [] unknown = pos 0
side_at cs place (s ∷ ss) zero = side_value (read_at cs place) (one_at cs place) s
side_at cs place (s ∷ ss) (suc unknown) = side_at cs place ss unknown

-- the difference of numbers at a place
abbrev pub difference_at : List (List Col) → ℕ → List ℤ → List Side → ℤ
difference_at cs place numbers ss = difference (read_at cs place) (one_at cs place) numbers ss

-- what stands at an unknown, at a probe
abbrev pub probe_at : List (List Col) → List Change → List Polynomial → Probe → ℕ → ℤ
probe_at cs cases lower probe unknown =
    side_at cs probe.place (sides (terms_of cases probe.case) lower) unknown

-- ---- regular equations

-- some multiple of each right side, but not by 0, is what the first so many equations make of some
-- numbers
pub record HasSolution (count : ℕ) (numbers : ℕ → ℕ → ℤ) (right : ℕ → ℤ) : Type 0 where
  pub scale : ℤ
  pub apart : scale ≡ pos 0 → ⊥
  pub x : ℕ → ℤ
  pub solves : (i : ℕ) → i < count → sum_below count (λ j. numbers i j *ℤ x j) ≡ scale *ℤ right i

-- as many equations as unknowns that have a solution for each right side, read by lines and by
-- columns
pub record IsRegular (count : ℕ) (numbers : ℕ → ℕ → ℤ) : Type 0 where
  pub lines : (right : ℕ → ℤ) → HasSolution count numbers right
  pub columns : (right : ℕ → ℤ) → HasSolution count (λ i j. numbers j i) right

-- the number of a line at a column
abbrev pub number_at : List (List ℤ) → ℕ → ℕ → ℤ
number_at lines i j = entry (get_or lines i []) j

-- Numbers that each line makes 0. They are as many as the lines and one more, the last of them is
-- positive, they have no common divisor, and they are small.
pub record IsNullVector (lines : List (List ℤ)) (v : List ℤ) : Type 0 where
  pub each : length v ≡ length lines + 1
  pub solves : (i : ℕ) → i < length lines
      → sum_below (length lines + 1) (λ j. number_at lines i j *ℤ entry v j) ≡ pos 0
  pub positive : pos 0 <ℤ entry v (length lines)
  pub primitive : gcd_of_all v ≡ 1
  pub small : AllByRecursion (λ z. unsigned_abs z ≤ 28 ^ 6) v

-- ---- kernels

-- Multiples of the probes, over the number behind them, that make a unit of the unknowns that are
-- no pivot: 1 at the one at the place `own`, and 0 at the others.
pub record IsDual (cs : List (List Col)) (cases : List Change) (lower : List Polynomial)
    (probes : List Probe) (others : List ℕ) (own : ℕ) (v : List ℤ) : Type 0 where
  pub each : length v ≡ length probes + 1
  pub positive : pos 0 <ℤ entry v (length probes)
  pub unit : (i : ℕ) → i < length others
      → sum_below (length probes)
      (λ j. entry v j *ℤ probe_at cs cases lower (get_or probes j (record {
        case = 0;
        place = 0;
      })) (get_or others i 0)) ≡ (if i == own then entry v (length probes) else pos 0)
  pub small : AllByRecursion (λ z. unsigned_abs z ≤ 28 ^ 6) v

-- the difference of the numbers is the polynomial 0 in the case
abbrev pub IsNothing : List (List Col) → List Polynomial → List ℤ → Change → Type 0
IsNothing cs lower numbers case = (place : ℕ)
    → difference_at cs place numbers (sides case.terms lower) ≡ pos 0

-- small numbers, one for each unknown, whose difference is the polynomial 0 in each case
pub record IsNullLine (cs : List (List Col)) (cases : List Change) (lower : List Polynomial)
    (numbers : List ℤ) : Type 0 where
  pub each : length numbers ≡ unknown_count cases lower
  pub vanish : AllByRecursion (IsNothing cs lower numbers) cases
  pub small : AllByRecursion (λ z. unsigned_abs z ≤ 28 ^ 6) numbers

-- the place of a case and one of its places
pub record IsProbe (cs : List (List Col)) (cases : List Change) (probe : Probe) : Type 0 where
  pub case : probe.case < length cases
  pub place : probe.place ≤ length cs

-- The reduced relations whose differences are the polynomial 0 in each case, and probes that show
-- that there are no others: for each unknown that is no pivot their multiples make a unit.
pub record IsKernel (cs : List (List Col)) (cases : List Change) (lower : List Polynomial)
    (kernel : Kernel) : Type 0 where
  pub reduced : IsTrue (is_reduced kernel.relations)
  pub lines : AllByRecursion (IsNullLine cs cases lower) kernel.relations
  pub few : length kernel.probes ≤ 6
  pub probes : AllByRecursion (IsProbe cs cases) kernel.probes
  pub counted : length kernel.duals
      ≡ length (free_places kernel.relations (unknown_count cases lower))
  pub duals : (own : ℕ) → own < length kernel.duals
      → IsDual cs cases lower kernel.probes
      (free_places kernel.relations (unknown_count cases lower)) own (get_or kernel.duals own [])

-- ---- inner points

-- the value of a polynomial at an inner point, times the denominator
abbrev pub value_in : List (List Col) → Inner → Polynomial → ℤ
value_in cs inner p = paired_sum (line_of cs p) (inner.numbers ++ inner.over ∷ [])

-- the row has no columns and is true, or is an inequality that the point meets with room
abbrev pub IsDeepIn : List (List Col) → Inner → Row → Type 0
IsDeepIn cs inner row = ((row.poly.terms ≡ []) × IsWithin row.kind row.poly.rest)
    ⊎ ((row.kind ≡ AtMost) × (value_in cs inner row.poly ≤ℤ negsuc 0))

-- a point over one denominator, with small numbers, that leaves room in each row
pub record IsInner (cs : List (List Col)) (rows : List Row) (inner : Inner) : Type 0 where
  pub each : length inner.numbers ≡ length cs
  pub positive : pos 0 <ℤ inner.over
  pub over_small : unsigned_abs inner.over ≤ 20 ^ 5
  pub small : AllByRecursion (λ z. unsigned_abs z ≤ 20 ^ 5) inner.numbers
  pub deep : AllByRecursion (IsDeepIn cs inner) rows
