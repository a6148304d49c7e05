-- Spots of a stratum question: the values at a point, and the frame of the lines that spots have
-- under the unknowns.
use Rattle.std.specs.Prelude.{◌≡◌, ◌≢◌, ◌*ℤ◌, ◌<ℤ◌, ℕ, zero, suc, ◌+◌, ℤ, pos, negsuc, int_div, List, [], ◌∷◌, ◌++◌, length, get_or, Option, MatchOption, ◌<◌, Result, Ok, if◌then◌else◌}
use Rattle.items.specs.Gives.{◌>>=◌}
use Rattle.whole_numbers.specs.Divisors.{gcd_of_all}
use Rattle.whole_numbers.specs.Fits.{product_of}
use Rattle.whole_numbers.specs.declared.wide.Wide as Step
use Rattle.linear_terms.specs.declared.col.Col.{Col}
use Rattle.linear_terms.specs.Polynomial.{Polynomial}
use Rattle.farkas_check.specs.Frames.{Frame, sum_below}
use Rattle.farkas_check.specs.Points.{ratio_at, ratio_value}
use Rattle.farkas_check.specs.Ratios.{Fraction, whole, lowest_terms, common_multiple, ratio_sum}
use Rattle.farkas_check.specs.Stratum.{terms_of, minus_value}
use Rattle.farkas_check.specs.declared.stratum.Change.{Change}
use Rattle.farkas_check.specs.declared.stratum.Spot.{Spot}
use Rattle.farkas_check.specs.Relations.{entry, pivot}
use Rattle.simplex.specs.Exchange.{numbers_of, choices_of, IsTableauOf, ArePrimitive}
use Rattle.simplex.specs.Frames.{is_chosen}
use Rattle.simplex.specs.Raise.{Framed}
use Rattle.simplex.specs.Rows.{units_to, units_from}
use Rattle.simplex.specs.declared.spots.Spots.{Spots}
use Rattle.simplex.specs.declared.tableau.Tableau.{Tableau}

-- ---- numbers over a common denominator

-- the least common multiple of a denominator and those of ratios
abbrev pub denominator_from : ℤ → List Fraction → Result ℤ Step.Wide
denominator_from common [] = Ok common
denominator_from common (r ∷ rs) = common_multiple common r.den >>= λ next. denominator_from next rs

-- the least common multiple of the denominators of ratios; 1 where there are none
abbrev pub common_denominator : List Fraction → Result ℤ Step.Wide
common_denominator rs = denominator_from (pos 1) rs

-- the numerators over a common denominator
abbrev pub numerators_over : ℤ → List Fraction → Result (List ℤ) Step.Wide
numerators_over common [] = Ok []
numerators_over common (r ∷ rs) = product_of r.num (int_div common r.den)
    >>= λ n. numerators_over common rs >>= λ more. Ok (n ∷ more)

-- the sums of two lists of ratios, place by place
abbrev pub sums_of : List Fraction → List Fraction → Result (List Fraction) Step.Wide
sums_of [] ys = Ok []
sums_of (x ∷ xs) [] = Ok []
sums_of (x ∷ xs) (y ∷ ys) = ratio_sum x y >>= λ z. sums_of xs ys >>= λ more. Ok (z ∷ more)

-- the values of polynomials, one after another
abbrev pub values_of : (Polynomial → Result Fraction Step.Wide) → List Polynomial
    → Result (List Fraction) Step.Wide
values_of value [] = Ok []
values_of value (p ∷ ps) = value p >>= λ r. values_of value ps >>= λ more. Ok (r ∷ more)

-- what a relation's difference has at a point under each unknown: the values of the terms, those of
-- the lower terms times
-- -1, and -1
pub record AreSideValues (cs : List (List Col)) (at : List Fraction) (terms lower : List Polynomial)
    (values : List Fraction) : Type 0 where
  pub own : List Fraction
  pub others : List Fraction
  pub own_is : values_of (ratio_value (ratio_at cs at)) terms ≡ Ok own
  pub others_is : values_of (minus_value (ratio_value (ratio_at cs at))) lower ≡ Ok others
  pub is : values ≡ own ++ (others ++ whole (negsuc 0) ∷ [])

-- the line of a spot under the unknowns, and the number by which its values were multiplied
pub record IsSpotLine (cs : List (List Col)) (at : List Fraction) (terms lower : List Polynomial)
    (line : List ℤ) (scale : ℤ) : Type 0 where
  pub values : List Fraction
  pub are : AreSideValues cs at terms lower values
  pub scale_is : common_denominator values ≡ Ok scale
  pub line_is : numerators_over scale values ≡ Ok line

-- the sum of products of numbers at the unknowns
abbrev pub inner_product : ℕ → List ℤ → List ℤ → ℤ
inner_product count ns line = sum_below count (λ j. entry ns j *ℤ entry line j)

-- what a relation's numbers make of a spot's line at the point is not 0
abbrev pub IsApart : List (List Col) → List Polynomial → List Polynomial → ℕ → List ℤ
    → List Fraction → Type 0
IsApart cs terms lower count numbers at = (line : List ℤ) (scale : ℤ)
    → IsSpotLine cs at terms lower line scale → inner_product count numbers line ≡ pos 0 → ⊥

-- the lines of spots, and the numbers by which their values were multiplied
abbrev pub AreSpotLines : List (List Col) → List Change → List Polynomial → List Spot
    → List (List ℤ) → List ℤ → Type 0
AreSpotLines cs cases lower [] lines scales = (lines ≡ []) × (scales ≡ [])
AreSpotLines cs cases lower (spot ∷ spots) [] scales = ⊥
AreSpotLines cs cases lower (spot ∷ spots) (line ∷ lines) [] = ⊥
AreSpotLines cs cases lower (spot ∷ spots) (line ∷ lines) (scale ∷ scales) =
    IsSpotLine cs spot.at (terms_of cases spot.case) lower line scale
    × AreSpotLines cs cases lower spots lines scales

-- one more line behind those of other spots
pub record HasMoreLine (cs : List (List Col)) (at : List Fraction) (terms lower : List Polynomial)
    (known made : Spots) : Type 0 where
  pub line : List ℤ
  pub scale : ℤ
  pub is : IsSpotLine cs at terms lower line scale
  pub lines : made.lines ≡ known.lines ++ line ∷ []
  pub scales : made.scales ≡ known.scales ++ scale ∷ []

-- the last of the first columns at which a line is not 0, or it is 0 at all
abbrev pub IsLastColumn : List ℤ → ℕ → Option ℕ → Type 0
IsLastColumn line count found =
    MatchOption found ((j : ℕ) → j < count → entry line j ≡ pos 0)
    (λ column. (column < count) × (entry line column ≡ pos 0 → ⊥)
    × ((j : ℕ) → column < j → j < count → entry line j ≡ pos 0))

-- ---- the frame of spots

-- the first so many numbers of a line
abbrev pub entries_to : List ℤ → ℕ → List ℤ
entries_to line zero = []
entries_to line (suc n) = entries_to line n ++ entry line n ∷ []

-- a spot's line in its frame: its numbers at the unknowns, and 1 at its own unit column
abbrev pub spot_row : ℕ → ℕ → ℕ → List ℤ → List ℤ
spot_row count all place line = entries_to line count ++ units_to all place

-- the lines of the spots from a place on
abbrev pub spot_rows : ℕ → ℕ → ℕ → List (List ℤ) → List (List ℤ)
spot_rows count all place [] = []
spot_rows count all place (line ∷ lines) = spot_row count all place line ∷ spot_rows count all
    (place + 1) lines

-- the tableau of the spots that chooses the unit columns
abbrev pub spots_framed : ℕ → List (List ℤ) → Tableau
spots_framed count lines = record {
  lines = spot_rows count (length lines) 0 lines;
  chosen = units_from count (length lines);
}

-- the frame of the spots is what this tableau says
abbrev pub spots_frame : ℕ → List (List ℤ) → Framed
spots_frame count lines = record {
  units = count;
  rows = 0;
  frame = numbers_of (spots_framed count lines);
}

-- the same frame in the words of calm questions
abbrev pub frame_of_lines : ℕ → List (List ℤ) → Frame
frame_of_lines count lines = record { lines = lines; units = count }

-- each line is 0 at the unknowns behind its choice
abbrev pub EndsAtChoices : ℕ → Tableau → Type 0
EndsAtChoices count t = (i j : ℕ) → i < length t.lines → choices_of t i < j → j < count
    → numbers_of t i j ≡ pos 0

-- a tableau of the frame of lines, each of whose lines has no common divisor
pub record IsSpotTableau (count : ℕ) (lines : List (List ℤ)) (t : Tableau) : Type 0 where
  pub many : length t.lines ≡ length lines
  pub tableau : IsTableauOf count (numbers_of (spots_framed count lines)) t
  pub primitive : ArePrimitive t
  pub ends : EndsAtChoices count t

-- a sum of multiples of lines that is 0 at all unknowns has no multiple but 0
pub record AreIndependent (count : ℕ) (lines : List (List ℤ)) : Type 0 where
  pub all_zero : (w : ℕ → ℤ)
      → ((j : ℕ) → j < count → sum_below (length lines) (λ l. w l *ℤ entry (get_or lines l []) j)
      ≡ pos 0) → (l : ℕ) → l < length lines → w l ≡ pos 0

-- a spot at the point has a line that is independent of these
pub record IsNewPoint (cs : List (List Col)) (at : List Fraction) (terms lower : List Polynomial)
    (count : ℕ) (lines : List (List ℤ)) : Type 0 where
  pub any : (line : List ℤ) (scale : ℤ) → IsSpotLine cs at terms lower line scale
      → AreIndependent count (lines ++ line ∷ [])

-- no line chooses the unknown
pub record IsUnchosen (t : Tableau) (unknown : ℕ) : Type 0 where
  pub none : (k : ℕ) → k < length t.lines → choices_of t k ≢ unknown

-- each of the first so many lines chooses an unknown
abbrev pub ChoosesUnknowns : ℕ → ℕ → Tableau → Type 0
ChoosesUnknowns count place t = (i : ℕ) → i < place → choices_of t i < count

-- each spot has a line and a number by which its values were multiplied; the lines are independent,
-- and each chooses an unknown
pub record AreSpots (count : ℕ) (spots : Spots) : Type 0 where
  pub scales : length spots.scales ≡ length spots.lines
  pub tableau : IsSpotTableau count spots.lines spots.tableau
  pub independent : AreIndependent count spots.lines
  pub chosen : ChoosesUnknowns count (length spots.lines) spots.tableau

-- ---- relations

-- The relation of an unknown: it is positive there, at a chosen unknown it is what makes up for the
-- line there, and 0 elsewhere. Its numbers have no common divisor.
pub record IsRelationOf (count : ℕ) (t : Tableau) (unknown : ℕ) (numbers : List ℤ) : Type 0 where
  pub each : length numbers ≡ count
  pub positive : pos 0 <ℤ entry numbers unknown
  pub chosen : (k : ℕ) → k < length t.lines → choices_of t k < count → choices_of t k ≢ unknown
      → entry numbers (choices_of t k) *ℤ numbers_of t k (choices_of t k)
      ≡ numbers_of t k unknown *ℤ negsuc 0 *ℤ entry numbers unknown
  pub free : (own : ℕ) → own < count → own ≢ unknown
      → ((k : ℕ) → k < length t.lines → choices_of t k ≢ own) → entry numbers own ≡ pos 0
  pub primitive : gcd_of_all numbers ≡ 1

-- some relation has its first number that is not 0 at the unknown
abbrev pub HasPivot : ℕ → List (List ℤ) → Type 0
HasPivot u relations = (i : ℕ) × ((i < length relations) × (pivot (get_or relations i []) ≡ u))

-- The relations of all unknowns before a place that no line chooses, in order. The first number of
-- a relation that is not 0 stands at its unknown.
pub record AreRelations (count : ℕ) (t : Tableau) (place : ℕ)
    (relations : List (List ℤ)) : Type 0 where
  pub each : (i : ℕ) → i < length relations
      → IsRelationOf count t (pivot (get_or relations i [])) (get_or relations i [])
  pub within : (i : ℕ) → i < length relations → pivot (get_or relations i []) < place
  pub free : (i k : ℕ) → i < length relations → k < length t.lines
      → choices_of t k ≢ pivot (get_or relations i [])
  pub rising : (i j : ℕ) → i < j → j < length relations
      → pivot (get_or relations i []) < pivot (get_or relations j [])
  pub all : (u : ℕ) → u < place → ((k : ℕ) → k < length t.lines → choices_of t k ≢ u)
      → HasPivot u relations

-- ---- chosen unknowns

-- a line's number at a place, times the number by which a spot's values were multiplied, over the
-- line's own number
abbrev pub unit_multiple : List ℤ → ℤ → ℕ → ℤ → Result Fraction Step.Wide
unit_multiple line own place scale = product_of (entry line place) scale
    >>= λ n. Ok (lowest_terms n own)

-- the same from a place on, for one spot after another
abbrev pub multiples_from : List ℤ → ℤ → ℕ → List ℤ → Result (List Fraction) Step.Wide
multiples_from line own place [] = Ok []
multiples_from line own place (scale ∷ scales) = unit_multiple line own place scale
    >>= λ r. multiples_from line own (place + 1) scales >>= λ more. Ok (r ∷ more)

-- the multiples of the spots' differences that a line gives whose choice is an unknown
pub record IsUnitList (count : ℕ) (spots : Spots) (unknown : ℕ) (by : List Fraction) : Type 0 where
  pub line : ℕ
  pub here : line < length spots.tableau.lines
  pub chooses : choices_of spots.tableau line ≡ unknown
  pub is : multiples_from (get_or spots.tableau.lines line [])
      (numbers_of spots.tableau line unknown) count spots.scales ≡ Ok by

-- such multiples for each unknown
abbrev pub AreUnitLists : ℕ → Spots → List ℕ → List (List Fraction) → Type 0
AreUnitLists count spots [] lists = lists ≡ []
AreUnitLists count spots (u ∷ us) [] = ⊥
AreUnitLists count spots (u ∷ us) (by ∷ lists) = IsUnitList count spots u by
    × AreUnitLists count spots us lists

-- the unknowns below a place that some line chooses, in order
abbrev pub chosen_below : Tableau → ℕ → List ℕ
chosen_below t zero = []
chosen_below t (suc n) =
    chosen_below t n ++ (if is_chosen (length t.lines) (choices_of t) n then n ∷ [] else [])
