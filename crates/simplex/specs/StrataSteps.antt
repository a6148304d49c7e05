-- The steps of a search for relations: what is made in whole numbers of spots, of relations and of
-- their differences, and the search of a difference in a case.
use Rattle.std.specs.Prelude.{◌≡◌, ℕ, ◌+◌, ◌^◌, ◌<◌, ℤ, pos, negsuc, List, [], ◌∷◌, ◌++◌, length, take, drop, get_or, slice_get, Some, Bool, true, not, Result, Ok, Err, if◌then◌else◌}
use Rattle.std.specs.List.{AllByRecursion}
use Rattle.std.specs.Ordering.{int_eq}
use Rattle.items.specs.Gives.{◌>>=◌, err_map}
use Rattle.whole_numbers.specs.declared.wide.Wide as Step
use Rattle.linear_terms.specs.declared.col.Col.{Col}
use Rattle.linear_terms.specs.declared.error.TermError.{TermError}
use Rattle.linear_terms.specs.Operations.{sum_of_polys}
use Rattle.linear_terms.specs.Polynomial.{Polynomial, constant_of}
use Rattle.linear_terms.specs.TermError.{wide}
use Rattle.farkas_check.specs.Points.{ratio_at, ratio_value}
use Rattle.farkas_check.specs.Ratios.{Fraction, whole}
use Rattle.farkas_check.specs.Relations.{entry, term_count, unknown_count}
use Rattle.farkas_check.specs.Stratum.{terms_of, minus_value}
use Rattle.farkas_check.specs.declared.stratum.Change.{Change}
use Rattle.farkas_check.specs.declared.stratum.Spot.{Spot}
use Rattle.simplex.specs.Differences.{with_multiples, IsDifferenceOf}
use Rattle.simplex.specs.Exchange.{exchange, line_multiple, numbers_of, choices_of}
use Rattle.simplex.specs.Points.{IsSpotAt}
use Rattle.simplex.specs.Raise.{sign_of}
use Rattle.simplex.specs.SearchSteps.{StopsBy, far_step, IsSlopeStep, IsFrameStep}
use Rattle.simplex.specs.Spots.{common_denominator, numerators_over, sums_of, values_of, AreSpotLines, IsSpotTableau, IsRelationOf, multiples_from}
use Rattle.simplex.specs.Suprema.{own_frame, IsRayOf, IsSupremumOver}
use Rattle.simplex.specs.declared.stop.SearchStop.{SearchStop}
use Rattle.simplex.specs.declared.supremum.Supremum.TheVariants as supremum
use Rattle.simplex.specs.declared.tableau.Tableau.{Tableau}

-- ---- what is made

-- the numerators of ratios over their least common denominator
abbrev pub numerators_of : List Fraction → Result (List ℤ) Step.Wide
numerators_of rs = common_denominator rs >>= λ scale. numerators_over scale rs

-- the line that a spot at the point has under the unknowns
abbrev pub line_at : List (List Col) → List Fraction → List Polynomial → List Polynomial
    → Result (List ℤ) Step.Wide
line_at cs at terms lower =
    values_of (ratio_value (ratio_at cs at)) terms >>= λ own.
    values_of (minus_value (ratio_value (ratio_at cs at))) lower
    >>= λ others. numerators_of (own ++ (others ++ whole (negsuc 0) ∷ []))

-- the difference of the numbers in a case with so many terms, or minus the difference, from the
-- signed numbers of the terms and of the lower terms and 1
abbrev pub difference_from : List ℤ → List ℤ → List Polynomial → List Polynomial
    → Result Polynomial TermError
difference_from own others terms lower =
    with_multiples (constant_of (pos 0)) own terms >>= λ first.
    with_multiples first others lower
    >>= λ sides. sum_of_polys sides (constant_of (entry others (length lower)))

-- the same from the numbers
abbrev pub difference_made : ℕ → List ℤ → Bool → List Polynomial → List Polynomial
    → Result Polynomial TermError
difference_made count numbers up terms lower =
    err_map wide (line_multiple (take count numbers) (sign_of up)) >>= λ own.
    err_map wide (line_multiple (drop count numbers) (sign_of (not up)))
    >>= λ others. difference_from own others terms lower

-- the point itself where the objective is not 0 there, and else the one further along the ray
abbrev pub point_beyond : List (List Col) → Polynomial → List Fraction → List Fraction
    → Result (List Fraction) Step.Wide
point_beyond cs p point ray = ratio_value (ratio_at cs point) p
    >>= λ value. if int_eq value.num (pos 0) then sums_of point ray else Ok point

-- the stop is the step at which the stated sum ends, or want of memory
abbrev pub StopsSum : Result Polynomial TermError → SearchStop → Type 0
StopsSum stated stop = StopsBy (λ step. stated ≡ Err (wide step)) stop

-- ---- spots and relations

-- spots that are points of their cases, with their lines and the numbers by which their values were
-- multiplied
pub record AreSpotsIn (cs : List (List Col)) (cases : List Change) (lower : List Polynomial)
    (spots : List Spot) (lines : List (List ℤ)) (scales : List ℤ) : Type 0 where
  pub points : AllByRecursion (IsSpotAt cs cases) spots
  pub are : AreSpotLines cs cases lower spots lines scales

-- a tableau of the lines of such spots
pub record IsTableauOfSpots (cs : List (List Col)) (cases : List Change) (lower : List Polynomial)
    (t : Tableau) : Type 0 where
  pub spots : List Spot
  pub lines : List (List ℤ)
  pub scales : List ℤ
  pub are : AreSpotsIn cs cases lower spots lines scales
  pub is : IsSpotTableau (unknown_count cases lower) lines t

-- the numbers of a relation that such a tableau gives
pub record IsCandidate (cs : List (List Col)) (cases : List Change) (lower : List Polynomial)
    (numbers : List ℤ) : Type 0 where
  pub tableau : Tableau
  pub of : IsTableauOfSpots cs cases lower tableau
  pub unknown : ℕ
  pub is : IsRelationOf (unknown_count cases lower) tableau unknown numbers

-- ---- steps

-- The step is one of the search for relations. It stops the line of a spot, an exchange of a
-- tableau of spots, a number or the whole numbers of a relation that is read off there, the
-- multiples of the spots' differences for an unknown, the difference of a relation in a case, the
-- search for how great the difference gets, a point beyond its corner, or the number of a case.
pub data IsSearchStep (cs : List (List Col)) (cases : List Change) (lower : List Polynomial)
    (step : Step.Wide) : Type 0 where
  spot_step : (spot : Spot) → IsSpotAt cs cases spot
      → line_at cs spot.at (terms_of cases spot.case) lower ≡ Err step
      → IsSearchStep cs cases lower step
  choice_step : (t : Tableau) (line column : ℕ) → IsTableauOfSpots cs cases lower t
      → exchange t line column ≡ Err step → IsSearchStep cs cases lower step
  ratio_step : (t : Tableau) (unknown : ℕ) → IsTableauOfSpots cs cases lower t
      → IsSlopeStep t unknown true step → IsSearchStep cs cases lower step
  relation_step : (t : Tableau) (unknown : ℕ) (ratios : List Fraction)
      → IsTableauOfSpots cs cases lower t → IsRayOf t unknown true (unknown_count cases lower) ratios
      → numerators_of ratios ≡ Err step → IsSearchStep cs cases lower step
  unit_step : (t : Tableau) (line : ℕ) (of : IsTableauOfSpots cs cases lower t)
      → multiples_from (get_or t.lines line []) (numbers_of t line (choices_of t line))
      (unknown_count cases lower) of.scales ≡ Err step → IsSearchStep cs cases lower step
  difference_step : (numbers : List ℤ) (up : Bool) (place : ℕ) (case : Change)
      → IsCandidate cs cases lower numbers → slice_get cases place ≡ Some case
      → difference_made (term_count cases) numbers up case.terms lower ≡ Err (wide step)
      → IsSearchStep cs cases lower step
  case_step : (numbers : List ℤ) (up : Bool) (place : ℕ) (case : Change) (p : Polynomial)
      → IsCandidate cs cases lower numbers → slice_get cases place ≡ Some case
      → IsDifferenceOf case.terms lower numbers up p
      → IsFrameStep (own_frame case.rows p) (length case.rows + 1) step
      → IsSearchStep cs cases lower step
  beyond_step : (numbers : List ℤ) (up : Bool) (place : ℕ) (case : Change) (p : Polynomial)
      (budget : ℕ) (point ray : List Fraction) → IsCandidate cs cases lower numbers
      → slice_get cases place ≡ Some case → IsDifferenceOf case.terms lower numbers up p
      → IsSupremumOver cs case.rows p budget (supremum.Unbounded point ray)
      → point_beyond cs p point ray ≡ Err step → IsSearchStep cs cases lower step
  place_step : 2 ^ 32 < length cases → step ≡ far_step → IsSearchStep cs cases lower step
