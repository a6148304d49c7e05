-- A search for relations meets a step that leaves 128 bits only where its question is not calm.
use Rattle.std.specs.Prelude.{◌≡◌, ℕ, ℤ, ◌≤◌, unsigned_abs, List, [], ◌∷◌, ◌++◌, get_or, length, true, Err, ⊤}
use Rattle.std.specs.List.{AllByRecursion}
use Rattle.linear_terms.specs.declared.col.Col.{Col}
use Rattle.linear_terms.specs.Polynomial.{Polynomial}
use Rattle.whole_numbers.specs.declared.wide.Wide as Step
use Rattle.farkas_check.specs.Calm.{IsCalmStratum, difference_frame}
use Rattle.farkas_check.specs.Frames.{IsCalmUpTo}
use Rattle.farkas_check.specs.Ratios.{Fraction}
use Rattle.farkas_check.specs.declared.stratum.Change.{Change}
use Rattle.farkas_check.specs.Relations.{unknown_count}
use Rattle.simplex.specs.Exchange.{exchange, numbers_of, choices_of}
use Rattle.simplex.specs.Refusal.{LeavesBits}
use Rattle.simplex.specs.SearchSteps.{IsSlopeStep}
use Rattle.simplex.specs.Spots.{frame_of_lines, IsSpotLine, IsSpotTableau, multiples_from}
use Rattle.simplex.specs.StrataSteps.{numerators_of, AreSpotsIn, IsSearchStep}
use Rattle.simplex.specs.Suprema.{IsRayOf}
use Rattle.simplex.specs.declared.differences.StrataQuestion.{StrataQuestion}
use Rattle.simplex.specs.declared.spots.Spots.{Spots}
use Rattle.simplex.specs.declared.stop.SearchStop.{SearchStop}
use Rattle.simplex.specs.declared.stop.SearchStop.TheVariants.{Wide, Memory}
use Rattle.simplex.specs.declared.tableau.Tableau.{Tableau}

-- ---- spots

-- a step that leaves 128 bits, where the frame of the spots' lines is not calm
pub record IsStrayUnder (count : ℕ) (lines : List (List ℤ)) (step : Step.Wide) : Type 0 where
  pub leaves : LeavesBits step
  pub great : IsCalmUpTo 1048576 (frame_of_lines count lines) → ⊥

-- the stop is a step that leaves 128 bits where the frame of the spots' lines is not calm, or want
-- of memory
abbrev pub IsRefusalUnder : ℕ → List (List ℤ) → SearchStop → Type 0
IsRefusalUnder count lines (Wide step) = IsStrayUnder count lines step
IsRefusalUnder count lines Memory = ⊤

-- The step is one of a search over the tableaux of the lines: it stops an exchange, or a number or
-- the whole numbers of a relation that is read off.
pub data IsLinesStep (count : ℕ) (lines : List (List ℤ)) (step : Step.Wide) : Type 0 where
  lines_choice : (t : Tableau) (line column : ℕ) → IsSpotTableau count lines t
      → exchange t line column ≡ Err step → IsLinesStep count lines step
  lines_ratio : (t : Tableau) (unknown : ℕ) → IsSpotTableau count lines t
      → IsSlopeStep t unknown true step → IsLinesStep count lines step
  lines_relation : (t : Tableau) (unknown : ℕ) (ratios : List Fraction)
      → IsSpotTableau count lines t → IsRayOf t unknown true count ratios
      → numerators_of ratios ≡ Err step → IsLinesStep count lines step

-- the step stops the multiples of the spots' differences for an unknown
pub record IsUnitStep (count : ℕ) (spots : Spots) (step : Step.Wide) : Type 0 where
  pub line : ℕ
  pub is : multiples_from (get_or spots.tableau.lines line [])
      (numbers_of spots.tableau line (choices_of spots.tableau line)) count spots.scales ≡ Err step

-- the numbers by which spots' values were multiplied are small, where the frame of the lines is
-- calm
pub record HasSmallScales (count : ℕ) (spots : Spots) : Type 0 where
  pub small : IsCalmUpTo 1048576 (frame_of_lines count spots.lines)
      → AllByRecursion (λ z. unsigned_abs z ≤ 1048576) spots.scales

-- ---- a question

-- the question is calm
pub record IsCalmAsked (s : StrataQuestion) : Type 0 where
  pub few_cases : length s.cases.now ≤ 4294967296
  pub calm : IsCalmStratum s.columns.now s.cases.now s.lower.now

-- a step of the search that leaves 128 bits, where the question is not calm
pub record IsStray (s : StrataQuestion) (step : Step.Wide) : Type 0 where
  pub leaves : LeavesBits step
  pub great : IsCalmAsked s → ⊥
  pub is : IsSearchStep s.columns.now s.cases.now s.lower.now step

-- the stop is such a step, or want of memory
abbrev pub IsRefusalOf : StrataQuestion → SearchStop → Type 0
IsRefusalOf s (Wide step) = IsStray s step
IsRefusalOf s Memory = ⊤

-- the spots are points of their cases, under the question's unknowns
pub record AreSpotsOf (s : StrataQuestion) (spots : Spots) : Type 0 where
  pub count : s.count ≡ unknown_count s.cases.now s.lower.now
  pub are : AreSpotsIn s.columns.now s.cases.now s.lower.now spots.spots spots.lines spots.scales

-- ---- relations

-- numbers of a relation that are small, and whose difference in each case has a calm frame, where
-- the question is calm
pub record IsCalmRelation (s : StrataQuestion) (numbers : List ℤ) : Type 0 where
  pub small : IsCalmAsked s → AllByRecursion (λ z. unsigned_abs z ≤ 1048576) numbers
  pub frames : IsCalmAsked s
      → AllByRecursion
      (λ (case : Change). IsCalmUpTo 1048576
      (difference_frame s.columns.now s.lower.now numbers case)) s.cases.now

-- ---- spots of a question

-- some line and number of a spot
abbrev pub HasSpotLine : List (List Col) → List Fraction → List Polynomial → List Polynomial
    → Type 0
HasSpotLine cs at terms lower = (line : List ℤ)
    × ((scale : ℤ) × IsSpotLine cs at terms lower line scale)

-- a new spot has a line, with which the frame of all lines is calm, where the question is calm
pub record IsCalmSpot (s : StrataQuestion) (terms : List Polynomial) (at : List Fraction)
    (lines : List (List ℤ)) : Type 0 where
  pub made : IsCalmAsked s → HasSpotLine s.columns.now at terms s.lower.now
  pub frame : IsCalmAsked s → (line : List ℤ) (scale : ℤ)
      → IsSpotLine s.columns.now at terms s.lower.now line scale
      → IsCalmUpTo 1048576 (frame_of_lines s.count (lines ++ line ∷ []))
