-- The steps of a search over a frame: the operations on the frame's tableaux, each of which stops
-- at the first of its sums and products that leaves 128 bits.
use Rattle.std.specs.Prelude.{◌≡◌, ℕ, ◌+◌, ◌-◌, ◌^◌, pos, List, [], length, get_or, Bool, false, Result, Err, ⊤}
use Rattle.whole_numbers.specs.declared.wide.Wide as Step
use Rattle.simplex.specs.Exchange.{exchange, upright_line, choices_of, IsTableauOf, ArePrimitive}
use Rattle.simplex.specs.Raise.{Framed, comes_before}
use Rattle.simplex.specs.Search.{chosen_number}
use Rattle.simplex.specs.Suprema.{chosen_slope, certificate_of}
use Rattle.simplex.specs.declared.stop.SearchStop.{SearchStop}
use Rattle.simplex.specs.declared.stop.SearchStop.TheVariants.{Wide, Memory}
use Rattle.simplex.specs.declared.tableau.Tableau.{Tableau}

-- the stop is such a step, or want of memory
abbrev pub StopsBy : (Step.Wide → Type 0) → SearchStop → Type 0
StopsBy IsStep (Wide step) = IsStep step
StopsBy IsStep Memory = ⊤

-- the stop is the step at which the stated answer ends, or want of memory
abbrev pub StopsAt : {X : Type 0} → Result X Step.Wide → SearchStop → Type 0
StopsAt stated stop = StopsBy (λ step. stated ≡ Err step) stop

-- what is named where a case has no number in 32 bits
abbrev pub far_step : Step.Wide
far_step = record { left = pos (2 ^ 127 - 1); right = pos 1; times = false }

-- ---- steps of one tableau

-- the comparison of two lines, each over the other's number at the column, stops at the step
pub record IsComparisonStep (t : Tableau) (constants column : ℕ) (keys : List ℕ)
    (step : Step.Wide) : Type 0 where
  pub line : ℕ
  pub other : ℕ
  pub is : comes_before constants column (get_or t.lines line []) (get_or t.lines other []) keys
      ≡ Err step

-- the number that the corner has at the column that a line chooses stops at the step
pub record IsNumberStep (t : Tableau) (constants : ℕ) (step : Step.Wide) : Type 0 where
  pub line : ℕ
  pub is : chosen_number (get_or t.lines line []) constants (choices_of t line) ≡ Err step

-- the number that the ray along a column has at the column that a line chooses stops at the step
pub record IsSlopeStep (t : Tableau) (column : ℕ) (up : Bool) (step : Step.Wide) : Type 0 where
  pub line : ℕ
  pub is : chosen_slope (get_or t.lines line []) column up (choices_of t line) ≡ Err step

-- ---- steps of a frame

-- a tableau of the frame with so many lines, each without common divisors
pub record IsTableauIn (over : Framed) (count : ℕ) (t : Tableau) : Type 0 where
  pub many : length t.lines ≡ count
  pub tableau : IsTableauOf over.units over.frame t
  pub primitive : ArePrimitive t

-- The step is one of a search over the frame. It stops a tableau's exchange, a comparison of two of
-- its lines, a number of its corner or of a ray from there, the certificate that its goal's line
-- is, or the multipliers that a line is.
pub data IsFrameStep (over : Framed) (count : ℕ) (step : Step.Wide) : Type 0 where
  exchange_step : (t : Tableau) (line column : ℕ) → IsTableauIn over count t
      → exchange t line column ≡ Err step → IsFrameStep over count step
  comparison_step : (t : Tableau) (constants column : ℕ) (keys : List ℕ) → IsTableauIn over count t
      → IsComparisonStep t constants column keys step → IsFrameStep over count step
  number_step : (t : Tableau) (constants : ℕ) → IsTableauIn over count t
      → over.units ≡ constants + 1 → IsNumberStep t constants step → IsFrameStep over count step
  slope_step : (t : Tableau) (column : ℕ) (up : Bool) → IsTableauIn over count t
      → IsSlopeStep t column up step → IsFrameStep over count step
  certificate_step : (t : Tableau) (constants goal : ℕ) → IsTableauIn over count t
      → over.units ≡ constants + 1
      → certificate_of constants goal (get_or t.lines goal []) ≡ Err step
      → IsFrameStep over count step
  multipliers_step : (t : Tableau) (constants line : ℕ) → IsTableauIn over count t
      → over.units ≡ constants + 1 → upright_line constants (get_or t.lines line []) ≡ Err step
      → IsFrameStep over count step
