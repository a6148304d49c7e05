-- A step that leaves 128 bits: the sum or the product that it names is no number of 128 bits. It is
-- a step of the search over the frame, and comes only where some tableau of the frame has a number
-- that is great.
use Rattle.std.specs.Prelude.{◌≡◌, false, ℕ, ◌+ℤ◌, ◌*ℤ◌, if◌then◌else◌, length, ⊤}
use Rattle.whole_numbers.specs.Fits.{fits}
use Rattle.whole_numbers.specs.declared.wide.Wide as Step
use Rattle.simplex.specs.Calm.{HasSquares, HasSmallLines}
use Rattle.simplex.specs.Exchange.{IsTableauOf, ArePrimitive}
use Rattle.simplex.specs.Raise.{Framed}
use Rattle.simplex.specs.SearchSteps.{IsFrameStep}
use Rattle.simplex.specs.declared.stop.SearchStop.{SearchStop}
use Rattle.simplex.specs.declared.stop.SearchStop.TheVariants.{Wide, Memory}
use Rattle.simplex.specs.declared.tableau.Tableau.{Tableau}

-- the sum or the product that the step names is no number of 128 bits
abbrev pub LeavesBits : Step.Wide → Type 0
LeavesBits step = fits (if step.times then step.left *ℤ step.right else step.left +ℤ step.right)
    ≡ false

-- the stop is a step that leaves 128 bits, or want of memory
abbrev pub IsRefusal : SearchStop → Type 0
IsRefusal (Wide step) = LeavesBits step
IsRefusal Memory = ⊤

-- no number of a tableau of so many lines of the frame, without common divisors, is greater than n
-- in size
abbrev pub IsSmallFrame : ℕ → Framed → ℕ → Type 0
IsSmallFrame n over count = (t : Tableau) → length t.lines ≡ count
    → IsTableauOf over.units over.frame t → ArePrimitive t → HasSmallLines n t

-- a step of the search over the frame that leaves 128 bits, where its tableaux are not small
pub record IsOverrun (over : Framed) (count : ℕ) (step : Step.Wide) : Type 0 where
  pub leaves : LeavesBits step
  pub great : (n : ℕ) → HasSquares n → IsSmallFrame n over count → ⊥
  pub is : IsFrameStep over count step

-- the stop is such a step, or want of memory
abbrev pub IsRefusalIn : Framed → ℕ → SearchStop → Type 0
IsRefusalIn over count (Wide step) = IsOverrun over count step
IsRefusalIn over count Memory = ⊤
