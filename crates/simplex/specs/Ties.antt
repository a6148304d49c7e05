-- What ties a relation to 0 in a case.
use Rattle.std.specs.Prelude.{◌≡◌, ℤ, List, Bool, true, false, Ok, length, slice_get, Some, ℕ}
use Rattle.linear_terms.specs.declared.col.Col.{Col}
use Rattle.linear_terms.specs.Polynomial.{Polynomial}
use Rattle.farkas_check.specs.Relations.{sides, difference_form}
use Rattle.farkas_check.specs.Stratum.{scale_times, minus_scale_times, tested_half, tested_tie}
use Rattle.farkas_check.specs.declared.answer.Cert.{Cert}
use Rattle.farkas_check.specs.declared.stratum.Change.{Change}
use Rattle.farkas_check.specs.declared.stratum.Tie.{Tie}

-- no part of the test of one half of a tie is false
abbrev pub IsHonestHalf : List (List Col) → List Polynomial → List ℤ → Change → Bool → Cert → Type 0
IsHonestHalf cs lower numbers case true cert = (b : Bool)
    → tested_half scale_times cs case.rows (difference_form numbers (sides case.terms lower) cs)
    cert.scale cert.by ≡ Ok b → b ≡ true
IsHonestHalf cs lower numbers case false cert = (b : Bool)
    → tested_half minus_scale_times cs case.rows (difference_form numbers (sides case.terms lower) cs)
    cert.scale cert.by ≡ Ok b → b ≡ true

-- no part of the test of a tie is false
abbrev pub IsHonestTie : List (List Col) → List Polynomial → List ℤ → Change → Tie → Type 0
IsHonestTie cs lower numbers case tie = (b : Bool) → tested_tie cs lower numbers case tie ≡ Ok b
    → b ≡ true

-- a tie for each of the first so many cases, no part of whose test is false
pub record AreTies (cs : List (List Col)) (lower : List Polynomial) (numbers : List ℤ)
    (cases : List Change) (place : ℕ) (ties : List Tie) : Type 0 where
  pub each : length ties ≡ place
  pub honest : (l : ℕ) (case : Change) (tie : Tie) → slice_get cases l ≡ Some case
      → slice_get ties l ≡ Some tie → IsHonestTie cs lower numbers case tie
