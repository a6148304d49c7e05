-- What a raise keeps from its first corner on.
use Rattle.std.specs.Prelude.{◌≡◌, ℕ, ◌+◌, ◌<◌, ℤ, pos, ◌≤ℤ◌, ◌<ℤ◌, ◌*ℤ◌, ◌-ℤ◌, List, length, Bool, true, false, nat_eq, Ok}
use Rattle.std.specs.List.{list_any, IsDistinct}
use Rattle.simplex.specs.Choices.{rank}
use Rattle.farkas_check.specs.Frames.{choose}
use Rattle.simplex.specs.Frames.{IsWholeTableau, is_chosen, lexical_view, IsLexPositive}
use Rattle.simplex.specs.Exchange.{numbers_of, choices_of, exchange, IsTableauOf, ArePrimitive}
use Rattle.simplex.specs.Raise.{Framed, enters_at, leaves_at, Improves, IsBest, IsOpen, IsLeast, NoneLeaves}
use Rattle.simplex.specs.declared.tableau.Tableau.{Tableau}
use Rattle.simplex.specs.declared.raise.Turn.{Turn}
use Rattle.simplex.specs.declared.raise.Turn.TheVariants as turn
use Rattle.simplex.specs.declared.raise.RaiseEnd.{RaiseEnd}
use Rattle.simplex.specs.declared.raise.RaiseEnd.TheVariants as raised

-- how far a goal's line is ahead of another one, over both their numbers at the goal
abbrev pub lead : (ℕ → ℤ) → ℤ → (ℕ → ℤ) → ℤ → ℕ → ℤ
lead now d then e j = e *ℤ now j -ℤ d *ℤ then j

-- where the line is read with a sign, for a goal that is lowered
abbrev pub with_sign : ℤ → (ℕ → ℤ) → ℕ → ℤ
with_sign sign w j = sign *ℤ w j

-- the ranks of the choices that came before: each is behind the one that is there now
pub record HasRun (lines units columns constants goal : ℕ) (sign : ℤ) (frame : ℕ → ℕ → ℤ)
    (keys : List ℕ) (numbers : ℕ → ℕ → ℤ) (chosen : ℕ → ℕ) (turns : ℕ) : Type 0 where
  pub ranks : List ℕ
  pub many : length ranks ≡ turns
  pub distinct : IsDistinct nat_eq ranks
  pub below : (q : ℕ) → list_any (nat_eq q) ranks ≡ true → q < choose columns lines
  pub older : (then : ℕ → ℕ → ℤ) (choice : ℕ → ℕ) → IsWholeTableau lines units columns frame
      then choice → choice goal ≡ chosen goal → ((k : ℕ) → k < lines → choice k < columns)
      → list_any (nat_eq (rank columns lines (is_chosen lines choice))) ranks ≡ true
      → IsLexPositive
      (lexical_view constants
      (lead (with_sign sign (numbers goal)) (numbers goal (chosen goal))
      (with_sign sign (then goal)) (then goal (choice goal)))) keys

-- the lines of slacks at a raise's corner
pub record IsRaising (lines units columns constants : ℕ) (frame : ℕ → ℕ → ℤ) (slack : ℕ → Bool)
    (first : ℕ → ℕ) (keys : List ℕ) (numbers : ℕ → ℕ → ℤ) (chosen : ℕ → ℕ) : Type 0 where
  pub tableau : IsWholeTableau lines units columns frame numbers chosen
  pub ahead : (i : ℕ) → i < lines → slack i ≡ true → IsLexPositive (lexical_view constants (numbers i)) keys
  pub stays : (i : ℕ) → i < lines → slack i ≡ false → chosen i ≡ first i

-- where a raise that began with one tableau is now
pub record Raises (over : Framed) (enters : List Bool) (constants : ℕ) (keys : List ℕ) (goal : ℕ)
    (sign : ℤ) (first now : Tableau) (turns : ℕ) : Type 0 where
  pub tableau : IsTableauOf over.units over.frame now
  pub many : length now.lines ≡ length first.lines
  pub same : (i : ℕ) → i < length first.lines → leaves_at enters now i ≡ leaves_at enters first i
  pub level : (i : ℕ) → i < length first.lines → leaves_at enters first i ≡ false
      → ((e : ℕ) → enters_at enters e ≡ true → numbers_of first i e ≡ pos 0) → (j : ℕ)
      → numbers_of first i j ≡ pos 0 → numbers_of now i j ≡ pos 0
  pub zeros : (j : ℕ)
      → ((k : ℕ) → k < length first.lines → leaves_at enters first k ≡ true
      → numbers_of first k j ≡ pos 0) → (i : ℕ) → i < length first.lines
      → numbers_of first i j ≡ pos 0 → numbers_of now i j ≡ pos 0
  pub primitive : ArePrimitive first → ArePrimitive now
  pub raising : IsRaising (length first.lines) over.units (over.units + length first.lines)
      constants over.frame (leaves_at enters first) (choices_of first) keys (numbers_of now)
      (choices_of now)
  pub run : HasRun (length first.lines) over.units (over.units + length first.lines) constants goal
      sign over.frame keys (numbers_of now) (choices_of now) turns

-- some number of turns lead from the one tableau to the other
abbrev pub RaisedFrom : Framed → List Bool → ℕ → List ℕ → ℕ → ℤ → Tableau → Tableau → Type 0
RaisedFrom over enters constants keys goal sign first now = (turns : ℕ)
    × Raises over enters constants keys goal sign first now turns

-- a goal that was to be met is not met
abbrev pub IsUnmet : Bool → ℕ → ℕ → Tableau → Type 0
IsUnmet until constants goal t = until ≡ true → pos 0 <ℤ numbers_of t goal constants

-- what a turn came to, from a tableau to another one
abbrev pub CameTo : List Bool → ℕ → List ℕ → ℤ → Bool → ℕ → Tableau → Tableau → Turn → Type 0
CameTo enters constants keys sign until goal before after turn.Met = (after ≡ before)
    × (until ≡ true) × (numbers_of before goal constants ≤ℤ pos 0)
CameTo enters constants keys sign until goal before after turn.Best = (after ≡ before)
    × IsUnmet until constants goal before × IsBest enters sign goal before
CameTo enters constants keys sign until goal before after (turn.Open column) = (after ≡ before)
    × IsUnmet until constants goal before × IsOpen enters sign goal column before
CameTo enters constants keys sign until goal before after turn.Moved =
    (column : ℕ) × ((line : ℕ)
    × (Improves enters sign goal column before × IsLeast (length before.lines) enters constants
    keys column before line × (exchange before line column ≡ Ok after)))

-- what the exchange of an entering column comes to: no line leaves, or one does
abbrev pub MovedTo : List Bool → ℕ → List ℕ → ℕ → Tableau → Tableau → Turn → Type 0
MovedTo enters constants keys column before after turn.Met = ⊥
MovedTo enters constants keys column before after turn.Best = ⊥
MovedTo enters constants keys column before after (turn.Open entered) = (after ≡ before)
    × (entered ≡ column) × NoneLeaves (length before.lines) enters column before
MovedTo enters constants keys column before after turn.Moved = (line : ℕ)
    × (IsLeast (length before.lines) enters constants keys column before line
    × (exchange before line column ≡ Ok after))

-- how a raise ended
abbrev pub EndsAt : Framed → List Bool → ℕ → ℤ → Bool → ℕ → ℕ → Tableau → RaiseEnd → Type 0
EndsAt over enters constants sign until goal budget t raised.Met = (until ≡ true)
    × (numbers_of t goal constants ≤ℤ pos 0)
EndsAt over enters constants sign until goal budget t raised.Best = IsUnmet until constants goal t
    × IsBest enters sign goal t
EndsAt over enters constants sign until goal budget t (raised.Open column) =
    IsUnmet until constants goal t × IsOpen enters sign goal column t
EndsAt over enters constants sign until goal budget t raised.Pivots =
    budget < choose (over.units + length t.lines) (length t.lines)
