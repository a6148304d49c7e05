-- A raise: the entering column and the leaving line.
use Rattle.std.specs.Prelude.{◌≡◌, ◌⊎◌, ℕ, ◌+◌, ◌<◌, ℤ, pos, negsuc, ◌*ℤ◌, ◌-ℤ◌, ◌≤ℤ◌, ◌<ℤ◌, List, [], ◌∷◌, length, get_or, Bool, true, false, nat_eq, Option, None, Some, Result, Ok, if◌then◌else◌, MatchOption}
use Rattle.std.specs.List.{AllByRecursion, filter}
use Rattle.std.specs.Ordering.{int_cmp, match_ordering}
use Rattle.std.specs.declared.cmp.Ordering.{Ordering}
use Rattle.items.specs.Gives.{◌>>=◌}
use Rattle.whole_numbers.specs.Fits.{product_of}
use Rattle.whole_numbers.specs.declared.wide.Wide as Step
use Rattle.simplex.specs.Frames.{lexical_view, IsLexPositive}
use Rattle.simplex.specs.Exchange.{numbers_of, choices_of, IsTableauOf}
use Rattle.farkas_check.specs.Relations.{entry}
use Rattle.simplex.specs.declared.tableau.Tableau.{Tableau}

-- a frame whose unit columns begin at `units`, and whose first lines are rows; what stands behind
-- them are goals
pub record Framed : Type 0 where
  pub units : ℕ
  pub rows : ℕ
  pub frame : ℕ → ℕ → ℤ

-- 1 where an objective or a column goes up, and -1 where it goes down
abbrev pub sign_of : Bool → ℤ
sign_of true = pos 1
sign_of false = negsuc 0

-- whether a column may enter
abbrev pub enters_at : List Bool → ℕ → Bool
enters_at enters j = get_or enters j false

-- whether a line's choice may leave
abbrev pub leaves_at : List Bool → Tableau → ℕ → Bool
leaves_at enters t i = enters_at enters (choices_of t i)

-- the first column that may enter and at which the line lets its goal grow, or none is such
abbrev pub EntersFirst : List ℤ → Bool → List Bool → Option ℕ → Type 0
EntersFirst line up enters found =
    MatchOption found ((j : ℕ) → j < length line → enters_at enters j ≡ true
    → pos 0 ≤ℤ (sign_of up *ℤ entry line j))
    (λ j. (j < length line) × (enters_at enters j ≡ true) × ((sign_of up *ℤ entry line j) <ℤ pos 0))

-- p times a line less q times another
abbrev pub behind_of : ℕ → List ℤ → List ℤ → ℕ → ℤ
behind_of column line other j = entry other column *ℤ entry line j -ℤ entry line column *ℤ entry
    other j

-- ---- the order of two lines

-- how two lines stand at a key, each over the other's number at the column; at the constants the
-- other way round
abbrev pub order_at : Bool → ℤ → ℤ → ℤ → ℤ → Result Ordering Step.Wide
order_at backward a p b q = product_of a p >>= λ x. product_of b q
    >>= λ y. Ok (if backward then int_cmp y x else int_cmp x y)

-- whether a line comes before another one, by the first key at which they differ
abbrev pub comes_before : ℕ → ℕ → List ℤ → List ℤ → List ℕ → Result Bool Step.Wide
comes_before constants column line other [] = Ok false
comes_before constants column line other (c ∷ cs) =
    order_at (nat_eq c constants) (entry line c) (entry other column) (entry other c)
    (entry line column) >>= λ order.
    match_ordering order (Ok true) (comes_before constants column line other cs) (Ok false)

-- positive, or 0 at all keys
abbrev pub IsLexNotNegative : (ℕ → ℤ) → List ℕ → Type 0
IsLexNotNegative w cs = IsLexPositive w cs ⊎ AllByRecursion (λ j. w j ≡ pos 0) cs

-- ---- a leaving line

-- none of the first lines that may leave is positive at the column
abbrev pub NoneLeaves : ℕ → List Bool → ℕ → Tableau → Type 0
NoneLeaves count enters column t = (i : ℕ) → i < count → leaves_at enters t i ≡ true
    → numbers_of t i column ≤ℤ pos 0

-- among the first lines it is least
pub record IsLeast (count : ℕ) (enters : List Bool) (constants : ℕ) (keys : List ℕ) (column : ℕ)
    (t : Tableau) (line : ℕ) : Type 0 where
  pub here : line < count
  pub leaves : leaves_at enters t line ≡ true
  pub positive : pos 0 <ℤ numbers_of t line column
  pub least : (i : ℕ) → i < count → leaves_at enters t i ≡ true → pos 0 <ℤ numbers_of t i column
      → IsLexNotNegative
      (lexical_view constants (behind_of column (get_or t.lines i []) (get_or t.lines line []))) keys

-- among the first lines that may leave the least that is positive at the column, or none is
-- positive there
abbrev pub LeavingOf : ℕ → List Bool → ℕ → List ℕ → ℕ → Tableau → Option ℕ → Type 0
LeavingOf count enters constants keys column t None = NoneLeaves count enters column t
LeavingOf count enters constants keys column t (Some line) =
    IsLeast count enters constants keys column t line

-- ---- a raise

-- the exact words of the proofs: what a raise keeps from its first corner on
pub record Begins (over : Framed) (enters : List Bool) (constants : ℕ) (keys : List ℕ) (goal : ℕ)
    (t : Tableau) : Type 0 where
  pub tableau : IsTableauOf over.units over.frame t
  pub wide : length enters ≡ over.units + length t.lines
  pub here : goal < length t.lines
  pub stays : leaves_at enters t goal ≡ false
  pub in_range : constants < length enters
  pub within : AllByRecursion (λ c. c < length enters) keys
  pub ahead : (i : ℕ) → i < length t.lines → leaves_at enters t i ≡ true
      → IsLexPositive (lexical_view constants (numbers_of t i)) keys
  pub covers : (w : ℕ → ℤ) → AllByRecursion (λ j. lexical_view constants w j ≡ pos 0) keys → (k : ℕ)
      → k < length t.lines → leaves_at enters t k ≡ true → w (choices_of t k) ≡ pos 0

-- the column lets the goal grow
pub record Improves (enters : List Bool) (sign : ℤ) (goal column : ℕ) (t : Tableau) : Type 0 where
  pub within : column < length enters
  pub may : enters_at enters column ≡ true
  pub better : (sign *ℤ numbers_of t goal column) <ℤ pos 0

-- no column does
abbrev pub IsBest : List Bool → ℤ → ℕ → Tableau → Type 0
IsBest enters sign goal t = (j : ℕ) → j < length enters → enters_at enters j ≡ true
    → pos 0 ≤ℤ (sign *ℤ numbers_of t goal j)

-- the column lets the goal grow without end
abbrev pub IsOpen : List Bool → ℤ → ℕ → ℕ → Tableau → Type 0
IsOpen enters sign goal column t = Improves enters sign goal column t
    × NoneLeaves (length t.lines) enters column t

-- the keys of a raise that begins: the constants, and what the lines that may leave choose
abbrev pub keys_of : List Bool → ℕ → Tableau → List ℕ
keys_of enters constants t = constants ∷ filter (enters_at enters) t.chosen
