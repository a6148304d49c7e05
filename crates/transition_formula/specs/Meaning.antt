-- What a formula says of two states.
use Rattle.std.specs.Prelude.{◌≡◌, ◌⊎◌, ℕ, ℤ, pos, List, [], ◌∷◌, length, map, slice_get, unwrap_or, Option, None, Some}
use Rattle.linear_terms.specs.declared.col.Col.TheVariants.{At, Aux}
use Rattle.linear_terms.specs.declared.row.Case.{Case}
use Rattle.linear_terms.specs.declared.row.Row.{Row}
use Rattle.linear_terms.specs.Row.{RowsHold}
use Rattle.linear_terms.specs.Value.{Valuation, value_of}
use Rattle.transition_formula.specs.declared.solving.Solved.{Solved}
use Rattle.transition_formula.specs.declared.solving.Solved.TheVariants.{Kept, False}
use Rattle.transition_formula.specs.Transition.{Transition}

-- the numbers of a state for the entry columns, and others for the auxiliaries
abbrev pub numbers : List ℤ → (ℕ → ℤ) → Valuation
numbers before aux (At number) = unwrap_or (slice_get before number) (pos 0)
numbers before aux (Aux number) = aux number

-- each row that is left is true; nothing is left of rows that can't all be true
abbrev pub AreTrueLeft : Valuation → Option (List Row) → Type 0
AreTrueLeft at None = ⊥
AreTrueLeft at (Some rows) = RowsHold at rows

-- each row is true, and the posts have the values `after`
pub record HoldsAt (at : Valuation) (case : Case) (after : List ℤ) : Type 0 where
  pub rows : RowsHold at case.rows
  pub posts : map (value_of at) case.post ≡ after

-- some numbers for the auxiliaries make each row true and each post its number in `after`
abbrev pub HoldsCase : Case → List ℤ → List ℤ → Type 0
HoldsCase case before after = (aux : ℕ → ℤ) × HoldsAt (numbers before aux) case after

-- the same of a case that is left, if one is
abbrev pub HoldsLeft : Option Case → List ℤ → List ℤ → Type 0
HoldsLeft None before after = ⊥
HoldsLeft (Some case) before after = HoldsCase case before after

-- the same of what is left of a case that is put in order; `False` holds of nothing
abbrev pub HoldsSolved : Solved → List ℤ → List ℤ → Type 0
HoldsSolved False before after = ⊥
HoldsSolved (Kept case) before after = HoldsCase case before after

-- one of the cases holds
abbrev pub HoldsSome : List Case → List ℤ → List ℤ → Type 0
HoldsSome [] before after = ⊥
HoldsSome (case ∷ cases) before after = HoldsCase case before after ⊎ HoldsSome cases before after

-- the formula holds of two states: the first has its entry columns, and one of its cases holds
pub record Holds (f : Transition) (before after : List ℤ) : Type 0 where
  pub enters : length before ≡ f.from
  pub some : HoldsSome f.cases before after

-- the first formula holds of all that the second holds of
abbrev pub Covers : Transition → Transition → Type 0
Covers f g = (before after : List ℤ) → Holds g before after → Holds f before after

-- ---- states that a formula links

-- it holds of each state and the next
abbrev pub IsChain : Transition → List ℤ → List (List ℤ) → Type 0
IsChain f first [] = Unit {0}
IsChain f first (next ∷ more) = Holds f first next × IsChain f next more

-- the last state of a chain, which is the first one where no other follows
abbrev pub last_of : List ℤ → List (List ℤ) → List ℤ
last_of first [] = first
last_of first (next ∷ more) = last_of next more

-- the second formula holds of the first and the last state of every chain under the first
abbrev pub HoldsOfChains : Transition → Transition → Type 0
HoldsOfChains f g = (first : List ℤ) (more : List (List ℤ)) → length first ≡ f.from
    → IsChain f first more → Holds g first (last_of first more)
