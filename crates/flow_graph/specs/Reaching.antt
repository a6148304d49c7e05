-- Which numbers reach which, where each number has a list of numbers that it calls.
use Rattle.std.specs.Prelude.{◌≡◌, ℕ, List, [], ◌∷◌, slice_index_or}
use Rattle.std.specs.List.{Contains}

-- what a number calls; nothing past the end
abbrev pub callees_of : List (List ℕ) → ℕ → List ℕ
callees_of calls p = slice_index_or calls p []

-- a number calls another; one past the end calls none
abbrev pub Calls : List (List ℕ) → ℕ → ℕ → Type 0
Calls calls p q = Contains (callees_of calls p) q

-- one call after the other leads over these numbers from p to q
abbrev pub Leads : List (List ℕ) → ℕ → List ℕ → ℕ → Type 0
Leads calls p [] q = p ≡ q
Leads calls p (next ∷ over) q = Calls calls p next × Leads calls next over q

-- some calls, or none, lead from p to q
pub record Reaches (calls : List (List ℕ)) (p q : ℕ) : Type 0 where
  pub over : List ℕ
  pub leads : Leads calls p over q
