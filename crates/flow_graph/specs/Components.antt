-- The strong components of numbers that call each other (Tarjan 1972), each with a number of its
-- own.
use Rattle.std.specs.Prelude.{◌≡◌, ◌<◌, ◌≤◌, ◌↔◌, ℕ, List, length, slice_index_or}
use Rattle.flow_graph.specs.Reaching.{Calls, Reaches}

-- the component of a number
abbrev pub group_at : List ℕ → ℕ → ℕ
group_at groups p = slice_index_or groups p 0

-- two numbers are in one component where they reach each other, and a call leads to no later
-- component
pub record AreComponents (calls : List (List ℕ)) (groups : List ℕ) (count : ℕ) : Type 0 where
  pub all : length groups ≡ length calls
  pub within : (p : ℕ) → p < length calls → group_at groups p < count
  pub one : (p q : ℕ) → p < length calls → q < length calls
      → (group_at groups p ≡ group_at groups q) ↔ (Reaches calls p q × Reaches calls q p)
  pub falls : (p q : ℕ) → p < length calls → Calls calls p q → group_at groups q ≤ group_at groups p
  pub some : (group : ℕ) → group < count → (p : ℕ) × (p < length calls)
      × (group_at groups p ≡ group)
