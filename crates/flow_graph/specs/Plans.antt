-- What each procedure calls, as lists.
use Rattle.std.specs.Prelude.{◌≡◌, ◌<◌, ◌↔◌, ℕ, zero, suc, nat_lt, List, [], ◌∷◌, length, map, slice_index_or}
use Rattle.std.specs.List.{Contains, filter}
use Rattle.syntax_tree.specs.declared.program.Proc.{Proc}
use Rattle.syntax_tree.specs.Code.{Code, code_of}
use Rattle.flow_graph.specs.Groups.{called, IsAscending}
use Rattle.flow_graph.specs.Components.{group_at}
use Rattle.flow_graph.specs.Reaching.{Calls}

-- the procedures that a code calls, in order, as far as their numbers are below `n`
abbrev pub called_below : ℕ → Code → List ℕ
called_below n code = filter (λ q. nat_lt q n) (called code)

-- what each of some procedures calls below `n`, in the order of the procedures
abbrev pub lists_of : ℕ → List Proc → List (List ℕ)
lists_of n procs = map (λ p. called_below n (code_of p.body)) procs

-- what each procedure of a program calls, in the order of the procedures
abbrev pub call_lists : List Proc → List (List ℕ)
call_lists procs = lists_of (length procs) procs

-- so many empty lists
abbrev pub empty_rows : ℕ → List (List ℕ)
empty_rows zero = []
empty_rows (suc n) = [] ∷ empty_rows n

-- the tables have the first procedures, each in the row of its group, and what they call
pub record AreFilled (calls : List (List ℕ)) (groups : List ℕ) (count k : ℕ)
    (members rows : List (List ℕ)) : Type 0 where
  pub many : length members ≡ count
  pub rows_many : length rows ≡ count
  pub listed : (g q : ℕ) → Contains (slice_index_or members g []) q
      ↔ ((q < k) × (group_at groups q ≡ g))
  pub in_order : (g : ℕ) → IsAscending (slice_index_or members g [])
  pub called : (p q : ℕ) → p < k → Calls calls p q
      → Contains (slice_index_or rows (group_at groups p) []) q
  pub callers : (g q : ℕ) → Contains (slice_index_or rows g []) q
      → (p : ℕ) × (p < k) × (group_at groups p ≡ g) × Calls calls p q

-- the groups of the first numbers have rows
abbrev pub AreBelow : List ℕ → ℕ → ℕ → Type 0
AreBelow groups n count = (p : ℕ) → p < n → group_at groups p < count
