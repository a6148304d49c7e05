-- Walks of a graph.
use Rattle.std.specs.Prelude.{◌≡◌, ◌<◌, ℕ, List, [], ◌∷◌, Some, slice_get, All}
use Rattle.path_expr.specs.declared.link.Link.{Link}

-- the link with this number leads from one node to the other
abbrev pub Leads : List Link → ℕ → ℕ → ℕ → Type 0
Leads links number from to = slice_get links number ≡ Some (record { from = from; to = to })

-- the links with these numbers lead one after the other from a node to a node; nodes and links may
-- come again
abbrev pub IsWalk : List Link → ℕ → ℕ → List ℕ → Type 0
IsWalk links from to [] = from ≡ to
IsWalk links from to (number ∷ numbers) =
    (next : ℕ) × Leads links number from next × IsWalk links next to numbers

-- the links lead between nodes of a graph of so many nodes
abbrev pub IsGraph : ℕ → List Link → Type 0
IsGraph nodes links = All (λ link. (link.from < nodes) × (link.to < nodes)) links
