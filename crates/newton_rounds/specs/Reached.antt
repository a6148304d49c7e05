-- Nodes that walks lead to.
use Rattle.std.specs.Prelude.{◌≡◌, ◌↔◌, ℕ, suc, List, [], ◌∷◌, Bool, true, false, not, ◌&&◌, ◌||◌, length, slice_set, if◌then◌else◌}
use Rattle.std.specs.List.{Contains, slice_index_or}
use Rattle.path_expr.specs.declared.link.Link.{Link}
use Rattle.path_expr.specs.Walks.{IsWalk}

-- some walk leads to the node from one of these
abbrev pub IsReached : List Link → List ℕ → ℕ → Type 0
IsReached links starts node = (start : ℕ) × (word : List ℕ) × Contains starts start
    × IsWalk links start node word

-- whether a node has a mark; past the end none has
abbrev pub is_marked : List Bool → ℕ → Bool
is_marked marks node = slice_index_or marks node false

-- one mark for each node, which says whether a walk leads to it
pub record TellsReached (nodes : ℕ) (links : List Link) (starts : List ℕ)
    (marks : List Bool) : Type 0 where
  pub each : length marks ≡ nodes
  pub tells : (node : ℕ) → (is_marked marks node ≡ true) ↔ IsReached links starts node

-- ---- words of proofs

-- a link grows marks where its beginning has one and its end has none
abbrev pub grows : List Bool → Link → Bool
grows marks link = is_marked marks link.from && not (is_marked marks link.to)

-- the marks behind a link: its end gets one where the link grows them
abbrev pub after_link : List Bool → Link → List Bool
after_link marks link = if grows marks link then slice_set marks link.to true else marks

-- the marks behind links, from the first to the last
abbrev pub after_links : List Bool → List Link → List Bool
after_links marks [] = marks
after_links marks (link ∷ links) = after_links (after_link marks link) links

-- whether any of them did
abbrev pub grow_over : List Bool → List Link → Bool
grow_over marks [] = false
grow_over marks (link ∷ links) = grows marks link || grow_over (after_link marks link) links

-- the marks, with one at each of these nodes
abbrev pub with_marks : List Bool → List ℕ → List Bool
with_marks marks [] = marks
with_marks marks (node ∷ nodes) = with_marks (slice_set marks node true) nodes

-- how many have no mark
abbrev pub count_unmarked : List Bool → ℕ
count_unmarked [] = 0
count_unmarked (true ∷ marks) = count_unmarked marks
count_unmarked (false ∷ marks) = suc (count_unmarked marks)

-- marks of reached nodes alone, of which each of these has one
pub record IsMarked (nodes : ℕ) (links : List Link) (starts : List ℕ)
    (marks : List Bool) : Type 0 where
  pub long : length marks ≡ nodes
  pub sound : (node : ℕ) → is_marked marks node ≡ true → IsReached links starts node
  pub begun : (start : ℕ) → Contains starts start → is_marked marks start ≡ true
