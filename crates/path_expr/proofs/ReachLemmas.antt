-- The parts of the whole evaluation, and its cells in the order of the nodes.
use Rattle.std.proofs.Common.{◌≡◌, ℕ, zero, suc, ◌-◌, ◌<◌, ◌≤◌, List, [], ◌∷◌, ◌++◌, length, take, drop, get_or, Some, refl, sym, ◌∙◌, ap, subst, arith, append_assoc, inl, inr, ◌⊎◌}
use Rattle.std.specs.List.{slice_get, insert, remove}
use Rattle.std.proofs.lemmas.Bool.{cases_order}
use Rattle.std.proofs.lemmas.Bool.Decides.{nat_tests}
use Rattle.path_expr.specs.declared.cell.Cell.{Cell}
use Rattle.path_expr.specs.Holds.{IsWay, AreWays, AreCells}
use Rattle.path_expr.proofs.FirstLemmas.{node_at-place_of}
use Rattle.path_expr.specs.declared.link.Link.{Link}
use Rattle.path_expr.specs.PathExpr.{PathExpr, Edge}
use Rattle.path_expr.specs.Elimination.{place_of, last_table, way_at, path_at}
use Rattle.path_expr.specs.Operations.{below, first_row_operations, eliminations, way_operations, operations}

module _ (nodes : ℕ) (links : List Link) (source : ℕ) where
  abbrev pub edge_part : List PathExpr
  edge_part = below (λ number. Edge number ∷ []) (length links)

  abbrev pub first_part : List PathExpr
  first_part = below (first_row_operations nodes links source) nodes

  abbrev pub elimination_part : List PathExpr
  elimination_part = eliminations nodes links source (nodes - 1)

  abbrev pub way_part : List PathExpr
  way_part = below (way_operations (last_table nodes links source)) nodes

  pub operations-one : edge_part ++ (first_part ++ (elimination_part ++ way_part)) ≡ operations nodes links source
  unfolding operations
  operations-one = refl

  pub operations-two : (edge_part ++ first_part) ++ (elimination_part ++ way_part) ≡ operations nodes links source
  operations-two = append_assoc edge_part first_part (elimination_part ++ way_part) ∙ operations-one

  pub operations-three : ((edge_part ++ first_part) ++ elimination_part) ++ way_part ≡ operations nodes links source
  operations-three = append_assoc (edge_part ++ first_part) elimination_part way_part ∙ operations-two

-- an element that is taken from the front and put at place s
module _ {X : Type 0} (y : X) where
  at_same : (ys : List X) (s : ℕ) → s ≤ length ys → slice_get (take s ys ++ y ∷ drop s ys) s ≡ Some y
  at_same ys zero h = refl
  at_same [] (suc s) h = absurd (omega arith)
  at_same (z ∷ ys) (suc s) h = at_same ys s (omega arith)

  at_below : (ys : List X) (s k : ℕ) → s ≤ length ys → k < s → slice_get (take s ys ++ y ∷ drop s ys) k ≡ slice_get ys k
  at_below ys zero k h lt = absurd (omega arith)
  at_below [] (suc s) k h lt = absurd (omega arith)
  at_below (z ∷ ys) (suc s) zero h lt = refl
  at_below (z ∷ ys) (suc s) (suc k) h lt = at_below ys s k (omega arith) (omega arith)

  at_above : (ys : List X) (s k : ℕ) → s ≤ length ys → s ≤ k → slice_get (take s ys ++ y ∷ drop s ys) (suc k) ≡ slice_get ys k
  at_above ys zero k h le = refl
  at_above [] (suc s) k h le = absurd (omega arith)
  at_above (z ∷ ys) (suc s) zero h le = absurd (omega arith)
  at_above (z ∷ ys) (suc s) (suc k) h le = at_above ys s k (omega arith) (omega arith)

  inserted : (ys : List X) (s node : ℕ) → s ≤ length ys → slice_get (take s ys ++ y ∷ drop s ys) node ≡ slice_get (y ∷ ys) (place_of s node)
  inserted ys s node h = at node (cases_order node s)
    where
      at : (k : ℕ) → (k ≡ s) ⊎ ((k < s) ⊎ (s < k)) → slice_get (take s ys ++ y ∷ drop s ys) k ≡ slice_get (y ∷ ys) (place_of s k)
      at k (inl e) = ap (slice_get (take s ys ++ y ∷ drop s ys)) e ∙ (at_same ys s h
          ∙ ap (slice_get (y ∷ ys)) (let p : 0 ≡ place_of s k = grind (arith, nat_tests) in p))
      at k (inr (inl lt)) = at_below ys s k h lt ∙ ap (slice_get (y ∷ ys)) (let p : suc k ≡ place_of s k = grind (arith, nat_tests) in p)
      at zero (inr (inr gt)) = absurd (omega arith)
      at (suc k) (inr (inr gt)) = at_above ys s k h (omega arith) ∙ ap (slice_get (y ∷ ys)) (let p : suc k ≡ place_of s (suc k) = grind (arith, nat_tests) in p)

pub slice_get-moved : {X : Type 0} (found cells : List X) (s : ℕ) (y : X) → s < length found → y ≡ get_or found 0 y →
    cells ≡ insert (remove found 0) s y → (node : ℕ) → slice_get cells node ≡ slice_get found (place_of s node)
slice_get-moved [] cells s y h e is node = absurd (omega arith)
slice_get-moved (z ∷ ys) cells s y h e is node =
    ap (λ xs. slice_get xs node) is
    ∙ (inserted y ys s node (omega arith)
    ∙ ap (λ v. slice_get (v ∷ ys) (place_of s node)) e)

pub path_at-is : (nodes : ℕ) (links : List Link) (source node : ℕ) → way_at (last_table nodes links source) (place_of source node) ≡ path_at nodes links source node
unfolding path_at
path_at-is nodes links source node = refl

pub AreCells-moved : {A T : Type 0} {fits : A → PathExpr → T → Type 0} {spans : A → T → ℕ → ℕ → Type 0} {a : A} {found : List (Cell T)}
    (nodes : ℕ) (links : List Link) (source : ℕ) (cells : List (Cell T)) (y : Cell T) → source < length found → y ≡ get_or found 0 y →
    cells ≡ insert (remove found 0) source y → AreWays fits spans source a (way_at (last_table nodes links source)) found →
    AreCells fits spans source a (path_at nodes links source) cells
AreCells-moved {A} {T} {fits} {spans} {a} {found} nodes links source cells y lt e is h = record {
  at = λ node cell f.
      subst (λ p. IsWay fits spans a p cell source node) (path_at-is nodes links source node)
      (subst (λ k. IsWay fits spans a (way_at (last_table nodes links source) (place_of source node)) cell source k) (node_at-place_of source node)
      (h.at (place_of source node) cell (sym (slice_get-moved found cells source y lt e is node) ∙ f)));
}
