-- What is proved in the crates below, by the names that the proofs here cite, the element at a place
-- of a list, and the greatest number of a range.
use Rattle.std.proofs.Common.{◌≡◌, ℕ, zero, suc, ◌+◌, ◌<◌, ◌≤◌, List, [], ◌∷◌, length, refl, arith}
use Rattle.std.specs.Prelude.{Some}
use Rattle.std.specs.List.{AllByRecursion, range_with_len, slice_get}
pub use Rattle.transition_formula.proofs.HiddenColumns.{hidden-holds, hidden-fits}
pub use Rattle.transition_formula.proofs.SomePosts.{with_posts-holds, with_posts-fits}
pub use Rattle.transition_formula.proofs.FittedFormulas.{fits-solvable, fitted-solvable}
pub use Rattle.transition_formula.proofs.Fitting.{identity-fits}
pub use Rattle.transition_formula.proofs.Meanings.{identity-holds}
pub use Rattle.leaf_cases.proofs.Graphs.{EdgeFits, all_get, act-fits, act_of_edge}
pub use Rattle.leaf_cases.proofs.Leaves.{leaf_holds, leaf_few}
pub use Rattle.leaf_cases.proofs.MetCalls.{met_edges_are_known}
pub use Rattle.flow_graph.proofs.Theorems.{returns_are_walks}
pub use Rattle.checked_tree.proofs.Between.{settled-from, between}
pub use Rattle.vocabularies.proofs.Columns.{IsVocabulary-full, IsVocabulary-below, range-next}

pub some_at : {X : Type 0} (xs : List X) (k : ℕ) → k < length xs → (x : X) × (slice_get xs k ≡ Some x)
some_at [] k lt = absurd (omega arith)
some_at (x ∷ xs) zero lt = (x, refl)
some_at (x ∷ xs) (suc k) lt = some_at xs k (omega arith)

pub range-below : (first count most : ℕ) → first + count ≤ most → AllByRecursion (λ place. place < most) (range_with_len first count)
range-below first zero most le = tt
range-below first (suc n) most le = (omega (arith, le), range-below (first + 1) n most (omega (arith, le)))
