-- The evaluation of a plan that is under way.
use Rattle.std.specs.Prelude.{◌≡◌, ◌<◌, ℕ, List, ◌∷◌, length, replicate}
use Rattle.path_expr.specs.PathExpr.{PathExpr}
use Rattle.transition_formula.specs.Transition.{Transition}
use Rattle.posing.specs.Posing.{Always}
use Rattle.path_expr.specs.declared.cell.Cell.{Cell}
use Rattle.checked_tree.specs.declared.key.Key.{Key}
use Rattle.checked_tree.specs.Graph.{Graph, start_of, end_of, start_vocabulary, end_vocabulary}
use Rattle.checked_tree.specs.Evaluation.{Made, formula_at, paths_of}
use Rattle.checked_tree.specs.Law.{IsEnd, IsEvaluated, IsBetweenEnds}
use Rattle.checked_tree.specs.Ready.{IsAmong, AreReady}
use Rattle.checked_tree.specs.Plan.{IsPathOf, ArePathsOf, AreDistinct, IsPlanned}
use Rattle.checked_tree.specs.ByNumber.{Entry, Entries, blank, entry_at, with_number}

-- a path between nodes whose vocabularies are of few columns, and its formula between them
pub record IsKnown (g : Graph) (p : PathExpr) (f : Transition) : Type 0 where
  pub starts : IsEnd (start_vocabulary g p)
  pub ends : IsEnd (end_vocabulary g p)
  pub start_within : start_of g p < length g.nodes
  pub end_within : end_of g p < length g.nodes
  pub formula : IsBetweenEnds (start_vocabulary g p) (end_vocabulary g p) f

-- what was made of a path, with its nodes in the graph
abbrev pub entry_for : Graph → Made → PathExpr → Entry
entry_for g made p = record { from = start_of g p; to = end_of g p; formula = formula_at made p }

-- each path that was made has its entry at its number
pub record Agrees (g : Graph) (keys : List Key) (made : Made) (entries : Entries) : Type 0 where
  pub long : length entries ≡ length keys
  pub same : (p : PathExpr) (n : ℕ) → IsPathOf keys p n → IsAmong p (paths_of made) →
      entry_at entries n ≡ entry_for g made p

-- The entries are those of what was made, each known, and what is left are the numbers of paths
-- that are ready where they stand.
pub record IsUnderWay (g : Graph) (keys : List Key) (entries : Entries)
    (rest : List ℕ) : Type 0 where
  pub made : Made
  pub paths : List PathExpr
  pub agrees : Agrees g keys made entries
  pub known : (p : PathExpr) → IsAmong p (paths_of made) → IsKnown g p (formula_at made p)
  pub ready : AreReady g (paths_of made) paths
  pub numbers : ArePathsOf keys paths rest

-- each operation of a plan leaves an evaluation that is under way
abbrev pub PlansGoOn : Type 0
PlansGoOn =
    (g : Graph) (source : ℕ) (keys : List Key) → IsEvaluated g source → AreDistinct keys →
    (entries : Entries) (n : ℕ) (rest : List ℕ) → IsUnderWay g keys entries (n ∷ rest) →
    Always (λ next. IsUnderWay g keys next rest) (with_number g keys entries n)

-- the evaluation of a plan begins as one that is under way
abbrev pub PlansBegin : Type 0
PlansBegin =
    (g : Graph) (source : ℕ) (keys : List Key) (order : List ℕ) (cells : List (Cell ℕ))
    → IsEvaluated g source →
    IsPlanned (length g.nodes) g.links source keys order cells
    → IsUnderWay g keys (replicate (length keys) blank) order
