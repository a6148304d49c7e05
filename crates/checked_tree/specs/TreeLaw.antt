-- What a checked tree says, by its steps alone.
use Rattle.std.specs.Prelude.{◌≡◌, ◌⊎◌, ◌<◌, ℕ, ℤ, List, [], ◌∷◌, length}
use Rattle.path_expr.specs.PathExpr.{InLanguage}
use Rattle.transition_formula.specs.Meaning.{Holds, last_of}
use Rattle.checked_tree.specs.Graph.{Graph, leaf_at}
use Rattle.checked_tree.specs.Law.{IsRun, IsBetweenEnds}
use Rattle.checked_tree.specs.Tree.{Tree, Leaf, Seq, Join, Star, own_of, formula_of, path_of}
use Rattle.checked_tree.specs.Checked.{IsChecked}

-- each of these states is related to the next one
abbrev pub IsLinked : (List ℤ → List ℤ → Type 0) → List ℤ → List (List ℤ) → Type 0
IsLinked R first [] = Unit {0}
IsLinked R first (next ∷ more) = R first next × IsLinked R next more

-- what the leaves of a tree relate: what the formula of a leaf holds of; two states with one
-- between them; either; and the ends of a chain of states, of one state alone too
abbrev pub Relates : Tree → List ℤ → List ℤ → Type 0
Relates (Leaf number given own) before after = Holds given before after
Relates (Seq first second own) before after =
    (middle : List ℤ) × Relates first before middle × Relates second middle after
Relates (Join left right own) before after = Relates left before after ⊎ Relates right before after
Relates (Star turn own) before after =
    (states : List (List ℤ)) × IsLinked (Relates turn) before states
    × (last_of before states ≡ after)

-- the formula of a checked tree holds of what its leaves relate
abbrev pub TreesHold : Type 0
TreesHold =
    (t : Tree) → IsChecked t → (before after : List ℤ) → length before ≡ (own_of t).from.columns →
    Relates t before after → Holds (formula_of t) before after

-- it goes between the vocabularies of the tree's ends, and is small enough to go on with
abbrev pub TreesFit : Type 0
TreesFit = (t : Tree) → IsChecked t → IsBetweenEnds (own_of t).from (own_of t).to (formula_of t)

-- each leaf is a link of the graph, with that link's formula
abbrev pub IsOf : Graph → Tree → Type 0
IsOf g (Leaf number given own) = (number < length g.links) × (given ≡ leaf_at g number)
IsOf g (Seq first second own) = IsOf g first × IsOf g second
IsOf g (Join left right own) = IsOf g left × IsOf g right
IsOf g (Star turn own) = IsOf g turn

-- the leaves of a graph's tree relate the states of each run along a word of its path
abbrev pub RunsAreRelated : Type 0
RunsAreRelated =
    (g : Graph) (t : Tree) → IsOf g t → (word : List ℕ) → InLanguage (path_of t) word
    → (before after : List ℤ) →
    IsRun g word before after → Relates t before after
