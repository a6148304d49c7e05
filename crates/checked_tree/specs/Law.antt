-- What an evaluation keeps, whatever the answers are, as long as they are true.
use Rattle.std.specs.Prelude.{◌≡◌, ◌<◌, ◌≤◌, ℕ, ℤ, List, [], ◌∷◌, length, Some}
use Rattle.std.specs.List.{AllByRecursion, slice_get}
use Rattle.path_expr.specs.declared.cell.Cell.{Cell}
use Rattle.path_expr.specs.declared.cell.Cell.TheVariants as known
use Rattle.path_expr.specs.PathExpr.{PathExpr, InLanguage}
use Rattle.path_expr.specs.Walks.{IsGraph, IsWalk}
use Rattle.transition_formula.specs.Meaning.{Holds}
use Rattle.transition_formula.specs.Transition.{Transition, IsTransition, IsFitted, AreSolvable}
use Rattle.posing.specs.Posing.{Always}
use Rattle.polyhedra.specs.Laws.{HaveCanonicalRows}
use Rattle.polyhedra.specs.Vocabulary.{Vocabulary, IsVocabulary}
use Rattle.checked_tree.specs.Graph.{Graph, link_at, leaf_at, vocabulary_at, start_vocabulary}
use Rattle.checked_tree.specs.Evaluation.{Made, cell_at, evaluation}

-- ---- what an evaluation asks of its graph

-- the formula goes from the columns of one vocabulary to those of another
pub record IsFrom (from to : Vocabulary) (f : Transition) : Type 0 where
  pub from_is : f.from ≡ from.columns
  pub to_is : f.to ≡ to.columns
  pub fits : IsTransition f.from f.to f.cases

-- a leaf goes between the columns of its link's ends, and can be put in order
pub record IsLeaf (g : Graph) (number : ℕ) : Type 0 where
  pub between :
      IsFrom (vocabulary_at g (link_at g number).from) (vocabulary_at g (link_at g number).to)
      (leaf_at g number)
  pub solvable : AreSolvable (leaf_at g number).cases

-- a vocabulary of at most 63 columns
pub record IsEnd (voc : Vocabulary) : Type 0 where
  pub is : IsVocabulary voc
  pub few : voc.columns ≤ 63

-- a graph with a leaf for each link, and a source among its nodes
pub record IsEvaluated (g : Graph) (source : ℕ) : Type 0 where
  pub graph : IsGraph (length g.nodes) g.links
  pub one_each : length g.leaves ≡ length g.links
  pub leaves : (number : ℕ) → number < length g.links → IsLeaf g number
  pub ends : (node : ℕ) → node < length g.nodes → IsEnd (vocabulary_at g node)
  pub source_is : source < length g.nodes

-- ---- runs along walks

-- the leaves of these links hold of states that follow one another
abbrev pub IsRun : Graph → List ℕ → List ℤ → List ℤ → Type 0
IsRun g [] before after = before ≡ after
IsRun g (number ∷ numbers) before after =
    (next : List ℤ) × Holds (leaf_at g number) before next × IsRun g numbers next after

-- what a cell says of two states
abbrev pub HoldsCell : Cell Transition → List ℤ → List ℤ → Type 0
HoldsCell known.Zero before after = ⊥
HoldsCell known.One before after = before ≡ after
HoldsCell (known.Item f) before after = Holds f before after

-- the formula holds of each run along a word of the path, from a state that has its columns
abbrev pub HoldsAlong : Graph → PathExpr → Transition → Type 0
HoldsAlong g path f =
    (word : List ℕ) (before after : List ℤ) → InLanguage path word
    → length before ≡ (start_vocabulary g path).columns →
    IsRun g word before after → Holds f before after

-- each leaf's rows have their monomials in print order, each once, as their types keep them
abbrev pub HaveCanonicalLeaves : Graph → Type 0
HaveCanonicalLeaves g = AllByRecursion (λ (f : Transition). HaveCanonicalRows f.cases) g.leaves

-- the rows of each formula made have their monomials in print order, each once
abbrev pub AreCanonicalMade : Made → Type 0
AreCanonicalMade made = AllByRecursion (λ entry. HaveCanonicalRows entry.1.cases) made

-- ---- the laws

-- the cell of a node holds of each run along a walk from the source to it
abbrev pub HoldsOfWalks : Graph → ℕ → Made → Type 0
HoldsOfWalks g source made =
    (node : ℕ) → node < length g.nodes → (word : List ℕ) → IsWalk g.links source node word
    → (before after : List ℤ) →
    length before ≡ (vocabulary_at g source).columns → IsRun g word before after →
    HoldsCell (cell_at g source made node) before after

-- what an evaluation under true answers leaves at each node holds of each run along a walk to it
abbrev pub EvaluationHolds : Type 0
EvaluationHolds =
    (g : Graph) (source : ℕ) → IsEvaluated g source → HaveCanonicalLeaves g →
    Always (λ made. AreCanonicalMade made → HoldsOfWalks g source made) (evaluation g source)

-- a formula between two vocabularies that is small enough to go on with
pub record IsBetweenEnds (from to : Vocabulary) (f : Transition) : Type 0 where
  pub between : IsFrom from to f
  pub fitted : IsFitted f.cases

-- an item goes from the columns of the source to those of its node, and is small enough
abbrev pub FitsCell : Vocabulary → Vocabulary → Cell Transition → Type 0
FitsCell from to known.Zero = Unit {0}
FitsCell from to known.One = Unit {0}
FitsCell from to (known.Item f) = IsBetweenEnds from to f

-- what an evaluation under true answers leaves at each node fits the source and the node
abbrev pub EvaluationFits : Type 0
EvaluationFits =
    (g : Graph) (source : ℕ) → IsEvaluated g source →
    Always (λ made. (node : ℕ) → node < length g.nodes →
    FitsCell (vocabulary_at g source) (vocabulary_at g node) (cell_at g source made node))
    (evaluation g source)

-- a cell for each node, and each as it has to be
pub record AreFittedCells (g : Graph) (source : ℕ) (cells : List (Cell Transition)) : Type 0 where
  pub one_each : length cells ≡ length g.nodes
  pub fits : (node : ℕ) (cell : Cell Transition) → slice_get cells node ≡ Some cell →
      FitsCell (vocabulary_at g source) (vocabulary_at g node) cell

-- the cell of each node holds of each run along a walk from the source to it
abbrev pub CellsHold : Graph → ℕ → List (Cell Transition) → Type 0
CellsHold g source cells =
    (node : ℕ) (cell : Cell Transition) → slice_get cells node ≡ Some cell → (word : List ℕ) →
    IsWalk g.links source node word → (before after : List ℤ)
    → length before ≡ (vocabulary_at g source).columns →
    IsRun g word before after → HoldsCell cell before after
