-- What an evaluation keeps, whatever the answers are, as long as they are true.
use Rattle.std.specs.Prelude.{◌≡◌, ◌<◌, ℕ, ℤ, List, All, Some, length}
use Rattle.std.specs.List.{AllByRecursion, slice_get}
use Rattle.path_expr.specs.declared.cell.Cell.{Cell}
use Rattle.path_expr.specs.declared.cell.Cell.TheVariants as known
use Rattle.path_expr.specs.declared.link.Link.{Link}
use Rattle.path_expr.specs.Walks.{IsWalk}
use Rattle.transition_formula.specs.Transition.{Transition, AreSolvable}
use Rattle.posing.specs.Posing.{Always}
use Rattle.polyhedra.specs.Laws.{HaveCanonicalRows, IsBetween}
use Rattle.polyhedra.specs.Vocabulary.{Vocabulary}
use Rattle.checked_tree.specs.Graph.{Graph, link_at, leaf_at, vocabulary_at}
use Rattle.checked_tree.specs.Law.{IsRun, HoldsCell}
use Rattle.forward_graphs.specs.Evaluation.{walk_cells}
use Rattle.forward_graphs.specs.Within.{IsWithin}

-- ---- what an evaluation asks of its graph

-- each link leads to a later node
abbrev pub AreForward : ℕ → List Link → Type 0
AreForward nodes links = All (λ link. (link.from < link.to) × (link.to < nodes)) links

-- a leaf goes between the columns of its link's ends, and can be put in order
pub record IsLeaf (g : Graph) (number : ℕ) : Type 0 where
  pub between :
      IsBetween (leaf_at g number) (vocabulary_at g (link_at g number).from)
      (vocabulary_at g (link_at g number).to)
  pub solvable : AreSolvable (leaf_at g number).cases

-- a graph whose links lead forward, with a leaf for each, and a source among its nodes
pub record IsForward (g : Graph) (source : ℕ) : Type 0 where
  pub forward : AreForward (length g.nodes) g.links
  pub one_each : length g.leaves ≡ length g.links
  pub leaves : (number : ℕ) → number < length g.links → IsLeaf g number
  pub source_is : source < length g.nodes

-- ---- runs along walks

-- the cell of each node holds of each run along a walk from the source to it
abbrev pub CellsHold : Graph → ℕ → List (Cell Transition) → Type 0
CellsHold g source cells =
    (node : ℕ) (cell : Cell Transition) → slice_get cells node ≡ Some cell → (word : List ℕ) →
    IsWalk g.links source node word → (before after : List ℤ) → IsRun g word before after
    → HoldsCell cell before after

-- ---- sizes

-- a formula between two vocabularies that is small enough to go on with
pub record IsWalkFormula (from to : Vocabulary) (f : Transition) : Type 0 where
  pub between : IsBetween f from to
  pub within : IsWithin f.cases

-- an item goes from the columns of the source to those of its node, and is small enough; the empty
-- walk stays at one vocabulary
abbrev pub FitsCell : Vocabulary → Vocabulary → Cell Transition → Type 0
FitsCell from to known.Zero = Unit {0}
FitsCell from to known.One = from ≡ to
FitsCell from to (known.Item f) = IsWalkFormula from to f

-- a cell for each node, and each as it has to be
pub record AreFittedCells (g : Graph) (source : ℕ) (cells : List (Cell Transition)) : Type 0 where
  pub one_each : length cells ≡ length g.nodes
  pub fits : (node : ℕ) (cell : Cell Transition) → slice_get cells node ≡ Some cell →
      FitsCell (vocabulary_at g source) (vocabulary_at g node) cell

-- ---- the laws

-- each leaf's rows have their monomials in print order, each once, as their types keep them
abbrev pub HaveCanonicalLeaves : Graph → Type 0
HaveCanonicalLeaves g = AllByRecursion (λ (f : Transition). HaveCanonicalRows f.cases) g.leaves

-- so have the rows of a cell's formula
abbrev pub IsCanonicalCell : Cell Transition → Type 0
IsCanonicalCell known.Zero = Unit {0}
IsCanonicalCell known.One = Unit {0}
IsCanonicalCell (known.Item f) = HaveCanonicalRows f.cases

-- so have those of each cell
abbrev pub AreCanonicalCells : List (Cell Transition) → Type 0
AreCanonicalCells cells = AllByRecursion IsCanonicalCell cells

-- what an evaluation under true answers leaves at each node holds of each run along a walk to it
abbrev pub EvaluationHolds : Type 0
EvaluationHolds =
    (g : Graph) (source : ℕ) → IsForward g source → HaveCanonicalLeaves g →
    Always (λ cells. AreCanonicalCells cells → CellsHold g source cells) (walk_cells g source)

-- what an evaluation under true answers leaves at each node fits the source and the node
abbrev pub EvaluationFits : Type 0
EvaluationFits =
    (g : Graph) (source : ℕ) → IsForward g source →
    Always (AreFittedCells g source) (walk_cells g source)
