-- What is known of formulas, steps and cells while a graph is evaluated.
use Rattle.std.specs.Prelude.{◌≡◌, ◌<◌, ℕ, List, Option, None, Some, length}
use Rattle.std.specs.List.{AllByRecursion}
use Rattle.path_expr.specs.declared.cell.Cell.{Cell}
use Rattle.transition_formula.specs.Transition.{Transition}
use Rattle.polyhedra.specs.Vocabulary.{Vocabulary}
use Rattle.forward_graphs.specs.declared.arriving.Arrival.{Arrival}
use Rattle.forward_graphs.specs.declared.arriving.Walks.{Walks}
use Rattle.forward_graphs.specs.declared.joining.Joining.{Joining}
use Rattle.forward_graphs.specs.declared.step.Step.{Step}
use Rattle.forward_graphs.specs.Evaluation.{all_steps, cell_at}
use Rattle.checked_tree.specs.Graph.{Graph, link_at, vocabulary_at}
use Rattle.forward_graphs.specs.Graph.{graph_in, step_at}
use Rattle.forward_graphs.specs.Law.{IsLeaf, IsWalkFormula, FitsCell}

-- the first formula goes to a vocabulary that the second one goes on from
pub record AreInSequence (from to : Vocabulary) (first second : Transition) : Type 0 where
  pub through : Vocabulary
  pub first_is : IsWalkFormula from through first
  pub second_is : IsWalkFormula through to second

-- the number of a link that leads forward, with its leaf
pub record IsReadyLink (g : Graph) (number : ℕ) : Type 0 where
  pub is : number < length g.links
  pub has_leaf : number < length g.leaves
  pub forward : (link_at g number).from < (link_at g number).to
  pub target : (link_at g number).to < length g.nodes
  pub start : (link_at g number).from < length g.nodes
  pub leaf : IsLeaf g number

-- each number is one
abbrev pub AreReadyLinks : Graph → List ℕ → Type 0
AreReadyLinks g numbers = AllByRecursion (IsReadyLink g) numbers

-- a step that leads forward, between the vocabularies of its nodes
pub record IsStep (g : Graph) (step : Step) : Type 0 where
  pub forward : step.from < step.to
  pub target : step.to < length g.nodes
  pub start : step.from < length g.nodes
  pub formula :
      IsWalkFormula (vocabulary_at g step.from) (vocabulary_at g step.to) step.formula

-- each step does
abbrev pub AreSteps : Graph → List Step → Type 0
AreSteps g steps = AllByRecursion (IsStep g) steps

-- ---- steps that are joined

-- what is made of steps is between the nodes' vocabularies, and the next step is among those known
pub record IsJoinable (g : Graph) (steps : List Step) (joining : Joining)
    (number : ℕ) : Type 0 where
  pub known : AreSteps g steps
  pub made : AreSteps g (all_steps joining)
  pub is : number < length steps

-- ---- walks that arrive at a node

-- the graph of walks
abbrev pub graph_of : Walks → Graph
graph_of walks = graph_in walks.graph

-- what was found, if anything, goes between the vocabularies
abbrev pub IsFound : Vocabulary → Vocabulary → Option Transition → Type 0
IsFound from to None = Unit {0}
IsFound from to (Some f) = IsWalkFormula from to f

-- the step goes on from where the cell leads to
pub record IsFurther (from to : Vocabulary) (cell : Cell Transition) (f : Transition) : Type 0 where
  pub through : Vocabulary
  pub cell_is : FitsCell from through cell
  pub step_is : IsWalkFormula through to f

-- the cells of all nodes before one, from a source
pub record AreUnderWay (g : Graph) (source : ℕ) (steps : List Step) (cells : List (Cell Transition))
    (node : ℕ) : Type 0 where
  pub known : AreSteps g steps
  pub source_is : source < length g.nodes
  pub is : node < length g.nodes
  pub before : length cells ≡ node
  pub fit : (other : ℕ) → other < node →
      FitsCell (vocabulary_at g source) (vocabulary_at g other) (cell_at cells other)

-- the number of a step that leads to a node
pub record IsNext (g : Graph) (source : ℕ) (steps : List Step) (cells : List (Cell Transition))
    (node number : ℕ) : Type 0 where
  pub known : AreUnderWay g source steps cells node
  pub is : number < length steps
  pub leads : (step_at steps number).to ≡ node

-- what stands before a step, what the step says, and the vocabularies that both go between
pub record IsArrival (g : Graph) (source : ℕ) (steps : List Step) (cells : List (Cell Transition))
    (node number : ℕ) (arrival : Arrival) : Type 0 where
  pub cell : arrival.cell.now ≡ cell_at cells (step_at steps number).from
  pub step : arrival.step.now ≡ (step_at steps number).formula
  pub from : arrival.ends.from.now ≡ vocabulary_at g source
  pub to : arrival.ends.to.now ≡ vocabulary_at g node
