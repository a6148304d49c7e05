-- The trees that an evaluation makes, and where they stand.
use Rattle.std.specs.Prelude.{◌≡◌, ℕ, List, [], ◌∷◌, ◌++◌, map, length, Some, Result, Ok, Err}
use Rattle.std.specs.List.{flat_map, slice_get}
use Rattle.path_expr.specs.declared.cell.Cell.{Cell}
use Rattle.path_expr.specs.declared.cell.Cell.TheVariants as known
use Rattle.path_expr.specs.Elimination.{path_at}
use Rattle.path_expr.specs.Operations.{operations}
use Rattle.path_expr.specs.PathExpr.{Zero, One}
use Rattle.posing.specs.declared.log.Log.{Log}
use Rattle.transition_formula.specs.Transition.{Transition}
use Rattle.checked_tree.specs.declared.step.TreeStep.{TreeStep}
use Rattle.checked_tree.specs.Graph.{Graph, vocabulary_at}
use Rattle.checked_tree.specs.Ready.{IsAmong}
use Rattle.checked_tree.specs.Tree.{Tree, Leaf, Seq, Join, Star, own_of, formula_of, path_of, tree_of}
use Rattle.checked_tree.specs.Checked.{IsChecked}
use Rattle.checked_tree.specs.TreeLaw.{IsOf}

-- ---- cells of trees

-- a cell whose item is seen in another way; one without an item stays
abbrev pub cell_map : {A B : Type 0} → (A → B) → Cell A → Cell B
cell_map f known.Zero = known.Zero
cell_map f known.One = known.One
cell_map f (known.Item x) = known.Item (f x)

-- the plain forms of what stands at the nodes, in their order
abbrev pub trees_of : List (Cell TreeStep) → List (Cell Tree)
trees_of cells = map (cell_map tree_of) cells

-- the formulas of what stands at the nodes, in their order
abbrev pub formulas_of : List (Cell TreeStep) → List (Cell Transition)
formulas_of cells = map (cell_map (λ step. formula_of (tree_of step))) cells

-- a result whose value is seen in another way
abbrev pub result_map : {A B E : Type 0} → (A → B) → Result A E → Result B E
result_map f (Ok value) = Ok (f value)
result_map f (Err error) = Err error

-- ---- steps one after another

-- the trees that a step is made of are among these
abbrev pub IsBuilt : List Tree → Tree → Type 0
IsBuilt before (Leaf number given own) = Unit {0}
IsBuilt before (Seq first second own) = IsAmong first before × IsAmong second before
IsBuilt before (Join left right own) = IsAmong left before × IsAmong right before
IsBuilt before (Star turn own) = IsAmong turn before

-- each is made of trees before it
abbrev pub AreBuilt : List Tree → List Tree → Type 0
AreBuilt before [] = Unit {0}
AreBuilt before (t ∷ steps) = IsBuilt before t × AreBuilt (before ++ t ∷ []) steps

-- the tree of a node is one of the steps, of the node's path, between the vocabularies of the
-- source and of the node
pub record IsTreeAt (g : Graph) (source : ℕ) (steps : List Tree) (node : ℕ)
    (t : Tree) : Type 0 where
  pub path : path_of t ≡ path_at (length g.nodes) g.links source node
  pub among : IsAmong t steps
  pub checked : IsChecked t
  pub of : IsOf g t
  pub from_is : (own_of t).from ≡ vocabulary_at g source
  pub to_is : (own_of t).to ≡ vocabulary_at g node

-- no tree where no path leads, or the empty one alone
abbrev pub StandsAt : Graph → ℕ → List Tree → ℕ → Cell Tree → Type 0
StandsAt g source steps node known.Zero = path_at (length g.nodes) g.links source node ≡ Zero
StandsAt g source steps node known.One = path_at (length g.nodes) g.links source node ≡ One
StandsAt g source steps node (known.Item t) = IsTreeAt g source steps node t

-- what an evaluation made: a step for each operation of the stated elimination, in their order, of
-- which the log is what each kept, one after another; a tree that several steps share stands there
-- once
pub record AreGrown (g : Graph) (source : ℕ) (before after : Log)
    (cells : List (Cell Tree)) : Type 0 where
  pub steps : List Tree
  pub paths : map path_of steps ≡ operations (length g.nodes) g.links source
  pub noted : after.notes ≡ before.notes ++ flat_map (λ t. (own_of t).log.notes) steps
  pub answered : after.answers ≡ before.answers ++ flat_map (λ t. (own_of t).log.answers) steps
  pub shared : AreBuilt [] steps
  pub one_each : length cells ≡ length g.nodes
  pub cells_are : (node : ℕ) (cell : Cell Tree) → slice_get cells node ≡ Some cell
      → StandsAt g source steps node cell
