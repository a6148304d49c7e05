-- A tree of evaluated steps as plain data, by whose cases its meaning is defined. `tree_of` leaves
-- out how the steps are kept in memory, and nothing else.
use Rattle.std.specs.Prelude.{ℕ}
use Rattle.path_expr.specs.PathExpr.{PathExpr}
use Rattle.path_expr.specs.PathExpr as expr
use Rattle.polyhedra.specs.Vocabulary.{Vocabulary}
use Rattle.posing.specs.declared.log.Log.{Log}
use Rattle.transition_formula.specs.Transition.{Transition}
use Rattle.checked_tree.specs.declared.step.TreeStep.{TreeStep, fold-TreeStep}
use Rattle.checked_tree.specs.declared.step.Node.TheOpen.{Node-F, TreeStep-F}

-- what a step has beside its operation: the vocabularies of its two ends, its formula, and what its
-- operation alone noted and was answered
pub record Own : Type 0 where
  pub from : Vocabulary
  pub to : Vocabulary
  pub formula : Transition
  pub log : Log

-- a link's number and the formula that it was given, one step and then another, either of two, and
-- any number of turns
pub data Tree : Type 0 where
  Leaf : (number : ℕ) (given : Transition) (own : Own) → Tree
  Seq : (first second : Tree) (own : Own) → Tree
  Join : (left right : Tree) (own : Own) → Tree
  Star : (turn : Tree) (own : Own) → Tree

-- what the last step of a tree has beside its operation
abbrev pub own_of : Tree → Own
own_of (Leaf number given own) = own
own_of (Seq first second own) = own
own_of (Join left right own) = own
own_of (Star turn own) = own

-- the formula of the last step of a tree
abbrev pub formula_of : Tree → Transition
formula_of t = (own_of t).formula

-- the path whose runs it relates
abbrev pub path_of : Tree → PathExpr
path_of (Leaf number given own) = expr.Edge number
path_of (Seq first second own) = expr.Seq (path_of first) (path_of second)
path_of (Join left right own) = expr.Join (path_of left) (path_of right)
path_of (Star turn own) = expr.Star (path_of turn)

-- the tree of an operation, from the trees of its operands and what its step has beside it
abbrev pub node_layer : Node-F (Own → Tree) Tree → Own → Tree
node_layer (Node-F.Leaf number given) own = Leaf number given own
node_layer (Node-F.Seq first second) own = Seq first.value second.value own
node_layer (Node-F.Join left right) own = Join left.value right.value own
node_layer (Node-F.Star turn) own = Star turn.value own

-- the tree of a step, from its operation and the values that its memory holds
abbrev pub step_layer : TreeStep-F (Own → Tree) Tree → Tree
step_layer step =
    step.node record {
      from = step.from.value;
      to = step.to.value;
      formula = step.formula;
      log = step.log;
    }

-- the plain form of a step
abbrev pub tree_of : TreeStep → Tree
tree_of = fold-TreeStep (Own → Tree) Tree node_layer step_layer
