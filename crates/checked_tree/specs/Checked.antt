-- Trees at each of whose steps the formula is what the stated operation comes to, from the formulas
-- below it, under the answers that the step keeps, each of which passes.
use Rattle.std.specs.Prelude.{◌≡◌}
use Rattle.farkas_check.specs.Tested.{Passes}
use Rattle.posing.specs.Posing.{Posing}
use Rattle.posing.specs.Replay.{Keeps}
use Rattle.polyhedra.specs.Laws.{HaveCanonicalRows}
use Rattle.phases.specs.Repetition.{repetition}
use Rattle.transition_formula.specs.Transition.{Transition, AreSolvable}
use Rattle.checked_tree.specs.Evaluation.{leaf_formula, sequence_formula, join_formula}
use Rattle.checked_tree.specs.Law.{IsEnd, IsFrom}
use Rattle.checked_tree.specs.Tree.{Own, Tree, Leaf, Seq, Join, Star, own_of}

-- the step's own notes and answers lead this operation to its formula, whose rows are in canonical
-- form
pub record IsMade (own : Own) (p : Posing Transition) : Type 0 where
  pub kept : Keeps Passes p own.formula own.log.notes own.log.answers
  pub canonical : HaveCanonicalRows own.formula.cases

-- a formula that was given between two vocabularies, settled and fitted
pub record IsLeafStep (given : Transition) (own : Own) : Type 0 where
  pub start : IsEnd own.from
  pub end : IsEnd own.to
  pub between : IsFrom own.from own.to given
  pub solvable : AreSolvable given.cases
  pub given_canonical : HaveCanonicalRows given.cases
  pub made : IsMade own (leaf_formula given own.from own.to)

-- one step and then another, which begins where the first ends
pub record IsSeqStep (first second own : Own) : Type 0 where
  pub from_is : own.from ≡ first.from
  pub through : first.to ≡ second.from
  pub to_is : own.to ≡ second.to
  pub made : IsMade own (sequence_formula first.formula second.formula own.from own.to)

-- either of two steps between the same vocabularies
pub record IsJoinStep (left right own : Own) : Type 0 where
  pub from_is : own.from ≡ left.from
  pub to_is : own.to ≡ left.to
  pub starts : left.from ≡ right.from
  pub ends : left.to ≡ right.to
  pub made : IsMade own (join_formula left.formula right.formula own.from own.to)

-- any number of turns of a step that ends where it begins
pub record IsStarStep (turn own : Own) : Type 0 where
  pub from_is : own.from ≡ turn.from
  pub turns : turn.to ≡ turn.from
  pub to_is : own.to ≡ turn.from
  pub made : IsMade own (repetition turn.formula own.from)

-- each step of the tree has the formula that its operation makes of its operands, under the answers
-- that it kept
abbrev pub IsChecked : Tree → Type 0
IsChecked (Leaf number given own) = IsLeafStep given own
IsChecked (Seq first second own) = IsChecked first × IsChecked second
    × IsSeqStep (own_of first) (own_of second) own
IsChecked (Join left right own) = IsChecked left × IsChecked right
    × IsJoinStep (own_of left) (own_of right) own
IsChecked (Star turn own) = IsChecked turn × IsStarStep (own_of turn) own
