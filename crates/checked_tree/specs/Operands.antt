-- What operations ask of their operands.
use Rattle.transition_formula.specs.Transition.{Transition}
use Rattle.polyhedra.specs.Vocabulary.{Vocabulary}
use Rattle.checked_tree.specs.Law.{IsEnd, IsBetweenEnds}

-- the first formula goes to a vocabulary that the second one goes on from
pub record AreInSequence (from to : Vocabulary) (first second : Transition) : Type 0 where
  pub through : Vocabulary
  pub start : IsEnd from
  pub end : IsEnd to
  pub first_is : IsBetweenEnds from through first
  pub second_is : IsBetweenEnds through to second

-- both formulas go between the same vocabularies
pub record AreEither (from to : Vocabulary) (left right : Transition) : Type 0 where
  pub start : IsEnd from
  pub end : IsEnd to
  pub left_is : IsBetweenEnds from to left
  pub right_is : IsBetweenEnds from to right
