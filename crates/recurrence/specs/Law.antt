-- The law of star.
use Rattle.std.specs.Prelude.{◌≡◌, ℕ, ◌+◌, ◌<◌, ◌≤◌, ◌^◌, length}
use Rattle.std.specs.List.{AllByRecursion}
use Rattle.linear_terms.specs.declared.row.Case.{Case}
use Rattle.transition_formula.specs.Meaning.{HoldsOfChains}
use Rattle.transition_formula.specs.Transition.{Transition, IsTransition}
use Rattle.posing.specs.Posing.{Always}
use Rattle.polyhedra.specs.Vocabulary.{Vocabulary, IsVocabulary}
use Rattle.recurrence.specs.Star.{star_of}

-- the body and the vocabulary are over the same columns, which can be numbered
pub record IsStarred (body : Transition) (voc : Vocabulary) : Type 0 where
  pub body_fits : IsTransition body.from body.to body.cases
  pub same_ends : body.from ≡ body.to
  pub vocabulary : IsVocabulary voc
  pub same_columns : voc.columns ≡ body.to
  pub few : body.to < 2 ^ 31

-- star holds of the first and the last of every list of states of which the body links each to the
-- next, whatever the answers are, as long as they are true
abbrev pub StarHolds : Type 0
StarHolds = (body : Transition) (voc : Vocabulary) → IsStarred body voc
    → Always (HoldsOfChains body) (star_of body voc)

-- a formula over so many columns, of at most two cases, each with at most 64 rows and at most one
-- auxiliary more than there are columns
pub record IsStar (columns : ℕ) (g : Transition) : Type 0 where
  pub fits : IsTransition columns columns g.cases
  pub two : length g.cases ≤ 2
  pub rows : AllByRecursion (λ (case : Case). length case.rows ≤ 64) g.cases
  pub auxiliaries : AllByRecursion (λ (case : Case). case.aux ≤ columns + 1) g.cases

-- star is a formula of at most two small cases over the body's columns, whatever the answers are,
-- as long as they are true
abbrev pub StarFits : Type 0
StarFits = (body : Transition) (voc : Vocabulary) → IsStarred body voc
    → Always (IsStar body.to) (star_of body voc)
