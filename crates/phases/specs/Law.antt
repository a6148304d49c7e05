-- The laws of phases, and of repetitions by any rule.
use Rattle.std.specs.Prelude.{◌≡◌, ℕ, ◌≤◌}
use Rattle.std.specs.List.{AllByRecursion}
use Rattle.linear_terms.specs.declared.row.Case.{Case}
use Rattle.transition_formula.specs.Meaning.{HoldsOfChains}
use Rattle.transition_formula.specs.Transition.{Transition, IsTransition, IsFitted, most_auxiliaries}
use Rattle.posing.specs.Posing.{Always}
use Rattle.polyhedra.specs.Laws.{HaveCanonicalRows}
use Rattle.polyhedra.specs.Vocabulary.{Vocabulary}
use Rattle.recurrence.specs.Law.{IsStarred}
use Rattle.phases.specs.Phases.{phases_of}
use Rattle.phases.specs.Repetition.{repetition}

-- the body and the vocabulary are over the same columns, at most 63, and the body's cases have few
-- auxiliaries
pub record IsPhasable (body : Transition) (voc : Vocabulary) : Type 0 where
  pub starred : IsStarred body voc
  pub few_columns : body.to ≤ 63
  pub few_auxiliaries : AllByRecursion (λ (case : Case). case.aux ≤ most_auxiliaries) body.cases

-- phases hold of the first and the last of every list of states of which the body links each to the
-- next, whatever the answers are, as long as they are true
abbrev pub PhasesHold : Type 0
PhasesHold = (body : Transition) (voc : Vocabulary) → IsPhasable body voc
    → HaveCanonicalRows body.cases → Always (HoldsOfChains body) (phases_of body voc)

-- a formula over so many columns, small enough to go on with: of at most 16 cases, each with at most
-- 64 rows and 64 auxiliaries
pub record IsPhased (columns : ℕ) (g : Transition) : Type 0 where
  pub from_is : g.from ≡ columns
  pub to_is : g.to ≡ columns
  pub fits : IsTransition columns columns g.cases
  pub fitted : IsFitted g.cases

-- phases are a formula over the body's columns that is small enough to go on with, whatever the
-- answers are, as long as they are true
abbrev pub PhasesFit : Type 0
PhasesFit = (body : Transition) (voc : Vocabulary) → IsPhasable body voc
    → Always (IsPhased body.to) (phases_of body voc)

-- a repetition holds of these, whatever the rule is
abbrev pub RepetitionsHold : Type 0
RepetitionsHold = (body : Transition) (voc : Vocabulary) → IsPhasable body voc
    → HaveCanonicalRows body.cases → Always (HoldsOfChains body) (repetition body voc)

-- a repetition is small enough to go on with, whatever the rule is
abbrev pub RepetitionsFit : Type 0
RepetitionsFit = (body : Transition) (voc : Vocabulary) → IsPhasable body voc
    → Always (IsPhased body.to) (repetition body voc)
