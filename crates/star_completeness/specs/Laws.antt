-- The laws: finishing a case loses nothing where nothing is noted, and star bounds the change over
-- many turns as well as any rows that one turn implies.
--
-- Source: Farzan and Kincaid, Compositional Recurrence Analysis, FMCAD 2015.
use Rattle.std.specs.Prelude.{◌≡◌, ◌⊎◌, ℕ, ℤ, pos, ◌-ℤ◌, ◌≤ℤ◌, List, [], map, slice_get, unwrap_or, Option, All, true, IsTrue}
use Rattle.std.specs.List.{Contains, range_with_len}
use Rattle.linear_terms.specs.Auxiliaries.{is_numbered}
use Rattle.linear_terms.specs.Polynomial.{Polynomial}
use Rattle.linear_terms.specs.Row.{AreCanonical}
use Rattle.linear_terms.specs.declared.row.Case.{Case}
use Rattle.farkas_check.specs.Kept.{ArePolysCanonical}
use Rattle.farkas_check.specs.declared.answer.Answer.{Answer}
use Rattle.farkas_check.specs.declared.stratum.Change.{Change}
use Rattle.transition_formula.specs.Meaning.{Holds, HoldsCase, HoldsLeft}
use Rattle.transition_formula.specs.Transition.{Transition, every_column_of}
use Rattle.posing.specs.Posing.{IsPassing}
use Rattle.posing.specs.Replay.{Keeps}
use Rattle.polyhedra.specs.Changes.{changes_in}
use Rattle.polyhedra.specs.Finish.{finish_of_case}
use Rattle.polyhedra.specs.Vocabulary.{Vocabulary}
use Rattle.facet_hull.specs.Changes.{HasChange}
use Rattle.facet_hull.specs.Facets.{facets_of, hull_cases}
use Rattle.facet_hull.specs.Laws.{IsBoundOver}
use Rattle.facet_hull.specs.declared.outcome.Facets.TheVariants.{Normals}
use Rattle.recurrence.specs.Law.{IsStarred}
use Rattle.recurrence.specs.Star.{star_of}
use Rattle.phases.specs.Repetition.{repetition}

-- ---- finishing

-- Where answers that pass lead through the finishing of a case with nothing noted, what is left of
-- it holds of nothing that the case does not hold of. The case's rows are such as their types keep
-- them, and its auxiliaries are numbered.
abbrev pub FinishingLosesNothing : Type 0
FinishingLosesNothing = (case : Case) → AreCanonical case.rows
    → IsTrue (every_column_of (is_numbered case.aux) case)
    → (left : Option Case) (answers : List Answer)
    → Keeps IsPassing (finish_of_case case) left [] answers
    → (before after : List ℤ) → HoldsLeft left before after → HoldsCase case before after

-- ---- many turns

-- the changes of all variables in each case of a body, by number
abbrev pub all_changes : Transition → List Change
all_changes body = map (changes_in true (range_with_len 0 body.to)) body.cases

-- the number of a variable in a state
abbrev pub number_in : List ℤ → ℕ → ℤ
number_in state v = unwrap_or (slice_get state v) (pos 0)

-- the change of each of so many variables from a state to a later one, by number
abbrev pub changes_between : ℕ → List ℤ → List ℤ → List ℤ
changes_between columns before after = map (λ v. number_in after v -ℤ number_in before v)
    (range_with_len 0 columns)

-- A state and a later one lie within one and more turns of the body: for some number of turns, each
-- bound on a form of the changes of one turn, at each rational point of each case, bounds that form
-- of the change from the one to the other as so many times it.
pub record IsWithinTurns (body : Transition) (before after : List ℤ) : Type 0 where
  pub turns : ℤ
  pub some : pos 1 ≤ℤ turns
  pub bound : IsBoundOver body.to (all_changes body) (changes_between body.to before after) turns

-- two states that the formula links are one, or lie within one and more turns of the body
abbrev pub LinksNear : Transition → Transition → Type 0
LinksNear body f = (before after : List ℤ) → Holds f before after
    → (after ≡ before) ⊎ IsWithinTurns body before after

-- ---- star

-- the rows and posts of a case have their monomials in print order, each once, as their types keep
-- them
pub record IsCanonicalCase (case : Case) : Type 0 where
  pub rows : AreCanonical case.rows
  pub posts : ArePolysCanonical case.post

-- a body and a vocabulary for its star; some case of the body has a rational point
pub record CanTurn (body : Transition) (voc : Vocabulary) : Type 0 where
  pub starred : IsStarred body voc
  pub canonical : All IsCanonicalCase body.cases
  pub some : HasChange (hull_cases body)

-- Where the exact normals of a body are among the further directions of a vocabulary, and answers
-- that pass lead to its star with nothing noted, two states that star links are one, or lie within
-- one and more turns of the body.
abbrev pub StarIsRelativelyComplete : Type 0
StarIsRelativelyComplete =
    (body : Transition) (voc : Vocabulary) (normals : List Polynomial) → CanTurn body voc
    → facets_of body ≡ Normals normals → All (Contains voc.extra) normals
    → (star : Transition) (answers : List Answer)
    → Keeps IsPassing (star_of body voc) star [] answers → LinksNear body star

-- The same of what a repetition comes to by the third rule, which has the normals among its
-- directions; where there are none, that is noted.
abbrev pub RepetitionIsRelativelyComplete : Type 0
RepetitionIsRelativelyComplete =
    (body : Transition) (voc : Vocabulary) → voc.rule ≡ 3 → CanTurn body voc
    → (made : Transition) (answers : List Answer)
    → Keeps IsPassing (repetition body voc) made [] answers → LinksNear body made
