-- What the search of a stratum question comes to, and what its answer owes.
use Rattle.std.specs.Prelude.{◌≡◌, ◌⊎◌, ℕ, ◌+◌, ◌*◌, ◌-◌, ◌^◌, ◌<◌, ◌≤◌, ℤ, pos, Bool, true, Ok, Err, IsTrue, List, map, length, slice_get, Some}
use Rattle.std.specs.List.{AllByRecursion, list_all}
use Rattle.linear_terms.specs.declared.col.Col.{Col}
use Rattle.linear_terms.specs.declared.row.Row.{Row}
use Rattle.linear_terms.specs.Polynomial.{Polynomial}
use Rattle.farkas_check.specs.Calm.{IsCalm, IsLiveAndCalm}
use Rattle.farkas_check.specs.Frames.{choice_count}
use Rattle.farkas_check.specs.Meaning.{IsLimit}
use Rattle.farkas_check.specs.Kept.{IsCanonicalStratum}
use Rattle.farkas_check.specs.Relations.{Changes, stratum_columns, term_count, unknown_count, have_equally_many, numbers_of, is_reduced, free_places}
use Rattle.farkas_check.specs.Sizes.{IsDead}
use Rattle.farkas_check.specs.Points.{ratio_at, ratio_value}
use Rattle.farkas_check.specs.Ratios.{Fraction}
use Rattle.farkas_check.specs.Stratum.{has_unknowns, tested_relation, tested_free, spot_side}
use Rattle.farkas_check.specs.Tested.{outcome, Passes}
use Rattle.whole_numbers.specs.declared.wide.Wide as Step
use Rattle.farkas_check.specs.declared.answer.Answer.{Answer}
use Rattle.farkas_check.specs.declared.answer.Answer.TheVariants as answer
use Rattle.farkas_check.specs.declared.answer.Limit.TheVariants as limit
use Rattle.farkas_check.specs.declared.question.Question.TheVariants.{Stratum}
use Rattle.farkas_check.specs.declared.stratum.Change.{Change}
use Rattle.farkas_check.specs.declared.stratum.Relation.{Relation}
use Rattle.farkas_check.specs.declared.stratum.Spot.{Spot}
use Rattle.simplex.specs.Answers.{IsWide, NamesStep}
use Rattle.simplex.specs.Points.{IsPointOf, IsSpotAt}
use Rattle.simplex.specs.Relations.{HasCounts}
use Rattle.simplex.specs.SmallBasis.{HasSmallTies}
use Rattle.simplex.specs.StrataSteps.{IsSearchStep}
use Rattle.simplex.specs.Suprema.{IsSupremumOver}
use Rattle.simplex.specs.Ties.{IsHonestHalf, IsHonestTie, AreTies}
use Rattle.simplex.specs.declared.differences.StrataQuestion.{StrataQuestion}
use Rattle.simplex.specs.declared.differences.DifferenceHalf.{DifferenceHalf}
use Rattle.simplex.specs.declared.differences.DifferenceHalf.TheVariants as half
use Rattle.simplex.specs.declared.differences.Bond.{Bond}
use Rattle.simplex.specs.declared.differences.Bond.TheVariants as bond
use Rattle.simplex.specs.declared.strata.RelationVerdict.{RelationVerdict}
use Rattle.simplex.specs.declared.strata.RelationVerdict.TheVariants as verdict
use Rattle.simplex.specs.declared.strata.Course.{Course}
use Rattle.simplex.specs.declared.strata.Course.TheVariants as course
use Rattle.simplex.specs.declared.strata.KnownRelations.{KnownRelations}
use Rattle.simplex.specs.Spots.{sums_of, AreSpots, AreSpotLines, AreRelations, IsApart}
use Rattle.simplex.specs.declared.supremum.Supremum.TheVariants as supremum

-- ---- cases without an answer

-- a polynomial's supremum over the rows has no answer: no point makes them true, or the turns are
-- used up
pub record HasNoEnd (cs : List (List Col)) (budget : ℕ) (rows : List Row) : Type 0 where
  pub objective : Polynomial
  pub why : IsSupremumOver cs rows objective budget supremum.Empty
      ⊎ IsSupremumOver cs rows objective budget supremum.Pivots

-- the same of some case
pub record HasEndlessCase (cs : List (List Col)) (budget : ℕ) (cases : List Change) : Type 0 where
  pub place : ℕ
  pub case : Change
  pub is : slice_get cases place ≡ Some case
  pub endless : HasNoEnd cs budget case.rows

-- ---- what the search knows

-- the question's own columns, terms and unknowns
pub record IsAsked (s : StrataQuestion) : Type 0 where
  pub columns : s.columns.now ≡ stratum_columns s.cases.now s.lower.now
  pub few_columns : length s.columns.now < 2 ^ 64
  pub canonical : IsCanonicalStratum s.cases.now s.lower.now
  pub even : IsTrue (have_equally_many s.cases.now)
  pub terms : s.terms ≡ term_count s.cases.now

-- one of the cases
pub record IsCaseOf (s : StrataQuestion) (case : Change) : Type 0 where
  pub place : ℕ
  pub is : slice_get s.cases.now place ≡ Some case

-- a relation with a number for each term and each lower term, and with a tie for each case, small
-- where the question is calm
pub record IsTiedRelation (s : StrataQuestion) (relation : Relation) : Type 0 where
  pub counts : HasCounts s.terms (length s.lower.now) relation
  pub ties : AreTies s.columns.now s.lower.now (numbers_of relation) s.cases.now
      (length s.cases.now) relation.ties
  pub small : HasSmallTies s relation.ties

-- Spots that are points of their cases, and relations that are tied in each case. Where no spot
-- came since the unknowns began to have their turns, the relations are those of all unknowns before
-- the next.
pub record AreKnown (s : StrataQuestion) (known : KnownRelations) : Type 0 where
  pub spots : AreSpots s.count known.spots
  pub points : AllByRecursion (IsSpotAt s.columns.now s.cases.now) known.spots.spots
  pub lines : AreSpotLines s.columns.now s.cases.now s.lower.now known.spots.spots known.spots.lines
      known.spots.scales
  pub relations : AllByRecursion (IsTiedRelation s) known.relations
  pub next : known.next ≤ s.count
  pub start : known.start ≤ length known.spots.lines
  pub round : known.start ≡ length known.spots.lines
      → AreRelations s.count known.spots.tableau known.next (map numbers_of known.relations)

-- A bound on the turns that are left: one for each unknown that has not had its turn, for each spot
-- that may still come, and for the end, and as many turns anew as there may be spots more than at
-- the start.
abbrev pub turns_left : ℕ → KnownRelations → ℕ
turns_left count known =
    (count - known.next) + (count - length
    known.spots.lines) + 1 + (count - known.start) * (count + 1)

-- ---- what a search comes to

-- a point at which an objective is not 0: this one, or where it is 0 here, one further along a ray
pub record IsFurther (cs : List (List Col)) (p : Polynomial)
    (point ray at : List Fraction) : Type 0 where
  pub value : Fraction
  pub is : ratio_value (ratio_at cs point) p ≡ Ok value
  pub way : ((at ≡ point) × (value.num ≡ pos 0 → ⊥))
      ⊎ ((sums_of point ray ≡ Ok at) × (value.num ≡ pos 0))

-- a point of a case at which the difference of a relation is not 0
pub record IsApartIn (s : StrataQuestion) (numbers : List ℤ) (case : Change)
    (at : List Fraction) : Type 0 where
  pub point : IsPointOf s.columns.now case.rows at
  pub apart : IsApart s.columns.now case.terms s.lower.now (length numbers) numbers at

-- such a point of the case at a place
pub record IsApartAt (s : StrataQuestion) (numbers : List ℤ) (place : ℕ) (at : List Fraction) : Type 0 where
  pub case : Change
  pub is : slice_get s.cases.now place ≡ Some case
  pub point : IsApartIn s numbers case at

-- what a half of a difference comes to in a case: a certificate, a point at which the difference is
-- not 0, or no answer
abbrev pub HalfAt : StrataQuestion → List ℤ → Change → Bool → DifferenceHalf → Type 0
HalfAt s numbers case up (half.Tied cert) = IsHonestHalf s.columns.now s.lower.now numbers case up
    cert
HalfAt s numbers case up (half.Apart at) = IsApartIn s numbers case at
HalfAt s numbers case up half.Pivots = HasNoEnd s.columns.now s.budget case.rows

-- what both halves of a difference come to in a case: a tie, a point at which the difference is not
-- 0, or no answer
abbrev pub BondAt : StrataQuestion → List ℤ → Change → Bond → Type 0
BondAt s numbers case (bond.Tied tie) = IsHonestTie s.columns.now s.lower.now numbers case tie
BondAt s numbers case (bond.Apart at) = IsApartIn s numbers case at
BondAt s numbers case bond.Pivots = HasNoEnd s.columns.now s.budget case.rows

-- what a relation comes to in all cases: a tie of each, a point of one at which its difference is
-- not 0, or no answer of one
abbrev pub VerdictAt : StrataQuestion → List ℤ → RelationVerdict → Type 0
VerdictAt s numbers (verdict.Tied ties) = AreTies s.columns.now s.lower.now numbers s.cases.now
    (length s.cases.now) ties
VerdictAt s numbers (verdict.Apart place at) = IsApartAt s numbers place at
VerdictAt s numbers verdict.Pivots = HasEndlessCase s.columns.now s.budget s.cases.now

-- no part of the test of a relation is false
abbrev pub IsHonestRelation : List (List Col) → List Change → List Polynomial → Relation → Type 0
IsHonestRelation cs cases lower relation = (b : Bool) → tested_relation cs cases lower relation
    ≡ Ok b → b ≡ true

-- no part of the test of the unknowns that are no pivot is false
abbrev pub IsHonestFree : List (List Col) → List Change → List Polynomial → List Relation
    → List Spot → List (List Fraction) → Type 0
IsHonestFree cs cases lower relations spots free = (b : Bool)
    → tested_free (spot_side cs cases lower) spots
    (free_places (map numbers_of relations) (unknown_count cases lower)) free ≡ Ok b → b ≡ true

-- a basis of relations in reduced echelon form that are tied in each case, and spots that are
-- points of their cases
pub record IsBasisOver (cs : List (List Col)) (cases : List Change) (lower : List Polynomial)
    (relations : List Relation) (spots : List Spot) (free : List (List Fraction)) : Type 0 where
  pub counts : IsTrue (list_all (has_unknowns cases lower) relations)
  pub reduced : IsTrue (is_reduced (map numbers_of relations))
  pub tied : AllByRecursion (IsHonestRelation cs cases lower) relations
  pub points : AllByRecursion (IsSpotAt cs cases) spots
  pub free_too : IsHonestFree cs cases lower relations spots free

-- what is found: a basis, or a case without an answer
abbrev pub IsFoundOver : List (List Col) → ℕ → List Change → List Polynomial → Answer → Type 0
IsFoundOver cs budget cases lower (answer.Basis relations spots free) =
    IsBasisOver cs cases lower relations spots free
IsFoundOver cs budget cases lower (answer.Limit l) = (l ≡ limit.Pivots)
    × HasEndlessCase cs budget cases
IsFoundOver cs budget cases lower (answer.Yes by) = ⊥
IsFoundOver cs budget cases lower (answer.No point) = ⊥
IsFoundOver cs budget cases lower (answer.Bound at certs case point) = ⊥
IsFoundOver cs budget cases lower (answer.Unbounded case point ray) = ⊥

-- what is found of the question, a basis or a case without an answer
abbrev pub IsFoundIn : StrataQuestion → Answer → Type 0
IsFoundIn s a = IsFoundOver s.columns.now s.budget s.cases.now s.lower.now a

-- what a turn of the search comes to: more is known and fewer turns are left, or it ends with what
-- is found
abbrev pub CourseAt : StrataQuestion → KnownRelations → Course → Type 0
CourseAt s before (course.On known) = AreKnown s known
    × (turns_left s.count known < turns_left s.count before)
CourseAt s before (course.End a) = IsFoundIn s a

-- ---- what the answer owes

-- a case with more choices of a column for each of its rows and the difference of a relation
pub record HasCaseOfManyChoices (budget : ℕ) (asked : Changes) : Type 0 where
  pub place : ℕ
  pub case : Change
  pub is : slice_get asked.cases place ≡ Some case
  pub many : budget < choice_count (length (stratum_columns asked.cases asked.lower))
      (length case.rows + 1)

-- the turns are used up only where a case has more choices, or where the question is dead
abbrev pub PivotsOver : ℕ → Changes → Answer → Type 0
PivotsOver budget asked a = a ≡ answer.Limit limit.Pivots → IsDead (Stratum asked)
    ⊎ HasCaseOfManyChoices budget asked

-- the step is one of the search for relations, or of the test of what the search finds
pub data IsStratumStep (asked : Changes) (step : Step.Wide) : Type 0 where
  strata_search : IsSearchStep (stratum_columns asked.cases asked.lower) asked.cases asked.lower
      step → IsStratumStep asked step
  strata_test : (a : Answer)
      → IsFoundOver (stratum_columns asked.cases asked.lower) (2 ^ 127 - 1) asked.cases asked.lower
      a → outcome (Stratum asked) a ≡ Err step → IsStratumStep asked step

-- what the call for strata owes of its answer
pub record IsStratumAnswer (asked : Changes) (a : Answer) : Type 0 where
  pub passes : Passes (Stratum asked) a
  pub pivots : PivotsOver (2 ^ 127 - 1) asked a
  pub wide : IsCalm (Stratum asked) → IsWide a → ⊥
  pub calm : IsLiveAndCalm (Stratum asked) → IsLimit a → ⊥
  pub step : NamesStep (IsStratumStep asked) a
