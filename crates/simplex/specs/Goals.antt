-- What the cases of a question Sup come to, one after another, and what the answer owes.
use Rattle.std.specs.Prelude.{◌≡◌, ◌⊎◌, ℕ, ◌+◌, ◌-◌, ◌^◌, ◌<◌, ℤ, ◌≤ℤ◌, List, [], ◌∷◌, ◌++◌, length, slice_get, Option, None, Some, Err, int_lt, if◌then◌else◌, ⊤}
use Rattle.std.specs.Int.{int_div_euclid}
use Rattle.farkas_check.specs.Calm.{IsCalm, IsLiveAndCalm}
use Rattle.farkas_check.specs.Meaning.{IsLimit}
use Rattle.farkas_check.specs.Frames.{choice_count}
use Rattle.farkas_check.specs.Ratios.{Fraction}
use Rattle.farkas_check.specs.Sizes.{IsDead}
use Rattle.whole_numbers.specs.declared.wide.Wide as Step
use Rattle.farkas_check.specs.Tested.{goal_columns, outcome, Passes}
use Rattle.farkas_check.specs.declared.answer.Answer.{Answer}
use Rattle.farkas_check.specs.declared.answer.Answer.TheVariants as answer
use Rattle.farkas_check.specs.declared.answer.Cert.{Cert}
use Rattle.farkas_check.specs.declared.answer.Limit.TheVariants as limit
use Rattle.farkas_check.specs.declared.question.Goal.{Goal}
use Rattle.farkas_check.specs.declared.question.Question.TheVariants.{Sup}
use Rattle.simplex.specs.Answers.{IsWide, NamesStep}
use Rattle.simplex.specs.Refusal.{LeavesBits}
use Rattle.simplex.specs.Shortness.{AreShortRows, HaveShortRows}
use Rattle.simplex.specs.SearchSteps.{IsFrameStep, far_step}
use Rattle.simplex.specs.Suprema.{own_frame, IsSupremumOf}
use Rattle.simplex.specs.declared.goals.Bounds.{Bounds}
use Rattle.simplex.specs.declared.goals.Progress.{Progress}
use Rattle.simplex.specs.declared.goals.Progress.TheVariants as progress
use Rattle.simplex.specs.declared.goals.Reach.{Reach}
use Rattle.simplex.specs.declared.stop.SearchStop.{SearchStop}
use Rattle.simplex.specs.declared.stop.SearchStop.TheVariants.{Wide, Memory}
use Rattle.simplex.specs.declared.supremum.Supremum.{Supremum}
use Rattle.simplex.specs.declared.supremum.Supremum.TheVariants as supremum

-- ---- bounds

-- the bound of a certificate, its sum over its scale, rounded down
abbrev pub whole_bound : Cert → ℤ
whole_bound cert = int_div_euclid cert.sum cert.scale

-- the higher reach, and the first of equal ones
abbrev pub higher : Option Reach → Reach → Reach
higher None next = next
higher (Some reach) next = if int_lt reach.at next.at then next else reach

-- one more case that is bounded, with the corner that reaches its bound
abbrev pub with_bound : Bounds → ℕ → Cert → List Fraction → Bounds
with_bound bounds case cert point =
    record {
      certs = bounds.certs ++ cert ∷ [];
      reach = Some (higher bounds.reach (record {
        at = whole_bound cert;
        case = case;
        point = point;
      }));
    }

-- each certificate is that of the case at its place
abbrev pub AreBounds : ℕ → List Goal → List Cert → Type 0
AreBounds budget goals certs = (l : ℕ) (goal : Goal) (cert : Cert) → slice_get goals l ≡ Some goal
    → slice_get certs l ≡ Some cert
    → (point : List Fraction) × IsSupremumOf goal budget (supremum.Bound cert point)

-- the greatest of the bounds, the case that has it, and the corner there
pub record IsReachOf (budget : ℕ) (goals : List Goal) (certs : List Cert) (at : ℤ) (case : ℕ)
    (point : List Fraction) : Type 0 where
  pub goal : Goal
  pub is : slice_get goals case ≡ Some goal
  pub cert : Cert
  pub has : slice_get certs case ≡ Some cert
  pub bound : IsSupremumOf goal budget (supremum.Bound cert point)
  pub here : at ≡ whole_bound cert
  pub greatest : (l : ℕ) (other : Cert) → slice_get certs l ≡ Some other → whole_bound other ≤ℤ at

-- the reach is the greatest of the bounds, with its case and its corner; None where there are no
-- bounds
abbrev pub ReachAt : ℕ → List Goal → List Cert → Option Reach → Type 0
ReachAt budget goals certs None = certs ≡ []
ReachAt budget goals certs (Some r) = IsReachOf budget goals certs r.at r.case r.point

-- the first so many cases are bounded
pub record AreBoundsTo (budget : ℕ) (goals : List Goal) (place : ℕ) (bounds : Bounds) : Type 0 where
  pub each : length bounds.certs ≡ place
  pub are : AreBounds budget goals bounds.certs
  pub reach : ReachAt budget goals bounds.certs bounds.reach

-- ---- what is found

-- what the case at a place comes to
pub record IsSupremumAt (budget : ℕ) (goals : List Goal) (place : ℕ)
    (found : Supremum) : Type 0 where
  pub goal : Goal
  pub is : slice_get goals place ≡ Some goal
  pub supremum : IsSupremumOf goal budget found

-- a case that no point makes true, or at which the turns are used up
pub record HasNoBound (budget : ℕ) (goals : List Goal) : Type 0 where
  pub place : ℕ
  pub goal : Goal
  pub is : slice_get goals place ≡ Some goal
  pub why : IsSupremumOf goal budget supremum.Empty ⊎ IsSupremumOf goal budget supremum.Pivots

-- what an answer stands on: a bound of each case, or a ray of one, or a case that has neither
abbrev pub IsFoundAmong : ℕ → List Goal → Answer → Type 0
IsFoundAmong budget goals (answer.Bound at certs case point) =
    (length certs ≡ length goals) × AreBounds budget goals certs
    × IsReachOf budget goals certs at case point
IsFoundAmong budget goals (answer.Unbounded case point ray) =
    (goal : Goal)
    × ((slice_get goals case ≡ Some goal)
    × IsSupremumOf goal budget (supremum.Unbounded point ray))
IsFoundAmong budget goals (answer.Limit l) = (l ≡ limit.Pivots)
    × ((goals ≡ []) ⊎ HasNoBound budget goals)
IsFoundAmong budget goals (answer.Yes by) = ⊥
IsFoundAmong budget goals (answer.No point) = ⊥
IsFoundAmong budget goals (answer.Basis relations spots free) = ⊥

-- what a case adds
abbrev pub ProgressAt : ℕ → List Goal → ℕ → Progress → Type 0
ProgressAt budget goals place (progress.On bounds) = AreBoundsTo budget goals (place + 1) bounds
ProgressAt budget goals place (progress.End a) = IsFoundAmong budget goals a

-- the case at a place has short rows where it is bounded, and else those of the answer are short
abbrev pub IsShortProgress : List Goal → ℕ → Progress → Type 0
IsShortProgress goals place (progress.On bounds) = (goal : Goal)
    → slice_get goals place ≡ Some goal → AreShortRows goal.rows
IsShortProgress goals place (progress.End a) = HaveShortRows goals a

-- an answer with a ray is of the case at a place
abbrev pub EndsAt : ℕ → Progress → Type 0
EndsAt place (progress.On bounds) = ⊤
EndsAt place (progress.End (answer.Unbounded case point ray)) = case ≡ place
EndsAt place (progress.End (answer.Limit l)) = ⊤
EndsAt place (progress.End (answer.Bound at certs case point)) = ⊥
EndsAt place (progress.End (answer.Yes by)) = ⊥
EndsAt place (progress.End (answer.No point)) = ⊥
EndsAt place (progress.End (answer.Basis relations spots free)) = ⊥

-- the answer where all cases are bounded
abbrev pub bound_answer : Bounds → Answer
bound_answer bounds = of_reach bounds.reach
  where
    of_reach : Option Reach → Answer
    of_reach None = answer.Limit limit.Pivots
    of_reach (Some r) = answer.Bound r.at bounds.certs r.case r.point

-- The step is one of the search over the frame of a case, the number of a case past 2 ^ 32, or a
-- step of the test of what the search finds.
pub data IsGoalsStep (goals : List Goal) (step : Step.Wide) : Type 0 where
  goals_search : (place : ℕ) (goal : Goal) → slice_get goals place ≡ Some goal
      → IsFrameStep (own_frame goal.rows goal.objective) (length goal.rows + 1) step
      → IsGoalsStep goals step
  goals_number : 2 ^ 32 < length goals → step ≡ far_step → IsGoalsStep goals step
  goals_test : (a : Answer) → IsFoundAmong (2 ^ 127 - 1) goals a
      → outcome (Sup goals) a ≡ Err step → IsGoalsStep goals step

-- a step of the question that leaves 128 bits, where the question is not calm
abbrev pub IsRefusalAmong : List Goal → SearchStop → Type 0
IsRefusalAmong goals (Wide step) = LeavesBits step × (IsCalm (Sup goals) → ⊥)
    × IsGoalsStep goals step
IsRefusalAmong goals Memory = ⊤

-- ---- what the answer owes

-- a case with more choices of a column for each of its rows and its objective
pub record HasManyChoices (budget : ℕ) (goals : List Goal) : Type 0 where
  pub place : ℕ
  pub goal : Goal
  pub is : slice_get goals place ≡ Some goal
  pub many : budget < choice_count (length (goal_columns goal)) (length goal.rows + 1)

-- the turns are used up only where a case has more choices, or where the question is dead
abbrev pub PivotsAmong : ℕ → List Goal → Answer → Type 0
PivotsAmong budget goals a = a ≡ answer.Limit limit.Pivots → IsDead (Sup goals)
    ⊎ HasManyChoices budget goals

-- what the call for goals owes of its answer
pub record IsGoalsAnswer (goals : List Goal) (a : Answer) : Type 0 where
  pub passes : Passes (Sup goals) a
  pub pivots : PivotsAmong (2 ^ 127 - 1) goals a
  pub wide : IsCalm (Sup goals) → IsWide a → ⊥
  pub calm : IsLiveAndCalm (Sup goals) → IsLimit a → ⊥
  pub step : NamesStep (IsGoalsStep goals) a
