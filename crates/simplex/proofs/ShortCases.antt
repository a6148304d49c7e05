-- Cases whose rows are known to be short.
use Rattle.std.proofs.Common.{◌≡◌, ℕ, List, [], Option, None, Some, sym, subst, length, pos}
use Rattle.std.specs.Prelude.{All, slice_get, take, ◌+◌, ◌<◌, get_or}
use Rattle.std.proofs.lemmas.List.Elements.{All-more}
use Rattle.std.proofs.lemmas.Option.{slice_get-get_or}
use Rattle.farkas_check.specs.declared.question.Goal.{Goal}
use Rattle.farkas_check.specs.declared.answer.Answer.TheVariants as answer
use Rattle.simplex.specs.Goals.{bound_answer, IsShortProgress, EndsAt}
use Rattle.simplex.specs.Shortness.{AreShortRows, HaveShortRows, IsShortPoly, IsShortGoal}
use Rattle.simplex.specs.declared.goals.Bounds.{Bounds}
use Rattle.simplex.specs.declared.goals.Progress.{Progress}
use Rattle.simplex.specs.declared.goals.Progress.TheVariants as progress
use Rattle.simplex.specs.declared.goals.Reach.{Reach}

-- short rows and a short objective are a short case
pub goals-short : (goals : List Goal) → All (λ (goal : Goal). AreShortRows goal.rows) goals → All (λ (goal : Goal). IsShortPoly goal.objective) goals → All IsShortGoal goals
goals-short goals rows objectives = λ k d l. record { rows = rows k d l; objective = objectives k d l }

-- an answer with a ray speaks of the case at whose place it ends
pub progress-short : (goals : List Goal) (place : ℕ) (p : Progress) → EndsAt place p → ((goal : Goal) → slice_get goals place ≡ Some goal → AreShortRows goal.rows) → IsShortProgress goals place p
progress-short goals place (progress.On bounds) e h = h
progress-short goals place (progress.End (answer.Unbounded case point ray)) e h = subst (λ (n : ℕ). (goal : Goal) → slice_get goals n ≡ Some goal → AreShortRows goal.rows) (sym e) h
progress-short goals place (progress.End (answer.Limit l)) e h = tt
progress-short goals place (progress.End (answer.Bound at certs case point)) e h = absurd e
progress-short goals place (progress.End (answer.Yes by)) e h = absurd e
progress-short goals place (progress.End (answer.No point)) e h = absurd e
progress-short goals place (progress.End (answer.Basis relations spots free)) e h = absurd e

-- one case more that is bounded
pub bounded-short : (goals : List Goal) (place : ℕ) (p : Progress) (bounds : Bounds) → p ≡ progress.On bounds → IsShortProgress goals place p → place < length goals → All (λ (goal : Goal). AreShortRows goal.rows) (take place goals) → All (λ (goal : Goal). AreShortRows goal.rows) (take (place + 1) goals)
bounded-short goals place p bounds is here lt all = All-more (λ (goal : Goal). AreShortRows goal.rows) goals place any lt all (subst (IsShortProgress goals place) is here (get_or goals place any) (slice_get-get_or goals place any lt))
  where
    any : Goal
    any = record { rows = []; objective = record { terms = []; rest = pos 0 } }

-- where all cases are bounded, the answer speaks of all of them
pub answer-short : (goals : List Goal) (bounds : Bounds) → All (λ (goal : Goal). AreShortRows goal.rows) goals → HaveShortRows goals (bound_answer bounds)
answer-short goals bounds all = of_reach bounds.reach
  where
    of_reach : (r : Option Reach) → HaveShortRows goals (bound_answer (record { certs = bounds.certs; reach = r }))
    of_reach None = tt
    of_reach (Some r) = all
