-- The laws: which bodies have an outcome of their hull that is no limit.
use Rattle.std.specs.Prelude.{◌≡◌, [], None, true}
use Rattle.farkas_check.specs.Calm.{IsCalm}
use Rattle.farkas_check.specs.declared.question.Question.TheVariants.{Stratum}
use Rattle.farkas_check.specs.declared.answer.Limit.{Limit as AnswerLimit}
use Rattle.transition_formula.specs.Transition.{Transition}
use Rattle.polyhedra.specs.Changes.{lost_changes}
use Rattle.facet_hull.specs.Facets.{facets_of, first_limit, hull_cases}
use Rattle.facet_hull.specs.declared.outcome.Facets.TheVariants.{Limit}
use Rattle.hull_limits.specs.Small.{IsSmallBody}

-- the outcome of a small body is no limit: it is its normals, or Beyond
abbrev pub SmallBodiesHaveNoLimit : Type 0
SmallBodiesHaveNoLimit = (body : Transition) (limit : AnswerLimit) → IsSmallBody body
    → facets_of body ≡ Limit limit → ⊥

-- nor is that of a body whose question is calm, where no change is noted to leave 128 bits
abbrev pub CalmBodiesHaveNoLimit : Type 0
CalmBodiesHaveNoLimit = (body : Transition) (limit : AnswerLimit)
    → IsCalm (Stratum record { cases = hull_cases body; lower = [] })
    → first_limit (lost_changes true body) ≡ None → facets_of body ≡ Limit limit → ⊥
