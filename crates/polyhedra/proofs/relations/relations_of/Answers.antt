use Rattle.std.proofs.Common.{◌≡◌, List, refl, ap, length, ◌∙◌}
use Rattle.farkas_check.specs.Relations.{term_count}
use Rattle.farkas_check.specs.declared.question.Question.TheVariants.{Stratum}
use Rattle.farkas_check.specs.declared.stratum.Change.{Change}
use Rattle.linear_terms.specs.Polynomial.{Polynomial}
use Rattle.polyhedra.specs.Infeasibility.{noted_answer}
use Rattle.polyhedra.specs.Relations.{relations_of, relations_in}
use Rattle.posing.specs.Posing.{Done, ◌>>=◌}
use Rattle.posing.proofs.Following.{stops}
use Rattle.posing.proofs.Steps.{value_first, error_first, in_other_words, at_end}
use Rattle.polyhedra.proofs.relations.relations_of.Goals as goal

answer-first : (cases : List Change) (lower : List Polynomial) →
    (noted_answer (Stratum record { cases = cases; lower = lower }) >>= λ answer. Done (relations_in cases lower answer)) ≡ relations_of cases lower
unfolding relations_of noted_answer ◌>>=◌
answer-first cases lower = refl

pub returns-in_err-answer : goal.returns-in_err-answer
returns-in_err-answer g c =
    in_other_words (answer-first c.args.stratum.cases c.args.stratum.lower) (error_first _ c.in_err-answer.ensures refl c.from_residual.ensures.1)

pub returns-in_err-relations_in : goal.returns-in_err-relations_in
returns-in_err-relations_in g c =
    in_other_words (answer-first c.args.stratum.cases c.args.stratum.lower)
    (value_first _ c.in_ok-answer.ensures refl (stops _ _ _ _ _ _ refl c.from_residual-in_err-relations_in.ensures.1))

pub returns : goal.returns
returns g c =
    in_other_words (answer-first c.args.stratum.cases c.args.stratum.lower)
    (value_first _ c.in_ok-answer.ensures refl
    (at_end (c.in_ok-relations_in.ensures c.args.stratum.cases c.args.stratum.lower (c.term_count-terms.ensures ∙ ap term_count c.cases.ensures.cases) (ap length c.lower-lower.ensures))))
