use Rattle.std.proofs.Common.{◌≡◌, ◌≢◌, List, [], ◌∷◌, refl}
use Rattle.linear_terms.specs.declared.row.Row.{Row}
use Rattle.farkas_check.specs.declared.question.Question.TheVariants.{Infeasible}
use Rattle.posing.specs.Posing.{Done, answer_to, ◌>>=◌}
use Rattle.polyhedra.specs.Infeasibility.{is_yes}
use Rattle.posing.proofs.Steps.{at_end, in_other_words, value_first}
use Rattle.phases.specs.Phases.{rows_exclude}
use Rattle.phases.proofs.halving.rows_exclude.Goals as goal

asked-rows : (rows : List Row) → rows ≢ [] → (answer_to (Infeasible rows) >>= λ answer. Done (is_yes answer)) ≡ rows_exclude rows
asked-rows [] some = absurd (some refl)
asked-rows (row ∷ rows) some = refl

pub returns : goal.returns
returns g c =
    in_other_words (asked-rows c.args.rows (λ none. let e = c.is_empty.ensures.1 none in let f = c.if-is_empty.false in cc))
    (value_first (λ answer. Done (is_yes answer)) c.in_ok-answer.ensures refl (at_end c.is_yes.ensures))
