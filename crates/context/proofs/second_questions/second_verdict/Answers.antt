use Rattle.std.proofs.Common.{◌≡◌, ◌≢◌, List, [], ◌∷◌, refl, sym, ap, ◌∙◌}
use Rattle.linear_terms.specs.declared.row.Row.{Row}
use Rattle.farkas_check.specs.declared.question.Question.TheVariants.{Infeasible}
use Rattle.posing.specs.Posing.{Done, answer_to, ◌>>=◌}
use Rattle.posing.proofs.Steps.{at_end, error_first, in_other_words, value_first}
use Rattle.polyhedra.specs.Infeasibility.{is_yes}
use Rattle.report.specs.declared.verdict.Verdict.{Verdict}
use Rattle.context.specs.SecondQuestions.{proved_if, second_verdict, verdict_after}
use Rattle.context.proofs.second_questions.second_verdict.Goals as goal

-- some rows are asked about
asked-after : (rows : List Row) (verdict : Verdict) → rows ≢ [] → (answer_to (Infeasible rows) >>= λ answer. Done (proved_if (is_yes answer) verdict)) ≡ verdict_after rows verdict
asked-after [] verdict some = absurd (some refl)
asked-after (row ∷ rows) verdict some = refl

pub returns-then-is_empty : goal.returns-then-is_empty
unfolding second_verdict
returns-then-is_empty g c =
    in_other_words (ap (λ rows. verdict_after rows c.args.verdict) (sym (c.is_empty.ensures.0 c.if-is_empty.true) ∙ c.in_ok-rows.ensures)) (at_end refl)

pub returns-in_err-answer : goal.returns-in_err-answer
unfolding second_verdict
returns-in_err-answer g c =
    in_other_words
    (asked-after c.in_ok-rows.rows c.args.verdict (λ none. let e = c.is_empty.ensures.1 none in let f = c.if-is_empty.false in cc) ∙ ap (λ rows. verdict_after rows c.args.verdict) c.in_ok-rows.ensures)
    (error_first (λ answer. Done (proved_if (is_yes answer) c.args.verdict)) c.in_err-answer.ensures refl c.from_residual-in_err-answer.ensures.1)

pub returns : goal.returns
unfolding second_verdict
returns g c =
    in_other_words
    (asked-after c.in_ok-rows.rows c.args.verdict (λ none. let e = c.is_empty.ensures.1 none in let f = c.if-is_empty.false in cc) ∙ ap (λ rows. verdict_after rows c.args.verdict) c.in_ok-rows.ensures)
    (value_first (λ answer. Done (proved_if (is_yes answer) c.args.verdict)) c.in_ok-answer.ensures refl (at_end c.verdict_with_products.ensures))
