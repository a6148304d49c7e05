use Rattle.std.proofs.Common.{ap}
use Rattle.farkas_check.specs.declared.question.Question.TheVariants.{Infeasible}
use Rattle.posing.specs.Posing.{Done, answer_to}
use Rattle.posing.proofs.Steps.{at_end, error_first, value_first}
use Rattle.polyhedra.specs.Infeasibility.{is_yes}
use Rattle.point_rounds.specs.Rounds.{row_refuted}
use Rattle.point_rounds.proofs.falling.row_refuted.Goals as goal

pub returns-clause-follows : goal.returns-clause-follows
unfolding row_refuted
returns-clause-follows g c =
    value_first (λ answer. Done (is_yes answer)) c.in_ok-answer.ensures.follows (ap (λ rows. answer_to (Infeasible rows)) c.in_ok-push.ensures.ok) (at_end c.is_yes.ensures)

pub returns-in_err-answer-clause-follows : goal.returns-in_err-answer-clause-follows
unfolding row_refuted
returns-in_err-answer-clause-follows g c =
    error_first (λ answer. Done (is_yes answer)) c.in_err-answer.ensures.follows (ap (λ rows. answer_to (Infeasible rows)) c.in_ok-push.ensures.ok) c.from_residual-in_err-answer.ensures.1
