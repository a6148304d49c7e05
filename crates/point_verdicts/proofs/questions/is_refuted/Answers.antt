use Rattle.std.proofs.Common.{refl}
use Rattle.posing.specs.Posing.{Done}
use Rattle.polyhedra.specs.Infeasibility.{is_yes}
use Rattle.posing.proofs.Steps.{at_end, error_first, in_other_words, value_first}
use Rattle.point_verdicts.proofs.AskedRows.{asked-of, none-asked}
use Rattle.point_verdicts.proofs.questions.is_refuted.Goals as goal

pub returns-then-is_empty : goal.returns-then-is_empty
returns-then-is_empty g c = in_other_words (none-asked c.args.rows (c.is_empty.ensures.0 c.if-is_empty.true)) (at_end refl)

pub returns-in_err-answer : goal.returns-in_err-answer
returns-in_err-answer g c =
    in_other_words (asked-of c.args.rows (λ none. let e = c.is_empty.ensures.1 none in let f = c.if-is_empty.false in cc)) (error_first (λ answer. Done (is_yes answer)) c.in_err-answer.ensures refl c.from_residual.ensures.1)

pub returns : goal.returns
returns g c =
    in_other_words (asked-of c.args.rows (λ none. let e = c.is_empty.ensures.1 none in let f = c.if-is_empty.false in cc)) (value_first (λ answer. Done (is_yes answer)) c.in_ok-answer.ensures refl (at_end c.is_yes.ensures))
