use Rattle.std.proofs.Common.{ap}
use Rattle.posing.specs.Posing.{Done, answer_to}
use Rattle.posing.proofs.Steps.{at_end, in_other_words, value_first}
use Rattle.context.specs.Verdicts.{verdict_by}
use Rattle.context.proofs.GoodAnswers.{answered, asked-of, empty-known}
use Rattle.context.proofs.judging.verdict_at.Goals as goal

pub returns-then-is_empty-clause-known : goal.returns-then-is_empty-clause-known
returns-then-is_empty-clause-known g c = empty-known c.args.case c.new-point.result (c.is_empty.ensures.0 c.if-is_empty.true) c.new-point.ensures

pub verdict_by-requires : goal.verdict_by-requires
verdict_by-requires g c = answered c.args.case c.in_ok-question.ensures c.in_ok-answer.ensures

pub returns-clause-follows : goal.returns-clause-follows
returns-clause-follows g c =
    in_other_words (asked-of c.args.case c.args.case.rows (λ none. let e = c.is_empty.ensures.1 none in let f = c.if-is_empty.false in cc))
    (value_first (λ answer. Done (verdict_by c.args.case answer)) c.in_ok-answer.ensures (ap answer_to c.in_ok-question.ensures) (at_end c.verdict_by.ensures.exact))
