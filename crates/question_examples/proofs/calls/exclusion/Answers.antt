use Rattle.std.proofs.Common.{rules, ap}
use Rattle.question_examples.specs.Calls.{exclusion}
use Rattle.posing.specs.Posing.{answer_to}
use Rattle.posing.proofs.Following.{following}
use Rattle.question_examples.proofs.calls.exclusion.Goals as goal

pub returns-in_err-answer : goal.returns-in_err-answer
unfolding exclusion
returns-in_err-answer g c = search (rules, following, ap answer_to c.in_ok-question.ensures)

pub returns-in_err-limits_of : goal.returns-in_err-limits_of
unfolding exclusion
returns-in_err-limits_of g c = search (rules, following, ap answer_to c.in_ok-question.ensures, c.in_ok-answer.ensures)

pub returns-in_err-add_notes : goal.returns-in_err-add_notes
unfolding exclusion
returns-in_err-add_notes g c = search (rules, following, ap answer_to c.in_ok-question.ensures, c.in_ok-answer.ensures, c.in_err-add_notes.ensures)

pub returns : goal.returns
unfolding exclusion
returns g c = search (rules, following, ap answer_to c.in_ok-question.ensures, c.in_ok-answer.ensures, c.in_ok-limits_of.ensures, c.in_ok-add_notes.ensures)
