use Rattle.std.proofs.Common.{subst}
use Rattle.simplex.specs.Goals.{IsRefusalAmong}
use Rattle.simplex.proofs.goals.answer_of_goals.Goals as goal

pub step_answer-requires-clause-step : goal.step_answer-requires-clause-step
step_answer-requires-clause-step c = subst (IsRefusalAmong c.args.goals.now) c.in-Err-Wide.field-0-is c.in-Err-Wide.ensures.refusal
