use Rattle.context.proofs.SecondQuestions.{second-known}
use Rattle.context.proofs.judging.twofold_verdict.Goals as goal

pub returns-clause-known : goal.returns-clause-known
returns-clause-known g c = second-known c.args.case c.in_ok-verdict.verdict c.second_verdict.result c.in_ok-verdict.ensures.follows c.in_ok-verdict.ensures.known c.second_verdict.ensures
