use Rattle.context.proofs.GoodAnswers.{yes-known, no-known}
use Rattle.context.proofs.judging.verdict_by.Goals as goal

pub returns-in-Yes-clause-known : goal.returns-in-Yes-clause-known
returns-in-Yes-clause-known c = yes-known c.args.case c.args.answer c.in-Yes.field-0 c.requires c.in-Yes.is

pub returns-in-No-clause-known : goal.returns-in-No-clause-known
returns-in-No-clause-known c = no-known c.args.case c.args.answer c.in-No.point c.requires c.in-No.is
