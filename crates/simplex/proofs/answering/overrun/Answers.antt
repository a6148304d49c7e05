use Rattle.std.proofs.Common.{sym, subst}
use Rattle.simplex.specs.Answers.{IsRowsAnswer}
use Rattle.simplex.proofs.Honest.{overrun_answer}
use Rattle.simplex.proofs.answering.overrun.Goals as goal

pub returns : goal.returns
returns c = subst (λ a. IsRowsAnswer c.args.rows.now a) (sym c.limit_of.ensures) (overrun_answer c.args.rows.now c.args.step.now c.requires.canonical c.requires.step)
