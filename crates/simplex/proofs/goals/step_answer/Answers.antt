use Rattle.std.proofs.Common.{sym, subst}
use Rattle.simplex.specs.Goals.{IsGoalsAnswer}
use Rattle.simplex.proofs.Cases.{wide_answer}
use Rattle.simplex.proofs.goals.step_answer.Goals as goal

pub returns : goal.returns
returns c = subst (λ a. IsGoalsAnswer c.args.goals.now a) (sym c.limit_of.ensures) (wide_answer c.args.goals.now c.args.step.now c.requires.canonical c.requires.step.0 c.requires.step.1 c.requires.step.2)
