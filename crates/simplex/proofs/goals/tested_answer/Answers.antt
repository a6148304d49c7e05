use Rattle.std.proofs.Common.{rules, sym, subst}
use Rattle.simplex.specs.Goals.{IsGoalsAnswer}
use Rattle.simplex.proofs.Cases.{found_goals, untested_answer}
use Rattle.simplex.proofs.ShortTests.{short_goals}
use Rattle.simplex.proofs.goals.tested_answer.Goals as goal

pub returns-then-is_short_goals_answer : goal.returns-then-is_short_goals_answer
returns-then-is_short_goals_answer c = short_goals c.args.goals.now c.args.found c.requires.canonical (search rules) c.requires.found (c.is_short_goals_answer.ensures (search rules))

pub returns-in-Ok : goal.returns-in-Ok
returns-in-Ok c = found_goals c.args.goals.now c.args.found c.in-Ok._holds c.requires.canonical (search rules) c.requires.found (search rules)

pub returns-in-Err : goal.returns-in-Err
returns-in-Err c =
    subst (λ a. IsGoalsAnswer c.args.goals.now a) (sym c.limit_of.ensures) (untested_answer c.args.goals.now c.args.found c.in-Err.step c.requires.canonical c.requires.found (search rules))
