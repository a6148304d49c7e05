use Rattle.std.proofs.Common.{rules, sym, subst}
use Rattle.simplex.specs.Answers.{IsRowsAnswer}
use Rattle.simplex.proofs.Honest.{step_answer, found_answer}
use Rattle.simplex.proofs.ShortTests.{short_rows}
use Rattle.simplex.proofs.answering.checked_answer.Goals as goal

pub returns-then-is_short_rows_answer : goal.returns-then-is_short_rows_answer
returns-then-is_short_rows_answer c = short_rows c.args.rows.now c.args.found c.requires.canonical (search rules) c.requires.found (c.is_short_rows_answer.ensures (search rules))

pub returns-in-Ok : goal.returns-in-Ok
returns-in-Ok c = found_answer c.args.rows.now c.args.found c.in-Ok._holds c.requires.canonical (search rules) c.requires.found (search rules)

pub returns-in-Err : goal.returns-in-Err
returns-in-Err c =
    subst (λ a. IsRowsAnswer c.args.rows.now a) (sym c.limit_of.ensures) (step_answer c.args.rows.now c.args.found c.in-Err.step c.requires.canonical c.requires.found (search rules))
