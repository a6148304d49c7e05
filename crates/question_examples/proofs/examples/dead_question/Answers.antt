use Rattle.std.proofs.Common.{pos, arith}
use Rattle.std.proofs.lemmas.Int.{ints}
use Rattle.question_examples.proofs.examples.dead_question.Goals as goal

pub returns-clause-point : goal.returns-clause-point
returns-clause-point c =
    record {
      point = record { numerator = λ m. pos 0; over = pos 1; positive = omega (arith, ints) };
      met = (omega (arith, ints), tt);
    }
