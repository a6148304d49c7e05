-- What the call for all kinds of questions owes of its answer.
use Rattle.std.specs.Prelude.{ℕ}
use Rattle.whole_numbers.specs.declared.wide.Wide as Step
use Rattle.farkas_check.specs.declared.answer.Answer.{Answer}
use Rattle.farkas_check.specs.declared.question.Question.{Question}
use Rattle.farkas_check.specs.declared.question.Question.TheVariants.{Infeasible, Sup, Stratum}
use Rattle.simplex.specs.Answers.{PivotsOf, IsRowsStep}
use Rattle.simplex.specs.Goals.{PivotsAmong, IsGoalsStep}
use Rattle.simplex.specs.Strata.{PivotsOver, IsStratumStep}

-- the turns are used up only where a case has more choices, or where the question is dead
abbrev pub PivotsIn : ℕ → Question → Answer → Type 0
PivotsIn budget (Infeasible rows) a = PivotsOf budget rows a
PivotsIn budget (Sup goals) a = PivotsAmong budget goals a
PivotsIn budget (Stratum asked) a = PivotsOver budget asked a

-- the step is one of the search or of the test of what the search finds
abbrev pub IsStepOf : Question → Step.Wide → Type 0
IsStepOf (Infeasible rows) = IsRowsStep rows
IsStepOf (Sup goals) = IsGoalsStep goals
IsStepOf (Stratum asked) = IsStratumStep asked
