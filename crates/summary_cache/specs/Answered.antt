-- How far the answers that an oracle had next led a stated analysis.
use Rattle.std.specs.Prelude.{◌≡◌, List, []}
use Rattle.farkas_check.specs.declared.answer.Answer.{Answer}
use Rattle.farkas_check.specs.declared.question.Question.{Question}
use Rattle.farkas_check.specs.Asking.{Asking}
use Rattle.whole_numbers.specs.Counters.{Rose}
use Rattle.posing.specs.Follows.{IsGood, with_all}
use Rattle.posing.specs.Posing.{Path, Posing, Asked}
use Rattle.report.specs.declared.blocks.Report.{Report}

-- The answers that the oracle had next lead the analysis to a question that the oracle declines.
pub record IsDeclined {S : Type 0} (O : Asking S) (old new : S)
    (analysis : Posing Report) : Type 0 where
  pub answers : List Answer
  pub question : Question
  pub next : Answer → Posing Report
  pub stated : Path (IsGood O.allows) analysis [] answers (Asked question next)
  pub taken : O.left old ≡ with_all answers (O.left new)
  pub declined : O.declines new question
  pub rose : Rose (O.refusals old) (O.refusals new)
