-- Reports that name no limit.
use Rattle.std.specs.Prelude.{ℕ, List}
use Rattle.farkas_check.specs.declared.answer.Answer.{Answer}
use Rattle.report.specs.declared.blocks.Report.{Report}
use Rattle.named_limits.specs.Laws.{AsksTame}
use Rattle.named_limits.specs.Reported.{HasNoLimit}
use Rattle.summary_cache.specs.Stated.{analysis_of}
use Rattle.commands.specs.Stated.{IsAnalysed}

-- Where every question that the analysis of an accepted text posed is tame (`IsTame` of
-- `farkas_check`, `specs/Calm`), its report has no limit.
abbrev pub TameTextsHaveNoLimit : Type 0
TameTextsHaveNoLimit =
    (text : List ℕ) (answers : List Answer) (report : Report) (is : IsAnalysed text answers report)
    → AsksTame (analysis_of 2 text is.program is.plan) answers → HasNoLimit report
