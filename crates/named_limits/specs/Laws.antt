-- What holds of the limits that the stated analysis of a program names.
use Rattle.std.specs.Prelude.{◌≡◌, List, []}
use Rattle.farkas_check.specs.declared.answer.Answer.{Answer}
use Rattle.farkas_check.specs.declared.question.Question.{Question}
use Rattle.farkas_check.specs.Calm.{IsTame}
use Rattle.farkas_check.specs.Meaning.{IsLimit}
use Rattle.syntax_tree.specs.declared.program.Program.{Program}
use Rattle.posing.specs.Posing.{Posing, Done, Path}
use Rattle.phases.specs.Rules.{IsPlainRule}
use Rattle.report.specs.declared.blocks.Report.{Report}
use Rattle.report.specs.Claims.{ReportCovers}
use Rattle.analysis.specs.declared.places.TextPlace.{TextPlace}
use Rattle.analysis.specs.declared.planning.Planned.{Planned}
use Rattle.analysis.specs.Analysis.{report_by_plan}
use Rattle.analysis.specs.Plan.{IsPlan}
use Rattle.named_limits.specs.Leading.{LeadsTo, WasAsked}
use Rattle.named_limits.specs.Limits.{limits_given}
use Rattle.named_limits.specs.Named.{LimitsAreNamed}
use Rattle.named_limits.specs.Reported.{HasNoLimit}

-- where answers lead the analysis of a program, by its plan, to a report that covers it, and the
-- rule of the program has neither phases nor facets, the limits of the answers are named. Under a
-- rule with phases an answer that is a limit may only let a split fall, which nothing tells; under
-- one with facets a limit of a hull is told that no answer gave
abbrev pub AnalysisNamesLimits : Type 0
AnalysisNamesLimits =
    (program : Program) (places : List TextPlace) (plan : List Planned) (answers : List Answer)
    (report : Report) → IsPlainRule program.rule → IsPlan program plan
    → LeadsTo (report_by_plan program places plan) [] answers (Done report) → ReportCovers program report
    → LimitsAreNamed program plan answers report

-- where no answer is a limit, the report has none
abbrev pub LimitlessAnswersNameNone : Type 0
LimitlessAnswersNameNone =
    (program : Program) (plan : List Planned) (answers : List Answer) (report : Report)
    → LimitsAreNamed program plan answers report → limits_given answers ≡ [] → HasNoLimit report

-- an answer that is no limit where its question is tame
abbrev pub AnswersTame : Question → Answer → Type 0
AnswersTame question a = IsTame question → IsLimit a → ⊥

-- every question that the answers were given to is tame
abbrev pub AsksTame : Posing Report → List Answer → Type 0
AsksTame p answers = (question : Question) (a : Answer) → WasAsked p answers question a
    → IsTame question

-- where no tame question gets a limit, and every question posed is tame, the report has none
abbrev pub TameQuestionsNameNone : Type 0
TameQuestionsNameNone =
    (program : Program) (places : List TextPlace) (plan : List Planned) (answers : List Answer)
    (report : Report) → Path AnswersTame (report_by_plan program places plan) [] answers (Done report)
    → LimitsAreNamed program plan answers report → AsksTame (report_by_plan program places plan) answers
    → HasNoLimit report
