-- The stated analysis of a text, under a rule.
use Rattle.std.specs.Prelude.{◌≡◌, ℕ, List, [], map}
use Rattle.farkas_check.specs.declared.answer.Answer.{Answer}
use Rattle.farkas_check.specs.declared.question.Question.{Question}
use Rattle.syntax_tree.specs.declared.program.Program.{Program}
use Rattle.posing.specs.Follows.{IsGood}
use Rattle.posing.specs.Posing.{Path, Posed, Posing, Done, run}
use Rattle.phases.specs.Rules.{IsPlainRule}
use Rattle.report.specs.declared.blocks.Report.{Report}
use Rattle.report.specs.Claims.{ClaimsAreMet, PointsMeetRows, ReportCovers}
use Rattle.analysis.specs.declared.places.TextPlace.{TextPlace}
use Rattle.analysis.specs.declared.planning.Planned.{Planned}
use Rattle.analysis.specs.Analysis.{report_by_plan}
use Rattle.analysis.specs.Plan.{IsPlan}
use Rattle.named_limits.specs.Named.{LimitsAreNamed}
use Rattle.summary_cache.specs.Accepted.{Accepts}
use Rattle.summary_cache.specs.Place.{column_at, line_at}
use Rattle.summary_cache.specs.Rules.{with_rule}

-- a byte of a text, with its line and column
abbrev pub text_place : List ℕ → ℕ → TextPlace
text_place text at = record { at = at; line = line_at text at; column = column_at text at }

-- where the assertions of its program stand in a text
abbrev pub places_of : List ℕ → Program → List TextPlace
places_of text program = map (text_place text) program.checks

-- The text spells a program, and this is the plan of the program.
pub record IsPlanned (rule : ℕ) (text : List ℕ) (program : Program)
    (plan : List Planned) : Type 0 where
  pub accepted : Accepts text program
  pub is_plan : IsPlan (with_rule rule program) plan

-- the analysis of the program of a text
abbrev pub analysis_of : ℕ → List ℕ → Program → List Planned → Posing Report
analysis_of rule text program plan = report_by_plan (with_rule rule program) (places_of text program) plan

-- The text is accepted, and the report is what the analysis of its program comes to under these
-- answers, each of which passes, is true and is one that may be given. It covers the program, its
-- claims are met, each point that it tells makes the rows of its case true, and under a rule with
-- neither phases nor facets it names the limits of the answers, part by part.
pub record IsAnalysedBy (allows : Question → Answer → Type 0) (rule : ℕ) (text : List ℕ)
    (answers : List Answer) (report : Report) : Type 0 where
  pub program : Program
  pub plan : List Planned
  pub planned : IsPlanned rule text program plan
  pub leads : Path (IsGood allows) (analysis_of rule text program plan) [] answers (Done report)
  pub met : ClaimsAreMet program report
  pub covers : ReportCovers program report
  pub points : PointsMeetRows report
  pub named : IsPlainRule rule → LimitsAreNamed (with_rule rule program) plan answers report

-- The text is accepted, and the analysis of its program comes to this under listed answers.
pub record IsPosed (rule : ℕ) (text : List ℕ) (program : Program) (answers : List Answer)
    (posed : Posed Report) : Type 0 where
  pub plan : List Planned
  pub planned : IsPlanned rule text program plan
  pub comes : run (analysis_of rule text program plan) answers ≡ posed
