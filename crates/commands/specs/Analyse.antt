-- What is answered to `cra analyse` and `cra facets`: the text of a report.
use Rattle.std.specs.Prelude.{◌≡◌, ℕ, ◌≤◌, ◌==◌, ◌-◌, List, length, Option, Some, if◌then◌else◌}
use Rattle.farkas_check.specs.declared.answer.Answer.{Answer}
use Rattle.syntax_tree.specs.declared.program.Program.{Program}
use Rattle.report.specs.declared.blocks.Report.{Report}
use Rattle.report.specs.Text.{proved_count, text_of}
use Rattle.summary_cache.specs.Accepted.{Accepts}
use Rattle.summary_cache.specs.Limits.{most_bytes}
use Rattle.commands.specs.declared.reply.Reply.{Reply}
use Rattle.commands.specs.declared.status.Status.TheVariants as ended
use Rattle.commands.specs.declared.words.Work.{Work}
use Rattle.commands.specs.declared.words.Work.TheVariants.{Analyse, Facets, Prove}
use Rattle.commands.specs.Stated.{IsAnalysedUnder}
use Rattle.commands.specs.Within.{OrRefused, Within}
use Rattle.commands.specs.Words.{work_of}

-- the text of a report; the status tells whether every assertion is proved
abbrev pub report_reply : Report → Reply
report_reply report = record {
  status = if length report.judged - proved_count report.judged == 0 then ended.AllProved
      else ended.SomeUnproved;
  text = text_of report;
}

-- the text is accepted, and this tells its report under a rule
abbrev pub TellsReport : ℕ → List ℕ → Reply → Type 0
TellsReport rule text reply = (report : Report) × (answers : List Answer)
    × IsAnalysedUnder rule text answers report × (reply ≡ report_reply report)

-- an accepted text within the limit is answered with the text of its report under a rule
abbrev pub IsReplyUnder : ℕ → List ℕ → Reply → Type 0
IsReplyUnder rule input reply =
    Within most_bytes input (OrRefused input (TellsReport rule input)) reply

-- its report under the second rule, which certificate files have too
abbrev pub IsReplyToAnalyse : List ℕ → Reply → Type 0
IsReplyToAnalyse = IsReplyUnder 2

-- its report under the rule of facets
abbrev pub IsReplyToFacets : List ℕ → Reply → Type 0
IsReplyToFacets = IsReplyUnder 3

-- The words ask for this work on all that the source has: a text within the limit that is accepted
-- (`Accepts` of `summary_cache`, `specs/Accepted`).
pub record IsToReport (work : Work) (words : List (List ℕ)) (left : Option (List ℕ)) : Type 0 where
  pub asked : work_of words ≡ Some work
  pub input : List ℕ
  pub whole : left ≡ Some input
  pub short : length input ≤ most_bytes
  pub program : Program
  pub accepted : Accepts input program

-- the words ask for the analysis of such a text
abbrev pub IsToAnalyse : List (List ℕ) → Option (List ℕ) → Type 0
IsToAnalyse words left = IsToReport Analyse words left

-- the words ask for what can be proved of it
abbrev pub IsToProve : List (List ℕ) → Option (List ℕ) → Type 0
IsToProve words left = IsToReport Prove words left

-- the words ask for its report along facets
abbrev pub IsToFacets : List (List ℕ) → Option (List ℕ) → Type 0
IsToFacets words left = IsToReport Facets words left
