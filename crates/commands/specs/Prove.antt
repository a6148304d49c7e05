-- What is answered to `cra prove`: the text of a report with the rows that hold at points.
use Rattle.std.specs.Prelude.{◌≡◌, ℕ, ◌==◌, ◌-◌, List, [], length, Option, Result, Ok, Err, if◌then◌else◌}
use Rattle.std.specs.Io.KnownBytes.{Appends}
use Rattle.farkas_check.specs.declared.answer.Answer.{Answer}
use Rattle.farkas_check.specs.declared.question.Question.{Question}
use Rattle.syntax_tree.specs.declared.program.Program.{Program}
use Rattle.posing.specs.Follows.{IsGood}
use Rattle.posing.specs.Posing.{Path, Done}
use Rattle.finder.specs.Found.{IsFound}
use Rattle.report.specs.Claims.{PointsMeetRows, ReportCovers}
use Rattle.report.specs.Points.{text_with_points}
use Rattle.report.specs.Text.{proved_count}
use Rattle.analysis.specs.declared.planning.Planned.{Planned}
use Rattle.point_search.specs.declared.found.FoundTable.{FoundTable}
use Rattle.point_reports.specs.declared.whole.PointReport.{PointReport}
use Rattle.point_reports.specs.Claims.{AreAllMet}
use Rattle.point_reports.specs.Proof.{proof_by_plan}
use Rattle.summary_cache.specs.declared.refusal.TextError.{TextError}
use Rattle.summary_cache.specs.declared.refusal.TextError.TheVariants.{Refused, Memory}
use Rattle.summary_cache.specs.Accepted.{IsRefusedBy}
use Rattle.summary_cache.specs.Limits.{most_bytes}
use Rattle.summary_cache.specs.Rules.{with_rule}
use Rattle.summary_cache.specs.Stated.{IsPlanned, places_of}
use Rattle.commands.specs.declared.reply.Reply.{Reply}
use Rattle.commands.specs.declared.status.Status.TheVariants as ended
use Rattle.commands.specs.Within.{OrRefused, Within}

-- The text is accepted, and the report is what the analysis with points of its program comes to,
-- under the rule of phases, by some table of rows that is found and under these answers, each of
-- which passes, is true and is one that may be given. It covers the program, its claims are met,
-- those of the rows at points with them, and each point that it tells makes the rows of its case
-- true.
pub record IsProvedBy (allows : Question → Answer → Type 0) (text : List ℕ)
    (answers : List Answer) (made : PointReport) : Type 0 where
  pub program : Program
  pub plan : List Planned
  pub planned : IsPlanned 4 text program plan
  pub found : FoundTable
  pub leads : Path (IsGood allows)
      (proof_by_plan (with_rule 4 program) (places_of text program) plan found) [] answers
      (Done made)
  pub met : AreAllMet program made
  pub covers : ReportCovers program made.report
  pub points : PointsMeetRows made.report

-- the same under some answers that the finder gives
abbrev pub IsProved : List ℕ → PointReport → Type 0
IsProved text made = (answers : List Answer) × IsProvedBy IsFound text answers made

-- what comes of a text that is to be proved: its report, or the reason of its refusal
abbrev pub IsProofOf : List ℕ → Result PointReport TextError → Type 0
IsProofOf text (Ok made) = IsProved text made
IsProofOf text (Err (Refused refusal)) = IsRefusedBy text refusal
IsProofOf text (Err Memory) = Unit {0}

-- the text of a report with points; the status tells whether every assertion is proved
abbrev pub proof_reply : PointReport → Reply
proof_reply made = record {
  status = if length made.report.judged - proved_count made.report.judged == 0
      then ended.AllProved else ended.SomeUnproved;
  text = text_with_points made.report made.points;
}

-- the text is accepted, and this tells its report with points
abbrev pub TellsProof : List ℕ → Reply → Type 0
TellsProof text reply = (made : PointReport) × IsProved text made × (reply ≡ proof_reply made)

-- an accepted text within the limit is answered with the text of its report with points
abbrev pub IsReplyToProve : List ℕ → Reply → Type 0
IsReplyToProve input reply = Within most_bytes input (OrRefused input (TellsProof input)) reply

-- The text is that of a report with points that covers the program, whose claims are met, those of
-- the rows at points with them, and each point of which makes the rows of its case true.
pub record IsTrueProof (program : Program) (text : List ℕ) : Type 0 where
  pub made : PointReport
  pub told : text ≡ text_with_points made.report made.points
  pub covers : ReportCovers program made.report
  pub met : AreAllMet program made
  pub points : PointsMeetRows made.report

-- what was written is such a text
abbrev pub TellsTrueProof : Program → Option (List ℕ) → Option (List ℕ) → Type 0
TellsTrueProof program before now = (text : List ℕ) × IsTrueProof program text
    × Appends before now text
