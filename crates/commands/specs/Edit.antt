-- What is answered to `cra edit`: a line for each version of a text that is edited, and the report
-- of the last one.
use Rattle.std.specs.Prelude.{◌≡◌, ℕ, ◌+◌, ◌≤◌, Bool, List, [], ◌∷◌, ◌++◌, length, Option, None, Some, Result, Ok, codes, decimal}
use Rattle.std.specs.List.{last_or}
use Rattle.items.specs.Gives.{◌>>=◌}
use Rattle.syntax_tree.specs.declared.program.Program.{Program}
use Rattle.report.specs.declared.blocks.Report.{Report}
use Rattle.kept_groups.specs.Coming.{AreCome, count_made}
use Rattle.kept_groups.specs.Kept.{findings_by_kept}
use Rattle.finder.specs.Found.{IsFound}
use Rattle.wire.specs.declared.error.WireError.{WireError}
use Rattle.wire.specs.Edits.{texts_of}
use Rattle.wire.specs.Files.{script_of}
use Rattle.summary_cache.specs.declared.last.Last.{Last}
use Rattle.summary_cache.specs.declared.working.Counts.{Counts}
use Rattle.summary_cache.specs.Accepted.{Accepts, IsRefusedBy}
use Rattle.summary_cache.specs.Counted.{counts_of}
use Rattle.summary_cache.specs.Kept.{answers_for, groups_of, report_of}
use Rattle.summary_cache.specs.Rules.{with_rule}
use Rattle.summary_cache.specs.Stated.{IsPlanned}
use Rattle.commands.specs.declared.editing.Submission.{Submission}
use Rattle.commands.specs.declared.editing.Submission.TheVariants.{Accepted, Refused}
use Rattle.commands.specs.declared.reply.Reply.{Reply}
use Rattle.commands.specs.declared.status.Status.TheVariants as ended
use Rattle.commands.specs.declared.words.Work.TheVariants.{Edit}
use Rattle.commands.specs.Analyse.{report_reply}
use Rattle.commands.specs.Limits.{most_input}
use Rattle.commands.specs.Refused.{refusal_line, refusal_text}
use Rattle.commands.specs.Stated.{IsAnalysed}
use Rattle.commands.specs.Within.{OrWrong, Within}
use Rattle.commands.specs.Words.{work_of}

-- ---- the versions of a text

-- the text of a script and the text after each edit, or what is wrong with the script
abbrev pub versions_in : List ℕ → Result (List (List ℕ)) WireError
versions_in bytes = script_of bytes >>= texts_of

-- ---- what comes of them

-- The text is accepted, and this is kept of it: a part for each group of its plan, where a group
-- takes over the part of an alike one of the text before, and each other group was summed up under
-- answers of the finder. The report is what the analysis comes to under the answers of all parts
-- and those behind them, each of which is one that the finder gives. Its work is the number of the
-- groups that are not taken over.
pub record IsAnalysedAfter (before : Option Last) (text : List ℕ) (last : Last)
    (counts : Counts) : Type 0 where
  pub program : Program
  pub planned : IsPlanned 2 text program last.groups.plan
  pub is : last.groups.program ≡ with_rule 2 program
  pub marks : List Bool
  pub come : AreCome IsFound (groups_of before) last.groups.program
      (findings_by_kept (length program.procs) [] []) last.groups.plan last.groups.parts marks
  pub analysed : IsAnalysed text (answers_for last) last.report
  pub counted : counts ≡ counts_of (count_made marks) (length last.groups.plan) last.report

-- something is kept, and it is what the analysis of the text came to after the text before
abbrev pub KeepsAfter : Option Last → List ℕ → Counts → Option Last → Type 0
KeepsAfter before text counts None = ⊥
KeepsAfter before text counts (Some last) = IsAnalysedAfter before text last counts

-- what comes of a text, by what is kept of the text before that was accepted last, and what is kept
-- then; a text that is refused leaves it as it was
abbrev pub IsSubmission : Option Last → List ℕ → Submission → Option Last → Type 0
IsSubmission before text (Accepted counts) after = KeepsAfter before text counts after
IsSubmission before text (Refused refusal) after = IsRefusedBy text refusal × (after ≡ before)

-- what comes of texts one after the other, and what is kept after the last of them
abbrev pub AreSubmissions : Option Last → List (List ℕ) → List Submission → Option Last → Type 0
AreSubmissions before [] [] after = after ≡ before
AreSubmissions before (text ∷ texts) (made ∷ more) after = (next : Option Last)
    × IsSubmission before text made next × AreSubmissions next texts more after
AreSubmissions before _ _ after = ⊥

-- ---- the reply

-- the line of a version with its number
abbrev pub version_line : ℕ → List ℕ → Submission → List ℕ
version_line number text (Accepted counts) =
    codes "version " ++ decimal number
    ++ codes " work " ++ decimal counts.work
    ++ codes " of " ++ decimal counts.groups
    ++ codes " proved " ++ decimal counts.proved
    ++ codes " unproved " ++ decimal counts.unproved ++ codes "\n"
version_line number text (Refused refusal) =
    codes "version " ++ decimal number ++ codes " " ++ refusal_text text (refusal_line refusal)

-- the lines of versions, the first of which has this number
abbrev pub version_lines : ℕ → List (List ℕ) → List Submission → List ℕ
version_lines number (text ∷ texts) (made ∷ more) =
    version_line number text made ++ version_lines (number + 1) texts more
version_lines number _ _ = []

-- lines, and the report of the last text behind them
abbrev pub report_behind : List ℕ → Report → Reply
report_behind lines report = record {
  status = (report_reply report).status;
  text = lines ++ (report_reply report).text;
}

-- the lines alone, where the last text is refused
abbrev pub lines_reply : List ℕ → Reply
lines_reply lines = record { status = ended.Refused; text = lines }

-- by what comes of the last text: where it is accepted, its report is what is kept
abbrev pub versions_reply : List ℕ → Option Submission → Option Report → Reply
versions_reply lines (Some (Accepted counts)) (Some report) = report_behind lines report
versions_reply lines (Some (Accepted counts)) None = lines_reply lines
versions_reply lines (Some (Refused refusal)) report = lines_reply lines
versions_reply lines None report = lines_reply lines

-- what came of the texts, one after the other in one session, is told so
pub record TellsVersions (texts : List (List ℕ)) (reply : Reply) : Type 0 where
  pub made : List Submission
  pub after : Option Last
  pub are : AreSubmissions None texts made after
  pub is : reply ≡ versions_reply (version_lines 0 texts made) (last_or None made) (report_of after)

-- a script within the limit is answered with what came of its texts
abbrev pub IsReplyToEdit : List ℕ → Reply → Type 0
IsReplyToEdit input reply =
    Within most_input input (OrWrong (versions_in input) TellsVersions) reply

-- The words ask for the versions of all that the source has: a script within the limit whose edits
-- can be made, and whose last text is accepted.
pub record IsToEdit (words : List (List ℕ)) (left : Option (List ℕ)) : Type 0 where
  pub asked : work_of words ≡ Some Edit
  pub input : List ℕ
  pub whole : left ≡ Some input
  pub short : length input ≤ most_input
  pub texts : List (List ℕ)
  pub shaped : versions_in input ≡ Ok texts
  pub last : List ℕ
  pub is_last : last_or None texts ≡ Some last
  pub program : Program
  pub accepted : Accepts last program
