-- What is answered to `cra sample N`: the counts of a text that is made for it.
use Rattle.std.specs.Prelude.{◌≡◌, ℕ, List, ◌++◌, ◌==◌, length, Result, Ok, Err, codes, decimal, if◌then◌else◌}
use Rattle.std.specs.List.{flat_map, range_with_len}
use Rattle.farkas_check.specs.declared.answer.Answer.{Answer}
use Rattle.report.specs.declared.blocks.Report.{Report}
use Rattle.summary_cache.specs.declared.refusal.TextError.{TextError}
use Rattle.summary_cache.specs.declared.refusal.TextError.TheVariants as errors
use Rattle.summary_cache.specs.declared.working.Counts.{Counts}
use Rattle.summary_cache.specs.Accepted.{IsRefusedBy}
use Rattle.summary_cache.specs.Counted.{counts_of}
use Rattle.summary_cache.specs.Limits.{most_bytes}
use Rattle.commands.specs.declared.reply.Reply.{Reply}
use Rattle.commands.specs.declared.status.Status.TheVariants as ended
use Rattle.commands.specs.Stated.{IsAnalysed}
use Rattle.commands.specs.Within.{OrRefused, Within}

-- a procedure that counts up to its argument
abbrev pub procedure_text : ℕ → List ℕ
procedure_text number =
    codes "int p" ++ decimal number
    ++ codes "(int n) {\n  int i = 0;\n  while (i < n) i++;\n  assert(i >= n);\n  return i;\n}\n"

-- its call
abbrev pub call_text : ℕ → List ℕ
call_text number = codes "  p" ++ decimal number ++ codes "(" ++ decimal number ++ codes ");\n"

-- so many procedures, numbered from 1, and `main`, which calls them in order
abbrev pub sample_text : ℕ → List ℕ
sample_text count =
    flat_map procedure_text (range_with_len 1 count)
    ++ codes "int main(void) {\n"
    ++ flat_map call_text (range_with_len 1 count)
    ++ codes "}\n"

-- how many bytes and groups a text has, and how many of its assertions are proved and are not
abbrev pub counts_line : ℕ → ℕ → Counts → List ℕ
counts_line count bytes counts =
    codes "sample " ++ decimal count
    ++ codes ": " ++ decimal bytes ++ codes " bytes, "
    ++ decimal counts.groups ++ codes " groups, "
    ++ decimal counts.proved ++ codes " proved, "
    ++ decimal counts.unproved ++ codes " unproved\n"

-- the line of counts; the status tells whether all assertions are proved
abbrev pub counts_reply : ℕ → ℕ → Counts → Reply
counts_reply count bytes counts = record {
  status = if counts.unproved == 0 then ended.AllProved else ended.SomeUnproved;
  text = counts_line count bytes counts;
}

-- The text is accepted, and these are the counts of the groups of its program and of the verdicts
-- of its report.
pub record IsCounted (text : List ℕ) (counts : Counts) : Type 0 where
  pub answers : List Answer
  pub report : Report
  pub analysed : IsAnalysed text answers report
  pub counted : counts ≡ counts_of (length analysed.plan) (length analysed.plan) report

-- what counting comes to: the counts of a text that is accepted, or the reason of its refusal
abbrev pub IsCountsOf : List ℕ → Result Counts TextError → Type 0
IsCountsOf text (Ok counts) = IsCounted text counts
IsCountsOf text (Err (errors.Refused refusal)) = IsRefusedBy text refusal
IsCountsOf text (Err errors.Memory) = Unit {0}

-- the text is accepted, and this tells its counts
abbrev pub TellsCounts : ℕ → List ℕ → Reply → Type 0
TellsCounts count text reply = (counts : Counts) × IsCounted text counts
    × (reply ≡ counts_reply count (length text) counts)

-- a made text within the limit that is accepted is answered with its counts
abbrev pub IsReplyToSample : ℕ → Reply → Type 0
IsReplyToSample count reply = Within most_bytes (sample_text count)
    (OrRefused (sample_text count) (TellsCounts count (sample_text count))) reply
