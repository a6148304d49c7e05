-- What the versions of an edited text say of executions: of the program of the last one, where that is
-- accepted.
use Rattle.std.proofs.Common.{◌≡◌, ◌≤◌, ◌⊎◌, inl, inr, ℕ, List, [], ◌∷◌, length, Option, None, Some, Ok, refl, sym, ap, subst, ◌∙◌, arith}
use Rattle.std.specs.Prelude.{◌-◌}
use Rattle.std.specs.List.{last_or}
use Rattle.farkas_check.specs.declared.answer.Answer.{Answer}
use Rattle.syntax_tree.specs.declared.program.Program.{Program}
use Rattle.report.specs.declared.blocks.Report.{Report}
use Rattle.report.specs.Text.{proved_count, text_of}
use Rattle.summary_cache.specs.declared.last.Last.{Last}
use Rattle.summary_cache.specs.declared.working.Counts.{Counts}
use Rattle.summary_cache.specs.Accepted.{Accepts}
use Rattle.summary_cache.specs.Kept.{report_of}
use Rattle.summary_cache.proofs.Complete.{accepted-once, not-refused}
use Rattle.commands.specs.declared.editing.Submission.{Submission}
use Rattle.commands.specs.declared.editing.Submission.TheVariants as submission
use Rattle.commands.specs.declared.reply.Reply.{Reply}
use Rattle.commands.specs.declared.status.Status.TheVariants.{AllProved, SomeUnproved}
use Rattle.commands.specs.Edit.{AreSubmissions, IsReplyToEdit, IsSubmission, IsToEdit, KeepsAfter, TellsVersions, report_behind, version_lines, versions_in, versions_reply}
use Rattle.commands.specs.Input.{IsInput}
use Rattle.commands.specs.Limits.{most_input}
use Rattle.commands.specs.Replies.{IsReply, IsReplyToRead, IsReplyToWork}
use Rattle.commands.specs.Sentences.{IsTrueText, NoAssertionFails}
use Rattle.commands.specs.Stated.{IsAnalysed}
use Rattle.commands.specs.Within.{OrWrong}
use Rattle.commands.proofs.Complete.{whole-input, zero-or-one}
use Rattle.commands.proofs.Sentences.{none-fails, true-report, zero-of}

-- ---- the last text

-- what comes of the last of some texts
record AreLast (text : Option (List ℕ)) (made : Option Submission) (after : Option Last) : Type 0 where
  pub held : Option Last
  pub one : List ℕ
  pub is_text : text ≡ Some one
  pub its : Submission
  pub is_made : made ≡ Some its
  pub is : IsSubmission held one its after

last-from : (held between after : Option Last) (text : List ℕ) (one : Submission) (texts : List (List ℕ)) (made : List Submission) → IsSubmission held text one between
    → AreSubmissions between texts made after → AreLast (last_or (Some text) texts) (last_or (Some one) made) after
last-from held between after text one [] [] is are =
    record { held = held; one = text; is_text = refl; its = one; is_made = refl; is = subst (IsSubmission held text one) (sym are) is }
last-from held between after text one [] (next ∷ made) is are = absurd are
last-from held between after text one (more ∷ texts) [] is are = absurd are
last-from held between after text one (more ∷ texts) (next ∷ made) is are = last-from between are.0 after more next texts made are.1 are.2

last-of : (texts : List (List ℕ)) (made : List Submission) (after : Option Last) (text : List ℕ) → last_or None texts ≡ Some text → AreSubmissions None texts made after
    → AreLast (last_or None texts) (last_or None made) after
last-of [] made after text is are = absurd (cc is)
last-of (first ∷ texts) [] after text is are = absurd are
last-of (first ∷ texts) (one ∷ made) after text is are = last-from None are.0 after first one texts made are.1 are.2

-- ---- a reply that ends with the report of a text

record EndsWithReport (text : List ℕ) (reply : Reply) : Type 0 where
  pub lines : List ℕ
  pub answers : List Answer
  pub report : Report
  pub analysed : IsAnalysed text answers report
  pub is : reply ≡ report_behind lines report

kept-ends : (held : Option Last) (text lines : List ℕ) (counts : Counts) (kept : Option Last) (reply : Reply) → KeepsAfter held text counts kept
    → reply ≡ versions_reply lines (Some (submission.Accepted counts)) (report_of kept) → EndsWithReport text reply
kept-ends held text lines counts None reply h is = absurd h
kept-ends held text lines counts (Some last) reply h is =
    record { lines = lines; answers = _; report = last.report; analysed = h.analysed; is = is }

accepted-ends : (program : Program) (held : Option Last) (text lines : List ℕ) (its : Submission) (after : Option Last) (reply : Reply) → Accepts text program
    → IsSubmission held text its after → reply ≡ versions_reply lines (Some its) (report_of after) → EndsWithReport text reply
accepted-ends program held text lines (submission.Accepted counts) after reply a is told = kept-ends held text lines counts after reply is told
accepted-ends program held text lines (submission.Refused refusal) after reply a is told = absurd (not-refused text program refusal a is.0)

versions-end : (texts : List (List ℕ)) (text : List ℕ) (program : Program) (reply : Reply) → last_or None texts ≡ Some text → Accepts text program
    → TellsVersions texts reply → EndsWithReport text reply
versions-end texts text program reply last a h =
    let at = last-of texts h.made h.after text last h.are in
    let same : at.one ≡ text = cc (sym at.is_text ∙ last) in
    let lines = version_lines 0 texts h.made in
    accepted-ends program at.held text lines at.its h.after reply a (subst (λ t. IsSubmission at.held t at.its h.after) same at.is)
    (h.is ∙ ap (λ made. versions_reply lines made (report_of h.after)) at.is_made)

edited : (input : List ℕ) (texts : List (List ℕ)) (text : List ℕ) (program : Program) (reply : Reply) → length input ≤ most_input → versions_in input ≡ Ok texts
    → last_or None texts ≡ Some text → Accepts text program → IsReplyToEdit input reply → EndsWithReport text reply
edited input texts text program reply short shaped last a (inl (long, is)) = absurd (omega (arith, short, long))
edited input texts text program reply short shaped last a (inr (fits, outcome)) =
    versions-end texts text program reply last a (subst (λ outcome. OrWrong outcome TellsVersions reply) shaped outcome)

ends-with : (words : List (List ℕ)) (before after : Option (List ℕ)) (reply : Reply) (asked : IsToEdit words before) → IsReply words before after reply
    → EndsWithReport asked.last reply
ends-with words before after reply a answer =
    let read : IsReplyToRead most_input IsReplyToEdit before after reply = subst (λ work. IsReplyToWork work before after reply) a.asked answer in
    let all = whole-input most_input a.input read.input a.short (subst (λ before. IsInput most_input before read.input) a.whole read.is_input) in
    edited a.input a.texts a.last a.program reply a.short a.shaped a.is_last a.accepted (subst (λ input. IsReplyToEdit input reply) all read.is_reply)

-- ---- what it says

pub complete-edit : (words : List (List ℕ)) (before after : Option (List ℕ)) (reply : Reply) → IsToEdit words before → IsReply words before after reply
    → (reply.status ≡ AllProved) ⊎ (reply.status ≡ SomeUnproved)
complete-edit words before after reply a answer =
    zero-or-one _ reply.status (ap (λ (r : Reply). r.status) (EndsWithReport.is (ends-with words before after reply a answer)))

pub sound-edit : (words : List (List ℕ)) (before after : Option (List ℕ)) (reply : Reply) (asked : IsToEdit words before) → IsReply words before after reply
    → reply.status ≡ AllProved → NoAssertionFails asked.program
sound-edit words before after reply a answer e =
    let end = ends-with words before after reply a answer in
    let is = end.analysed in
    let none = zero-of (length end.report.judged - proved_count end.report.judged) (sym (ap (λ (r : Reply). r.status) end.is) ∙ e) in
    let same : is.program ≡ a.program = accepted-once a.last is.program a.program is.planned.accepted a.accepted in
    subst NoAssertionFails same (none-fails is.program end.report is.covers is.met none)

-- what is written behind the lines is true of the program of the last text
pub record EndsTruly (program : Program) (reply : Reply) : Type 0 where
  pub lines : List ℕ
  pub report : Report
  pub is : reply.text ≡ Reply.text (report_behind lines report)
  pub true_text : IsTrueText program (text_of report)

pub true-end : (words : List (List ℕ)) (before after : Option (List ℕ)) (reply : Reply) (asked : IsToEdit words before) → IsReply words before after reply
    → EndsTruly asked.program reply
true-end words before after reply a answer =
    let end = ends-with words before after reply a answer in
    record {
      lines = end.lines;
      report = end.report;
      is = ap (λ (r : Reply). r.text) end.is;
      true_text = true-report 2 a.last a.program end.answers end.report a.accepted end.analysed;
    }
