-- What comes of a text that is submitted to a session.
use Rattle.std.specs.Prelude.{◌≡◌, ℕ, Bool, List, [], ◌∷◌, ◌++◌, length, Option, None, Some, Result, Ok, Err}
use Rattle.farkas_check.specs.declared.answer.Answer.{Answer}
use Rattle.farkas_check.specs.declared.question.Question.{Question}
use Rattle.farkas_check.specs.Asking.{Asking}
use Rattle.whole_numbers.specs.Counters.{Rose}
use Rattle.syntax_tree.specs.declared.program.Program.{Program}
use Rattle.transition_formula.specs.Transition.{Transition}
use Rattle.posing.specs.declared.error.WorkError.{WorkError}
use Rattle.posing.specs.declared.error.WorkError.TheVariants as work
use Rattle.posing.specs.Follows.{IsGood, with_all}
use Rattle.posing.specs.Posing.{Asked, Path, Posing}
use Rattle.report.specs.declared.blocks.Report.{Report}
use Rattle.analysis.specs.declared.planning.Planned.{Planned}
use Rattle.kept_groups.specs.declared.kept.KeptGroups.{KeptGroups}
use Rattle.kept_groups.specs.declared.kept.KeptPart.{KeptPart}
use Rattle.kept_groups.specs.Coming.{AreCome, IsNew, answers_asked, count_made}
use Rattle.kept_groups.specs.Kept.{Anything, answers_in, findings_by_kept}
use Rattle.summary_cache.specs.declared.error.SubmitError.{SubmitError}
use Rattle.summary_cache.specs.declared.error.SubmitError.TheVariants.{Text, Refused, Memory}
use Rattle.summary_cache.specs.declared.last.Last.{Last}
use Rattle.summary_cache.specs.declared.working.Counts.{Counts}
use Rattle.summary_cache.specs.Accepted.{IsRefusedBy}
use Rattle.summary_cache.specs.Counted.{counts_of}
use Rattle.summary_cache.specs.Kept.{AreAllowed, Kept, answers_for, groups_of, report_of, answers_of}
use Rattle.summary_cache.specs.Rules.{with_rule}
use Rattle.summary_cache.specs.Stated.{IsAnalysedBy, IsPlanned, analysis_of}

-- ---- what a session holds

-- the report of the text that was accepted last; None where none was
abbrev pub report_in : Kept → Option Report
report_in session = report_of session.last

-- the answers of the text that was accepted last, in the order of their questions; [] where none
-- was
abbrev pub answers_in_session : Kept → List Answer
answers_in_session session = answers_of session.last

-- ---- a text that is accepted

-- The text spells a program, and this is kept of it: a part for each group of its plan, where a group
-- takes over the part of an alike one of the text before, and each other group was summed up under
-- answers of the oracle. The report is what the analysis comes to under the answers. Where those
-- of the text before are ones that this oracle may give, so are all. What the oracle had next are
-- the answers of the groups that are not taken over, and those behind all groups, for the entries
-- and the verdicts.
pub record IsSubmittedOver {S : Type 0} (O : Asking S) (rule : ℕ) (before : Option Last)
    (old new : S) (text : List ℕ) (last : Last) (counts : Counts) : Type 0 where
  pub program : Program
  pub planned : IsPlanned rule text program last.groups.plan
  pub is : last.groups.program ≡ with_rule rule program
  pub marks : List Bool
  pub come : AreCome O.allows (groups_of before) last.groups.program
      (findings_by_kept (length program.procs) [] []) last.groups.plan last.groups.parts marks
  pub analysed : IsAnalysedBy Anything rule text (answers_for last) last.report
  pub kept : AreAllowed Anything (Some last)
  pub allowed : AreAllowed O.allows before
      → IsAnalysedBy O.allows rule text (answers_for last) last.report
      × AreAllowed O.allows (Some last)
  pub taken : O.left old
      ≡ with_all (answers_asked marks last.groups.parts ++ last.rest) (O.left new)
  pub refused_none : O.refusals new ≡ O.refusals old
  pub counted : counts ≡ counts_of (count_made marks) (length last.groups.plan) last.report

-- ---- a text whose analysis comes to a question that the oracle declines

-- the first of the groups that are left is alike to none that was kept; or none is left
abbrev pub IsNewFirst : Option KeptGroups → Program → List (Option Transition) → List Planned
    → Type 0
IsNewFirst kept program known [] = Unit {0}
IsNewFirst kept program known (planned ∷ left) = IsNew kept program known planned

-- These answers lead to a question outside of the groups that are taken over: they are those of the
-- groups that have come, and others since, of a new group or behind all groups. The oracle gave
-- those of the groups that are not taken over, and those since.
pub record IsOutside (allows : Question → Answer → Type 0) (kept : Option KeptGroups)
    (program : Program) (plan : List Planned) (answers asked : List Answer) : Type 0 where
  pub done : List Planned
  pub left : List Planned
  pub is : plan ≡ done ++ left
  pub parts : List KeptPart
  pub marks : List Bool
  pub come : AreCome allows kept program (findings_by_kept (length program.procs) [] []) done parts
      marks
  pub known_new : IsNewFirst kept program
      (findings_by_kept (length program.procs) done parts).known left
  pub since : List Answer
  pub answers_are : answers ≡ answers_in parts ++ since
  pub asked_are : asked ≡ answers_asked marks parts ++ since

-- The text spells a program, and the oracle declines a question of its analysis.
pub record IsUnansweredOver {S : Type 0} (O : Asking S) (rule : ℕ) (before : Option Last)
    (old new : S) (text : List ℕ) : Type 0 where
  pub program : Program
  pub plan : List Planned
  pub planned : IsPlanned rule text program plan
  pub answers : List Answer
  pub asked : List Answer
  pub question : Question
  pub next : Answer → Posing Report
  pub leads : Path (IsGood Anything) (analysis_of rule text program plan) [] answers
      (Asked question next)
  pub allowed : AreAllowed O.allows before
      → Path (IsGood O.allows) (analysis_of rule text program plan) [] answers
      (Asked question next)
  pub outside : IsOutside O.allows (groups_of before) (with_rule rule program) plan answers asked
  pub taken : O.left old ≡ with_all asked (O.left new)
  pub declined : O.declines new question
  pub rose : Rose (O.refusals old) (O.refusals new)

-- what an error of the work says; where memory is wanting, nothing was refused
abbrev pub IsWorkCause : {S : Type 0} → Asking S → ℕ → Option Last → S → S → List ℕ → WorkError
    → Type 0
IsWorkCause O rule before old new text work.Refused = IsUnansweredOver O rule before old new text
IsWorkCause O rule before old new text work.Memory = O.refusals new ≡ O.refusals old

-- what the work on an accepted text ends with: what is kept of it and its counts, or an error with
-- its cause
abbrev pub Works : {S : Type 0} → Asking S → ℕ → Option Last → S → S → List ℕ
    → Result (Last × Counts) WorkError → Type 0
Works O rule before old new text (Ok made) = IsSubmittedOver O rule before old new text made.0 made.1
Works O rule before old new text (Err error) = IsWorkCause O rule before old new text error

-- what an error of a session says; a text that is refused is no work for the oracle
abbrev pub IsCause : {S : Type 0} → Asking S → ℕ → Option Last → S → S → List ℕ → SubmitError
    → Type 0
IsCause O rule before old new text (Text refusal) = IsRefusedBy text refusal × (new ≡ old)
IsCause O rule before old new text Refused = IsUnansweredOver O rule before old new text
IsCause O rule before old new text Memory = O.refusals new ≡ O.refusals old

-- what a session comes to with a text: what is kept of it and its counts, or an error with its
-- cause
abbrev pub Comes : {S : Type 0} → Asking S → ℕ → Option Last → S → S → List ℕ
    → Result (Last × Counts) SubmitError → Type 0
Comes O rule before old new text (Ok made) = IsSubmittedOver O rule before old new text made.0 made.1
Comes O rule before old new text (Err error) = IsCause O rule before old new text error

-- ---- sessions

-- what is kept is what came of the text
abbrev pub Keeps : {S : Type 0} → Asking S → ℕ → Option Last → S → S → List ℕ → Counts → Option Last
    → Type 0
Keeps O rule before old new text counts None = ⊥
Keeps O rule before old new text counts (Some last) = IsSubmittedOver O rule before old new text
    last counts

-- A text is accepted, or the session is as it was. Its rule stays.
abbrev pub Submits : {S : Type 0} → Asking S → S → S → List ℕ → Kept → Kept
    → Result Counts SubmitError → Type 0
Submits O old new text before after (Ok counts) = (after.rule ≡ before.rule)
    × Keeps O before.rule before.last old new text counts after.last
Submits O old new text before after (Err error) = (after ≡ before)
    × IsCause O before.rule before.last old new text error
