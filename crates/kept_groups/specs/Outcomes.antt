-- What a call did that goes over the groups of a plan.
use Rattle.std.specs.Prelude.{◌≡◌, ℕ, ◌+◌, Bool, List, [], ◌∷◌, ◌++◌, Option, length, Result, Ok, Err}
use Rattle.farkas_check.specs.declared.answer.Answer.{Answer}
use Rattle.farkas_check.specs.declared.question.Question.{Question}
use Rattle.farkas_check.specs.Asking.{Asking}
use Rattle.syntax_tree.specs.declared.program.Program.{Program}
use Rattle.whole_numbers.specs.Counters.{Rose}
use Rattle.posing.specs.declared.error.WorkError.{WorkError}
use Rattle.posing.specs.declared.error.WorkError.TheVariants.{Refused, Memory}
use Rattle.posing.specs.declared.note.Note.{Note}
use Rattle.posing.specs.Follows.{IsGood, with_all}
use Rattle.posing.specs.Posing.{Posing, Asked, Path}
use Rattle.analysis.specs.declared.parts.GroupSummaries.{GroupSummaries}
use Rattle.analysis.specs.declared.planning.Planned.{Planned}
use Rattle.analysis.specs.Parts.{summaries_by}
use Rattle.kept_groups.specs.declared.kept.KeptGroups.{KeptGroups}
use Rattle.kept_groups.specs.declared.kept.KeptPart.{KeptPart}
use Rattle.kept_groups.specs.declared.over.FoundParts.{FoundParts}
use Rattle.kept_groups.specs.Coming.{AreCome, IsNew, answers_asked, count_made}
use Rattle.kept_groups.specs.Kept.{findings_by_kept}

-- A part has come for each group. The oracle had next the answers of those that are not taken over,
-- it refused none, and each of them took one step.
pub record IsFoundOver {S : Type 0} (O : Asking S) (kept : Option KeptGroups) (program : Program)
    (plan : List Planned) (old new : S) (from to : ℕ) (made : FoundParts) : Type 0 where
  pub marks : List Bool
  pub come : AreCome O.allows kept program (findings_by_kept (length program.procs) [] []) plan
      made.parts marks
  pub found : made.found ≡ findings_by_kept (length program.procs) plan made.parts
  pub taken : O.left old ≡ with_all (answers_asked marks made.parts) (O.left new)
  pub counted : O.refusals new ≡ O.refusals old
  pub work : made.work ≡ count_made marks
  pub steps : to ≡ from + count_made marks

-- The parts of the groups before have come, and the answers that the oracle had next led what is
-- stated of a new group to a question that the oracle declines.
pub record IsDeclinedOver {S : Type 0} (O : Asking S) (kept : Option KeptGroups) (program : Program)
    (plan : List Planned) (old new : S) : Type 0 where
  pub done : List Planned
  pub planned : Planned
  pub left : List Planned
  pub is : plan ≡ done ++ planned ∷ left
  pub parts : List KeptPart
  pub marks : List Bool
  pub come : AreCome O.allows kept program (findings_by_kept (length program.procs) [] []) done parts
      marks
  pub known_new : IsNew kept program (findings_by_kept (length program.procs) done parts).known planned
  pub notes : List Note
  pub answers : List Answer
  pub question : Question
  pub next : Answer → Posing GroupSummaries
  pub leads : Path (IsGood O.allows)
      (summaries_by planned.kind program planned.procs
      (findings_by_kept (length program.procs) done parts).known)
      notes answers (Asked question next)
  pub taken : O.left old ≡ with_all (answers_asked marks parts ++ answers) (O.left new)
  pub declined : O.declines new question
  pub rose : Rose (O.refusals old) (O.refusals new)

-- what a call over the groups of a plan ends with: the parts, or a question that the oracle
-- declines, or want of memory, where nothing was refused
abbrev pub CameOver : {S : Type 0} → Asking S → Option KeptGroups → Program → List Planned → S → S
    → ℕ → ℕ → Result FoundParts WorkError → Type 0
CameOver O kept program plan old new from to (Ok made) = IsFoundOver O kept program plan old new
    from to made
CameOver O kept program plan old new from to (Err Refused) = IsDeclinedOver O kept program plan old
    new
CameOver O kept program plan old new from to (Err Memory) = O.refusals new ≡ O.refusals old

-- A record, so that it stays whole in goals.
pub record FindsOver {S : Type 0} (O : Asking S) (kept : Option KeptGroups) (program : Program)
    (plan : List Planned) (old new : S) (from to : ℕ)
    (result : Result FoundParts WorkError) : Type 0 where
  pub came : CameOver O kept program plan old new from to result
