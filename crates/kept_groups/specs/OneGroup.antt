-- Words of private clauses: what is kept of the program before, the search for an alike group, and
-- what a call did that makes the part of one group.
use Rattle.std.specs.Prelude.{◌≡◌, ℕ, ◌+◌, List, [], ◌∷◌, ◌++◌, Option, None, Some, Result, Ok, Err, slice_set}
use Rattle.std.specs.Option.{option_copied}
use Rattle.farkas_check.specs.declared.answer.Answer.{Answer}
use Rattle.farkas_check.specs.declared.question.Question.{Question}
use Rattle.farkas_check.specs.Asking.{Asking}
use Rattle.syntax_tree.specs.declared.program.Program.{Program}
use Rattle.transition_formula.specs.Transition.{Transition}
use Rattle.whole_numbers.specs.Counters.{Rose}
use Rattle.posing.specs.declared.error.WorkError.{WorkError}
use Rattle.posing.specs.declared.error.WorkError.TheVariants.{Refused, Memory}
use Rattle.posing.specs.declared.note.Note.{Note}
use Rattle.posing.specs.Follows.{IsGood, with_all}
use Rattle.posing.specs.Posing.{Posing, Asked, Path}
use Rattle.analysis.specs.declared.parts.GroupSummaries.{GroupSummaries}
use Rattle.analysis.specs.declared.planning.Planned.{Planned}
use Rattle.analysis.specs.Found.{nothing_found, put_at}
use Rattle.analysis.specs.Parts.{summaries_by}
use Rattle.kept_groups.specs.declared.alike.Earlier.{Earlier}
use Rattle.kept_groups.specs.declared.kept.KeptGroups.{KeptGroups}
use Rattle.kept_groups.specs.declared.kept.KeptPart.{KeptPart}
use Rattle.kept_groups.specs.declared.over.ComingPart.{ComingPart}
use Rattle.kept_groups.specs.declared.over.FoundParts.{FoundParts}
use Rattle.kept_groups.specs.Coming.{IsCome, IsNew, IsTakenFrom, answers_asked, count_made}
use Rattle.kept_groups.specs.Kept.{AreKeptIf, Anything, IsPartOf, kept_summaries, with_kept}

-- ---- what is kept of the program before

-- the summary of each procedure there, if groups were kept
abbrev pub known_if : Option KeptGroups → List (Option Transition)
known_if None = []
known_if (Some kept) = kept_summaries kept

-- the groups that were kept of the program before, if any were
abbrev pub groups_in : Earlier → Option KeptGroups
groups_in earlier = option_copied earlier.groups

-- the groups were kept under whatever answers, and their summaries are the known formulas
pub record IsEarlier (earlier : Earlier) : Type 0 where
  pub kept : AreKeptIf Anything (groups_in earlier)
  pub known : earlier.known ≡ known_if (groups_in earlier)

-- known formulas with those of groups of a plan
abbrev pub summaries_with : List (Option Transition) → List Planned → List KeptPart
    → List (Option Transition)
summaries_with known (planned ∷ plan) (part ∷ parts) =
    summaries_with (put_at planned.procs part.summaries.formulas known) plan parts
summaries_with known _ _ = known

-- with a formula at a place, if there is one
abbrev pub with_summary_at : ℕ → Option Transition → List (Option Transition) → List (Option Transition)
with_summary_at place None known = known
with_summary_at place (Some f) known = slice_set known place (Some f)

-- ---- the search for an alike group

-- this is kept of an alike group, or none is alike
abbrev pub IsAlikeOrNew : Option KeptGroups → Program → List (Option Transition) → Planned
    → Option KeptPart → Type 0
IsAlikeOrNew kept program known planned None = IsNew kept program known planned
IsAlikeOrNew kept program known planned (Some part) = IsTakenFrom kept program known planned part

-- A record, so that it stays whole in goals.
pub record FindsAlike (kept : Option KeptGroups) (program : Program)
    (known : List (Option Transition)) (planned : Planned) (found : Option KeptPart) : Type 0 where
  pub is : IsAlikeOrNew kept program known planned found

-- ---- how a call ends

-- with a value; or at a question that the oracle declines; or memory was wanting, and nothing was
-- refused
abbrev pub EndsIn : {S A : Type 0} → Asking S → (A → Type 0) → Type 0 → S → S → Result A WorkError
    → Type 0
EndsIn O Made Declined old new (Ok value) = Made value
EndsIn O Made Declined old new (Err Refused) = Declined
EndsIn O Made Declined old new (Err Memory) = O.refusals new ≡ O.refusals old

-- A record, so that it stays whole in goals.
pub record Ends {S A : Type 0} (O : Asking S) (Made : A → Type 0) (Declined : Type 0) (old new : S)
    (result : Result A WorkError) : Type 0 where
  pub is : EndsIn O Made Declined old new result

-- ---- a group that is summed up by asking

-- the part is of this group under the answers that the oracle had next, of which it refused none
pub record IsMade {S : Type 0} (O : Asking S) (program : Program)
    (known : List (Option Transition)) (planned : Planned) (old new : S)
    (part : KeptPart) : Type 0 where
  pub of : IsPartOf (IsGood O.allows) program known planned part
  pub taken : O.left old ≡ with_all part.answers (O.left new)
  pub counted : O.refusals new ≡ O.refusals old

-- the answers that the oracle had next led to a question that it declines
pub record IsDeclined {S : Type 0} (O : Asking S) (program : Program)
    (known : List (Option Transition)) (planned : Planned) (old new : S) : Type 0 where
  pub notes : List Note
  pub answers : List Answer
  pub question : Question
  pub next : Answer → Posing GroupSummaries
  pub leads : Path (IsGood O.allows) (summaries_by planned.kind program planned.procs known) notes
      answers (Asked question next)
  pub taken : O.left old ≡ with_all answers (O.left new)
  pub declined : O.declines new question
  pub rose : Rose (O.refusals old) (O.refusals new)

-- ---- a group that takes a part over, where there is an alike one, and is summed up else

-- the part is taken over without an answer and without a step, or made under the next answers in
-- one step
pub record IsComing {S : Type 0} (O : Asking S) (kept : Option KeptGroups) (program : Program)
    (known : List (Option Transition)) (planned : Planned) (old new : S) (from to : ℕ)
    (coming : ComingPart) : Type 0 where
  pub come : IsCome O.allows kept program known planned coming.part coming.taken
  pub taken : O.left old
      ≡ with_all (answers_asked (coming.taken ∷ []) (coming.part ∷ [])) (O.left new)
  pub counted : O.refusals new ≡ O.refusals old
  pub steps : to ≡ from + count_made (coming.taken ∷ [])

-- a new group comes to a question that the oracle declines
pub record IsStuck {S : Type 0} (O : Asking S) (kept : Option KeptGroups) (program : Program)
    (known : List (Option Transition)) (planned : Planned) (old new : S) : Type 0 where
  pub known_new : IsNew kept program known planned
  pub declined : IsDeclined O program known planned old new

-- ---- one group more

-- what has come of so many procedures before the first group: nothing found, no part and no work
abbrev pub nothing_yet : ℕ → FoundParts
nothing_yet procs = record { found = nothing_found procs; parts = []; work = 0 }

-- what has come, with the part of one group more behind the others, and one more of work where it
-- was made
abbrev pub with_coming : FoundParts → Planned → ComingPart → FoundParts
with_coming made planned coming =
    record {
      found = with_kept made.found planned coming.part;
      parts = made.parts ++ coming.part ∷ [];
      work = made.work + count_made (coming.taken ∷ []);
    }

-- the part of one group more comes, by what is found of those before, and stands behind theirs
pub record IsOneMore {S : Type 0} (O : Asking S) (kept : Option KeptGroups) (program : Program)
    (made : FoundParts) (planned : Planned) (old new : S) (from to : ℕ)
    (next : FoundParts) : Type 0 where
  pub coming : ComingPart
  pub comes : IsComing O kept program made.found.known planned old new from to coming
  pub is : next ≡ with_coming made planned coming
