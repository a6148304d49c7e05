-- What a call that asks an oracle did: how far the answers that it took led its stated computation.
use denote.MutBor.{MutBor}
use denote.Triple.Both.{Both}
use Rattle.std.specs.Prelude.{◌≡◌, List, ◌++◌, Option, None, Result, Ok, Err}
use Rattle.std.specs.Option.{option_map}
use Rattle.farkas_check.specs.declared.answer.Answer.{Answer}
use Rattle.farkas_check.specs.declared.question.Question.{Question}
use Rattle.farkas_check.specs.Asking.{Asking}
use Rattle.farkas_check.specs.Meaning.{IsTrueAnswer}
use Rattle.whole_numbers.specs.Counters.{Rose}
use Rattle.farkas_check.specs.Tested.{Passes}
use Rattle.posing.specs.declared.error.WorkError.{WorkError}
use Rattle.posing.specs.declared.error.WorkError.TheVariants.{Refused, Memory}
use Rattle.posing.specs.declared.log.Log.{Log}
use Rattle.posing.specs.declared.note.Note.{Note}
use Rattle.posing.specs.Posing.{Posing, Done, Asked, Path}

-- what is known of an answer that an oracle gave
pub record IsGood (allows : Question → Answer → Type 0) (question : Question)
    (answer : Answer) : Type 0 where
  pub passes : Passes question answer
  pub is_true : IsTrueAnswer question answer
  pub allowed : allows question answer

-- answers before those that are told
abbrev pub with_all : List Answer → Option (List Answer) → Option (List Answer)
with_all answers told = option_map (λ rest. answers ++ rest) told

-- an oracle that tells no answers left
abbrev pub silent : {S : Type 0} → Asking S → Asking S
silent O = record {
  refusals = O.refusals;
  declines = O.declines;
  allows = O.allows;
  left = λ s. None;
}

-- The log gained notes and answers that lead from one computation to what is left of it. They are
-- those that the oracle had next, and it refused nothing meanwhile.
pub record Leads {S A : Type 0} (O : Asking S) (old new : S) (before after : Log)
    (p q : Posing A) : Type 0 where
  pub notes : List Note
  pub answers : List Answer
  pub noted : after.notes ≡ before.notes ++ notes
  pub logged : after.answers ≡ before.answers ++ answers
  pub taken : O.left old ≡ with_all answers (O.left new)
  pub counted : O.refusals new ≡ O.refusals old
  pub path : Path (IsGood O.allows) p notes answers q

-- the answers led to a question that the oracle refused, as it then stood
pub record IsRefused {S A : Type 0} (O : Asking S) (old new : S) (before after : Log)
    (p : Posing A) : Type 0 where
  pub question : Question
  pub next : Answer → Posing A
  pub at : S
  pub leads : Leads O old at before after p (Asked question next)
  pub left : O.left new ≡ O.left at
  pub declined : O.declines new question
  pub rose : Rose (O.refusals at) (O.refusals new)

-- memory was wanting somewhere on the way, on which nothing was refused
pub record IsHalted {S A : Type 0} (O : Asking S) (old new : S) (before after : Log)
    (p : Posing A) : Type 0 where
  pub rest : Posing A
  pub leads : Leads O old new before after p rest

-- a call failed on the way through a stated computation
abbrev pub FailsAt : {S A : Type 0} → Asking S → S → S → Log → Log → WorkError → Posing A → Type 0
FailsAt O old new before after Refused p = IsRefused O old new before after p
FailsAt O old new before after Memory p = IsHalted O old new before after p

-- a call came to its value, or failed on the way
abbrev pub ComesTo : {S A : Type 0} → Asking S → S → S → Log → Log → Result A WorkError → Posing A
    → Type 0
ComesTo O old new before after (Ok value) p = Leads O old new before after p (Done value)
ComesTo O old new before after (Err error) p = FailsAt O old new before after error p

-- A call did a stated computation to its end, or as far as it got. A record, so that it stays whole
-- in goals.
pub record Follows {S A : Type 0} (O : Asking S) (old new : S) (before after : Log)
    (result : Result A WorkError) (p : Posing A) : Type 0 where
  pub comes : ComesTo O old new before after result p

-- what is lent to a call: what a reference points at as the call begins, its entry, and as it ends,
-- its exit
abbrev pub Lent : Type 0 → Type 0
Lent X = Both (MutBor X) (MutBor X)

-- a call that is lent an oracle and a log asks what the stated computation asks, and notes and logs
-- what that does
abbrev pub Asks : {S A : Type 0} → Asking S → Lent S → Lent Log → Result A WorkError → Posing A
    → Type 0
Asks O oracle log result p =
    Follows O oracle.entry.now oracle.exit.now log.entry.now log.exit.now result p
