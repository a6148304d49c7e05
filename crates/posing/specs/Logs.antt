-- Logs, and what one gains.
use Rattle.std.specs.Prelude.{◌≡◌, List, ◌++◌, map, Result, Ok, Err}
use Rattle.farkas_check.specs.declared.answer.Answer.{Answer}
use Rattle.posing.specs.declared.note.Note.{Note}
use Rattle.posing.specs.declared.note.Note.TheVariants as note
use Rattle.posing.specs.declared.log.Log.{Log}
use Rattle.transition_formula.specs.declared.loss.Loss.{Loss}

-- a log of these notes and answers
abbrev pub log_of : List Note → List Answer → Log
log_of notes answers = record { notes = notes; answers = answers }

-- a log with further notes
abbrev pub with_notes : Log → List Note → Log
with_notes log more = record { notes = log.notes ++ more; answers = log.answers }

-- notes were added, and nothing else
pub record HasNoted (before after : Log) (notes : List Note) : Type 0 where
  pub is : after ≡ with_notes before notes

-- a call added notes; after an error the log is as it was
abbrev pub Adds : {A E : Type 0} → List Note → Log → Log → Result A E → Type 0
Adds notes before after (Ok value) = HasNoted before after notes
Adds notes before after (Err error) = after ≡ before

-- losses as notes
abbrev pub loss_notes : List Loss → List Note
loss_notes losses = map (λ loss. note.Loss loss) losses
