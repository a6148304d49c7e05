-- What the replies to inputs have in common: a limit, and what is wrong with an input or a text.
use Rattle.std.specs.Prelude.{◌≡◌, ℕ, ◌<◌, ◌≤◌, ◌⊎◌, List, [], ◌++◌, length, Result, Ok, Err, codes, decimal}
use Rattle.wire.specs.declared.error.WireError.{WireError}
use Rattle.wire.specs.declared.error.WireError.TheVariants as wrong
use Rattle.summary_cache.specs.declared.refusal.Refusal.{Refusal}
use Rattle.summary_cache.specs.Accepted.{IsRefusedBy}
use Rattle.commands.specs.declared.reply.Reply.{Reply}
use Rattle.commands.specs.declared.status.Status.TheVariants as ended
use Rattle.commands.specs.Refused.{refusal_line, refusal_text}

-- the answer to an input past the limit
abbrev pub too_long : Reply
too_long = record { status = ended.TooLong; text = codes "input is too long\n" }

-- an input past the limit is answered with "input is too long", and any other one as is said of it
abbrev pub Within : ℕ → List ℕ → (Reply → Type 0) → Reply → Type 0
Within limit input Answers reply =
    ((limit < length input) × (reply ≡ too_long))
    ⊎ ((length input ≤ limit) × Answers reply)

-- the answer to a text that is refused
abbrev pub refused_reply : List ℕ → Refusal → Reply
refused_reply text refusal = record {
  status = ended.Refused;
  text = refusal_text text (refusal_line refusal);
}

-- a text that is accepted is answered as is said of it, and every other text with the reason of its
-- refusal
abbrev pub OrRefused : List ℕ → (Reply → Type 0) → Reply → Type 0
OrRefused text Answers reply =
    Answers reply
    ⊎ ((refusal : Refusal) × IsRefusedBy text refusal × (reply ≡ refused_reply text refusal))

-- what is wrong with an input; want of memory is nothing wrong
abbrev pub wrong_text : WireError → List ℕ
wrong_text wrong.Json = codes "input is not JSON\n"
wrong_text (wrong.Shape path) = codes "input has a wrong shape at " ++ path ++ codes "\n"
wrong_text (wrong.Version number) = codes "version " ++ decimal number ++ codes " is not known\n"
wrong_text (wrong.Edit number) = codes "edit " ++ decimal number ++ codes " is out of range\n"
wrong_text wrong.Memory = []

-- the answer to an input with which something is wrong
abbrev pub wrong_input : WireError → Reply
wrong_input fault = record { status = ended.WrongInput; text = wrong_text fault }

-- What is wrong with an input comes before what is wrong with its text.
abbrev pub OrWrong : {A : Type 0} → Result A WireError → (A → Reply → Type 0) → Reply → Type 0
OrWrong (Ok input) Answers reply = Answers input reply
OrWrong (Err fault) Answers reply = reply ≡ wrong_input fault
