-- A text that is accepted is not refused: so each is analysed.
use Rattle.std.proofs.Common.{◌≡◌, ℕ, ◌+◌, ◌≤◌, ◌⊎◌, true, false, List, length, Option, Some, Ok, inl, inr, refl, ap, subst, ◌∙◌, arith}
use Rattle.std.proofs.lemmas.List.{take_all}
use Rattle.std.specs.Prelude.{if◌then◌else◌, Bool}
use Rattle.syntax_tree.specs.declared.program.Program.{Program}
use Rattle.replay.specs.TraceText.{is_failed}
use Rattle.wire.specs.declared.input.Input.{Input}
use Rattle.wire.specs.Inputs.{input_of}
use Rattle.summary_cache.specs.Accepted.{Accepts}
use Rattle.summary_cache.specs.Limits.{most_bytes}
use Rattle.summary_cache.proofs.Complete.{not-refused}
use Rattle.commands.specs.declared.reply.Reply.{Reply}
use Rattle.commands.specs.declared.status.Status.{Status}
use Rattle.commands.specs.declared.status.Status.TheVariants.{AllProved, SomeUnproved, NoneFailed, SomeFailed, Certified, TooLong}
use Rattle.commands.specs.declared.words.Work.{Work}
use Rattle.commands.specs.declared.words.Work.TheVariants.{Analyse, Facets, Prove}
use Rattle.commands.specs.Input.{IsInput}
use Rattle.commands.specs.Limits.{most_input}
use Rattle.commands.specs.Analyse.{IsReplyUnder, IsToAnalyse, IsToFacets, IsToProve, IsToReport}
use Rattle.commands.specs.Certify.{IsReplyToCertify, IsToCertify, TellsFile, output_too_long}
use Rattle.commands.specs.Prove.{IsReplyToProve}
use Rattle.commands.specs.Replay.{IsReplyToReplay, IsToReplay, IsTraceOf}
use Rattle.commands.specs.Replies.{IsReply, IsReplyToRead, IsReplyToWork}
use Rattle.commands.specs.Within.{OrRefused, OrWrong}

pub whole-input : (limit : ℕ) (all input : List ℕ) → length all ≤ limit → IsInput limit (Some all) input → input ≡ all
unfolding IsInput
whole-input limit all input short is = is ∙ take_all (limit + 1) all (omega arith)

pub zero-or-one : (all : Bool) (status : Status) → status ≡ (if all then AllProved else SomeUnproved) → (status ≡ AllProved) ⊎ (status ≡ SomeUnproved)
zero-or-one true status e = inl e
zero-or-one false status e = inr e

analysed : (rule : ℕ) (all : List ℕ) (program : Program) (reply : Reply) → length all ≤ most_bytes → Accepts all program → IsReplyUnder rule all reply
    → (reply.status ≡ AllProved) ⊎ (reply.status ≡ SomeUnproved)
analysed rule all program reply short a (inl (long, is)) = absurd (omega arith)
analysed rule all program reply short a (inr (fits, inl (report, answers, is, e))) = zero-or-one _ reply.status (ap (λ r. r.status) e)
analysed rule all program reply short a (inr (fits, inr (refusal, is, e))) = absurd (not-refused all program refusal a is)

proved : (all : List ℕ) (program : Program) (reply : Reply) → length all ≤ most_bytes → Accepts all program → IsReplyToProve all reply
    → (reply.status ≡ AllProved) ⊎ (reply.status ≡ SomeUnproved)
proved all program reply short a (inl (long, is)) = absurd (omega arith)
proved all program reply short a (inr (fits, inl (made, is, e))) = zero-or-one _ reply.status (ap (λ r. r.status) e)
proved all program reply short a (inr (fits, inr (refusal, is, e))) = absurd (not-refused all program refusal a is)

-- Work whose reply is one to a text, and what is asked of all that the source has.
module _ (work : Work) (Answers : List ℕ → Reply → Type 0) (words : List (List ℕ)) (before after : Option (List ℕ)) (reply : Reply) (a : IsToReport work words before) where
  -- all of the text is read and answered
  pub text-answered : IsReplyToRead most_bytes Answers before after reply → Answers a.input reply
  text-answered read =
      let all = whole-input most_bytes a.input read.input a.short (subst (λ before. IsInput most_bytes before read.input) a.whole read.is_input) in
      subst (λ input. Answers input reply) all read.is_reply

-- a report under a rule
module _ (work : Work) (rule : ℕ) (words : List (List ℕ)) (before after : Option (List ℕ)) (reply : Reply) (a : IsToReport work words before) where
  complete-report : IsReplyToRead most_bytes (IsReplyUnder rule) before after reply → (reply.status ≡ AllProved) ⊎ (reply.status ≡ SomeUnproved)
  complete-report read = analysed rule a.input a.program reply a.short a.accepted (text-answered work (IsReplyUnder rule) words before after reply a read)

module _ (words : List (List ℕ)) (before after : Option (List ℕ)) (reply : Reply) where
  pub complete : IsToAnalyse words before → IsReply words before after reply → (reply.status ≡ AllProved) ⊎ (reply.status ≡ SomeUnproved)
  complete a answer = complete-report Analyse 2 words before after reply a (subst (λ work. IsReplyToWork work before after reply) a.asked answer)

  pub complete-prove : IsToProve words before → IsReply words before after reply → (reply.status ≡ AllProved) ⊎ (reply.status ≡ SomeUnproved)
  complete-prove a answer = proved a.input a.program reply a.short a.accepted (text-answered Prove IsReplyToProve words before after reply a (subst (λ work. IsReplyToWork work before after reply) a.asked answer))

  pub complete-facets : IsToFacets words before → IsReply words before after reply → (reply.status ≡ AllProved) ⊎ (reply.status ≡ SomeUnproved)
  complete-facets a answer = complete-report Facets 3 words before after reply a (subst (λ work. IsReplyToWork work before after reply) a.asked answer)

-- ---- certificate files

within-or-not : (within : Bool) (status : Status) (told : Reply) → told.status ≡ Certified → status ≡ Reply.status (if within then told else output_too_long)
    → (status ≡ Certified) ⊎ (status ≡ TooLong)
within-or-not true status told is e = inl (e ∙ is)
within-or-not false status told is e = inr e

pub certified-text : (text : List ℕ) (program : Program) (reply : Reply) → Accepts text program → OrRefused text (TellsFile text) reply → (reply.status ≡ Certified) ⊎ (reply.status ≡ TooLong)
certified-text text program reply a (inl (file, is, e)) = within-or-not _ reply.status _ refl (ap (λ r. r.status) e)
certified-text text program reply a (inr (refusal, is, e)) = absurd (not-refused text program refusal a is)

certified : (all : List ℕ) (program : Program) (reply : Reply) → length all ≤ most_bytes → Accepts all program → IsReplyToCertify all reply
    → (reply.status ≡ Certified) ⊎ (reply.status ≡ TooLong)
certified all program reply short a (inl (long, is)) = absurd (omega arith)
certified all program reply short a (inr (fits, is)) = certified-text all program reply a is

pub complete-certify : (words : List (List ℕ)) (before after : Option (List ℕ)) (reply : Reply) → IsToCertify words before → IsReply words before after reply
    → (reply.status ≡ Certified) ⊎ (reply.status ≡ TooLong)
complete-certify words before after reply a answer =
    let read : IsReplyToRead most_bytes IsReplyToCertify before after reply = subst (λ work. IsReplyToWork work before after reply) a.asked answer in
    let all = whole-input most_bytes a.input read.input a.short (subst (λ before. IsInput most_bytes before read.input) a.whole read.is_input) in
    certified a.input a.program reply a.short a.accepted (subst (λ input. IsReplyToCertify input reply) all read.is_reply)

-- ---- one execution on given values

failed-or-not : (failed : Bool) (status : Status) → status ≡ (if failed then SomeFailed else NoneFailed) → (status ≡ NoneFailed) ⊎ (status ≡ SomeFailed)
failed-or-not true status e = inr e
failed-or-not false status e = inl e

followed-text : (input : Input) (program : Program) (reply : Reply) → Accepts input.text program → IsTraceOf input reply → (reply.status ≡ NoneFailed) ⊎ (reply.status ≡ SomeFailed)
followed-text input program reply a (inl (other, trace, is, e)) = failed-or-not (is_failed trace.stop) reply.status (ap (λ r. r.status) e)
followed-text input program reply a (inr (refusal, is, e)) = absurd (not-refused input.text program refusal a is)

followed : (bytes : List ℕ) (input : Input) (program : Program) (reply : Reply) → length bytes ≤ most_input → input_of bytes ≡ Ok input → Accepts input.text program → IsReplyToReplay bytes reply
    → (reply.status ≡ NoneFailed) ⊎ (reply.status ≡ SomeFailed)
followed bytes input program reply short shaped a (inl (long, is)) = absurd (omega arith)
followed bytes input program reply short shaped a (inr (fits, outcome)) =
    followed-text input program reply a (subst (λ outcome. OrWrong outcome IsTraceOf reply) shaped outcome)

pub complete-replay : (words : List (List ℕ)) (before after : Option (List ℕ)) (reply : Reply) → IsToReplay words before → IsReply words before after reply
    → (reply.status ≡ NoneFailed) ⊎ (reply.status ≡ SomeFailed)
complete-replay words before after reply a answer =
    let read : IsReplyToRead most_input IsReplyToReplay before after reply = subst (λ work. IsReplyToWork work before after reply) a.asked answer in
    let all = whole-input most_input a.bytes read.input a.short (subst (λ before. IsInput most_input before read.input) a.whole read.is_input) in
    followed a.bytes a.input a.program reply a.short a.shaped a.accepted (subst (λ bytes. IsReplyToReplay bytes reply) all read.is_reply)
