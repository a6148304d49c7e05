-- The steps of a function that asks an oracle, with the arguments that their facts show left out.
use Rattle.std.specs.Prelude.{Bool, true, false}
use Rattle.std.proofs.Common.{◌≡◌, ℕ, suc, ◌<◌, ◌+◌, ◌-◌, List, length, drop, get_or, Result, Ok, Err, IsErrAnd}
use Rattle.farkas_check.specs.Asking.{Asking}
use Rattle.posing.specs.declared.error.WorkError.{WorkError}
use Rattle.posing.specs.declared.log.Log.{Log}
use Rattle.posing.specs.declared.note.Note.{Note}
use Rattle.posing.specs.Logs.{HasNoted}
use Rattle.posing.specs.Posing.{Posing, Done, Noted, ◌>>=◌, each, down, until, Always}
use Rattle.posing.specs.Follows.{Leads, Follows}
use Rattle.posing.proofs.Following as following

pub at_end : {S A : Type 0} {O : Asking S} {state : S} {log : Log} {value stated : A} → value ≡ stated → Follows O state state log log (Ok value) (Done stated)
at_end e = following.ends _ _ _ _ _ e

pub value_first : {S A B : Type 0} {O : Asking S} {old now new : S} {before between after : Log} {result : Result B WorkError} {p q : Posing A} {value : A} (f : A → Posing B)
    → Follows O old now before between (Ok value) q → q ≡ p → Follows O now new between after result (f value) → Follows O old new before after result (p >>= f)
value_first f first same second = following.first_then _ _ _ _ _ _ _ _ _ _ f _ first same second

pub error_first : {S A B : Type 0} {O : Asking S} {old new : S} {before after : Log} {result : Result B WorkError} {p q : Posing A} {error : WorkError} (f : A → Posing B)
    → Follows O old new before after (Err error) q → q ≡ p → IsErrAnd result (λ e. e ≡ error) → Follows O old new before after result (p >>= f)
error_first f fails same is = following.first_fails _ _ _ _ _ _ _ _ f _ fails same is

pub notes_first : {S A : Type 0} {O : Asking S} {old new : S} {before between after : Log} {result : Result A WorkError} {notes made : List Note} {p : Posing A}
    → HasNoted before between made → made ≡ notes → Follows O old new between after result p → Follows O old new before after result (Noted notes p)
notes_first e same rest = following.notes_then _ _ _ _ _ _ _ _ _ _ e same rest

pub in_other_words : {S A : Type 0} {O : Asking S} {old new : S} {before after : Log} {result : Result A WorkError} {p q : Posing A} → q ≡ p → Follows O old new before after result q → Follows O old new before after result p
in_other_words same follows = following.restated _ _ _ _ _ _ _ _ same follows

pub value_has : {S A : Type 0} {O : Asking S} {old new : S} {before after : Log} {p : Posing A} {value : A} (P : A → Type 0) → Follows O old new before after (Ok value) p → Always P p → P value
value_has P follows holds = following.follows_always _ _ _ _ _ _ _ P follows holds

pub each_next : {S A B : Type 0} {O : Asking S} {old now new : S} {before between after : Log} {whole : Posing B} {made next : B} {x : A} (step : B → A → Posing B) (xs : List A) (i : ℕ)
    → Leads O old now before between whole (each step made (drop i xs)) → i < length xs → x ≡ get_or xs i x → Follows O now new between after (Ok next) (step made x)
    → Leads O old new before after whole (each step next (drop (i + 1) xs))
each_next step xs i leads lt is one = following.loop_steps _ _ _ _ _ _ _ _ step _ _ xs i _ leads lt is one

pub each_fails : {S A B : Type 0} {O : Asking S} {old now new : S} {before between after : Log} {result : Result B WorkError} {whole : Posing B} {made : B} {x : A} {error : WorkError} (step : B → A → Posing B) (xs : List A) (i : ℕ)
    → Leads O old now before between whole (each step made (drop i xs)) → i < length xs → x ≡ get_or xs i x → Follows O now new between after (Err error) (step made x) → IsErrAnd result (λ e. e ≡ error)
    → Follows O old new before after result whole
each_fails step xs i leads lt is one failed = following.loop_fails _ _ _ _ _ _ _ _ _ step _ xs i _ _ leads lt is one failed

pub down_next : {S B : Type 0} {O : Asking S} {old now new : S} {before between after : Log} {whole : Posing B} {made next : B} {place : ℕ} (step : B → ℕ → Posing B) (n : ℕ)
    → Leads O old now before between whole (down step made n) → 0 < n → place ≡ n - 1 → Follows O now new between after (Ok next) (step made place) → Leads O old new before after whole (down step next place)
down_next step n leads lt is one = following.down_steps _ _ _ _ _ _ _ _ step _ _ n _ leads lt is one

pub down_fails : {S B : Type 0} {O : Asking S} {old now new : S} {before between after : Log} {result : Result B WorkError} {whole : Posing B} {made : B} {place : ℕ} {error : WorkError} (step : B → ℕ → Posing B) (n : ℕ)
    → Leads O old now before between whole (down step made n) → 0 < n → place ≡ n - 1 → Follows O now new between after (Err error) (step made place) → IsErrAnd result (λ e. e ≡ error) → Follows O old new before after result whole
down_fails step n leads lt is one failed = following.down_fails _ _ _ _ _ _ _ _ _ step _ n _ _ leads lt is one failed

pub until_next : {S B : Type 0} {O : Asking S} {old now new : S} {before between after : Log} {whole : Posing B} {made next : B} (step : B → Posing (B × Bool)) (n : ℕ)
    → Leads O old now before between whole (until step (suc n) made) → Follows O now new between after (Ok (next, true)) (step made) → Leads O old new before after whole (until step n next)
until_next step n leads one = following.round_next _ _ _ _ _ _ _ _ step _ _ n leads one

pub until_last : {S B : Type 0} {O : Asking S} {old now new : S} {before between after : Log} {whole : Posing B} {made next : B} (step : B → Posing (B × Bool)) (n : ℕ)
    → Leads O old now before between whole (until step (suc n) made) → Follows O now new between after (Ok (next, false)) (step made) → Follows O old new before after (Ok next) whole
until_last step n leads one = following.round_last _ _ _ _ _ _ _ _ step _ _ n leads one

-- the first part of what is left came to its value, and what is left was done
pub first_left : {S A B : Type 0} {O : Asking S} {old now new : S} {before between after : Log} {whole r : Posing B} {p q : Posing A} {value : A} (f : A → Posing B)
    → Leads O old now before between whole r → r ≡ p >>= f → Follows O now new between after (Ok value) q → q ≡ p → Leads O old new before after whole (f value)
first_left f leads is first same = following.leads_first _ _ _ _ _ _ _ _ _ _ _ f _ leads is first same

pub all_left : {S A : Type 0} {O : Asking S} {old now new : S} {before between after : Log} {result : Result A WorkError} {whole r : Posing A}
    → Leads O old now before between whole r → Follows O now new between after result r → Follows O old new before after result whole
all_left leads rest = following.leads_rest _ _ _ _ _ _ _ _ _ _ leads rest
