-- How calls that ask an oracle are composed. `following` has the steps by which a function's exits
-- are proved.
--     leads_none, leads_quiet     nothing was asked or noted
--     leads_then                  a part of a call, and then another
--     leads_into                  a part of a call with more to come
--     leads_noted, leads_asked    notes were made; an answer was taken and logged
--     ends                        nothing is left to do
--     first_then, first_fails     the first part came to its value, or failed
--     notes_then                  notes were made first
--     stops                       memory was wanting
--     restated                    the same computation in other words
--     leads_first, leads_rest     the first part, and all, of what is left after what was done
--     loop_steps                  a step of a loop, after those before it
--     loop_fails, loop_ends       a step of a loop fails; the loop is at its end
--     down_steps, down_fails, down_ends    the same of a loop down to zero
--     round_next, round_last      a round that changed something; the last one
--     follows_always              a property of all ends is one of the call's value
--     asked_none, asked_lost      an oracle gave no answer, or memory was wanting for it
use Rattle.std.specs.Prelude.{Bool, true, false, if◌then◌else◌}
use Rattle.std.proofs.Common.{◌≡◌, ℕ, zero, suc, ◌≤◌, List, [], ◌∷◌, ◌++◌, Option, None, Some, Result, Ok, Err, refl, sym, ap, ◌∙◌, subst, append_assoc, append-nil, arith, IsErrAnd, ◌<◌, length, drop, get_or}
use Rattle.std.proofs.lemmas.List.{drop_all, drop_more}
use Rattle.std.specs.Prelude.{◌+◌, ◌-◌}
use Rattle.farkas_check.specs.declared.answer.Answer.{Answer}
use Rattle.farkas_check.specs.declared.question.Question.{Question}
use Rattle.farkas_check.specs.Asking.{Asking}
use Rattle.farkas_check.specs.Meaning.{IsTrueAnswer}
use Rattle.farkas_check.specs.Refusals.{with_first, HasCause}
use Rattle.farkas_check.specs.declared.oracle.AskError.{AskError}
use Rattle.farkas_check.specs.declared.oracle.AskError.TheVariants as asked
use Rattle.posing.specs.declared.error.WorkError.{WorkError}
use Rattle.posing.specs.declared.error.WorkError.TheVariants.{Refused, Memory}
use Rattle.posing.specs.declared.log.Log.{Log}
use Rattle.posing.specs.declared.note.Note.{Note}
use Rattle.posing.specs.Logs.{with_notes, HasNoted}
use Rattle.posing.specs.Posing.{Posing, Done, Noted, Asked, ◌>>=◌, each, down, until, Always}
use Rattle.posing.specs.Posing as posing
use Rattle.posing.specs.Follows.{IsGood, with_all, Leads, IsRefused, IsHalted, FailsAt, Follows}
use Rattle.posing.specs.Errors.{work_error}
use Rattle.posing.proofs.Paths.{path_then, path_into, always_path}

with_none : (told : Option (List Answer)) → told ≡ with_all [] told
with_none None = refl
with_none (Some answers) = refl

with_both : (first more : List Answer) (old now new : Option (List Answer)) → old ≡ with_all first now → now ≡ with_all more new → old ≡ with_all (first ++ more) new
with_both first more old now None e f = e ∙ ap (with_all first) f
with_both first more old now (Some rest) e f = e ∙ ap (with_all first) f ∙ ap (λ all. Some all) (sym (append_assoc first more rest))

with_one : (answer : Answer) (old new : Option (List Answer)) → old ≡ with_first answer new → old ≡ with_all (answer ∷ []) new
with_one answer old None e = e
with_one answer old (Some rest) e = e

pub leads_none : {S A : Type 0} (O : Asking S) (state : S) (log : Log) (p : Posing A) → Leads O state state log log p p
leads_none O state log p =
    record {
      notes = [];
      answers = [];
      noted = sym (append-nil log.notes);
      logged = sym (append-nil log.answers);
      taken = with_none (O.left state);
      counted = refl;
      path = posing.here p;
    }

pub leads_then : {S A : Type 0} (O : Asking S) (old now new : S) (before between after : Log) (p q r : Posing A)
    → Leads O old now before between p q → Leads O now new between after q r → Leads O old new before after p r
leads_then O old now new before between after p q r first second =
    record {
      notes = first.notes ++ second.notes;
      answers = first.answers ++ second.answers;
      noted = second.noted ∙ ap (λ ns. ns ++ second.notes) first.noted ∙ append_assoc before.notes first.notes second.notes;
      logged = second.logged ∙ ap (λ ns. ns ++ second.answers) first.logged ∙ append_assoc before.answers first.answers second.answers;
      taken = with_both first.answers second.answers (O.left old) (O.left now) (O.left new) first.taken second.taken;
      counted = second.counted ∙ first.counted;
      path = path_then (IsGood O.allows) p q r first.notes second.notes first.answers second.answers first.path second.path;
    }

pub leads_into : {S A B : Type 0} (O : Asking S) (old new : S) (before after : Log) (p q : Posing A) (f : A → Posing B)
    → Leads O old new before after p q → Leads O old new before after (p >>= f) (q >>= f)
leads_into O old new before after p q f leads =
    record {
      notes = leads.notes;
      answers = leads.answers;
      noted = leads.noted;
      logged = leads.logged;
      taken = leads.taken;
      counted = leads.counted;
      path = path_into (IsGood O.allows) p q leads.notes leads.answers f leads.path;
    }

pub leads_noted : {S A : Type 0} (O : Asking S) (state : S) (before after : Log) (notes : List Note) (p : Posing A)
    → after ≡ with_notes before notes → Leads O state state before after (Noted notes p) p
leads_noted O state before after notes p e =
    record {
      notes = notes ++ [];
      answers = [];
      noted = ap (λ (l : Log). l.notes) e ∙ ap (λ ns. before.notes ++ ns) (sym (append-nil notes));
      logged = ap (λ (l : Log). l.answers) e ∙ sym (append-nil before.answers);
      taken = with_none (O.left state);
      counted = refl;
      path = posing.noted notes [] [] p p (posing.here p);
    }

pub leads_asked : {S A : Type 0} (O : Asking S) (old new : S) (before after : Log) (question : Question) (answer : Answer) (next : Answer → Posing A)
    → IsGood O.allows question answer → O.left old ≡ with_first answer (O.left new) → O.refusals new ≡ O.refusals old → after.notes ≡ before.notes → after.answers ≡ before.answers ++ answer ∷ []
    → Leads O old new before after (Asked question next) (next answer)
leads_asked O old new before after question answer next good taken counted same e =
    record {
      notes = [];
      answers = answer ∷ [];
      noted = same ∙ sym (append-nil before.notes);
      logged = e;
      taken = with_one answer (O.left old) (O.left new) taken;
      counted = counted;
      path = posing.asked question answer next [] [] (next answer) good (posing.here (next answer));
    }

-- ---- a call

refused_then : {S A : Type 0} (O : Asking S) (old now new : S) (before between after : Log) (p q : Posing A)
    → Leads O old now before between p q → IsRefused O now new between after q → IsRefused O old new before after p
refused_then O old now new before between after p q first second =
    record {
      question = second.question;
      next = second.next;
      at = second.at;
      leads = leads_then O old now second.at before between after p q (Asked second.question second.next) first second.leads;
      left = second.left;
      declined = second.declined;
      rose = second.rose;
    }

halted_then : {S A : Type 0} (O : Asking S) (old now new : S) (before between after : Log) (p q : Posing A)
    → Leads O old now before between p q → IsHalted O now new between after q → IsHalted O old new before after p
halted_then O old now new before between after p q first second =
    record {
      rest = second.rest;
      leads = leads_then O old now new before between after p q second.rest first second.leads;
    }

pub fails_then : {S A : Type 0} (O : Asking S) (old now new : S) (before between after : Log) (error : WorkError) (p q : Posing A)
    → Leads O old now before between p q → FailsAt O now new between after error q → FailsAt O old new before after error p
fails_then O old now new before between after Refused p q first second = refused_then O old now new before between after p q first second
fails_then O old now new before between after Memory p q first second = halted_then O old now new before between after p q first second

pub fails_into : {S A B : Type 0} (O : Asking S) (old new : S) (before after : Log) (error : WorkError) (p : Posing A) (f : A → Posing B)
    → FailsAt O old new before after error p → FailsAt O old new before after error (p >>= f)
unfolding ◌>>=◌
fails_into O old new before after Refused p f refused =
    record {
      question = refused.question;
      next = λ answer. refused.next answer >>= f;
      at = refused.at;
      leads = leads_into O old refused.at before after p (Asked refused.question refused.next) f refused.leads;
      left = refused.left;
      declined = refused.declined;
      rose = refused.rose;
    }
fails_into O old new before after Memory p f halted =
    record { rest = halted.rest >>= f; leads = leads_into O old new before after p halted.rest f halted.leads }

-- nothing was taken or logged
pub leads_quiet : {S A : Type 0} (O : Asking S) (old new : S) (before after : Log) (p : Posing A)
    → after.notes ≡ before.notes → after.answers ≡ before.answers → O.left new ≡ O.left old → O.refusals new ≡ O.refusals old → Leads O old new before after p p
leads_quiet O old new before after p notes answers kept counted =
    record {
      notes = [];
      answers = [];
      noted = notes ∙ sym (append-nil before.notes);
      logged = answers ∙ sym (append-nil before.answers);
      taken = sym kept ∙ with_none (O.left new);
      counted = counted;
      path = posing.here p;
    }

-- ---- the steps of a function: each takes away the first part of what is left to do

-- nothing is left to do
pub ends : {S A : Type 0} (O : Asking S) (state : S) (log : Log) (value stated : A) → value ≡ stated → Follows O state state log log (Ok value) (Done stated)
ends O state log value stated e =
    record { comes = subst (λ x. Leads O state state log log (Done x) (Done value)) e (leads_none O state log (Done value)) }

-- the first part came to its value; `q` is how the call states it
pub first_then : {S A B : Type 0} (O : Asking S) (old now new : S) (before between after : Log) (result : Result B WorkError) (p q : Posing A) (f : A → Posing B) (value : A)
    → Follows O old now before between (Ok value) q → q ≡ p → Follows O now new between after result (f value) → Follows O old new before after result (p >>= f)
unfolding ◌>>=◌
first_then {B = B} O old now new before between after result p q f value first same second =
    subst (λ r. Follows O old new before after result (r >>= f)) same (go result second)
  where
    go : (result : Result B WorkError) → Follows O now new between after result (f value) → Follows O old new before after result (q >>= f)
    go (Ok last) rest =
        record { comes = leads_then O old now new before between after (q >>= f) (f value) (Done last) (leads_into O old now before between q (Done value) f first.comes) rest.comes }
    go (Err error) rest =
        record { comes = fails_then O old now new before between after error (q >>= f) (f value) (leads_into O old now before between q (Done value) f first.comes) rest.comes }

-- the first part failed
pub first_fails : {S A B : Type 0} (O : Asking S) (old new : S) (before after : Log) (result : Result B WorkError) (p q : Posing A) (f : A → Posing B) (error : WorkError)
    → Follows O old new before after (Err error) q → q ≡ p → IsErrAnd result (λ e. e ≡ error) → Follows O old new before after result (p >>= f)
first_fails O old new before after (Ok last) p q f error fails same is = absurd is
first_fails O old new before after (Err e) p q f error fails same is =
    record {
      comes = subst (λ d. FailsAt O old new before after d (p >>= f)) (sym is)
          (subst (λ r. FailsAt O old new before after error (r >>= f)) same (fails_into O old new before after error q f fails.comes));
    }

-- notes were made
pub notes_then : {S A : Type 0} (O : Asking S) (old new : S) (before between after : Log) (result : Result A WorkError) (notes made : List Note) (p : Posing A)
    → HasNoted before between made → made ≡ notes → Follows O old new between after result p → Follows O old new before after result (Noted notes p)
notes_then {A = A} O old new before between after result notes made p e same second = go result second
  where
    f : between ≡ with_notes before notes
    f = e.is ∙ ap (with_notes before) same

    go : (result : Result A WorkError) → Follows O old new between after result p → Follows O old new before after result (Noted notes p)
    go (Ok value) rest =
        record { comes = leads_then O old old new before between after (Noted notes p) p (Done value) (leads_noted O old before between notes p f) rest.comes }
    go (Err error) rest =
        record { comes = fails_then O old old new before between after error (Noted notes p) p (leads_noted O old before between notes p f) rest.comes }

-- memory was wanting
pub stops : {S A : Type 0} (O : Asking S) (state : S) (before after : Log) (result : Result A WorkError) (p : Posing A)
    → after ≡ before → IsErrAnd result (λ e. e ≡ Memory) → Follows O state state before after result p
stops O state before after (Ok value) p same is = absurd is
stops O state before after (Err error) p same is =
    record {
      comes = subst (λ d. FailsAt O state state before after d p) (sym is)
          (record { rest = p; leads = leads_quiet O state state before after p (ap (λ (l : Log). l.notes) same) (ap (λ (l : Log). l.answers) same) refl refl });
    }

-- the same computation in other words
pub restated : {S A : Type 0} (O : Asking S) (old new : S) (before after : Log) (result : Result A WorkError) (p q : Posing A)
    → q ≡ p → Follows O old new before after result q → Follows O old new before after result p
restated O old new before after result p q same follows = subst (λ r. Follows O old new before after result r) same follows

pub ruleset following = (ends, first_then, first_fails, notes_then, stops)

-- ---- asking

abbrev failed : AskError → Result Answer AskError
failed error = Err error

-- the oracle gave no answer
pub asked_none : {S A : Type 0} (O : Asking S) (old new : S) (log : Log) (result : Result A WorkError) (question : Question) (next : Answer → Posing A) (error : AskError)
    → HasCause (O.refusals old) (O.refusals new) (failed error) → (failed error ≡ Err asked.Refused → O.declines new question) → O.left new ≡ O.left old
    → IsErrAnd result (λ e. e ≡ work_error error) → Follows O old new log log result (Asked question next)
asked_none O old new log (Ok value) question next error cause declined kept is = absurd is
asked_none O old new log (Err e) question next asked.Refused cause declined kept is =
    record {
      comes = subst (λ d. FailsAt O old new log log d (Asked question next)) (sym is)
          (record { question = question; next = next; at = old; leads = leads_none O old log (Asked question next); left = kept; declined = declined refl; rose = cause.refused refl });
    }
asked_none O old new log (Err e) question next asked.Memory cause declined kept is =
    record {
      comes = subst (λ d. FailsAt O old new log log d (Asked question next)) (sym is)
          (record { rest = Asked question next; leads = leads_quiet O old new log log (Asked question next) refl refl kept (cause.memory refl) });
    }

-- an answer was taken and logged, and memory was wanting for its copy
pub asked_lost : {S A : Type 0} (O : Asking S) (old new : S) (before after : Log) (result : Result A WorkError) (p q : Posing A)
    → Leads O old new before after p q → IsErrAnd result (λ e. e ≡ Memory) → Follows O old new before after result p
asked_lost O old new before after (Ok value) p q leads is = absurd is
asked_lost O old new before after (Err e) p q leads is =
    record { comes = subst (λ d. FailsAt O old new before after d p) (sym is) (record { rest = q; leads = leads }) }

-- ---- the rest of a function, after what it did so far

-- the first part of what is left came to its value
pub leads_first : {S A B : Type 0} (O : Asking S) (old now new : S) (before between after : Log) (whole r : Posing B) (p q : Posing A) (f : A → Posing B) (value : A)
    → Leads O old now before between whole r → r ≡ p >>= f → Follows O now new between after (Ok value) q → q ≡ p → Leads O old new before after whole (f value)
unfolding ◌>>=◌
leads_first O old now new before between after whole r p q f value leads is first same =
    leads_then O old now new before between after whole (q >>= f) (f value)
    (subst (λ t. Leads O old now before between whole t) (is ∙ ap (λ t. t >>= f) (sym same)) leads) (leads_into O now new between after q (Done value) f first.comes)

-- what is left was done, to its end or as far as it got
pub leads_rest : {S A : Type 0} (O : Asking S) (old now new : S) (before between after : Log) (result : Result A WorkError) (whole r : Posing A)
    → Leads O old now before between whole r → Follows O now new between after result r → Follows O old new before after result whole
leads_rest O old now new before between after (Ok value) whole r leads rest = record { comes = leads_then O old now new before between after whole r (Done value) leads rest.comes }
leads_rest O old now new before between after (Err error) whole r leads rest = record { comes = fails_then O old now new before between after error whole r leads rest.comes }

-- ---- loops: a step for each element of a list

at_index : {X : Type 0} (xs : List X) (i : ℕ) (x : X) → i < length xs → x ≡ get_or xs i x → drop i xs ≡ x ∷ drop (i + 1) xs
at_index xs i x h e = drop_more xs i x h ∙ ap (λ u. u ∷ drop (i + 1) xs) (sym e)

pub loop_steps : {S A B : Type 0} (O : Asking S) (old now new : S) (before between after : Log) (whole : Posing B) (step : B → A → Posing B) (made next : B) (xs : List A) (i : ℕ) (x : A)
    → Leads O old now before between whole (each step made (drop i xs)) → i < length xs → x ≡ get_or xs i x → Follows O now new between after (Ok next) (step made x)
    → Leads O old new before after whole (each step next (drop (i + 1) xs))
unfolding ◌>>=◌
loop_steps O old now new before between after whole step made next xs i x leads lt is one =
    leads_then O old now new before between after whole (each step made (drop i xs)) (each step next (drop (i + 1) xs)) leads
    (subst (λ ys. Leads O now new between after (each step made ys) (each step next (drop (i + 1) xs))) (sym (at_index xs i x lt is))
    (leads_into O now new between after (step made x) (Done next) (λ n. each step n (drop (i + 1) xs)) one.comes))

pub loop_fails : {S A B : Type 0} (O : Asking S) (old now new : S) (before between after : Log) (result : Result B WorkError) (whole : Posing B) (step : B → A → Posing B) (made : B) (xs : List A) (i : ℕ) (x : A) (error : WorkError)
    → Leads O old now before between whole (each step made (drop i xs)) → i < length xs → x ≡ get_or xs i x → Follows O now new between after (Err error) (step made x) → IsErrAnd result (λ e. e ≡ error)
    → Follows O old new before after result whole
loop_fails O old now new before between after (Ok last) whole step made xs i x error leads lt is one failed = absurd failed
loop_fails O old now new before between after (Err e) whole step made xs i x error leads lt is one failed =
    record {
      comes = fails_then O old now new before between after e whole (each step made (drop i xs)) leads
          (subst (λ ys. FailsAt O now new between after e (each step made ys)) (sym (at_index xs i x lt is))
          (subst (λ d. FailsAt O now new between after d (step made x >>= (λ n. each step n (drop (i + 1) xs)))) (sym failed) (fails_into O now new between after error (step made x) (λ n. each step n (drop (i + 1) xs)) one.comes)));
    }

pub loop_ends : {S A B : Type 0} (O : Asking S) (old new : S) (before after : Log) (whole : Posing B) (step : B → A → Posing B) (made : B) (xs : List A) (i : ℕ)
    → Leads O old new before after whole (each step made (drop i xs)) → length xs ≤ i → Follows O old new before after (Ok made) whole
loop_ends O old new before after whole step made xs i leads end =
    record { comes = subst (λ ys. Leads O old new before after whole (each step made ys)) (drop_all i xs end) leads }

-- ---- loops down to zero

pub down_steps : {S B : Type 0} (O : Asking S) (old now new : S) (before between after : Log) (whole : Posing B) (step : B → ℕ → Posing B) (made next : B) (n place : ℕ)
    → Leads O old now before between whole (down step made n) → 0 < n → place ≡ n - 1 → Follows O now new between after (Ok next) (step made place) → Leads O old new before after whole (down step next place)
unfolding ◌>>=◌
down_steps O old now new before between after whole step made next zero place leads lt is one = absurd (omega (arith, lt))
down_steps O old now new before between after whole step made next (suc n) place leads lt is one =
    let same : n ≡ place = omega (arith, is) in
    leads_then O old now new before between after whole (down step made (suc n)) (down step next place) leads
    (subst (λ m. Leads O now new between after (step made m >>= (λ k. down step k m)) (down step next place)) (sym same)
    (leads_into O now new between after (step made place) (Done next) (λ k. down step k place) one.comes))

pub down_fails : {S B : Type 0} (O : Asking S) (old now new : S) (before between after : Log) (result : Result B WorkError) (whole : Posing B) (step : B → ℕ → Posing B) (made : B) (n place : ℕ) (error : WorkError)
    → Leads O old now before between whole (down step made n) → 0 < n → place ≡ n - 1 → Follows O now new between after (Err error) (step made place) → IsErrAnd result (λ e. e ≡ error)
    → Follows O old new before after result whole
down_fails O old now new before between after (Ok last) whole step made n place error leads lt is one failed = absurd failed
down_fails O old now new before between after (Err e) whole step made zero place error leads lt is one failed = absurd (omega (arith, lt))
down_fails O old now new before between after (Err e) whole step made (suc n) place error leads lt is one failed =
    let same : n ≡ place = omega (arith, is) in
    record {
      comes = fails_then O old now new before between after e whole (down step made (suc n)) leads
          (subst (λ m. FailsAt O now new between after e (step made m >>= (λ k. down step k m))) (sym same)
          (subst (λ d. FailsAt O now new between after d (step made place >>= (λ k. down step k place))) (sym failed) (fails_into O now new between after error (step made place) (λ k. down step k place) one.comes)));
    }

pub down_ends : {S B : Type 0} (O : Asking S) (old new : S) (before after : Log) (whole : Posing B) (step : B → ℕ → Posing B) (made : B) (n : ℕ)
    → Leads O old new before after whole (down step made n) → n ≤ 0 → Follows O old new before after (Ok made) whole
down_ends O old new before after whole step made zero leads end = record { comes = leads }
down_ends O old new before after whole step made (suc n) leads end = absurd (omega (arith, end))

-- ---- rounds until nothing changes

pub round_next : {S B : Type 0} (O : Asking S) (old now new : S) (before between after : Log) (whole : Posing B) (step : B → Posing (B × Bool)) (made next : B) (n : ℕ)
    → Leads O old now before between whole (until step (suc n) made) → Follows O now new between after (Ok (next, true)) (step made) → Leads O old new before after whole (until step n next)
round_next O old now new before between after whole step made next n leads one =
    leads_first O old now new before between after whole (until step (suc n) made) (step made) (step made) (λ r. if r.1 then until step n r.0 else Done r.0) (next, true) leads refl one refl

pub round_last : {S B : Type 0} (O : Asking S) (old now new : S) (before between after : Log) (whole : Posing B) (step : B → Posing (B × Bool)) (made next : B) (n : ℕ)
    → Leads O old now before between whole (until step (suc n) made) → Follows O now new between after (Ok (next, false)) (step made) → Follows O old new before after (Ok next) whole
round_last O old now new before between after whole step made next n leads one =
    record { comes = leads_first O old now new before between after whole (until step (suc n) made) (step made) (step made) (λ r. if r.1 then until step n r.0 else Done r.0) (next, false) leads refl one refl }

-- ---- what a call's value is

good-true : (allows : Question → Answer → Type 0) (question : Question) (answer : Answer) → IsGood allows question answer → IsTrueAnswer question answer
good-true allows question answer good = good.is_true

pub follows_always : {S A : Type 0} (O : Asking S) (old new : S) (before after : Log) (p : Posing A) (value : A) (P : A → Type 0)
    → Follows O old new before after (Ok value) p → Always P p → P value
follows_always O old new before after p value P follows holds =
    always_path (IsGood O.allows) P p (Done value) follows.comes.notes follows.comes.answers (good-true O.allows) follows.comes.path holds
