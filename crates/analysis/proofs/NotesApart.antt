-- Calls whose notes come with their value: the log has none while they run, and those before come
-- back.
--     path_apart                  a path is one of the computation apart, without notes
--     leads_apart                 so is what a call did
--     value_apart, error_apart    a call that came to its value, and one that failed
use Rattle.std.proofs.Common.{◌≡◌, List, [], ◌++◌, Result, Ok, Err, IsErrAnd, sym, ap, ◌∙◌, subst, append_assoc, append-nil}
use Rattle.farkas_check.specs.declared.answer.Answer.{Answer}
use Rattle.farkas_check.specs.declared.question.Question.{Question}
use Rattle.farkas_check.specs.Asking.{Asking}
use Rattle.posing.specs.declared.error.WorkError.{WorkError}
use Rattle.posing.specs.declared.error.WorkError.TheVariants.{Refused, Memory}
use Rattle.posing.specs.declared.log.Log.{Log}
use Rattle.posing.specs.declared.note.Note.{Note}
use Rattle.posing.specs.Posing.{Posing, Done, Asked, Path, here, noted, asked}
use Rattle.posing.specs.Follows.{IsGood, Leads, FailsAt, Follows}
use Rattle.analysis.specs.Apart.{apart, apart_from}

pub path_apart : {A : Type 0} (Good : Question → Answer → Type 0) (p q : Posing A) (before notes : List Note) (answers : List Answer)
    → Path Good p notes answers q → Path Good (apart_from before p) [] answers (apart_from (before ++ notes) q)
unfolding apart_from
path_apart Good _ _ before _ _ (here p) =
    subst (λ ns. Path Good (apart_from before p) [] [] (apart_from ns p)) (sym (append-nil before)) (here (apart_from before p))
path_apart Good _ _ before _ _ (noted first more answers p q path) =
    subst (λ ns. Path Good (apart_from (before ++ first) p) [] answers (apart_from ns q)) (append_assoc before first more)
    (path_apart Good p q (before ++ first) more answers path)
path_apart Good _ _ before _ _ (asked question answer next notes answers q good path) =
    asked question answer (λ a. apart_from before (next a)) [] answers (apart_from (before ++ notes) q) good
    (path_apart Good (next answer) q before notes answers path)

-- the log before and after, and the call's own log before and after
pub record IsSwapped (before inner outer after : Log) : Type 0 where
  pub none : inner.notes ≡ []
  pub same : inner.answers ≡ before.answers
  pub back : after.notes ≡ before.notes
  pub logged : after.answers ≡ outer.answers

pub leads_apart : {S A : Type 0} (O : Asking S) (old new : S) (before inner outer after : Log) (p q : Posing A)
    → IsSwapped before inner outer after → Leads O old new inner outer p q → Leads O old new before after (apart p) (apart_from outer.notes q)
leads_apart O old new before inner outer after p q swap leads =
    let own : leads.notes ≡ outer.notes = sym (leads.noted ∙ ap (λ ns. ns ++ leads.notes) swap.none) in
    record {
      notes = [];
      answers = leads.answers;
      noted = swap.back ∙ sym (append-nil before.notes);
      logged = swap.logged ∙ leads.logged ∙ ap (λ taken. taken ++ leads.answers) swap.same;
      taken = leads.taken;
      counted = leads.counted;
      path = subst (λ ns. Path (IsGood O.allows) (apart p) [] leads.answers (apart_from ns q)) own (path_apart (IsGood O.allows) p q [] leads.notes leads.answers leads.path);
    }

pub value_apart : {S A : Type 0} {O : Asking S} {old new : S} {before inner outer after : Log} {p : Posing A} {value : A} {notes : List Note}
    → IsSwapped before inner outer after → notes ≡ outer.notes → Follows O old new inner outer (Ok value) p → Follows O old new before after (Ok (value, notes)) (apart p)
unfolding apart_from
value_apart {O = O} {old = old} {new = new} {before = before} {after = after} {p = p} {value = value} swap same follows =
    subst (λ ns. Follows O old new before after (Ok (value, ns)) (apart p)) (sym same) (record { comes = leads_apart _ _ _ _ _ _ _ _ (Done value) swap follows.comes })

fails_apart : {S A : Type 0} (O : Asking S) (old new : S) (before inner outer after : Log) (p : Posing A) (error : WorkError)
    → IsSwapped before inner outer after → FailsAt O old new inner outer error p → FailsAt O old new before after error (apart p)
unfolding apart_from
fails_apart O old new before inner outer after p Refused swap refused =
    record {
      question = refused.question;
      next = λ answer. apart_from outer.notes (refused.next answer);
      at = refused.at;
      leads = leads_apart O old refused.at before inner outer after p (Asked refused.question refused.next) swap refused.leads;
      left = refused.left;
      declined = refused.declined;
      rose = refused.rose;
    }
fails_apart O old new before inner outer after p Memory swap halted =
    record { rest = apart_from outer.notes halted.rest; leads = leads_apart O old new before inner outer after p halted.rest swap halted.leads }

pub error_apart : {S A : Type 0} {O : Asking S} {old new : S} {before inner outer after : Log} {result : Result (A × List Note) WorkError} {p : Posing A} {error : WorkError}
    → IsSwapped before inner outer after → Follows O old new inner outer (Err error) p → IsErrAnd result (λ e. e ≡ error) → Follows O old new before after result (apart p)
error_apart {result = Ok made} swap follows is = absurd is
error_apart {O = O} {old = old} {new = new} {before = before} {after = after} {result = Err e} {p = p} {error = error} swap follows is =
    record { comes = subst (λ d. FailsAt O old new before after d (apart p)) (sym is) (fails_apart O old new before _ _ after p error swap follows.comes) }
