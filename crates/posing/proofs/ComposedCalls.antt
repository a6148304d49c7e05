-- What calls that follow a computation come to, as a whole: under listed answers, and with parts
-- that were kept.
--     replayed, replay_stuck, replay_refused     a call with an oracle over listed answers: the value, or the question where they end
--     follows_kept               what a call logged is kept
--     kept_bind, kept_node       kept parts in a row; an operation over two kept operands
--     kept_each                  kept steps of a loop
--     kept_same                  the same computation, as another text of one meaning poses it
--     kept_run, kept_always      what comes of it under the kept answers; its properties
--     leads_kept                 a part of a call that takes kept answers in place of asking
use Rattle.std.proofs.Common.{◌≡◌, List, [], ◌∷◌, ◌++◌, Option, None, Some, Ok, Err, refl, sym, ap, ◌∙◌, subst}
use Rattle.farkas_check.specs.declared.answer.Answer.{Answer}
use Rattle.farkas_check.specs.declared.question.Question.{Question}
use Rattle.farkas_check.specs.Asking.{Asking}
use Rattle.farkas_check.specs.Tested.{Passes}
use Rattle.posing.specs.declared.error.WorkError.{WorkError}
use Rattle.posing.specs.declared.error.WorkError.TheVariants.{Refused, Memory}
use Rattle.posing.specs.declared.log.Log.{Log}
use Rattle.posing.specs.declared.note.Note.{Note}
use Rattle.posing.specs.Posing.{Posing, Done, Asked, ◌>>=◌, each, Finished, Stuck, after_notes, run, Always}
use Rattle.posing.specs.Posing as posing
use Rattle.posing.specs.Follows.{IsGood, with_all, silent, Leads, IsRefused, Follows}
use Rattle.posing.specs.Replay.{IsMissing, IsReplay, Keeps}
use Rattle.posing.proofs.Paths.{path_bind, path_run, path_ends, always_path}

good-passes : (allows : Question → Answer → Type 0) (question : Question) (answer : Answer) → IsGood allows question answer → Passes question answer
good-passes allows question answer good = good.passes

-- ---- listed answers

-- those that were taken, and those that are left
split : (answers : List Answer) (old new : Option (List Answer)) (all : List Answer) → old ≡ Some all → old ≡ with_all answers new → (left : List Answer) × (new ≡ Some left) × (all ≡ answers ++ left)
split answers old None all e f = cc
split answers old (Some left) all e f = (left, refl, (let same : Some all ≡ Some (answers ++ left) = sym e ∙ f in cc))

-- a call that came to a value: so does its computation under all the answers, with the notes that
-- it made, and the same answers are left
pub record Replayed {S A : Type 0} (O : Asking S) (new : S) (before after : Log) (p : Posing A) (value : A) (all : List Answer) : Type 0 where
  pub notes : List Note
  pub left : List Answer
  pub noted : after.notes ≡ before.notes ++ notes
  pub remain : O.left new ≡ Some left
  pub comes : run p all ≡ Finished value notes left

pub replayed : {S A : Type 0} (O : Asking S) (old new : S) (before after : Log) (p : Posing A) (value : A) (all : List Answer)
    → O.left old ≡ Some all → Follows O old new before after (Ok value) p → Replayed O new before after p value all
replayed O old new before after p value all told follows =
    let leads = follows.comes in
    let parts = split leads.answers (O.left old) (O.left new) all told leads.taken in
    record {
      notes = leads.notes;
      left = parts.0;
      noted = leads.noted;
      remain = parts.1;
      comes = ap (run p) parts.2 ∙ path_ends (IsGood O.allows) p value leads.notes leads.answers parts.0 (good-passes O.allows) leads.path;
    }

stuck_there : {A : Type 0} (question : Question) (next : Answer → Posing A) (left : List Answer) → IsMissing question left → run (Asked question next) left ≡ Stuck question left
stuck_there question next [] missing = refl
stuck_there question next (answer ∷ answers) missing = rw missing refl

-- a call that was refused: its computation is stuck where the answers that pass end
pub record ReplayStuck {S A : Type 0} (O : Asking S) (new : S) (p : Posing A) (all : List Answer) : Type 0 where
  pub question : Question
  pub left : List Answer
  pub remain : O.left new ≡ Some left
  pub comes : run p all ≡ Stuck question left

pub replay_stuck : {S A : Type 0} (O : Asking S) (old new : S) (before after : Log) (p : Posing A) (all : List Answer)
    → IsReplay O → O.left old ≡ Some all → IsRefused O old new before after p → ReplayStuck O new p all
replay_stuck O old new before after p all replay told refused =
    let leads = refused.leads in
    let parts = split leads.answers (O.left old) (O.left refused.at) all told leads.taken in
    record {
      question = refused.question;
      left = parts.0;
      remain = refused.left ∙ parts.1;
      comes = ap (run p) parts.2
          ∙ path_run (IsGood O.allows) p (Asked refused.question refused.next) leads.notes leads.answers parts.0 (good-passes O.allows) leads.path
          ∙ ap (after_notes leads.notes) (stuck_there refused.question refused.next parts.0 (replay.missing new refused.question parts.0 (refused.left ∙ parts.1) refused.declined));
    }

pub replay_refused : {S A : Type 0} (O : Asking S) (old new : S) (before after : Log) (p : Posing A) (error : WorkError) (all : List Answer)
    → IsReplay O → O.left old ≡ Some all → Follows O old new before after (Err error) p → error ≡ Refused → ReplayStuck O new p all
replay_refused O old new before after p Refused all replay told follows is = replay_stuck O old new before after p all replay told follows.comes
replay_refused O old new before after p Memory all replay told follows is = cc

-- ---- parts that were kept

pub follows_kept : {S A : Type 0} (O : Asking S) (old new : S) (before after : Log) (p : Posing A) (value : A)
    → (follows : Follows O old new before after (Ok value) p) → Keeps (IsGood O.allows) p value follows.comes.notes follows.comes.answers
follows_kept O old new before after p value follows = record { path = follows.comes.path }

pub kept_bind : {A B : Type 0} (Good : Question → Answer → Type 0) (p : Posing A) (f : A → Posing B) (x : A) (y : B) (notes more : List Note) (answers others : List Answer)
    → Keeps Good p x notes answers → Keeps Good (f x) y more others → Keeps Good (p >>= f) y (notes ++ more) (answers ++ others)
kept_bind Good p f x y notes more answers others first second = record { path = path_bind Good p x f (Done y) notes more answers others first.path second.path }

-- an operation over two operands: the log is that of the first, then of the second, then its own
pub kept_node : {A B C : Type 0} (Good : Question → Answer → Type 0) (left : Posing A) (right : Posing B) (own : A → B → Posing C) (x : A) (y : B) (z : C)
    (notes_left notes_right notes : List Note) (answers_left answers_right answers : List Answer)
    → Keeps Good left x notes_left answers_left → Keeps Good right y notes_right answers_right → Keeps Good (own x y) z notes answers
    → Keeps Good (left >>= λ a. right >>= λ b. own a b) z (notes_left ++ (notes_right ++ notes)) (answers_left ++ (answers_right ++ answers))
kept_node Good left right own x y z notes_left notes_right notes answers_left answers_right answers first second last =
    kept_bind Good left (λ a. right >>= λ b. own a b) x z notes_left (notes_right ++ notes) answers_left (answers_right ++ answers) first
    (kept_bind Good right (λ b. own x b) y z notes_right notes answers_right answers second last)

-- what each step of a loop kept
pub data KeptSteps {A B : Type 0} (Good : Question → Answer → Type 0) (step : B → A → Posing B) : B → List A → B → List Note → List Answer → Type 0 where
  all_made : (made : B) → KeptSteps Good step made [] made [] []
  one_made : (made next last : B) (x : A) (xs : List A) (notes more : List Note) (answers others : List Answer)
      → Keeps Good (step made x) next notes answers → KeptSteps Good step next xs last more others → KeptSteps Good step made (x ∷ xs) last (notes ++ more) (answers ++ others)

pub kept_each : {A B : Type 0} (Good : Question → Answer → Type 0) (step : B → A → Posing B) (made last : B) (xs : List A) (notes : List Note) (answers : List Answer)
    → KeptSteps Good step made xs last notes answers → Keeps Good (each step made xs) last notes answers
kept_each Good step _ _ _ _ _ (all_made made) = record { path = posing.here (Done made) }
kept_each Good step _ _ _ _ _ (one_made made next last x xs notes more answers others one rest) =
    kept_bind Good (step made x) (λ b. each step b xs) next last notes more answers others one (kept_each Good step next last xs more others rest)

pub kept_same : {A : Type 0} (Good : Question → Answer → Type 0) (p q : Posing A) (value : A) (notes : List Note) (answers : List Answer) → p ≡ q → Keeps Good p value notes answers → Keeps Good q value notes answers
kept_same Good p q value notes answers same kept = subst (λ r. Keeps Good r value notes answers) same kept

pub kept_run : {A : Type 0} (allows : Question → Answer → Type 0) (p : Posing A) (value : A) (notes : List Note) (answers : List Answer) (rest : List Answer)
    → Keeps (IsGood allows) p value notes answers → run p (answers ++ rest) ≡ Finished value notes rest
kept_run allows p value notes answers rest kept = path_ends (IsGood allows) p value notes answers rest (good-passes allows) kept.path

pub kept_always : {A : Type 0} (allows : Question → Answer → Type 0) (p : Posing A) (value : A) (notes : List Note) (answers : List Answer) (P : A → Type 0)
    → Keeps (IsGood allows) p value notes answers → Always P p → P value
kept_always allows p value notes answers P kept holds =
    always_path (IsGood allows) P p (Done value) notes answers (λ question answer good. good.is_true) kept.path holds

-- kept answers are logged, and the oracle is not asked
pub leads_kept : {S A : Type 0} (O : Asking S) (state : S) (before after : Log) (p : Posing A) (value : A) (notes : List Note) (answers : List Answer)
    → Keeps (IsGood O.allows) p value notes answers → after.notes ≡ before.notes ++ notes → after.answers ≡ before.answers ++ answers → Leads (silent O) state state before after p (Done value)
leads_kept O state before after p value notes answers kept noted logged =
    record { notes = notes; answers = answers; noted = noted; logged = logged; taken = refl; counted = refl; path = kept.path }
