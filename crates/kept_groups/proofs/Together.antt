-- Paths through a computation whose notes come with its value.
--     path-value        a path to a value is one of the computation itself, with the notes of the value
--     path-question     a path to a question is one of the computation itself, with some notes
use Rattle.std.proofs.Common.{◌≡◌, ◌⊎◌, inl, inr, List, [], ◌∷◌, ◌++◌, refl, sym, ap, ◌∙◌, subst, append_assoc, append-nil}
use Rattle.farkas_check.specs.declared.answer.Answer.{Answer}
use Rattle.farkas_check.specs.declared.question.Question.{Question}
use Rattle.posing.specs.declared.note.Note.{Note}
use Rattle.posing.specs.Posing.{Posing, Done, Noted, Asked, Path, here, noted, asked}
use Rattle.analysis.specs.Apart.{apart_from}

-- ---- how a path begins

-- nothing was led on
record IsSame {A : Type 0} (p q : Posing A) (notes : List Note) (answers : List Answer) : Type 0 where
  same : q ≡ p
  notes_are : notes ≡ []
  answers_are : answers ≡ []

from-value : {A : Type 0} (Good : Question → Answer → Type 0) (value : A) (q : Posing A) (notes : List Note) (answers : List Answer)
    → Path Good (Done value) notes answers q → IsSame (Done value) q notes answers
from-value Good value _ _ _ (here _) = record { same = refl; notes_are = refl; answers_are = refl }

record IsLedOn {A : Type 0} (Good : Question → Answer → Type 0) (question : Question) (next : Answer → Posing A) (q : Posing A) (notes : List Note) (answers : List Answer) : Type 0 where
  answer : Answer
  others : List Answer
  answers_are : answers ≡ answer ∷ others
  good : Good question answer
  path : Path Good (next answer) notes others q

from-question : {A : Type 0} (Good : Question → Answer → Type 0) (question : Question) (next : Answer → Posing A) (q : Posing A) (notes : List Note) (answers : List Answer)
    → Path Good (Asked question next) notes answers q → IsSame (Asked question next) q notes answers ⊎ IsLedOn Good question next q notes answers
from-question Good question next _ _ _ (here _) = inl (record { same = refl; notes_are = refl; answers_are = refl })
from-question Good question next _ _ _ (asked _ answer _ _ others _ good path) = inr (record { answer = answer; others = others; answers_are = refl; good = good; path = path })

-- ---- what stands at the head of a computation

abbrev IsAsking : {A : Type 0} → Posing A → Type 0
IsAsking (Done value) = ⊥
IsAsking (Noted notes next) = ⊥
IsAsking (Asked question next) = Unit {0}

abbrev question_of : {A : Type 0} → Question → Posing A → Question
question_of other (Done value) = other
question_of other (Noted notes next) = other
question_of other (Asked question next) = question

abbrev value_of : {A : Type 0} → A → Posing A → A
value_of other (Done value) = value
value_of other (Noted notes next) = other
value_of other (Asked question next) = other

asking : {A : Type 0} (question : Question) (next : Answer → Posing A) (q : Posing A) → q ≡ Asked question next → IsAsking q
asking question next q e = subst IsAsking (sym e) tt

-- ---- to a value

pub record IsWithNotes {A : Type 0} (Good : Question → Answer → Type 0) (before : List Note) (p : Posing A) (answers : List Answer) (made : A × List Note) : Type 0 where
  pub own : List Note
  pub are : made.1 ≡ before ++ own
  pub path : Path Good p own answers (Done made.0)

with-answers : {A : Type 0} (Good : Question → Answer → Type 0) (p q : Posing A) (notes : List Note) (answers others : List Answer) → answers ≡ others → Path Good p notes others q → Path Good p notes answers q
with-answers Good p q notes answers others same path = subst (λ taken. Path Good p notes taken q) (sym same) path

pub path-value : {A : Type 0} (Good : Question → Answer → Type 0) (before : List Note) (p : Posing A) (notes : List Note) (answers : List Answer) (made : A × List Note)
    → Path Good (apart_from before p) notes answers (Done made) → IsWithNotes Good before p answers made
unfolding apart_from
path-value Good before (Done x) notes answers made path =
    let end = from-value Good (x, before) (Done made) notes answers path in
    let same : made ≡ (x, before) = ap (value_of made) end.same in
    record {
      own = [];
      are = ap (λ m. m.1) same ∙ sym (append-nil before);
      path = with-answers Good (Done x) (Done made.0) [] answers [] end.answers_are (subst (λ y. Path Good (Done x) [] [] (Done y)) (sym (ap (λ m. m.0) same)) (here (Done x)));
    }
path-value Good before (Noted first p) notes answers made path =
    let rest = path-value Good (before ++ first) p notes answers made path in
    record {
      own = first ++ rest.own;
      are = rest.are ∙ append_assoc before first rest.own;
      path = noted first rest.own answers p (Done made.0) rest.path;
    }
path-value {A = A} Good before (Asked question next) notes answers made path =
    go (from-question Good question (λ a. apart_from before (next a)) (Done made) notes answers path) (λ a more others. path-value Good before (next a) more others made)
  where
    go : IsSame (Asked question (λ a. apart_from before (next a))) (Done made) notes answers ⊎ IsLedOn Good question (λ a. apart_from before (next a)) (Done made) notes answers
        → ((a : Answer) (more : List Note) (others : List Answer) → Path Good (apart_from before (next a)) more others (Done made) → IsWithNotes Good before (next a) others made)
        → IsWithNotes Good before (Asked question next) answers made
    go (inl end) rest = absurd (asking question (λ a. apart_from before (next a)) (Done made) end.same)
    go (inr step) rest =
        let one = rest step.answer notes step.others step.path in
        record {
          own = one.own;
          are = one.are;
          path = with-answers Good (Asked question next) (Done made.0) one.own answers (step.answer ∷ step.others) step.answers_are
              (asked question step.answer next one.own step.others (Done made.0) step.good one.path);
        }

-- ---- to a question

pub record IsAtQuestion {A : Type 0} (Good : Question → Answer → Type 0) (p : Posing A) (answers : List Answer) (question : Question) : Type 0 where
  pub own : List Note
  pub next : Answer → Posing A
  pub path : Path Good p own answers (Asked question next)

pub path-question : {A : Type 0} (Good : Question → Answer → Type 0) (before : List Note) (p : Posing A) (notes : List Note) (answers : List Answer) (question : Question) (next : Answer → Posing (A × List Note))
    → Path Good (apart_from before p) notes answers (Asked question next) → IsAtQuestion Good p answers question
unfolding apart_from
path-question Good before (Done x) notes answers question next path =
    let end = from-value Good (x, before) (Asked question next) notes answers path in
    absurd (asking question next (Done (x, before)) (sym end.same))
path-question Good before (Noted first p) notes answers question next path =
    let rest = path-question Good (before ++ first) p notes answers question next path in
    record { own = first ++ rest.own; next = rest.next; path = noted first rest.own answers p (Asked question rest.next) rest.path }
path-question {A = A} Good before (Asked other more) notes answers question next path =
    go (from-question Good other (λ a. apart_from before (more a)) (Asked question next) notes answers path) (λ a own others. path-question Good before (more a) own others question next)
  where
    go : IsSame (Asked other (λ a. apart_from before (more a))) (Asked question next) notes answers ⊎ IsLedOn Good other (λ a. apart_from before (more a)) (Asked question next) notes answers
        → ((a : Answer) (own : List Note) (others : List Answer) → Path Good (apart_from before (more a)) own others (Asked question next) → IsAtQuestion Good (more a) others question)
        → IsAtQuestion Good (Asked other more) answers question
    go (inl end) rest =
        let same : question ≡ other = ap (question_of question) end.same in
        record {
          own = [];
          next = more;
          path = with-answers Good (Asked other more) (Asked question more) [] answers [] end.answers_are
              (subst (λ q. Path Good (Asked other more) [] [] (Asked q more)) (sym same) (here (Asked other more)));
        }
    go (inr step) rest =
        let one = rest step.answer notes step.others step.path in
        record {
          own = one.own;
          next = one.next;
          path = with-answers Good (Asked other more) (Asked question one.next) one.own answers (step.answer ∷ step.others) step.answers_are
              (asked other step.answer more one.own step.others (Asked question one.next) step.good one.path);
        }
