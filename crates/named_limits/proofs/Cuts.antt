-- Paths taken apart.
--     from-Done, from-Noted, from-Asked      how a path begins
--     path-cut                               a path through two computations in a row
use Rattle.std.proofs.Common.{◌≡◌, List, [], ◌∷◌, ◌++◌, refl, sym, ap, ◌∙◌, append_assoc}
use Rattle.farkas_check.specs.declared.answer.Answer.{Answer}
use Rattle.farkas_check.specs.declared.question.Question.{Question}
use Rattle.posing.specs.declared.note.Note.{Note}
use Rattle.posing.specs.Posing.{Posing, Done, Noted, Asked, ◌>>=◌, here, noted, asked}
use Rattle.named_limits.specs.Leading.{LeadsTo}

-- nothing leads on from a value
pub record IsDone {A : Type 0} (value : A) (notes : List Note) (answers : List Answer) (last : A) : Type 0 where
  pub notes_are : notes ≡ []
  pub answers_are : answers ≡ []
  pub same : last ≡ value

pub from-Done : {A : Type 0} (value last : A) (notes : List Note) (answers : List Answer) → LeadsTo (Done value) notes answers (Done last) → IsDone value notes answers last
from-Done value _ _ _ (here _) = record { notes_are = refl; answers_are = refl; same = refl }

pub record IsNoted {A : Type 0} (first notes : List Note) (next : Posing A) (answers : List Answer) (last : A) : Type 0 where
  pub more : List Note
  pub notes_are : notes ≡ first ++ more
  pub path : LeadsTo next more answers (Done last)

pub from-Noted : {A : Type 0} (first notes : List Note) (next : Posing A) (answers : List Answer) (last : A) → LeadsTo (Noted first next) notes answers (Done last) → IsNoted first notes next answers last
from-Noted first _ next _ last (noted _ more _ _ _ path) = record { more = more; notes_are = refl; path = path }

pub record IsAsked {A : Type 0} (next : Answer → Posing A) (notes : List Note) (answers : List Answer) (last : A) : Type 0 where
  pub answer : Answer
  pub others : List Answer
  pub answers_are : answers ≡ answer ∷ others
  pub path : LeadsTo (next answer) notes others (Done last)

pub from-Asked : {A : Type 0} (question : Question) (next : Answer → Posing A) (notes : List Note) (answers : List Answer) (last : A)
    → LeadsTo (Asked question next) notes answers (Done last) → IsAsked next notes answers last
from-Asked question next _ _ last (asked _ answer _ _ others _ good path) = record { answer = answer; others = others; answers_are = refl; path = path }

-- two computations in a row: where the first one ends
pub record IsCut {A B : Type 0} (p : Posing A) (f : A → Posing B) (notes : List Note) (answers : List Answer) (last : B) : Type 0 where
  pub value : A
  pub first : List Note
  pub more : List Note
  pub notes_are : notes ≡ first ++ more
  pub share : List Answer
  pub others : List Answer
  pub answers_are : answers ≡ share ++ others
  pub leads : LeadsTo p first share (Done value)
  pub rest : LeadsTo (f value) more others (Done last)

pub path-cut : {A B : Type 0} (p : Posing A) (f : A → Posing B) (notes : List Note) (answers : List Answer) (last : B) → LeadsTo (p >>= f) notes answers (Done last) → IsCut p f notes answers last
unfolding ◌>>=◌
path-cut (Done x) f notes answers last path =
    record { value = x; first = []; more = notes; notes_are = refl; share = []; others = answers; answers_are = refl; leads = here (Done x); rest = path }
path-cut (Noted own p) f notes answers last path =
    let step = from-Noted own notes (p >>= f) answers last path in
    let cut = path-cut p f step.more answers last step.path in
    record {
      value = cut.value;
      first = own ++ cut.first;
      more = cut.more;
      notes_are = step.notes_are ∙ ap (λ ns. own ++ ns) cut.notes_are ∙ sym (append_assoc own cut.first cut.more);
      share = cut.share;
      others = cut.others;
      answers_are = cut.answers_are;
      leads = noted own cut.first cut.share p (Done cut.value) cut.leads;
      rest = cut.rest;
    }
path-cut (Asked question next) f notes answers last path =
    let step = from-Asked question (λ a. next a >>= f) notes answers last path in
    let cut = path-cut (next step.answer) f notes step.others last step.path in
    record {
      value = cut.value;
      first = cut.first;
      more = cut.more;
      notes_are = cut.notes_are;
      share = step.answer ∷ cut.share;
      others = cut.others;
      answers_are = step.answers_are ∙ ap (λ rest. step.answer ∷ rest) cut.answers_are;
      leads = asked question step.answer next cut.first cut.share (Done cut.value) tt cut.leads;
      rest = cut.rest;
    }
