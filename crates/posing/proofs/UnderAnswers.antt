-- What holds of a computation's value, as long as each answer is good for its question.
--     under-always        what holds under all true answers, where good ones are true
--     under-bind          two computations in a row
--     under-weaker        a weaker property
--     under-both          two properties
--     under-each          what each step of a loop keeps
--     under-down          the same of a loop down to zero
--     under-until         rounds that stop before a count that falls comes to nothing
--     under-path          what is left after good answers
--     under-has           the value of a call that follows the computation
--     under-result        the same of a call that may fail
--     passing-always      what holds under all true answers holds as long as they pass
--     passing-has         the value of a call that follows the computation, as its answers pass
--     passing-result      the same of a call that may fail
use Rattle.std.proofs.Common.{◌≡◌, ℕ, zero, suc, ◌<◌, Bool, true, false, List, [], ◌∷◌, Result, Ok, Err, refl, arith}
use Rattle.std.specs.Prelude.{IfOk, if◌then◌else◌}
use Rattle.farkas_check.specs.declared.answer.Answer.{Answer}
use Rattle.farkas_check.specs.declared.question.Question.{Question}
use Rattle.farkas_check.specs.Asking.{Asking}
use Rattle.farkas_check.specs.Meaning.{IsTrueAnswer}
use Rattle.posing.specs.declared.error.WorkError.{WorkError}
use Rattle.posing.specs.declared.log.Log.{Log}
use Rattle.posing.specs.declared.note.Note.{Note}
use Rattle.posing.specs.Follows.{Follows, IsGood}
use Rattle.posing.specs.Posing.{Posing, Done, Noted, Asked, ◌>>=◌, each, down, until, Always, AlwaysUnder, AlwaysPassing, IsPassing, Path, here, noted, asked}

pub under-always : {A : Type 0} (Good : Question → Answer → Type 0) → ((question : Question) (answer : Answer) → Good question answer → IsTrueAnswer question answer)
    → (P : A → Type 0) (p : Posing A) → Always P p → AlwaysUnder Good P p
under-always Good true_answers P (Done x) h = h
under-always Good true_answers P (Noted notes p) h = under-always Good true_answers P p h
under-always Good true_answers P (Asked question next) h = λ answer good. under-always Good true_answers P (next answer) (h answer (true_answers question answer good))

pub under-bind : {A B : Type 0} (Good : Question → Answer → Type 0) (P : A → Type 0) (Q : B → Type 0) (p : Posing A) (f : A → Posing B)
    → AlwaysUnder Good P p → ((x : A) → P x → AlwaysUnder Good Q (f x)) → AlwaysUnder Good Q (p >>= f)
unfolding ◌>>=◌
under-bind Good P Q (Done x) f h rest = rest x h
under-bind Good P Q (Noted notes p) f h rest = under-bind Good P Q p f h rest
under-bind Good P Q (Asked question next) f h rest = λ answer good. under-bind Good P Q (next answer) f (h answer good) rest

pub under-weaker : {A : Type 0} (Good : Question → Answer → Type 0) (P Q : A → Type 0) (p : Posing A) → ((x : A) → P x → Q x) → AlwaysUnder Good P p → AlwaysUnder Good Q p
under-weaker Good P Q (Done x) weaker h = weaker x h
under-weaker Good P Q (Noted notes p) weaker h = under-weaker Good P Q p weaker h
under-weaker Good P Q (Asked question next) weaker h = λ answer good. under-weaker Good P Q (next answer) weaker (h answer good)

pub under-both : {A : Type 0} (Good : Question → Answer → Type 0) (P Q : A → Type 0) (p : Posing A) → AlwaysUnder Good P p → AlwaysUnder Good Q p → AlwaysUnder Good (λ x. P x × Q x) p
under-both Good P Q (Done x) h k = (h, k)
under-both Good P Q (Noted notes p) h k = under-both Good P Q p h k
under-both Good P Q (Asked question next) h k = λ answer good. under-both Good P Q (next answer) (h answer good) (k answer good)

pub under-each : {A B : Type 0} (Good : Question → Answer → Type 0) (Keeps : List A → B → Type 0) (step : B → A → Posing B) (made : B) (xs : List A)
    → ((x : A) (rest : List A) (made : B) → Keeps (x ∷ rest) made → AlwaysUnder Good (Keeps rest) (step made x))
    → Keeps xs made → AlwaysUnder Good (Keeps []) (each step made xs)
under-each Good Keeps step made [] kept h = h
under-each Good Keeps step made (x ∷ xs) kept h =
    under-bind Good (Keeps xs) (Keeps []) (step made x) (λ next. each step next xs) (kept x xs made h) (λ next now. under-each Good Keeps step next xs kept now)

pub under-down : {B : Type 0} (Good : Question → Answer → Type 0) (Keeps : B → Type 0) (step : B → ℕ → Posing B) (made : B) (n : ℕ)
    → ((made : B) (n : ℕ) → Keeps made → AlwaysUnder Good Keeps (step made n)) → Keeps made → AlwaysUnder Good Keeps (down step made n)
under-down Good Keeps step made zero kept h = h
under-down Good Keeps step made (suc n) kept h =
    under-bind Good Keeps Keeps (step made n) (λ next. down step next n) (kept made n h) (λ next now. under-down Good Keeps step next n kept now)

-- after a round: what is kept; the size falls where it says so, and else it is fine
pub record IsRound {B : Type 0} (Keeps Fine : B → Type 0) (size : B → ℕ) (made : B) (next : B × Bool) : Type 0 where
  pub keeps : Keeps next.0
  pub falls : next.1 ≡ true → size next.0 < size made
  pub fine : next.1 ≡ false → Fine next.0

pub under-until : {B : Type 0} (Good : Question → Answer → Type 0) (Keeps Fine : B → Type 0) (size : B → ℕ) (step : B → Posing (B × Bool)) (n : ℕ) (made : B)
    → ((made : B) → Keeps made → AlwaysUnder Good (IsRound Keeps Fine size made) (step made)) → size made < n → Keeps made
    → AlwaysUnder Good (λ x. Keeps x × Fine x) (until step n made)
under-until Good Keeps Fine size step zero made kept lt h = absurd (omega (arith, lt))
under-until {B = B} Good Keeps Fine size step (suc n) made kept lt h =
    under-bind Good (IsRound Keeps Fine size made) (λ x. Keeps x × Fine x) (step made) (λ next. if next.1 then until step n next.0 else Done next.0) (kept made h)
    (λ next now. go next.1 next.0 now.keeps now.falls now.fine (λ less. under-until Good Keeps Fine size step n next.0 kept less now.keeps))
  where
    go : (more : Bool) (next : B) → Keeps next → (more ≡ true → size next < size made) → (more ≡ false → Fine next) → (size next < n → AlwaysUnder Good (λ x. Keeps x × Fine x) (until step n next))
        → AlwaysUnder Good (λ x. Keeps x × Fine x) (if more then until step n next else Done next)
    go true next k falls fine later = later (let less = falls refl in omega (arith, less, lt))
    go false next k falls fine later = (k, fine refl)

pub under-path : {A : Type 0} (Known Good : Question → Answer → Type 0) → ((question : Question) (answer : Answer) → Known question answer → Good question answer)
    → (P : A → Type 0) (p q : Posing A) (notes : List Note) (answers : List Answer) → Path Known p notes answers q → AlwaysUnder Good P p → AlwaysUnder Good P q
under-path Known Good good P _ _ _ _ (here p) h = h
under-path Known Good good P _ _ _ _ (noted first rest answers p q path) h = under-path Known Good good P p q rest answers path h
under-path Known Good good P _ _ _ _ (asked question answer next notes answers q known path) h =
    under-path Known Good good P (next answer) q notes answers path (h answer (good question answer known))

pub under-has : {S A : Type 0} {O : Asking S} {old new : S} {before after : Log} {p : Posing A} {value : A} (Good : Question → Answer → Type 0)
    → ((question : Question) (answer : Answer) → IsGood O.allows question answer → Good question answer)
    → (P : A → Type 0) → Follows O old new before after (Ok value) p → AlwaysUnder Good P p → P value
under-has {O = O} {p = p} {value = value} Good good P follows h =
    under-path (IsGood O.allows) Good good P p (Done value) follows.comes.notes follows.comes.answers follows.comes.path h

pub under-result : {S A : Type 0} {O : Asking S} {old new : S} {before after : Log} {p : Posing A} (Good : Question → Answer → Type 0)
    → ((question : Question) (answer : Answer) → IsGood O.allows question answer → Good question answer)
    → (P : A → Type 0) (r : Result A WorkError) → Follows O old new before after r p → AlwaysUnder Good P p → IfOk r P
under-result Good good P (Ok value) follows h = under-has Good good P follows h
under-result Good good P (Err error) follows h = tt

-- ---- answers that pass

pub passing-always : {A : Type 0} (P : A → Type 0) (p : Posing A) → Always P p → AlwaysPassing P p
passing-always P p h = under-always IsPassing (λ question answer good. good.is_true) P p h

good-passing : {allows : Question → Answer → Type 0} (question : Question) (answer : Answer) → IsGood allows question answer → IsPassing question answer
good-passing question answer good = record { is_true = good.is_true; passes = good.passes }

pub passing-has : {S A : Type 0} {O : Asking S} {old new : S} {before after : Log} {p : Posing A} {value : A}
    → (P : A → Type 0) → Follows O old new before after (Ok value) p → AlwaysPassing P p → P value
passing-has P follows h = under-has IsPassing good-passing P follows h

pub passing-result : {S A : Type 0} {O : Asking S} {old new : S} {before after : Log} {p : Posing A}
    → (P : A → Type 0) (r : Result A WorkError) → Follows O old new before after r p → AlwaysPassing P p → IfOk r P
passing-result P r follows h = under-result IsPassing good-passing P r follows h
