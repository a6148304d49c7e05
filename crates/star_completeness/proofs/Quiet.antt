-- What holds of a computation's value, as long as the answers pass and nothing is noted.
--     quiet-always        what holds whatever the answers are
--     quiet-any           a property of all values
--     quiet-weaker        a weaker property
--     quiet-bind          two computations in a row
--     quiet-both          two properties
--     quiet-listed        a property of each element of a list
--     quiet-each          what each step of a loop keeps
--     quiet-found         what the step for an element of the list brings, and each other keeps
--     quiet-down          what each step of a loop down to zero keeps
--     quiet-path          what answers that pass lead to
use Rattle.std.proofs.Common.{◌≡◌, ℕ, zero, suc, ◌<◌, List, [], ◌∷◌, length, sym, subst, arith}
use Rattle.std.specs.Prelude.{slice_index_or}
use Rattle.std.specs.List.{AllByRecursion, Contains}
use Rattle.farkas_check.specs.declared.answer.Answer.{Answer}
use Rattle.transition_formula.proofs.Values.{none-of}
use Rattle.posing.specs.declared.note.Note.{Note}
use Rattle.posing.specs.Posing.{Posing, Done, Noted, Asked, ◌>>=◌, each, down, Always, IsPassing, Path, here, noted, asked}

-- its value has a property, as long as the answers pass and nothing is noted
abbrev pub AlwaysQuiet : {A : Type 0} → (A → Type 0) → Posing A → Type 0
AlwaysQuiet P (Done value) = P value
AlwaysQuiet P (Noted notes next) = notes ≡ [] → AlwaysQuiet P next
AlwaysQuiet P (Asked question next) = (answer : Answer) → IsPassing question answer → AlwaysQuiet P (next answer)

pub quiet-always : {A : Type 0} (P : A → Type 0) (p : Posing A) → Always P p → AlwaysQuiet P p
quiet-always P (Done x) h = h
quiet-always P (Noted notes p) h = λ none. quiet-always P p h
quiet-always P (Asked question next) h = λ answer good. quiet-always P (next answer) (h answer good.is_true)

pub quiet-any : {A : Type 0} (P : A → Type 0) (p : Posing A) → ((x : A) → P x) → AlwaysQuiet P p
quiet-any P (Done x) h = h x
quiet-any P (Noted notes p) h = λ none. quiet-any P p h
quiet-any P (Asked question next) h = λ answer good. quiet-any P (next answer) h

pub quiet-weaker : {A : Type 0} (P Q : A → Type 0) (p : Posing A) → ((x : A) → P x → Q x) → AlwaysQuiet P p → AlwaysQuiet Q p
quiet-weaker P Q (Done x) weaker h = weaker x h
quiet-weaker P Q (Noted notes p) weaker h = λ none. quiet-weaker P Q p weaker (h none)
quiet-weaker P Q (Asked question next) weaker h = λ answer good. quiet-weaker P Q (next answer) weaker (h answer good)

pub quiet-bind : {A B : Type 0} (P : A → Type 0) (Q : B → Type 0) (p : Posing A) (f : A → Posing B) → AlwaysQuiet P p → ((x : A) → P x → AlwaysQuiet Q (f x)) → AlwaysQuiet Q (p >>= f)
unfolding ◌>>=◌
quiet-bind P Q (Done x) f h rest = rest x h
quiet-bind P Q (Noted notes p) f h rest = λ none. quiet-bind P Q p f (h none) rest
quiet-bind P Q (Asked question next) f h rest = λ answer good. quiet-bind P Q (next answer) f (h answer good) rest

pub quiet-both : {A : Type 0} (P Q : A → Type 0) (p : Posing A) → AlwaysQuiet P p → AlwaysQuiet Q p → AlwaysQuiet (λ x. P x × Q x) p
quiet-both P Q (Done x) h k = (h, k)
quiet-both P Q (Noted notes p) h k = λ none. quiet-both P Q p (h none) (k none)
quiet-both P Q (Asked question next) h k = λ answer good. quiet-both P Q (next answer) (h answer good) (k answer good)

pub quiet-listed : {A C : Type 0} (P : C → A → Type 0) (p : Posing A) (cs : List C) → AllByRecursion (λ c. AlwaysQuiet (P c) p) cs → AlwaysQuiet (λ x. AllByRecursion (λ c. P c x) cs) p
quiet-listed P p [] h = quiet-any (λ x. Unit {0}) p (λ x. tt)
quiet-listed P p (c ∷ cs) h = quiet-both (P c) (λ x. AllByRecursion (λ d. P d x) cs) p h.0 (quiet-listed P p cs h.1)

pub quiet-each : {A B : Type 0} (Keeps : B → Type 0) (step : B → A → Posing B) → ((made : B) (x : A) → Keeps made → AlwaysQuiet Keeps (step made x))
    → (xs : List A) (made : B) → Keeps made → AlwaysQuiet Keeps (each step made xs)
quiet-each Keeps step kept [] made h = h
quiet-each Keeps step kept (x ∷ xs) made h = quiet-bind Keeps Keeps (step made x) (λ next. each step next xs) (kept made x h) (λ next now. quiet-each Keeps step kept xs next now)

pub quiet-found : {A B : Type 0} (Keeps : B → Type 0) (step : B → A → Posing B) (x : A) → ((made : B) → AlwaysQuiet Keeps (step made x)) → ((made : B) (y : A) → Keeps made → AlwaysQuiet Keeps (step made y))
    → (xs : List A) → Contains xs x → (made : B) → AlwaysQuiet Keeps (each step made xs)
quiet-found {A = A} {B = B} Keeps step x brings kept xs found made = go xs found.0 found.1 found.2 made
  where
    go : (xs : List A) (k : ℕ) → k < length xs → slice_index_or xs k x ≡ x → (made : B) → AlwaysQuiet Keeps (each step made xs)
    go [] k low e made = absurd (omega (arith, low))
    go (y ∷ xs) zero low e made =
        quiet-bind Keeps Keeps (step made y) (λ next. each step next xs) (subst (λ z. AlwaysQuiet Keeps (step made z)) (sym e) (brings made)) (λ next now. quiet-each Keeps step kept xs next now)
    go (y ∷ xs) (suc k) low e made =
        quiet-bind (λ next. Unit {0}) Keeps (step made y) (λ next. each step next xs) (quiet-any (λ next. Unit {0}) (step made y) (λ next. tt)) (λ next any. go xs k (omega (arith, low)) e next)

pub quiet-down : {B : Type 0} (Keeps : B → Type 0) (step : B → ℕ → Posing B) → ((made : B) (n : ℕ) → Keeps made → AlwaysQuiet Keeps (step made n)) → (n : ℕ) (made : B) → Keeps made → AlwaysQuiet Keeps (down step made n)
quiet-down Keeps step kept zero made h = h
quiet-down Keeps step kept (suc n) made h = quiet-bind Keeps Keeps (step made n) (λ next. down step next n) (kept made n h) (λ next now. quiet-down Keeps step kept n next now)

pub quiet-path : {A : Type 0} (P : A → Type 0) (p q : Posing A) (notes : List Note) (answers : List Answer) → Path IsPassing p notes answers q → notes ≡ [] → AlwaysQuiet P p → AlwaysQuiet P q
quiet-path P _ _ _ _ (here p) none h = h
quiet-path P _ _ _ _ (noted first rest answers p q path) none h =
    let parts = none-of first rest none in quiet-path P p q rest answers path parts.1 (h parts.0)
quiet-path P _ _ _ _ (asked question answer next notes answers q good path) none h = quiet-path P (next answer) q notes answers path none (h answer good)
