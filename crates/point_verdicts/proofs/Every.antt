-- A test of each element of a list, which ends at the first that fails: the steps of its loop, and
-- what it tells of the elements.
use Rattle.std.proofs.Common.{◌≡◌, ℕ, ◌+◌, ◌<◌, ◌≤◌, Bool, true, false, length, drop, get_or, List, [], ◌∷◌, Result, Ok, Err, IsErrAnd, refl, sym, ap, subst, ◌∙◌}
use Rattle.std.specs.Prelude.{if◌then◌else◌}
use Rattle.std.specs.List.{AllByRecursion}
use Rattle.std.proofs.lemmas.Bool.{false≢true}
use Rattle.std.proofs.lemmas.List.{drop_all, drop_more}
use Rattle.farkas_check.specs.Asking.{Asking}
use Rattle.posing.specs.declared.error.WorkError.{WorkError}
use Rattle.posing.specs.declared.log.Log.{Log}
use Rattle.posing.specs.Posing.{Posing, Done, ◌>>=◌, Always}
use Rattle.posing.specs.Follows.{Follows, Leads}
use Rattle.posing.proofs.Paths.{always_bind, always_weaker}
use Rattle.posing.proofs.Steps.{all_left, at_end, error_first, first_left, in_other_words}
use Rattle.point_verdicts.specs.Exclusions.{every}

-- what is left after one element, behind which these stand
abbrev rest_after : {A : Type 0} → (A → Posing Bool) → List A → Bool → Posing Bool
rest_after test xs passes = if passes then every test xs else Done false

at-index : {A : Type 0} (test : A → Posing Bool) (xs : List A) (i : ℕ) (x : A) → i < length xs → x ≡ get_or xs i x → every test (drop i xs) ≡ test x >>= rest_after test (drop (i + 1) xs)
at-index test xs i x lt is = ap (every test) (drop_more xs i x lt ∙ ap (λ y. y ∷ drop (i + 1) xs) (sym is))

-- ---- for a loop

pub every-next : {S A : Type 0} {O : Asking S} {old now new : S} {before between after : Log} {whole : Posing Bool} {x : A} {passes : Bool} (test : A → Posing Bool) (xs : List A) (i : ℕ)
    → Leads O old now before between whole (every test (drop i xs)) → i < length xs → x ≡ get_or xs i x → Follows O now new between after (Ok passes) (test x) → passes ≡ true
    → Leads O old new before after whole (every test (drop (i + 1) xs))
every-next {S} {A} {O} {old} {now} {new} {before} {between} {after} {whole} {x} {passes} test xs i leads lt is one goes_on =
    subst (λ left. Leads O old new before after whole left) (ap (rest_after test (drop (i + 1) xs)) goes_on)
    (first_left (rest_after test (drop (i + 1) xs)) leads (at-index test xs i x lt is) one refl)

pub every-ends : {S A : Type 0} {O : Asking S} {old now new : S} {before between after : Log} {whole : Posing Bool} {x : A} {passes : Bool} (test : A → Posing Bool) (xs : List A) (i : ℕ)
    → Leads O old now before between whole (every test (drop i xs)) → i < length xs → x ≡ get_or xs i x → Follows O now new between after (Ok passes) (test x) → passes ≡ false
    → Follows O old new before after (Ok false) whole
every-ends {x = x} test xs i leads lt is one fails =
    all_left (first_left (rest_after test (drop (i + 1) xs)) leads (at-index test xs i x lt is) one refl)
    (in_other_words (sym (ap (rest_after test (drop (i + 1) xs)) fails)) (at_end refl))

pub every-halts : {S A : Type 0} {O : Asking S} {old now new : S} {before between after : Log} {result : Result Bool WorkError} {whole : Posing Bool} {x : A} {error : WorkError} (test : A → Posing Bool) (xs : List A) (i : ℕ)
    → Leads O old now before between whole (every test (drop i xs)) → i < length xs → x ≡ get_or xs i x → Follows O now new between after (Err error) (test x) → IsErrAnd result (λ e. e ≡ error)
    → Follows O old new before after result whole
every-halts {x = x} test xs i leads lt is one failed =
    all_left leads (in_other_words (sym (at-index test xs i x lt is)) (error_first (rest_after test (drop (i + 1) xs)) one refl failed))

pub every-passes : {S A : Type 0} {O : Asking S} {old new : S} {before after : Log} {whole : Posing Bool} (test : A → Posing Bool) (xs : List A) (i : ℕ)
    → Leads O old new before after whole (every test (drop i xs)) → length xs ≤ i → Follows O old new before after (Ok true) whole
every-passes test xs i leads end = all_left leads (in_other_words (sym (ap (every test) (drop_all i xs end))) (at_end refl))

-- ---- what it tells

abbrev pub TellsOf : Type 0 → Bool → Type 0
TellsOf P passes = passes ≡ true → P

module _ {A : Type 0} (test : A → Posing Bool) (Q P : A → Type 0) (tells : (x : A) → Q x → Always (TellsOf (P x)) (test x)) where
  -- where each of them is known so, and all pass, each is so
  pub every-tells : (xs : List A) → AllByRecursion Q xs → Always (TellsOf (AllByRecursion P xs)) (every test xs)
  every-tells [] known = λ e. tt
  every-tells (x ∷ xs) known =
      always_bind (TellsOf (P x)) (TellsOf (AllByRecursion P (x ∷ xs))) (test x) (rest_after test xs) (tells x known.0) (λ passes told. by passes told (every-tells xs known.1))
    where
      by : (passes : Bool) → TellsOf (P x) passes → Always (TellsOf (AllByRecursion P xs)) (every test xs) → Always (TellsOf (AllByRecursion P (x ∷ xs))) (rest_after test xs passes)
      by false told rest = λ e. absurd (false≢true e)
      by true told rest = always_weaker (TellsOf (AllByRecursion P xs)) (TellsOf (AllByRecursion P (x ∷ xs))) (every test xs) (λ passes later e. (told refl, later e)) rest
