-- What computations in 128 bits make, where no step of them leaves 128 bits.
use Rattle.std.proofs.Common.{Bool, true, false, cond, not, List, [], ◌∷◌, ◌++◌}
use Rattle.std.specs.Prelude.{IsOkAnd, Option, Some, Result, Ok, Err}
use Rattle.std.specs.List.{AllByRecursion, cons_option}
use Rattle.items.specs.Gives.{◌>>=◌}
use Rattle.items.proofs.Each.{each-append}
use Rattle.cones.specs.InBits.{Made, behind, each, all_of, are_all, both, negation, first_of}

-- it is made, whatever it is
abbrev pub IsMade : {X : Type 0} → Made X → Type 0
IsMade r = IsOkAnd r (λ x. Unit {0})

pub IsOkAnd-bind : {X Y E : Type 0} (P : X → Type 0) (Q : Y → Type 0) (r : Result X E) (f : X → Result Y E) → IsOkAnd r P → ((x : X) → P x → IsOkAnd (f x) Q) → IsOkAnd (r >>= f) Q
IsOkAnd-bind P Q (Ok x) f h k = k x h
IsOkAnd-bind P Q (Err step) f h k = absurd h

pub IsOkAnd-more : {X E : Type 0} (P Q : X → Type 0) (r : Result X E) → ((x : X) → P x → Q x) → IsOkAnd r P → IsOkAnd r Q
IsOkAnd-more P Q (Ok x) more h = more x h
IsOkAnd-more P Q (Err step) more h = absurd h

-- ---- lists

pub behind-makes : {X : Type 0} (P : X → Type 0) (front : List X) (rest : Made (List X)) → AllByRecursion P front → IsOkAnd rest (AllByRecursion P) → IsOkAnd (behind front rest) (AllByRecursion P)
behind-makes P front rest h k = IsOkAnd-bind (AllByRecursion P) (AllByRecursion P) rest (λ made. Ok (front ++ made)) k (λ made l. each-append P front made h l)

pub each-makes : {X Y : Type 0} (P : X → Type 0) (Q : Y → Type 0) (f : X → Made Y) → ((x : X) → P x → IsOkAnd (f x) Q) → (xs : List X) → AllByRecursion P xs → IsOkAnd (each f xs) (AllByRecursion Q)
each-makes P Q f makes [] h = tt
each-makes P Q f makes (x ∷ xs) h =
    IsOkAnd-bind Q (AllByRecursion Q) (f x) (λ y. behind (y ∷ []) (each f xs)) (makes x h.0) (λ y k. behind-makes Q (y ∷ []) (each f xs) (k, tt) (each-makes P Q f makes xs h.1))

pub all_of-makes : {X Y : Type 0} (P : X → Type 0) (Q : Y → Type 0) (f : X → Made (List Y)) → ((x : X) → P x → IsOkAnd (f x) (AllByRecursion Q)) → (xs : List X) → AllByRecursion P xs → IsOkAnd (all_of f xs) (AllByRecursion Q)
all_of-makes P Q f makes [] h = tt
all_of-makes P Q f makes (x ∷ xs) h =
    IsOkAnd-bind (AllByRecursion Q) (AllByRecursion Q) (f x) (λ ys. behind ys (all_of f xs)) (makes x h.0) (λ ys k. behind-makes Q ys (all_of f xs) k (all_of-makes P Q f makes xs h.1))

-- ---- tests

pub both-makes : (a b : Made Bool) → IsMade a → IsMade b → IsMade (both a b)
both-makes a b h k = IsOkAnd-bind (λ x. Unit {0}) (λ x. Unit {0}) a (λ x. cond x b (Ok false)) h (λ x l. go x)
  where
    go : (x : Bool) → IsMade (cond x b (Ok false))
    go true = k
    go false = tt

pub negation-makes : (a : Made Bool) → IsMade a → IsMade (negation a)
negation-makes a h = IsOkAnd-bind (λ x. Unit {0}) (λ x. Unit {0}) a (λ x. Ok (not x)) h (λ x l. tt)

pub are_all-makes : {X : Type 0} (test : X → Made Bool) (xs : List X) → AllByRecursion (λ x. IsMade (test x)) xs → IsMade (are_all test xs)
are_all-makes test [] h = tt
are_all-makes test (x ∷ xs) h = both-makes (test x) (are_all test xs) h.0 (are_all-makes test xs h.1)

-- what is found is one of the elements
pub first_of-makes : {X : Type 0} (P : X → Type 0) (test : X → Made Bool) → ((x : X) → P x → IsMade (test x)) → (xs : List X) → AllByRecursion P xs → IsOkAnd (first_of test xs) (λ found. AllByRecursion P (cons_option found []))
first_of-makes P test makes [] h = tt
first_of-makes {X = X} P test makes (x ∷ xs) h =
    IsOkAnd-bind (λ (b : Bool). Unit {0}) Found (test x) (λ b. cond b (Ok (Some x)) (first_of test xs)) (makes x h.0) (λ b k. go b (first_of-makes P test makes xs h.1))
  where
    Found : Option X → Type 0
    Found found = AllByRecursion P (cons_option found [])

    go : (b : Bool) → IsOkAnd (first_of test xs) Found → IsOkAnd (cond b (Ok (Some x)) (first_of test xs)) Found
    go true later = (h.0, tt)
    go false later = later
