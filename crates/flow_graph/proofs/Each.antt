-- What holds of each element of a list, by recursion.
use Rattle.std.proofs.Common.{◌≡◌, ℕ, zero, suc, ◌+◌, List, [], ◌∷◌, ◌++◌, Some, refl, subst, arith}
use Rattle.std.specs.Prelude.{slice_get}

abbrev pub Each : {X : Type 0} → (X → Type 0) → List X → Type 0
Each P [] = Unit {0}
Each P (x ∷ xs) = P x × Each P xs

pub each_both : {X : Type 0} (P : X → Type 0) (xs ys : List X) → Each P xs → Each P ys → Each P (xs ++ ys)
each_both P [] ys a b = b
each_both P (x ∷ xs) ys a b = (a.0, each_both P xs ys a.1 b)

pub each_left : {X : Type 0} (P : X → Type 0) (xs ys : List X) → Each P (xs ++ ys) → Each P xs
each_left P [] ys a = tt
each_left P (x ∷ xs) ys a = (a.0, each_left P xs ys a.1)

pub each_right : {X : Type 0} (P : X → Type 0) (xs ys : List X) → Each P (xs ++ ys) → Each P ys
each_right P [] ys a = a
each_right P (x ∷ xs) ys a = each_right P xs ys a.1

pub each_get : {X : Type 0} (P : X → Type 0) (xs : List X) (k : ℕ) (x : X) → Each P xs → slice_get xs k ≡ Some x → P x
each_get P [] k x a e = absurd (cc e)
each_get P (y ∷ ys) zero x a e = let same : y ≡ x = cc in subst P same a.0
each_get P (y ∷ ys) (suc k) x a e = each_get P ys k x a.1 e

-- an element has a place in the list
abbrev pub Has : {X : Type 0} → List X → X → Type 0
Has xs x = (k : ℕ) × (slice_get xs k ≡ Some x)

pub each_has : {X : Type 0} (P : X → Type 0) (xs : List X) → ((k : ℕ) (x : X) → slice_get xs k ≡ Some x → P x) → Each P xs
each_has P [] h = tt
each_has P (x ∷ xs) h = (h 0 x refl, each_has P xs (λ k y e. h (suc k) y e))

-- the same with the places of the elements, of which the first is given
abbrev pub EachFrom : {X : Type 0} → (ℕ → X → Type 0) → ℕ → List X → Type 0
EachFrom P n [] = Unit {0}
EachFrom P n (x ∷ xs) = P n x × EachFrom P (suc n) xs

pub from_get : {X : Type 0} (P : ℕ → X → Type 0) (n : ℕ) (xs : List X) (k m : ℕ) (x : X) → n + k ≡ m → EachFrom P n xs → slice_get xs k ≡ Some x → P m x
from_get P n [] k m x place a e = absurd (cc e)
from_get P n (y ∷ ys) zero m x place a e =
    let same : y ≡ x = cc in let there : n ≡ m = omega arith in
    subst (λ z. P m z) same (subst (λ i. P i y) there a.0)
from_get P n (y ∷ ys) (suc k) m x place a e = let there : suc n + k ≡ m = omega arith in from_get P (suc n) ys k m x there a.1 e

pub from_has : {X : Type 0} (P : ℕ → X → Type 0) (n : ℕ) (xs : List X) → ((k m : ℕ) (x : X) → n + k ≡ m → slice_get xs k ≡ Some x → P m x) → EachFrom P n xs
from_has P n [] h = tt
from_has P n (x ∷ xs) h =
    let place : n + 0 ≡ n = omega arith in
    (h 0 n x place refl, from_has P (suc n) xs (λ k m y e there. let place : n + suc k ≡ m = omega arith in h (suc k) m y place there))
