-- Facts on std's `AllByRecursion`, by induction over the list: a list of which each element has a
-- property. That it says the same as `All` is `All-from_recursion` and `recursion_from_All` of
-- std's `Elements`.
use Rattle.std.proofs.Common.{◌≡◌, ℕ, zero, suc, Bool, map, List, [], ◌∷◌, ◌++◌, Some, refl, subst}
use Rattle.std.specs.Prelude.{IsTrue, slice_get}
use Rattle.std.specs.List.{AllByRecursion, list_all, flat_map}
use Rattle.std.proofs.lemmas.Bool.{and_parts, and_from}

-- ---- the property alone

pub each-more : {A : Type 0} (P Q : A → Type 0) → ((x : A) → P x → Q x) → (xs : List A) → AllByRecursion P xs → AllByRecursion Q xs
each-more P Q more [] each = tt
each-more P Q more (x ∷ xs) each = (more x each.0, each-more P Q more xs each.1)

pub each-any : {A : Type 0} (P : A → Type 0) → ((x : A) → P x) → (xs : List A) → AllByRecursion P xs
each-any P tells [] = tt
each-any P tells (x ∷ xs) = (tells x, each-any P tells xs)

pub each-both : {A : Type 0} (P Q : A → Type 0) (xs : List A) → AllByRecursion P xs → AllByRecursion Q xs → AllByRecursion (λ x. P x × Q x) xs
each-both P Q [] p q = tt
each-both P Q (x ∷ xs) p q = ((p.0, q.0), each-both P Q xs p.1 q.1)

-- ---- other lists

pub each-append : {A : Type 0} (P : A → Type 0) (xs ys : List A) → AllByRecursion P xs → AllByRecursion P ys → AllByRecursion P (xs ++ ys)
each-append P [] ys h k = k
each-append P (x ∷ xs) ys h k = (h.0, each-append P xs ys h.1 k)

pub each-front : {A : Type 0} (P : A → Type 0) (xs ys : List A) → AllByRecursion P (xs ++ ys) → AllByRecursion P xs
each-front P [] ys h = tt
each-front P (x ∷ xs) ys h = (h.0, each-front P xs ys h.1)

pub each-back : {A : Type 0} (P : A → Type 0) (xs ys : List A) → AllByRecursion P (xs ++ ys) → AllByRecursion P ys
each-back P [] ys h = h
each-back P (x ∷ xs) ys h = each-back P xs ys h.1

pub each-map : {A B : Type 0} (P : A → Type 0) (Q : B → Type 0) (f : A → B) → ((x : A) → P x → Q (f x)) → (xs : List A) → AllByRecursion P xs → AllByRecursion Q (map f xs)
each-map P Q f tells [] h = tt
each-map P Q f tells (x ∷ xs) h = (tells x h.0, each-map P Q f tells xs h.1)

pub each-flat_map : {A B : Type 0} (P : A → Type 0) (Q : B → Type 0) (f : A → List B) → ((x : A) → P x → AllByRecursion Q (f x)) → (xs : List A) → AllByRecursion P xs → AllByRecursion Q (flat_map f xs)
each-flat_map P Q f tells [] h = tt
each-flat_map P Q f tells (x ∷ xs) h = each-append Q (f x) (flat_map f xs) (tells x h.0) (each-flat_map P Q f tells xs h.1)

pub each-get : {A : Type 0} (P : A → Type 0) (xs : List A) (k : ℕ) (x : A) → AllByRecursion P xs → slice_get xs k ≡ Some x → P x
each-get P [] k x each e = absurd (cc e)
each-get P (y ∷ ys) zero x each e = let same : y ≡ x = cc in subst P same each.0
each-get P (y ∷ ys) (suc k) x each e = each-get P ys k x each.1 e

-- ---- against a test that each element passes

pub each_from_test : {A : Type 0} (test : A → Bool) (P : A → Type 0) → ((x : A) → IsTrue (test x) → P x) → (xs : List A) → IsTrue (list_all test xs) → AllByRecursion P xs
each_from_test test P tells [] h = tt
each_from_test test P tells (x ∷ xs) h = let parts = and_parts (test x) (list_all test xs) h in (tells x parts.0, each_from_test test P tells xs parts.1)

pub test_from_each : {A : Type 0} (test : A → Bool) (P : A → Type 0) → ((x : A) → P x → IsTrue (test x)) → (xs : List A) → AllByRecursion P xs → IsTrue (list_all test xs)
test_from_each test P tells [] h = refl
test_from_each test P tells (x ∷ xs) h = and_from (test x) (list_all test xs) (tells x h.0) (test_from_each test P tells xs h.1)

pub test-more : {A : Type 0} (s t : A → Bool) → ((x : A) → IsTrue (s x) → IsTrue (t x)) → (xs : List A) → IsTrue (list_all s xs) → IsTrue (list_all t xs)
test-more s t more xs h = test_from_each t (λ x. IsTrue (s x)) more xs (each_from_test s (λ x. IsTrue (s x)) (λ x k. k) xs h)
