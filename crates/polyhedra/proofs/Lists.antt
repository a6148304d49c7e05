-- Lists of which each element has a property, and what is left of lists by tests.
use Rattle.std.proofs.Common.{◌≡◌, ℕ, zero, suc, ◌+◌, ◌<◌, ◌≤◌, List, [], ◌∷◌, Bool, true, false, map, refl, sym, ap, ◌∙◌, arith}
use Rattle.std.specs.Prelude.{if◌then◌else◌, ◌==◌, ◌&&◌, ◌||◌}
use Rattle.std.specs.List.{AllByRecursion, list_any, list_all, filter, range_with_len}
use Rattle.std.proofs.lemmas.Map.Views.{exact_unsigned_eq}

pub same_number : (x y : ℕ) → (x == y) ≡ true → x ≡ y
same_number x y e = exact_unsigned_eq x y e

pub each-unmap : {A B : Type 0} (P : B → Type 0) (f : A → B) (xs : List A) → AllByRecursion P (map f xs) → AllByRecursion (λ x. P (f x)) xs
each-unmap P f [] h = tt
each-unmap P f (x ∷ xs) h = (h.0, each-unmap P f xs h.1)

-- what is left keeps a property, and passes the test
pub each-filter : {A : Type 0} (P : A → Type 0) (test : A → Bool) (xs : List A) → AllByRecursion P xs → AllByRecursion P (filter test xs)
each-filter P test [] h = tt
each-filter P test (x ∷ xs) h = go (test x) (each-filter P test xs h.1)
  where
    go : (b : Bool) → AllByRecursion P (filter test xs) → AllByRecursion P (if b then x ∷ filter test xs else filter test xs)
    go true rest = (h.0, rest)
    go false rest = rest

pub filter-passes : {A : Type 0} (test : A → Bool) (xs : List A) → AllByRecursion (λ x. test x ≡ true) (filter test xs)
filter-passes test [] = tt
filter-passes test (x ∷ xs) = go (test x) refl (filter-passes test xs)
  where
    go : (b : Bool) → test x ≡ b → AllByRecursion (λ y. test y ≡ true) (filter test xs) → AllByRecursion (λ y. test y ≡ true) (if b then x ∷ filter test xs else filter test xs)
    go true e rest = (e, rest)
    go false e rest = rest

pub each-tested : {A : Type 0} (test : A → Bool) (xs : List A) → list_all test xs ≡ true → AllByRecursion (λ x. test x ≡ true) xs
each-tested test [] e = tt
each-tested test (x ∷ xs) e = go (test x) refl e (each-tested test xs)
  where
    go : (b : Bool) → test x ≡ b → (b && list_all test xs) ≡ true → (list_all test xs ≡ true → AllByRecursion (λ y. test y ≡ true) xs) → AllByRecursion (λ y. test y ≡ true) (x ∷ xs)
    go true f g rest = (f, rest g)
    go false f g rest = cc

pub none-passes : {A : Type 0} (test : A → Bool) (xs : List A) → list_any test xs ≡ false → AllByRecursion (λ x. test x ≡ false) xs
none-passes test [] e = tt
none-passes test (x ∷ xs) e = go (test x) refl e (none-passes test xs)
  where
    go : (b : Bool) → test x ≡ b → (b || list_any test xs) ≡ false → (list_any test xs ≡ false → AllByRecursion (λ y. test y ≡ false) xs) → AllByRecursion (λ y. test y ≡ false) (x ∷ xs)
    go true f g rest = cc
    go false f g rest = (f, rest g)

-- a number of a range that is not among those that pass does not pass
pub unfound : (test : ℕ → Bool) (v a n : ℕ) → list_any (λ u. u == v) (filter test (range_with_len a n)) ≡ false → a ≤ v → v < a + n → test v ≡ false
unfound test v a zero e low high = absurd (omega arith)
unfound test v a (suc n) e low high = go (a == v) refl (test a) refl e (λ k above. unfound test v (a + 1) n k above (omega arith))
  where
    later : (a == v) ≡ false → a + 1 ≤ v
    later ne = grind arith

    go : (b : Bool) → (a == v) ≡ b → (c : Bool) → test a ≡ c → list_any (λ u. u == v) (if c then a ∷ filter test (range_with_len (a + 1) n) else filter test (range_with_len (a + 1) n)) ≡ false
        → (list_any (λ u. u == v) (filter test (range_with_len (a + 1) n)) ≡ false → a + 1 ≤ v → test v ≡ false) → test v ≡ false
    go true same true f g rest = absurd (mixed (a == v) same g)
      where
        mixed : (b : Bool) → b ≡ true → (b || list_any (λ u. u == v) (filter test (range_with_len (a + 1) n))) ≡ false → ⊥
        mixed true h k = cc
        mixed false h k = cc
    go true same false f g rest = ap test (sym (same_number a v same)) ∙ f
    go false other true f g rest = rest (skipped (a == v) other g) (later other)
      where
        skipped : (b : Bool) → b ≡ false → (b || list_any (λ u. u == v) (filter test (range_with_len (a + 1) n))) ≡ false → list_any (λ u. u == v) (filter test (range_with_len (a + 1) n)) ≡ false
        skipped true h k = cc
        skipped false h k = k
    go false other false f g rest = rest g (later other)
