-- Lists by what stands at their places.
use Rattle.std.proofs.Common.{◌≡◌, ℕ, zero, suc, ◌+◌, ◌<◌, ◌≤◌, List, [], ◌∷◌, Bool, true, false, map, length, refl, sym, ap, subst, ◌∙◌, arith, ℤ, pos}
use Rattle.std.specs.Prelude.{IsTrue, ◌||◌, ◌==◌}
use Rattle.std.specs.List.{AllByRecursion, list_any, range_with_len}
use Rattle.linear_terms.specs.Polynomial.{Polynomial, constant_of}
use Rattle.transition_formula.proofs.Loops.{or_left, or_right}
use Rattle.polyhedra.specs.Changes.{poly_at}
use Rattle.polyhedra.proofs.Turns.{number_in}

plus_none : (a : ℕ) → a ≡ a + 0
plus_none a = omega arith

plus_next : (a k : ℕ) → a + 1 + k ≡ a + suc k
plus_next a k = omega arith

-- a function that gives the number at each place gives the list
listed : (h : ℕ → ℤ) (a : ℕ) (xs : List ℤ) → ((k : ℕ) → k < length xs → h (a + k) ≡ number_in xs k) → map h (range_with_len a (length xs)) ≡ xs
listed h a [] same = refl
listed h a (x ∷ xs) same =
    let first : h a ≡ x = ap h (plus_none a) ∙ same 0 (omega arith) in
    let rest : map h (range_with_len (a + 1) (length xs)) ≡ xs = listed h (a + 1) xs (λ k lt. ap h (plus_next a k) ∙ same (suc k) (omega arith)) in
    λ i. first i ∷ rest i

pub mapped : {A B C : Type 0} (g : B → C) (f : A → B) (xs : List A) → map g (map f xs) ≡ map (λ x. g (f x)) xs
mapped g f [] = refl
mapped g f (x ∷ xs) = ap (λ ys. g (f x) ∷ ys) (mapped g f xs)

poly_at-range : (g : ℕ → Polynomial) (a n v : ℕ) → v < n → poly_at (map g (range_with_len a n)) v ≡ g (a + v)
poly_at-range g a zero v lt = absurd (omega arith)
poly_at-range g a (suc n) zero lt = ap g (plus_none a)
poly_at-range g a (suc n) (suc v) lt = poly_at-range g (a + 1) n v (omega arith) ∙ ap g (plus_next a v)

pub poly_at-past : (g : ℕ → Polynomial) (a n v : ℕ) → n ≤ v → poly_at (map g (range_with_len a n)) v ≡ constant_of (pos 0)
poly_at-past g a zero v le = refl
poly_at-past g a (suc n) zero le = absurd (omega arith)
poly_at-past g a (suc n) (suc v) le = poly_at-past g (a + 1) n v (omega arith)

pub number_in-past : (xs : List ℤ) (v : ℕ) → length xs ≤ v → number_in xs v ≡ pos 0
number_in-past [] v le = refl
number_in-past (x ∷ xs) zero le = absurd (omega arith)
number_in-past (x ∷ xs) (suc v) le = number_in-past xs v (omega arith)

-- the same from 0
alone : (v : ℕ) → 0 + v ≡ v
alone v = omega arith

pub listed-first : (h : ℕ → ℤ) (xs : List ℤ) → ((k : ℕ) → k < length xs → h k ≡ number_in xs k) → map h (range_with_len 0 (length xs)) ≡ xs
listed-first h xs same = listed h 0 xs (λ k lt. ap h (alone k) ∙ same k lt)

pub poly_at-first : (g : ℕ → Polynomial) (n v : ℕ) → v < n → poly_at (map g (range_with_len 0 n)) v ≡ g v
poly_at-first g n v lt = poly_at-range g 0 n v lt ∙ ap g (alone v)

-- each number of a range is below its end
range-below : (a n : ℕ) → AllByRecursion (λ v. v < a + n) (range_with_len a n)
range-below a zero = tt
range-below a (suc n) = (omega arith, next (range-below (a + 1) n))
  where
    next : AllByRecursion (λ v. v < a + 1 + n) (range_with_len (a + 1) n) → AllByRecursion (λ v. v < a + suc n) (range_with_len (a + 1) n)
    next h = subst (λ e. AllByRecursion (λ v. v < e) (range_with_len (a + 1) n)) (plus_next a n) h

pub range-first : (n : ℕ) → AllByRecursion (λ v. v < n) (range_with_len 0 n)
range-first n = subst (λ e. AllByRecursion (λ v. v < e) (range_with_len 0 n)) (alone n) (range-below 0 n)

-- a test that holds at one number of a range
pub any-range : {X : Type 0} (test : X → Bool) (g : ℕ → X) (a n v : ℕ) → a ≤ v → v < a + n → IsTrue (test (g v)) → IsTrue (list_any test (map g (range_with_len a n)))
any-range test g a zero v low high h = absurd (omega arith)
any-range test g a (suc n) v low high h = go (a == v) refl (λ later. any-range test g (a + 1) n v later (omega arith) h)
  where
    go : (b : Bool) → (a == v) ≡ b → (a + 1 ≤ v → IsTrue (list_any test (map g (range_with_len (a + 1) n)))) → IsTrue (test (g a) || list_any test (map g (range_with_len (a + 1) n)))
    go true e rest = let same : a ≡ v = grind arith in or_left (test (g a)) (list_any test (map g (range_with_len (a + 1) n))) (subst (λ u. IsTrue (test (g u))) (sym same) h)
    go false e rest = let later : a + 1 ≤ v = grind arith in or_right (test (g a)) (list_any test (map g (range_with_len (a + 1) n))) (rest later)
