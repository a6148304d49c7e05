-- The unknowns that are no pivot stand one behind the other, each once; and tests that pass at each
-- place pass.
use Rattle.std.proofs.Common.{◌≡◌, ℕ, zero, suc, ◌<◌, Bool, true, false, cond, List, [], ◌∷◌, map, length, get_or, Result, Ok, refl, sym, ap, ◌∙◌, arith, ℤ}
use Rattle.std.specs.Prelude.{◌==◌, not}
use Rattle.std.specs.List.{AllByRecursion, list_any, filter, zip}
use Rattle.std.proofs.lemmas.Bool.{eq-eqb, eqb-true, false≢true}
use Rattle.whole_numbers.specs.declared.wide.Wide as Step
use Rattle.farkas_check.specs.Parts.{and_then}
use Rattle.farkas_check.specs.Ratios.{Fraction}
use Rattle.farkas_check.specs.Relations.{pivot, places, free_places}
use Rattle.farkas_check.specs.Stratum.{all_of}

-- ---- rising lists

abbrev AreAbove : ℕ → List ℕ → Type 0
AreAbove n xs = AllByRecursion (λ x. n < x) xs

-- each number is below all behind it
abbrev AreRising : List ℕ → Type 0
AreRising [] = Unit {0}
AreRising (x ∷ xs) = AreAbove x xs × AreRising xs

above-filter : (n : ℕ) (test : ℕ → Bool) (xs : List ℕ) → AreAbove n xs → AreAbove n (filter test xs)
above-filter n test [] h = tt
above-filter n test (x ∷ xs) h = go (test x) (above-filter n test xs h.1)
  where
    go : (b : Bool) → AreAbove n (filter test xs) → AreAbove n (cond b (x ∷ filter test xs) (filter test xs))
    go true ih = (h.0, ih)
    go false ih = ih

rising-filter : (test : ℕ → Bool) (xs : List ℕ) → AreRising xs → AreRising (filter test xs)
rising-filter test [] h = tt
rising-filter test (x ∷ xs) h = go (test x) (rising-filter test xs h.1)
  where
    go : (b : Bool) → AreRising (filter test xs) → AreRising (cond b (x ∷ filter test xs) (filter test xs))
    go true ih = (above-filter x test xs h.0, ih)
    go false ih = ih

above-next : (n : ℕ) (xs : List ℕ) → AreAbove n xs → AreAbove (suc n) (map (λ place. suc place) xs)
above-next n [] h = tt
above-next n (x ∷ xs) h = (let below : n < x = h.0 in omega (arith, below), above-next n xs h.1)

above-zero : (xs : List ℕ) → AreAbove zero (map (λ place. suc place) xs)
above-zero [] = tt
above-zero (x ∷ xs) = (omega arith, above-zero xs)

rising-next : (xs : List ℕ) → AreRising xs → AreRising (map (λ place. suc place) xs)
rising-next [] h = tt
rising-next (x ∷ xs) h = (above-next x xs h.0, rising-next xs h.1)

rising-places : (n : ℕ) → AreRising (places n)
rising-places zero = tt
rising-places (suc n) = (above-zero (places n), rising-next (places n) (rising-places n))

above-at : (n : ℕ) (xs : List ℕ) (i : ℕ) → AreAbove n xs → i < length xs → n < get_or xs i 0
above-at n [] i h l = absurd (omega (arith, l))
above-at n (x ∷ xs) zero h l = h.0
above-at n (x ∷ xs) (suc i) h l = above-at n xs i h.1 (omega (arith, l))

rising-apart : (xs : List ℕ) (i k : ℕ) → AreRising xs → i < length xs → k < length xs → get_or xs i 0 ≡ get_or xs k 0 → i ≡ k
rising-apart [] i k h l m e = absurd (omega (arith, l))
rising-apart (x ∷ xs) zero zero h l m e = refl
rising-apart (x ∷ xs) zero (suc k) h l m e = absurd (let above : x < get_or xs k 0 = above-at x xs k h.0 (omega (arith, m)) in omega (arith, above, e))
rising-apart (x ∷ xs) (suc i) zero h l m e = absurd (let above : x < get_or xs i 0 = above-at x xs i h.0 (omega (arith, l)) in omega (arith, above, e))
rising-apart (x ∷ xs) (suc i) (suc k) h l m e = ap (λ (n : ℕ). suc n) (rising-apart xs i k h.1 (omega (arith, l)) (omega (arith, m)) e)

same_test : (a b c d : ℕ) → (a ≡ b → c ≡ d) → (c ≡ d → a ≡ b) → (a == b) ≡ (c == d)
same_test a b c d f g = go (a == b) (c == d) refl refl
  where
    go : (x y : Bool) → (a == b) ≡ x → (c == d) ≡ y → x ≡ y
    go true true e k = refl
    go false false e k = refl
    go true false e k = absurd (false≢true (sym k ∙ eq-eqb c d (f (eqb-true a b e))))
    go false true e k = absurd (false≢true (sym e ∙ eq-eqb a b (g (eqb-true c d k))))

-- two of these unknowns are one exactly where their places are
pub free-same : (lines : List (List ℤ)) (count i own : ℕ) → i < length (free_places lines count) → own < length (free_places lines count)
    → (get_or (free_places lines count) i 0 == get_or (free_places lines count) own 0) ≡ (i == own)
free-same lines count i own h k =
    same_test (get_or others i 0) (get_or others own 0) i own (rising-apart others i own (rising-filter (λ place. not (list_any (λ p. p == place) (map pivot lines))) (places count) (rising-places count)) h k)
    (λ e. ap (λ (n : ℕ). get_or others n 0) e)
  where
    others : List ℕ
    others = free_places lines count

-- ---- tests of each

pub all_of-places : (part : ℕ → Result Bool Step.Wide) (xs : List ℕ) → ((i : ℕ) → i < length xs → part (get_or xs i 0) ≡ Ok true) → all_of part xs ≡ Ok true
all_of-places part [] f = refl
all_of-places part (x ∷ xs) f = ap (λ (r : Result Bool Step.Wide). and_then r (all_of part xs)) (f zero (omega arith)) ∙ all_of-places part xs (λ i h. f (suc i) (omega (arith, h)))

pub all_of-pairs : (part : ℕ → List Fraction → Result Bool Step.Wide) (f : List ℤ → List Fraction) (xs : List ℕ) (ys : List (List ℤ)) → ((i : ℕ) → i < length xs → i < length ys → part (get_or xs i 0) (f (get_or ys i [])) ≡ Ok true)
    → all_of (λ (p : ℕ × List Fraction). part p.0 p.1) (zip xs (map f ys)) ≡ Ok true
all_of-pairs part f [] ys g = refl
all_of-pairs part f (x ∷ xs) [] g = refl
all_of-pairs part f (x ∷ xs) (y ∷ ys) g =
    ap (λ (r : Result Bool Step.Wide). and_then r (all_of (λ (p : ℕ × List Fraction). part p.0 p.1) (zip xs (map f ys)))) (g zero (omega arith) (omega arith))
    ∙ all_of-pairs part f xs ys (λ i h k. g (suc i) (omega (arith, h)) (omega (arith, k)))
