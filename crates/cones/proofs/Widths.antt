-- Lengths of vectors.
use Rattle.std.proofs.Common.{◌≡◌, ℕ, zero, suc, take, drop, Bool, true, false, cond, refl, sym, ◌∙◌, arith, List, [], ◌∷◌, map, length, nat_eq, ℤ, pos, ◌*ℤ◌}
use Rattle.std.specs.Prelude.{int_div, neg_ℤ, unsigned_abs}
use Rattle.std.specs.Ordering.{int_eq}
use Rattle.whole_numbers.specs.Divisors.{gcd_of_all}
use Rattle.cones.specs.Vectors.{combination, lowest}
use Rattle.whole_numbers.specs.Dot.{dot}
use Rattle.cones.specs.Cones.{Cleared, Kept, Given, along_sign, projection, clearing, clearing_with, AreWide, IsWide}

map-length : (f : ℤ → ℤ) (v : List ℤ) → length (map f v) ≡ length v
map-length f [] = refl
map-length f (x ∷ xs) = let e = map-length f xs in omega (arith, e)

pub combination-length : (a b : ℤ) (v u : List ℤ) → length u ≡ length v → length (combination a v b u) ≡ length v
combination-length a b [] u e = map-length (λ y. b *ℤ y) u ∙ e
combination-length a b (x ∷ xs) [] e = map-length (λ z. a *ℤ z) (x ∷ xs)
combination-length a b (x ∷ xs) (y ∷ ys) e = let f = combination-length a b xs ys (omega (arith, e)) in omega (arith, f)

pub lowest-length : (v : List ℤ) → length (lowest v) ≡ length v
lowest-length v = go (nat_eq (gcd_of_all v) 0)
  where
    go : (b : Bool) → length (cond b v (map (λ z. int_div z (pos (gcd_of_all v))) v)) ≡ length v
    go true = refl
    go false = map-length (λ z. int_div z (pos (gcd_of_all v))) v

pub projection-length : (line pivot v : List ℤ) → length pivot ≡ length v → length (projection line pivot v) ≡ length v
projection-length line pivot v e =
    lowest-length (combination (pos (unsigned_abs (dot line pivot))) v (along_sign (dot line pivot) (neg_ℤ (dot line v))) pivot)
    ∙ combination-length (pos (unsigned_abs (dot line pivot))) (along_sign (dot line pivot) (neg_ℤ (dot line v))) v pivot e

pub clearing-wide : (count : ℕ) (line : List ℤ) (basis : List (List ℤ)) → AreWide count basis → IsWide count (clearing line basis)
clearing-wide count line [] h = tt
clearing-wide count line (v ∷ vs) h = go (clearing line vs) (clearing-wide count line vs h.1)
  where
    test : (b : Bool) → IsWide count (cond b Kept (Given v vs))
    test true = tt
    test false = (h.0, h.1)

    go : (c : Cleared) → IsWide count c → IsWide count (clearing_with line v vs c)
    go Kept k = test (int_eq (dot line v) (pos 0))
    go (Given pivot rest) k = (k.0, (projection-length line pivot v (k.0 ∙ sym h.0) ∙ h.0, k.1))

pub wide_tail : (count : ℕ) (vs : List (List ℤ)) → AreWide count vs → AreWide count (drop 1 vs)
wide_tail count [] h = tt
wide_tail count (v ∷ vs) h = h.1

pub wide_front : (count n : ℕ) (vs : List (List ℤ)) → AreWide count vs → AreWide count (take n vs)
wide_front count zero vs h = tt
wide_front count (suc n) [] h = tt
wide_front count (suc n) (v ∷ vs) h = (h.0, wide_front count n vs h.1)

pub wide_behind : (count n : ℕ) (vs : List (List ℤ)) → AreWide count vs → AreWide count (take n (drop 1 vs))
wide_behind count n vs h = wide_front count n (drop 1 vs) (wide_tail count vs h)
