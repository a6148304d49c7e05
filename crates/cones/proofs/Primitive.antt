-- What clearing leaves of the units, and what the search finds from it, has no common divisor.
use Rattle.std.proofs.Common.{◌≡◌, ◌≢◌, ℕ, zero, suc, ◌<◌, ◌≤◌, Bool, true, false, cond, nat_eq, refl, sym, ap, subst, ◌∙◌, arith, List, [], ◌∷◌, map, ℤ, pos, ◌+ℤ◌, ◌*ℤ◌}
use Rattle.std.specs.Prelude.{int_div, neg_ℤ, unsigned_abs}
use Rattle.std.specs.Int.{◌∣◌}
use Rattle.std.specs.List.{AllByRecursion}
use Rattle.std.specs.Ordering.{int_eq}
use Rattle.std.proofs.lemmas.Bool.{eqb-true, false≢true}
use Rattle.std.proofs.lemmas.Int.{ints}
use Rattle.std.proofs.lemmas.Nat.Gcd.{le_of_dvd}
use Rattle.std.proofs.Math.Nat.{eq-zero_of_zero-dvd}
use Rattle.items.proofs.Each.{each-append, each-map}
use Rattle.whole_numbers.specs.Divisors.{gcd_of, gcd_of_all}
use Rattle.whole_numbers.specs.Dot.{dot}
use Rattle.whole_numbers.proofs.CommonDivisors.{DividesEach, DividesEach-gcd_of_all, gcd_of_all-positive, zero-gcd_of}
use Rattle.whole_numbers.proofs.Quotients.{gcd_of_all-reduced}
use Rattle.cones.specs.Vectors.{combination, lowest, opposite}
use Rattle.cones.specs.Cones.{Cleared, Kept, Given, along_sign, clearing, clearing_with, are_at_most, ends, extremes_at_zero, extremes}
use Rattle.cones.specs.Spans.{IsIndependent}
use Rattle.cones.specs.Split.{zeros, units, remainder, clearing_by_all}
use Rattle.cones.proofs.Clears.{IsClearing, clearing-is}
use Rattle.cones.proofs.Numbers.{times_zero, above_not_zero}

-- a vector that some line sees has no common divisor
abbrev pub IsPrimitive : List ℤ → Type 0
IsPrimitive v = (line : List ℤ) → dot line v ≢ pos 0 → gcd_of_all v ≡ 1

-- ---- the lowest numbers

nothing : (v : List ℤ) → DividesEach 0 v → (line : List ℤ) → dot line v ≡ pos 0
nothing [] h [] = refl
nothing [] h (x ∷ line) = refl
nothing (z ∷ v) h [] = refl
nothing (z ∷ v) h (x ∷ line) = none (x *ℤ z) (dot line v) (ap (λ y. x *ℤ y) (no_size z (eq-zero_of_zero-dvd h.0)) ∙ times_zero x) (nothing v h.1 line)
  where
    none : (x y : ℤ) → x ≡ pos 0 → y ≡ pos 0 → x +ℤ y ≡ pos 0
    none x y e f = omega (arith, ints)

    no_size : (z : ℤ) → unsigned_abs z ≡ 0 → z ≡ pos 0
    no_size z e = omega (arith, ints, e)

-- numbers whose common divisor is 0 are 0
pub no_divisor-zero : (v : List ℤ) → gcd_of_all v ≡ 0 → (line : List ℤ) → dot line v ≡ pos 0
no_divisor-zero v e line = nothing v (subst (λ d. DividesEach d v) e (DividesEach-gcd_of_all v)) line

pub lowest-primitive : (v : List ℤ) → IsPrimitive (lowest v)
lowest-primitive v = go (nat_eq (gcd_of_all v) 0) refl
  where
    some : (d : ℕ) → nat_eq d 0 ≡ false → 0 < d
    some zero e = absurd (false≢true (sym e))
    some (suc d) e = omega arith

    go : (b : Bool) → nat_eq (gcd_of_all v) 0 ≡ b → IsPrimitive (cond b v (map (λ z. int_div z (pos (gcd_of_all v))) v))
    go true e line seen = absurd (seen (no_divisor-zero v (eqb-true (gcd_of_all v) 0 e) line))
    go false e line seen = gcd_of_all-reduced v (some (gcd_of_all v) e)

-- ---- units

one_before : (v : List ℤ) → gcd_of_all (pos 1 ∷ v) ≡ 1
one_before v = only (gcd_of_all (pos 1 ∷ v)) (DividesEach-gcd_of_all (pos 1 ∷ v)).0 (gcd_of_all-positive (pos 1) v (above_not_zero (pos 1) (omega (arith, ints))))
  where
    only : (d : ℕ) → d ∣ 1 → 0 < d → d ≡ 1
    only d h p = let k : d ≤ 1 = le_of_dvd (omega arith) h in omega (arith, k, p)

units-lowest : (count : ℕ) → AllByRecursion (λ v. gcd_of_all v ≡ 1) (units count)
units-lowest zero = tt
units-lowest (suc count) =
    (one_before (zeros count), each-map (λ v. gcd_of_all v ≡ 1) (λ v. gcd_of_all v ≡ 1) (λ v. pos 0 ∷ v) (λ v e. zero-gcd_of (gcd_of_all v) ∙ e) (units count) (units-lowest count))

-- ---- clearing

abbrev ArePrimitive : Cleared → Type 0
ArePrimitive Kept = Unit {0}
ArePrimitive (Given pivot rest) = IsPrimitive pivot × AllByRecursion IsPrimitive rest

clearing-primitive : (line : List ℤ) (basis : List (List ℤ)) → AllByRecursion IsPrimitive basis → ArePrimitive (clearing line basis)
clearing-primitive line [] h = tt
clearing-primitive line (v ∷ vs) h = go (clearing line vs) (clearing-primitive line vs h.1)
  where
    test : (b : Bool) → ArePrimitive (cond b Kept (Given v vs))
    test true = tt
    test false = (h.0, h.1)

    go : (c : Cleared) → ArePrimitive c → ArePrimitive (clearing_with line v vs c)
    go Kept k = test (int_eq (dot line v) (pos 0))
    go (Given pivot rest) k = (k.0, (lowest-primitive (combination (pos (unsigned_abs (dot line pivot))) v (along_sign (dot line pivot) (neg_ℤ (dot line v))) pivot), k.1))

remainder-primitive : (basis : List (List ℤ)) (c : Cleared) → AllByRecursion IsPrimitive basis → ArePrimitive c → AllByRecursion IsPrimitive (remainder basis c)
remainder-primitive basis Kept h k = h
remainder-primitive basis (Given pivot rest) h k = k.1

all_cleared-primitive : (lines basis : List (List ℤ)) → AllByRecursion IsPrimitive basis → AllByRecursion IsPrimitive (clearing_by_all lines basis)
all_cleared-primitive [] basis h = h
all_cleared-primitive (line ∷ lines) basis h =
    all_cleared-primitive lines (remainder basis (clearing line basis)) (remainder-primitive basis (clearing line basis) h (clearing-primitive line basis h))

pub cleared_units-primitive : (lines : List (List ℤ)) (count : ℕ) → AllByRecursion IsPrimitive (clearing_by_all lines (units count))
cleared_units-primitive lines count = all_cleared-primitive lines (units count) (each (units count) (units-lowest count))
  where
    each : (vs : List (List ℤ)) → AllByRecursion (λ v. gcd_of_all v ≡ 1) vs → AllByRecursion IsPrimitive vs
    each [] h = tt
    each (v ∷ vs) h = ((λ line seen. h.0), each vs h.1)

-- ---- what is found

opposite-divisor : (v : List ℤ) → gcd_of_all (opposite v) ≡ gcd_of_all v
opposite-divisor [] = refl
opposite-divisor (z ∷ v) = λ i. gcd_of (same_size z i) (opposite-divisor v i)
  where
    same_size : (z : ℤ) → unsigned_abs (neg_ℤ z) ≡ unsigned_abs z
    same_size z = omega (arith, ints)

abbrev pub AreLowest : List (List ℤ) → Type 0
AreLowest vs = AllByRecursion (λ v. gcd_of_all v ≡ 1) vs

ends-lowest : (lines : List (List ℤ)) (w : List ℤ) → gcd_of_all w ≡ 1 → AreLowest (ends lines w)
ends-lowest lines w e = go (are_at_most lines w) (are_at_most lines (opposite w))
  where
    go : (s t : Bool) → AreLowest (cond s (w ∷ []) (cond t (opposite w ∷ []) []))
    go true t = (e, tt)
    go false true = (opposite-divisor w ∙ e, tt)
    go false false = tt

pub extremes-lowest : (lines rest basis : List (List ℤ)) → IsIndependent basis → AllByRecursion IsPrimitive basis → AreLowest (extremes lines rest basis)
extremes-lowest lines [] [] i h = tt
extremes-lowest lines [] (w ∷ []) i h = ends-lowest lines w (h.0 i.0.line i.0.seen)
extremes-lowest lines [] (v ∷ (u ∷ vs)) i h = tt
extremes-lowest lines (line ∷ rest) [] i h = tt
extremes-lowest lines (line ∷ rest) (w ∷ []) i h = ends-lowest lines w (h.0 i.0.line i.0.seen)
extremes-lowest lines (line ∷ rest) (v ∷ (u ∷ vs)) i h =
    each-append (λ x. gcd_of_all x ≡ 1) (extremes_at_zero (extremes lines rest) (clearing line (v ∷ u ∷ vs))) (extremes lines rest (v ∷ u ∷ vs))
    (go (clearing line (v ∷ u ∷ vs)) (clearing-is line (v ∷ u ∷ vs)) (clearing-primitive line (v ∷ u ∷ vs) h) (λ basis j k. extremes-lowest lines rest basis j k))
    (extremes-lowest lines rest (v ∷ u ∷ vs) i h)
  where
    go : (c : Cleared) → IsClearing line (v ∷ u ∷ vs) c → ArePrimitive c → ((basis : List (List ℤ)) → IsIndependent basis → AllByRecursion IsPrimitive basis → AreLowest (extremes lines rest basis))
        → AreLowest (extremes_at_zero (extremes lines rest) c)
    go Kept g k again = tt
    go (Given pivot left) g k again = again left (g.independent i) k.1
