-- How great the numbers of solutions are that own columns, where the frame is calm.
use Rattle.std.proofs.Common.{◌≡◌, ℕ, zero, suc, ◌*◌, ◌<◌, ◌≤◌, ⊎_elim, inl, inr, refl, sym, ap, subst, ◌∙◌, arith, List, [], ◌∷◌, map, length, get_or, ℤ, pos, negsuc, ◌*ℤ◌, ◌<ℤ◌}
use Rattle.std.specs.Prelude.{◌⊎◌, neg_ℤ, unsigned_abs}
use Rattle.std.specs.Int.{◌∣◌}
use Rattle.std.specs.List.{AllByRecursion}
use Rattle.std.proofs.lemmas.Int.{ints, unsigned_abs-mul}
use Rattle.std.proofs.lemmas.Nat.Gcd.{le_of_dvd}
use Rattle.std.proofs.Math.IntN.{zero-*ℤ}
use Rattle.std.proofs.Math.Nat.{dvd-zero, le_of_mul-le-mul_left, mul-le-mul_left, mul_comm}
use Rattle.items.proofs.Each.{each-both, each-map, each-more}
use Rattle.whole_numbers.specs.Divisors.{gcd_of_all}
use Rattle.whole_numbers.proofs.CommonDivisors.{DividesEach, DividesEach-gcd_of_all}
use Rattle.whole_numbers.proofs.Ring.{neg_ℤ-*ℤ}
use Rattle.cones.proofs.Numbers.{times_zero}
use Rattle.farkas_check.specs.Frames.{Frame, IsCalmUpTo, line_count, width}
use Rattle.farkas_check.specs.Relations.{places}
use Rattle.hull_limits.proofs.Owners.{AreApart, AreOwners, IsBasis, IsRead, Owner, columns_of, each-column, multiple_of, over-positive, over_of, own, owners-read, tableau-of}

-- ---- lists by places

pub each_place : (P : ℤ → Type 0) (g : ℕ → ℤ) (m : ℕ) → AllByRecursion P (map g (places m)) → (k : ℕ) → k < m → P (g k)
each_place P g zero h k l = absurd (omega (arith, l))
each_place P g (suc m) h zero l = h.0
each_place P g (suc m) h (suc k) l = each_place P (λ j. g (suc j)) m (shifted (places m) h.1) k (omega (arith, l))
  where
    shifted : (ks : List ℕ) → AllByRecursion P (map g (map (λ j. suc j) ks)) → AllByRecursion P (map (λ j. g (suc j)) ks)
    shifted [] h = tt
    shifted (k ∷ ks) h = (h.0, shifted ks h.1)

from_places : (P : ℕ → Type 0) (cs : List ℕ) → ((k : ℕ) → k < length cs → P (get_or cs k 0)) → AllByRecursion P cs
from_places P [] h = tt
from_places P (c ∷ cs) h = (h 0 (omega arith), from_places P cs (λ k l. h (suc k) (omega (arith, l))))

-- numbers that divide each of a list
pub divides_each : (d : ℕ) (zs : List ℤ) → DividesEach d zs → AllByRecursion (λ z. d ∣ unsigned_abs z) zs
divides_each d [] h = tt
divides_each d (z ∷ zs) h = (h.0, divides_each d zs h.1)

-- ---- at the columns of others

-- an owner has 0 at each column that is owned but its own
abbrev pub IsAlone : List Owner → Owner → Type 0
IsAlone os o = AllByRecursion (λ c. (o.numbers c ≡ pos 0) ⊎ (c ≡ o.column)) (columns_of os)

pub owners-alone : (os : List Owner) → AreOwners os → AllByRecursion (IsAlone os) os
owners-alone [] h = tt
owners-alone (o ∷ os) h = (
  (inr refl, each-map (AreApart o) (λ c. (o.numbers c ≡ pos 0) ⊎ (c ≡ o.column)) (λ (p : Owner). p.column) (λ p k. inl k.there) os h.1),
  each-more (λ p. AreApart o p × IsAlone os p) (IsAlone (o ∷ os)) (λ p both. (inl both.0.here, both.1)) os (each-both (AreApart o) (IsAlone os) os h.1 (owners-alone os h.2)),
)

-- ---- the bound

-- a divisor of each multiple of the numbers divides the multiplier: the numbers have no common
-- divisor
pub record IsLowest (f : Frame) (o : Owner) : Type 0 where
  pub divides : (d : ℕ) (by : ℤ) → ((c : ℕ) → c < width f → d ∣ unsigned_abs (by *ℤ o.numbers c)) → d ∣ unsigned_abs by

-- at each column of the frame the number is at most so great
abbrev pub IsBounded : ℕ → Frame → Owner → Type 0
IsBounded most f o = (c : ℕ) → c < width f → unsigned_abs (o.numbers c) ≤ most

bounded-by : (most : ℕ) (f : Frame) (os : List Owner) (chosen : List ℕ) (o : Owner) → IsBasis f os chosen → IsCalmUpTo most f → o.column < width f → IsAlone os o → IsRead (over_of os) chosen (multiple_of os chosen) o → IsLowest f o → IsBounded most f o
bounded-by most f os chosen o b calm h alone read lowest c l =
    le_of_mul-le-mul_left (whole (unsigned_abs-mul read.by (o.numbers c)) (parts c l).0 (mul-le-mul_left most divisor)) some
  where
    numbers : List ℤ
    numbers = over_of os ∷ map (λ k. multiple_of os chosen k o.column) (places (line_count f))

    common : ℕ
    common = gcd_of_all numbers

    IsPart : ℤ → Type 0
    IsPart z = (unsigned_abs z ≤ most * common) × (common ∣ unsigned_abs z)

    all : AllByRecursion IsPart numbers
    all = each-both (λ z. unsigned_abs z ≤ most * common) (λ z. common ∣ unsigned_abs z) numbers (calm.columns chosen (over_of os) (multiple_of os chosen) (tableau-of f os chosen b) o.column h) (divides_each common numbers (DividesEach-gcd_of_all numbers))

    same : (x y : ℤ) → unsigned_abs x ≡ unsigned_abs y → IsPart x → IsPart y
    same x y e part = (subst (λ n. n ≤ most * common) e part.0, subst (λ n. common ∣ n) e part.1)

    turned : (x y : ℤ) → unsigned_abs (neg_ℤ x *ℤ y) ≡ unsigned_abs (x *ℤ y)
    turned x y = ap unsigned_abs (neg_ℤ-*ℤ x y) ∙ opposite (x *ℤ y)
      where
        opposite : (z : ℤ) → unsigned_abs (neg_ℤ z) ≡ unsigned_abs z
        opposite z = omega (arith, ints)

    there : AllByRecursion (λ c. IsPart (read.by *ℤ o.numbers c)) chosen
    there = from_places (λ c. IsPart (read.by *ℤ o.numbers c)) chosen (λ k l.
        same (multiple_of os chosen k o.column) (read.by *ℤ o.numbers (get_or chosen k 0)) (ap unsigned_abs (read.is k) ∙ turned read.by (o.numbers (get_or chosen k 0)))
        (each_place IsPart (λ k. multiple_of os chosen k o.column) (line_count f) all.1 k (subst (λ n. k < n) b.each l)))

    nothing : (z : ℤ) → z ≡ pos 0 → IsPart (read.by *ℤ z)
    nothing z e = subst IsPart (sym (ap (λ y. read.by *ℤ y) e ∙ times_zero read.by)) (omega arith, dvd-zero common)

    owned : AllByRecursion (λ c. IsPart (read.by *ℤ o.numbers c)) (columns_of os)
    owned = each-more (λ c. (o.numbers c ≡ pos 0) ⊎ (c ≡ o.column)) (λ c. IsPart (read.by *ℤ o.numbers c)) (λ c k. ⊎_elim (λ e. nothing (o.numbers c) e) (λ e. subst (λ d. IsPart (read.by *ℤ o.numbers d)) (sym e) (subst IsPart read.over all.0)) k) (columns_of os) alone

    parts : (c : ℕ) → c < width f → IsPart (read.by *ℤ o.numbers c)
    parts = each-column (λ c. IsPart (read.by *ℤ o.numbers c)) (width f) (columns_of os) chosen b.parted owned there

    some : 0 < unsigned_abs read.by
    some = positive read.by (own o) (subst (λ z. pos 0 <ℤ z) read.over (over-positive os b.owners))
      where
        positive : (x y : ℤ) → pos 0 <ℤ (x *ℤ y) → 0 < unsigned_abs x
        positive (pos zero) y h = absurd (clash (pos 0 *ℤ y) (zero-*ℤ y) h)
          where
            clash : (z : ℤ) → z ≡ pos 0 → pos 0 <ℤ z → ⊥
            clash z e h = omega (arith, ints)
        positive (pos (suc n)) y h = omega arith
        positive (negsuc n) y h = omega arith

    divisor : common ≤ unsigned_abs read.by
    divisor = le_of_dvd some (lowest.divides common read.by (λ c l. (parts c l).1))

    whole : unsigned_abs (read.by *ℤ o.numbers c) ≡ unsigned_abs read.by * unsigned_abs (o.numbers c) → unsigned_abs (read.by *ℤ o.numbers c) ≤ most * common → most * common ≤ most * unsigned_abs read.by
        → unsigned_abs read.by * unsigned_abs (o.numbers c) ≤ unsigned_abs read.by * most
    whole e f g = omega (arith, e, f, g, mul_comm most (unsigned_abs read.by))

-- the numbers of each owner without common divisor are bounded
pub owners-bounded : (most : ℕ) (f : Frame) (os : List Owner) (chosen : List ℕ) → IsBasis f os chosen → IsCalmUpTo most f → AllByRecursion (λ (o : Owner). IsLowest f o → IsBounded most f o) os
owners-bounded most f os chosen b calm =
    each-more (λ (o : Owner). (o.column < width f) × IsAlone os o × IsRead (over_of os) chosen (multiple_of os chosen) o) (λ o. IsLowest f o → IsBounded most f o)
    (λ o all lowest. bounded-by most f os chosen o b calm all.0 all.1 all.2 lowest) os (three os b.owned (owners-alone os b.owners) (owners-read f os chosen b))
  where
    three : (ps : List Owner) → AllByRecursion (λ (o : Owner). o.column < width f) ps → AllByRecursion (IsAlone os) ps → AllByRecursion (IsRead (over_of os) chosen (multiple_of os chosen)) ps
        → AllByRecursion (λ (o : Owner). (o.column < width f) × IsAlone os o × IsRead (over_of os) chosen (multiple_of os chosen) o) ps
    three [] x y z = tt
    three (p ∷ ps) x y z = ((x.0, y.0, z.0), three ps x.1 y.1 z.1)
