-- Numbers at chosen unknowns, and 0 at all others: sums, pivots and divisors of such lists.
use Rattle.std.proofs.Common.{◌≡◌, ◌≢◌, ℕ, zero, suc, ◌+◌, ◌<◌, ◌≤◌, Bool, true, false, cond, List, [], ◌∷◌, ◌++◌, map, length, get_or, refl, sym, ap, subst, ◌∙◌, arith, ⊎_elim, ℤ, pos, ◌+ℤ◌, ◌*ℤ◌}
use Rattle.std.specs.Prelude.{nat_eq, unsigned_abs}
use Rattle.std.specs.Int.{◌∣◌}
use Rattle.std.specs.List.{AllByRecursion}
use Rattle.std.proofs.lemmas.Int.{ints}
use Rattle.std.proofs.lemmas.Bool.{cases_eq, cases_lt, eq-eqb, ne_eqb}
use Rattle.std.proofs.Math.IntN.{zero-*ℤ}
use Rattle.std.proofs.Math.Nat.{eq-one_of_dvd-one}
use Rattle.whole_numbers.specs.Divisors.{gcd_of_all}
use Rattle.whole_numbers.proofs.CommonDivisors.{DividesEach-gcd_of_all, gcd_of_all-greatest}
use Rattle.whole_numbers.proofs.Ring.{+ℤ-*ℤ}
use Rattle.farkas_check.specs.Calm.{at_chosen}
use Rattle.farkas_check.specs.Frames.{sum_below}
use Rattle.farkas_check.specs.Relations.{entry, places}
use Rattle.simplex.proofs.CalmRelations.{at_chosen-none, at_chosen-one}
use Rattle.simplex.proofs.Corners.{none, single, plus}
use Rattle.simplex.proofs.LeastShares.{divides_each, divides_at, number_listed, listed-length}
use Rattle.simplex.proofs.Sums.{sum_below-same}
use Rattle.simplex.proofs.Calmness.{mapped}
use Rattle.elimination.specs.Stages.{spread}
use Rattle.elimination.proofs.Regular.{sum_below-front}

-- ---- unknowns that differ

pub record AreApart (chosen : List ℕ) : Type 0 where
  pub at : (i k : ℕ) → i < length chosen → k < length chosen → i ≢ k → get_or chosen i 0 ≢ get_or chosen k 0

apart-rest : (c : ℕ) (chosen : List ℕ) → AreApart (c ∷ chosen) → AreApart chosen
apart-rest c chosen a = record { at = λ i k h g other. a.at (suc i) (suc k) (omega (arith, h)) (omega (arith, g)) (λ e. other (omega (arith, e))) }

pub at_chosen-own : (chosen : List ℕ) (number : ℕ → ℤ) (k : ℕ) → AreApart chosen → k < length chosen → at_chosen chosen number (get_or chosen k 0) ≡ number k
at_chosen-own chosen number k a h = at_chosen-one chosen number (get_or chosen k 0) k h refl (λ i g other. a.at i k g h other)

-- ---- sums

-- the first of them has its part, and the others theirs
chosen-first_apart : (c : ℕ) (chosen : List ℕ) (number : ℕ → ℤ) (v : ℕ) → AreApart (c ∷ chosen) → at_chosen (c ∷ chosen) number v ≡ cond (nat_eq c v) (number 0) (pos 0) +ℤ at_chosen chosen (λ k. number (suc k)) v
chosen-first_apart c chosen number v a = ⊎_elim (λ (e : c ≡ v). here e) (λ other. elsewhere other) (cases_eq c v)
  where
    right : (z : ℤ) → z ≡ z +ℤ pos 0
    right z = omega (arith, ints)

    left : (z : ℤ) → z ≡ pos 0 +ℤ z
    left z = omega (arith, ints)

    here : c ≡ v → cond (nat_eq c v) (number 0) (at_chosen chosen (λ k. number (suc k)) v) ≡ cond (nat_eq c v) (number 0) (pos 0) +ℤ at_chosen chosen (λ k. number (suc k)) v
    here e = rw (eq-eqb c v e, at_chosen-none chosen (λ k. number (suc k)) v (λ k h f. a.at 0 (suc k) (omega arith) (omega (arith, h)) (λ g. absurd (omega (arith, g))) (e ∙ sym f))) (right (number 0))

    elsewhere : c ≢ v → cond (nat_eq c v) (number 0) (at_chosen chosen (λ k. number (suc k)) v) ≡ cond (nat_eq c v) (number 0) (pos 0) +ℤ at_chosen chosen (λ k. number (suc k)) v
    elsewhere other = rw (ne_eqb c v other) (left (at_chosen chosen (λ k. number (suc k)) v))

pub chosen-sum : (n : ℕ) (chosen : List ℕ) (number g : ℕ → ℤ) → AreApart chosen → AllByRecursion (λ c. c < n) chosen → sum_below n (λ v. at_chosen chosen number v *ℤ g v) ≡ sum_below (length chosen) (λ k. number k *ℤ g (get_or chosen k 0))
chosen-sum n [] number g a within = none n (λ v. pos 0 *ℤ g v) (λ v h. zero-*ℤ (g v))
chosen-sum n (c ∷ chosen) number g a within =
    sum_below-same n (λ v. at_chosen (c ∷ chosen) number v *ℤ g v) (λ v. cond (nat_eq c v) (number 0) (pos 0) *ℤ g v +ℤ at_chosen chosen (λ k. number (suc k)) v *ℤ g v)
    (λ v h. ap (λ z. z *ℤ g v) (chosen-first_apart c chosen number v a) ∙ +ℤ-*ℤ (cond (nat_eq c v) (number 0) (pos 0)) (at_chosen chosen (λ k. number (suc k)) v) (g v))
    ∙ plus n (λ v. cond (nat_eq c v) (number 0) (pos 0) *ℤ g v) (λ v. at_chosen chosen (λ k. number (suc k)) v *ℤ g v)
    ∙ ap (λ z. z +ℤ sum_below n (λ v. at_chosen chosen (λ k. number (suc k)) v *ℤ g v)) first
    ∙ ap (λ z. number 0 *ℤ g c +ℤ z) (chosen-sum n chosen (λ k. number (suc k)) g (apart-rest c chosen a) within.1)
    ∙ sym (sum_below-front (length chosen) (λ k. number k *ℤ g (get_or (c ∷ chosen) k 0)))
  where
    first : sum_below n (λ v. cond (nat_eq c v) (number 0) (pos 0) *ℤ g v) ≡ number 0 *ℤ g c
    first =
        single n (λ v. cond (nat_eq c v) (number 0) (pos 0) *ℤ g v) c within.0 (λ v h other. ap (λ (b : Bool). cond b (number 0) (pos 0) *ℤ g v) (ne_eqb c v (λ e. other (sym e))) ∙ zero-*ℤ (g v))
        ∙ ap (λ (b : Bool). cond b (number 0) (pos 0) *ℤ g c) (eq-eqb c c refl)

-- ---- lists

entry-past : (ns : List ℤ) (v : ℕ) → length ns ≤ v → entry ns v ≡ pos 0
entry-past [] v h = refl
entry-past (n ∷ ns) zero h = absurd (omega (arith, h))
entry-past (n ∷ ns) (suc v) h = entry-past ns v (omega (arith, h))

pub spread-length : (chosen : List ℕ) (number : ℕ → ℤ) (n : ℕ) → length (spread chosen number n) ≡ n
spread-length chosen number n = listed-length (at_chosen chosen number) n

pub spread-entry : (chosen : List ℕ) (number : ℕ → ℤ) (n v : ℕ) → v < n → entry (spread chosen number n) v ≡ at_chosen chosen number v
spread-entry chosen number n v h = number_listed (at_chosen chosen number) n v h

pub spread-own : (chosen : List ℕ) (number : ℕ → ℤ) (n k : ℕ) → AreApart chosen → k < length chosen → get_or chosen k 0 < n → entry (spread chosen number n) (get_or chosen k 0) ≡ number k
spread-own chosen number n k a h within = spread-entry chosen number n (get_or chosen k 0) within ∙ at_chosen-own chosen number k a h

pub spread-elsewhere : (chosen : List ℕ) (number : ℕ → ℤ) (n v : ℕ) → ((k : ℕ) → k < length chosen → get_or chosen k 0 ≢ v) → entry (spread chosen number n) v ≡ pos 0
spread-elsewhere chosen number n v apart =
    ⊎_elim (λ (h : v < n). spread-entry chosen number n v h ∙ at_chosen-none chosen number v apart)
    (λ (h : n ≤ v). entry-past (spread chosen number n) v (subst (λ (m : ℕ). m ≤ v) (sym (spread-length chosen number n)) h)) (cases_lt v n)

chosen-small : (most : ℕ) (chosen : List ℕ) (number : ℕ → ℤ) (v : ℕ) → ((k : ℕ) → unsigned_abs (number k) ≤ most) → unsigned_abs (at_chosen chosen number v) ≤ most
chosen-small most [] number v small = omega arith
chosen-small most (c ∷ chosen) number v small = go (nat_eq c v) (chosen-small most chosen (λ k. number (suc k)) v (λ k. small (suc k)))
  where
    go : (b : Bool) → unsigned_abs (at_chosen chosen (λ k. number (suc k)) v) ≤ most → unsigned_abs (cond b (number 0) (at_chosen chosen (λ k. number (suc k)) v)) ≤ most
    go true h = small 0
    go false h = h

pub each-listed : (P : ℤ → Type 0) (f : ℕ → ℤ) → ((v : ℕ) → P (f v)) → (xs : List ℕ) → AllByRecursion P (map f xs)
each-listed P f tells [] = tt
each-listed P f tells (x ∷ xs) = (tells x, each-listed P f tells xs)

pub spread-small : (most : ℕ) (chosen : List ℕ) (number : ℕ → ℤ) (n : ℕ) → ((k : ℕ) → unsigned_abs (number k) ≤ most) → AllByRecursion (λ z. unsigned_abs z ≤ most) (spread chosen number n)
spread-small most chosen number n small = each-listed (λ z. unsigned_abs z ≤ most) (at_chosen chosen number) (λ v. chosen-small most chosen number v small) (places n)

-- the numbers have no common divisor but those of the listed ones
pub spread-primitive : (chosen : List ℕ) (r : List ℤ) (n : ℕ) → AreApart chosen → length r ≡ length chosen → ((k : ℕ) → k < length chosen → get_or chosen k 0 < n) → gcd_of_all r ≡ 1 → gcd_of_all (spread chosen (entry r) n) ≡ 1
spread-primitive chosen r n a many within e = eq-one_of_dvd-one (subst (λ (m : ℕ). gcd_of_all (spread chosen (entry r) n) ∣ m) e (gcd_of_all-greatest (gcd_of_all (spread chosen (entry r) n)) r (divides_each (gcd_of_all (spread chosen (entry r) n)) r divides)))
  where
    divides : (j : ℕ) → j < length r → gcd_of_all (spread chosen (entry r) n) ∣ unsigned_abs (entry r j)
    divides j h =
        let here : j < length chosen = omega (arith, h, many) in
        subst (λ (z : ℤ). gcd_of_all (spread chosen (entry r) n) ∣ unsigned_abs z) (spread-own chosen (entry r) n j a here (within j here))
        (divides_at (gcd_of_all (spread chosen (entry r) n)) (spread chosen (entry r) n) (get_or chosen j 0) (subst (λ (m : ℕ). get_or chosen j 0 < m) (sym (spread-length chosen (entry r) n)) (within j here)) (DividesEach-gcd_of_all (spread chosen (entry r) n)))

-- ---- one more

listed-more : (f : ℕ → ℤ) (n : ℕ) → map f (places (suc n)) ≡ map f (places n) ++ f n ∷ []
listed-more f zero = refl
listed-more f (suc n) = ap (λ (zs : List ℤ). f 0 ∷ zs) (mapped f (λ i. suc i) (places (suc n)) ∙ listed-more (λ i. f (suc i)) n ∙ ap (λ (zs : List ℤ). zs ++ f (suc n) ∷ []) (sym (mapped f (λ i. suc i) (places n))))

pub spread-more : (chosen : List ℕ) (number : ℕ → ℤ) (n : ℕ) → spread chosen number (n + 1) ≡ spread chosen number n ++ at_chosen chosen number n ∷ []
spread-more chosen number n = let one : n + 1 ≡ suc n = omega arith in ap (spread chosen number) one ∙ listed-more (at_chosen chosen number) n

-- the first place at which an unknown is chosen gives its number
pub at_chosen-first : (chosen : List ℕ) (number : ℕ → ℤ) (v k : ℕ) → k < length chosen → get_or chosen k 0 ≡ v → ((i : ℕ) → i < k → get_or chosen i 0 ≢ v) → at_chosen chosen number v ≡ number k
at_chosen-first [] number v k h is before = absurd (omega (arith, h))
at_chosen-first (c ∷ chosen) number v zero h is before = ap (λ (b : Bool). cond b (number zero) (at_chosen chosen (λ k. number (suc k)) v)) (eq-eqb c v is)
at_chosen-first (c ∷ chosen) number v (suc k) h is before =
    ap (λ (b : Bool). cond b (number zero) (at_chosen chosen (λ k. number (suc k)) v)) (ne_eqb c v (before 0 (omega arith)))
    ∙ at_chosen-first chosen (λ k. number (suc k)) v k (omega (arith, h)) is (λ i g. before (suc i) (omega (arith, g)))
