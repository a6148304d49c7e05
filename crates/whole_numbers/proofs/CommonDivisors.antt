-- The greatest common divisor: it divides both, each common divisor divides it, and it is the only
-- such number.
use Rattle.std.proofs.Common.{◌≡◌, ℕ, zero, suc, ◌+◌, ◌*◌, ◌/◌, ◌%◌, ◌<◌, ◌≤◌, max, Bool, true, false, cond, refl, sym, ap, subst, ◌∙◌, ⊎_elim, arith, List, [], ◌∷◌, ℤ, pos, negsuc, ◌≢◌}
use Rattle.std.specs.Prelude.{◌&&◌, unsigned_abs}
use Rattle.std.specs.Int.{IsGcd, ◌∣◌}
use Rattle.std.proofs.lemmas.Bool.{cases_lt, false≢true}
use Rattle.std.proofs.lemmas.Nat.Gcd.{IsGcd-from_zero, IsGcd-from_mod, IsGcd-swap, le_of_dvd, dvd_of_mod-eq-zero, mod-eq-zero_of_dvd, dvd_trans, dvd-zero}
use Rattle.std.proofs.Math.Nat.{eq-zero_of_zero-dvd, le_refl, mul_assoc, add-mul, zero-mul, mod-lt, mul-lt-mul_of_pos_right}
use Rattle.std.proofs.lemmas.Nat.{mod-mul-add, div-add-mod'}
use Rattle.whole_numbers.specs.Divisors.{divides, greatest_up_to, gcd_of, gcd_of_all}

-- ---- the greatest number that passes

step_passes : (b : Bool) (p : ℕ → Bool) (m r : ℕ) → p m ≡ b → (0 < r → p r ≡ true) → 0 < cond b m r → p (cond b m r) ≡ true
step_passes true p m r e k h = e
step_passes false p m r e k h = k h

-- a number that is found passes
greatest_passes : (n : ℕ) (p : ℕ → Bool) → 0 < greatest_up_to n p → p (greatest_up_to n p) ≡ true
greatest_passes zero p h = absurd (omega arith)
greatest_passes (suc n) p h = step_passes (p (suc n)) p (suc n) (greatest_up_to n p) refl (greatest_passes n p) h

step_most : (b : Bool) (m r d : ℕ) → d ≤ m → (b ≡ false → d ≤ r) → d ≤ cond b m r
step_most true m r d h k = h
step_most false m r d h k = k refl

-- no number up to the bound that passes is greater
greatest_most : (n : ℕ) (p : ℕ → Bool) (d : ℕ) → d ≤ n → p d ≡ true → d ≤ greatest_up_to n p
greatest_most zero p d h e = h
greatest_most (suc n) p d h e =
    step_most (p (suc n)) (suc n) (greatest_up_to n p) d h (λ fails. greatest_most n p d (below fails) e)
  where
    below : p (suc n) ≡ false → d ≤ n
    below fails = ⊎_elim (λ k. omega arith) (λ k. at_end k) (cases_lt d (suc n))
      where
        at_end : suc n ≤ d → d ≤ n
        at_end k = let same : d ≡ suc n = omega arith in absurd (false≢true (sym fails ∙ sym (ap p same) ∙ e))

-- ---- the test of divisibility

pub divides-true : (d n : ℕ) → divides d n ≡ true → d ∣ n
divides-true d n e = dvd_of_mod-eq-zero d (grind (arith, e))

pub true-divides : (d n : ℕ) → d ∣ n → divides d n ≡ true
true-divides d n h = let e : n % d ≡ 0 = mod-eq-zero_of_dvd d h in grind (arith, e)

both_true : (a b : Bool) → a && b ≡ true → (a ≡ true) × (b ≡ true)
both_true true b e = (refl, e)
both_true false b e = absurd (false≢true e)

true_both : (a b : Bool) → a ≡ true → b ≡ true → a && b ≡ true
true_both a b e f = rw (e, f) refl

-- ---- that there is one, by Euclid's algorithm

some_gcd : (n a b : ℕ) → b ≤ n → (g : ℕ) × IsGcd a b g
some_gcd zero a b h = (a, IsGcd-from_zero a b (omega arith))
some_gcd (suc n) a b h =
    ⊎_elim (λ none. (a, IsGcd-from_zero a b (omega arith))) (λ some. one_step a b (some_gcd n b (a % b) (omega arith))) (cases_lt b 1)
  where
    one_step : (a b : ℕ) → (g : ℕ) × IsGcd b (a % b) g → (g : ℕ) × IsGcd a b g
    one_step a b rest = (rest.0, IsGcd-from_mod a b rest.0 rest.1)

-- ---- what `gcd_of` is

gcd_of_parts : (a b : ℕ) → 0 < gcd_of a b → (gcd_of a b ∣ a) × (gcd_of a b ∣ b)
unfolding gcd_of
gcd_of_parts a b h =
    let e = greatest_passes (max a b) (λ d. divides d a && divides d b) h in
    let both = both_true (divides (gcd_of a b) a) (divides (gcd_of a b) b) e in
    (divides-true (gcd_of a b) a both.0, divides-true (gcd_of a b) b both.1)

gcd_of_most : (a b d : ℕ) → d ≤ max a b → d ∣ a → d ∣ b → d ≤ gcd_of a b
unfolding gcd_of
gcd_of_most a b d h p q =
    greatest_most (max a b) (λ d. divides d a && divides d b) d h (true_both (divides d a) (divides d b) (true-divides d a p) (true-divides d b q))

gcd_of_none : (a b g : ℕ) → a ≡ 0 → b ≡ 0 → IsGcd a b g → gcd_of a b ≡ g
unfolding gcd_of
gcd_of_none a b g p q h =
    rw (p, q) (sym (eq-zero_of_zero-dvd (h.2 0 (subst (λ n. 0 ∣ n) (sym p) (dvd-zero 0)) (subst (λ n. 0 ∣ n) (sym q) (dvd-zero 0)))))

positive_divisor : (g n : ℕ) → 0 < n → g ∣ n → 0 < g
positive_divisor zero n p h = absurd (let e : n ≡ 0 = eq-zero_of_zero-dvd h in omega arith)
positive_divisor (suc g) n p h = omega arith

-- what Euclid's algorithm finds is the greatest, where one of the numbers is not 0
gcd_of_some : (a b g : ℕ) → IsGcd a b g → 0 < g → g ≤ max a b → gcd_of a b ≡ g
gcd_of_some a b g h p below =
    let most : g ≤ gcd_of a b = gcd_of_most a b g below h.0 h.1 in
    let parts = gcd_of_parts a b (omega arith) in
    let least : gcd_of a b ≤ g = le_of_dvd p (h.2 (gcd_of a b) parts.0 parts.1) in
    omega arith

gcd_of_is : (a b g : ℕ) → IsGcd a b g → gcd_of a b ≡ g
gcd_of_is a b g h =
    ⊎_elim
    (λ none_left. ⊎_elim (λ none_right. gcd_of_none a b g (omega arith) (omega arith) h)
    (λ right. gcd_of_some a b g h (positive_divisor g b right h.1) (let m : g ≤ b = le_of_dvd right h.1 in omega arith)) (cases_lt b 1))
    (λ left. gcd_of_some a b g h (positive_divisor g a left h.0) (let m : g ≤ a = le_of_dvd left h.0 in omega arith))
    (cases_lt a 1)

-- the greatest common divisor: the greatest in size is the greatest by divisibility as well
pub IsGcd-gcd_of : (a b : ℕ) → IsGcd a b (gcd_of a b)
IsGcd-gcd_of a b = let found = some_gcd b a b (le_refl b) in subst (λ g. IsGcd a b g) (sym (gcd_of_is a b found.0 found.1)) found.1

pub gcd_of-unique : (a b g : ℕ) → IsGcd a b g → gcd_of a b ≡ g
gcd_of-unique = gcd_of_is

pub gcd_of_comm : (a b : ℕ) → gcd_of a b ≡ gcd_of b a
gcd_of_comm a b = gcd_of_is a b (gcd_of b a) (IsGcd-swap b a (gcd_of b a) (IsGcd-gcd_of b a))

pub gcd_of-zero : (a : ℕ) → gcd_of a 0 ≡ a
gcd_of-zero a = gcd_of_is a 0 a (IsGcd-from_zero a 0 refl)

-- Euclid's step
pub gcd_of-mod : (a b : ℕ) → gcd_of b (a % b) ≡ gcd_of a b
gcd_of-mod a b = sym (gcd_of_is a b (gcd_of b (a % b)) (IsGcd-from_mod a b (gcd_of b (a % b)) (IsGcd-gcd_of b (a % b))))

pub zero-gcd_of : (a : ℕ) → gcd_of 0 a ≡ a
zero-gcd_of a = gcd_of_comm 0 a ∙ gcd_of-zero a

pub gcd_of_assoc : (a b c : ℕ) → gcd_of (gcd_of a b) c ≡ gcd_of a (gcd_of b c)
gcd_of_assoc a b c =
    let whole = IsGcd-gcd_of a (gcd_of b c) in
    let left = IsGcd-gcd_of a b in
    let right = IsGcd-gcd_of b c in
    let all = gcd_of a (gcd_of b c) in
    gcd_of_is (gcd_of a b) c all
    (left.2 all whole.0 (dvd_trans all whole.1 right.0), dvd_trans all whole.1 right.1, λ d p q. whole.2 d (dvd_trans d p left.0) (right.2 d (dvd_trans d p left.1) q))

-- for Euclid's algorithm
pub ruleset euclid = (gcd_of-mod, gcd_of-zero)

-- ---- a common factor comes out

mod-times : (a b d : ℕ) → 0 < b → 0 < d → a * d % (b * d) ≡ a % b * d
mod-times a b d p q =
    ap (λ n. n % (b * d)) whole ∙ mod-mul-add (a / b) (b * d) (a % b * d) (mul-lt-mul_of_pos_right (mod-lt a p) q)
  where
    whole : a * d ≡ a / b * (b * d) + a % b * d
    whole =
        ap (λ n. n * d) (sym (div-add-mod' a b)) ∙ add-mul (a / b * b) (a % b) d ∙ ap (λ n. n + a % b * d) (mul_assoc (a / b) b d)

times_zero : (a b d : ℕ) → b ≡ 0 → gcd_of (a * d) (b * d) ≡ gcd_of a b * d
times_zero a b d e = rw e (rw zero-mul (gcd_of-zero (a * d) ∙ ap (λ n. n * d) (sym (gcd_of-zero a))))

gcd_of_times_up_to : (n a b d : ℕ) → 0 < d → b ≤ n → gcd_of (a * d) (b * d) ≡ gcd_of a b * d
gcd_of_times_up_to zero a b d p h = times_zero a b d (omega arith)
gcd_of_times_up_to (suc n) a b d p h =
    ⊎_elim (λ none. times_zero a b d (omega arith))
    (λ some. step some (gcd_of_times_up_to n b (a % b) d p (let k : a % b < b = mod-lt a some in omega arith)))
    (cases_lt b 1)
  where
    step : 1 ≤ b → gcd_of (b * d) (a % b * d) ≡ gcd_of b (a % b) * d → gcd_of (a * d) (b * d) ≡ gcd_of a b * d
    step some e =
        sym (gcd_of-mod (a * d) (b * d)) ∙ ap (gcd_of (b * d)) (mod-times a b d some p) ∙ e ∙ ap (λ n. n * d) (gcd_of-mod a b)

pub gcd_of-times : (a b d : ℕ) → 0 < d → gcd_of (a * d) (b * d) ≡ gcd_of a b * d
gcd_of-times a b d p = gcd_of_times_up_to b a b d p (le_refl b)

-- ---- of a list

-- d divides each number of the list
abbrev pub DividesEach : ℕ → List ℤ → Type 0
DividesEach d [] = Unit {0}
DividesEach d (z ∷ zs) = (d ∣ unsigned_abs z) × DividesEach d zs

DividesEach-trans : (d e : ℕ) (zs : List ℤ) → d ∣ e → DividesEach e zs → DividesEach d zs
DividesEach-trans d e [] h k = tt
DividesEach-trans d e (z ∷ zs) h k = (dvd_trans d h k.0, DividesEach-trans d e zs h k.1)

pub DividesEach-gcd_of_all : (zs : List ℤ) → DividesEach (gcd_of_all zs) zs
DividesEach-gcd_of_all [] = tt
DividesEach-gcd_of_all (z ∷ zs) =
    let g = IsGcd-gcd_of (unsigned_abs z) (gcd_of_all zs) in
    (g.0, DividesEach-trans (gcd_of_all (z ∷ zs)) (gcd_of_all zs) zs g.1 (DividesEach-gcd_of_all zs))

-- each common divisor of the list divides it
pub gcd_of_all-greatest : (d : ℕ) (zs : List ℤ) → DividesEach d zs → d ∣ gcd_of_all zs
gcd_of_all-greatest d [] h = dvd-zero d
gcd_of_all-greatest d (z ∷ zs) h =
    (IsGcd-gcd_of (unsigned_abs z) (gcd_of_all zs)).2 d h.0 (gcd_of_all-greatest d zs h.1)

pub gcd_of_all-positive : (z : ℤ) (zs : List ℤ) → z ≢ pos 0 → 0 < gcd_of_all (z ∷ zs)
gcd_of_all-positive z zs h =
    positive_divisor (gcd_of_all (z ∷ zs)) (unsigned_abs z) (some_size z h) (DividesEach-gcd_of_all (z ∷ zs)).0
  where
    some_size : (z : ℤ) → z ≢ pos 0 → 0 < unsigned_abs z
    some_size (pos zero) h = absurd (h refl)
    some_size (pos (suc n)) h = omega arith
    some_size (negsuc n) h = omega arith
