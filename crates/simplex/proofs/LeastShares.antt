-- What is proportional to a line without common divisor is a whole multiple of it, by its own
-- divisor.
use Rattle.std.proofs.Common.{◌≡◌, ℕ, zero, suc, ◌*◌, ◌/◌, ◌<◌, ◌≤◌, List, [], ◌∷◌, map, length, get_or, refl, sym, ap, subst, ◌∙◌, arith, ℤ, pos, ◌*ℤ◌, ◌<ℤ◌}
use Rattle.std.specs.Prelude.{unsigned_abs, int_div}
use Rattle.std.specs.Int.{◌∣◌}
use Rattle.std.proofs.lemmas.Int.{ints, unsigned_abs-mul}
use Rattle.std.proofs.lemmas.Nat.Gcd.{dvd_antisymm}
use Rattle.std.proofs.Math.Nat.{zero-mul, one-mul, dvd-mul_left, div-mul_cancel}
use Rattle.whole_numbers.specs.Divisors.{gcd_of_all}
use Rattle.whole_numbers.proofs.CommonDivisors.{DividesEach, DividesEach-gcd_of_all, gcd_of_all-greatest}
use Rattle.whole_numbers.proofs.Ring.{*ℤ_assoc, *ℤ_cancel, *ℤ-positive}
use Rattle.farkas_check.specs.Relations.{entry, places}
use Rattle.simplex.proofs.Calmness.{mapped}
use Rattle.simplex.proofs.Primitive.{divides_all}
use Rattle.simplex.proofs.Widths.{as_pos, size_above, quotient_is}

-- the numbers are those of the line, times one number, and the one scale is the other times it
pub record HasShare (xs : List ℤ) (w : ℕ → ℤ) (over scale : ℤ) : Type 0 where
  pub by : ℕ
  pub above : 0 < by
  pub each : (j : ℕ) → w j ≡ entry xs j *ℤ pos by
  pub over_is : over ≡ pos by *ℤ scale

pub primitive_share : (xs : List ℤ) (w : ℕ → ℤ) (over scale : ℤ) → gcd_of_all xs ≡ 1 → pos 0 <ℤ over → pos 0 <ℤ scale → ((j : ℕ) → entry xs j *ℤ over ≡ w j *ℤ scale) → HasShare xs w over scale
primitive_share xs w over scale primitive over_above scale_above same = record {
  by = q;
  above = q_above;
  each = each;
  over_is = over_is;
}
  where
    c : ℕ
    c = unsigned_abs over

    d : ℕ
    d = unsigned_abs scale

    divided : (j : ℕ) → d ∣ (unsigned_abs (entry xs j) * c)
    divided j = subst (λ (n : ℕ). d ∣ n) (sym (sym (unsigned_abs-mul (entry xs j) over) ∙ ap unsigned_abs (same j) ∙ unsigned_abs-mul (w j) scale)) (dvd-mul_left d (unsigned_abs (w j)))

    divides : d ∣ c
    divides = subst (λ (n : ℕ). d ∣ n) (ap (λ (n : ℕ). n * c) primitive ∙ one-mul c) (divides_all d c xs (size_above over over_above) divided)

    q : ℕ
    q = c / d

    q_is : q * d ≡ c
    q_is = div-mul_cancel d divides

    not_zero : (n : ℕ) → n * d ≡ c → 0 < c → 0 < n
    not_zero zero e h = absurd (let z : 0 * d ≡ 0 = zero-mul d in omega (arith, e, z, h))
    not_zero (suc n) e h = omega arith

    q_above : 0 < q
    q_above = not_zero q q_is (size_above over over_above)

    q_positive : pos 0 <ℤ pos q
    q_positive = let h : 0 < q = q_above in omega (arith, ints, h)

    over_is : over ≡ pos q *ℤ scale
    over_is =
        as_pos over over_above
        ∙ ap (λ (n : ℕ). pos n) (sym (unsigned_abs-mul (pos q) scale ∙ q_is))
        ∙ sym (as_pos (pos q *ℤ scale) (*ℤ-positive (pos q) scale q_positive scale_above))

    each : (j : ℕ) → w j ≡ entry xs j *ℤ pos q
    each j = *ℤ_cancel (w j) (entry xs j *ℤ pos q) scale scale_above (sym (same j) ∙ ap (λ z. entry xs j *ℤ z) over_is ∙ sym (*ℤ_assoc (entry xs j) (pos q) scale))

-- ---- divisors of lists by places

pub divides_each : (d : ℕ) (zs : List ℤ) → ((j : ℕ) → j < length zs → d ∣ unsigned_abs (entry zs j)) → DividesEach d zs
divides_each d [] f = tt
divides_each d (z ∷ zs) f = (f 0 (omega arith), divides_each d zs (λ j h. f (suc j) (omega (arith, h))))

pub divides_at : (d : ℕ) (zs : List ℤ) (j : ℕ) → j < length zs → DividesEach d zs → d ∣ unsigned_abs (entry zs j)
divides_at d [] j h e = absurd (omega (arith, h))
divides_at d (z ∷ zs) zero h e = e.0
divides_at d (z ∷ zs) (suc j) h e = divides_at d zs j (omega (arith, h)) e.1

-- what divides each multiple of a line without common divisor divides the factor
pub divides_factor : (d q : ℕ) (xs : List ℤ) → 0 < q → gcd_of_all xs ≡ 1 → ((j : ℕ) → d ∣ unsigned_abs (entry xs j *ℤ pos q)) → d ∣ q
divides_factor d q xs above primitive f =
    subst (λ (n : ℕ). d ∣ n) (ap (λ (n : ℕ). n * q) primitive ∙ one-mul q) (divides_all d q xs above (λ j. subst (λ (n : ℕ). d ∣ n) (unsigned_abs-mul (entry xs j) (pos q)) (f j)))

pub factor_divides : (q : ℕ) (x : ℤ) → q ∣ unsigned_abs (x *ℤ pos q)
factor_divides q x = subst (λ (n : ℕ). q ∣ n) (sym (unsigned_abs-mul x (pos q))) (dvd-mul_left q (unsigned_abs x))

-- the divisor of a list is a number that divides each and that each common divisor divides
pub divisor_is : (q : ℕ) (zs : List ℤ) → DividesEach q zs → ((d : ℕ) → DividesEach d zs → d ∣ q) → gcd_of_all zs ≡ q
divisor_is q zs each greatest = dvd_antisymm (greatest (gcd_of_all zs) (DividesEach-gcd_of_all zs)) (gcd_of_all-greatest q zs each)

-- ---- lists by places

-- there is nothing past the end of a list
pub past_zero : (xs : List ℤ) (j : ℕ) → length xs ≤ j → entry xs j ≡ pos 0
past_zero [] j h = refl
past_zero (x ∷ xs) zero h = absurd (omega (arith, h))
past_zero (x ∷ xs) (suc j) h = past_zero xs j (omega (arith, h))

pub number_listed : (f : ℕ → ℤ) (n j : ℕ) → j < n → entry (map f (places n)) j ≡ f j
number_listed f zero j h = absurd (omega (arith, h))
number_listed f (suc n) zero h = refl
number_listed f (suc n) (suc j) h = ap (λ (zs : List ℤ). entry zs j) (mapped f (λ i. suc i) (places n)) ∙ number_listed (λ i. f (suc i)) n j (omega (arith, h))

pub choice_listed : (f : ℕ → ℕ) (n j : ℕ) → j < n → get_or (map f (places n)) j 0 ≡ f j
choice_listed f zero j h = absurd (omega (arith, h))
choice_listed f (suc n) zero h = refl
choice_listed f (suc n) (suc j) h = ap (λ (ks : List ℕ). get_or ks j 0) (mapped f (λ i. suc i) (places n)) ∙ choice_listed (λ i. f (suc i)) n j (omega (arith, h))

pub listed-length : {A : Type 0} (f : ℕ → A) (n : ℕ) → length (map f (places n)) ≡ n
listed-length f zero = refl
listed-length f (suc n) = ap (λ (m : ℕ). suc m) (ap length (mapped f (λ i. suc i) (places n)) ∙ listed-length (λ i. f (suc i)) n)

-- a list is that of its numbers at the places
pub listed : (f : ℕ → ℤ) (n : ℕ) (xs : List ℤ) → length xs ≡ n → ((j : ℕ) → j < n → entry xs j ≡ f j) → xs ≡ map f (places n)
listed f n [] many same = subst (λ (m : ℕ). [] ≡ map f (places m)) many refl
listed f zero (x ∷ xs) many same = absurd (omega (arith, many))
listed f (suc n) (x ∷ xs) many same =
    ap (λ z. z ∷ xs) (same 0 (omega arith)) ∙ ap (λ (zs : List ℤ). f 0 ∷ zs) (listed (λ i. f (suc i)) n xs (omega (arith, many)) (λ j h. same (suc j) (omega (arith, h))) ∙ sym (mapped f (λ i. suc i) (places n)))

-- the quotients of the multiples of a line are the line
pub quotients_are : (q : ℕ) (xs ws : List ℤ) → 0 < q → length ws ≡ length xs → ((j : ℕ) → entry ws j ≡ entry xs j *ℤ pos q) → map (λ z. int_div z (pos q)) ws ≡ xs
quotients_are q [] [] above many same = refl
quotients_are q (x ∷ xs) [] above many same = absurd (omega (arith, many))
quotients_are q [] (w ∷ ws) above many same = absurd (omega (arith, many))
quotients_are q (x ∷ xs) (w ∷ ws) above many same =
    ap (λ z. z ∷ map (λ z. int_div z (pos q)) ws) (quotient_is w (pos q) x (let h : 0 < q = above in omega (arith, ints, h)) (same 0))
    ∙ ap (λ (zs : List ℤ). x ∷ zs) (quotients_are q xs ws above (omega (arith, many)) (λ j. same (suc j)))
