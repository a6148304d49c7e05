-- Sums and values whose numbers stay within 128 bits: partial sums of ratios have denominators that
-- divide a common one.
use Rattle.std.proofs.Common.{◌≡◌, ℕ, zero, suc, ◌+◌, ◌*◌, ◌/◌, ◌^◌, ◌<◌, ◌≤◌, List, [], ◌∷◌, length, Result, Ok, refl, sym, ap, subst, ◌∙◌, arith, ℤ, pos, negsuc, ◌+ℤ◌, ◌*ℤ◌, ◌≤ℤ◌, ◌<ℤ◌}
use Rattle.std.specs.Prelude.{unsigned_abs, int_div}
use Rattle.std.specs.Int.{◌∣◌}
use Rattle.std.specs.List.{AllByRecursion}
use Rattle.std.proofs.lemmas.Int.{ints, unsigned_abs-mul}
use Rattle.std.proofs.Math.Nat.{mul_comm, one-mul, mul-le-mul_left, dvd-mul_right, dvd-mul_left, div-mul_cancel}
use Rattle.std.proofs.Math.IntN.{*ℤ_comm, zero-*ℤ}
use Rattle.items.specs.Gives.{◌>>=◌}
use Rattle.whole_numbers.specs.Divisors.{gcd_of}
use Rattle.whole_numbers.specs.Fits.{sum_of, product_of}
use Rattle.whole_numbers.specs.declared.wide.Wide as Step
use Rattle.whole_numbers.proofs.CommonDivisors.{IsGcd-gcd_of, gcd_of-times}
use Rattle.whole_numbers.proofs.Quotients.{int_div-*ℤ}
use Rattle.whole_numbers.proofs.Ring.{ring, *ℤ_cancel, *ℤ_assoc, *ℤ-positive, +ℤ-*ℤ, one-*ℤ, sum_of-value, product_of-value, unsigned_abs-+ℤ}
use Rattle.linear_terms.specs.declared.col.Col.{Col}
use Rattle.linear_terms.specs.declared.row.Row.{Row}
use Rattle.linear_terms.specs.Polynomial.{Terms, Polynomial}
use Rattle.farkas_check.specs.Multiples.{sum_from}
use Rattle.farkas_check.specs.Points.{value_from, slope_at, ratio_value}
use Rattle.farkas_check.specs.Rational.{terms_at}
use Rattle.farkas_check.specs.Ratios.{Fraction, IsLowest, whole, lowest_terms, common_multiple, ratio_product, ratio_sum}
use Rattle.farkas_check.proofs.Lowest.{divisor_positive, positive-lowest_terms, lowest_terms-num, lowest_terms-den, IsLowest-lowest_terms, IsLowest-whole}
use Rattle.farkas_check.proofs.PointValues.{Stands, Stands-whole, Stands-product, Stands-sum, nothing}
use Rattle.simplex.proofs.Small.{HasValue, bind_value, product-small, product_of-fits, sum_of-fits}

-- ---- sums of multiples

pub sum_from-fits : (n b : ℕ) (number : Row → ℤ) (total : ℤ) (rows : List Row) (by : List ℤ) → AllByRecursion (λ row. unsigned_abs (number row) ≤ n) rows → AllByRecursion (λ m. unsigned_abs m ≤ n) by → unsigned_abs total ≤ b → b + length rows * (n * n) < 2 ^ 127 → HasValue (sum_from number total rows by)
sum_from-fits n b number total [] by r m h k = (total, refl)
sum_from-fits n b number total (row ∷ rows) [] r m h k = (total, refl)
sum_from-fits n b number total (row ∷ rows) (x ∷ by) r m h k =
    let part_small : unsigned_abs (number row *ℤ x) ≤ n * n = product-small n n (number row) x r.0 m.0 in
    let sum_small : unsigned_abs (total +ℤ number row *ℤ x) ≤ unsigned_abs total + unsigned_abs (number row *ℤ x) = unsigned_abs-+ℤ total (number row *ℤ x) in
    let more : suc (length rows) * (n * n) ≡ length rows * (n * n) + n * n = omega arith in
    bind_value (product_of (number row) x) (λ part. sum_of total part >>= λ next. sum_from number next rows by) (number row *ℤ x, product_of-fits (number row) x (omega (arith, part_small, more, k)))
    (λ part e. second part (product_of-value (number row) x part e) part_small sum_small more (λ next small. sum_from-fits n (b + n * n) number next rows by r.1 m.1 small (omega (arith, more, k))))
  where
    second : (part : ℤ) → part ≡ number row *ℤ x → unsigned_abs (number row *ℤ x) ≤ n * n → unsigned_abs (total +ℤ number row *ℤ x) ≤ unsigned_abs total + unsigned_abs (number row *ℤ x) → suc (length rows) * (n * n) ≡ length rows * (n * n) + n * n → ((next : ℤ) → unsigned_abs next ≤ b + n * n → HasValue (sum_from number next rows by)) → HasValue (sum_of total part >>= λ next. sum_from number next rows by)
    second part is part_small sum_small more again =
        let size : unsigned_abs (total +ℤ part) ≤ b + n * n = subst (λ (z : ℤ). unsigned_abs (total +ℤ z) ≤ b + n * n) (sym is) (omega (arith, part_small, sum_small, h)) in
        bind_value (sum_of total part) (λ next. sum_from number next rows by) (total +ℤ part, sum_of-fits total part (omega (arith, size, more, k)))
        (λ next f. again next (subst (λ (z : ℤ). unsigned_abs z ≤ b + n * n) (sym (sum_of-value total part next f)) size))

-- ---- ratios over a common denominator

-- the ratio is x over d, in lowest terms
pub record IsRatio (r : Fraction) (x d : ℤ) : Type 0 where
  pub stands : Stands r x d
  pub lowest : IsLowest r

-- both parts of a ratio times one number
pub record IsShare (r : Fraction) (x d : ℤ) : Type 0 where
  pub times : ℤ
  pub positive : pos 0 <ℤ times
  pub num : r.num *ℤ times ≡ x
  pub den : r.den *ℤ times ≡ d

pub as_pos : (z : ℤ) → pos 0 <ℤ z → z ≡ pos (unsigned_abs z)
as_pos (pos n) h = refl
as_pos (negsuc n) h = absurd (omega (arith, ints, h))

pub size_above : (z : ℤ) → pos 0 <ℤ z → 0 < unsigned_abs z
size_above z h = omega (arith, ints)

swap_last : (a b c : ℤ) → a *ℤ b *ℤ c ≡ a *ℤ (c *ℤ b)
swap_last a b c = simp ring (omega (arith, ints))

pub shared : (r : Fraction) (x d : ℤ) → pos 0 <ℤ d → IsRatio r x d → IsShare r x d
shared r x d p s = record { times = pos q; positive = q_above; num = num_is; den = den_is }
  where
    a : ℕ
    a = unsigned_abs r.num

    b : ℕ
    b = unsigned_abs r.den

    e : ℕ
    e = unsigned_abs d

    e_above : 0 < unsigned_abs d
    e_above = size_above d p

    first : unsigned_abs r.den ∣ (unsigned_abs r.num * unsigned_abs d)
    first = subst (λ (n : ℕ). unsigned_abs r.den ∣ n) (sym (unsigned_abs-mul x r.den) ∙ ap unsigned_abs (sym s.stands.same) ∙ unsigned_abs-mul r.num d) (dvd-mul_left (unsigned_abs r.den) (unsigned_abs x))

    divides : unsigned_abs r.den ∣ unsigned_abs d
    divides = subst (λ (n : ℕ). unsigned_abs r.den ∣ n) (gcd_of-times a b e e_above ∙ ap (λ (n : ℕ). n * e) s.lowest.lowest ∙ one-mul e) ((IsGcd-gcd_of (a * e) (b * e)).2 b first (dvd-mul_right b e))

    q : ℕ
    q = unsigned_abs d / unsigned_abs r.den

    q_is : q * unsigned_abs r.den ≡ unsigned_abs d
    q_is = div-mul_cancel (unsigned_abs r.den) divides

    not_zero : (n : ℕ) → n * b ≡ e → 0 < n
    not_zero zero f = absurd (let z : 0 * b ≡ 0 = omega arith in omega (arith, f, z, e_above))
    not_zero (suc n) f = omega arith

    q_above : pos 0 <ℤ pos q
    q_above = let h : 0 < q = not_zero q q_is in omega (arith, ints, h)

    den_is : r.den *ℤ pos q ≡ d
    den_is =
        as_pos (r.den *ℤ pos q) (*ℤ-positive r.den (pos q) s.stands.positive q_above)
        ∙ ap (λ (n : ℕ). pos n) (unsigned_abs-mul r.den (pos q) ∙ mul_comm b q ∙ q_is)
        ∙ sym (as_pos d p)

    num_is : r.num *ℤ pos q ≡ x
    num_is = *ℤ_cancel (r.num *ℤ pos q) x r.den s.stands.positive (swap_last r.num (pos q) r.den ∙ ap (λ z. r.num *ℤ z) den_is ∙ s.stands.same)

-- a factor is no greater than the product
pub factor_small : (z s d : ℤ) → pos 0 <ℤ s → z *ℤ s ≡ d → unsigned_abs z ≤ unsigned_abs d
factor_small z s d p e =
    let size : 1 ≤ unsigned_abs s = size_above s p in
    let more : unsigned_abs z * 1 ≤ unsigned_abs z * unsigned_abs s = mul-le-mul_left (unsigned_abs z) size in
    let is : unsigned_abs z * unsigned_abs s ≡ unsigned_abs d = sym (unsigned_abs-mul z s) ∙ ap unsigned_abs e in omega (arith, more, is)

-- a division without rest
pub quotient_is : (z d q : ℤ) → pos 0 <ℤ d → z ≡ q *ℤ d → int_div z d ≡ q
quotient_is z (pos n) q p e =
    *ℤ_cancel (int_div z (pos n)) q (pos n) p
    (int_div-*ℤ z n (subst (λ (m : ℕ). n ∣ m) (sym (ap unsigned_abs e ∙ unsigned_abs-mul q (pos n))) (dvd-mul_left n (unsigned_abs q))) ∙ e)
quotient_is z (negsuc n) q p e = absurd (omega (arith, ints, p))

-- ---- products

pub product-ratio : (c x d : ℤ) (r : Fraction) → pos 0 <ℤ d → IsRatio r x d → unsigned_abs (c *ℤ x) < 2 ^ 127 → unsigned_abs d < 2 ^ 127 → (p : Fraction) × ((ratio_product (whole c) r ≡ Ok p) × IsRatio p (c *ℤ x) d)
product-ratio c x d r p s h k = (lowest_terms (c *ℤ r.num) (pos 1 *ℤ r.den), (made, record { stands = Stands-product c x d r (lowest_terms (c *ℤ r.num) (pos 1 *ℤ r.den)) s.stands made; lowest = IsLowest-lowest_terms (c *ℤ r.num) (pos 1 *ℤ r.den) (subst (λ z. pos 0 <ℤ z) (sym (one-*ℤ r.den)) s.stands.positive) }))
  where
    f : IsShare r x d
    f = shared r x d p s

    num_small : unsigned_abs (c *ℤ r.num) < 2 ^ 127
    num_small = let g : unsigned_abs (c *ℤ r.num) ≤ unsigned_abs (c *ℤ x) = factor_small (c *ℤ r.num) f.times (c *ℤ x) f.positive (*ℤ_assoc c r.num f.times ∙ ap (λ z. c *ℤ z) f.num) in omega (arith, g, h)

    den_small : unsigned_abs (pos 1 *ℤ r.den) < 2 ^ 127
    den_small = let g : unsigned_abs (pos 1 *ℤ r.den) ≤ unsigned_abs d = factor_small (pos 1 *ℤ r.den) f.times d f.positive (ap (λ z. z *ℤ f.times) (one-*ℤ r.den) ∙ f.den) in omega (arith, g, k)

    made : ratio_product (whole c) r ≡ Ok (lowest_terms (c *ℤ r.num) (pos 1 *ℤ r.den))
    made = rw (product_of-fits c r.num num_small, product_of-fits (pos 1) r.den den_small) refl

-- ---- sums

pub sum-ratio : (x y d : ℤ) (a b : Fraction) → pos 0 <ℤ d → IsRatio a x d → IsRatio b y d → unsigned_abs x < 2 ^ 127 → unsigned_abs y < 2 ^ 127 → unsigned_abs (x +ℤ y) < 2 ^ 127 → unsigned_abs d < 2 ^ 127 → (r : Fraction) × ((ratio_sum a b ≡ Ok r) × IsRatio r (x +ℤ y) d)
sum-ratio x y d a b p s t hx hy hs hd = (lowest_terms (left +ℤ right) m, (made, record { stands = Stands-sum x y d a b (lowest_terms (left +ℤ right) m) s.stands t.stands made; lowest = IsLowest-lowest_terms (left +ℤ right) m m_above }))
  where
    f : IsShare a x d
    f = shared a x d p s

    g : IsShare b y d
    g = shared b y d p t

    common : ℤ
    common = pos (gcd_of (unsigned_abs a.den) (unsigned_abs b.den))

    common_above : pos 0 <ℤ pos (gcd_of (unsigned_abs a.den) (unsigned_abs b.den))
    common_above = let h : 0 < gcd_of (unsigned_abs a.den) (unsigned_abs b.den) = divisor_positive a.den b.den t.stands.positive in omega (arith, ints, h)

    l : Fraction
    l = lowest_terms a.den b.den

    first : (lowest_terms a.den b.den).num *ℤ pos (gcd_of (unsigned_abs a.den) (unsigned_abs b.den)) ≡ a.den
    first = lowest_terms-num a.den b.den

    second : (lowest_terms a.den b.den).den *ℤ pos (gcd_of (unsigned_abs a.den) (unsigned_abs b.den)) ≡ b.den
    second = lowest_terms-den a.den b.den

    slide : (u v w : ℤ) → u *ℤ v *ℤ w ≡ u *ℤ w *ℤ v
    slide u v w = simp ring (omega (arith, ints))

    level : (lowest_terms a.den b.den).num *ℤ f.times ≡ g.times *ℤ (lowest_terms a.den b.den).den
    level = *ℤ_cancel ((lowest_terms a.den b.den).num *ℤ f.times) (g.times *ℤ (lowest_terms a.den b.den).den) common common_above
        (slide (lowest_terms a.den b.den).num f.times common ∙ ap (λ z. z *ℤ f.times) first ∙ f.den ∙ sym g.den ∙ ap (λ z. z *ℤ g.times) (sym second) ∙ *ℤ_comm ((lowest_terms a.den b.den).den *ℤ common) g.times ∙ sym (*ℤ_assoc g.times (lowest_terms a.den b.den).den common))

    o : IsShare (lowest_terms a.den b.den) g.times f.times
    o = shared (lowest_terms a.den b.den) g.times f.times f.positive (record { stands = record { same = level; positive = positive-lowest_terms a.den b.den t.stands.positive }; lowest = IsLowest-lowest_terms a.den b.den t.stands.positive })

    m : ℤ
    m = (lowest_terms a.den b.den).num *ℤ b.den

    m_is : m *ℤ o.times ≡ d
    m_is = slide (lowest_terms a.den b.den).num b.den o.times ∙ ap (λ z. z *ℤ b.den) o.num ∙ *ℤ_comm g.times b.den ∙ g.den

    l_above : pos 0 <ℤ (lowest_terms a.den b.den).num
    l_above = positive_left (lowest_terms a.den b.den).num common a.den common_above first s.stands.positive
      where
        positive_left : (z k w : ℤ) → pos 0 <ℤ k → z *ℤ k ≡ w → pos 0 <ℤ w → pos 0 <ℤ z
        positive_left (pos zero) k w h e v = absurd (let u : pos 0 *ℤ k ≡ pos 0 = zero-*ℤ k in omega (arith, ints, e, u, v))
        positive_left (pos (suc n)) k w h e v = omega (arith, ints)
        positive_left (negsuc n) (pos k) w h e v = absurd (let u : (negsuc n *ℤ pos k) ≤ℤ pos 0 = omega (arith, ints) in omega (arith, ints, e, u, v))
        positive_left (negsuc n) (negsuc k) w h e v = absurd (omega (arith, ints, h))

    m_above : pos 0 <ℤ m
    m_above = *ℤ-positive (lowest_terms a.den b.den).num b.den l_above t.stands.positive

    left : ℤ
    left = a.num *ℤ (lowest_terms a.den b.den).den

    right : ℤ
    right = b.num *ℤ (lowest_terms a.den b.den).num

    left_is : left *ℤ o.times ≡ x
    left_is = *ℤ_assoc a.num (lowest_terms a.den b.den).den o.times ∙ ap (λ z. a.num *ℤ z) o.den ∙ f.num

    right_is : right *ℤ o.times ≡ y
    right_is = *ℤ_assoc b.num (lowest_terms a.den b.den).num o.times ∙ ap (λ z. b.num *ℤ z) o.num ∙ g.num

    by_left : int_div m a.den ≡ (lowest_terms a.den b.den).den
    by_left = quotient_is m a.den (lowest_terms a.den b.den).den s.stands.positive
        (ap (λ z. (lowest_terms a.den b.den).num *ℤ z) (sym second) ∙ regroup (lowest_terms a.den b.den).num (lowest_terms a.den b.den).den common ∙ ap (λ z. (lowest_terms a.den b.den).den *ℤ z) first)
      where
        regroup : (u v w : ℤ) → u *ℤ (v *ℤ w) ≡ v *ℤ (u *ℤ w)
        regroup u v w = simp ring (omega (arith, ints))

    by_right : int_div m b.den ≡ (lowest_terms a.den b.den).num
    by_right = quotient_is m b.den (lowest_terms a.den b.den).num t.stands.positive refl

    step_m : common_multiple a.den b.den ≡ Ok m
    step_m = product_of-fits (lowest_terms a.den b.den).num b.den (let q : unsigned_abs m ≤ unsigned_abs d = factor_small m o.times d o.positive m_is in omega (arith, q, hd))

    step_left : product_of a.num (int_div m a.den) ≡ Ok left
    step_left = ap (λ z. product_of a.num z) by_left ∙ product_of-fits a.num (lowest_terms a.den b.den).den (let q : unsigned_abs left ≤ unsigned_abs x = factor_small left o.times x o.positive left_is in omega (arith, q, hx))

    step_right : product_of b.num (int_div m b.den) ≡ Ok right
    step_right = ap (λ z. product_of b.num z) by_right ∙ product_of-fits b.num (lowest_terms a.den b.den).num (let q : unsigned_abs right ≤ unsigned_abs y = factor_small right o.times y o.positive right_is in omega (arith, q, hy))

    step_sum : sum_of left right ≡ Ok (left +ℤ right)
    step_sum = sum_of-fits left right (let q : unsigned_abs (left +ℤ right) ≤ unsigned_abs (x +ℤ y) = factor_small (left +ℤ right) o.times (x +ℤ y) o.positive (+ℤ-*ℤ left right o.times ∙ ap (λ z. z +ℤ right *ℤ o.times) left_is ∙ ap (λ z. x +ℤ z) right_is) in omega (arith, q, hs))

    ratio_ok : Fraction → Result Fraction Step.Wide
    ratio_ok q = Ok q

    made : ratio_sum a b ≡ Ok (lowest_terms (left +ℤ right) m)
    made =
        ap (λ (q : Result ℤ Step.Wide). q >>= λ den. product_of a.num (int_div den a.den) >>= λ u. product_of b.num (int_div den b.den) >>= λ v. sum_of u v >>= λ w. Ok (lowest_terms w den)) step_m
        ∙ ap (λ (q : Result ℤ Step.Wide). q >>= λ u. product_of b.num (int_div m b.den) >>= λ v. sum_of u v >>= λ w. Ok (lowest_terms w m)) step_left
        ∙ ap (λ (q : Result ℤ Step.Wide). q >>= λ v. sum_of left v >>= λ w. Ok (lowest_terms w m)) step_right
        ∙ ap (λ (q : Result ℤ Step.Wide). q >>= λ w. Ok (lowest_terms w m)) step_sum

-- ---- values

-- each number of a point is a ratio over the denominator
abbrev pub EachRatio : (List Col → Fraction) → (List Col → ℤ) → ℤ → Type 0
EachRatio at x d = (c : List Col) → IsRatio (at c) (x c) d

abbrev HasTermsValue : Result Fraction Step.Wide → ℤ → ℤ → ℕ → Type 0
HasTermsValue value z d most = (r : Fraction) × ((value ≡ Ok r) × (IsRatio r z d × (unsigned_abs z ≤ most)))

pub terms-ratio : (at : List Col → Fraction) (x : List Col → ℤ) (d z : ℤ) (q b : ℕ) (total : Fraction) (ts : Terms) → pos 0 <ℤ d → EachRatio at x d → AllByRecursion (λ t. unsigned_abs (t.1 *ℤ x t.0) ≤ q) ts → IsRatio total z d → unsigned_abs z ≤ b → b + length ts * q < 2 ^ 127 → q < 2 ^ 127 → unsigned_abs d < 2 ^ 127
    → (r : Fraction) × ((value_from at total ts ≡ Ok r) × (IsRatio r (z +ℤ terms_at x ts) d × (unsigned_abs (z +ℤ terms_at x ts) ≤ b + length ts * q)))
terms-ratio at x d z q b total [] p each small s h k room hd = (total, (refl, (subst (λ w. IsRatio total w d) (sym (plain z)) s, subst (λ w. unsigned_abs w ≤ b + 0 * q) (sym (plain z)) (let o : 0 * q ≡ 0 = omega arith in omega (arith, h, o)))))
  where
    plain : (z : ℤ) → z +ℤ pos 0 ≡ z
    plain z = omega (arith, ints)
terms-ratio at x d z q b total (t ∷ ts) p each small s h k room hd =
    with_part (product-ratio t.1 (x t.0) d (at t.0) p (each t.0) (let g : unsigned_abs (t.1 *ℤ x t.0) ≤ q = small.0 in omega (arith, g, room)) hd)
    (λ next is. terms-ratio at x d (z +ℤ t.1 *ℤ x t.0) q (b + q) next ts p each small.1 is sum_size (omega (arith, k, more)) room hd)
  where
    more : suc (length ts) * q ≡ length ts * q + q
    more = omega arith

    term : ℤ
    term = t.1 *ℤ x t.0

    group : (u v w : ℤ) → u +ℤ v +ℤ w ≡ u +ℤ (v +ℤ w)
    group u v w = omega (arith, ints)

    sum_size : unsigned_abs (z +ℤ t.1 *ℤ x t.0) ≤ b + q
    sum_size = let g : unsigned_abs (z +ℤ t.1 *ℤ x t.0) ≤ unsigned_abs z + unsigned_abs (t.1 *ℤ x t.0) = unsigned_abs-+ℤ z (t.1 *ℤ x t.0) in let u : unsigned_abs (t.1 *ℤ x t.0) ≤ q = small.0 in omega (arith, g, u, h)

    with_part : ((part : Fraction) × ((ratio_product (whole t.1) (at t.0) ≡ Ok part) × IsRatio part (t.1 *ℤ x t.0) d)) → ((next : Fraction) → IsRatio next (z +ℤ t.1 *ℤ x t.0) d → HasTermsValue (value_from at next ts) (z +ℤ t.1 *ℤ x t.0 +ℤ terms_at x ts) d (b + q + length ts * q)) → HasTermsValue (value_from at total (t ∷ ts)) (z +ℤ (t.1 *ℤ x t.0 +ℤ terms_at x ts)) d (b + suc (length ts) * q)
    with_part part again = with_sum (sum-ratio z (t.1 *ℤ x t.0) d total part.0 p s part.1.1 (omega (arith, h, k, more)) (let u : unsigned_abs (t.1 *ℤ x t.0) ≤ q = small.0 in omega (arith, u, room)) (let u = sum_size in omega (arith, u, k, more)) hd)
      where
        with_sum : ((next : Fraction) × ((ratio_sum total part.0 ≡ Ok next) × IsRatio next (z +ℤ t.1 *ℤ x t.0) d)) → HasTermsValue (value_from at total (t ∷ ts)) (z +ℤ (t.1 *ℤ x t.0 +ℤ terms_at x ts)) d (b + suc (length ts) * q)
        with_sum next = finish (again next.0 next.1.1)
          where
            step : value_from at total (t ∷ ts) ≡ value_from at next.0 ts
            step =
                ap (λ (r : Result Fraction Step.Wide). r >>= λ part. ratio_sum total part >>= λ next. value_from at next ts) part.1.0
                ∙ ap (λ (r : Result Fraction Step.Wide). r >>= λ next. value_from at next ts) next.1.0

            finish : HasTermsValue (value_from at next.0 ts) (z +ℤ t.1 *ℤ x t.0 +ℤ terms_at x ts) d (b + q + length ts * q) → HasTermsValue (value_from at total (t ∷ ts)) (z +ℤ (t.1 *ℤ x t.0 +ℤ terms_at x ts)) d (b + suc (length ts) * q)
            finish v = (v.0, (step ∙ v.1.0, (subst (λ w. IsRatio v.0 w d) (group z (t.1 *ℤ x t.0) (terms_at x ts)) v.1.1.0, subst (λ w. unsigned_abs w ≤ b + suc (length ts) * q) (group z (t.1 *ℤ x t.0) (terms_at x ts)) (let u : unsigned_abs (z +ℤ t.1 *ℤ x t.0 +ℤ terms_at x ts) ≤ b + q + length ts * q = v.1.1.1 in omega (arith, u, more)))))

pub IsRatio-nothing : (d : ℤ) → IsRatio (whole (pos 0)) (pos 0) d
IsRatio-nothing d = record { stands = nothing d; lowest = IsLowest-whole (pos 0) }

pub slope-ratio : (at : List Col → Fraction) (x : List Col → ℤ) (d : ℤ) (q : ℕ) (p : Polynomial) → pos 0 <ℤ d → EachRatio at x d → AllByRecursion (λ t. unsigned_abs (t.1 *ℤ x t.0) ≤ q) p.terms → length p.terms * q < 2 ^ 127 → q < 2 ^ 127 → unsigned_abs d < 2 ^ 127
    → (r : Fraction) × ((slope_at at p ≡ Ok r) × (IsRatio r (terms_at x p.terms) d × (unsigned_abs (terms_at x p.terms) ≤ length p.terms * q)))
slope-ratio at x d q p above each small k room hd = turn (terms-ratio at x d (pos 0) q 0 (whole (pos 0)) p.terms above each small (IsRatio-nothing d) (omega (arith, ints)) (omega (arith, k)) room hd)
  where
    plain : (z : ℤ) → pos 0 +ℤ z ≡ z
    plain z = omega (arith, ints)

    turn : HasTermsValue (slope_at at p) (pos 0 +ℤ terms_at x p.terms) d (0 + length p.terms * q) → HasTermsValue (slope_at at p) (terms_at x p.terms) d (length p.terms * q)
    turn v = (v.0, (v.1.0, (subst (λ w. IsRatio v.0 w d) (plain (terms_at x p.terms)) v.1.1.0, subst (λ w. unsigned_abs w ≤ length p.terms * q) (plain (terms_at x p.terms)) (let u : unsigned_abs (pos 0 +ℤ terms_at x p.terms) ≤ 0 + length p.terms * q = v.1.1.1 in omega (arith, u)))))

pub value-ratio : (at : List Col → Fraction) (x : List Col → ℤ) (d : ℤ) (q : ℕ) (p : Polynomial) → pos 0 <ℤ d → EachRatio at x d → AllByRecursion (λ t. unsigned_abs (t.1 *ℤ x t.0) ≤ q) p.terms → unsigned_abs (p.rest *ℤ d) ≤ q → length p.terms * q + q < 2 ^ 127 → unsigned_abs d < 2 ^ 127
    → (r : Fraction) × ((ratio_value at p ≡ Ok r) × IsRatio r (terms_at x p.terms +ℤ p.rest *ℤ d) d)
value-ratio at x d q p above each small rest k hd = with_slope (slope-ratio at x d q p above each small (omega (arith, k)) (omega (arith, k)) hd)
  where
    with_slope : HasTermsValue (slope_at at p) (terms_at x p.terms) d (length p.terms * q) → (r : Fraction) × ((ratio_value at p ≡ Ok r) × IsRatio r (terms_at x p.terms +ℤ p.rest *ℤ d) d)
    with_slope v =
        let size : unsigned_abs (terms_at x p.terms) ≤ length p.terms * q = v.1.1.1 in
        let both : unsigned_abs (terms_at x p.terms +ℤ p.rest *ℤ d) ≤ unsigned_abs (terms_at x p.terms) + unsigned_abs (p.rest *ℤ d) = unsigned_abs-+ℤ (terms_at x p.terms) (p.rest *ℤ d) in
        finish (sum-ratio (terms_at x p.terms) (p.rest *ℤ d) d v.0 (whole p.rest) above v.1.1.0 (record { stands = Stands-whole p.rest d; lowest = IsLowest-whole p.rest }) (omega (arith, size, k)) (omega (arith, rest, k)) (omega (arith, size, both, rest, k)) hd)
      where
        finish : ((r : Fraction) × ((ratio_sum v.0 (whole p.rest) ≡ Ok r) × IsRatio r (terms_at x p.terms +ℤ p.rest *ℤ d) d)) → (r : Fraction) × ((ratio_value at p ≡ Ok r) × IsRatio r (terms_at x p.terms +ℤ p.rest *ℤ d) d)
        finish r = (r.0, (ap (λ (q : Result Fraction Step.Wide). q >>= λ terms. ratio_sum terms (whole p.rest)) v.1.0 ∙ r.1.0, r.1.1))
