-- Multipliers divided by their greatest common divisor pass the test where they did before.
use Rattle.std.proofs.Common.{◌≡◌, ℕ, zero, suc, ◌+◌, ◌*◌, ◌<◌, ◌≤◌, max, Bool, true, false, cond, ℤ, pos, negsuc, ◌+ℤ◌, ◌*ℤ◌, ◌≤ℤ◌, ◌<ℤ◌, List, [], ◌∷◌, length, Result, Ok, Err, refl, sym, ap, subst, ◌∙◌, ⊎_elim, arith}
use Rattle.std.specs.Prelude.{◌^◌, ◌&&◌, ◌==◌, nat_lt, int_le, int_lt, int_div, neg_ℤ, unsigned_abs}
use Rattle.std.specs.List.{list_all, zip}
use Rattle.std.proofs.lemmas.Int.{ints}
use Rattle.std.proofs.lemmas.Bool.{cases_lt, lt-ltb, ltb-true}
use Rattle.std.proofs.lemmas.Bool.Decides.{Decides-int_eq}
use Rattle.std.proofs.Math.IntN.{zero-*ℤ}
use Rattle.std.proofs.Math.Nat.{le-mul_of_pos_right, eq-zero_of_zero-dvd}
use Rattle.items.specs.Gives.{◌>>=◌}
use Rattle.items.proofs.Gives.{on_ok}
use Rattle.whole_numbers.specs.declared.wide.Wide.{Wide}
use Rattle.whole_numbers.specs.Divisors.{gcd_of_all}
use Rattle.whole_numbers.specs.Fits.{fits, sum_of, product_of}
use Rattle.whole_numbers.proofs.CommonDivisors.{DividesEach, DividesEach-gcd_of_all}
use Rattle.whole_numbers.proofs.Quotients.{int_div-*ℤ, quotients, gcd_of_all-reduced}
use Rattle.whole_numbers.proofs.Ring.{≤ℤ-*ℤ, *ℤ_cancel, *ℤ_assoc, *ℤ-≤ℤ, +ℤ-*ℤ, sum_of-value, product_of-value}
use Rattle.linear_terms.specs.declared.col.Col.{Col}
use Rattle.linear_terms.specs.declared.row.Kind.{Kind}
use Rattle.linear_terms.specs.declared.row.Kind.TheVariants.{AtMost, Equal}
use Rattle.linear_terms.specs.declared.row.Row.{Row}
use Rattle.farkas_check.specs.Columns.{columns}
use Rattle.farkas_check.specs.Multiples.{is_multiplier, are_multipliers, lowest_multipliers, Form, sum_from, number_at, constant_in, sums_at, constant_sum, sum_of_multiples, is_zero, is_positive_constant}
use Rattle.farkas_check.specs.Tested.{tested_yes}
use Rattle.farkas_check.proofs.Farkas.{bool_ok, both_true, on_parts, ok_true, total, CanonicalRows, numbers_ok, form_ok, form_of}
use Rattle.farkas_check.proofs.Totals.{cancels}

-- ---- numbers of 128 bits

lt_less : (a b n : ℕ) → a ≤ b → nat_lt b n ≡ true → nat_lt a n ≡ true
lt_less a b n h e = lt-ltb a n (let under = ltb-true b n e in omega (arith, h, under))

-- a number of which a multiple fits
fits-less : (x : ℤ) (g : ℕ) → 0 < g → fits (x *ℤ pos g) ≡ true → fits x ≡ true
fits-less (pos n) g some e = lt_less n (n * g) (2 ^ 127) (le-mul_of_pos_right n some) e
fits-less (negsuc n) g some e = go (suc n * g) refl (le-mul_of_pos_right (suc n) some) e
  where
    go : (m : ℕ) → suc n * g ≡ m → suc n ≤ m → fits (neg_ℤ (pos m)) ≡ true → fits (negsuc n) ≡ true
    go zero f h k = absurd (omega (arith, h))
    go (suc m) f h k = lt_less n m (2 ^ 127) (omega (arith, h)) k

abbrev of_test : Bool → ℤ → Wide → Result ℤ Wide
of_test b x w = cond b (Ok x) (Err w)

test_true : (b : Bool) (x y : ℤ) (w : Wide) → of_test b x w ≡ Ok y → b ≡ true
test_true true x y w e = refl
test_true false x y w e = cc

product-made : (a b : ℤ) → fits (a *ℤ b) ≡ true → product_of a b ≡ Ok (a *ℤ b)
product-made a b e = ap (λ t. of_test t (a *ℤ b) (record { left = a; right = b; times = true })) e

sum-made : (a b : ℤ) → fits (a +ℤ b) ≡ true → sum_of a b ≡ Ok (a +ℤ b)
sum-made a b e = ap (λ t. of_test t (a +ℤ b) (record { left = a; right = b; times = false })) e

product-fits : (a b c : ℤ) → product_of a b ≡ Ok c → fits (a *ℤ b) ≡ true
product-fits a b c e = test_true (fits (a *ℤ b)) (a *ℤ b) c (record { left = a; right = b; times = true }) e

sum-fits : (a b c : ℤ) → sum_of a b ≡ Ok c → fits (a +ℤ b) ≡ true
sum-fits a b c e = test_true (fits (a +ℤ b)) (a +ℤ b) c (record { left = a; right = b; times = false }) e

-- ---- sums by multipliers with a common divisor

module _ (g : ℕ) (some : 0 < g) where
  -- a sum by the quotients, of which the sum by the multipliers is a multiple
  record HasSum (number : Row → ℤ) (start : ℤ) (rows : List Row) (by : List ℤ) (sum : ℤ) : Type 0 where
    value : ℤ
    is : sum ≡ value *ℤ pos g
    made : sum_from number start rows (quotients g by) ≡ Ok value

  step : (number start s : ℤ) (m part next : ℤ) (n : ℤ) → n *ℤ pos g ≡ m → start ≡ s *ℤ pos g → product_of number m ≡ Ok part → sum_of start part ≡ Ok next
      → (product_of number n ≡ Ok (number *ℤ n)) × ((sum_of s (number *ℤ n) ≡ Ok (s +ℤ number *ℤ n)) × (next ≡ (s +ℤ number *ℤ n) *ℤ pos g))
  step number start s m part next n e f h k = (
    product-made number n (fits-less (number *ℤ n) g some (subst (λ z. fits z ≡ true) product (product-fits number m part h))),
    (sum-made s (number *ℤ n) (fits-less (s +ℤ number *ℤ n) g some (subst (λ z. fits z ≡ true) sum (sum-fits start part next k))), sum_of-value start part next k ∙ sum),
  )
    where
      product : number *ℤ m ≡ number *ℤ n *ℤ pos g
      product = ap (λ z. number *ℤ z) (sym e) ∙ sym (*ℤ_assoc number n (pos g))

      sum : start +ℤ part ≡ (s +ℤ number *ℤ n) *ℤ pos g
      sum = ap (λ z. z +ℤ part) f ∙ ap (λ z. s *ℤ pos g +ℤ z) (product_of-value number m part h ∙ product) ∙ sym (+ℤ-*ℤ s (number *ℤ n) (pos g))

  sum-lowest_multipliers : (number : Row → ℤ) (start s : ℤ) (rows : List Row) (by : List ℤ) (total : ℤ) → DividesEach g by → start ≡ s *ℤ pos g → sum_from number start rows by ≡ Ok total
      → HasSum number s rows by total
  sum-lowest_multipliers number start s [] by total divides f e = let same : start ≡ total = cc in record { value = s; is = sym same ∙ f; made = refl }
  sum-lowest_multipliers number start s (row ∷ rows) [] total divides f e = let same : start ≡ total = cc in record { value = s; is = sym same ∙ f; made = refl }
  sum-lowest_multipliers number start s (row ∷ rows) (m ∷ by) total divides f e =
      on_ok (product_of (number row) m) (λ part. sum_of start part >>= λ next. sum_from number next rows by) total e
      (λ part h k. on_ok (sum_of start part) (λ next. sum_from number next rows by) total k
      (λ next l u.
      let n = int_div m (pos g) in
      let parts = step (number row) start s m part next n (int_div-*ℤ m g divides.0) f h l in
      let rest = sum-lowest_multipliers number next (s +ℤ number row *ℤ n) rows by total divides.1 parts.1.1 u in
      record {
        value = rest.value;
        is = rest.is;
        made = ap (λ r. r >>= λ p. sum_of s p >>= λ t. sum_from number t rows (quotients g by)) parts.0
            ∙ ap (λ r. r >>= λ t. sum_from number t rows (quotients g by)) parts.1.0 ∙ rest.made;
      }))

  zero_start : pos 0 ≡ pos 0 *ℤ pos g
  zero_start = sym (zero-*ℤ (pos g))

  zero_left : (z : ℤ) → z *ℤ pos g ≡ pos 0 → z ≡ pos 0
  zero_left z e = *ℤ_cancel z (pos 0) (pos g) (omega (arith, ints, some)) (e ∙ zero_start)

  is_zero-lowest_multipliers : (sum z : ℤ) → sum ≡ z *ℤ pos g → is_zero sum ≡ true → is_zero z ≡ true
  is_zero-lowest_multipliers sum z e f = (Decides-int_eq z (pos 0)).1 (zero_left z (sym e ∙ (Decides-int_eq sum (pos 0)).0 f))

  record HaveSums (rows : List Row) (by : List ℤ) (cs : List (List Col)) : Type 0 where
    values : List ℤ
    zero_each : list_all is_zero values ≡ true
    made : sums_at rows (quotients g by) cs ≡ Ok values

  both_are : (a b : Bool) → a ≡ true → b ≡ true → a && b ≡ true
  both_are a b e f = rw (e, f) refl

  sums-lowest_multipliers : (rows : List Row) (by : List ℤ) (cs : List (List Col)) (ns : List ℤ) → DividesEach g by → sums_at rows by cs ≡ Ok ns → list_all is_zero ns ≡ true → HaveSums rows by cs
  sums-lowest_multipliers rows by [] ns divides e zeros = record { values = []; zero_each = refl; made = refl }
  sums-lowest_multipliers rows by (c ∷ cs) ns divides e zeros =
      on_ok (sum_from (number_at c) (pos 0) rows by) (λ s. sums_at rows by cs >>= λ more. numbers_ok (s ∷ more)) ns e
      (λ s h k. on_ok (sums_at rows by cs) (λ more. numbers_ok (s ∷ more)) ns k
      (λ more l u. one s more (cc) h (λ k. sums-lowest_multipliers rows by cs more divides l k)))
    where
      one : (s : ℤ) (more : List ℤ) → s ∷ more ≡ ns → sum_from (number_at c) (pos 0) rows by ≡ Ok s → (list_all is_zero more ≡ true → HaveSums rows by cs) → HaveSums rows by (c ∷ cs)
      one s more same h later =
          let both = both_true (is_zero s) (list_all is_zero more) (ap (list_all is_zero) same ∙ zeros) in
          let first = sum-lowest_multipliers (number_at c) (pos 0) (pos 0) rows by s divides zero_start h in
          let rest = later both.1 in
          record {
            values = first.value ∷ rest.values;
            zero_each = both_are (is_zero first.value) (list_all is_zero rest.values) (is_zero-lowest_multipliers s first.value first.is both.0) rest.zero_each;
            made = ap (λ r. r >>= λ z. sums_at rows (quotients g by) cs >>= λ zs. numbers_ok (z ∷ zs)) first.made ∙ ap (λ r. r >>= λ zs. numbers_ok (first.value ∷ zs)) rest.made;
          }

  positive-lowest_multipliers : (s z : ℤ) → s ≡ z *ℤ pos g → int_lt (pos 0) s ≡ true → int_lt (pos 0) z ≡ true
  positive-lowest_multipliers s z e f = go (int_lt (pos 0) z) refl
    where
      go : (t : Bool) → int_lt (pos 0) z ≡ t → t ≡ true
      go true h = refl
      go false h =
          let low : z ≤ℤ pos 0 = omega (arith, ints, h) in
          let less : (z *ℤ pos g) ≤ℤ (pos 0 *ℤ pos g) = under z (pos 0) low in
          absurd (clash (z *ℤ pos g) (pos 0 *ℤ pos g) less (zero-*ℤ (pos g)) e)
        where
          under : (a b : ℤ) → a ≤ℤ b → (a *ℤ pos g) ≤ℤ (b *ℤ pos g)
          under a b l = ≤ℤ-*ℤ a b (pos g) (omega (arith, ints)) l

          clash : (u v : ℤ) → u ≤ℤ v → v ≡ pos 0 → s ≡ u → ⊥
          clash u v h k l = omega (arith, ints, h, k, l, f)

  -- ---- signs and lengths

  sign-lowest_multipliers : (kind : Kind) (m n : ℤ) → n *ℤ pos g ≡ m → is_multiplier kind m ≡ true → is_multiplier kind n ≡ true
  sign-lowest_multipliers Equal m n e f = refl
  sign-lowest_multipliers AtMost m n e f = go (int_le (pos 0) n) refl
    where
      go : (t : Bool) → int_le (pos 0) n ≡ t → t ≡ true
      go true h = refl
      go false h =
          let high : (pos 0 *ℤ pos g) ≤ℤ (n *ℤ pos g) = subst (λ z. z ≤ℤ (n *ℤ pos g)) zero_start (subst (λ z. pos 0 ≤ℤ z) (sym e) (omega (arith, ints, f))) in
          let up : pos 0 ≤ℤ n = *ℤ-≤ℤ (pos 0) n (pos g) (omega (arith, ints, some)) high in
          absurd (omega (arith, ints, up, h))

  signs-lowest_multipliers : (rows : List Row) (by : List ℤ) → DividesEach g by → list_all (λ (p : Row × ℤ). is_multiplier p.0.kind p.1) (zip rows by) ≡ true
      → list_all (λ (p : Row × ℤ). is_multiplier p.0.kind p.1) (zip rows (quotients g by)) ≡ true
  signs-lowest_multipliers [] by divides e = refl
  signs-lowest_multipliers (row ∷ rows) [] divides e = refl
  signs-lowest_multipliers (row ∷ rows) (m ∷ by) divides e =
      let both = both_true (is_multiplier row.kind m) (list_all (λ (p : Row × ℤ). is_multiplier p.0.kind p.1) (zip rows by)) e in
      both_are (is_multiplier row.kind (int_div m (pos g))) (list_all (λ (p : Row × ℤ). is_multiplier p.0.kind p.1) (zip rows (quotients g by)))
      (sign-lowest_multipliers row.kind m (int_div m (pos g)) (int_div-*ℤ m g divides.0) both.0) (signs-lowest_multipliers rows by divides.1 both.1)

  length-quotients : (by : List ℤ) → length (quotients g by) ≡ length by
  length-quotients [] = refl
  length-quotients (m ∷ by) = ap suc (length-quotients by)

  multipliers-lowest_multipliers : (rows : List Row) (by : List ℤ) → DividesEach g by → are_multipliers rows by ≡ true → are_multipliers rows (quotients g by) ≡ true
  multipliers-lowest_multipliers rows by divides e =
      let both = both_true (length by == length rows) (list_all (λ (p : Row × ℤ). is_multiplier p.0.kind p.1) (zip rows by)) e in
      both_are (length (quotients g by) == length rows) (list_all (λ (p : Row × ℤ). is_multiplier p.0.kind p.1) (zip rows (quotients g by)))
      (ap (λ n. n == length rows) (length-quotients by) ∙ both.0) (signs-lowest_multipliers rows by divides both.1)

  -- ---- the test

  pub yes-quotients : (rows : List Row) (by : List ℤ) → DividesEach g by → tested_yes rows by ≡ Ok true → tested_yes rows (quotients g by) ≡ Ok true
  yes-quotients rows by divides e =
      on_parts (Ok (are_multipliers rows by)) (sum_of_multiples rows by (columns rows []) >>= λ form. bool_ok (is_positive_constant form)) e
      (λ f h. on_ok (sum_of_multiples rows by (columns rows [])) (λ form. bool_ok (is_positive_constant form)) true h
      (λ form k l. on_ok (sums_at rows by (columns rows [])) (λ numbers. constant_sum rows by >>= λ rest. form_ok (form_of numbers rest)) form k
      (λ numbers u v. on_ok (constant_sum rows by) (λ rest. form_ok (form_of numbers rest)) form v
      (λ rest w x. whole (ok_true (are_multipliers rows by) f) numbers rest u w (positive numbers rest form (cc) (ok_true (is_positive_constant form) l))))))
    where
      positive : (numbers : List ℤ) (rest : ℤ) (form : Form) → form_of numbers rest ≡ form → is_positive_constant form ≡ true → is_positive_constant (form_of numbers rest) ≡ true
      positive numbers rest form same p = ap is_positive_constant same ∙ p

      whole : are_multipliers rows by ≡ true → (numbers : List ℤ) (rest : ℤ) → sums_at rows by (columns rows []) ≡ Ok numbers → constant_sum rows by ≡ Ok rest
          → is_positive_constant (form_of numbers rest) ≡ true → tested_yes rows (quotients g by) ≡ Ok true
      whole signs numbers rest u w p =
          let both = both_true (list_all is_zero numbers) (int_lt (pos 0) rest) p in
          let sums = sums-lowest_multipliers rows by (columns rows []) numbers divides u both.0 in
          let constant = sum-lowest_multipliers constant_in (pos 0) (pos 0) rows by rest divides zero_start w in
          ap (λ b. cond b (sum_of_multiples rows (quotients g by) (columns rows []) >>= λ form. bool_ok (is_positive_constant form)) (Ok false)) (multipliers-lowest_multipliers rows by divides signs)
          ∙ ap (λ r. (r >>= λ ns. constant_sum rows (quotients g by) >>= λ c. form_ok (form_of ns c)) >>= λ form. bool_ok (is_positive_constant form)) sums.made
          ∙ ap (λ r. (r >>= λ c. form_ok (form_of sums.values c)) >>= λ form. bool_ok (is_positive_constant form)) constant.made
          ∙ ap bool_ok (both_are (list_all is_zero sums.values) (int_lt (pos 0) constant.value) sums.zero_each (positive-lowest_multipliers rest constant.value constant.is both.1))

-- ---- the greatest common divisor is not 0

zero_of_size : (z : ℤ) → unsigned_abs z ≡ 0 → z ≡ pos 0
zero_of_size (pos n) e = ap pos e
zero_of_size (negsuc n) e = absurd (omega (arith, e))

total-zeros : (f : Row → ℤ) (rows : List Row) (by : List ℤ) → DividesEach 0 by → total f rows by ≡ pos 0
total-zeros f [] by h = refl
total-zeros f (row ∷ rows) [] h = refl
total-zeros f (row ∷ rows) (m ∷ by) h = none (f row) m (total f rows by) (zero_of_size m (eq-zero_of_zero-dvd h.0)) (total-zeros f rows by h.1)
  where
    none : (x m t : ℤ) → m ≡ pos 0 → t ≡ pos 0 → x *ℤ m +ℤ t ≡ pos 0
    none x m t e f = rw (e, f) (omega (arith, ints))

some_divisor : (rows : List Row) (by : List ℤ) → CanonicalRows rows → tested_yes rows by ≡ Ok true → 0 < gcd_of_all by
some_divisor rows by canonical e = ⊎_elim (λ none. absurd (never (zero_below (gcd_of_all by) none))) (λ h. h) (cases_lt (gcd_of_all by) 1)
  where
    zero_below : (n : ℕ) → n < 1 → n ≡ 0
    zero_below n h = omega (arith, h)

    never : gcd_of_all by ≡ 0 → ⊥
    never z =
        let known = cancels (λ c. pos 0) rows by canonical e in
        clash (total constant_in rows by) known.positive (total-zeros constant_in rows by (subst (λ n. DividesEach n by) z (DividesEach-gcd_of_all by)))
      where
        clash : (t : ℤ) → pos 0 <ℤ t → t ≡ pos 0 → ⊥
        clash t h k = omega (arith, ints, h, k)

-- ---- together

lowest_multipliers-is : (by : List ℤ) → 0 < gcd_of_all by → lowest_multipliers by ≡ quotients (gcd_of_all by) by
lowest_multipliers-is by some = ap (λ n. quotients n by) (most (gcd_of_all by) some)
  where
    most : (n : ℕ) → 0 < n → max n 1 ≡ n
    most n h = omega (arith, h)

pub yes-lowest_multipliers : (rows : List Row) (by : List ℤ) → CanonicalRows rows → tested_yes rows by ≡ Ok true → tested_yes rows (lowest_multipliers by) ≡ Ok true
yes-lowest_multipliers rows by canonical e =
    let some = some_divisor rows by canonical e in
    ap (tested_yes rows) (lowest_multipliers-is by some) ∙ yes-quotients (gcd_of_all by) some rows by (DividesEach-gcd_of_all by) e

pub coprime-lowest_multipliers : (rows : List Row) (by : List ℤ) → CanonicalRows rows → tested_yes rows by ≡ Ok true → gcd_of_all (lowest_multipliers by) ≡ 1
coprime-lowest_multipliers rows by canonical e =
    let some = some_divisor rows by canonical e in ap gcd_of_all (lowest_multipliers-is by some) ∙ gcd_of_all-reduced by some
