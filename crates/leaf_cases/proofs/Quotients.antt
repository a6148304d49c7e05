-- Truncated division on whole numbers: the four cases by signs are what it is, and no others.
use Rattle.std.proofs.Common.{◌≡◌, ◌≢◌, ℕ, zero, suc, ◌*◌, ◌<◌, Bool, true, false, ℤ, pos, negsuc, ◌+ℤ◌, ◌-ℤ◌, ◌*ℤ◌, ◌≤ℤ◌, refl, sym, ap, subst, ◌∙◌, arith}
use Rattle.std.specs.Prelude.{unsigned_abs, int_div, int_rem}
use Rattle.std.proofs.lemmas.Int.{ints, quot-rem, rem_below, unsigned_abs-mul}
use Rattle.whole_numbers.proofs.Ring.{ring}

-- what the rows of the four cases say of numbers
abbrev pub Divisor : Bool → ℤ → Type 0
Divisor true b = pos 1 ≤ℤ b
Divisor false b = b ≤ℤ negsuc 0

abbrev pub Dividend : Bool → ℤ → Type 0
Dividend true a = pos 0 ≤ℤ a
Dividend false a = a ≤ℤ negsuc 0

abbrev pub Lower : Bool → Bool → ℤ → ℤ → Type 0
Lower divisor true b r = pos 0 ≤ℤ r
Lower true false b r = (pos 1 -ℤ b) ≤ℤ r
Lower false false b r = (b +ℤ pos 1) ≤ℤ r

abbrev pub Upper : Bool → Bool → ℤ → ℤ → Type 0
Upper true true b r = r ≤ℤ (b -ℤ pos 1)
Upper false true b r = r ≤ℤ (negsuc 0 -ℤ b)
Upper divisor false b r = r ≤ℤ pos 0

pub record Splits (divisor dividend : Bool) (a b q r : ℤ) : Type 0 where
  pub equation : a ≡ q *ℤ b +ℤ r
  pub divisor_is : Divisor divisor b
  pub dividend_is : Dividend dividend a
  pub lower : Lower divisor dividend b r
  pub upper : Upper divisor dividend b r

-- the quotient and the remainder
pub record IsDivision (a b q r : ℤ) : Type 0 where
  pub some : b ≢ pos 0
  pub quotient : q ≡ int_div a b
  pub remainder : r ≡ a -ℤ (int_div a b *ℤ b)

-- ---- what a division is falls under one of the cases

remainder_is : (a b : ℤ) → int_rem a b ≡ a -ℤ (int_div a b *ℤ b)
remainder_is a b = let e = quot-rem a b in omega (arith, ints)

-- a division falls under the case of its signs
pub record Falls (a b : ℤ) : Type 0 where
  pub divisor : Bool
  pub dividend : Bool
  pub splits : Splits divisor dividend a b (int_div a b) (a -ℤ (int_div a b *ℤ b))

again : (a x : ℤ) → a ≡ x +ℤ (a -ℤ x)
again a x = omega (arith, ints)

pub division_falls : (a b : ℤ) → b ≢ pos 0 → Falls a b
division_falls (pos n) (pos zero) h = absurd (h refl)
division_falls (pos n) (pos (suc m)) h =
    let a = pos n in
    let b = pos (suc m) in
    let e = remainder_is a b in
    let lt = rem_below a b (omega arith) in
    record {
      divisor = true;
      dividend = true;
      splits = record {
        equation = again a (int_div a b *ℤ b);
        divisor_is = omega (arith, ints);
        dividend_is = omega (arith, ints);
        lower = subst (Lower true true b) e (omega (arith, ints));
        upper = subst (Upper true true b) e (omega (arith, ints));
      };
    }
division_falls (pos n) (negsuc m) h =
    let a = pos n in
    let b = negsuc m in
    let e = remainder_is a b in
    let lt = rem_below a b (omega arith) in
    record {
      divisor = false;
      dividend = true;
      splits = record {
        equation = again a (int_div a b *ℤ b);
        divisor_is = omega (arith, ints);
        dividend_is = omega (arith, ints);
        lower = subst (Lower false true b) e (omega (arith, ints));
        upper = subst (Upper false true b) e (omega (arith, ints));
      };
    }
division_falls (negsuc n) (pos zero) h = absurd (h refl)
division_falls (negsuc n) (pos (suc m)) h =
    let a = negsuc n in
    let b = pos (suc m) in
    let e = remainder_is a b in
    let lt = rem_below a b (omega arith) in
    record {
      divisor = true;
      dividend = false;
      splits = record {
        equation = again a (int_div a b *ℤ b);
        divisor_is = omega (arith, ints);
        dividend_is = omega (arith, ints);
        lower = subst (Lower true false b) e (omega (arith, ints));
        upper = subst (Upper true false b) e (omega (arith, ints));
      };
    }
division_falls (negsuc n) (negsuc m) h =
    let a = negsuc n in
    let b = negsuc m in
    let e = remainder_is a b in
    let lt = rem_below a b (omega arith) in
    record {
      divisor = false;
      dividend = false;
      splits = record {
        equation = again a (int_div a b *ℤ b);
        divisor_is = omega (arith, ints);
        dividend_is = omega (arith, ints);
        lower = subst (Lower false false b) e (omega (arith, ints));
        upper = subst (Upper false false b) e (omega (arith, ints));
      };
    }

-- ---- and what falls under one of them is the division

-- a multiple that is smaller than its factor is zero
small-multiple : (k b : ℤ) → unsigned_abs (k *ℤ b) < unsigned_abs b → k ≡ pos 0
small-multiple (pos zero) b h = refl
small-multiple (pos (suc n)) b h = let e = unsigned_abs-mul (pos (suc n)) b in absurd (too_large n (unsigned_abs b) (subst (λ x. x < unsigned_abs b) e h))
  where
    too_large : (n m : ℕ) → suc n * m < m → ⊥
    too_large n m lt = omega arith
small-multiple (negsuc n) b h = let e = unsigned_abs-mul (negsuc n) b in absurd (too_large n (unsigned_abs b) (subst (λ x. x < unsigned_abs b) e h))
  where
    too_large : (n m : ℕ) → suc n * m < m → ⊥
    too_large n m lt = omega arith

apart : (b q p r s : ℤ) → q *ℤ b +ℤ r ≡ p *ℤ b +ℤ s → (q -ℤ p) *ℤ b ≡ s -ℤ r
apart b q p r s e = simp ring (omega (arith, ints, e))

same-quotient : (b q p r s : ℤ) → q *ℤ b +ℤ r ≡ p *ℤ b +ℤ s → unsigned_abs (s -ℤ r) < unsigned_abs b → q ≡ p
same-quotient b q p r s e lt =
    let none = small-multiple (q -ℤ p) b (subst (λ x. unsigned_abs x < unsigned_abs b) (sym (apart b q p r s e)) lt) in
    omega (arith, ints, none)

-- the remainders of both differ by less than the divisor
close : (divisor dividend : Bool) (a b q r s : ℤ) → Splits divisor dividend a b q r → Lower divisor dividend b s → Upper divisor dividend b s → unsigned_abs (s -ℤ r) < unsigned_abs b
close true true a b q r s h l u = let x = h.divisor_is in let y = h.lower in let z = h.upper in omega (arith, ints)
close true false a b q r s h l u = let x = h.divisor_is in let y = h.lower in let z = h.upper in omega (arith, ints)
close false true a b q r s h l u = let x = h.divisor_is in let y = h.lower in let z = h.upper in omega (arith, ints)
close false false a b q r s h l u = let x = h.divisor_is in let y = h.lower in let z = h.upper in omega (arith, ints)

not_zero : (divisor : Bool) (b : ℤ) → Divisor divisor b → b ≢ pos 0
not_zero true b h e = let same = subst (λ x. pos 1 ≤ℤ x) e h in omega (arith, ints)
not_zero false b h e = let same = subst (λ x. x ≤ℤ negsuc 0) e h in omega (arith, ints)

-- the cases exclude one another
same-signs : (d n d' n' : Bool) (a b q r q' r' : ℤ) → Splits d n a b q r → Splits d' n' a b q' r' → (d ≡ d') × (n ≡ n')
same-signs d n d' n' a b q r q' r' h k = (divisors d d' h.divisor_is k.divisor_is, dividends n n' h.dividend_is k.dividend_is)
  where
    divisors : (d d' : Bool) → Divisor d b → Divisor d' b → d ≡ d'
    divisors true true x y = refl
    divisors true false x y = absurd (omega (arith, ints))
    divisors false true x y = absurd (omega (arith, ints))
    divisors false false x y = refl

    dividends : (n n' : Bool) → Dividend n a → Dividend n' a → n ≡ n'
    dividends true true x y = refl
    dividends true false x y = absurd (omega (arith, ints))
    dividends false true x y = absurd (omega (arith, ints))
    dividends false false x y = refl

pub splits-divide : (divisor dividend : Bool) (a b q r : ℤ) → Splits divisor dividend a b q r → IsDivision a b q r
splits-divide divisor dividend a b q r h = go (division_falls a b some)
  where
    some : b ≢ pos 0
    some = not_zero divisor b h.divisor_is

    go : Falls a b → IsDivision a b q r
    go f =
        let p = int_div a b in
        let s = a -ℤ (p *ℤ b) in
        let signs = same-signs f.divisor f.dividend divisor dividend a b p s q r f.splits h in
        let lower : Lower divisor dividend b s = subst (λ (n : Bool). Lower divisor n b s) signs.1 (subst (λ (d : Bool). Lower d f.dividend b s) signs.0 f.splits.lower) in
        let upper : Upper divisor dividend b s = subst (λ (n : Bool). Upper divisor n b s) signs.1 (subst (λ (d : Bool). Upper d f.dividend b s) signs.0 f.splits.upper) in
        let same : q ≡ p = same-quotient b q p r s (sym h.equation ∙ f.splits.equation) (close divisor dividend a b q r s h lower upper) in
        record { some = some; quotient = same; remainder = left a (q *ℤ b) (p *ℤ b) r h.equation (ap (λ x. x *ℤ b) same) }
      where
        left : (a x y r : ℤ) → a ≡ x +ℤ r → x ≡ y → r ≡ a -ℤ y
        left a x y r e f = omega (arith, ints, e, f)
