-- A number's shortest decimal text reads as that number, and no other text does.
use Rattle.std.proofs.Common.{arith, ◌≡◌, ℕ, ◌<◌, ◌^◌, Bool, true, false, List, ℤ, pos, negsuc, FitsSigned, get_or, suc, ap, subst, ◌∙◌, refl}
use Rattle.std.specs.Int.{w128}
use Rattle.std.specs.Prelude.{None, Some, ◌&&◌, ◌==◌, if◌then◌else◌}
use Rattle.std.specs.Fmt.{decimal, signed_decimal}
use Rattle.std.specs.Str.{bytes_eq}
use Rattle.std.specs.Str.Parse.{IsNumeral, digits_value, signed_digits_value, starts_with_minus, without_leading_plus, without_leading_sign}
use Rattle.std.proofs.lemmas.Bool.{and_parts, lt-ltb, ne_eqb, ltb-true}
use Rattle.std.proofs.lemmas.Fmt.{decimal_is_IsNumeral_wide}
use Rattle.std.proofs.lemmas.Slice.Eq.{bytes_eq-Decides}
use Rattle.std.proofs.lemmas.Str.Parse.{digit_at}
use Rattle.whole_numbers.specs.Fits.{fits}
use Rattle.wire.specs.Numbers.{number_of}
use lib.IntN.{neg_ℤ}

-- a numeral has no sign
unsigned-numeral : (ds : List ℕ) → IsNumeral 10 ds → (starts_with_minus ds ≡ false) × (without_leading_plus ds ≡ ds)
unsigned-numeral ds n =
    let digit = digit_at ds 0 n.1 n.0 in
    let minus : (get_or ds 0 0 == 45) ≡ false = ne_eqb (get_or ds 0 0) 45 (λ e. omega (arith, e, digit)) in
    let plus : (get_or ds 0 0 == 43) ≡ false = ne_eqb (get_or ds 0 0) 43 (λ e. omega (arith, e, digit)) in
    (minus, (rw plus (λ i. ds)))

unsigned-value : (ds : List ℕ) (n : ℕ) → IsNumeral 10 ds → digits_value 10 ds ≡ n → (without_leading_sign ds ≡ ds) × (signed_digits_value 10 ds ≡ pos n)
unsigned-value ds n numeral value =
    let u = unsigned-numeral ds numeral in
    (rw u.0 u.1, (rw u.0 (ap (λ ts. pos (digits_value 10 ts)) u.1)) ∙ ap pos value)

-- the decimal text of a number has digits behind its sign
pub numeral-signed_decimal : (z : ℤ) → fits z ≡ true → IsNumeral 10 (without_leading_sign (signed_decimal z)) × (signed_digits_value 10 (signed_decimal z) ≡ z)
numeral-signed_decimal (pos n) f =
    let small : n < 2 ^ 127 = ltb-true n (2 ^ 127) f in
    let d = decimal_is_IsNumeral_wide n (omega (arith, small)) in
    let u = unsigned-value (decimal n) n d.0 d.1 in
    (rw u.0 d.0, u.1)
numeral-signed_decimal (negsuc n) f =
    let small : n < 2 ^ 127 = ltb-true n (2 ^ 127) f in
    let d = decimal_is_IsNumeral_wide (suc n) (omega (arith, small)) in
    (d.0, ap (λ v. neg_ℤ (pos v)) d.1)

FitsSigned-fits : (z : ℤ) → fits z ≡ true → FitsSigned w128 z
FitsSigned-fits (pos n) f = record { sfits = ltb-true n (2 ^ 127) f }
FitsSigned-fits (negsuc n) f = record { sfits = ltb-true n (2 ^ 127) f }

pub number_of-none : (t : List ℕ) → (IsNumeral 10 (without_leading_sign t) × FitsSigned w128 (signed_digits_value 10 t) → ⊥) → number_of t ≡ None
number_of-none t unread = none _ refl where
  none : (b : Bool) → (fits (signed_digits_value 10 t) && bytes_eq (signed_decimal (signed_digits_value 10 t)) t) ≡ b → number_of t ≡ None
  none false e = rw e refl
  none true e =
      let both = and_parts (fits (signed_digits_value 10 t)) (bytes_eq (signed_decimal (signed_digits_value 10 t)) t) e in
      let same : signed_decimal (signed_digits_value 10 t) ≡ t = (bytes_eq-Decides _ _).0 both.1 in
      absurd (unread (subst (λ ts. IsNumeral 10 (without_leading_sign ts)) same (numeral-signed_decimal (signed_digits_value 10 t) both.0).0, FitsSigned-fits (signed_digits_value 10 t) both.0))

fits-FitsSigned : (z : ℤ) → FitsSigned w128 z → fits z ≡ true
fits-FitsSigned (pos n) f = lt-ltb n (2 ^ 127) f.sfits
fits-FitsSigned (negsuc n) f = lt-ltb n (2 ^ 127) f.sfits

-- the text of a number reads as it
pub number_of-signed_decimal : (z : ℤ) → FitsSigned w128 z → number_of (signed_decimal z) ≡ Some z
number_of-signed_decimal z f =
    let fit = fits-FitsSigned z f in
    let same : bytes_eq (signed_decimal z) (signed_decimal z) ≡ true = (bytes_eq-Decides (signed_decimal z) (signed_decimal z)).1 refl in
    ap (λ y. if fits y && bytes_eq (signed_decimal y) (signed_decimal z) then Some y else None) (numeral-signed_decimal z fit).1
    ∙ ap (λ b. if b && bytes_eq (signed_decimal z) (signed_decimal z) then Some z else None) fit
    ∙ ap (λ b. if b then Some z else None) same
