-- Vectors of small numbers: products, and what is orthogonal to two.
use Rattle.std.proofs.Common.{◌≡◌, ℕ, zero, suc, ◌*◌, ◌≤◌, List, length, refl, sym, subst, ◌∙◌, arith, ℤ, pos, ◌+ℤ◌, ◌-ℤ◌, ◌*ℤ◌, ◌<ℤ◌, to_z, of_z, FitsSigned}
use Rattle.std.specs.Prelude.{◌^◌, neg_ℤ, unsigned_abs}
use Rattle.std.specs.Int.{w128}
use Rattle.std.proofs.lemmas.Int.{ints, unsigned_abs-mul, to_z-of_z, fits_signed_from_abs}
use Rattle.std.proofs.lemmas.List.{get_or_past}
use Rattle.std.proofs.Math.Nat.{mul-le-mul}
use Rattle.farkas_check.specs.Ratios.{Fraction, whole}
use Rattle.elimination.specs.declared.vectors.Vector.{Vector}
use Rattle.elimination.specs.Echelon.{number_in}
use Rattle.elimination.specs.Spaces.{IsUpTo, IsClearing, cross}

pub product_up_to : (a b : ℤ) (m n : ℕ) → unsigned_abs a ≤ m → unsigned_abs b ≤ n → unsigned_abs (a *ℤ b) ≤ m * n
product_up_to a b m n h k = subst (λ (size : ℕ). size ≤ m * n) (sym (unsigned_abs-mul a b)) (mul-le-mul h k)

difference_up_to : (a b : ℤ) (m n : ℕ) → unsigned_abs a ≤ m → unsigned_abs b ≤ m → m * 2 ≤ n → unsigned_abs (a -ℤ b) ≤ n
difference_up_to a b m n h k l = omega (arith, ints)

minor_up_to : (a b c d : ℤ) → unsigned_abs a ≤ 2 ^ 18 → unsigned_abs b ≤ 2 ^ 18 → unsigned_abs c ≤ 2 ^ 18 → unsigned_abs d ≤ 2 ^ 18 → unsigned_abs (a *ℤ b -ℤ c *ℤ d) ≤ 2 ^ 37
minor_up_to a b c d h k l m = difference_up_to (a *ℤ b) (c *ℤ d) (2 ^ 36) (2 ^ 37) (product_up_to a b (2 ^ 18) (2 ^ 18) h k) (product_up_to c d (2 ^ 18) (2 ^ 18) l m) (omega arith)

pub cross_up_to : (a b : Vector) → IsUpTo (2 ^ 18) a → IsUpTo (2 ^ 18) b → IsUpTo (2 ^ 37) (cross a b)
cross_up_to a b h k = record {
  x = minor_up_to a.y b.z a.z b.y h.y k.z h.z k.y;
  y = minor_up_to a.z b.x a.x b.z h.z k.x h.x k.z;
  z = minor_up_to a.x b.y a.y b.x h.x k.y h.y k.x;
}

pub product_fits : (a b : ℤ) → unsigned_abs a ≤ 2 ^ 37 → unsigned_abs b ≤ 2 ^ 18 → unsigned_abs (a *ℤ b) ≤ 2 ^ 55
product_fits a b h k = product_up_to a b (2 ^ 37) (2 ^ 18) h k

pub square_fits : (a b : ℤ) → unsigned_abs a ≤ 64 → unsigned_abs b ≤ 64 → unsigned_abs (a *ℤ b) ≤ 2 ^ 12
square_fits a b h k = product_up_to a b 64 64 h k

pub cleared_fits : (a b c : ℤ) → unsigned_abs a ≤ 64 → unsigned_abs b ≤ 64 → unsigned_abs c ≤ 64 → unsigned_abs (a *ℤ (b *ℤ c)) ≤ 2 ^ 18
cleared_fits a b c h k l = product_up_to a (b *ℤ c) 64 (2 ^ 12) h (square_fits b c k l)

-- ---- as the code reads them

-- a number of 128 bits
pub fits : (z : ℤ) → unsigned_abs z ≤ 2 ^ 64 → FitsSigned w128 z
fits z h = fits_signed_from_abs w128 z (omega (arith, h))

pub read : (z : ℤ) → unsigned_abs z ≤ 2 ^ 64 → to_z w128 (of_z w128 z) ≡ z
read z h = to_z-of_z w128 z (fits z h)

pub read_sum : (p q r : ℤ) → unsigned_abs p ≤ 2 ^ 55 → unsigned_abs q ≤ 2 ^ 55 → unsigned_abs r ≤ 2 ^ 55
    → to_z w128 (of_z w128 (to_z w128 (of_z w128 (to_z w128 (of_z w128 p) +ℤ to_z w128 (of_z w128 q))) +ℤ to_z w128 (of_z w128 r))) ≡ p +ℤ q +ℤ r
read_sum p q r h k l = rw (read p (omega (arith, h)), read q (omega (arith, k)), read r (omega (arith, l)), read (p +ℤ q) (omega (arith, ints))) (read (p +ℤ q +ℤ r) (omega (arith, ints)))

pub sum_fits : (p q r : ℤ) → unsigned_abs p ≤ 2 ^ 55 → unsigned_abs q ≤ 2 ^ 55 → unsigned_abs r ≤ 2 ^ 55
    → FitsSigned w128 (to_z w128 (of_z w128 (to_z w128 (of_z w128 p) +ℤ to_z w128 (of_z w128 q))) +ℤ to_z w128 (of_z w128 r))
sum_fits p q r h k l = rw (read p (omega (arith, h)), read q (omega (arith, k)), read r (omega (arith, l)), read (p +ℤ q) (omega (arith, ints))) (fits (p +ℤ q +ℤ r) (omega (arith, ints)))

pub read_difference : (p q : ℤ) → unsigned_abs p ≤ 2 ^ 55 → unsigned_abs q ≤ 2 ^ 55 → to_z w128 (of_z w128 (to_z w128 (of_z w128 p) -ℤ to_z w128 (of_z w128 q))) ≡ p -ℤ q
read_difference p q h k = rw (read p (omega (arith, h)), read q (omega (arith, k))) (read (p -ℤ q) (omega (arith, ints)))

pub read_turned : (z : ℤ) → unsigned_abs z ≤ 2 ^ 37 → to_z w128 (of_z w128 (pos 0 -ℤ to_z w128 (of_z w128 z))) ≡ neg_ℤ z
read_turned z h = rw (read z (omega (arith, h))) (read (pos 0 -ℤ z) (omega (arith, ints)) ∙ turned)
  where
    turned : pos 0 -ℤ z ≡ neg_ℤ z
    turned = omega (arith, ints)

pub read_cleared : (a b c : ℤ) → unsigned_abs a ≤ 64 → unsigned_abs b ≤ 64 → unsigned_abs c ≤ 64
    → to_z w128 (of_z w128 (to_z w128 (of_z w128 a) *ℤ to_z w128 (of_z w128 (to_z w128 (of_z w128 b) *ℤ to_z w128 (of_z w128 c))))) ≡ a *ℤ (b *ℤ c)
read_cleared a b c h k l =
    let square : unsigned_abs (b *ℤ c) ≤ 2 ^ 12 = square_fits b c k l in
    let all : unsigned_abs (a *ℤ (b *ℤ c)) ≤ 2 ^ 18 = cleared_fits a b c h k l in
    rw (read a (omega (arith, h)), read b (omega (arith, k)), read c (omega (arith, l)), read (b *ℤ c) (omega (arith, square))) (read (a *ℤ (b *ℤ c)) (omega (arith, all)))

-- ---- rows

pub past_third : (row : List Fraction) (j : ℕ) → length row ≤ 3 → number_in row (suc (suc (suc j))) ≡ whole (pos 0)
past_third row j h = get_or_past row (suc (suc (suc j))) (whole (pos 0)) (omega (arith, h))

pub one_positive : pos 0 <ℤ pos 1
one_positive = omega (arith, ints)

pub positive_each : (row : List Fraction) → length row ≤ 3 → pos 0 <ℤ (number_in row 0).den → pos 0 <ℤ (number_in row 1).den → pos 0 <ℤ (number_in row 2).den → (j : ℕ) → pos 0 <ℤ (number_in row j).den
positive_each row few h k l zero = h
positive_each row few h k l (suc zero) = k
positive_each row few h k l (suc (suc zero)) = l
positive_each row few h k l (suc (suc (suc j))) = subst (λ (r : Fraction). pos 0 <ℤ r.den) (sym (past_third row j few)) one_positive

-- the numbers that the code makes of a row
pub clearing : (row : List Fraction) (x y z : Fraction) (a b c : ℤ) → length row ≤ 3 → x ≡ number_in row 0 → y ≡ number_in row 1 → z ≡ number_in row 2
    → a ≡ x.num *ℤ (y.den *ℤ z.den) → b ≡ y.num *ℤ (x.den *ℤ z.den) → c ≡ z.num *ℤ (x.den *ℤ y.den)
    → unsigned_abs a ≤ 2 ^ 18 → unsigned_abs b ≤ 2 ^ 18 → unsigned_abs c ≤ 2 ^ 18 → pos 0 <ℤ x.den → pos 0 <ℤ y.den → pos 0 <ℤ z.den
    → IsClearing row (record { x = to_z w128 (of_z w128 a); y = to_z w128 (of_z w128 b); z = to_z w128 (of_z w128 c) })
clearing row x y z a b c few ex ey ez ea eb ec ha hb hc px py pz = rw (read a (omega (arith, ha)), read b (omega (arith, hb)), read c (omega (arith, hc))) record {
  value = rw (ea, eb, ec, ex, ey, ez) refl;
  positive = record { at = positive_each row few (first x (number_in row 0) ex px) (first y (number_in row 1) ey py) (first z (number_in row 2) ez pz) };
  small = record { x = ha; y = hb; z = hc };
}
  where
    first : (r s : Fraction) → r ≡ s → pos 0 <ℤ r.den → pos 0 <ℤ s.den
    first r s e h = subst (λ (t : Fraction). pos 0 <ℤ t.den) e h
