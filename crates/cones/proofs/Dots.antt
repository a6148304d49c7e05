-- What combined and lowest vectors have on a line.
use Rattle.std.proofs.Common.{◌≡◌, ℕ, zero, suc, Bool, true, false, cond, nat_eq, refl, sym, ap, ◌∙◌, arith, List, [], ◌∷◌, map, ℤ, pos, ◌+ℤ◌, ◌*ℤ◌, ◌<ℤ◌}
use Rattle.std.specs.Prelude.{neg_ℤ, int_div}
use Rattle.std.proofs.lemmas.Int.{ints}
use Rattle.std.proofs.lemmas.Bool.{false≢true}
use Rattle.whole_numbers.specs.Divisors.{gcd_of_all}
use Rattle.whole_numbers.proofs.CommonDivisors.{DividesEach, DividesEach-gcd_of_all}
use Rattle.whole_numbers.proofs.Quotients.{int_div-*ℤ}
use Rattle.whole_numbers.proofs.Ring.{ring, one-*ℤ}
use Rattle.cones.specs.Vectors.{combination, lowest, opposite}
use Rattle.whole_numbers.specs.Dot.{dot}
use Rattle.cones.proofs.Numbers.{times_zero}

dot_none : (line : List ℤ) → dot line [] ≡ pos 0
dot_none [] = refl
dot_none (x ∷ xs) = refl

pub dot-multiple : (line : List ℤ) (b : ℤ) (v : List ℤ) → dot line (map (λ y. b *ℤ y) v) ≡ b *ℤ dot line v
dot-multiple [] b v = sym (times_zero b)
dot-multiple (x ∷ xs) b [] = sym (times_zero b)
dot-multiple (x ∷ xs) b (y ∷ ys) = rw (dot-multiple xs b ys) (step x b y (dot xs ys))
  where
    step : (x b y s : ℤ) → x *ℤ (b *ℤ y) +ℤ b *ℤ s ≡ b *ℤ (x *ℤ y +ℤ s)
    step x b y s = simp ring (omega (arith, ints))

pub dot-combined : (line : List ℤ) (a : ℤ) (v : List ℤ) (b : ℤ) (u : List ℤ)
    → dot line (combination a v b u) ≡ a *ℤ dot line v +ℤ b *ℤ dot line u
dot-combined line a [] b u =
    dot-multiple line b u ∙ left (a *ℤ dot line []) (b *ℤ dot line u) (ap (λ z. a *ℤ z) (dot_none line) ∙ times_zero a)
  where
    left : (x y : ℤ) → x ≡ pos 0 → y ≡ x +ℤ y
    left x y e = omega (arith, ints)
dot-combined line a (x ∷ xs) b [] =
    dot-multiple line a (x ∷ xs) ∙ right (a *ℤ dot line (x ∷ xs)) (b *ℤ dot line []) (ap (λ z. b *ℤ z) (dot_none line) ∙ times_zero b)
  where
    right : (x y : ℤ) → y ≡ pos 0 → x ≡ x +ℤ y
    right x y e = omega (arith, ints)
dot-combined [] a (x ∷ xs) b (y ∷ ys) = none (a *ℤ pos 0) (b *ℤ pos 0) (times_zero a) (times_zero b)
  where
    none : (x y : ℤ) → x ≡ pos 0 → y ≡ pos 0 → pos 0 ≡ x +ℤ y
    none x y e f = omega (arith, ints)
dot-combined (w ∷ ws) a (x ∷ xs) b (y ∷ ys) =
    rw (dot-combined ws a xs b ys) (step w a x b y (dot ws xs) (dot ws ys))
  where
    step : (w a x b y s t : ℤ) → w *ℤ (a *ℤ x +ℤ b *ℤ y) +ℤ (a *ℤ s +ℤ b *ℤ t) ≡ a *ℤ (w *ℤ x +ℤ s) +ℤ b *ℤ (w *ℤ y +ℤ t)
    step w a x b y s t = simp ring (omega (arith, ints))

pub dot-opposite : (line v : List ℤ) → dot line (opposite v) ≡ neg_ℤ (dot line v)
dot-opposite [] v = refl
dot-opposite (x ∷ xs) [] = refl
dot-opposite (x ∷ xs) (y ∷ ys) = rw (dot-opposite xs ys) (step x y (dot xs ys))
  where
    step : (x y s : ℤ) → x *ℤ neg_ℤ y +ℤ neg_ℤ s ≡ neg_ℤ (x *ℤ y +ℤ s)
    step x y s = simp ring (omega (arith, ints))

dot-divided : (d : ℕ) (line v : List ℤ) → DividesEach d v → pos d *ℤ dot line (map (λ z. int_div z (pos d)) v) ≡ dot line v
dot-divided d [] v h = times_zero (pos d)
dot-divided d (x ∷ xs) [] h = times_zero (pos d)
dot-divided d (x ∷ xs) (y ∷ ys) h =
    step (pos d) x (int_div y (pos d)) (dot xs (map (λ z. int_div z (pos d)) ys))
    ∙ rw (int_div-*ℤ y d h.0, dot-divided d xs ys h.1) refl
  where
    step : (d x q s : ℤ) → d *ℤ (x *ℤ q +ℤ s) ≡ x *ℤ (q *ℤ d) +ℤ d *ℤ s
    step d x q s = simp ring (omega (arith, ints))

-- a positive factor gives the numbers back
pub record IsLowestOf (v made : List ℤ) : Type 0 where
  pub factor : ℤ
  pub positive : pos 0 <ℤ factor
  pub is : (line : List ℤ) → factor *ℤ dot line made ≡ dot line v

pub lowest-is : (v : List ℤ) → IsLowestOf v (lowest v)
lowest-is v = go (nat_eq (gcd_of_all v) 0) refl
  where
    some : (d : ℕ) → nat_eq d 0 ≡ false → pos 0 <ℤ pos d
    some zero e = absurd (false≢true (sym e))
    some (suc d) e = omega (arith, ints)

    go : (b : Bool) → nat_eq (gcd_of_all v) 0 ≡ b → IsLowestOf v (cond b v (map (λ z. int_div z (pos (gcd_of_all v))) v))
    go true e = record { factor = pos 1; positive = omega (arith, ints); is = λ line. one-*ℤ (dot line v) }
    go false e = record {
      factor = pos (gcd_of_all v);
      positive = some (gcd_of_all v) e;
      is = λ line. dot-divided (gcd_of_all v) line v (DividesEach-gcd_of_all v);
    }
