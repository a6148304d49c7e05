-- Vectors without common divisor that are proportional are one vector, or opposite.
use Rattle.std.proofs.Common.{◌≡◌, ℕ, zero, suc, ◌<◌, ◌*◌, ⊎_elim, inl, inr, length, refl, sym, ap, ◌∙◌, arith, List, [], ◌∷◌, map, ℤ, pos, negsuc, ◌+ℤ◌, ◌-ℤ◌, ◌*ℤ◌}
use Rattle.std.specs.Prelude.{◌⊎◌, neg_ℤ, unsigned_abs}
use Rattle.std.proofs.lemmas.Int.{ints, unsigned_abs-mul}
use Rattle.std.proofs.lemmas.List.{length-map}
use Rattle.std.proofs.Math.IntN.{zero-*ℤ}
use Rattle.std.proofs.Math.Nat.{mul_comm, zero-mul}
use Rattle.whole_numbers.specs.Divisors.{gcd_of, gcd_of_all}
use Rattle.whole_numbers.specs.Dot.{dot}
use Rattle.whole_numbers.proofs.CommonDivisors.{gcd_of-times, gcd_of-zero}
use Rattle.whole_numbers.proofs.Ring.{ring, one-*ℤ}
use Rattle.cones.specs.Vectors.{opposite}
use Rattle.cones.specs.Spans.{IsSpanned}
use Rattle.cones.proofs.Dots.{dot-multiple, dot-opposite}
use Rattle.cones.proofs.Numbers.{vanishes}

-- ---- vectors by what they have on lines

-- vectors that have the same on each line are one
pub same_on_lines : (v u : List ℤ) → length v ≡ length u → ((line : List ℤ) → dot line v ≡ dot line u) → v ≡ u
same_on_lines [] [] e h = refl
same_on_lines [] (y ∷ u) e h = absurd (omega (arith, e))
same_on_lines (x ∷ v) [] e h = absurd (omega (arith, e))
same_on_lines (x ∷ v) (y ∷ u) e h =
    let first : x ≡ y = sym (alone x) ∙ h (pos 1 ∷ []) ∙ alone y in
    let others : v ≡ u = same_on_lines v u (omega (arith, e)) (λ line. sym (behind x (dot line v)) ∙ h (pos 0 ∷ line) ∙ behind y (dot line u)) in
    λ i. first i ∷ others i
  where
    alone : (z : ℤ) → pos 1 *ℤ z +ℤ pos 0 ≡ z
    alone z = omega (arith, ints)

    behind : (z s : ℤ) → pos 0 *ℤ z +ℤ s ≡ s
    behind z s = plain (pos 0 *ℤ z) (zero-*ℤ z)
      where
        plain : (w : ℤ) → w ≡ pos 0 → w +ℤ s ≡ s
        plain w e = omega (arith, ints)

-- ---- multiples

multiple-divisor_zero : (m : ℤ) (v : List ℤ) → unsigned_abs m ≡ 0 → gcd_of_all (map (λ z. m *ℤ z) v) ≡ gcd_of_all v * unsigned_abs m
multiple-divisor_zero m v e = nothing v ∙ sym (ap (λ n. gcd_of_all v * n) e ∙ mul_comm (gcd_of_all v) 0 ∙ zero-mul (gcd_of_all v))
  where
    none : (z : ℤ) → unsigned_abs (m *ℤ z) ≡ 0
    none z = unsigned_abs-mul m z ∙ ap (λ n. n * unsigned_abs z) e ∙ zero-mul (unsigned_abs z)

    nothing : (v : List ℤ) → gcd_of_all (map (λ z. m *ℤ z) v) ≡ 0
    nothing [] = refl
    nothing (z ∷ v) = (λ i. gcd_of (none z i) (nothing v i)) ∙ gcd_of-zero 0

multiple-divisor_some : (m : ℤ) (v : List ℤ) → 0 < unsigned_abs m → gcd_of_all (map (λ z. m *ℤ z) v) ≡ gcd_of_all v * unsigned_abs m
multiple-divisor_some m [] p = sym (zero-mul (unsigned_abs m))
multiple-divisor_some m (z ∷ v) p =
    (λ i. gcd_of ((unsigned_abs-mul m z ∙ mul_comm (unsigned_abs m) (unsigned_abs z)) i) (multiple-divisor_some m v p i))
    ∙ gcd_of-times (unsigned_abs z) (gcd_of_all v) (unsigned_abs m) p

-- the common divisor of a multiple
multiple-divisor : (m : ℤ) (v : List ℤ) → gcd_of_all (map (λ z. m *ℤ z) v) ≡ gcd_of_all v * unsigned_abs m
multiple-divisor m v = go (unsigned_abs m) refl
  where
    go : (n : ℕ) → unsigned_abs m ≡ n → gcd_of_all (map (λ z. m *ℤ z) v) ≡ gcd_of_all v * unsigned_abs m
    go zero e = multiple-divisor_zero m v e
    go (suc n) e = multiple-divisor_some m v (omega (arith, e))

-- multiples that have the same on each line have the same common divisor
multiples-divisor : (m c : ℤ) (v u : List ℤ) → length v ≡ length u → ((line : List ℤ) → m *ℤ dot line v ≡ c *ℤ dot line u) → gcd_of_all v * unsigned_abs m ≡ gcd_of_all u * unsigned_abs c
multiples-divisor m c v u e h = sym (multiple-divisor m v) ∙ ap gcd_of_all same ∙ multiple-divisor c u
  where
    same : map (λ z. m *ℤ z) v ≡ map (λ z. c *ℤ z) u
    same =
        same_on_lines (map (λ z. m *ℤ z) v) (map (λ z. c *ℤ z) u) (length-map v (λ z. m *ℤ z) ∙ e ∙ sym (length-map u (λ z. c *ℤ z)))
        (λ line. dot-multiple line m v ∙ h line ∙ sym (dot-multiple line c u))

-- a vector without common divisor is seen by some line
pub lowest-seen : (v : List ℤ) → gcd_of_all v ≡ 1 → ((line : List ℤ) → dot line v ≡ pos 0) → ⊥
lowest-seen v e h =
    clash (gcd_of_all v * 1) (gcd_of_all v * 0) (multiples-divisor (pos 1) (pos 0) v v refl (λ line. one-*ℤ (dot line v) ∙ h line ∙ sym (zero-*ℤ (dot line v)))) (ap (λ n. n * 1) e) (ap (λ n. n * 0) e)
  where
    clash : (m n : ℕ) → m ≡ n → m ≡ 1 → n ≡ 0 → ⊥
    clash m n e f g = omega (arith, e, f, g)

-- ---- proportional vectors

same_size : (m c : ℤ) → unsigned_abs m ≡ unsigned_abs c → (c ≡ m) ⊎ (c ≡ neg_ℤ m)
same_size (pos n) (pos k) e = inl (omega (arith, ints, e))
same_size (pos n) (negsuc k) e = inr (omega (arith, ints, e))
same_size (negsuc n) (pos k) e = inr (omega (arith, ints, e))
same_size (negsuc n) (negsuc k) e = inl (omega (arith, ints, e))

-- what a vector spans, and has no common divisor either, is the vector or its opposite
pub proportional-same : (v u : List ℤ) → length u ≡ length v → gcd_of_all v ≡ 1 → gcd_of_all u ≡ 1 → IsSpanned (v ∷ []) (λ line. dot line u) → (u ≡ v) ⊎ (u ≡ opposite v)
proportional-same v u e f g s =
    ⊎_elim (λ k. inl (same_on_lines u v e (λ line. cancelled (dot line u) (dot line v) (multiples line ∙ ap (λ c. c *ℤ dot line v) k))))
    (λ k. inr (same_on_lines u (opposite v) (e ∙ sym (length-map v neg_ℤ)) (λ line. cancelled (dot line u) (dot line (opposite v)) (multiples line ∙ ap (λ c. c *ℤ dot line v) k ∙ turned (dot line v) ∙ ap (λ x. s.0 *ℤ x) (sym (dot-opposite line v))))))
    (same_size s.0 s.1 sizes)
  where
    meet : (x y : ℤ) → x -ℤ y ≡ pos 0 → x ≡ y
    meet x y e = omega (arith, ints)

    multiples : (line : List ℤ) → s.0 *ℤ dot line u ≡ s.1 *ℤ dot line v
    multiples line = meet (s.0 *ℤ dot line u) (s.1 *ℤ dot line v) (s.3 line)

    sizes : unsigned_abs s.0 ≡ unsigned_abs s.1
    sizes = plain (unsigned_abs s.0) (unsigned_abs s.1) (gcd_of_all u * unsigned_abs s.0) (gcd_of_all v * unsigned_abs s.1) (multiples-divisor s.0 s.1 u v e multiples) (ap (λ n. n * unsigned_abs s.0) g) (ap (λ n. n * unsigned_abs s.1) f)
      where
        plain : (m n x y : ℕ) → x ≡ y → x ≡ 1 * m → y ≡ 1 * n → m ≡ n
        plain m n x y e f g = omega (arith, e, f, g)

    off : (x y : ℤ) → x ≡ y → x -ℤ y ≡ pos 0
    off x y e = omega (arith, ints)

    spread : (k x y : ℤ) → k *ℤ (x -ℤ y) ≡ k *ℤ x -ℤ k *ℤ y
    spread k x y = simp ring (omega (arith, ints))

    cancelled : (x y : ℤ) → s.0 *ℤ x ≡ s.0 *ℤ y → x ≡ y
    cancelled x y h = meet x y (vanishes s.0 (x -ℤ y) s.2 (spread s.0 x y ∙ off (s.0 *ℤ x) (s.0 *ℤ y) h))

    turned : (x : ℤ) → neg_ℤ s.0 *ℤ x ≡ s.0 *ℤ neg_ℤ x
    turned x = simp ring (omega (arith, ints))
