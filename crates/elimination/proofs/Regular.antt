-- Regular equations. They stay regular with one more equation and one more unknown, both in front,
-- where numbers that the old equations make 0 are not 0 in the new one. They make 0 of 0 alone.
use Rattle.std.proofs.Common.{◌≡◌, ℕ, zero, suc, ◌<◌, cond, refl, sym, ap, ◌∙◌, arith, Bool, ℤ, pos, ◌+ℤ◌, ◌-ℤ◌, ◌*ℤ◌}
use Rattle.std.specs.Prelude.{nat_eq, neg_ℤ}
use Rattle.std.proofs.lemmas.Int.{ints}
use Rattle.std.proofs.lemmas.Bool.{eq-eqb, ne_eqb}
use Rattle.std.proofs.Math.IntN.{*ℤ_comm, zero-*ℤ}
use Rattle.whole_numbers.proofs.Ring.{ring}
use Rattle.farkas_check.specs.Frames.{sum_below}
use Rattle.simplex.proofs.Corners.{none, single, plus, swapped, factored}
use Rattle.simplex.proofs.Exchanges.{times_zero, zero_factor}
use Rattle.simplex.proofs.Sums.{sum_below-same}
use Rattle.elimination.specs.Probes.{HasSolution, IsRegular}

-- ---- sums

pub sum_below-front : (n : ℕ) (f : ℕ → ℤ) → sum_below (suc n) f ≡ f 0 +ℤ sum_below n (λ j. f (suc j))
sum_below-front zero f = turned (f 0)
  where
    turned : (z : ℤ) → pos 0 +ℤ z ≡ z +ℤ pos 0
    turned z = omega (arith, ints)
sum_below-front (suc n) f = ap (λ z. z +ℤ f (suc n)) (sum_below-front n f) ∙ moved (f 0) (sum_below n (λ j. f (suc j))) (f (suc n))
  where
    moved : (a b c : ℤ) → a +ℤ b +ℤ c ≡ a +ℤ (b +ℤ c)
    moved a b c = omega (arith, ints)

-- a number in front of others
abbrev front : ℤ → (ℕ → ℤ) → ℕ → ℤ
front z f zero = z
front z f (suc j) = f j

-- a sum of products with multiples of two lists of numbers
sum-of_both : (k : ℕ) (a x r : ℕ → ℤ) (s m : ℤ) → sum_below k (λ j. a j *ℤ (s *ℤ x j +ℤ m *ℤ r j)) ≡ s *ℤ sum_below k (λ j. a j *ℤ x j) +ℤ m *ℤ sum_below k (λ j. a j *ℤ r j)
sum-of_both k a x r s m =
    sum_below-same k (λ j. a j *ℤ (s *ℤ x j +ℤ m *ℤ r j)) (λ j. s *ℤ (a j *ℤ x j) +ℤ m *ℤ (a j *ℤ r j)) (λ j h. apart (a j) (x j) (r j))
    ∙ plus k (λ j. s *ℤ (a j *ℤ x j)) (λ j. m *ℤ (a j *ℤ r j))
    ∙ ap (λ z. z +ℤ sum_below k (λ j. m *ℤ (a j *ℤ r j))) (sym (factored k s (λ j. a j *ℤ x j)))
    ∙ ap (λ z. s *ℤ sum_below k (λ j. a j *ℤ x j) +ℤ z) (sym (factored k m (λ j. a j *ℤ r j)))
  where
    apart : (a x r : ℤ) → a *ℤ (s *ℤ x +ℤ m *ℤ r) ≡ s *ℤ (a *ℤ x) +ℤ m *ℤ (a *ℤ r)
    apart a x r = simp ring (omega (arith, ints))

-- a sum by lines is the sum by columns
pub sums-crossed : (k : ℕ) (numbers : ℕ → ℕ → ℤ) (x y : ℕ → ℤ) → sum_below k (λ i. sum_below k (λ j. numbers i j *ℤ x j) *ℤ y i) ≡ sum_below k (λ j. x j *ℤ sum_below k (λ i. numbers i j *ℤ y i))
sums-crossed k numbers x y =
    sum_below-same k (λ i. sum_below k (λ j. numbers i j *ℤ x j) *ℤ y i) (λ i. sum_below k (λ j. y i *ℤ (numbers i j *ℤ x j))) (λ i h. *ℤ_comm (sum_below k (λ j. numbers i j *ℤ x j)) (y i) ∙ factored k (y i) (λ j. numbers i j *ℤ x j))
    ∙ swapped k k (λ i j. y i *ℤ (numbers i j *ℤ x j))
    ∙ sum_below-same k (λ j. sum_below k (λ i. y i *ℤ (numbers i j *ℤ x j))) (λ j. x j *ℤ sum_below k (λ i. numbers i j *ℤ y i))
    (λ j h. sum_below-same k (λ i. y i *ℤ (numbers i j *ℤ x j)) (λ i. x j *ℤ (numbers i j *ℤ y i)) (λ i g. slide (y i) (numbers i j) (x j)) ∙ sym (factored k (x j) (λ i. numbers i j *ℤ y i)))
  where
    slide : (a b c : ℤ) → a *ℤ (b *ℤ c) ≡ c *ℤ (b *ℤ a)
    slide a b c = simp ring (omega (arith, ints))

product-apart : (a b : ℤ) → (a ≡ pos 0 → ⊥) → (b ≡ pos 0 → ⊥) → a *ℤ b ≡ pos 0 → ⊥
product-apart a b p q e = p (zero_factor a b e q)

-- ---- the same numbers, and the turned ones

solution-same : (count : ℕ) (numbers others : ℕ → ℕ → ℤ) (right : ℕ → ℤ) → ((i j : ℕ) → i < count → j < count → numbers i j ≡ others i j) → HasSolution count numbers right → HasSolution count others right
solution-same count numbers others right e s = record {
  scale = s.scale;
  apart = s.apart;
  x = s.x;
  solves = λ i h. sum_below-same count (λ j. others i j *ℤ s.x j) (λ j. numbers i j *ℤ s.x j) (λ j k. ap (λ z. z *ℤ s.x j) (sym (e i j h k))) ∙ s.solves i h;
}

pub regular-same : (count : ℕ) (numbers others : ℕ → ℕ → ℤ) → ((i j : ℕ) → i < count → j < count → numbers i j ≡ others i j) → IsRegular count numbers → IsRegular count others
regular-same count numbers others e r = record {
  lines = λ right. solution-same count numbers others right e (r.lines right);
  columns = λ right. solution-same count (λ i j. numbers j i) (λ i j. others j i) right (λ i j h k. e j i k h) (r.columns right);
}

pub regular-turned : (count : ℕ) (numbers : ℕ → ℕ → ℤ) → IsRegular count numbers → IsRegular count (λ i j. numbers j i)
regular-turned count numbers r = record { lines = r.columns; columns = r.lines }

solution-none : (numbers : ℕ → ℕ → ℤ) (right : ℕ → ℤ) → HasSolution 0 numbers right
solution-none numbers right = record {
  scale = pos 1;
  apart = λ e. absurd (omega (arith, ints, e));
  x = λ j. pos 0;
  solves = λ i h. absurd (omega (arith, h));
}

pub regular-none : (numbers : ℕ → ℕ → ℤ) → IsRegular 0 numbers
regular-none numbers = record { lines = λ right. solution-none numbers right; columns = λ right. solution-none (λ i j. numbers j i) right }

-- ---- one more

module _ (k : ℕ) (numbers : ℕ → ℕ → ℤ) (r : ℕ → ℤ) (own : ℤ) (regular : IsRegular k (λ i j. numbers (suc i) (suc j)))
    (zeros : (i : ℕ) → i < k → sum_below k (λ j. numbers (suc i) (suc j) *ℤ r j) +ℤ numbers (suc i) 0 *ℤ own ≡ pos 0)
    (some : own ≡ pos 0 → ⊥)
    (apart : sum_below k (λ j. numbers 0 (suc j) *ℤ r j) +ℤ numbers 0 0 *ℤ own ≡ pos 0 → ⊥) where
  -- what the new equation makes of the numbers
  abbrev new_value : ℤ
  new_value = sum_below k (λ j. numbers 0 (suc j) *ℤ r j) +ℤ numbers 0 0 *ℤ own

  module _ (right : ℕ → ℤ) (s : HasSolution k (λ i j. numbers (suc i) (suc j)) (λ i. right (suc i))) where
    abbrev by : ℤ
    by = s.scale *ℤ right 0 -ℤ sum_below k (λ j. numbers 0 (suc j) *ℤ s.x j)

    abbrev x : ℕ → ℤ
    x = front (by *ℤ own) (λ j. new_value *ℤ s.x j +ℤ by *ℤ r j)

    line : (i : ℕ) → sum_below (suc k) (λ j. numbers i j *ℤ x j) ≡ new_value *ℤ sum_below k (λ j. numbers i (suc j) *ℤ s.x j) +ℤ by *ℤ (sum_below k (λ j. numbers i (suc j) *ℤ r j) +ℤ numbers i 0 *ℤ own)
    line i =
        sum_below-front k (λ j. numbers i j *ℤ x j)
        ∙ ap (λ z. numbers i 0 *ℤ (by *ℤ own) +ℤ z) (sum-of_both k (λ j. numbers i (suc j)) s.x r new_value by)
        ∙ together (numbers i 0) by own (new_value *ℤ sum_below k (λ j. numbers i (suc j) *ℤ s.x j)) (sum_below k (λ j. numbers i (suc j) *ℤ r j))
      where
        together : (a b c d e : ℤ) → a *ℤ (b *ℤ c) +ℤ (d +ℤ b *ℤ e) ≡ d +ℤ b *ℤ (e +ℤ a *ℤ c)
        together a b c d e = simp ring (omega (arith, ints))

    lines_solve : (i : ℕ) → i < suc k → sum_below (suc k) (λ j. numbers i j *ℤ x j) ≡ new_value *ℤ s.scale *ℤ right i
    lines_solve zero h = line 0 ∙ mended new_value s.scale (right 0) (sum_below k (λ j. numbers 0 (suc j) *ℤ s.x j))
      where
        mended : (m c b z : ℤ) → m *ℤ z +ℤ (c *ℤ b -ℤ z) *ℤ m ≡ m *ℤ c *ℤ b
        mended m c b z = simp ring (omega (arith, ints))
    lines_solve (suc i) h =
        line (suc i) ∙ ap (λ z. new_value *ℤ z +ℤ by *ℤ (sum_below k (λ j. numbers (suc i) (suc j) *ℤ r j) +ℤ numbers (suc i) 0 *ℤ own)) (s.solves i (omega (arith, h)))
        ∙ ap (λ z. new_value *ℤ (s.scale *ℤ right (suc i)) +ℤ by *ℤ z) (zeros i (omega (arith, h))) ∙ left new_value s.scale (right (suc i)) by
      where
        left : (m c b z : ℤ) → m *ℤ (c *ℤ b) +ℤ z *ℤ pos 0 ≡ m *ℤ c *ℤ b
        left m c b z = rw (times_zero z) (simp ring (omega (arith, ints)))

    by_lines : HasSolution (suc k) numbers right
    by_lines = record { scale = new_value *ℤ s.scale; apart = product-apart new_value s.scale apart s.apart; x = x; solves = lines_solve }

  module _ (right : ℕ → ℤ) where
    -- what the numbers make of the right side
    abbrev right_value : ℤ
    right_value = sum_below k (λ j. r j *ℤ right (suc j)) +ℤ own *ℤ right 0

    abbrev target : ℕ → ℤ
    target j = new_value *ℤ right (suc j) -ℤ right_value *ℤ numbers 0 (suc j)

    module _ (s : HasSolution k (λ i j. numbers (suc j) (suc i)) target) where
      abbrev y : ℕ → ℤ
      y = front (s.scale *ℤ right_value) s.x

      column : (j : ℕ) → sum_below (suc k) (λ i. numbers i j *ℤ y i) ≡ numbers 0 j *ℤ (s.scale *ℤ right_value) +ℤ sum_below k (λ i. numbers (suc i) j *ℤ s.x i)
      column j = sum_below-front k (λ i. numbers i j *ℤ y i)

      -- the old equations' parts of the old columns
      old : sum_below k (λ i. sum_below k (λ j. numbers (suc i) (suc j) *ℤ r j) *ℤ s.x i) ≡ s.scale *ℤ (new_value *ℤ sum_below k (λ j. r j *ℤ right (suc j)) -ℤ right_value *ℤ sum_below k (λ j. numbers 0 (suc j) *ℤ r j))
      old =
          sums-crossed k (λ i j. numbers (suc i) (suc j)) r s.x
          ∙ sum_below-same k (λ j. r j *ℤ sum_below k (λ i. numbers (suc i) (suc j) *ℤ s.x i)) (λ j. s.scale *ℤ (new_value *ℤ (r j *ℤ right (suc j)) +ℤ neg_ℤ right_value *ℤ (numbers 0 (suc j) *ℤ r j)))
          (λ j h. ap (λ z. r j *ℤ z) (s.solves j h) ∙ opened (r j) s.scale new_value (right (suc j)) right_value (numbers 0 (suc j)))
          ∙ sym (factored k s.scale (λ j. new_value *ℤ (r j *ℤ right (suc j)) +ℤ neg_ℤ right_value *ℤ (numbers 0 (suc j) *ℤ r j)))
          ∙ ap (λ z. s.scale *ℤ z) (plus k (λ j. new_value *ℤ (r j *ℤ right (suc j))) (λ j. neg_ℤ right_value *ℤ (numbers 0 (suc j) *ℤ r j))
          ∙ ap (λ z. z +ℤ sum_below k (λ j. neg_ℤ right_value *ℤ (numbers 0 (suc j) *ℤ r j))) (sym (factored k new_value (λ j. r j *ℤ right (suc j))))
          ∙ ap (λ z. new_value *ℤ sum_below k (λ j. r j *ℤ right (suc j)) +ℤ z) (sym (factored k (neg_ℤ right_value) (λ j. numbers 0 (suc j) *ℤ r j)))
          ∙ less (new_value *ℤ sum_below k (λ j. r j *ℤ right (suc j))) right_value (sum_below k (λ j. numbers 0 (suc j) *ℤ r j)))
        where
          opened : (a c m b t n : ℤ) → a *ℤ (c *ℤ (m *ℤ b -ℤ t *ℤ n)) ≡ c *ℤ (m *ℤ (a *ℤ b) +ℤ neg_ℤ t *ℤ (n *ℤ a))
          opened a c m b t n = simp ring (omega (arith, ints))

          less : (a b c : ℤ) → a +ℤ neg_ℤ b *ℤ c ≡ a -ℤ b *ℤ c
          less a b c = simp ring (omega (arith, ints))

      -- they and those of the new column are 0 together
      both : sum_below k (λ i. sum_below k (λ j. numbers (suc i) (suc j) *ℤ r j) *ℤ s.x i) +ℤ own *ℤ sum_below k (λ i. numbers (suc i) 0 *ℤ s.x i) ≡ pos 0
      both =
          ap (λ z. sum_below k (λ i. sum_below k (λ j. numbers (suc i) (suc j) *ℤ r j) *ℤ s.x i) +ℤ z) (factored k own (λ i. numbers (suc i) 0 *ℤ s.x i))
          ∙ sym (plus k (λ i. sum_below k (λ j. numbers (suc i) (suc j) *ℤ r j) *ℤ s.x i) (λ i. own *ℤ (numbers (suc i) 0 *ℤ s.x i)))
          ∙ none k (λ i. sum_below k (λ j. numbers (suc i) (suc j) *ℤ r j) *ℤ s.x i +ℤ own *ℤ (numbers (suc i) 0 *ℤ s.x i))
          (λ i h. gathered (sum_below k (λ j. numbers (suc i) (suc j) *ℤ r j)) (numbers (suc i) 0) (s.x i) ∙ ap (λ z. z *ℤ s.x i) (zeros i h) ∙ zero-*ℤ (s.x i))
        where
          gathered : (a b c : ℤ) → a *ℤ c +ℤ own *ℤ (b *ℤ c) ≡ (a +ℤ b *ℤ own) *ℤ c
          gathered a b c = simp ring (omega (arith, ints))

      columns_solve : (j : ℕ) → j < suc k → sum_below (suc k) (λ i. numbers i j *ℤ y i) ≡ new_value *ℤ s.scale *ℤ right j
      columns_solve zero h = column 0 ∙ cancelled_own (numbers 0 0 *ℤ (s.scale *ℤ right_value) +ℤ sum_below k (λ i. numbers (suc i) 0 *ℤ s.x i)) (new_value *ℤ s.scale *ℤ right 0) (last (sum_below k (λ i. numbers (suc i) 0 *ℤ s.x i)) (sum_below k (λ j. r j *ℤ right (suc j))) (sum_below k (λ j. numbers 0 (suc j) *ℤ r j)) (sum_below k (λ i. sum_below k (λ j. numbers (suc i) (suc j) *ℤ r j) *ℤ s.x i)) (numbers 0 0) s.scale (right 0) old both)
        where
          cancelled_own : (a b : ℤ) → own *ℤ a ≡ own *ℤ b → a ≡ b
          cancelled_own a b e = level a b (zero_factor (a -ℤ b) own (apart_is a b ∙ ap (λ z. z -ℤ own *ℤ b) e ∙ none_left (own *ℤ b)) some)
            where
              apart_is : (a b : ℤ) → (a -ℤ b) *ℤ own ≡ own *ℤ a -ℤ own *ℤ b
              apart_is a b = simp ring (omega (arith, ints))

              none_left : (z : ℤ) → z -ℤ z ≡ pos 0
              none_left z = omega (arith, ints)

              level : (a b : ℤ) → a -ℤ b ≡ pos 0 → a ≡ b
              level a b e = omega (arith, ints, e)

          last : (c b p d a t q : ℤ) → d ≡ t *ℤ ((p +ℤ a *ℤ own) *ℤ b -ℤ (b +ℤ own *ℤ q) *ℤ p) → d +ℤ own *ℤ c ≡ pos 0 → own *ℤ (a *ℤ (t *ℤ (b +ℤ own *ℤ q)) +ℤ c) ≡ own *ℤ ((p +ℤ a *ℤ own) *ℤ t *ℤ q)
          last c b p d a t q e f = apart_own a (t *ℤ (b +ℤ own *ℤ q)) c ∙ ap (λ z. own *ℤ (a *ℤ (t *ℤ (b +ℤ own *ℤ q))) +ℤ z) (turned d (own *ℤ c) f ∙ ap neg_ℤ e) ∙ finish b p a t q
            where
              apart_own : (a m c : ℤ) → own *ℤ (a *ℤ m +ℤ c) ≡ own *ℤ (a *ℤ m) +ℤ own *ℤ c
              apart_own a m c = simp ring (omega (arith, ints))

              turned : (d z : ℤ) → d +ℤ z ≡ pos 0 → z ≡ neg_ℤ d
              turned d z e = omega (arith, ints, e)

              finish : (b p a t q : ℤ) → own *ℤ (a *ℤ (t *ℤ (b +ℤ own *ℤ q))) +ℤ neg_ℤ (t *ℤ ((p +ℤ a *ℤ own) *ℤ b -ℤ (b +ℤ own *ℤ q) *ℤ p)) ≡ own *ℤ ((p +ℤ a *ℤ own) *ℤ t *ℤ q)
              finish b p a t q = simp ring (omega (arith, ints))
      columns_solve (suc j) h = column (suc j) ∙ ap (λ z. numbers 0 (suc j) *ℤ (s.scale *ℤ right_value) +ℤ z) (s.solves j (omega (arith, h))) ∙ cleared (numbers 0 (suc j)) s.scale right_value new_value (right (suc j))
        where
          cleared : (n c t m b : ℤ) → n *ℤ (c *ℤ t) +ℤ c *ℤ (m *ℤ b -ℤ t *ℤ n) ≡ m *ℤ c *ℤ b
          cleared n c t m b = simp ring (omega (arith, ints))

      by_columns : HasSolution (suc k) (λ i j. numbers j i) right
      by_columns = record { scale = new_value *ℤ s.scale; apart = product-apart new_value s.scale apart s.apart; x = y; solves = columns_solve }

  pub regular-more : IsRegular (suc k) numbers
  regular-more = record {
    lines = λ right. by_lines right (regular.lines (λ i. right (suc i)));
    columns = λ right. by_columns right (regular.columns (target right));
  }

-- ---- 0 alone

abbrev unit : ℕ → ℕ → ℤ
unit own j = cond (nat_eq j own) (pos 1) (pos 0)

pub regular-null : (k : ℕ) (numbers : ℕ → ℕ → ℤ) (x : ℕ → ℤ) → IsRegular k numbers → ((i : ℕ) → i < k → sum_below k (λ j. numbers i j *ℤ x j) ≡ pos 0) → (own : ℕ) → own < k → x own ≡ pos 0
regular-null k numbers x r zeros own h = found (r.columns (unit own))
  where
    found : HasSolution k (λ i j. numbers j i) (unit own) → x own ≡ pos 0
    found s = zero_factor (x own) s.scale (sym right ∙ sym (sums-crossed k numbers x s.x) ∙ left) s.apart
      where
        left : sum_below k (λ i. sum_below k (λ j. numbers i j *ℤ x j) *ℤ s.x i) ≡ pos 0
        left = none k (λ i. sum_below k (λ j. numbers i j *ℤ x j) *ℤ s.x i) (λ i g. ap (λ z. z *ℤ s.x i) (zeros i g) ∙ zero-*ℤ (s.x i))

        at : (j : ℕ) → j < k → x j *ℤ sum_below k (λ i. numbers i j *ℤ s.x i) ≡ x j *ℤ (s.scale *ℤ unit own j)
        at j g = ap (λ z. x j *ℤ z) (s.solves j g)

        right : sum_below k (λ j. x j *ℤ sum_below k (λ i. numbers i j *ℤ s.x i)) ≡ x own *ℤ s.scale
        right =
            sum_below-same k (λ j. x j *ℤ sum_below k (λ i. numbers i j *ℤ s.x i)) (λ j. x j *ℤ (s.scale *ℤ unit own j)) at
            ∙ single k (λ j. x j *ℤ (s.scale *ℤ unit own j)) own h (λ j g other. ap (λ (b : Bool). x j *ℤ (s.scale *ℤ cond b (pos 1) (pos 0))) (ne_eqb j own other) ∙ nothing (x j) s.scale)
            ∙ ap (λ (b : Bool). x own *ℤ (s.scale *ℤ cond b (pos 1) (pos 0))) (eq-eqb own own refl) ∙ one (x own) s.scale
          where
            nothing : (a b : ℤ) → a *ℤ (b *ℤ pos 0) ≡ pos 0
            nothing a b = ap (λ z. a *ℤ z) (times_zero b) ∙ times_zero a

            one : (a b : ℤ) → a *ℤ (b *ℤ pos 1) ≡ a *ℤ b
            one a b = simp ring (omega (arith, ints))
