-- Regular equations: a vector that they make 0 is 0, so with one more number each their null
-- vectors are proportional, and one of them is small.
use Rattle.std.proofs.Common.{◌≡◌, ℕ, zero, suc, ◌+◌, ◌*◌, ◌<◌, ◌≤◌, Bool, true, cond, refl, sym, ap, ◌∙◌, arith, ⊎_elim, ℤ, pos, negsuc, ◌+ℤ◌, ◌-ℤ◌, ◌*ℤ◌, ◌≤ℤ◌, ◌<ℤ◌}
use Rattle.std.specs.Prelude.{◌^◌, nat_eq, unsigned_abs, neg_ℤ}
use Rattle.std.proofs.lemmas.Int.{ints, by_lt_z}
use Rattle.std.proofs.lemmas.Bool.{cases_eq, eq-eqb, ne_eqb}
use Rattle.std.proofs.Math.Nat.{pow-le-pow_left, pow-le-pow_right}
use Rattle.std.proofs.Math.IntN.{*ℤ_comm}
use Rattle.whole_numbers.proofs.Ring.{ring}
use Rattle.farkas_check.specs.Frames.{sum_below}
use Rattle.simplex.specs.Choices.{count_to}
use Rattle.simplex.proofs.Corners.{none, single}
use Rattle.simplex.proofs.Exchanges.{times_zero, zero_factor}
use Rattle.simplex.proofs.Sums.{sum_below-same}
use Rattle.elimination.specs.Probes.{HasSolution as HasRightSide, IsRegular}
use Rattle.elimination.proofs.DoubleSums.{sum_below-order, sum_below-times}
use Rattle.elimination.proofs.Solutions.{HasSolution, solution}

-- ---- sums

-- a sum with its last part
pub sum_below-more : (k : ℕ) (f : ℕ → ℤ) → sum_below (k + 1) f ≡ sum_below k f +ℤ f k
sum_below-more k f = let e : k + 1 ≡ suc k = omega arith in ap (λ n. sum_below n f) e

-- a multiple of what stands under the weights
pub sum_of_multiples : (n : ℕ) (c : ℤ) (f x : ℕ → ℤ) → sum_below n (λ j. f j *ℤ (c *ℤ x j)) ≡ c *ℤ sum_below n (λ j. f j *ℤ x j)
sum_of_multiples n c f x = sum_below-same n (λ j. f j *ℤ (c *ℤ x j)) (λ j. c *ℤ (f j *ℤ x j)) (λ j h. turn (f j) c (x j)) ∙ sym (sum_below-times n c (λ j. f j *ℤ x j))
  where
    turn : (a b c : ℤ) → a *ℤ (b *ℤ c) ≡ b *ℤ (a *ℤ c)
    turn a b c = simp ring (omega (arith, ints))

-- a multiple of one vector less a multiple of another
sum_of_both : (n : ℕ) (f x y : ℕ → ℤ) (a b : ℤ) → sum_below n (λ j. f j *ℤ (x j *ℤ b -ℤ y j *ℤ a)) ≡ sum_below n (λ j. f j *ℤ x j) *ℤ b -ℤ sum_below n (λ j. f j *ℤ y j) *ℤ a
sum_of_both zero f x y a b = level a b
  where
    level : (a b : ℤ) → pos 0 ≡ pos 0 *ℤ b -ℤ pos 0 *ℤ a
    level a b = simp ring (omega (arith, ints))
sum_of_both (suc n) f x y a b = ap (λ z. z +ℤ f n *ℤ (x n *ℤ b -ℤ y n *ℤ a)) (sum_of_both n f x y a b) ∙ level (sum_below n (λ j. f j *ℤ x j)) (sum_below n (λ j. f j *ℤ y j)) (f n) (x n) (y n)
  where
    level : (s t c u v : ℤ) → s *ℤ b -ℤ t *ℤ a +ℤ c *ℤ (u *ℤ b -ℤ v *ℤ a) ≡ (s +ℤ c *ℤ u) *ℤ b -ℤ (t +ℤ c *ℤ v) *ℤ a
    level s t c u v = simp ring (omega (arith, ints))

-- ---- what regular equations make 0

-- 1 at one place
abbrev unit : ℕ → ℕ → ℤ
unit j i = cond (nat_eq i j) (pos 1) (pos 0)

pub only_zero : (k : ℕ) (f : ℕ → ℕ → ℤ) (w : ℕ → ℤ) → IsRegular k f → ((i : ℕ) → i < k → sum_below k (λ j. f i j *ℤ w j) ≡ pos 0) → (j : ℕ) → j < k → w j ≡ pos 0
only_zero k f w r null j h = by_weights (r.columns (unit j))
  where
    by_weights : HasRightSide k (λ i l. f l i) (unit j) → w j ≡ pos 0
    by_weights s = zero_factor (w j) s.scale (sym own ∙ nothing) s.apart
      where
        plain : (a b : ℤ) → a *ℤ (b *ℤ pos 1) ≡ a *ℤ b
        plain a b = simp ring (omega (arith, ints))

        gone : (a b : ℤ) → a *ℤ (b *ℤ pos 0) ≡ pos 0
        gone a b = ap (λ z. a *ℤ z) (times_zero b) ∙ times_zero a

        turn : (a b c : ℤ) → a *ℤ (b *ℤ c) ≡ c *ℤ (b *ℤ a)
        turn a b c = simp ring (omega (arith, ints))

        own : sum_below k (λ i. w i *ℤ sum_below k (λ l. f l i *ℤ s.x l)) ≡ w j *ℤ s.scale
        own =
            sum_below-same k (λ i. w i *ℤ sum_below k (λ l. f l i *ℤ s.x l)) (λ i. w i *ℤ (s.scale *ℤ unit j i)) (λ i g. ap (λ z. w i *ℤ z) (s.solves i g))
            ∙ single k (λ i. w i *ℤ (s.scale *ℤ unit j i)) j h (λ i g other. ap (λ (b : Bool). w i *ℤ (s.scale *ℤ cond b (pos 1) (pos 0))) (ne_eqb i j other) ∙ gone (w i) s.scale)
            ∙ ap (λ (b : Bool). w j *ℤ (s.scale *ℤ cond b (pos 1) (pos 0))) (eq-eqb j j refl) ∙ plain (w j) s.scale

        nothing : sum_below k (λ i. w i *ℤ sum_below k (λ l. f l i *ℤ s.x l)) ≡ pos 0
        nothing =
            sum_below-same k (λ i. w i *ℤ sum_below k (λ l. f l i *ℤ s.x l)) (λ i. sum_below k (λ l. w i *ℤ (f l i *ℤ s.x l))) (λ i g. sum_below-times k (w i) (λ l. f l i *ℤ s.x l))
            ∙ sum_below-order k k (λ i l. w i *ℤ (f l i *ℤ s.x l))
            ∙ none k (λ l. sum_below k (λ i. w i *ℤ (f l i *ℤ s.x l)))
            (λ l g. sum_below-same k (λ i. w i *ℤ (f l i *ℤ s.x l)) (λ i. s.x l *ℤ (f l i *ℤ w i)) (λ i m. turn (w i) (f l i) (s.x l))
            ∙ sym (sum_below-times k (s.x l) (λ i. f l i *ℤ w i)) ∙ ap (λ z. s.x l *ℤ z) (null l g) ∙ times_zero (s.x l))

-- ---- null vectors of equations with one number more

pub record IsNull (k : ℕ) (f : ℕ → ℕ → ℤ) (x : ℕ → ℤ) : Type 0 where
  pub each : (i : ℕ) → i < k → sum_below (k + 1) (λ j. f i j *ℤ x j) ≡ pos 0

pub null_proportional : (k : ℕ) (f : ℕ → ℕ → ℤ) (x y : ℕ → ℤ) → IsRegular k f → IsNull k f x → IsNull k f y → (j : ℕ) → j < k + 1 → x j *ℤ y k ≡ y j *ℤ x k
null_proportional k f x y r p q j h =
    ⊎_elim (λ (e : j ≡ k). ap (λ (i : ℕ). x i *ℤ y k) e ∙ *ℤ_comm (x k) (y k) ∙ ap (λ (i : ℕ). y i *ℤ x k) (sym e))
    (λ other. same (x j *ℤ y k) (y j *ℤ x k) (only_zero k f (λ i. x i *ℤ y k -ℤ y i *ℤ x k) r null j (omega (arith, h, other)))) (cases_eq j k)
  where
    same : (a b : ℤ) → a -ℤ b ≡ pos 0 → a ≡ b
    same a b e = omega (arith, ints, e)

    cancelled : (s t c a b : ℤ) → s +ℤ c *ℤ a ≡ pos 0 → t +ℤ c *ℤ b ≡ pos 0 → s *ℤ b -ℤ t *ℤ a ≡ pos 0
    cancelled s t c a b e g = ap (λ z. z *ℤ b -ℤ t *ℤ a) (opposite s (c *ℤ a) e) ∙ ap (λ z. neg_ℤ (c *ℤ a) *ℤ b -ℤ z *ℤ a) (opposite t (c *ℤ b) g) ∙ level c a b
      where
        opposite : (u v : ℤ) → u +ℤ v ≡ pos 0 → u ≡ neg_ℤ v
        opposite u v e = omega (arith, ints, e)

        level : (c a b : ℤ) → neg_ℤ (c *ℤ a) *ℤ b -ℤ neg_ℤ (c *ℤ b) *ℤ a ≡ pos 0
        level c a b = simp ring (omega (arith, ints))

    null : (i : ℕ) → i < k → sum_below k (λ l. f i l *ℤ (x l *ℤ y k -ℤ y l *ℤ x k)) ≡ pos 0
    null i g =
        sum_of_both k (f i) x y (x k) (y k)
        ∙ cancelled (sum_below k (λ l. f i l *ℤ x l)) (sum_below k (λ l. f i l *ℤ y l)) (f i k) (x k) (y k)
        (sym (sum_below-more k (λ l. f i l *ℤ x l)) ∙ p.each i g) (sym (sum_below-more k (λ l. f i l *ℤ y l)) ∙ q.each i g)

-- ---- a small one

pub record IsSmallNull (most k : ℕ) (f : ℕ → ℕ → ℤ) (x : ℕ → ℤ) : Type 0 where
  pub null : IsNull k f x
  pub positive : pos 0 <ℤ x k
  pub small : (j : ℕ) → unsigned_abs (x j) ≤ most

all_pass : (n : ℕ) → count_to n (λ i. true) ≡ n
all_pass zero = refl
all_pass (suc n) = let e : count_to n (λ i. true) ≡ n = all_pass n in omega (arith, e)

powers : (a c : ℕ) → a ≤ 28 → c ≤ 6 → a ^ c ≤ 28 ^ 6
powers a c h g =
    let x : a ^ c ≤ 28 ^ c = pow-le-pow_left h c in
    let y : 28 ^ c ≤ 28 ^ 6 = pow-le-pow_right {n = 28} (omega arith) g in
    omega (arith, x, y)

pub small_null : (k : ℕ) (f : ℕ → ℕ → ℤ) → k ≤ 6 → IsRegular k f → ((i j : ℕ) → i < k → j < k + 1 → unsigned_abs (f i j) ≤ 4) → (x : ℕ → ℤ) × IsSmallNull (28 ^ 6) k f x
small_null k f few r small =
    signed (solution (k + 1) k 4 (λ j. true) (λ i. true) f (omega arith) (let a : count_to k (λ i. true) ≡ k = all_pass k in let b : count_to (k + 1) (λ j. true) ≡ k + 1 = all_pass (k + 1) in omega (arith, a, b)) small)
  where
    signed : HasSolution (k + 1) k (λ j. true) (λ i. true) f (((k + 1) * 4) ^ count_to k (λ i. true)) → (x : ℕ → ℤ) × IsSmallNull (28 ^ 6) k f x
    signed s = by_lt_z (pos 0) (s.x k)
        (λ above. (s.x, record { null = null; positive = above; small = size }))
        (λ below. (
          λ j. negsuc 0 *ℤ s.x j,
          record {
            null = record { each = λ i h. sum_of_multiples (k + 1) (negsuc 0) (f i) s.x ∙ ap (λ z. negsuc 0 *ℤ z) (null.each i h) };
            positive = turned (s.x k) below apart;
            small = λ j. same_size (s.x j) (28 ^ 6) (size j);
          },
        ))
      where
        null : IsNull k f s.x
        null = record { each = λ i h. s.solves i h refl }

        size : (j : ℕ) → unsigned_abs (s.x j) ≤ 28 ^ 6
        size j =
            let a : unsigned_abs (s.x j) ≤ ((k + 1) * 4) ^ count_to k (λ i. true) = s.small j in
            let b : ((k + 1) * 4) ^ count_to k (λ i. true) ≤ 28 ^ 6 = powers ((k + 1) * 4) (count_to k (λ i. true)) (omega (arith, few)) (let c : count_to k (λ i. true) ≡ k = all_pass k in omega (arith, c, few)) in
            omega (arith, a, b)

        apart : s.x k ≡ pos 0 → ⊥
        apart e = s.not_zero (⊎_elim (λ (p : s.place ≡ k). ap s.x p ∙ e) (λ other. only_zero k f s.x r front s.place (let h : s.place < k + 1 = s.here in omega (arith, h, other))) (cases_eq s.place k))
          where
            alone : (z c : ℤ) → z ≡ z +ℤ c *ℤ pos 0
            alone z c = right z ∙ ap (λ w. z +ℤ w) (sym (times_zero c))
              where
                right : (z : ℤ) → z ≡ z +ℤ pos 0
                right z = omega (arith, ints)

            front : (i : ℕ) → i < k → sum_below k (λ j. f i j *ℤ s.x j) ≡ pos 0
            front i h = alone (sum_below k (λ j. f i j *ℤ s.x j)) (f i k) ∙ ap (λ z. sum_below k (λ j. f i j *ℤ s.x j) +ℤ f i k *ℤ z) (sym e) ∙ sym (sum_below-more k (λ j. f i j *ℤ s.x j)) ∙ null.each i h

        turned : (z : ℤ) → z ≤ℤ pos 0 → (z ≡ pos 0 → ⊥) → pos 0 <ℤ (negsuc 0 *ℤ z)
        turned z h n = omega (arith, ints, h, n)

        same_size : (z : ℤ) (n : ℕ) → unsigned_abs z ≤ n → unsigned_abs (negsuc 0 *ℤ z) ≤ n
        same_size z n h = omega (arith, ints, h)
