-- Sums of sums, sums with two parts that are not 0, and how great sums of products are.
use Rattle.std.proofs.Common.{◌≡◌, ◌≢◌, ℕ, zero, suc, ◌+◌, ◌*◌, ◌<◌, ◌≤◌, refl, sym, ap, ◌∙◌, arith, ⊎_elim, ℤ, pos, ◌+ℤ◌, ◌*ℤ◌}
use Rattle.std.specs.Prelude.{unsigned_abs}
use Rattle.std.proofs.lemmas.Int.{ints, unsigned_abs-mul}
use Rattle.std.proofs.lemmas.Bool.{cases_eq}
use Rattle.std.proofs.Math.Nat.{mul-le-mul}
use Rattle.whole_numbers.proofs.Ring.{*ℤ-+ℤ, unsigned_abs-+ℤ}
use Rattle.farkas_check.specs.Frames.{sum_below}
use Rattle.simplex.proofs.Corners.{none, single}
use Rattle.simplex.proofs.Exchanges.{times_zero}

sum_of_both : (n : ℕ) (f g : ℕ → ℤ) → sum_below n (λ j. f j +ℤ g j) ≡ sum_below n f +ℤ sum_below n g
sum_of_both zero f g = refl
sum_of_both (suc n) f g = ap (λ z. z +ℤ (f n +ℤ g n)) (sum_of_both n f g) ∙ middle (sum_below n f) (sum_below n g) (f n) (g n)
  where
    middle : (a b c d : ℤ) → a +ℤ b +ℤ (c +ℤ d) ≡ a +ℤ c +ℤ (b +ℤ d)
    middle a b c d = omega (arith, ints)

-- the order of two sums is free
pub sum_below-order : (n m : ℕ) (f : ℕ → ℕ → ℤ) → sum_below n (λ j. sum_below m (λ k. f j k)) ≡ sum_below m (λ k. sum_below n (λ j. f j k))
sum_below-order zero m f = sym (none m (λ k. pos 0) (λ j h. refl))
sum_below-order (suc n) m f = ap (λ z. z +ℤ sum_below m (λ k. f n k)) (sum_below-order n m f) ∙ sym (sum_of_both m (λ k. sum_below n (λ j. f j k)) (f n))

pub sum_below-times : (n : ℕ) (c : ℤ) (f : ℕ → ℤ) → c *ℤ sum_below n f ≡ sum_below n (λ j. c *ℤ f j)
sum_below-times zero c f = times_zero c
sum_below-times (suc n) c f = *ℤ-+ℤ c (sum_below n f) (f n) ∙ ap (λ z. z +ℤ c *ℤ f n) (sum_below-times n c f)

-- a sum with two parts that are not 0
pub sum_of_pair : (n : ℕ) (f : ℕ → ℤ) (a b : ℕ) → a < n → b < n → a ≢ b → ((j : ℕ) → j < n → j ≢ a → j ≢ b → f j ≡ pos 0) → sum_below n f ≡ f a +ℤ f b
sum_of_pair zero f a b h k apart e = absurd (omega (arith, h))
sum_of_pair (suc n) f a b h k apart e =
    ⊎_elim (λ (s : a ≡ n). ap (λ z. z +ℤ f n) (single n f b (omega (arith, k, s, apart)) (λ j l other. e j (omega (arith, l)) (λ t. omega (arith, l, s, t)) other)) ∙ turned (f b) (f n) ∙ ap (λ c. f c +ℤ f b) (sym s))
    (λ (other_a : a ≢ n). ⊎_elim (λ (s : b ≡ n). ap (λ z. z +ℤ f n) (single n f a (omega (arith, h, other_a)) (λ j l other. e j (omega (arith, l)) other (λ t. omega (arith, l, s, t)))) ∙ ap (λ c. f a +ℤ f c) (sym s))
    (λ (other_b : b ≢ n). ap (λ z. z +ℤ f n) (sum_of_pair n f a b (omega (arith, h, other_a)) (omega (arith, k, other_b)) apart (λ j l. e j (omega (arith, l)))) ∙ ap (λ z. f a +ℤ f b +ℤ z) (e n (omega arith) (λ t. other_a (sym t)) (λ t. other_b (sym t))) ∙ right (f a +ℤ f b)) (cases_eq b n)) (cases_eq a n)
  where
    turned : (x y : ℤ) → x +ℤ y ≡ y +ℤ x
    turned x y = omega (arith, ints)

    right : (z : ℤ) → z +ℤ pos 0 ≡ z
    right z = omega (arith, ints)

-- a sum of products of numbers up to a and up to s
pub sum_of_products-small : (n a s : ℕ) (f x : ℕ → ℤ) → ((j : ℕ) → j < n → unsigned_abs (f j) ≤ a) → ((j : ℕ) → j < n → unsigned_abs (x j) ≤ s) → unsigned_abs (sum_below n (λ j. f j *ℤ x j)) ≤ n * (a * s)
sum_of_products-small zero a s f x h k = omega arith
sum_of_products-small (suc n) a s f x h k =
    let front : unsigned_abs (sum_below n (λ j. f j *ℤ x j)) ≤ n * (a * s) = sum_of_products-small n a s f x (λ j l. h j (omega (arith, l))) (λ j l. k j (omega (arith, l))) in
    let size : unsigned_abs (f n *ℤ x n) ≡ unsigned_abs (f n) * unsigned_abs (x n) = unsigned_abs-mul (f n) (x n) in
    let last : unsigned_abs (f n) * unsigned_abs (x n) ≤ a * s = mul-le-mul (h n (omega arith)) (k n (omega arith)) in
    let both : unsigned_abs (sum_below n (λ j. f j *ℤ x j) +ℤ f n *ℤ x n) ≤ unsigned_abs (sum_below n (λ j. f j *ℤ x j)) + unsigned_abs (f n *ℤ x n) = unsigned_abs-+ℤ (sum_below n (λ j. f j *ℤ x j)) (f n *ℤ x n) in
    let opened : suc n * (a * s) ≡ n * (a * s) + a * s = omega arith in
    omega (arith, front, size, last, both, opened)
