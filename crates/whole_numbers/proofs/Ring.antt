-- The ring laws of the whole numbers, named by the left side of their equation, what a product
-- keeps of an order, sizes, and what an answer of 128 bits is.
use Rattle.std.proofs.Common.{◌≡◌, ℕ, zero, suc, ◌+◌, ◌*◌, ◌<◌, ◌≤◌, Bool, true, false, cond, refl, sym, ap, subst, ◌∙◌, arith, ℤ, pos, negsuc, ◌+ℤ◌, ◌-ℤ◌, ◌*ℤ◌, ◌≤ℤ◌, ◌<ℤ◌}
use Rattle.std.specs.Prelude.{neg_ℤ, unsigned_abs, Ok, Err}
use Rattle.std.proofs.lemmas.Int.{ints, by_lt_z, unsigned_abs-mul}
use Rattle.std.proofs.Math.IntN.{suc_ℤ, pred_ℤ, suc_ℤ-+ℤ, pred_ℤ-+ℤ, suc_ℤ-*ℤ, pred_ℤ-*ℤ, zero-*ℤ, *ℤ_comm, +ℤ_idl, +ℤ_invl}
use Rattle.whole_numbers.specs.declared.wide.Wide.{Wide}
use Rattle.whole_numbers.specs.Fits.{fits, sum_of, product_of}

-- ---- sums

pub +ℤ_right_comm : (a b c : ℤ) → a +ℤ b +ℤ c ≡ a +ℤ c +ℤ b
+ℤ_right_comm a b c = omega (arith, ints)

pub +ℤ_left_comm : (a b c : ℤ) → a +ℤ (b +ℤ c) ≡ b +ℤ (a +ℤ c)
+ℤ_left_comm a b c = omega (arith, ints)

pub neg_ℤ-neg_ℤ : (a : ℤ) → neg_ℤ (neg_ℤ a) ≡ a
neg_ℤ-neg_ℤ a = omega (arith, ints)

-- ---- products of sums

-- the induction's step up and down
up_one : (s a b k : ℤ) → s *ℤ k ≡ a *ℤ k +ℤ b *ℤ k → suc_ℤ s *ℤ k ≡ suc_ℤ a *ℤ k +ℤ b *ℤ k
up_one s a b k e =
    suc_ℤ-*ℤ s k ∙ ap (λ x. x +ℤ k) e ∙ +ℤ_right_comm (a *ℤ k) (b *ℤ k) k ∙ ap (λ x. x +ℤ b *ℤ k) (sym (suc_ℤ-*ℤ a k))

down_one : (s a b k : ℤ) → s *ℤ k ≡ a *ℤ k +ℤ b *ℤ k → pred_ℤ s *ℤ k ≡ pred_ℤ a *ℤ k +ℤ b *ℤ k
down_one s a b k e =
    pred_ℤ-*ℤ s k ∙ ap (λ x. x -ℤ k) e ∙ +ℤ_right_comm (a *ℤ k) (b *ℤ k) (neg_ℤ k) ∙ ap (λ x. x +ℤ b *ℤ k) (sym (pred_ℤ-*ℤ a k))

none : (b k : ℤ) → (pos zero +ℤ b) *ℤ k ≡ pos zero *ℤ k +ℤ b *ℤ k
none b k = ap (λ s. s *ℤ k) (+ℤ_idl b) ∙ sym (+ℤ_idl (b *ℤ k)) ∙ ap (λ s. s +ℤ b *ℤ k) (sym (zero-*ℤ k))

pub +ℤ-*ℤ : (a b k : ℤ) → (a +ℤ b) *ℤ k ≡ a *ℤ k +ℤ b *ℤ k
+ℤ-*ℤ (pos zero) b k = none b k
+ℤ-*ℤ (pos (suc n)) b k =
    ap (λ s. s *ℤ k) (suc_ℤ-+ℤ (pos n) b) ∙ up_one (pos n +ℤ b) (pos n) b k (+ℤ-*ℤ (pos n) b k)
+ℤ-*ℤ (negsuc zero) b k =
    ap (λ s. s *ℤ k) (pred_ℤ-+ℤ (pos zero) b) ∙ down_one (pos zero +ℤ b) (pos zero) b k (none b k)
+ℤ-*ℤ (negsuc (suc n)) b k =
    ap (λ s. s *ℤ k) (pred_ℤ-+ℤ (negsuc n) b) ∙ down_one (negsuc n +ℤ b) (negsuc n) b k (+ℤ-*ℤ (negsuc n) b k)

pub *ℤ-+ℤ : (k a b : ℤ) → k *ℤ (a +ℤ b) ≡ k *ℤ a +ℤ k *ℤ b
*ℤ-+ℤ k a b = simp (*ℤ_comm k) (+ℤ-*ℤ a b k)

opposite : (x y : ℤ) → x +ℤ y ≡ pos 0 → x ≡ neg_ℤ y
opposite x y e = omega (arith, ints)

pub neg_ℤ-*ℤ : (a k : ℤ) → neg_ℤ a *ℤ k ≡ neg_ℤ (a *ℤ k)
neg_ℤ-*ℤ a k =
    opposite (neg_ℤ a *ℤ k) (a *ℤ k) (sym (+ℤ-*ℤ (neg_ℤ a) a k) ∙ ap (λ s. s *ℤ k) (+ℤ_invl a) ∙ zero-*ℤ k)

pub *ℤ-neg_ℤ : (k a : ℤ) → k *ℤ neg_ℤ a ≡ neg_ℤ (k *ℤ a)
*ℤ-neg_ℤ k a = *ℤ_comm k (neg_ℤ a) ∙ neg_ℤ-*ℤ a k ∙ ap neg_ℤ (*ℤ_comm a k)

-- ---- products of products

more_assoc : (a b c : ℤ) → a *ℤ b *ℤ c ≡ a *ℤ (b *ℤ c) → suc_ℤ a *ℤ b *ℤ c ≡ suc_ℤ a *ℤ (b *ℤ c)
more_assoc a b c e =
    ap (λ x. x *ℤ c) (suc_ℤ-*ℤ a b) ∙ +ℤ-*ℤ (a *ℤ b) b c ∙ ap (λ x. x +ℤ b *ℤ c) e ∙ sym (suc_ℤ-*ℤ a (b *ℤ c))

pos_assoc : (n : ℕ) (b c : ℤ) → pos n *ℤ b *ℤ c ≡ pos n *ℤ (b *ℤ c)
pos_assoc zero b c = ap (λ x. x *ℤ c) (zero-*ℤ b) ∙ zero-*ℤ c ∙ sym (zero-*ℤ (b *ℤ c))
pos_assoc (suc n) b c = more_assoc (pos n) b c (pos_assoc n b c)

pub *ℤ_assoc : (a b c : ℤ) → a *ℤ b *ℤ c ≡ a *ℤ (b *ℤ c)
*ℤ_assoc (pos n) b c = pos_assoc n b c
*ℤ_assoc (negsuc n) b c =
    ap (λ x. x *ℤ c) (neg_ℤ-*ℤ (pos (suc n)) b) ∙ neg_ℤ-*ℤ (pos (suc n) *ℤ b) c ∙ ap neg_ℤ (pos_assoc (suc n) b c) ∙ sym (neg_ℤ-*ℤ (pos (suc n)) (b *ℤ c))

pub *ℤ_left_comm : (a b c : ℤ) → a *ℤ (b *ℤ c) ≡ b *ℤ (a *ℤ c)
*ℤ_left_comm a b c = sym (*ℤ_assoc a b c) ∙ ap (λ x. x *ℤ c) (*ℤ_comm a b) ∙ *ℤ_assoc b a c

pub *ℤ_right_comm : (a b c : ℤ) → a *ℤ b *ℤ c ≡ a *ℤ c *ℤ b
*ℤ_right_comm a b c = *ℤ_assoc a b c ∙ ap (λ x. a *ℤ x) (*ℤ_comm b c) ∙ sym (*ℤ_assoc a c b)

pub one-*ℤ : (a : ℤ) → pos 1 *ℤ a ≡ a
one-*ℤ a = omega (arith, ints)

pub *ℤ-one : (a : ℤ) → a *ℤ pos 1 ≡ a
*ℤ-one a = omega (arith, ints)

-- Multiplies out, and sorts each product. What is left is linear: `simp ring (omega (arith,
-- ints))`.
pub ruleset ring = (+ℤ-*ℤ, *ℤ-+ℤ, neg_ℤ-*ℤ, *ℤ-neg_ℤ, *ℤ_assoc, *ℤ_left_comm, *ℤ_comm, one-*ℤ, *ℤ-one)

-- ---- examples

difference_of_products : (a b c : ℤ) → a *ℤ (b +ℤ c) -ℤ a *ℤ c ≡ a *ℤ b
difference_of_products a b c = simp ring (omega (arith, ints))

product_of_sums : (a b c d : ℤ) → (a +ℤ b) *ℤ (c +ℤ d) ≡ a *ℤ c +ℤ b *ℤ c +ℤ (b *ℤ d +ℤ d *ℤ a)
product_of_sums a b c d = simp ring (omega (arith, ints))

difference_of_squares : (a b : ℤ) → (a -ℤ b) *ℤ (a +ℤ b) ≡ a *ℤ a -ℤ b *ℤ b
difference_of_squares a b = simp ring (omega (arith, ints))

regrouped : (a b c d : ℤ) → a *ℤ (b *ℤ (c +ℤ d)) ≡ d *ℤ a *ℤ b +ℤ c *ℤ b *ℤ a
regrouped a b c d = simp ring (omega (arith, ints))

-- ---- order

pub <ℤ-≤ℤ : (a b : ℤ) → a <ℤ b → a ≤ℤ b
<ℤ-≤ℤ a b h = omega (arith, ints)

pub ≤ℤ_antisymm : (a b : ℤ) → a ≤ℤ b → b ≤ℤ a → a ≡ b
≤ℤ_antisymm a b h g = omega (arith, ints)

pub *ℤ-not_negative : (a b : ℤ) → pos 0 ≤ℤ a → pos 0 ≤ℤ b → pos 0 ≤ℤ (a *ℤ b)
*ℤ-not_negative (pos n) (pos m) p q = omega (arith, ints)
*ℤ-not_negative (pos n) (negsuc m) p q = absurd (omega (arith, ints))
*ℤ-not_negative (negsuc n) b p q = absurd (omega (arith, ints))

-- a product with a number that is not negative keeps the order
pub ≤ℤ-*ℤ : (a b k : ℤ) → pos 0 ≤ℤ k → a ≤ℤ b → (a *ℤ k) ≤ℤ (b *ℤ k)
≤ℤ-*ℤ a b k n h =
    let rest : pos 0 ≤ℤ (b -ℤ a) = omega (arith, ints) in
    let grown : pos 0 ≤ℤ ((b -ℤ a) *ℤ k) = *ℤ-not_negative (b -ℤ a) k rest n in
    not_less (a *ℤ k) (b *ℤ k) (simp ring at grown)
  where
    not_less : (x y : ℤ) → pos 0 ≤ℤ (y +ℤ neg_ℤ x) → x ≤ℤ y
    not_less x y h = omega (arith, ints)

-- and one with a positive number can be taken away again
pub *ℤ-≤ℤ : (a b k : ℤ) → pos 0 <ℤ k → (a *ℤ k) ≤ℤ (b *ℤ k) → a ≤ℤ b
*ℤ-≤ℤ a b k p h = by_lt_z b a (λ below. absurd (too_much below)) (λ done. done)
  where
    clash : (x y k : ℤ) → pos 0 <ℤ k → y ≤ℤ x → (x +ℤ k) ≤ℤ y → ⊥
    clash x y k p h g = omega (arith, ints)

    too_much : b <ℤ a → ⊥
    too_much below =
        let grown : ((b +ℤ pos 1) *ℤ k) ≤ℤ (a *ℤ k) = ≤ℤ-*ℤ (b +ℤ pos 1) a k (omega (arith, ints)) (omega (arith, ints)) in
        let more : ((b *ℤ k) +ℤ (pos 1 *ℤ k)) ≤ℤ (a *ℤ k) = rw (+ℤ-*ℤ b (pos 1) k) at grown in
        clash (b *ℤ k) (a *ℤ k) k p h (rw (one-*ℤ k) at more)

-- a positive factor can be taken away from an equation
pub *ℤ_cancel : (a b k : ℤ) → pos 0 <ℤ k → a *ℤ k ≡ b *ℤ k → a ≡ b
*ℤ_cancel a b k p e =
    ≤ℤ_antisymm a b (*ℤ-≤ℤ a b k p (omega (arith, ints, e))) (*ℤ-≤ℤ b a k p (omega (arith, ints, e)))

pub *ℤ-positive : (a b : ℤ) → pos 0 <ℤ a → pos 0 <ℤ b → pos 0 <ℤ (a *ℤ b)
*ℤ-positive a b p q = above (a *ℤ b) (pos 1 *ℤ b) (≤ℤ-*ℤ (pos 1) a b (omega (arith, ints)) (omega (arith, ints))) (one-*ℤ b)
  where
    above : (x y : ℤ) → y ≤ℤ x → y ≡ b → pos 0 <ℤ x
    above x y h e = omega (arith, ints)

-- ---- sizes

pub unsigned_abs-+ℤ : (a b : ℤ) → unsigned_abs (a +ℤ b) ≤ unsigned_abs a + unsigned_abs b
unsigned_abs-+ℤ a b = omega (arith, ints)

pub unsigned_abs-positive : (a : ℤ) → pos 0 <ℤ a → 0 < unsigned_abs a
unsigned_abs-positive a h = omega (arith, ints)

-- a product that is smaller than one factor has the other factor 0
pub zero_of_small-*ℤ : (a b : ℤ) → unsigned_abs (a *ℤ b) < unsigned_abs b → a ≡ pos 0
zero_of_small-*ℤ a b h = go a (subst (λ n. n < unsigned_abs b) (unsigned_abs-mul a b) h)
  where
    too_large : (n m : ℕ) → suc n * m < m → ⊥
    too_large n m lt = omega arith

    go : (a : ℤ) → unsigned_abs a * unsigned_abs b < unsigned_abs b → a ≡ pos 0
    go (pos zero) lt = refl
    go (pos (suc n)) lt = absurd (too_large n (unsigned_abs b) lt)
    go (negsuc n) lt = absurd (too_large n (unsigned_abs b) lt)

-- ---- numbers of 128 bits

-- an answer under a test is the value that it answers
value_of_test : (b : Bool) (x y : ℤ) (w : Wide) → cond b (Ok x) (Err w) ≡ Ok y → y ≡ x
value_of_test true x y w e = cc
value_of_test false x y w e = cc

pub sum_of-value : (a b c : ℤ) → sum_of a b ≡ Ok c → c ≡ a +ℤ b
sum_of-value a b c e = value_of_test (fits (a +ℤ b)) (a +ℤ b) c (record { left = a; right = b; times = false }) e

pub product_of-value : (a b c : ℤ) → product_of a b ≡ Ok c → c ≡ a *ℤ b
product_of-value a b c e = value_of_test (fits (a *ℤ b)) (a *ℤ b) c (record { left = a; right = b; times = true }) e
