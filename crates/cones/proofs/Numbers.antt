-- Products of whole numbers that are 0, and their signs.
use Rattle.std.proofs.Common.{◌≡◌, ◌≢◌, sym, ap, ◌∙◌, arith, ℤ, pos, ◌*ℤ◌, ◌≤ℤ◌, ◌<ℤ◌}
use Rattle.std.specs.Prelude.{neg_ℤ}
use Rattle.std.proofs.lemmas.Int.{ints, by_lt_z}
use Rattle.std.proofs.Math.IntN.{*ℤ_comm, zero-*ℤ}
use Rattle.whole_numbers.proofs.Ring.{*ℤ_cancel, ≤ℤ-*ℤ, *ℤ-positive, neg_ℤ-*ℤ}

pub times_zero : (a : ℤ) → a *ℤ pos 0 ≡ pos 0
times_zero a = *ℤ_comm a (pos 0) ∙ zero-*ℤ a

pub vanishes_above : (m x : ℤ) → pos 0 <ℤ m → m *ℤ x ≡ pos 0 → x ≡ pos 0
vanishes_above m x p e = *ℤ_cancel x (pos 0) m p (*ℤ_comm x m ∙ e ∙ sym (zero-*ℤ m))

-- a factor that is not 0 can be taken away
pub vanishes : (m x : ℤ) → m ≢ pos 0 → m *ℤ x ≡ pos 0 → x ≡ pos 0
vanishes m x n e =
    by_lt_z (pos 0) m (λ p. vanishes_above m x p e)
    (λ p. by_lt_z m (pos 0) (λ q. vanishes_above (neg_ℤ m) x (omega (arith, ints)) (neg_ℤ-*ℤ m x ∙ ap neg_ℤ e))
    (λ q. let zero : m ≡ pos 0 = omega (arith, ints) in absurd (n zero)))

pub not_zero-*ℤ : (m k : ℤ) → m ≢ pos 0 → k ≢ pos 0 → m *ℤ k ≢ pos 0
not_zero-*ℤ m k p q e = q (vanishes m k p e)

pub above_not_zero : (m : ℤ) → pos 0 <ℤ m → m ≢ pos 0
above_not_zero m p e = clash m p e
  where
    clash : (z : ℤ) → pos 0 <ℤ z → z ≡ pos 0 → ⊥
    clash z p e = omega (arith, ints)

pub factor_positive : (a b : ℤ) → pos 0 <ℤ a → pos 0 <ℤ (a *ℤ b) → pos 0 <ℤ b
factor_positive a b p q = by_lt_z (pos 0) b (λ done. done) (λ h. absurd (clash (a *ℤ b) (b *ℤ a) (pos 0 *ℤ a) q (*ℤ_comm a b) (zero-*ℤ a) (≤ℤ-*ℤ b (pos 0) a (omega (arith, ints)) h)))
  where
    clash : (x y z : ℤ) → pos 0 <ℤ x → x ≡ y → z ≡ pos 0 → y ≤ℤ z → ⊥
    clash x y z q e f h = omega (arith, ints)

-- a product of a positive number and one that is not above 0
pub factor_not_above : (a b : ℤ) → pos 0 <ℤ a → (a *ℤ b) ≤ℤ pos 0 → b ≤ℤ pos 0
factor_not_above a b p q = by_lt_z (pos 0) b (λ h. absurd (clash (a *ℤ b) (*ℤ-positive a b p h) q)) (λ done. done)
  where
    clash : (x : ℤ) → pos 0 <ℤ x → x ≤ℤ pos 0 → ⊥
    clash x q e = omega (arith, ints)

pub product_not_above : (a b : ℤ) → pos 0 ≤ℤ a → b ≤ℤ pos 0 → (a *ℤ b) ≤ℤ pos 0
product_not_above a b p q =
    turn (b *ℤ a) (pos 0 *ℤ a) (a *ℤ b) (≤ℤ-*ℤ b (pos 0) a p q) (zero-*ℤ a) (*ℤ_comm a b)
  where
    turn : (x y z : ℤ) → x ≤ℤ y → y ≡ pos 0 → z ≡ x → z ≤ℤ pos 0
    turn x y z h e f = omega (arith, ints)
