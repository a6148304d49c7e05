-- Sums of products, and what one line cleared by another does to them.
use Rattle.std.proofs.Common.{◌≡◌, ℕ, zero, suc, ◌<◌, refl, ap, ◌∙◌, arith, ℤ, ◌+ℤ◌, ◌-ℤ◌, ◌*ℤ◌}
use Rattle.std.proofs.lemmas.Int.{ints}
use Rattle.whole_numbers.proofs.Ring.{ring}
use Rattle.farkas_check.specs.Frames.{sum_below}

pub sum_below-same : (n : ℕ) (f g : ℕ → ℤ) → ((j : ℕ) → j < n → f j ≡ g j) → sum_below n f ≡ sum_below n g
sum_below-same zero f g e = refl
sum_below-same (suc n) f g e =
    ap (λ z. z +ℤ f n) (sum_below-same n f g (λ j h. e j (omega arith))) ∙ ap (λ z. sum_below n g +ℤ z) (e n (omega arith))

-- a line that is a combination of two others, up to a factor, keeps this under any weights
pub weighted : (n : ℕ) (a b c w : ℕ → ℤ) (factor p q : ℤ) → ((l : ℕ) → l < n → factor *ℤ c l ≡ p *ℤ a l -ℤ q *ℤ b l)
    → factor *ℤ sum_below n (λ l. c l *ℤ w l) ≡ p *ℤ sum_below n (λ l. a l *ℤ w l) -ℤ q *ℤ sum_below n (λ l. b l *ℤ w l)
weighted zero a b c w factor p q e = omega (arith, ints)
weighted (suc n) a b c w factor p q e =
    step (sum_below n (λ l. c l *ℤ w l)) (sum_below n (λ l. a l *ℤ w l)) (sum_below n (λ l. b l *ℤ w l)) (a n) (b n) (c n) (w n)
    (weighted n a b c w factor p q (λ l h. e l (omega arith))) (e n (omega arith))
  where
    apart : (s c w : ℤ) → factor *ℤ (s +ℤ c *ℤ w) ≡ factor *ℤ s +ℤ factor *ℤ c *ℤ w
    apart s c w = simp ring (omega (arith, ints))

    together : (x y a b w : ℤ) → p *ℤ x -ℤ q *ℤ y +ℤ (p *ℤ a -ℤ q *ℤ b) *ℤ w ≡ p *ℤ (x +ℤ a *ℤ w) -ℤ q *ℤ (y +ℤ b *ℤ w)
    together x y a b w = simp ring (omega (arith, ints))

    step : (s x y a b c w : ℤ) → factor *ℤ s ≡ p *ℤ x -ℤ q *ℤ y → factor *ℤ c ≡ p *ℤ a -ℤ q *ℤ b → factor *ℤ (s +ℤ c *ℤ w) ≡ p *ℤ (x +ℤ a *ℤ w) -ℤ q *ℤ (y +ℤ b *ℤ w)
    step s x y a b c w f g = apart s c w ∙ rw (f, g) (together x y a b w)

-- a multiple of a line under any weights
pub weighted_multiple : (n : ℕ) (a c w : ℕ → ℤ) (p : ℤ) → ((l : ℕ) → l < n → c l ≡ p *ℤ a l) → sum_below n (λ l. c l *ℤ w l) ≡ p *ℤ sum_below n (λ l. a l *ℤ w l)
weighted_multiple zero a c w p e = omega (arith, ints)
weighted_multiple (suc n) a c w p e =
    rw (weighted_multiple n a c w p (λ l h. e l (omega arith)), e n (omega arith)) (together (sum_below n (λ l. a l *ℤ w l)) (a n) (w n))
  where
    together : (s a w : ℤ) → p *ℤ s +ℤ p *ℤ a *ℤ w ≡ p *ℤ (s +ℤ a *ℤ w)
    together s a w = simp ring (omega (arith, ints))
