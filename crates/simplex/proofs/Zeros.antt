-- Zeros that an exchange keeps.
use Rattle.std.proofs.Common.{◌≡◌, ◌≢◌, ℕ, ◌<◌, refl, ap, ◌∙◌, ⊎_elim, ℤ, pos, ◌-ℤ◌, ◌*ℤ◌, ◌<ℤ◌}
use Rattle.std.proofs.lemmas.Bool.{cases_eq}
use Rattle.std.proofs.Math.IntN.{zero-*ℤ}
use Rattle.simplex.specs.Frames.{IsExchange}
use Rattle.simplex.proofs.Exchanges.{times_zero, vanishes, both_zero}

zero_left : (factor new p old q pivot : ℤ) → pos 0 <ℤ factor → factor *ℤ new ≡ p *ℤ old -ℤ q *ℤ pivot → old ≡ pos 0 → q ≡ pos 0 → new ≡ pos 0
zero_left factor new p old q pivot positive e f g = vanishes factor new positive (e ∙ rw (f, g, times_zero p, zero-*ℤ pivot) refl)

-- a line that is 0 at the entering column
pub stays_zero_at : (lines : ℕ) (before after : ℕ → ℕ → ℤ) (line column i j : ℕ) → IsExchange lines before after line column → i < lines → i ≢ line → before i column ≡ pos 0 → before i j ≡ pos 0 → after i j ≡ pos 0
stays_zero_at lines before after line column i j x h other at_column z =
    zero_left (x.line_without i h other).factor (after i j) (after line column) (before i j) (before i column) (after line j) (x.line_without i h other).positive ((x.line_without i h other).is j) z at_column

-- a column at which the leaving line is 0
pub stays_zero_under : (lines : ℕ) (before after : ℕ → ℕ → ℤ) (line column i j : ℕ) → IsExchange lines before after line column → i < lines → before line j ≡ pos 0 → before i j ≡ pos 0 → after i j ≡ pos 0
stays_zero_under lines before after line column i j x h under z =
    ⊎_elim (λ (same : i ≡ line). ap (λ k. after k j) same ∙ at_line)
    (λ other. both_zero (x.line_without i h other).factor (after i j) (after line column) (before i j) (before i column) (after line j) (x.line_without i h other).positive ((x.line_without i h other).is j) z at_line) (cases_eq i line)
  where
    at_line : after line j ≡ pos 0
    at_line = x.upright j ∙ ap (λ z. x.sign *ℤ z) under ∙ times_zero x.sign
