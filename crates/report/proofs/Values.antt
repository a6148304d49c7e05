-- The numbers of a point, as far as both lists go.
use Rattle.std.proofs.Common.{◌≡◌, ℕ, List, [], ◌∷◌, ◌++◌, length, refl, sym, ◌∙◌, ap, arith, append-nil}
use Rattle.linear_terms.specs.declared.col.Col.{Col}
use Rattle.farkas_check.specs.Ratios.{Fraction}
use Rattle.report.specs.Text.{Names, more_values}

none_of : (names : Names) (of : List (List Col)) (at : List Fraction) → length of ≡ 0 → more_values names of at ≡ []
none_of names [] at h = refl
none_of names (m ∷ of) at h = absurd (omega (arith, h))

none_at : (names : Names) (of : List (List Col)) (at : List Fraction) → length at ≡ 0 → more_values names of at ≡ []
none_at names [] at h = refl
none_at names (m ∷ of) [] h = refl
none_at names (m ∷ of) (z ∷ at) h = absurd (omega (arith, h))

-- nothing is left where the monomials, or the numbers, are at their end
pub values_of-end : {text all : List ℕ} (names : Names) (of : List (List Col)) (at : List Fraction) → text ++ more_values names of at ≡ all
    → length of ≡ 0 → text ≡ all
values_of-end {text} names of at h end = sym (ap (λ more. text ++ more) (none_of names of at end) ∙ append-nil text) ∙ h

pub values_at-end : {text all : List ℕ} (names : Names) (of : List (List Col)) (at : List Fraction) → text ++ more_values names of at ≡ all
    → length at ≡ 0 → text ≡ all
values_at-end {text} names of at h end = sym (ap (λ more. text ++ more) (none_at names of at end) ∙ append-nil text) ∙ h
