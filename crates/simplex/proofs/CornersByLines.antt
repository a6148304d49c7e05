-- A corner that is made line by line: so many lines have put their numbers at the columns that they
-- choose, and all others are 0.
use Rattle.std.proofs.Common.{◌≡◌, ◌≢◌, ◌⊎◌, inl, inr, ⊎_elim, ℕ, ◌+◌, ◌<◌, ◌≤◌, List, length, get_or, set, replicate, refl, sym, ap, subst, ◌∙◌, arith, pos}
use Rattle.std.proofs.lemmas.Int.{ints}
use Rattle.std.proofs.lemmas.List.{get_or-replicate, length-replicate, get_or-set_same, get_or-set_other, length-set}
use Rattle.std.proofs.lemmas.Bool.{cases_eq}
use Rattle.farkas_check.specs.Ratios.{Fraction, whole}
use Rattle.farkas_check.proofs.Lowest.{IsLowest-whole}
use Rattle.simplex.specs.Exchange.{choices_of}
use Rattle.simplex.specs.Search.{CornerAt, IsCornerOf}
use Rattle.simplex.specs.declared.tableau.Tableau.{Tableau}

-- none of the lines chooses the column, and its number is 0, or its number is that of the corner
abbrev IsNumberTo : Tableau → ℕ → ℕ → ℕ → Fraction → Type 0
IsNumberTo t constants lines column r = (((k : ℕ) → k < lines → choices_of t k ≢ column) × (r ≡ whole (pos 0))) ⊎ CornerAt t constants column r

pub record IsCornerTo (t : Tableau) (constants lines : ℕ) (point : List Fraction) : Type 0 where
  pub each : length point ≡ constants
  pub same : (j : ℕ) → j < constants → IsNumberTo t constants lines j (get_or point j (whole (pos 0)))

pub no_lines : (t : Tableau) (constants : ℕ) (point : List Fraction) → point ≡ replicate constants (whole (pos 0)) → IsCornerTo t constants 0 point
no_lines t constants point e = record {
  each = ap length e ∙ length-replicate constants (whole (pos 0));
  same = λ j h. inl (λ k g. absurd (omega (arith, g)), ap (λ (ps : List Fraction). get_or ps j (whole (pos 0))) e ∙ get_or-replicate constants j (whole (pos 0)) (whole (pos 0)) h);
}

-- the next line does not choose the column
more_lines : (t : Tableau) (constants lines column : ℕ) (r : Fraction) → choices_of t lines ≢ column → IsNumberTo t constants lines column r → IsNumberTo t constants (lines + 1) column r
more_lines t constants lines column r apart = ⊎_elim (λ none. inl (λ k h. ⊎_elim (λ (same : k ≡ lines). λ e. apart (ap (choices_of t) (sym same) ∙ e)) (λ other. none.0 k (omega (arith, h, other))) (cases_eq k lines), none.1)) (λ is. inr is)

pub line_besides : (t : Tableau) (constants lines : ℕ) (point : List Fraction) → constants ≤ choices_of t lines → IsCornerTo t constants lines point → IsCornerTo t constants (lines + 1) point
line_besides t constants lines point far c = record {
  each = c.each;
  same = λ j h. more_lines t constants lines j (get_or point j (whole (pos 0))) (λ e. absurd (omega (arith, far, e, h))) (c.same j h);
}

pub line_put : (t : Tableau) (constants lines column : ℕ) (r : Fraction) (point : List Fraction) → choices_of t lines ≡ column → column < constants → CornerAt t constants column r → IsCornerTo t constants lines point → IsCornerTo t constants (lines + 1) (set point column r)
line_put t constants lines column r point is inside at c = record {
  each = length-set point column r ∙ c.each;
  same = λ j h. ⊎_elim (here j) (other j h) (cases_eq j column);
}
  where
    zero : Fraction
    zero = whole (pos 0)

    here : (j : ℕ) → j ≡ column → IsNumberTo t constants (lines + 1) j (get_or (set point column r) j zero)
    here j e =
        subst (λ (i : ℕ). IsNumberTo t constants (lines + 1) i (get_or (set point column r) i zero)) (sym e)
        (subst (λ (q : Fraction). IsNumberTo t constants (lines + 1) column q) (sym (get_or-set_same point column r zero (subst (λ (n : ℕ). column < n) (sym c.each) inside))) (inr at))

    other : (j : ℕ) → j < constants → j ≢ column → IsNumberTo t constants (lines + 1) j (get_or (set point column r) j zero)
    other j h apart =
        subst (λ (q : Fraction). IsNumberTo t constants (lines + 1) j q) (sym (get_or-set_other point column j r zero apart))
        (more_lines t constants lines j (get_or point j zero) (λ e. apart (sym e ∙ is)) (c.same j h))

unchosen : (t : Tableau) (constants column : ℕ) (r : Fraction) → ((k : ℕ) → k < length t.lines → choices_of t k ≢ column) → r ≡ whole (pos 0) → CornerAt t constants column r
unchosen t constants column r none e = subst (λ (q : Fraction). CornerAt t constants column q) (sym e)
    (record { positive = omega (arith, ints); chosen = λ k h is. absurd (none k h is); free = λ f. refl; lowest = IsLowest-whole (pos 0) })

pub all_lines : (t : Tableau) (constants lines : ℕ) (point : List Fraction) → lines ≡ length t.lines → IsCornerTo t constants lines point → IsCornerOf t constants constants point
all_lines t constants lines point e c = record {
  each = c.each;
  same = λ j h. ⊎_elim (λ none. unchosen t constants j (get_or point j (whole (pos 0))) (λ k g. none.0 k (omega (arith, g, e))) none.1) (λ is. is) (c.same j h);
}
