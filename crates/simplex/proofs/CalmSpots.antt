-- A frame of spots that is calm has small tableaux.
use Rattle.std.proofs.Common.{◌≡◌, ℕ, ◌+◌, ◌-◌, ◌<◌, ◌≤◌, Bool, true, false, cond, List, [], length, get_or, refl, sym, ap, ◌∙◌, arith, ⊎_elim, ℤ, pos}
use Rattle.std.specs.Prelude.{◌==◌, nat_eq, nat_lt}
use Rattle.std.proofs.lemmas.Bool.{cases_eq, cases_lt, eq-eqb, ne_eqb, lt-ltb, ltb-true}
use Rattle.farkas_check.specs.Frames.{IsCalmUpTo}
use Rattle.farkas_check.specs.Relations.{entry}
use Rattle.simplex.specs.Exchange.{numbers_of}
use Rattle.simplex.specs.Refusal.{IsSmallFrame}
use Rattle.simplex.specs.Spots.{spots_framed, spots_frame, frame_of_lines}
use Rattle.simplex.proofs.Calmness.{HasNumbers, small_frame_of}
use Rattle.simplex.proofs.SpotFrames.{framed-number, framed-unit}

pub spot_numbers : (count : ℕ) (lines : List (List ℤ)) → HasNumbers (frame_of_lines count lines) (numbers_of (spots_framed count lines))
spot_numbers count lines l j h k = ⊎_elim before behind (cases_lt j count)
  where
    own : ℤ
    own = entry (get_or lines l []) j

    before : j < count → cond (nat_lt j count) own (cond (j == count + l) (pos 1) (pos 0)) ≡ numbers_of (spots_framed count lines) l j
    before a = ap (λ (b : Bool). cond b own (cond (j == count + l) (pos 1) (pos 0))) (lt-ltb j count a) ∙ sym (framed-number count lines l j h a)

    not_before : (a b : ℕ) → b ≤ a → (q : Bool) → nat_lt a b ≡ q → q ≡ false
    not_before a b m true e = absurd (let g : a < b = ltb-true a b e in omega (arith, m, g))
    not_before a b m false e = refl

    behind : count ≤ j → cond (nat_lt j count) own (cond (j == count + l) (pos 1) (pos 0)) ≡ numbers_of (spots_framed count lines) l j
    behind b = ap (λ (q : Bool). cond q own (cond (j == count + l) (pos 1) (pos 0))) (not_before j count b (nat_lt j count) refl) ∙ at_unit (j - count) (omega (arith, b))
      where
        at_unit : (u : ℕ) → j ≡ count + u → cond (nat_eq j (count + l)) (pos 1) (pos 0) ≡ numbers_of (spots_framed count lines) l j
        at_unit u e =
            ⊎_elim (λ (same : u ≡ l). ap (λ (q : Bool). cond q (pos 1) (pos 0)) (eq-eqb j (count + l) (omega (arith, e, same)) ∙ sym (eq-eqb u l same)))
            (λ other. ap (λ (q : Bool). cond q (pos 1) (pos 0)) (ne_eqb j (count + l) (λ f. other (omega (arith, e, f))) ∙ sym (ne_eqb u l other))) (cases_eq u l)
            ∙ sym (ap (numbers_of (spots_framed count lines) l) e ∙ framed-unit count lines l u h (omega (arith, e, k)))

pub small_spots : (n count : ℕ) (lines : List (List ℤ)) → IsCalmUpTo n (frame_of_lines count lines) → IsSmallFrame n (spots_frame count lines) (length lines)
small_spots n count lines calm = small_frame_of n (frame_of_lines count lines) (numbers_of (spots_framed count lines)) 0 (spot_numbers count lines) calm
