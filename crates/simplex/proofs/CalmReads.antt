-- What is read off a tableau of spots' lines stays within 128 bits, where their frame is calm.
use Rattle.std.proofs.Common.{◌≡◌, ℕ, suc, ◌+◌, ◌*◌, ◌<◌, ◌≤◌, Bool, true, cond, List, [], ◌∷◌, length, get_or, Result, Ok, refl, sym, ap, subst, ◌∙◌, arith, ⊎_elim, ℤ, pos, ◌*ℤ◌, ◌<ℤ◌}
use Rattle.std.specs.Prelude.{nat_eq, unsigned_abs}
use Rattle.std.specs.List.{AllByRecursion}
use Rattle.std.proofs.lemmas.Bool.{cases_eq, eq-eqb, ne_eqb}
use Rattle.items.specs.Gives.{◌>>=◌}
use Rattle.whole_numbers.specs.Fits.{product_of}
use Rattle.whole_numbers.specs.declared.wide.Wide as Step
use Rattle.whole_numbers.proofs.Ring.{one-*ℤ}
use Rattle.farkas_check.specs.Frames.{IsCalmUpTo}
use Rattle.farkas_check.specs.Ratios.{Fraction, whole, lowest_terms}
use Rattle.farkas_check.specs.Relations.{entry}
use Rattle.simplex.specs.Calm.{IsSmallLine, HasSmallLines}
use Rattle.simplex.specs.Exchange.{numbers_of, choices_of}
use Rattle.simplex.specs.Spots.{AreSpots, IsUnchosen, frame_of_lines, spots_framed, spots_frame, unit_multiple, multiples_from}
use Rattle.simplex.specs.Suprema.{IsRayOf}
use Rattle.simplex.specs.declared.spots.Spots.{Spots}
use Rattle.simplex.proofs.CalmSpots.{small_spots, spot_numbers}
use Rattle.simplex.proofs.Calmness.{HasSmallColumn, small_column_of, moved_part, moved_parts, whole_over}
use Rattle.simplex.proofs.Moves.{shift, shift_own}
use Rattle.simplex.proofs.Numerators.{IsRatioBelow}
use Rattle.simplex.proofs.Rays.{ray_shift, slope_stands}
use Rattle.simplex.proofs.Small.{HasValue, bind_value, product-small, product_of-fits}
use Rattle.simplex.proofs.SmallPoints.{stands_less, bottom_positive}
use Rattle.simplex.proofs.RowCorners.{over-positive}

pub spots_small : (count : ℕ) (spots : Spots) → AreSpots count spots → IsCalmUpTo 1048576 (frame_of_lines count spots.lines) → HasSmallLines 1048576 spots.tableau
spots_small count spots k calm = small_spots 1048576 count spots.lines calm spots.tableau k.tableau.many k.tableau.tableau k.tableau.primitive

-- ---- the ratios of a relation

-- ratios of small numbers over one small denominator
pub record HaveCommon (rs : List Fraction) : Type 0 where
  pub over : ℤ
  pub positive : pos 0 <ℤ over
  pub over_small : unsigned_abs over ≤ 1099511627776
  pub below : AllByRecursion (IsRatioBelow 1048576 over) rs

each_ratio : (P : Fraction → Type 0) (rs : List Fraction) → ((j : ℕ) → j < length rs → P (get_or rs j (whole (pos 0)))) → AllByRecursion P rs
each_ratio P [] f = tt
each_ratio P (r ∷ rs) f = (f 0 (omega arith), each_ratio P rs (λ j h. f (suc j) (omega (arith, h))))

pub relation_common : (count : ℕ) (spots : Spots) (u : ℕ) (rs : List Fraction) → AreSpots count spots → u < count → IsUnchosen spots.tableau u → IsRayOf spots.tableau u true count rs → IsCalmUpTo 1048576 (frame_of_lines count spots.lines) → HaveCommon rs
relation_common count spots u rs k here free ray calm = record {
  over = c.bottom;
  positive = bottom_positive c.bottom c.common (whole_over spots.tableau) c.above c.bottom_is above;
  over_small = let g : unsigned_abs c.bottom ≤ 1048576 = c.bottom_small in omega (arith, g);
  below = each_ratio (IsRatioBelow 1048576 c.bottom) rs (λ j h. record {
    number = number j;
    is = record {
      stands = stands_less (get_or rs j (whole (pos 0))) (ray_shift spots.tableau u true j) (whole_over spots.tableau) (number j) c.bottom c.common c.above (number_is j) c.bottom_is
          (slope_stands (spots_frame count spots.lines) spots.tableau u true j (get_or rs j (whole (pos 0))) k.tableau.tableau free.none (ray.same j (subst (λ (n : ℕ). j < n) ray.each h)));
      lowest = (ray.same j (subst (λ (n : ℕ). j < n) ray.each h)).lowest;
    };
    small = number_small j;
  });
}
  where
    c : HasSmallColumn 1048576 spots.tableau u
    c = small_column_of 1048576 (frame_of_lines count spots.lines) (numbers_of (spots_framed count spots.lines)) spots.tableau u (spot_numbers count spots.lines) calm k.tableau.many k.tableau.tableau (omega (arith, here))

    above : pos 0 <ℤ whole_over spots.tableau
    above = over-positive (length spots.tableau.lines) (λ i. numbers_of spots.tableau i (choices_of spots.tableau i)) (λ i h. k.tableau.tableau.is.own i h)

    number : ℕ → ℤ
    number j = cond (nat_eq j u) c.bottom (moved_part 1048576 spots.tableau u c j)

    number_is : (j : ℕ) → number j *ℤ c.common ≡ ray_shift spots.tableau u true j
    number_is j = ⊎_elim
        (λ (e : j ≡ u). ap (λ (b : Bool). cond b c.bottom (moved_part 1048576 spots.tableau u c j) *ℤ c.common) (eq-eqb j u e) ∙ c.bottom_is ∙ sym (shift_own spots.tableau u free.none) ∙ ap (shift spots.tableau u) (sym e))
        (λ apart. ap (λ (b : Bool). cond b c.bottom (moved_part 1048576 spots.tableau u c j) *ℤ c.common) (ne_eqb j u apart) ∙ (moved_parts 1048576 (spots_frame count spots.lines) spots.tableau u j c k.tableau.tableau (λ e. apart (sym e))).is) (cases_eq j u)
        ∙ sym (one-*ℤ (shift spots.tableau u j))

    number_small : (j : ℕ) → unsigned_abs (number j) ≤ 1048576
    number_small j = ⊎_elim
        (λ (e : j ≡ u). subst (λ (b : Bool). unsigned_abs (cond b c.bottom (moved_part 1048576 spots.tableau u c j)) ≤ 1048576) (sym (eq-eqb j u e)) c.bottom_small)
        (λ apart. subst (λ (b : Bool). unsigned_abs (cond b c.bottom (moved_part 1048576 spots.tableau u c j)) ≤ 1048576) (sym (ne_eqb j u apart)) (moved_parts 1048576 (spots_frame count spots.lines) spots.tableau u j c k.tableau.tableau (λ e. apart (sym e))).small) (cases_eq j u)

-- ---- unit lists

pub multiples-fit : (line : List ℤ) (own : ℤ) (place : ℕ) (scales : List ℤ) → IsSmallLine 1048576 line → AllByRecursion (λ z. unsigned_abs z ≤ 1048576) scales → HasValue (multiples_from line own place scales)
multiples-fit line own place [] small h = ([], refl)
multiples-fit line own place (scale ∷ scales) small h =
    bind_value (unit_multiple line own place scale) (λ r. multiples_from line own (place + 1) scales >>= λ more. ratios_ok (r ∷ more))
    (bind_value (product_of (entry line place) scale) (λ n. ratio_ok (lowest_terms n own)) (entry line place *ℤ scale, product_of-fits (entry line place) scale (let g : unsigned_abs (entry line place *ℤ scale) ≤ 1048576 * 1048576 = product-small 1048576 1048576 (entry line place) scale (small place) h.0 in omega (arith, g))) (λ n e. (lowest_terms n own, refl)))
    (λ r e. rest r (multiples-fit line own (place + 1) scales small h.1))
  where
    ratio_ok : Fraction → Result Fraction Step.Wide
    ratio_ok r = Ok r

    ratios_ok : List Fraction → Result (List Fraction) Step.Wide
    ratios_ok rs = Ok rs

    rest : (r : Fraction) → HasValue (multiples_from line own (place + 1) scales) → HasValue (multiples_from line own (place + 1) scales >>= λ more. ratios_ok (r ∷ more))
    rest r v = bind_value (multiples_from line own (place + 1) scales) (λ more. ratios_ok (r ∷ more)) v (λ more e. (r ∷ more, refl))
