-- The numbers of a point at columns, and their numerators over the least common denominator, which
-- are small.
use Rattle.whole_numbers.specs.declared.wide.Wide as Step
use Rattle.simplex.specs.Spots.{common_denominator, numerators_over}
use Rattle.simplex.proofs.Small.{HasValue, bind_value}
use Rattle.std.proofs.Common.{Result, Ok, Err, ◌≡◌, Bool, true, false, cond, ℕ, zero, suc, ◌≤◌, List, [], ◌∷◌, ◌++◌, sym, ap, subst, ◌∙◌, arith, ℤ, pos, ◌*ℤ◌, ◌<ℤ◌}
use Rattle.std.specs.Prelude.{◌^◌, unsigned_abs}
use Rattle.std.specs.List.{AllByRecursion}
use Rattle.std.specs.Ordering.{eq_by_cmp}
use Rattle.std.proofs.lemmas.Int.{ints}
use Rattle.whole_numbers.proofs.Ring.{ring, *ℤ_cancel}
use Rattle.linear_terms.specs.declared.col.Col.{Col}
use Rattle.linear_terms.specs.declared.col.Col.TheVariants.{At}
use Rattle.linear_terms.specs.Mono.{mono_cmp}
use Rattle.farkas_check.specs.Points.{ratio_at}
use Rattle.farkas_check.specs.Ratios.{Fraction, whole}
use Rattle.simplex.proofs.Denominators.{AreFactors, AreNumerators}
use Rattle.simplex.proofs.Numerators.{IsRatioBelow, common-fits, over-fits}
use Rattle.simplex.proofs.Widths.{IsShare, shared, IsRatio-nothing, factor_small}
use Rattle.elimination.specs.Descents.{AreRatiosBelow}
use Rattle.elimination.specs.Equations.{values_to, least_numerators}
use Rattle.elimination.proofs.NullVectors.{slide}

-- ---- numbers at columns

nothing_below : (most : ℕ) (over : ℤ) → IsRatioBelow most over (whole (pos 0))
nothing_below most over = record { number = pos 0; is = IsRatio-nothing over; small = omega arith }

ratio_below : (most : ℕ) (over : ℤ) (cs : List (List Col)) (rs : List Fraction) (m : List Col) → AllByRecursion (IsRatioBelow most over) rs → IsRatioBelow most over (ratio_at cs rs m)
ratio_below most over [] rs m h = nothing_below most over
ratio_below most over (c ∷ cs) [] m h = nothing_below most over
ratio_below most over (c ∷ cs) (r ∷ rs) m h = go (eq_by_cmp mono_cmp c m) (ratio_below most over cs rs m h.1)
  where
    go : (b : Bool) → IsRatioBelow most over (ratio_at cs rs m) → IsRatioBelow most over (cond b r (ratio_at cs rs m))
    go true k = h.0
    go false k = k

all_more : (P : Fraction → Type 0) (rs : List Fraction) (r : Fraction) → AllByRecursion P rs → P r → AllByRecursion P (rs ++ r ∷ [])
all_more P [] r h k = (k, tt)
all_more P (own ∷ rs) r h k = (h.0, all_more P rs r h.1 k)

pub ratios_below : (most : ℕ) (over : ℤ) (cs : List (List Col)) (rs : List Fraction) (n : ℕ) → AllByRecursion (IsRatioBelow most over) rs → AllByRecursion (IsRatioBelow most over) (values_to cs rs n)
ratios_below most over cs rs zero h = tt
ratios_below most over cs rs (suc n) h = all_more (IsRatioBelow most over) (values_to cs rs n) (ratio_at cs rs (At n ∷ [])) (ratios_below most over cs rs n h) (ratio_below most over cs rs (At n ∷ []) h)

-- ---- numerators

-- the denominator is a multiple of each ratio's own
pub factors-below : (most : ℕ) (over : ℤ) (rs : List Fraction) → pos 0 <ℤ over → AllByRecursion (IsRatioBelow most over) rs → AreFactors rs over
factors-below most over [] above h = tt
factors-below most over (r ∷ rs) above h = (let s : IsShare r h.0.number over = shared r h.0.number over above h.0.is in record { times = s.times; is = s.den }, factors-below most over rs above h.1)

-- numerators over a divisor of the denominator are no greater
pub numerators-small : (most : ℕ) (over m by : ℤ) (rs : List Fraction) (ns : List ℤ) → pos 0 <ℤ by → m *ℤ by ≡ over → AllByRecursion (IsRatioBelow most over) rs → AreNumerators m rs ns → AllByRecursion (λ z. unsigned_abs z ≤ most) ns
numerators-small most over m by [] ns p e h a = subst (AllByRecursion (λ z. unsigned_abs z ≤ most)) (sym a) tt
numerators-small most over m by (r ∷ rs) [] p e h a = absurd a
numerators-small most over m by (r ∷ rs) (n ∷ ns) p e h a =
    (let f : unsigned_abs n ≤ unsigned_abs h.0.number = factor_small n by h.0.number p times in let g : unsigned_abs h.0.number ≤ most = h.0.small in omega (arith, f, g), numerators-small most over m by rs ns p e h.1 a.1)
  where
    grouped : (a b c : ℤ) → a *ℤ b *ℤ c ≡ a *ℤ (b *ℤ c)
    grouped a b c = simp ring (omega (arith, ints))

    times : n *ℤ by ≡ h.0.number
    times = *ℤ_cancel (n *ℤ by) h.0.number r.den h.0.is.stands.positive (slide n by r.den ∙ ap (λ z. z *ℤ by) a.0 ∙ grouped r.num m by ∙ ap (λ z. r.num *ℤ z) e ∙ h.0.is.stands.same)

-- ---- they are made

-- small ratios over one denominator have numerators over their least common one
numbers-made : (rs : List Fraction) → AreRatiosBelow (20 ^ 5) rs → HasValue (least_numerators rs)
numbers-made rs b =
    bind_value (common_denominator rs) (λ common. numerators_over common rs) (common-fits (20 ^ 5) b.over rs b.positive (let h : unsigned_abs b.over ≤ 20 ^ 5 = b.small in omega (arith, h)) b.each)
    (λ common e. over-fits (20 ^ 5) b.over common rs b.positive e b.each (omega arith))

pub never_wide : (rs : List Fraction) (step : Step.Wide) → AreRatiosBelow (20 ^ 5) rs → least_numerators rs ≡ Err step → ⊥
never_wide rs step b e = clash (numbers-made rs b)
  where
    clash : HasValue (least_numerators rs) → ⊥
    clash made = let f : numbers_ok made.0 ≡ Err step = sym made.1 ∙ e in cc
      where
        numbers_ok : List ℤ → Result (List ℤ) Step.Wide
        numbers_ok ns = Ok ns

-- the numbers of a point at its columns
pub ratios_small : (cs : List (List Col)) (rs : List Fraction) (n : ℕ) → AreRatiosBelow (20 ^ 5) rs → AreRatiosBelow (20 ^ 5) (values_to cs rs n)
ratios_small cs rs n b = record { over = b.over; positive = b.positive; small = b.small; each = ratios_below (20 ^ 5) b.over cs rs n b.each }
