-- Sums of multiples of the spots around one inner point: they stay within 128 bits, and read what a
-- polynomial has at a place.
use Rattle.std.proofs.Common.{◌≡◌, ℕ, zero, suc, ◌+◌, ◌*◌, ◌^◌, ◌<◌, ◌≤◌, List, [], ◌∷◌, ◌++◌, length, Some, Result, refl, sym, ap, subst, ◌∙◌, arith, ℤ, pos, ◌+ℤ◌, ◌*ℤ◌, ◌<ℤ◌}
use Rattle.std.specs.Prelude.{slice_get, unsigned_abs}
use Rattle.std.specs.List.{AllByRecursion}
use Rattle.std.proofs.lemmas.Int.{ints}
use Rattle.items.specs.Gives.{◌>>=◌}
use Rattle.whole_numbers.specs.declared.wide.Wide as Step
use Rattle.whole_numbers.proofs.Ring.{*ℤ-positive, unsigned_abs-+ℤ}
use Rattle.linear_terms.specs.declared.col.Col.{Col}
use Rattle.linear_terms.specs.Polynomial.{Polynomial}
use Rattle.farkas_check.specs.declared.stratum.Change.{Change}
use Rattle.farkas_check.specs.declared.stratum.Spot.{Spot}
use Rattle.farkas_check.specs.Frames.{sum_below}
use Rattle.farkas_check.specs.Ratios.{Fraction, lowest_terms, ratio_product, ratio_sum}
use Rattle.farkas_check.specs.Relations.{sides}
use Rattle.farkas_check.specs.Stratum.{terms_of, spot_value, ratio_side_at, spots_from, spot_side}
use Rattle.simplex.proofs.Certificates.{sum_below-first}
use Rattle.simplex.proofs.Small.{product-small}
use Rattle.simplex.proofs.Widths.{IsRatio}
use Rattle.elimination.specs.Around.{IsSmallOver, HasValue}
use Rattle.elimination.specs.BasisParts.{values_below}
use Rattle.elimination.proofs.FreeSums.{HasRatio, IsRatio-lowest, product-of_ratios, sum-of_ratios, side_by, IsSmallSide, side-ratio, side-size}

-- ---- what stands at an unknown, spot by spot

-- the values of spots are numerators over one denominator, none of them greater than 2 ^ 28
abbrev pub HasNumerators : (Spot → Result Fraction Step.Wide) → ℤ → (ℕ → ℤ) → List Spot → Type 0
HasNumerators value den num [] = Unit {0}
HasNumerators value den num (spot ∷ spots) = (HasRatio (value spot) (num zero) den × (unsigned_abs (num zero) ≤ 268435456)) × HasNumerators value den (λ i. num (suc i)) spots

value-ratio : (cs : List (List Col)) (spot : Spot) (p : Polynomial) (num den : ℤ) → HasValue cs spot p num den → HasRatio (spot_value cs spot p) num den
value-ratio cs spot p num den v = record { value = v.value; is = v.is; ratio = record { stands = record { same = v.same; positive = v.lowest.positive }; lowest = v.lowest } }

pub group-numerators : (cs : List (List Col)) (cases : List Change) (lower : List Polynomial) (case unknown : ℕ) (den : ℤ) (num : ℕ → Polynomial → ℤ) (group : List Spot)
    → pos 0 <ℤ den → unsigned_abs den ≤ 268435456 → AllByRecursion (λ (spot : Spot). spot.case ≡ case) group
    → ((i : ℕ) (spot : Spot) → slice_get group i ≡ Some spot → (p : Polynomial) → IsSmallOver cs p → HasValue cs spot p (num i p) den)
    → ((i : ℕ) (p : Polynomial) → IsSmallOver cs p → unsigned_abs (num i p) ≤ 268435456) → AllByRecursion (IsSmallSide cs) (sides (terms_of cases case) lower)
    → HasNumerators (λ spot. spot_side cs cases lower spot unknown) den (λ i. side_by (num i) den (sides (terms_of cases case) lower) unknown) group
unfolding spot_side
group-numerators cs cases lower case unknown den num [] p hd c v s h = tt
group-numerators cs cases lower case unknown den num (spot ∷ group) p hd c v s h = (
  (
    subst (λ (own : ℕ). HasRatio (ratio_side_at (spot_value cs spot) (sides (terms_of cases own) lower) unknown) (side_by (num zero) den (sides (terms_of cases case) lower) unknown) den) (sym c.0)
        (side-ratio cs (spot_value cs spot) (num zero) den 268435456 (sides (terms_of cases case) lower) unknown p hd (omega arith) (λ q k. value-ratio cs spot q (num zero q) den (v zero spot refl q k)) (λ q k. s zero q k) h),
    side-size cs (num zero) den 268435456 (sides (terms_of cases case) lower) unknown hd (λ q k. s zero q k) h,
  ),
  group-numerators cs cases lower case unknown den (λ i. num (suc i)) group p hd c.1 (λ i other e. v (suc i) other e) (λ i. s (suc i)) h,
)

-- ---- the sum over a group

-- a sum so far with the multiples of spots, before others, goes on from x over d
pub record Reaches (value : Spot → Result Fraction Step.Wide) (total : Fraction) (spots rest : List Spot) (by more : List Fraction) (x d : ℤ) : Type 0 where
  pub next : Fraction
  pub same : spots_from value total (spots ++ rest) (by ++ more) ≡ spots_from value next rest more
  pub ratio : IsRatio next x d

pub group-reaches : (value : Spot → Result Fraction Step.Wide) (den over : ℤ) (num weight : ℕ → ℤ) (b : ℕ) (x : ℤ) (total : Fraction) (spots rest : List Spot) (more : List Fraction)
    → pos 0 <ℤ den → pos 0 <ℤ over → unsigned_abs den ≤ 12800000 → unsigned_abs over ≤ 481890304 → ((i : ℕ) → unsigned_abs (weight i) ≤ 481890304 * 67108864) → HasNumerators value den num spots
    → IsRatio total x (den *ℤ over) → unsigned_abs x ≤ b → b + length spots * (268435456 * (481890304 * 67108864)) < 2 ^ 127
    → Reaches value total spots rest (values_below (length spots) (λ i. lowest_terms (weight i) over)) more (x +ℤ sum_below (length spots) (λ i. num i *ℤ weight i)) (den *ℤ over)
group-reaches value den over num weight b x total [] rest more p q hd ho hw h s hx room = record { next = total; same = refl; ratio = subst (λ z. IsRatio total z (den *ℤ over)) (plain x) s }
  where
    plain : (z : ℤ) → z ≡ z +ℤ pos 0
    plain z = omega (arith, ints)
group-reaches value den over num weight b x total (spot ∷ spots) rest more p q hd ho hw h s hx room =
    with_part (product-of_ratios 268435456 (481890304 * 67108864) 12800000 481890304 (num zero) (weight zero) den over h.0.0.value (lowest_terms (weight zero) over) p q h.0.0.ratio (IsRatio-lowest (weight zero) over q) h.0.1 (hw zero) hd ho (omega arith) (omega arith))
    (λ next t. group-reaches value den over (λ i. num (suc i)) (λ i. weight (suc i)) (b + 268435456 * (481890304 * 67108864)) (x +ℤ num zero *ℤ weight zero) next spots rest more p q hd ho (λ i. hw (suc i)) h.1 t size (omega (arith, room, opened)))
  where
    opened : suc (length spots) * (268435456 * (481890304 * 67108864)) ≡ length spots * (268435456 * (481890304 * 67108864)) + 268435456 * (481890304 * 67108864)
    opened = omega arith

    part_size : unsigned_abs (num zero *ℤ weight zero) ≤ 268435456 * (481890304 * 67108864)
    part_size = product-small 268435456 (481890304 * 67108864) (num zero) (weight zero) h.0.1 (hw zero)

    size : unsigned_abs (x +ℤ num zero *ℤ weight zero) ≤ b + 268435456 * (481890304 * 67108864)
    size =
        let sum : unsigned_abs (x +ℤ num zero *ℤ weight zero) ≤ unsigned_abs x + unsigned_abs (num zero *ℤ weight zero) = unsigned_abs-+ℤ x (num zero *ℤ weight zero) in
        let part : unsigned_abs (num zero *ℤ weight zero) ≤ 268435456 * (481890304 * 67108864) = part_size in
        omega (arith, sum, part, hx)

    bottom : unsigned_abs (den *ℤ over) < 2 ^ 127
    bottom = let most : unsigned_abs (den *ℤ over) ≤ 12800000 * 481890304 = product-small 12800000 481890304 den over hd ho in omega (arith, most)

    own : List Fraction
    own = values_below (length spots) (λ i. lowest_terms (weight (suc i)) over)

    group : (a c e : ℤ) → a +ℤ c +ℤ e ≡ a +ℤ (c +ℤ e)
    group a c e = omega (arith, ints)

    whole : x +ℤ num zero *ℤ weight zero +ℤ sum_below (length spots) (λ i. num (suc i) *ℤ weight (suc i)) ≡ x +ℤ sum_below (suc (length spots)) (λ i. num i *ℤ weight i)
    whole = group x (num zero *ℤ weight zero) (sum_below (length spots) (λ i. num (suc i) *ℤ weight (suc i))) ∙ ap (λ z. x +ℤ z) (sym (sum_below-first (length spots) (λ i. num i *ℤ weight i)))

    with_part : HasRatio (ratio_product h.0.0.value (lowest_terms (weight zero) over)) (num zero *ℤ weight zero) (den *ℤ over)
        → ((next : Fraction) → IsRatio next (x +ℤ num zero *ℤ weight zero) (den *ℤ over) → Reaches value next spots rest (values_below (length spots) (λ i. lowest_terms (weight (suc i)) over)) more (x +ℤ num zero *ℤ weight zero +ℤ sum_below (length spots) (λ i. num (suc i) *ℤ weight (suc i))) (den *ℤ over))
        → Reaches value total (spot ∷ spots) rest (lowest_terms (weight zero) over ∷ values_below (length spots) (λ i. lowest_terms (weight (suc i)) over)) more (x +ℤ sum_below (suc (length spots)) (λ i. num i *ℤ weight i)) (den *ℤ over)
    with_part part again = with_sum (sum-of_ratios b (268435456 * (481890304 * 67108864)) x (num zero *ℤ weight zero) (den *ℤ over) total part.value (*ℤ-positive den over p q) bottom s part.ratio hx part_size (omega (arith, room, opened)))
      where
        with_sum : HasRatio (ratio_sum total part.value) (x +ℤ num zero *ℤ weight zero) (den *ℤ over) → Reaches value total (spot ∷ spots) rest (lowest_terms (weight zero) over ∷ own) more (x +ℤ sum_below (suc (length spots)) (λ i. num i *ℤ weight i)) (den *ℤ over)
        with_sum sum = last (again sum.value sum.ratio)
          where
            steps : spots_from value total (spot ∷ (spots ++ rest)) (lowest_terms (weight zero) over ∷ (own ++ more)) ≡ spots_from value sum.value (spots ++ rest) (own ++ more)
            steps =
                ap (λ (r : Result Fraction Step.Wide). r >>= λ v. ratio_product v (lowest_terms (weight zero) over) >>= λ made. ratio_sum total made >>= λ next. spots_from value next (spots ++ rest) (own ++ more)) h.0.0.is
                ∙ ap (λ (r : Result Fraction Step.Wide). r >>= λ made. ratio_sum total made >>= λ next. spots_from value next (spots ++ rest) (own ++ more)) part.is
                ∙ ap (λ (r : Result Fraction Step.Wide). r >>= λ next. spots_from value next (spots ++ rest) (own ++ more)) sum.is

            last : Reaches value sum.value spots rest own more (x +ℤ num zero *ℤ weight zero +ℤ sum_below (length spots) (λ i. num (suc i) *ℤ weight (suc i))) (den *ℤ over) → Reaches value total (spot ∷ spots) rest (lowest_terms (weight zero) over ∷ own) more (x +ℤ sum_below (suc (length spots)) (λ i. num i *ℤ weight i)) (den *ℤ over)
            last r = record { next = r.next; same = steps ∙ r.same; ratio = subst (λ z. IsRatio r.next z (den *ℤ over)) whole r.ratio }
