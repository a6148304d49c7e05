-- The multiples of spots that show that no chosen unknown is free: no part of their test is false.
use Rattle.std.proofs.Common.{◌≡◌, ◌≢◌, ℕ, zero, suc, ◌+◌, ◌<◌, ◌≤◌, Bool, true, false, cond, List, [], ◌∷◌, ◌++◌, length, map, get_or, append-nil, Result, Ok, refl, sym, ap, subst, ◌∙◌, arith, ⊎_elim, ℤ, pos, negsuc, ◌+ℤ◌, ◌*ℤ◌, ◌<ℤ◌}
use Rattle.std.specs.Prelude.{◌==◌, ◌||◌, not, int_div}
use Rattle.std.specs.List.{AllByRecursion, list_any, filter, zip}
use Rattle.std.specs.Ordering.{int_eq}
use Rattle.std.proofs.lemmas.Int.{ints}
use Rattle.std.proofs.lemmas.Bool.{cases_eq, eq-eqb, ne_eqb, false≢true}
use Rattle.std.proofs.lemmas.Bool.Decides.{Decides-int_eq}
use Rattle.std.proofs.lemmas.List.Elements.{filter-append}
use Rattle.std.proofs.Math.IntN.{zero-*ℤ}
use Rattle.items.specs.Gives.{◌>>=◌}
use Rattle.items.proofs.Gives.{on_ok}
use Rattle.whole_numbers.specs.declared.wide.Wide as Step
use Rattle.whole_numbers.specs.Fits.{sum_of, product_of}
use Rattle.whole_numbers.proofs.Ring.{ring, *ℤ_cancel, *ℤ-positive, product_of-value}
use Rattle.linear_terms.specs.declared.col.Col.{Col}
use Rattle.linear_terms.specs.Polynomial.{Terms, Polynomial}
use Rattle.farkas_check.specs.Frames.{sum_below}
use Rattle.farkas_check.specs.Parts.{and_then}
use Rattle.farkas_check.specs.Points.{ratio_at, ratio_value, slope_at, value_from}
use Rattle.farkas_check.specs.Ratios.{Fraction, IsLowest, whole, lowest_terms, common_multiple, ratio_product, ratio_sum}
use Rattle.farkas_check.specs.Relations.{entry, pivot, places, free_places, Side, Term, Lower, One, sides}
use Rattle.farkas_check.specs.Stratum.{all_of, terms_of, minus_value, ratio_side, ratio_side_at, spot_side, spots_from, is_exactly, unit_at, unit_test_at, tested_unit, tested_free}
use Rattle.farkas_check.specs.declared.stratum.Change.{Change}
use Rattle.farkas_check.specs.declared.stratum.Spot.{Spot}
use Rattle.farkas_check.proofs.Farkas.{bool_ok}
use Rattle.farkas_check.proofs.Lowest.{positive_product, common_multiple-positive, positive-lowest_terms, IsLowest-lowest_terms, IsLowest-whole}
use Rattle.farkas_check.proofs.PointValues.{Stands, Stands-lowest, Stands-sum, nothing}
use Rattle.farkas_check.proofs.Spots.{Stands-times}
use Rattle.simplex.specs.Exchange.{numbers_of, choices_of}
use Rattle.simplex.specs.Frames.{is_chosen}
use Rattle.simplex.specs.Spots.{values_of, AreSideValues, IsSpotLine, AreSpotLines, AreSpots, AreRelations, HasPivot, unit_multiple, multiples_from, IsUnitList, AreUnitLists, chosen_below, spots_framed}
use Rattle.simplex.specs.declared.spots.Spots.{Spots}
use Rattle.simplex.specs.declared.tableau.Tableau.{Tableau}
use Rattle.simplex.proofs.Certificates.{sum_below-first}
use Rattle.simplex.proofs.ColumnChoices.{is_chosen-at, chosen_by}
use Rattle.simplex.proofs.Denominators.{AreLowest, numerators_of, denominator-positive}
use Rattle.simplex.proofs.Echelons.{numerator_at}
use Rattle.simplex.proofs.SpotFrames.{framed-number}
use Rattle.simplex.proofs.SpotPoints.{all_honest}
use Rattle.simplex.proofs.Sums.{sum_below-same}

-- ---- the chosen unknowns in order

chosen-more : (t : Tableau) (u : ℕ) → is_chosen (length t.lines) (choices_of t) u ≡ true → chosen_below t (u + 1) ≡ chosen_below t u ++ u ∷ []
chosen-more t u e = let f : u + 1 ≡ suc u = omega arith in ap (chosen_below t) f ∙ ap (λ (b : Bool). chosen_below t u ++ cond b (u ∷ []) []) e

chosen-same : (t : Tableau) (u : ℕ) → is_chosen (length t.lines) (choices_of t) u ≡ false → chosen_below t (u + 1) ≡ chosen_below t u
chosen-same t u e = let f : u + 1 ≡ suc u = omega arith in ap (chosen_below t) f ∙ ap (λ (b : Bool). chosen_below t u ++ cond b (u ∷ []) []) e ∙ append-nil (chosen_below t u)

not_chosen : (t : Tableau) (u : ℕ) → ((k : ℕ) → k < length t.lines → choices_of t k ≢ u) → is_chosen (length t.lines) (choices_of t) u ≡ false
not_chosen t u none = go (is_chosen (length t.lines) (choices_of t) u) refl
  where
    go : (b : Bool) → is_chosen (length t.lines) (choices_of t) u ≡ b → is_chosen (length t.lines) (choices_of t) u ≡ false
    go true e = let c = chosen_by (length t.lines) (choices_of t) u e in absurd (none c.0 c.1.0 c.1.1)
    go false e = e

lists_more : (count : ℕ) (spots : Spots) (us : List ℕ) (u : ℕ) (lists : List (List Fraction)) (by : List Fraction) → AreUnitLists count spots us lists → IsUnitList count spots u by → AreUnitLists count spots (us ++ u ∷ []) (lists ++ by ∷ [])
lists_more count spots [] u lists by a is = subst (λ (ls : List (List Fraction)). AreUnitLists count spots (u ∷ []) (ls ++ by ∷ [])) (sym a) (is, refl)
lists_more count spots (v ∷ us) u [] by a is = absurd a
lists_more count spots (v ∷ us) u (own ∷ lists) by a is = (a.0, lists_more count spots us u lists by a.1 is)

pub unit_added : (count : ℕ) (known : Spots) (u line : ℕ) (lists made : List (List Fraction)) (by : List Fraction) → line < length known.tableau.lines → choices_of known.tableau line ≡ u → multiples_from (get_or known.tableau.lines line []) (numbers_of known.tableau line u) count known.scales ≡ Ok by
    → AreUnitLists count known (chosen_below known.tableau u) lists → made ≡ lists ++ by ∷ [] → AreUnitLists count known (chosen_below known.tableau (u + 1)) made
unit_added count known u line lists made by here own is a more =
    subst (AreUnitLists count known (chosen_below known.tableau (u + 1))) (sym more)
    (subst (λ (us : List ℕ). AreUnitLists count known us (lists ++ by ∷ []))
    (sym (chosen-more known.tableau u (ap (is_chosen (length known.tableau.lines) (choices_of known.tableau)) (sym own) ∙ is_chosen-at (length known.tableau.lines) (choices_of known.tableau) line here)))
    (lists_more count known (chosen_below known.tableau u) u lists by a (record { line = line; here = here; chooses = own; is = is })))

pub unit_skipped : (count : ℕ) (known : Spots) (u : ℕ) (lists : List (List Fraction)) → ((k : ℕ) → k < length known.tableau.lines → choices_of known.tableau k ≢ u) → AreUnitLists count known (chosen_below known.tableau u) lists → AreUnitLists count known (chosen_below known.tableau (u + 1)) lists
unit_skipped count known u lists none a = subst (λ (us : List ℕ). AreUnitLists count known us lists) (sym (chosen-same known.tableau u (not_chosen known.tableau u none))) a

-- ---- they are the unknowns that are no pivot

abbrev has_pivot : List (List ℤ) → ℕ → Bool
has_pivot lines u = list_any (λ p. p == u) (map pivot lines)

or_right : (a b : Bool) → b ≡ true → a || b ≡ true
or_right true b e = refl
or_right false b e = e

pivot_there : (lines : List (List ℤ)) (u i : ℕ) → i < length lines → pivot (get_or lines i []) ≡ u → has_pivot lines u ≡ true
pivot_there [] u i h e = absurd (omega (arith, h))
pivot_there (l ∷ lines) u zero h e = ap (λ (b : Bool). b || has_pivot lines u) (eq-eqb (pivot l) u e)
pivot_there (l ∷ lines) u (suc i) h e = or_right (pivot l == u) (has_pivot lines u) (pivot_there lines u i (omega (arith, h)) e)

pivot_nowhere : (lines : List (List ℤ)) (u : ℕ) → ((i : ℕ) → i < length lines → pivot (get_or lines i []) ≢ u) → has_pivot lines u ≡ false
pivot_nowhere [] u f = refl
pivot_nowhere (l ∷ lines) u f = ap (λ (b : Bool). b || has_pivot lines u) (ne_eqb (pivot l) u (f 0 (omega arith))) ∙ pivot_nowhere lines u (λ i h. f (suc i) (omega (arith, h)))

no_pivot : (count : ℕ) (t : Tableau) (lines : List (List ℤ)) (u : ℕ) → AreRelations count t count lines → u < count → not (has_pivot lines u) ≡ is_chosen (length t.lines) (choices_of t) u
no_pivot count t lines u a h = go (is_chosen (length t.lines) (choices_of t) u) refl
  where
    free : is_chosen (length t.lines) (choices_of t) u ≡ false → has_pivot lines u ≡ true
    free e = let p : HasPivot u lines = a.all u h (λ k g f. false≢true (sym e ∙ ap (is_chosen (length t.lines) (choices_of t)) (sym f) ∙ is_chosen-at (length t.lines) (choices_of t) k g)) in pivot_there lines u p.0 p.1.0 p.1.1

    go : (b : Bool) → is_chosen (length t.lines) (choices_of t) u ≡ b → not (has_pivot lines u) ≡ b
    go true e = let c = chosen_by (length t.lines) (choices_of t) u e in ap not (pivot_nowhere lines u (λ i g f. a.free i c.0 g c.1.0 (c.1.1 ∙ sym f)))
    go false e = ap not (free e)

mapped_places : (f : ℕ → ℕ) (n : ℕ) → map f (places (suc n)) ≡ map f (places n) ++ f n ∷ []
mapped_places f zero = refl
mapped_places f (suc n) = ap (λ (xs : List ℕ). f 0 ∷ xs) (shifted (places (suc n)) ∙ mapped_places (λ i. f (suc i)) n ∙ ap (λ (xs : List ℕ). xs ++ f (suc n) ∷ []) (sym (shifted (places n))))
  where
    shifted : (xs : List ℕ) → map f (map (λ place. suc place) xs) ≡ map (λ i. f (suc i)) xs
    shifted [] = refl
    shifted (x ∷ xs) = ap (λ (ys : List ℕ). f (suc x) ∷ ys) (shifted xs)

mapped_itself : (xs : List ℕ) → map (λ i. i) xs ≡ xs
mapped_itself [] = refl
mapped_itself (x ∷ xs) = ap (λ (ys : List ℕ). x ∷ ys) (mapped_itself xs)

places-more : (n : ℕ) → places (suc n) ≡ places n ++ n ∷ []
places-more n = sym (mapped_itself (places (suc n))) ∙ mapped_places (λ i. i) n ∙ ap (λ (xs : List ℕ). xs ++ n ∷ []) (mapped_itself (places n))

free_below : (count : ℕ) (t : Tableau) (lines : List (List ℤ)) (n : ℕ) → AreRelations count t count lines → n ≤ count → free_places lines n ≡ chosen_below t n
free_below count t lines zero a h = refl
free_below count t lines (suc n) a h =
    ap (filter (λ place. not (has_pivot lines place))) (places-more n)
    ∙ filter-append (λ place. not (has_pivot lines place)) (places n) (n ∷ [])
    ∙ ap (λ (xs : List ℕ). xs ++ filter (λ place. not (has_pivot lines place)) (n ∷ [])) (free_below count t lines n a (omega (arith, h)))
    ∙ ap (λ (b : Bool). chosen_below t n ++ cond b (n ∷ []) []) (no_pivot count t lines n a (omega (arith, h)))

-- an unknown that some line chooses
abbrev IsChosenUnknown : ℕ → Tableau → ℕ → Type 0
IsChosenUnknown count t u = (u < count) × (is_chosen (length t.lines) (choices_of t) u ≡ true)

all_both : (P : ℕ → Type 0) (xs ys : List ℕ) → AllByRecursion P xs → AllByRecursion P ys → AllByRecursion P (xs ++ ys)
all_both P [] ys h k = k
all_both P (x ∷ xs) ys h k = (h.0, all_both P xs ys h.1 k)

chosen_each : (count : ℕ) (t : Tableau) (n : ℕ) → n ≤ count → AllByRecursion (IsChosenUnknown count t) (chosen_below t n)
chosen_each count t zero h = tt
chosen_each count t (suc n) h = all_both (IsChosenUnknown count t) (chosen_below t n) (cond (is_chosen (length t.lines) (choices_of t) n) (n ∷ []) []) (chosen_each count t n (omega (arith, h))) (one (is_chosen (length t.lines) (choices_of t) n) refl)
  where
    one : (b : Bool) → is_chosen (length t.lines) (choices_of t) n ≡ b → AllByRecursion (IsChosenUnknown count t) (cond b (n ∷ []) [])
    one true e = ((omega (arith, h), e), tt)
    one false e = tt

-- ---- values at a spot

sum-lowest : (a b r : Fraction) → pos 0 <ℤ a.den → pos 0 <ℤ b.den → ratio_sum a b ≡ Ok r → IsLowest r
sum-lowest a b r p q e =
    on_ok (common_multiple a.den b.den) (λ den. product_of a.num (int_div den a.den) >>= λ left. product_of b.num (int_div den b.den) >>= λ right. sum_of left right >>= λ num. ratio_ok (lowest_terms num den)) r e
    (λ den f g. on_ok (product_of a.num (int_div den a.den)) (λ left. product_of b.num (int_div den b.den) >>= λ right. sum_of left right >>= λ num. ratio_ok (lowest_terms num den)) r g
    (λ left h i. on_ok (product_of b.num (int_div den b.den)) (λ right. sum_of left right >>= λ num. ratio_ok (lowest_terms num den)) r i
    (λ right j k. on_ok (sum_of left right) (λ num. ratio_ok (lowest_terms num den)) r k
    (λ num l m. let same : lowest_terms num den ≡ r = cc in subst IsLowest same (IsLowest-lowest_terms num den (common_multiple-positive a.den b.den den p q f))))))
  where
    ratio_ok : Fraction → Result Fraction Step.Wide
    ratio_ok q = Ok q

product-lowest : (a b r : Fraction) → pos 0 <ℤ a.den → pos 0 <ℤ b.den → ratio_product a b ≡ Ok r → IsLowest r
product-lowest a b r p q e =
    on_ok (product_of a.num b.num) (λ num. product_of a.den b.den >>= λ den. ratio_ok (lowest_terms num den)) r e
    (λ num f g. on_ok (product_of a.den b.den) (λ den. ratio_ok (lowest_terms num den)) r g
    (λ den h i. let same : lowest_terms num den ≡ r = cc in
    subst IsLowest same (IsLowest-lowest_terms num den (subst (λ (z : ℤ). pos 0 <ℤ z) (sym (product_of-value a.den b.den den h)) (positive_product a.den b.den p q)))))
  where
    ratio_ok : Fraction → Result Fraction Step.Wide
    ratio_ok q = Ok q

-- each number of a point has a positive denominator
abbrev pub IsPositiveAt : (List Col → Fraction) → Type 0
IsPositiveAt at = (m : List Col) → pos 0 <ℤ (at m).den

from-lowest : (at : List Col → Fraction) (total r : Fraction) (ts : Terms) → IsPositiveAt at → IsLowest total → value_from at total ts ≡ Ok r → IsLowest r
from-lowest at total r [] p l e = let same : total ≡ r = cc in subst IsLowest same l
from-lowest at total r (t ∷ ts) p l e =
    on_ok (ratio_product (whole t.1) (at t.0)) (λ part. ratio_sum total part >>= λ next. value_from at next ts) r e
    (λ part f g. on_ok (ratio_sum total part) (λ next. value_from at next ts) r g
    (λ next h k. from-lowest at next r ts p (sum-lowest total part next l.positive (product-lowest (whole t.1) (at t.0) part (omega (arith, ints)) (p t.0) f).positive h) k))

value-lowest : (at : List Col → Fraction) (p : Polynomial) (r : Fraction) → IsPositiveAt at → ratio_value at p ≡ Ok r → IsLowest r
value-lowest at p r positive e =
    on_ok (slope_at at p) (λ terms. ratio_sum terms (whole p.rest)) r e
    (λ terms f g. sum-lowest terms (whole p.rest) r (from-lowest at (whole (pos 0)) terms p.terms positive (IsLowest-whole (pos 0)) f).positive (omega (arith, ints)) g)

minus-lowest : (at : List Col → Fraction) (p : Polynomial) (r : Fraction) → IsPositiveAt at → minus_value (ratio_value at) p ≡ Ok r → IsLowest r
minus-lowest at p r positive e =
    on_ok (ratio_value at p) (λ v. ratio_product v (whole (negsuc 0))) r e
    (λ v f g. product-lowest v (whole (negsuc 0)) r (value-lowest at p v positive f).positive (omega (arith, ints)) g)

values-lowest : (value : Polynomial → Result Fraction Step.Wide) (ps : List Polynomial) (rs : List Fraction) → ((p : Polynomial) (r : Fraction) → value p ≡ Ok r → IsLowest r) → values_of value ps ≡ Ok rs → AreLowest rs
values-lowest value [] rs l e = let same : [] ≡ rs = cc in subst AreLowest same tt
values-lowest value (p ∷ ps) rs l e =
    on_ok (value p) (λ r. values_of value ps >>= λ more. ratios_ok (r ∷ more)) rs e
    (λ r f g. on_ok (values_of value ps) (λ more. ratios_ok (r ∷ more)) rs g
    (λ more h k. let same : r ∷ more ≡ rs = cc in subst AreLowest same (l p r f, values-lowest value ps more l h)))
  where
    ratios_ok : List Fraction → Result (List Fraction) Step.Wide
    ratios_ok rs = Ok rs

lowest_both : (xs ys : List Fraction) → AreLowest xs → AreLowest ys → AreLowest (xs ++ ys)
lowest_both [] ys h k = k
lowest_both (x ∷ xs) ys h k = (h.0, lowest_both xs ys h.1 k)

pub sides-lowest : (cs : List (List Col)) (at : List Fraction) (terms lower : List Polynomial) (values : List Fraction) → IsPositiveAt (ratio_at cs at) → AreSideValues cs at terms lower values → AreLowest values
sides-lowest cs at terms lower values p a =
    subst AreLowest (sym a.is)
    (lowest_both a.own (a.others ++ whole (negsuc 0) ∷ []) (values-lowest (ratio_value (ratio_at cs at)) terms a.own (λ q r e. value-lowest (ratio_at cs at) q r p e) a.own_is)
    (lowest_both a.others (whole (negsuc 0) ∷ []) (values-lowest (minus_value (ratio_value (ratio_at cs at))) lower a.others (λ q r e. minus-lowest (ratio_at cs at) q r p e) a.others_is) (IsLowest-whole (negsuc 0), tt)))

-- ---- what stands at an unknown

-- the value at each place is the listed one, and 0 past the last
abbrev pub AreSidesAt : (Polynomial → Result Fraction Step.Wide) → List Side → List Fraction → Type 0
AreSidesAt value ss rs = (place : ℕ) → ratio_side_at value ss place ≡ Ok (get_or rs place (whole (pos 0)))

parts_at : (value own : Polynomial → Result Fraction Step.Wide) (side : Polynomial → Side) (ps : List Polynomial) (ss : List Side) (rs more : List Fraction) → ((p : Polynomial) → ratio_side value (side p) ≡ own p) → values_of own ps ≡ Ok rs → AreSidesAt value ss more → AreSidesAt value (map side ps ++ ss) (rs ++ more)
parts_at value own side [] ss rs more f e rest = let none : [] ≡ rs = cc in subst (λ (xs : List Fraction). AreSidesAt value ss (xs ++ more)) none rest
parts_at value own side (p ∷ ps) ss rs more f e rest =
    on_ok (own p) (λ r. values_of own ps >>= λ others. ratios_ok (r ∷ others)) rs e
    (λ r g h. on_ok (values_of own ps) (λ others. ratios_ok (r ∷ others)) rs h
    (λ others i j. let same : r ∷ others ≡ rs = cc in subst (λ (xs : List Fraction). AreSidesAt value (map side (p ∷ ps) ++ ss) (xs ++ more)) same (cons r others g (parts_at value own side ps ss others more f i rest))))
  where
    ratios_ok : List Fraction → Result (List Fraction) Step.Wide
    ratios_ok rs = Ok rs

    cons : (r : Fraction) (others : List Fraction) → own p ≡ Ok r → AreSidesAt value (map side ps ++ ss) (others ++ more) → AreSidesAt value (map side (p ∷ ps) ++ ss) (r ∷ (others ++ more))
    cons r others g ih zero = f p ∙ g
    cons r others g ih (suc place) = ih place

pub sides_at : (cs : List (List Col)) (at : List Fraction) (terms lower : List Polynomial) (values : List Fraction) → AreSideValues cs at terms lower values → AreSidesAt (ratio_value (ratio_at cs at)) (sides terms lower) values
sides_at cs at terms lower values a =
    subst (AreSidesAt value (sides terms lower)) (sym a.is)
    (parts_at value value Term terms (map Lower lower ++ One ∷ []) a.own (a.others ++ whole (negsuc 0) ∷ []) (λ p. refl) a.own_is
    (parts_at value (minus_value value) Lower lower (One ∷ []) a.others (whole (negsuc 0) ∷ []) (λ p. refl) a.others_is last))
  where
    value : Polynomial → Result Fraction Step.Wide
    value = ratio_value (ratio_at cs at)

    last : AreSidesAt (ratio_value (ratio_at cs at)) (One ∷ []) (whole (negsuc 0) ∷ [])
    last zero = refl
    last (suc place) = refl

-- a spot's value at an unknown is the number of its line there over the spot's scale
pub side_stands : (cs : List (List Col)) (cases : List Change) (lower : List Polynomial) (spot : Spot) (line : List ℤ) (scale : ℤ) (place : ℕ) (v : Fraction) → IsPositiveAt (ratio_at cs spot.at) → IsSpotLine cs spot.at (terms_of cases spot.case) lower line scale → place < length line → spot_side cs cases lower spot place ≡ Ok v
    → Stands v (entry line place) scale × (pos 0 <ℤ scale)
unfolding spot_side
side_stands cs cases lower spot line scale place v positive is h e = (
  record {
    same = sym (subst (λ (r : Fraction). entry line place *ℤ r.den ≡ r.num *ℤ scale) (same (sides_at cs spot.at (terms_of cases spot.case) lower is.values is.are place)) (numerator_at scale is.values line place (numerators_of is.values scale line lowest is.scale_is is.line_is) h));
    positive = subst (λ (r : Fraction). pos 0 <ℤ r.den) (same (sides_at cs spot.at (terms_of cases spot.case) lower is.values is.are place)) (den_at is.values place lowest);
  },
  denominator-positive is.values scale lowest is.scale_is,
)
  where
    lowest : AreLowest is.values
    lowest = sides-lowest cs spot.at (terms_of cases spot.case) lower is.values positive is.are

    same : {r : Fraction} → ratio_side_at (ratio_value (ratio_at cs spot.at)) (sides (terms_of cases spot.case) lower) place ≡ Ok r → r ≡ v
    same {r} f = let g : Ok r ≡ Ok v = sym f ∙ e in (cc)

    den_at : (rs : List Fraction) (j : ℕ) → AreLowest rs → pos 0 <ℤ (get_or rs j (whole (pos 0))).den
    den_at [] j l = omega (arith, ints)
    den_at (r ∷ rs) zero l = l.0.positive
    den_at (r ∷ rs) (suc j) l = den_at rs j l.1

-- ---- the sum over the spots

-- the line's numbers from a place on times those of the spots' lines at an unknown
abbrev units_sum : List ℤ → ℕ → List (List ℤ) → ℕ → ℤ
units_sum line place [] other = pos 0
units_sum line place (l ∷ lines) other = entry line place *ℤ entry l other +ℤ units_sum line (place + 1) lines other

units_sum-is : (line : List ℤ) (place : ℕ) (lines : List (List ℤ)) (other : ℕ) → units_sum line place lines other ≡ sum_below (length lines) (λ l. entry line (place + l) *ℤ entry (get_or lines l []) other)
units_sum-is line place [] other = refl
units_sum-is line place (l ∷ lines) other =
    ap (λ z. entry line place *ℤ entry l other +ℤ z) (units_sum-is line (place + 1) lines other ∙ sum_below-same (length lines) (λ i. entry line (place + 1 + i) *ℤ entry (get_or lines i []) other) (λ i. entry line (place + suc i) *ℤ entry (get_or lines i []) other) (λ i h. let e : place + 1 + i ≡ place + suc i = omega arith in ap (λ (n : ℕ). entry line n *ℤ entry (get_or lines i []) other) e))
    ∙ (let e : place ≡ place + 0 = omega arith in ap (λ (n : ℕ). entry line n *ℤ entry l other +ℤ sum_below (length lines) (λ i. entry line (place + suc i) *ℤ entry (get_or lines i []) other)) e)
    ∙ sym (sum_below-first (length lines) (λ i. entry line (place + i) *ℤ entry (get_or (l ∷ lines) i []) other))

-- the product of a spot's value and its multiple stands over the line's own number
pub part_stands : (x unit scale own : ℤ) (v part : Fraction) → pos 0 <ℤ own → pos 0 <ℤ scale → Stands v x scale → ratio_product v (lowest_terms (unit *ℤ scale) own) ≡ Ok part → Stands part (unit *ℤ x) own
part_stands x unit scale own v part p q s e = record { same = level; positive = t.positive }
  where
    by : Fraction
    by = lowest_terms (unit *ℤ scale) own

    above : pos 0 <ℤ (lowest_terms (unit *ℤ scale) own).den
    above = positive-lowest_terms (unit *ℤ scale) own p

    t : Stands part (x *ℤ (lowest_terms (unit *ℤ scale) own).num) (scale *ℤ (lowest_terms (unit *ℤ scale) own).den)
    t = Stands-times x scale v (lowest_terms (unit *ℤ scale) own) part s above e

    u : Stands (lowest_terms (unit *ℤ scale) own) (unit *ℤ scale) own
    u = Stands-lowest (unit *ℤ scale) own (unit *ℤ scale) own p refl

    first : (n o d k : ℤ) → n *ℤ o *ℤ (d *ℤ k) ≡ n *ℤ (d *ℤ k) *ℤ o
    first n o d k = simp ring (omega (arith, ints))

    second : (a b c o : ℤ) → a *ℤ b *ℤ c *ℤ o ≡ a *ℤ c *ℤ (b *ℤ o)
    second a b c o = simp ring (omega (arith, ints))

    third : (a c w d k : ℤ) → a *ℤ c *ℤ (w *ℤ d *ℤ k) ≡ w *ℤ a *ℤ c *ℤ (d *ℤ k)
    third a c w d k = simp ring (omega (arith, ints))

    level : part.num *ℤ own ≡ unit *ℤ x *ℤ part.den
    level = *ℤ_cancel (part.num *ℤ own) (unit *ℤ x *ℤ part.den) (scale *ℤ (lowest_terms (unit *ℤ scale) own).den) (*ℤ-positive scale (lowest_terms (unit *ℤ scale) own).den q above)
        (first part.num own scale (lowest_terms (unit *ℤ scale) own).den ∙ ap (λ z. z *ℤ own) t.same ∙ second x (lowest_terms (unit *ℤ scale) own).num part.den own ∙ ap (λ z. x *ℤ part.den *ℤ z) u.same ∙ third x part.den unit scale (lowest_terms (unit *ℤ scale) own).den)

sum_stands : (cs : List (List Col)) (cases : List Change) (lower : List Polynomial) (count other place : ℕ) (line : List ℤ) (own x : ℤ) (total r : Fraction) (spots : List Spot) (lines : List (List ℤ)) (scales : List ℤ) (by : List Fraction)
    → pos 0 <ℤ own → AllByRecursion (λ (spot : Spot). IsPositiveAt (ratio_at cs spot.at)) spots → AllByRecursion (λ (l : List ℤ). other < length l) lines → AreSpotLines cs cases lower spots lines scales → multiples_from line own place scales ≡ Ok by → Stands total x own
    → spots_from (λ spot. spot_side cs cases lower spot other) total spots by ≡ Ok r → Stands r (x +ℤ units_sum line place lines other) own
sum_stands cs cases lower count other place line own x total r [] lines scales by p positive long a m s e =
    let same : total ≡ r = cc in
    subst (λ (ls : List (List ℤ)). Stands r (x +ℤ units_sum line place ls other) own) (sym a.0) (subst (λ z. Stands r z own) (plain x) (subst (λ (q : Fraction). Stands q x own) same s))
  where
    plain : (z : ℤ) → z ≡ z +ℤ pos 0
    plain z = omega (arith, ints)
sum_stands cs cases lower count other place line own x total r (spot ∷ spots) [] scales by p positive long a m s e = absurd a
sum_stands cs cases lower count other place line own x total r (spot ∷ spots) (l ∷ lines) [] by p positive long a m s e = absurd a
sum_stands cs cases lower count other place line own x total r (spot ∷ spots) (l ∷ lines) (scale ∷ scales) by p positive long a m s e =
    on_ok (unit_multiple line own place scale) (λ q. multiples_from line own (place + 1) scales >>= λ more. ratios_ok (q ∷ more)) by m
    (λ q f g. on_ok (multiples_from line own (place + 1) scales) (λ more. ratios_ok (q ∷ more)) by g
    (λ more h i. let same : q ∷ more ≡ by = cc in
    step q more f (λ next t w. sum_stands cs cases lower count other (place + 1) line own (x +ℤ entry line place *ℤ entry l other) next r spots lines scales more p positive.1 long.1 a.1 h t w)
    (subst (λ (rs : List Fraction). spots_from (λ spot. spot_side cs cases lower spot other) total (spot ∷ spots) rs ≡ Ok r) (sym same) e)))
  where
    ratios_ok : List Fraction → Result (List Fraction) Step.Wide
    ratios_ok rs = Ok rs

    ratio_ok : Fraction → Result Fraction Step.Wide
    ratio_ok q = Ok q

    group : (a b c : ℤ) → a +ℤ b +ℤ c ≡ a +ℤ (b +ℤ c)
    group a b c = omega (arith, ints)

    multiple_is : (q : Fraction) → unit_multiple line own place scale ≡ Ok q → q ≡ lowest_terms (entry line place *ℤ scale) own
    multiple_is q f =
        on_ok (product_of (entry line place) scale) (λ n. ratio_ok (lowest_terms n own)) q f
        (λ n g h. let same : lowest_terms n own ≡ q = cc in sym same ∙ ap (λ z. lowest_terms z own) (product_of-value (entry line place) scale n g))

    step : (q : Fraction) (more : List Fraction) → unit_multiple line own place scale ≡ Ok q
        → ((next : Fraction) → Stands next (x +ℤ entry line place *ℤ entry l other) own → spots_from (λ spot. spot_side cs cases lower spot other) next spots more ≡ Ok r → Stands r (x +ℤ entry line place *ℤ entry l other +ℤ units_sum line (place + 1) lines other) own)
        → spots_from (λ spot. spot_side cs cases lower spot other) total (spot ∷ spots) (q ∷ more) ≡ Ok r → Stands r (x +ℤ (entry line place *ℤ entry l other +ℤ units_sum line (place + 1) lines other)) own
    step q more f again k =
        on_ok (spot_side cs cases lower spot other) (λ v. ratio_product v q >>= λ part. ratio_sum total part >>= λ next. spots_from (λ spot. spot_side cs cases lower spot other) next spots more) r k
        (λ v i j. on_ok (ratio_product v q) (λ part. ratio_sum total part >>= λ next. spots_from (λ spot. spot_side cs cases lower spot other) next spots more) r j
        (λ part n o. on_ok (ratio_sum total part) (λ next. spots_from (λ spot. spot_side cs cases lower spot other) next spots more) r o
        (λ next t w. let v_is = side_stands cs cases lower spot l scale other v positive.0 a.0 long.0 i in
        subst (λ z. Stands r z own) (group x (entry line place *ℤ entry l other) (units_sum line (place + 1) lines other))
        (again next
        (Stands-sum x (entry line place *ℤ entry l other) own total part next s (part_stands (entry l other) (entry line place) scale own v part p v_is.1 v_is.0 (subst (λ (y : Fraction). ratio_product v y ≡ Ok part) (multiple_is q f) n)) t) w))))

-- ---- the test

exactly_honest : (r : Fraction) (unit x own : ℤ) (b : Bool) → pos 0 <ℤ own → Stands r x own → x ≡ unit *ℤ own → is_exactly r unit ≡ Ok b → b ≡ true
exactly_honest r unit x own b p s e f =
    on_ok (product_of unit r.den) (λ right. bool_ok (int_eq r.num right)) b f
    (λ right g h. let same : int_eq r.num right ≡ b = cc in sym same ∙ (Decides-int_eq r.num right).1 (level ∙ sym (product_of-value unit r.den right g)))
  where
    slide : (a b c : ℤ) → a *ℤ b *ℤ c ≡ a *ℤ c *ℤ b
    slide a b c = simp ring (omega (arith, ints))

    level : r.num ≡ unit *ℤ r.den
    level = *ℤ_cancel r.num (unit *ℤ r.den) own p (s.same ∙ ap (λ z. z *ℤ r.den) e ∙ slide unit own r.den)

each_place : {P Q : ℕ → Type 0} (xs : List ℕ) → ((x : ℕ) → P x → Q x) → AllByRecursion P xs → AllByRecursion Q xs
each_place [] f h = tt
each_place (x ∷ xs) f h = (f x h.0, each_place xs f h.1)

-- what is known of the spots of a search
pub record HasUnits (cs : List (List Col)) (cases : List Change) (lower : List Polynomial) (count : ℕ) (known : Spots) : Type 0 where
  pub are : AreSpots count known
  pub lines : AreSpotLines cs cases lower known.spots known.lines known.scales
  pub positive : AllByRecursion (λ (spot : Spot). IsPositiveAt (ratio_at cs spot.at)) known.spots
  pub long : AllByRecursion (λ (line : List ℤ). length line ≡ count) known.lines

spots-length : (cs : List (List Col)) (cases : List Change) (lower : List Polynomial) (spots : List Spot) (lines : List (List ℤ)) (scales : List ℤ) → AreSpotLines cs cases lower spots lines scales → length scales ≡ length spots
spots-length cs cases lower [] lines scales a = ap length a.1
spots-length cs cases lower (s ∷ spots) [] scales a = absurd a
spots-length cs cases lower (s ∷ spots) (l ∷ lines) [] a = absurd a
spots-length cs cases lower (s ∷ spots) (l ∷ lines) (k ∷ scales) a = let e : length scales ≡ length spots = spots-length cs cases lower spots lines scales a.1 in omega (arith, e)

multiples-length : (line : List ℤ) (own : ℤ) (place : ℕ) (scales : List ℤ) (by : List Fraction) → multiples_from line own place scales ≡ Ok by → length by ≡ length scales
multiples-length line own place [] by e = let same : [] ≡ by = cc in ap length (sym same)
multiples-length line own place (scale ∷ scales) by e =
    on_ok (unit_multiple line own place scale) (λ q. multiples_from line own (place + 1) scales >>= λ more. ratios_ok (q ∷ more)) by e
    (λ q f g. on_ok (multiples_from line own (place + 1) scales) (λ more. ratios_ok (q ∷ more)) by g
    (λ more h i. let same : q ∷ more ≡ by = cc in let l : length more ≡ length scales = multiples-length line own (place + 1) scales more h in let k : length (q ∷ more) ≡ length by = ap length same in omega (arith, l, k)))
  where
    ratios_ok : List Fraction → Result (List Fraction) Step.Wide
    ratios_ok rs = Ok rs

unit_honest : (cs : List (List Col)) (cases : List Change) (lower : List Polynomial) (count : ℕ) (known : Spots) (u : ℕ) (by : List Fraction) (others : List ℕ) (b : Bool) → HasUnits cs cases lower count known → u < count → IsUnitList count known u by → AllByRecursion (IsChosenUnknown count known.tableau) others
    → tested_unit (spot_side cs cases lower) known.spots others u by ≡ Ok b → b ≡ true
unit_honest cs cases lower count known u by others b k inside is chosen e =
    after (length by == length known.spots) (eq-eqb (length by) (length known.spots) (multiples-length (get_or known.tableau.lines is.line []) own count known.scales by is.is ∙ spots-length cs cases lower known.spots known.lines known.scales k.lines)) e
  where
    t : Tableau
    t = known.tableau

    own : ℤ
    own = numbers_of known.tableau is.line u

    above : pos 0 <ℤ numbers_of known.tableau is.line u
    above = subst (λ (n : ℕ). pos 0 <ℤ numbers_of known.tableau is.line n) is.chooses (k.are.tableau.tableau.is.own is.line is.here)

    many : length known.tableau.lines ≡ length known.lines
    many = k.are.tableau.many

    long_each : (other : ℕ) → other < count → (lines : List (List ℤ)) → AllByRecursion (λ (line : List ℤ). length line ≡ count) lines → AllByRecursion (λ (l : List ℤ). other < length l) lines
    long_each other h [] a = tt
    long_each other h (l ∷ lines) a = (subst (λ (n : ℕ). other < n) (sym a.0) h, long_each other h lines a.1)

    -- the sum is the line's number at the unknown
    at : (other : ℕ) → other < count → pos 0 +ℤ units_sum (get_or known.tableau.lines is.line []) count known.lines other ≡ numbers_of known.tableau is.line other
    at other h =
        plain (units_sum (get_or known.tableau.lines is.line []) count known.lines other)
        ∙ units_sum-is (get_or known.tableau.lines is.line []) count known.lines other
        ∙ ap (λ (n : ℕ). sum_below n (λ l. numbers_of known.tableau is.line (count + l) *ℤ entry (get_or known.lines l []) other)) (sym many)
        ∙ sum_below-same (length known.tableau.lines) (λ l. numbers_of known.tableau is.line (count + l) *ℤ entry (get_or known.lines l []) other) (λ l. numbers_of known.tableau is.line (count + l) *ℤ numbers_of (spots_framed count known.lines) l other) (λ l g. ap (λ z. numbers_of known.tableau is.line (count + l) *ℤ z) (sym (framed-number count known.lines l other (subst (λ (n : ℕ). l < n) many g) h)))
        ∙ sym (k.are.tableau.tableau.is.combination is.line is.here other (omega (arith, h)))
      where
        plain : (z : ℤ) → pos 0 +ℤ z ≡ z
        plain z = omega (arith, ints)

    unit : (other : ℕ) → other < count → is_chosen (length known.tableau.lines) (choices_of known.tableau) other ≡ true → numbers_of known.tableau is.line other ≡ unit_at u other *ℤ own
    unit other h c = ⊎_elim (λ (same : other ≡ u). at_own same) (λ apart. at_other apart (chosen_by (length known.tableau.lines) (choices_of known.tableau) other c)) (cases_eq other u)
      where
        once : (z : ℤ) → z ≡ pos 1 *ℤ z
        once z = omega (arith, ints)

        at_own : other ≡ u → numbers_of known.tableau is.line other ≡ unit_at u other *ℤ own
        at_own same = ap (numbers_of known.tableau is.line) same ∙ once own ∙ ap (λ (b : Bool). cond b (pos 1) (pos 0) *ℤ own) (sym (eq-eqb other u same))

        at_other : other ≢ u → ((l : ℕ) × ((l < length known.tableau.lines) × (choices_of known.tableau l ≡ other))) → numbers_of known.tableau is.line other ≡ unit_at u other *ℤ own
        at_other apart l =
            ap (numbers_of known.tableau is.line) (sym l.1.1)
            ∙ k.are.tableau.tableau.is.others is.line l.0 is.here l.1.0 (λ same. apart (sym l.1.1 ∙ ap (choices_of known.tableau) (sym same) ∙ is.chooses))
            ∙ sym (zero-*ℤ own) ∙ ap (λ (b : Bool). cond b (pos 1) (pos 0) *ℤ own) (sym (ne_eqb other u apart))

    one : (other : ℕ) → IsChosenUnknown count known.tableau other → (c : Bool) → unit_test_at (spot_side cs cases lower) known.spots u by other ≡ Ok c → c ≡ true
    one other chosen c f =
        on_ok (spots_from (λ spot. spot_side cs cases lower spot other) (whole (pos 0)) known.spots by) (λ total. is_exactly total (unit_at u other)) c f
        (λ total g h. exactly_honest total (unit_at u other) (pos 0 +ℤ units_sum (get_or known.tableau.lines is.line []) count known.lines other) own c above
        (sum_stands cs cases lower count other count (get_or known.tableau.lines is.line []) own (pos 0) (whole (pos 0)) total known.spots known.lines known.scales by above k.positive (long_each other chosen.0 known.lines k.long) k.lines is.is (nothing own) g)
        (at other chosen.0 ∙ unit other chosen.0 chosen.1) h)

    after : (q : Bool) → q ≡ true → and_then (bool_ok q) (all_of (unit_test_at (spot_side cs cases lower) known.spots u by) others) ≡ Ok b → b ≡ true
    after true f g = all_honest (unit_test_at (spot_side cs cases lower) known.spots u by) others b (each_place others one chosen) g
    after false f g = cc

pub free_honest : (cs : List (List Col)) (cases : List Change) (lower : List Polynomial) (count : ℕ) (known : Spots) (lines : List (List ℤ)) (free : List (List Fraction)) (b : Bool) → HasUnits cs cases lower count known → AreRelations count known.tableau count lines → AreUnitLists count known (chosen_below known.tableau count) free
    → tested_free (spot_side cs cases lower) known.spots (free_places lines count) free ≡ Ok b → b ≡ true
free_honest cs cases lower count known lines free b k a lists e = honest (subst (λ (us : List ℕ). tested_free (spot_side cs cases lower) known.spots us free ≡ Ok b) (free_below count known.tableau lines count a (omega arith)) e)
  where
    others : List ℕ
    others = chosen_below known.tableau count

    chosen : AllByRecursion (IsChosenUnknown count known.tableau) (chosen_below known.tableau count)
    chosen = chosen_each count known.tableau count (omega arith)

    each : (us : List ℕ) (ls : List (List Fraction)) → AllByRecursion (IsChosenUnknown count known.tableau) us → AreUnitLists count known us ls → AllByRecursion (λ (p : ℕ × List Fraction). (c : Bool) → tested_unit (spot_side cs cases lower) known.spots others p.0 p.1 ≡ Ok c → c ≡ true) (zip us ls)
    each [] ls h l = tt
    each (u ∷ us) [] h l = absurd l
    each (u ∷ us) (by ∷ ls) h l = (λ c f. unit_honest cs cases lower count known u by others c k h.0.0 l.0 chosen f, each us ls h.1 l.1)

    same_length : (us : List ℕ) (ls : List (List Fraction)) → AreUnitLists count known us ls → length ls ≡ length us
    same_length [] ls l = ap length l
    same_length (u ∷ us) [] l = absurd l
    same_length (u ∷ us) (by ∷ ls) l = let f : length ls ≡ length us = same_length us ls l.1 in omega (arith, f)

    after : (q : Bool) → q ≡ true → and_then (bool_ok q) (all_of (λ p. tested_unit (spot_side cs cases lower) known.spots others p.0 p.1) (zip others free)) ≡ Ok b → b ≡ true
    after true f g = all_honest (λ p. tested_unit (spot_side cs cases lower) known.spots others p.0 p.1) (zip others free) b (each others free chosen lists) g
    after false f g = cc

    honest : tested_free (spot_side cs cases lower) known.spots others free ≡ Ok b → b ≡ true
    honest f = after (length free == length others) (eq-eqb (length free) (length others) (same_length others free lists)) f
