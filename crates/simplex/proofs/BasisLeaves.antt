-- A step at which the test of a basis ends leaves 128 bits.
use Rattle.std.proofs.Common.{sym, ◌≡◌, ℕ, zero, suc, Bool, true, false, List, [], ◌∷◌, map, Ok, Err, ℤ, pos, negsuc}
use Rattle.std.specs.Prelude.{Result, IfErr, ◌==◌, ◌&&◌, int_le, int_div, nat_lt, unsigned_abs, length}
use Rattle.std.specs.List.{list_all, zip}
use Rattle.std.specs.Ordering.{int_eq}
use Rattle.items.specs.Gives.{◌>>=◌}
use Rattle.items.proofs.Gives.{on_err}
use Rattle.linear_terms.specs.declared.col.Col.{Col}
use Rattle.linear_terms.specs.declared.row.Row.{Row}
use Rattle.linear_terms.specs.Polynomial.{Polynomial}
use Rattle.whole_numbers.specs.Divisors.{gcd_of}
use Rattle.whole_numbers.specs.Fits.{sum_of, product_of}
use Rattle.whole_numbers.specs.declared.wide.Wide as Step
use Rattle.farkas_check.specs.Multiples.{Form, are_multipliers, sum_of_multiples, same_form}
use Rattle.farkas_check.specs.Parts.{and_then}
use Rattle.farkas_check.specs.Points.{ratio_at, ratio_value, meets}
use Rattle.farkas_check.specs.Ratios.{Fraction, whole, common_multiple, ratio_product, ratio_sum}
use Rattle.farkas_check.specs.Relations.{Changes, Side, Term, Lower, One, sides, numbers_of, stratum_columns, unknown_count, with_side, with_sides, coefficient_at, rest_of, difference_numbers, difference_form, is_reduced, free_places}
use Rattle.farkas_check.specs.Stratum.{all_of, multiples_of, multiple_of, scale_times, minus_scale_times, tested_multiple, tested_half, tested_tie, tested_relation, rows_of, spot_value, tested_spot, minus_value, ratio_side_at, spots_from, is_exactly, unit_at, unit_test_at, tested_unit, tested_free, spot_side, has_unknowns, tested_basis, terms_of}
use Rattle.farkas_check.specs.Tested.{outcome}
use Rattle.farkas_check.specs.declared.answer.Answer.{Answer}
use Rattle.farkas_check.specs.declared.answer.Answer.TheVariants as answer
use Rattle.farkas_check.specs.declared.question.Question.TheVariants.{Stratum}
use Rattle.farkas_check.specs.declared.stratum.Change.{Change}
use Rattle.farkas_check.specs.declared.stratum.Relation.{Relation}
use Rattle.farkas_check.specs.declared.stratum.Spot.{Spot}
use Rattle.farkas_check.specs.declared.stratum.Tie.{Tie}
use Rattle.simplex.specs.Refusal.{LeavesBits}
use Rattle.simplex.specs.Spots.{denominator_from, common_denominator}
use Rattle.simplex.proofs.Leaves.{product-leaves, sum-leaves, and_then-leaves, sum_of_multiples-leaves, meets-leaves, ratio_product-leaves, ratio_sum-leaves, ratio_value-leaves}

abbrev numbers_ok : List ℤ → Result (List ℤ) Step.Wide
numbers_ok ns = Ok ns

abbrev form_ok : Form → Result Form Step.Wide
form_ok form = Ok form

abbrev bool_ok : Bool → Result Bool Step.Wide
bool_ok b = Ok b

all_of-leaves : {A : Type 0} (part : A → Result Bool Step.Wide) (xs : List A) (w : Step.Wide) → ((x : A) → part x ≡ Err w → LeavesBits w) → all_of part xs ≡ Err w → LeavesBits w
all_of-leaves part [] w f e = cc
all_of-leaves part (x ∷ xs) w f e = and_then-leaves (part x) (all_of part xs) w (λ g. f x g) (λ g. all_of-leaves part xs w f g) e

-- ---- widths of calls

width_of : {X : Type 0} (r stated : Result X Step.Wide) → r ≡ stated → ((w : Step.Wide) → stated ≡ Err w → LeavesBits w) → IfErr r LeavesBits
width_of (Ok x) stated e f = tt
width_of (Err w) stated e f = f w (sym e)

pub product_of-width : (a b : ℤ) (r : Result ℤ Step.Wide) → r ≡ product_of a b → IfErr r LeavesBits
product_of-width a b r e = width_of r (product_of a b) e (λ w f. product-leaves a b w f)

pub sum_of-width : (a b : ℤ) (r : Result ℤ Step.Wide) → r ≡ sum_of a b → IfErr r LeavesBits
sum_of-width a b r e = width_of r (sum_of a b) e (λ w f. sum-leaves a b w f)

denominator_from-leaves : (common : ℤ) (rs : List Fraction) (w : Step.Wide) → denominator_from common rs ≡ Err w → LeavesBits w
denominator_from-leaves common [] w e = cc
denominator_from-leaves common (r ∷ rs) w e =
    on_err (common_multiple common r.den) (λ next. denominator_from next rs) w e (λ f. product-leaves (int_div common (pos (gcd_of (unsigned_abs common) (unsigned_abs r.den)))) r.den w f)
    (λ next f g. denominator_from-leaves next rs w g)

pub denominator-width : (rs : List Fraction) (r : Result ℤ Step.Wide) → r ≡ common_denominator rs → IfErr r LeavesBits
denominator-width rs r e = width_of r (common_denominator rs) e (λ w f. denominator_from-leaves (pos 1) rs w f)

pub value-width : (cs : List (List Col)) (point : List Fraction) (p : Polynomial) (r : Result Fraction Step.Wide) → r ≡ ratio_value (ratio_at cs point) p → IfErr r LeavesBits
value-width cs point p r e = width_of r (ratio_value (ratio_at cs point) p) e (λ w f. ratio_value-leaves (ratio_at cs point) p w f)

pub sum-width : (a b : Fraction) (r : Result Fraction Step.Wide) → r ≡ ratio_sum a b → IfErr r LeavesBits
sum-width a b r e = width_of r (ratio_sum a b) e (λ w f. ratio_sum-leaves a b w f)

-- ---- ties

with_side-leaves : (value : Polynomial → ℤ) (constant : Bool) (total n : ℤ) (s : Side) (w : Step.Wide) → with_side value constant total n s ≡ Err w → LeavesBits w
with_side-leaves value constant total n (Term p) w e =
    on_err (product_of n (value p)) (λ part. sum_of total part) w e (λ f. product-leaves n (value p) w f) (λ part f g. sum-leaves total part w g)
with_side-leaves value constant total n (Lower p) w e =
    on_err (product_of n (value p)) (λ part. product_of part (negsuc 0) >>= λ less. sum_of total less) w e (λ f. product-leaves n (value p) w f)
    (λ part f g. on_err (product_of part (negsuc 0)) (λ less. sum_of total less) w g (λ h. product-leaves part (negsuc 0) w h) (λ less h k. sum-leaves total less w k))
with_side-leaves value true total n One w e =
    on_err (product_of n (negsuc 0)) (λ less. sum_of total less) w e (λ f. product-leaves n (negsuc 0) w f) (λ less f g. sum-leaves total less w g)
with_side-leaves value false total n One w e = cc

with_sides-leaves : (value : Polynomial → ℤ) (constant : Bool) (total : ℤ) (ns : List ℤ) (ss : List Side) (w : Step.Wide) → with_sides value constant total ns ss ≡ Err w → LeavesBits w
with_sides-leaves value constant total [] ss w e = cc
with_sides-leaves value constant total (n ∷ ns) [] w e = cc
with_sides-leaves value constant total (n ∷ ns) (s ∷ ss) w e =
    on_err (with_side value constant total n s) (λ next. with_sides value constant next ns ss) w e (λ f. with_side-leaves value constant total n s w f) (λ next f g. with_sides-leaves value constant next ns ss w g)

difference_numbers-leaves : (ns : List ℤ) (ss : List Side) (cs : List (List Col)) (w : Step.Wide) → difference_numbers ns ss cs ≡ Err w → LeavesBits w
difference_numbers-leaves ns ss [] w e = cc
difference_numbers-leaves ns ss (c ∷ cs) w e =
    on_err (with_sides (coefficient_at c) false (pos 0) ns ss) (λ number. difference_numbers ns ss cs >>= λ more. numbers_ok (number ∷ more)) w e (λ f. with_sides-leaves (coefficient_at c) false (pos 0) ns ss w f)
    (λ number f g. on_err (difference_numbers ns ss cs) (λ more. numbers_ok (number ∷ more)) w g (λ h. difference_numbers-leaves ns ss cs w h) (λ more h k. cc))

difference_form-leaves : (ns : List ℤ) (ss : List Side) (cs : List (List Col)) (w : Step.Wide) → difference_form ns ss cs ≡ Err w → LeavesBits w
difference_form-leaves ns ss cs w e =
    on_err (difference_numbers ns ss cs) (λ numbers. with_sides rest_of true (pos 0) ns ss >>= λ rest. form_ok (record { numbers = numbers; rest = rest })) w e (λ f. difference_numbers-leaves ns ss cs w f)
    (λ numbers f g. on_err (with_sides rest_of true (pos 0) ns ss) (λ rest. form_ok (record { numbers = numbers; rest = rest })) w g (λ h. with_sides-leaves rest_of true (pos 0) ns ss w h) (λ rest h k. cc))

multiples_of-leaves : (times : ℤ → Result ℤ Step.Wide) (zs : List ℤ) (w : Step.Wide) → ((z : ℤ) → times z ≡ Err w → LeavesBits w) → multiples_of times zs ≡ Err w → LeavesBits w
multiples_of-leaves times [] w t e = cc
multiples_of-leaves times (z ∷ zs) w t e =
    on_err (times z) (λ next. multiples_of times zs >>= λ more. numbers_ok (next ∷ more)) w e (λ f. t z f)
    (λ next f g. on_err (multiples_of times zs) (λ more. numbers_ok (next ∷ more)) w g (λ h. multiples_of-leaves times zs w t h) (λ more h k. cc))

multiple_of-leaves : (times : ℤ → Result ℤ Step.Wide) (form : Form) (w : Step.Wide) → ((z : ℤ) → times z ≡ Err w → LeavesBits w) → multiple_of times form ≡ Err w → LeavesBits w
multiple_of-leaves times form w t e =
    on_err (multiples_of times form.numbers) (λ numbers. times form.rest >>= λ rest. form_ok (record { numbers = numbers; rest = rest })) w e (λ f. multiples_of-leaves times form.numbers w t f)
    (λ numbers f g. on_err (times form.rest) (λ rest. form_ok (record { numbers = numbers; rest = rest })) w g (λ h. t form.rest h) (λ rest h k. cc))

tested_half-leaves : (scaled : ℤ → ℤ → Result ℤ Step.Wide) (cs : List (List Col)) (rows : List Row) (form : Result Form Step.Wide) (scale : ℤ) (by : List ℤ) (w : Step.Wide) → ((z : ℤ) → scaled scale z ≡ Err w → LeavesBits w) → (form ≡ Err w → LeavesBits w)
    → tested_half scaled cs rows form scale by ≡ Err w → LeavesBits w
tested_half-leaves scaled cs rows form scale by w t d e =
    and_then-leaves (bool_ok (are_multipliers rows by && int_le (pos 1) scale)) (tested_multiple (scaled scale) cs rows form by) w (λ f. cc)
    (λ f. on_err (sum_of_multiples rows by cs) (λ left. form >>= λ own. multiple_of (scaled scale) own >>= λ right. bool_ok (same_form left right)) w f (λ g. sum_of_multiples-leaves rows by cs w g)
    (λ left g h. on_err form (λ own. multiple_of (scaled scale) own >>= λ right. bool_ok (same_form left right)) w h d
    (λ own k l. on_err (multiple_of (scaled scale) own) (λ right. bool_ok (same_form left right)) w l (λ m. multiple_of-leaves (scaled scale) own w t m) (λ right m n. cc)))) e

tested_tie-leaves : (cs : List (List Col)) (lower : List Polynomial) (numbers : List ℤ) (case : Change) (tie : Tie) (w : Step.Wide) → tested_tie cs lower numbers case tie ≡ Err w → LeavesBits w
tested_tie-leaves cs lower numbers case tie w e =
    and_then-leaves (tested_half scale_times cs case.rows form tie.up_scale tie.up) (tested_half minus_scale_times cs case.rows form tie.down_scale tie.down) w
    (λ f. tested_half-leaves scale_times cs case.rows form tie.up_scale tie.up w (λ z g. product-leaves tie.up_scale z w g) form_leaves f)
    (λ f. tested_half-leaves minus_scale_times cs case.rows form tie.down_scale tie.down w (λ z g. on_err (product_of tie.down_scale z) (λ part. product_of part (negsuc 0)) w g (λ h. product-leaves tie.down_scale z w h) (λ part h k. product-leaves part (negsuc 0) w k)) form_leaves f) e
  where
    form : Result Form Step.Wide
    form = difference_form numbers (sides case.terms lower) cs

    form_leaves : difference_form numbers (sides case.terms lower) cs ≡ Err w → LeavesBits w
    form_leaves f = difference_form-leaves numbers (sides case.terms lower) cs w f

tested_relation-leaves : (cs : List (List Col)) (cases : List Change) (lower : List Polynomial) (relation : Relation) (w : Step.Wide) → tested_relation cs cases lower relation ≡ Err w → LeavesBits w
tested_relation-leaves cs cases lower relation w e =
    and_then-leaves (bool_ok (length relation.ties == length cases)) (all_of (λ p. tested_tie cs lower (numbers_of relation) p.0 p.1) (zip cases relation.ties)) w (λ f. cc)
    (λ f. all_of-leaves (λ (p : Change × Tie). tested_tie cs lower (numbers_of relation) p.0 p.1) (zip cases relation.ties) w (λ p g. tested_tie-leaves cs lower (numbers_of relation) p.0 p.1 w g) f) e

-- ---- spots and units

tested_spot-leaves : (cs : List (List Col)) (cases : List Change) (spot : Spot) (w : Step.Wide) → tested_spot cs cases spot ≡ Err w → LeavesBits w
tested_spot-leaves cs cases spot w e =
    and_then-leaves (bool_ok (nat_lt spot.case (length cases) && length spot.at == length cs)) (meets (spot_value cs spot) (rows_of cases spot.case)) w (λ f. cc)
    (λ f. meets-leaves (spot_value cs spot) (rows_of cases spot.case) w (λ p g. ratio_value-leaves (ratio_at cs spot.at) p w g) f) e

ratio_side_at-leaves : (value : Polynomial → Result Fraction Step.Wide) (ss : List Side) (place : ℕ) (w : Step.Wide) → ((p : Polynomial) → value p ≡ Err w → LeavesBits w) → ratio_side_at value ss place ≡ Err w → LeavesBits w
ratio_side_at-leaves value [] place w f e = cc
ratio_side_at-leaves value (Term p ∷ ss) zero w f e = f p e
ratio_side_at-leaves value (Lower p ∷ ss) zero w f e = on_err (value p) (λ r. ratio_product r (whole (negsuc 0))) w e (λ g. f p g) (λ r g h. ratio_product-leaves r (whole (negsuc 0)) w h)
ratio_side_at-leaves value (One ∷ ss) zero w f e = cc
ratio_side_at-leaves value (s ∷ ss) (suc place) w f e = ratio_side_at-leaves value ss place w f e

spots_from-leaves : (value : Spot → Result Fraction Step.Wide) (total : Fraction) (spots : List Spot) (by : List Fraction) (w : Step.Wide) → ((spot : Spot) → value spot ≡ Err w → LeavesBits w) → spots_from value total spots by ≡ Err w → LeavesBits w
spots_from-leaves value total [] by w f e = cc
spots_from-leaves value total (spot ∷ spots) [] w f e = cc
spots_from-leaves value total (spot ∷ spots) (r ∷ by) w f e =
    on_err (value spot) (λ v. ratio_product v r >>= λ part. ratio_sum total part >>= λ next. spots_from value next spots by) w e (λ g. f spot g)
    (λ v g h. on_err (ratio_product v r) (λ part. ratio_sum total part >>= λ next. spots_from value next spots by) w h (λ k. ratio_product-leaves v r w k)
    (λ part k l. on_err (ratio_sum total part) (λ next. spots_from value next spots by) w l (λ m. ratio_sum-leaves total part w m) (λ next m n. spots_from-leaves value next spots by w f n)))

tested_at-leaves : (value : Spot → ℕ → Result Fraction Step.Wide) (spots : List Spot) (place : ℕ) (by : List Fraction) (other : ℕ) (w : Step.Wide) → ((spot : Spot) (p : ℕ) → value spot p ≡ Err w → LeavesBits w) → unit_test_at value spots place by other ≡ Err w → LeavesBits w
tested_at-leaves value spots place by other w f e =
    on_err (spots_from (λ spot. value spot other) (whole (pos 0)) spots by) (λ total. is_exactly total (unit_at place other)) w e (λ g. spots_from-leaves (λ spot. value spot other) (whole (pos 0)) spots by w (λ spot h. f spot other h) g)
    (λ total g h. on_err (product_of (unit_at place other) total.den) (λ right. bool_ok (int_eq total.num right)) w h (λ k. product-leaves (unit_at place other) total.den w k) (λ right k l. cc))

tested_free-leaves : (value : Spot → ℕ → Result Fraction Step.Wide) (spots : List Spot) (others : List ℕ) (free : List (List Fraction)) (w : Step.Wide) → ((spot : Spot) (p : ℕ) → value spot p ≡ Err w → LeavesBits w) → tested_free value spots others free ≡ Err w → LeavesBits w
tested_free-leaves value spots others free w f e =
    and_then-leaves (bool_ok (length free == length others)) (all_of (λ p. tested_unit value spots others p.0 p.1) (zip others free)) w (λ g. cc)
    (λ g. all_of-leaves (λ (p : ℕ × List Fraction). tested_unit value spots others p.0 p.1) (zip others free) w
    (λ p h. and_then-leaves (bool_ok (length p.1 == length spots)) (all_of (unit_test_at value spots p.0 p.1) others) w (λ k. cc)
    (λ k. all_of-leaves (unit_test_at value spots p.0 p.1) others w (λ other l. tested_at-leaves value spots p.0 p.1 other w f l) k) h) g) e

spot_side-leaves : (cs : List (List Col)) (cases : List Change) (lower : List Polynomial) (spot : Spot) (place : ℕ) (w : Step.Wide) → spot_side cs cases lower spot place ≡ Err w → LeavesBits w
unfolding spot_side
spot_side-leaves cs cases lower spot place w e = ratio_side_at-leaves (spot_value cs spot) (sides (terms_of cases spot.case) lower) place w (λ p g. ratio_value-leaves (ratio_at cs spot.at) p w g) e

pub minus-width : (cs : List (List Col)) (point : List Fraction) (p : Polynomial) (r : Result Fraction Step.Wide) → r ≡ minus_value (ratio_value (ratio_at cs point)) p → IfErr r LeavesBits
minus-width cs point p r e = width_of r (minus_value (ratio_value (ratio_at cs point)) p) e (λ w f. ratio_side_at-leaves (ratio_value (ratio_at cs point)) (Lower p ∷ []) zero w (λ q g. ratio_value-leaves (ratio_at cs point) q w g) f)

-- ---- all

basis-leaves : (cases : List Change) (lower : List Polynomial) (relations : List Relation) (spots : List Spot) (free : List (List Fraction)) (w : Step.Wide) → tested_basis cases lower relations spots free ≡ Err w → LeavesBits w
basis-leaves cases lower relations spots free w e =
    and_then-leaves (bool_ok (list_all (has_unknowns cases lower) relations && is_reduced (map numbers_of relations)))
    (and_then (all_of (tested_relation cs cases lower) relations) (and_then (all_of (tested_spot cs cases) spots) (tested_free (spot_side cs cases lower) spots others free))) w (λ f. cc)
    (λ f. and_then-leaves (all_of (tested_relation cs cases lower) relations) (and_then (all_of (tested_spot cs cases) spots) (tested_free (spot_side cs cases lower) spots others free)) w
    (λ g. all_of-leaves (tested_relation cs cases lower) relations w (λ relation h. tested_relation-leaves cs cases lower relation w h) g)
    (λ g. and_then-leaves (all_of (tested_spot cs cases) spots) (tested_free (spot_side cs cases lower) spots others free) w
    (λ h. all_of-leaves (tested_spot cs cases) spots w (λ spot k. tested_spot-leaves cs cases spot w k) h)
    (λ h. tested_free-leaves (spot_side cs cases lower) spots others free w (λ spot p k. spot_side-leaves cs cases lower spot p w k) h) g) f) e
  where
    cs : List (List Col)
    cs = stratum_columns cases lower

    others : List ℕ
    others = free_places (map numbers_of relations) (unknown_count cases lower)

pub stratum-leaves : (asked : Changes) (a : Answer) (w : Step.Wide) → outcome (Stratum asked) a ≡ Err w → LeavesBits w
stratum-leaves asked (answer.Yes by) w e = cc
stratum-leaves asked (answer.No point) w e = cc
stratum-leaves asked (answer.Bound at certs case point) w e = cc
stratum-leaves asked (answer.Unbounded case point ray) w e = cc
stratum-leaves asked (answer.Limit l) w e = cc
stratum-leaves asked (answer.Basis relations spots free) w e = basis-leaves asked.cases asked.lower relations spots free w e
