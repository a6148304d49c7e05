-- A calm question of goals: the test of what the search finds stays within 128 bits.
use Rattle.std.proofs.Common.{◌≡◌, ◌≢◌, ℕ, suc, ◌+◌, ◌*◌, ◌^◌, ◌<◌, ◌≤◌, Bool, true, false, cond, List, [], ◌∷◌, length, get_or, Result, Ok, Err, refl, sym, ap, subst, ◌∙◌, arith, ⊎_elim, ℤ, pos, negsuc, ◌+ℤ◌, ◌*ℤ◌, ◌<ℤ◌}
use Rattle.std.specs.Prelude.{unsigned_abs, slice_get, Some, ◌==◌, ◌&&◌, nat_eq, int_le, int_lt}
use Rattle.std.specs.Int.{int_div_euclid}
use Rattle.std.specs.List.{AllByRecursion}
use Rattle.std.specs.Map.{keys_of}
use Rattle.std.proofs.lemmas.Int.{ints, unsigned_abs-mul}
use Rattle.std.proofs.lemmas.Bool.{cases_eq, eq-eqb, ne_eqb}
use Rattle.std.proofs.lemmas.List.Elements.{recursion_from_All}
use Rattle.std.proofs.Math.Nat.{one-mul, mul-one, mul-le-mul_right, div-le_self}
use Rattle.items.specs.Gives.{◌>>=◌}
use Rattle.whole_numbers.specs.declared.wide.Wide as Step
use Rattle.whole_numbers.specs.Fits.{sum_of, product_of}
use Rattle.whole_numbers.proofs.Ring.{*ℤ_cancel, *ℤ_assoc, *ℤ_right_comm, sum_of-value, product_of-value, unsigned_abs-+ℤ}
use Rattle.linear_terms.specs.declared.col.Col.{Col}
use Rattle.linear_terms.specs.declared.row.Kind.TheVariants.{AtMost}
use Rattle.linear_terms.specs.declared.row.Row.{Row}
use Rattle.linear_terms.specs.Polynomial.{Terms, Polynomial, coefficient_in, IsCanonical}
use Rattle.farkas_check.specs.Columns.{monos_of}
use Rattle.farkas_check.specs.Calm.{IsCalmGoal}
use Rattle.farkas_check.specs.Frames.{IsCalmUpTo, frame_of}
use Rattle.farkas_check.specs.Kept.{IsCanonicalGoal}
use Rattle.farkas_check.specs.Multiples.{Form, number_at as coefficient_at, constant_in, sums_at, constant_sum, sum_of_multiples, are_multipliers, scaled_coefficients, scaled_less, scaled_form, same_form}
use Rattle.farkas_check.specs.Parts.{and_then}
use Rattle.farkas_check.specs.Points.{ratio_at, ratio_value, slope_at, meets}
use Rattle.farkas_check.specs.Rational.{terms_at}
use Rattle.farkas_check.specs.Ratios.{Fraction, whole, is_at_least}
use Rattle.farkas_check.specs.Sizes.{row_polys}
use Rattle.farkas_check.specs.Tested.{goal_columns, tested_sum, tested_below, tested_cert, tested_point, tested_reached, tested_ray}
use Rattle.farkas_check.specs.declared.answer.Cert.{Cert}
use Rattle.farkas_check.specs.declared.question.Goal.{Goal}
use Rattle.farkas_check.proofs.Farkas.{bool_ok}
use Rattle.farkas_check.proofs.Spreads.{AreAmong, rows_among, terms_among}
use Rattle.farkas_check.proofs.Walks.{IsOrdered-columns}
use Rattle.simplex.specs.Calm.{HasSmallLines}
use Rattle.simplex.specs.Exchange.{numbers_of, choices_of, IsTableauOf}
use Rattle.simplex.specs.Raise.{sign_of}
use Rattle.simplex.specs.Refusal.{IsSmallFrame}
use Rattle.simplex.specs.Rows.{kinds_of, framed_tableau}
use Rattle.simplex.specs.Search.{IsMet, IsCornerOf}
use Rattle.simplex.specs.Suprema.{with_goal, goal_frame, IsOpened, SlopeAt, IsRayOf}
use Rattle.simplex.specs.declared.tableau.Tableau.{Tableau}
use Rattle.simplex.proofs.BoundCertificates.{IsCertificate}
use Rattle.simplex.proofs.Calmness.{small_frame, small_column, HasSmallColumn, moved_part, moved_parts}
use Rattle.simplex.proofs.Corners.{moved}
use Rattle.simplex.proofs.RowTableaux.{kinds-length}
use Rattle.simplex.proofs.Moves.{shift_own}
use Rattle.simplex.proofs.Objectives.{more_rows}
use Rattle.simplex.proofs.Rays.{ray_shift, slope_stands, IsRayColumn, ray_column}
use Rattle.simplex.proofs.GoalCorners.{slice_before, slice_goal}
use Rattle.simplex.proofs.Small.{HasValue, bind_value, product-small, product_of-fits, sum_of-fits}
use Rattle.simplex.proofs.RowCorners.{over-positive, numbered, all_at, each_row}
use Rattle.simplex.proofs.Tame.{own_small, column_small, constants_small, sums_at-fits, all_entries, products_small, second_part, no_error, ratio_each, numbered_small, IsSmallPoly, small_poly, value-fits, meets-fit, corner_ratio, bottom_above}
use Rattle.simplex.proofs.Widths.{IsRatio, EachRatio, IsShare, shared, factor_small, sum_from-fits, slope-ratio}

-- ---- the frame of a calm goal

same_polys : (rows : List Row) (p : Polynomial) → row_polys rows (p ∷ []) ≡ row_polys (with_goal rows p) []
same_polys [] p = refl
same_polys (row ∷ rows) p = ap (λ ps. row.poly ∷ ps) (same_polys rows p)

pub goal_calm : (goal : Goal) → IsCalmGoal goal → IsCalmUpTo 1099511627776 (frame_of (goal_columns goal) (row_polys (with_goal goal.rows goal.objective) []))
goal_calm goal c = subst (λ ps. IsCalmUpTo 1099511627776 (frame_of (goal_columns goal) ps)) (same_polys goal.rows goal.objective) c.calm

pub goal_small : (goal : Goal) → IsCalmGoal goal → IsSmallFrame 1099511627776 (goal_frame goal) (length goal.rows + 1)
goal_small goal c = subst (λ (n : ℕ). IsSmallFrame 1099511627776 (goal_frame goal) n) (more_rows goal.rows goal.objective) (small_frame 1099511627776 (goal_columns goal) (with_goal goal.rows goal.objective) (goal_calm goal c))

own_lines : (goal : Goal) → IsCalmGoal goal → HasSmallLines 1099511627776 (framed_tableau (goal_columns goal) (with_goal goal.rows goal.objective))
own_lines goal c = own_small 1099511627776 (goal_columns goal) (with_goal goal.rows goal.objective) (small_frame 1099511627776 (goal_columns goal) (with_goal goal.rows goal.objective) (goal_calm goal c))

all_before : (P : Row → Type 0) (rows : List Row) (p : Polynomial) → AllByRecursion P (with_goal rows p) → AllByRecursion P rows
all_before P [] p h = tt
all_before P (row ∷ rows) p h = (h.0, all_before P rows p h.1)

room : (k : ℕ) → k ≤ 4294967295 → k * (1099511627776 * 1099511627776) + 1099511627776 * 1099511627776 < 2 ^ 127
room k h = let few : k * (1099511627776 * 1099511627776) ≤ 4294967295 * (1099511627776 * 1099511627776) = mul-le-mul_right (1099511627776 * 1099511627776) h in omega (arith, few)

fewer : (a b : ℕ) → a + b < 2 ^ 127 → a < 2 ^ 127
fewer a b h = omega (arith, h)

pub both_parts : (part others : Result Bool Step.Wide) (w : Step.Wide) → (part ≡ Err w → ⊥) → (others ≡ Err w → ⊥) → and_then part others ≡ Err w → ⊥
both_parts (Ok true) others w p q e = q e
both_parts (Ok false) others w p q e = cc
both_parts (Err v) others w p q e = p e

-- ---- certificates

-- a certificate whose numbers are all small
pub record IsSmallCert (n : ℕ) (cert : Cert) : Type 0 where
  pub scale : unsigned_abs cert.scale ≤ n
  pub sum : unsigned_abs cert.sum ≤ n
  pub by : AllByRecursion (λ m. unsigned_abs m ≤ n) cert.by

pub cert_small : (n constants goal : ℕ) (t : Tableau) (cert : Cert) → HasSmallLines n t → IsCertificate constants goal (get_or t.lines goal []) cert → length cert.by ≡ goal → IsSmallCert n cert
cert_small n constants goal t cert small c each = record {
  scale = subst (λ (z : ℤ). unsigned_abs z ≤ n) (sym c.scale) (small goal (constants + 1 + goal));
  sum = subst (λ (z : ℤ). unsigned_abs z ≤ n) (sym c.sum) (small goal constants);
  by = all_entries (λ z. unsigned_abs z ≤ n) cert.by (λ l h. subst (λ (z : ℤ). unsigned_abs z ≤ n) (sym (c.by l (subst (λ (x : ℕ). l < x) each h))) (subst (λ (x : ℕ). x ≤ n) (sym (unsigned_abs-mul (numbers_of t goal (constants + 1 + l)) (negsuc 0) ∙ mul-one (unsigned_abs (numbers_of t goal (constants + 1 + l))))) (small goal (constants + 1 + l))));
}

pub scaled_at-fits : (n : ℕ) (scale : ℤ) (terms : Terms) (cs : List (List Col)) → unsigned_abs scale ≤ n → ((j : ℕ) → j < length cs → unsigned_abs (coefficient_in terms (get_or cs j [])) ≤ n) → n * n < 2 ^ 127 → HasValue (scaled_coefficients scale terms cs)
scaled_at-fits n scale terms [] s f h = ([], refl)
scaled_at-fits n scale terms (c ∷ cs) s f h =
    bind_value (product_of scale (coefficient_in terms c)) (λ z. scaled_coefficients scale terms cs >>= λ more. numbers_ok (z ∷ more)) (scale *ℤ coefficient_in terms c, product_of-fits scale (coefficient_in terms c) (let g : unsigned_abs (scale *ℤ coefficient_in terms c) ≤ n * n = product-small n n scale (coefficient_in terms c) s (f 0 (omega arith)) in omega (arith, g, h)))
    (λ z e. rest z (scaled_at-fits n scale terms cs s (λ j g. f (suc j) (omega (arith, g))) h))
  where
    numbers_ok : List ℤ → Result (List ℤ) Step.Wide
    numbers_ok ns = Ok ns

    rest : (z : ℤ) → HasValue (scaled_coefficients scale terms cs) → HasValue (scaled_coefficients scale terms cs >>= λ more. numbers_ok (z ∷ more))
    rest z v = bind_value (scaled_coefficients scale terms cs) (λ more. numbers_ok (z ∷ more)) v (λ more e. (z ∷ more, refl))

pub scaled_less-fits : (scale rest less : ℤ) → unsigned_abs scale ≤ 1099511627776 → unsigned_abs rest ≤ 1099511627776 → unsigned_abs less ≤ 1099511627776 → HasValue (scaled_less scale rest less)
scaled_less-fits scale rest less s r l =
    let left_small : unsigned_abs (scale *ℤ rest) ≤ 1099511627776 * 1099511627776 = product-small 1099511627776 1099511627776 scale rest s r in
    let right_small : unsigned_abs (less *ℤ negsuc 0) ≤ 1099511627776 * 1 = product-small 1099511627776 1 less (negsuc 0) l (omega (arith, ints)) in
    bind_value (product_of scale rest) (λ left. product_of less (negsuc 0) >>= λ right. sum_of left right) (scale *ℤ rest, product_of-fits scale rest (omega (arith, left_small)))
    (λ left e. bind_value (product_of less (negsuc 0)) (λ right. sum_of left right) (less *ℤ negsuc 0, product_of-fits less (negsuc 0) (omega (arith, right_small)))
    (λ right f. added left right (subst (λ (z : ℤ). unsigned_abs z ≤ 1099511627776 * 1099511627776) (sym (product_of-value scale rest left e)) left_small) (subst (λ (z : ℤ). unsigned_abs z ≤ 1099511627776 * 1) (sym (product_of-value less (negsuc 0) right f)) right_small)))
  where
    added : (left right : ℤ) → unsigned_abs left ≤ 1099511627776 * 1099511627776 → unsigned_abs right ≤ 1099511627776 * 1 → HasValue (sum_of left right)
    added left right p q = (left +ℤ right, sum_of-fits left right (let g : unsigned_abs (left +ℤ right) ≤ unsigned_abs left + unsigned_abs right = unsigned_abs-+ℤ left right in omega (arith, g, p, q)))

pub floor-small : (z d : ℤ) → pos 0 <ℤ d → unsigned_abs (int_div_euclid z d) ≤ unsigned_abs z
floor-small (pos a) (pos b) h = div-le_self a b
floor-small (pos a) (negsuc b) h = absurd (omega (arith, ints, h))
floor-small (negsuc a) (pos b) h = let g = div-le_self a b in omega (arith, g)
floor-small (negsuc a) (negsuc b) h = absurd (omega (arith, ints, h))

pub below-fits : (at : ℤ) (cert : Cert) → unsigned_abs at ≤ 1099511627776 → unsigned_abs cert.scale ≤ 1099511627776 → HasValue (tested_below at cert)
below-fits at cert a s =
    let next_small : unsigned_abs (at +ℤ pos 1) ≤ unsigned_abs at + 1 = unsigned_abs-+ℤ at (pos 1) in
    bind_value (sum_of at (pos 1)) (λ next. product_of cert.scale next >>= λ limit. sum_of limit (negsuc 0) >>= λ most. bool_ok (int_le cert.sum most)) (at +ℤ pos 1, sum_of-fits at (pos 1) (omega (arith, next_small, a)))
    (λ next e. with_next next (subst (λ (z : ℤ). unsigned_abs z ≤ 1099511627777) (sym (sum_of-value at (pos 1) next e)) (omega (arith, next_small, a))))
  where
    with_limit : (limit : ℤ) → unsigned_abs limit ≤ 1099511627776 * 1099511627777 → HasValue (sum_of limit (negsuc 0) >>= λ most. bool_ok (int_le cert.sum most))
    with_limit limit l =
        let less : unsigned_abs (limit +ℤ negsuc 0) ≤ unsigned_abs limit + 1 = unsigned_abs-+ℤ limit (negsuc 0) in
        bind_value (sum_of limit (negsuc 0)) (λ most. bool_ok (int_le cert.sum most)) (limit +ℤ negsuc 0, sum_of-fits limit (negsuc 0) (omega (arith, less, l))) (λ most e. (int_le cert.sum most, refl))

    with_next : (next : ℤ) → unsigned_abs next ≤ 1099511627777 → HasValue (product_of cert.scale next >>= λ limit. sum_of limit (negsuc 0) >>= λ most. bool_ok (int_le cert.sum most))
    with_next next n =
        let product_small : unsigned_abs (cert.scale *ℤ next) ≤ 1099511627776 * 1099511627777 = product-small 1099511627776 1099511627777 cert.scale next s n in
        bind_value (product_of cert.scale next) (λ limit. sum_of limit (negsuc 0) >>= λ most. bool_ok (int_le cert.sum most)) (cert.scale *ℤ next, product_of-fits cert.scale next (omega (arith, product_small)))
        (λ limit e. with_limit limit (subst (λ (z : ℤ). unsigned_abs z ≤ 1099511627776 * 1099511627777) (sym (product_of-value cert.scale next limit e)) product_small))

abbrev pub form_ok : Form → Result Form Step.Wide
form_ok form = Ok form

sum-fits : (goal : Goal) (cert : Cert) → IsCalmGoal goal → IsSmallCert 1099511627776 cert → HasValue (tested_sum goal cert)
sum-fits goal cert c s =
    bind_value (sum_of_multiples goal.rows cert.by (goal_columns goal)) (λ left. scaled_form cert.scale cert.sum goal.objective (goal_columns goal) >>= λ right. bool_ok (same_form left right)) multiples
    (λ left e. bind_value (scaled_form cert.scale cert.sum goal.objective (goal_columns goal)) (λ right. bool_ok (same_form left right)) multiple (λ right f. (same_form left right, refl)))
  where
    enough : length goal.rows * (1099511627776 * 1099511627776) < 2 ^ 127
    enough = fewer (length goal.rows * (1099511627776 * 1099511627776)) (1099511627776 * 1099511627776) (room (length goal.rows) c.few_rows)

    numbers_at : (j : ℕ) → j < length (goal_columns goal) → AllByRecursion (λ (row : Row). unsigned_abs (coefficient_at (get_or (goal_columns goal) j []) row) ≤ 1099511627776) (with_goal goal.rows goal.objective)
    numbers_at j h = column_small 1099511627776 (goal_columns goal) (with_goal goal.rows goal.objective) j (own_lines goal c) h

    constants : AllByRecursion (λ (row : Row). unsigned_abs (constant_in row) ≤ 1099511627776) (with_goal goal.rows goal.objective)
    constants = constants_small 1099511627776 (goal_columns goal) (with_goal goal.rows goal.objective) (own_lines goal c)

    multiples : HasValue (sum_of_multiples goal.rows cert.by (goal_columns goal))
    multiples =
        bind_value (sums_at goal.rows cert.by (goal_columns goal)) (λ numbers. constant_sum goal.rows cert.by >>= λ rest. form_ok (record { numbers = numbers; rest = rest }))
        (sums_at-fits 1099511627776 goal.rows cert.by (goal_columns goal) (λ j h. all_before (λ (row : Row). unsigned_abs (coefficient_at (get_or (goal_columns goal) j []) row) ≤ 1099511627776) goal.rows goal.objective (numbers_at j h)) s.by enough)
        (λ numbers e. bind_value (constant_sum goal.rows cert.by) (λ rest. form_ok (record { numbers = numbers; rest = rest }))
        (sum_from-fits 1099511627776 0 constant_in (pos 0) goal.rows cert.by (all_before (λ (row : Row). unsigned_abs (constant_in row) ≤ 1099511627776) goal.rows goal.objective constants) s.by (omega arith) (omega (arith, enough))) (λ rest f. (record { numbers = numbers; rest = rest }, refl)))

    multiple : HasValue (scaled_form cert.scale cert.sum goal.objective (goal_columns goal))
    multiple =
        bind_value (scaled_coefficients cert.scale goal.objective.terms (goal_columns goal)) (λ numbers. scaled_less cert.scale goal.objective.rest cert.sum >>= λ rest. form_ok (record { numbers = numbers; rest = rest }))
        (scaled_at-fits 1099511627776 cert.scale goal.objective.terms (goal_columns goal) s.scale
        (λ j h. all_at (λ (row : Row). unsigned_abs (coefficient_at (get_or (goal_columns goal) j []) row) ≤ 1099511627776) (with_goal goal.rows goal.objective) (length goal.rows) (record { poly = goal.objective; kind = AtMost }) (numbers_at j h) (slice_goal goal.rows goal.objective)) (omega arith))
        (λ numbers e. bind_value (scaled_less cert.scale goal.objective.rest cert.sum) (λ rest. form_ok (record { numbers = numbers; rest = rest }))
        (scaled_less-fits cert.scale goal.objective.rest cert.sum s.scale (all_at (λ (row : Row). unsigned_abs (constant_in row) ≤ 1099511627776) (with_goal goal.rows goal.objective) (length goal.rows) (record { poly = goal.objective; kind = AtMost }) constants (slice_goal goal.rows goal.objective)) s.sum) (λ rest f. (record { numbers = numbers; rest = rest }, refl)))

pub cert-calm : (goal : Goal) (cert : Cert) (at : ℤ) (w : Step.Wide) → IsCalmGoal goal → IsSmallCert 1099511627776 cert → unsigned_abs at ≤ 1099511627776 → tested_cert at goal cert ≡ Err w → ⊥
cert-calm goal cert at w c s a e =
    second_part (are_multipliers goal.rows cert.by && int_le (pos 1) cert.scale) (and_then (tested_sum goal cert) (tested_below at cert)) w
    (λ f. both_parts (tested_sum goal cert) (tested_below at cert) w (no_error (tested_sum goal cert) w (sum-fits goal cert c s)) (no_error (tested_below at cert) w (below-fits at cert a s.scale)) f) e

-- ---- points

-- the value of a polynomial of the frame at the corner
point-fits : (goal : Goal) (enters : List Bool) (t : Tableau) (point : List Fraction) (l : ℕ) (row : Row) → IsCalmGoal goal → IsMet (goal_frame goal) (length (goal_columns goal)) (kinds_of (with_goal goal.rows goal.objective)) enters t → IsCornerOf t (length (goal_columns goal)) (length (goal_columns goal)) point
    → slice_get (with_goal goal.rows goal.objective) l ≡ Some row → IsCanonical row.poly.terms → AreAmong (keys_of row.poly.terms) (goal_columns goal)
    → (v : Fraction) × ((ratio_value (ratio_at (goal_columns goal) point) row.poly ≡ Ok v) × (unsigned_abs v.den ≤ 1099511627776))
point-fits goal enters t point l row calm k c here canonical among = with_value
    (value-fits 1099511627776 (goal_columns goal) (ratio_at (goal_columns goal) point) (numbered (goal_columns goal) x) column.bottom row.poly above column.bottom_small each sizes
    (small_poly 1099511627776 (goal_columns goal) (with_goal goal.rows goal.objective) l row (IsOrdered-columns (monos_of goal.rows goal.objective.terms)) (own_lines goal calm) here canonical among)
    (room (length (goal_columns goal)) calm.few_columns) (omega arith))
  where
    many : length t.lines ≡ length (with_goal goal.rows goal.objective)
    many = sym k.placed.marked.sized.many ∙ kinds-length (with_goal goal.rows goal.objective)

    s : IsTableauOf (length (goal_columns goal) + 1) (numbers_of (framed_tableau (goal_columns goal) (with_goal goal.rows goal.objective))) t
    s = k.placed.marked.sized.tableau

    column : HasSmallColumn 1099511627776 t (length (goal_columns goal))
    column = small_column 1099511627776 (goal_columns goal) (with_goal goal.rows goal.objective) t (length (goal_columns goal)) (goal_calm goal calm) many s (omega arith)

    above : pos 0 <ℤ column.bottom
    above = bottom_above 1099511627776 t (length (goal_columns goal)) column (over-positive (length t.lines) (λ i. numbers_of t i (choices_of t i)) (λ i h. s.is.own i h))

    x : ℕ → ℤ
    x = moved_part 1099511627776 t (length (goal_columns goal)) column

    apart : (j : ℕ) → j < length (goal_columns goal) → j ≢ length (goal_columns goal)
    apart j h same = absurd (omega (arith, h, same))

    each : EachRatio (ratio_at (goal_columns goal) point) (numbered (goal_columns goal) x) column.bottom
    each m = ratio_each (goal_columns goal) point x column.bottom m c.each (λ j h. corner_ratio 1099511627776 (goal_frame goal) t (length (goal_columns goal)) j (get_or point j (whole (pos 0))) column s (apart j h) (c.same j h))

    sizes : (m : List Col) → unsigned_abs (numbered (goal_columns goal) x m) ≤ 1099511627776
    sizes m = numbered_small 1099511627776 (goal_columns goal) x m (λ j h. (moved_parts 1099511627776 (goal_frame goal) t (length (goal_columns goal)) j column s (λ same. apart j h (sym same))).small)

    with_value : ((r : Fraction) × ((ratio_value (ratio_at (goal_columns goal) point) row.poly ≡ Ok r) × IsRatio r (terms_at (numbered (goal_columns goal) x) row.poly.terms +ℤ row.poly.rest *ℤ column.bottom) column.bottom)) → (v : Fraction) × ((ratio_value (ratio_at (goal_columns goal) point) row.poly ≡ Ok v) × (unsigned_abs v.den ≤ 1099511627776))
    with_value v = (v.0, (v.1.0, den_small (shared v.0 (terms_at (numbered (goal_columns goal) x) row.poly.terms +ℤ row.poly.rest *ℤ column.bottom) column.bottom above v.1.1)))
      where
        den_small : IsShare v.0 (terms_at (numbered (goal_columns goal) x) row.poly.terms +ℤ row.poly.rest *ℤ column.bottom) column.bottom → unsigned_abs v.0.den ≤ 1099511627776
        den_small f = let g : unsigned_abs v.0.den ≤ unsigned_abs column.bottom = factor_small v.0.den f.times column.bottom f.positive f.den in let h : unsigned_abs column.bottom ≤ 1099511627776 = column.bottom_small in omega (arith, g, h)

rows_canonical : (goal : Goal) (l : ℕ) (row : Row) → IsCanonicalGoal goal → slice_get goal.rows l ≡ Some row → IsCanonical row.poly.terms
rows_canonical goal l row k here = all_at (λ (r : Row). IsCanonical r.poly.terms) goal.rows l row (recursion_from_All (λ (r : Row). IsCanonical r.poly.terms) goal.rows k.rows) here

rows_inside : (goal : Goal) (l : ℕ) (row : Row) → slice_get goal.rows l ≡ Some row → AreAmong (keys_of row.poly.terms) (goal_columns goal)
rows_inside goal l row here = all_at (λ (r : Row). AreAmong (keys_of r.poly.terms) (goal_columns goal)) goal.rows l row (rows_among goal.rows goal.objective.terms) here

pub point-calm : (goal : Goal) (enters : List Bool) (t : Tableau) (point : List Fraction) (w : Step.Wide) → IsCanonicalGoal goal → IsCalmGoal goal → IsMet (goal_frame goal) (length (goal_columns goal)) (kinds_of (with_goal goal.rows goal.objective)) enters t → IsCornerOf t (length (goal_columns goal)) (length (goal_columns goal)) point → tested_point goal point ≡ Err w → ⊥
point-calm goal enters t point w canonical calm k c e =
    second_part (length point == length (goal_columns goal)) (meets (ratio_value (ratio_at (goal_columns goal) point)) goal.rows) w
    (meets-fit (ratio_value (ratio_at (goal_columns goal) point)) goal.rows w (each_row (λ (row : Row). HasValue (ratio_value (ratio_at (goal_columns goal) point) row.poly)) goal.rows
    (λ l row here. value_of row (point-fits goal enters t point l row calm k c (slice_before goal.rows goal.objective l row here) (rows_canonical goal l row canonical here) (rows_inside goal l row here))))) e
  where
    value_of : (row : Row) → ((v : Fraction) × ((ratio_value (ratio_at (goal_columns goal) point) row.poly ≡ Ok v) × (unsigned_abs v.den ≤ 1099511627776))) → HasValue (ratio_value (ratio_at (goal_columns goal) point) row.poly)
    value_of row v = (v.0, v.1.0)

pub reached-calm : (goal : Goal) (enters : List Bool) (t : Tableau) (point : List Fraction) (at : ℤ) (w : Step.Wide) → IsCanonicalGoal goal → IsCalmGoal goal → IsMet (goal_frame goal) (length (goal_columns goal)) (kinds_of (with_goal goal.rows goal.objective)) enters t → IsCornerOf t (length (goal_columns goal)) (length (goal_columns goal)) point → unsigned_abs at ≤ 1099511627776 → tested_reached at goal point ≡ Err w → ⊥
reached-calm goal enters t point at w canonical calm k c a e =
    both_parts (tested_point goal point) (ratio_value (ratio_at (goal_columns goal) point) goal.objective >>= λ v. is_at_least v at) w (λ f. point-calm goal enters t point w canonical calm k c f)
    (no_error (ratio_value (ratio_at (goal_columns goal) point) goal.objective >>= λ v. is_at_least v at) w
    (compared (point-fits goal enters t point (length goal.rows) (record { poly = goal.objective; kind = AtMost }) calm k c (slice_goal goal.rows goal.objective) canonical.objective (terms_among goal.rows goal.objective.terms)))) e
  where
    compared : ((v : Fraction) × ((ratio_value (ratio_at (goal_columns goal) point) goal.objective ≡ Ok v) × (unsigned_abs v.den ≤ 1099511627776))) → HasValue (ratio_value (ratio_at (goal_columns goal) point) goal.objective >>= λ v. is_at_least v at)
    compared v =
        let small : unsigned_abs (at *ℤ v.0.den) ≤ 1099511627776 * 1099511627776 = product-small 1099511627776 1099511627776 at v.0.den a v.1.1 in (
          int_le (at *ℤ v.0.den) v.0.num,
          ap (λ (r : Result Fraction Step.Wide). r >>= λ u. is_at_least u at) v.1.0
              ∙ ap (λ (r : Result ℤ Step.Wide). r >>= λ bound. bool_ok (int_le bound v.0.num)) (product_of-fits at v.0.den (omega (arith, small))),
        )

-- ---- rays

sign_small : (up : Bool) (z : ℤ) (n : ℕ) → unsigned_abs z ≤ n → unsigned_abs (sign_of up *ℤ z) ≤ n
sign_small true z n h = subst (λ (x : ℕ). x ≤ n) (sym (unsigned_abs-mul (pos 1) z ∙ one-mul (unsigned_abs z))) h
sign_small false z n h = subst (λ (x : ℕ). x ≤ n) (sym (unsigned_abs-mul (negsuc 0) z ∙ one-mul (unsigned_abs z))) h

-- what the ray has at a column, over the least common denominator
abbrev ray_part : (n : ℕ) (t : Tableau) (column : ℕ) → Bool → HasSmallColumn n t column → ℕ → ℤ
ray_part n t column up c j = sign_of up *ℤ cond (nat_eq j column) c.bottom (moved_part n t column c j)

ray_part-is : (n : ℕ) (goal : Goal) (t : Tableau) (column : ℕ) (up : Bool) (j : ℕ) (c : HasSmallColumn n t column) → IsTableauOf (length (goal_columns goal) + 1) (numbers_of (framed_tableau (goal_columns goal) (with_goal goal.rows goal.objective))) t → ((k : ℕ) → k < length t.lines → choices_of t k ≢ column) → ray_part n t column up c j *ℤ c.common ≡ ray_shift t column up j
ray_part-is n goal t column up j c s free =
    *ℤ_assoc (sign_of up) (cond (nat_eq j column) c.bottom (moved_part n t column c j)) c.common
    ∙ ap (λ z. sign_of up *ℤ z)
    (⊎_elim (λ (same : j ≡ column). ap (λ (b : Bool). cond b c.bottom (moved_part n t column c j) *ℤ c.common) (eq-eqb j column same) ∙ c.bottom_is ∙ sym (ap (moved (length t.lines) (numbers_of t) (choices_of t) column) same ∙ shift_own t column free))
    (λ apart. ap (λ (b : Bool). cond b c.bottom (moved_part n t column c j) *ℤ c.common) (ne_eqb j column apart) ∙ (moved_parts n (goal_frame goal) t column j c s (λ e. apart (sym e))).is) (cases_eq j column))

ray_part-small : (n : ℕ) (goal : Goal) (t : Tableau) (column : ℕ) (up : Bool) (j : ℕ) (c : HasSmallColumn n t column) → IsTableauOf (length (goal_columns goal) + 1) (numbers_of (framed_tableau (goal_columns goal) (with_goal goal.rows goal.objective))) t → unsigned_abs (ray_part n t column up c j) ≤ n
ray_part-small n goal t column up j c s = sign_small up (cond (nat_eq j column) c.bottom (moved_part n t column c j)) n
    (⊎_elim (λ (same : j ≡ column). subst (λ (b : Bool). unsigned_abs (cond b c.bottom (moved_part n t column c j)) ≤ n) (sym (eq-eqb j column same)) c.bottom_small)
    (λ apart. subst (λ (b : Bool). unsigned_abs (cond b c.bottom (moved_part n t column c j)) ≤ n) (sym (ne_eqb j column apart)) (moved_parts n (goal_frame goal) t column j c s (λ e. apart (sym e))).small) (cases_eq j column))

ray_ratio : (n : ℕ) (goal : Goal) (t : Tableau) (column : ℕ) (up : Bool) (j : ℕ) (r : Fraction) (c : HasSmallColumn n t column) → IsTableauOf (length (goal_columns goal) + 1) (numbers_of (framed_tableau (goal_columns goal) (with_goal goal.rows goal.objective))) t → ((k : ℕ) → k < length t.lines → choices_of t k ≢ column) → SlopeAt t column up j r → IsRatio r (ray_part n t column up c j) c.bottom
ray_ratio n goal t column up j r c s free k = record {
  stands = record {
    same = *ℤ_cancel (r.num *ℤ c.bottom) (ray_part n t column up c j *ℤ r.den) c.common c.above
        (*ℤ_assoc r.num c.bottom c.common ∙ ap (λ z. r.num *ℤ z) c.bottom_is ∙ (slope_stands (goal_frame goal) t column up j r s free k).same ∙ ap (λ z. z *ℤ r.den) (sym (ray_part-is n goal t column up j c s free)) ∙ *ℤ_right_comm (ray_part n t column up c j) c.common r.den);
    positive = k.lowest.positive;
  };
  lowest = k.lowest;
}

-- the slope of a polynomial of the frame along the ray
slope-fits : (goal : Goal) (enters : List Bool) (t : Tableau) (column : ℕ) (up : Bool) (ray : List Fraction) (l : ℕ) (row : Row) → IsCalmGoal goal → IsOpened (goal_frame goal) (length (goal_columns goal)) (kinds_of (with_goal goal.rows goal.objective)) enters column up t → IsRayOf t column up (length (goal_columns goal)) ray
    → slice_get (with_goal goal.rows goal.objective) l ≡ Some row → IsCanonical row.poly.terms → AreAmong (keys_of row.poly.terms) (goal_columns goal) → HasValue (slope_at (ratio_at (goal_columns goal) ray) row.poly)
slope-fits goal enters t column up ray l row calm o r here canonical among = with_poly
    (small_poly 1099511627776 (goal_columns goal) (with_goal goal.rows goal.objective) l row (IsOrdered-columns (monos_of goal.rows goal.objective.terms)) (own_lines goal calm) here canonical among)
  where
    k : IsRayColumn goal t column
    k = ray_column goal enters t column up o

    s : IsTableauOf (length (goal_columns goal) + 1) (numbers_of (framed_tableau (goal_columns goal) (with_goal goal.rows goal.objective))) t
    s = o.met.placed.marked.sized.tableau

    c : HasSmallColumn 1099511627776 t column
    c = small_column 1099511627776 (goal_columns goal) (with_goal goal.rows goal.objective) t column (goal_calm goal calm) (k.many ∙ sym (more_rows goal.rows goal.objective)) s k.within

    above : pos 0 <ℤ c.bottom
    above = bottom_above 1099511627776 t column c (over-positive (length t.lines) (λ i. numbers_of t i (choices_of t i)) (λ i h. s.is.own i h))

    x : ℕ → ℤ
    x j = ray_part 1099511627776 t column up c j

    each : EachRatio (ratio_at (goal_columns goal) ray) (numbered (goal_columns goal) x) c.bottom
    each m = ratio_each (goal_columns goal) ray x c.bottom m r.each (λ j h. ray_ratio 1099511627776 goal t column up j (get_or ray j (whole (pos 0))) c s k.free (r.same j h))

    sizes : (m : List Col) → unsigned_abs (numbered (goal_columns goal) x m) ≤ 1099511627776
    sizes m = numbered_small 1099511627776 (goal_columns goal) x m (λ j h. ray_part-small 1099511627776 goal t column up j c s)

    with_poly : IsSmallPoly 1099511627776 (goal_columns goal) row.poly → HasValue (slope_at (ratio_at (goal_columns goal) ray) row.poly)
    with_poly p =
        let many : length row.poly.terms * (1099511627776 * 1099511627776) ≤ length (goal_columns goal) * (1099511627776 * 1099511627776) = mul-le-mul_right (1099511627776 * 1099511627776) p.few in
        let enough : length (goal_columns goal) * (1099511627776 * 1099511627776) + 1099511627776 * 1099511627776 < 2 ^ 127 = room (length (goal_columns goal)) calm.few_columns in
        let bottom : unsigned_abs c.bottom ≤ 1099511627776 = c.bottom_small in
        let v = slope-ratio (ratio_at (goal_columns goal) ray) (numbered (goal_columns goal) x) c.bottom (1099511627776 * 1099511627776) row.poly above each (products_small 1099511627776 (numbered (goal_columns goal) x) row.poly.terms sizes p.terms) (omega (arith, many, enough)) (omega arith) (omega (arith, bottom)) in (v.0, v.1.0)

pub ray-calm : (goal : Goal) (enters : List Bool) (t : Tableau) (column : ℕ) (up : Bool) (ray : List Fraction) (w : Step.Wide) → IsCanonicalGoal goal → IsCalmGoal goal → IsOpened (goal_frame goal) (length (goal_columns goal)) (kinds_of (with_goal goal.rows goal.objective)) enters column up t → IsRayOf t column up (length (goal_columns goal)) ray → tested_ray goal ray ≡ Err w → ⊥
ray-calm goal enters t column up ray w canonical calm o r e =
    both_parts (and_then (bool_ok (length ray == length (goal_columns goal))) (meets (slope_at (ratio_at (goal_columns goal) ray)) goal.rows)) (slope_at (ratio_at (goal_columns goal) ray) goal.objective >>= λ v. bool_ok (int_lt (pos 0) v.num)) w
    (λ f. second_part (length ray == length (goal_columns goal)) (meets (slope_at (ratio_at (goal_columns goal) ray)) goal.rows) w
    (meets-fit (slope_at (ratio_at (goal_columns goal) ray)) goal.rows w (each_row (λ (row : Row). HasValue (slope_at (ratio_at (goal_columns goal) ray) row.poly)) goal.rows
    (λ l row here. slope-fits goal enters t column up ray l row calm o r (slice_before goal.rows goal.objective l row here) (rows_canonical goal l row canonical here) (rows_inside goal l row here)))) f)
    (no_error (slope_at (ratio_at (goal_columns goal) ray) goal.objective >>= λ v. bool_ok (int_lt (pos 0) v.num)) w
    (bind_value (slope_at (ratio_at (goal_columns goal) ray) goal.objective) (λ v. bool_ok (int_lt (pos 0) v.num))
    (slope-fits goal enters t column up ray (length goal.rows) (record { poly = goal.objective; kind = AtMost }) calm o r (slice_goal goal.rows goal.objective) canonical.objective (terms_among goal.rows goal.objective.terms)) (λ v f. (int_lt (pos 0) v.num, refl)))) e
