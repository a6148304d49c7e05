-- Where all numbers are short, no step of the test of an answer leaves 128 bits.
use Rattle.std.proofs.Common.{◌≡◌, ℕ, zero, suc, ◌+◌, ◌*◌, ◌^◌, ◌<◌, ◌≤◌, Bool, true, false, cond, List, [], ◌∷◌, length, get_or, Result, Ok, Err, refl, sym, ap, subst, ◌∙◌, arith, ℤ, pos, ◌+ℤ◌, ◌*ℤ◌}
use Rattle.std.specs.Prelude.{unsigned_abs, slice_get, Some, ◌==◌, ◌&&◌, ◌-◌, int_le, int_lt, All}
use Rattle.std.specs.Ordering.{eq_by_cmp}
use Rattle.std.specs.List.{AllByRecursion}
use Rattle.std.proofs.lemmas.Int.{ints}
use Rattle.std.proofs.lemmas.List.Elements.{recursion_from_All}
use Rattle.std.proofs.Math.Nat.{mul-le-mul_right}
use Rattle.items.specs.Gives.{◌>>=◌}
use Rattle.whole_numbers.specs.declared.wide.Wide as Step
use Rattle.linear_terms.specs.declared.col.Col.{Col}
use Rattle.linear_terms.specs.declared.row.Row.{Row}
use Rattle.linear_terms.specs.Mono.{mono_cmp}
use Rattle.linear_terms.specs.Row.{AreCanonical}
use Rattle.linear_terms.specs.Polynomial.{Terms, Polynomial, coefficient_in}
use Rattle.farkas_check.specs.Kept.{IsCanonicalGoal, HasPositive}
use Rattle.farkas_check.specs.Columns.{columns}
use Rattle.farkas_check.specs.Multiples.{number_at as coefficient_at, constant_in, sums_at, constant_sum, sum_of_multiples, are_multipliers, scaled_coefficients, scaled_less, scaled_form, same_form, is_positive_constant}
use Rattle.farkas_check.specs.Parts.{and_then}
use Rattle.farkas_check.specs.Points.{ratio_at, ratio_value, slope_at, meets}
use Rattle.farkas_check.specs.Rational.{terms_at}
use Rattle.farkas_check.specs.Ratios.{Fraction, whole, is_at_least}
use Rattle.farkas_check.specs.Tested.{outcome, goal_columns, tested_yes, tested_no, tested_sum, tested_below, tested_cert, tested_certs, tested_point, tested_reached, tested_ray, of_case}
use Rattle.farkas_check.specs.declared.answer.Answer.{Answer}
use Rattle.farkas_check.specs.declared.answer.Answer.TheVariants as answer
use Rattle.farkas_check.specs.declared.answer.Cert.{Cert}
use Rattle.farkas_check.specs.declared.question.Goal.{Goal}
use Rattle.farkas_check.specs.declared.question.Question.TheVariants.{Infeasible, Sup}
use Rattle.farkas_check.proofs.Farkas.{bool_ok}
use Rattle.farkas_check.proofs.Lowest.{IsLowest-whole}
use Rattle.farkas_check.proofs.PointValues.{Stands, Stands-whole}
use Rattle.simplex.specs.Answers.{IsFoundFor, IsRowsAnswer}
use Rattle.simplex.specs.Goals.{IsFoundAmong, IsGoalsAnswer}
use Rattle.simplex.specs.Shortness.{IsShort, IsShortRatio, IsShortPoly, AreShortRows, IsShortGoal, IsShortCert, IsShortRowsAnswer, IsShortGoalsAnswer}
use Rattle.simplex.proofs.CalmGoals.{both_parts, form_ok, scaled_at-fits, scaled_less-fits, below-fits}
use Rattle.simplex.proofs.Cases.{found_goals, certs_calm, at_place}
use Rattle.simplex.proofs.Honest.{found_answer}
use Rattle.simplex.proofs.Small.{HasValue, bind_value, product-small, product_of-fits}
use Rattle.simplex.proofs.Tame.{no_error, second_part, sums_at-fits, meets-fit, products_small}
use Rattle.simplex.proofs.Widths.{IsRatio, IsShare, shared, factor_small, EachRatio, sum_from-fits, slope-ratio, value-ratio}

room : (k : ℕ) → k ≤ 4294967295 → k * (1099511627776 * 1099511627776) + 1099511627776 * 1099511627776 < 2 ^ 127
room k h = let few : k * (1099511627776 * 1099511627776) ≤ 4294967295 * (1099511627776 * 1099511627776) = mul-le-mul_right (1099511627776 * 1099511627776) h in omega (arith, few)

room_alone : (k : ℕ) → k ≤ 4294967295 → k * (1099511627776 * 1099511627776) < 2 ^ 127
room_alone k h = let more : k * (1099511627776 * 1099511627776) + 1099511627776 * 1099511627776 < 2 ^ 127 = room k h in omega (arith, more)

-- ---- numbers of rows

terms_of : (p : Polynomial) → IsShortPoly p → AllByRecursion (λ t. unsigned_abs t.1 ≤ 1099511627776) p.terms
terms_of p s = recursion_from_All (λ t. unsigned_abs t.1 ≤ 1099511627776) p.terms s.terms

coefficient_small : (n : ℕ) (c : List Col) (ts : Terms) → AllByRecursion (λ t. unsigned_abs t.1 ≤ n) ts → unsigned_abs (coefficient_in ts c) ≤ n
coefficient_small n c [] h = omega arith
coefficient_small n c (t ∷ ts) h = go (eq_by_cmp mono_cmp t.0 c) (coefficient_small n c ts h.1)
  where
    go : (b : Bool) → unsigned_abs (coefficient_in ts c) ≤ n → unsigned_abs (cond b t.1 (coefficient_in ts c)) ≤ n
    go true k = h.0
    go false k = k

each_poly : (P : Polynomial → Type 0) (rows : List Row) → ((p : Polynomial) → IsShortPoly p → P p) → AllByRecursion (λ (row : Row). IsShortPoly row.poly) rows → AllByRecursion (λ (row : Row). P row.poly) rows
each_poly P [] f h = tt
each_poly P (row ∷ rows) f h = (f row.poly h.0, each_poly P rows f h.1)

polys_of : (rows : List Row) → AreShortRows rows → AllByRecursion (λ (row : Row). IsShortPoly row.poly) rows
polys_of rows s = recursion_from_All (λ (row : Row). IsShortPoly row.poly) rows s.polys

numbers_small : (rows : List Row) (c : List Col) → AreShortRows rows → AllByRecursion (λ (row : Row). unsigned_abs (coefficient_at c row) ≤ 1099511627776) rows
numbers_small rows c s = each_poly (λ p. unsigned_abs (coefficient_in p.terms c) ≤ 1099511627776) rows (λ p k. coefficient_small 1099511627776 c p.terms (terms_of p k)) (polys_of rows s)

constants_small : (rows : List Row) → AreShortRows rows → AllByRecursion (λ (row : Row). unsigned_abs (constant_in row) ≤ 1099511627776) rows
constants_small rows s = each_poly (λ p. unsigned_abs p.rest ≤ 1099511627776) rows (λ p k. k.rest) (polys_of rows s)

-- ---- multipliers

multiples_fit : (rows : List Row) (by : List ℤ) (cs : List (List Col)) → AreShortRows rows → AllByRecursion IsShort by → HasValue (sum_of_multiples rows by cs)
multiples_fit rows by cs s m =
    bind_value (sums_at rows by cs) (λ numbers. constant_sum rows by >>= λ rest. form_ok (record { numbers = numbers; rest = rest })) (sums_at-fits 1099511627776 rows by cs (λ j g. numbers_small rows (get_or cs j []) s) m enough)
    (λ numbers e. bind_value (constant_sum rows by) (λ rest. form_ok (record { numbers = numbers; rest = rest })) (sum_from-fits 1099511627776 0 constant_in (pos 0) rows by (constants_small rows s) m (omega arith) (omega (arith, enough))) (λ rest f. (record { numbers = numbers; rest = rest }, refl)))
  where
    enough : length rows * (1099511627776 * 1099511627776) < 2 ^ 127
    enough = room_alone (length rows) s.few

yes_fits : (rows : List Row) (by : List ℤ) (w : Step.Wide) → AreShortRows rows → AllByRecursion IsShort by → tested_yes rows by ≡ Err w → ⊥
yes_fits rows by w s m e =
    second_part (are_multipliers rows by) (sum_of_multiples rows by (columns rows []) >>= λ form. bool_ok (is_positive_constant form)) w
    (no_error (sum_of_multiples rows by (columns rows []) >>= λ form. bool_ok (is_positive_constant form)) w (bind_value (sum_of_multiples rows by (columns rows [])) (λ form. bool_ok (is_positive_constant form)) (multiples_fit rows by (columns rows []) s m) (λ form f. (is_positive_constant form, refl)))) e

sum_fits : (goal : Goal) (cert : Cert) → IsShortGoal goal → IsShortCert cert → HasValue (tested_sum goal cert)
sum_fits goal cert g s =
    bind_value (sum_of_multiples goal.rows cert.by (goal_columns goal)) (λ left. scaled_form cert.scale cert.sum goal.objective (goal_columns goal) >>= λ right. bool_ok (same_form left right)) (multiples_fit goal.rows cert.by (goal_columns goal) g.rows (recursion_from_All IsShort cert.by s.by))
    (λ left e. bind_value (scaled_form cert.scale cert.sum goal.objective (goal_columns goal)) (λ right. bool_ok (same_form left right)) multiple (λ right f. (same_form left right, refl)))
  where
    multiple : HasValue (scaled_form cert.scale cert.sum goal.objective (goal_columns goal))
    multiple =
        bind_value (scaled_coefficients cert.scale goal.objective.terms (goal_columns goal)) (λ numbers. scaled_less cert.scale goal.objective.rest cert.sum >>= λ rest. form_ok (record { numbers = numbers; rest = rest }))
        (scaled_at-fits 1099511627776 cert.scale goal.objective.terms (goal_columns goal) s.scale (λ j h. coefficient_small 1099511627776 (get_or (goal_columns goal) j []) goal.objective.terms (terms_of goal.objective g.objective)) (omega arith))
        (λ numbers e. bind_value (scaled_less cert.scale goal.objective.rest cert.sum) (λ rest. form_ok (record { numbers = numbers; rest = rest }))
        (scaled_less-fits cert.scale goal.objective.rest cert.sum s.scale g.objective.rest s.sum) (λ rest f. (record { numbers = numbers; rest = rest }, refl)))

cert_fits : (goal : Goal) (cert : Cert) (at : ℤ) (w : Step.Wide) → IsShortGoal goal → IsShortCert cert → IsShort at → tested_cert at goal cert ≡ Err w → ⊥
cert_fits goal cert at w g s a e =
    second_part (are_multipliers goal.rows cert.by && int_le (pos 1) cert.scale) (and_then (tested_sum goal cert) (tested_below at cert)) w
    (λ f. both_parts (tested_sum goal cert) (tested_below at cert) w (no_error (tested_sum goal cert) w (sum_fits goal cert g s)) (no_error (tested_below at cert) w (below-fits at cert a s.scale)) f) e

-- ---- points

-- the numerators of a point
abbrev numerator : (List Col → Fraction) → List Col → ℤ
numerator at c = (at c).num

short_zero : IsShortRatio (whole (pos 0))
short_zero = record { one = refl; num = omega arith }

short_at : (cs : List (List Col)) (point : List Fraction) (c : List Col) → AllByRecursion IsShortRatio point → IsShortRatio (ratio_at cs point c)
short_at [] point c h = short_zero
short_at (d ∷ cs) [] c h = short_zero
short_at (d ∷ cs) (r ∷ rs) c h = go (eq_by_cmp mono_cmp d c) (short_at cs rs c h.1)
  where
    go : (b : Bool) → IsShortRatio (ratio_at cs rs c) → IsShortRatio (cond b r (ratio_at cs rs c))
    go true k = h.0
    go false k = k

one_times : (z : ℤ) → z *ℤ pos 1 ≡ z
one_times z = omega (arith, ints)

over_one : (r : Fraction) → IsShortRatio r → IsRatio r r.num (pos 1)
over_one r s = subst (λ (q : Fraction). IsRatio q r.num (pos 1)) (ap (λ (d : ℤ). made d) (sym s.one)) known
  where
    made : ℤ → Fraction
    made d = record { num = r.num; den = d }

    known : IsRatio (whole r.num) r.num (pos 1)
    known = record { stands = subst (λ (z : ℤ). Stands (whole r.num) z (pos 1)) (one_times r.num) (Stands-whole r.num (pos 1)); lowest = IsLowest-whole r.num }

each_over_one : (cs : List (List Col)) (point : List Fraction) → AllByRecursion IsShortRatio point → EachRatio (ratio_at cs point) (numerator (ratio_at cs point)) (pos 1)
each_over_one cs point h c = over_one (ratio_at cs point c) (short_at cs point c h)

one_small : unsigned_abs (pos 1) < 2 ^ 127
one_small = omega arith

parts_small : (cs : List (List Col)) (point : List Fraction) (p : Polynomial) → AllByRecursion IsShortRatio point → IsShortPoly p → AllByRecursion (λ t. unsigned_abs (t.1 *ℤ numerator (ratio_at cs point) t.0) ≤ 1099511627776 * 1099511627776) p.terms
parts_small cs point p h s = products_small 1099511627776 (numerator (ratio_at cs point)) p.terms (λ m. (short_at cs point m h).num) (terms_of p s)

slope_fits : (cs : List (List Col)) (point : List Fraction) (p : Polynomial) → AllByRecursion IsShortRatio point → IsShortPoly p → HasValue (slope_at (ratio_at cs point) p)
slope_fits cs point p h s =
    let v = slope-ratio (ratio_at cs point) (numerator (ratio_at cs point)) (pos 1) (1099511627776 * 1099511627776) p (omega (arith, ints)) (each_over_one cs point h) (parts_small cs point p h s) (room_alone (length p.terms) s.few) (omega arith) one_small in (v.0, v.1.0)

-- the value, whose denominator is 1
value_is : (cs : List (List Col)) (point : List Fraction) (p : Polynomial) → AllByRecursion IsShortRatio point → IsShortPoly p
    → (r : Fraction) × ((ratio_value (ratio_at cs point) p ≡ Ok r) × IsRatio r (terms_at (numerator (ratio_at cs point)) p.terms +ℤ p.rest *ℤ pos 1) (pos 1))
value_is cs point p h s =
    value-ratio (ratio_at cs point) (numerator (ratio_at cs point)) (pos 1) (1099511627776 * 1099511627776) p (omega (arith, ints)) (each_over_one cs point h) (parts_small cs point p h s)
    (subst (λ (z : ℤ). unsigned_abs z ≤ 1099511627776 * 1099511627776) (sym (one_times p.rest)) (let small : unsigned_abs p.rest ≤ 1099511627776 = s.rest in omega (arith, small))) (room (length p.terms) s.few) one_small

value_fits : (cs : List (List Col)) (point : List Fraction) (p : Polynomial) → AllByRecursion IsShortRatio point → IsShortPoly p → HasValue (ratio_value (ratio_at cs point) p)
value_fits cs point p h s = let v = value_is cs point p h s in (v.0, v.1.0)

meets_fits : (cs : List (List Col)) (point : List Fraction) (rows : List Row) (w : Step.Wide) → AllByRecursion IsShortRatio point → AreShortRows rows → meets (ratio_value (ratio_at cs point)) rows ≡ Err w → ⊥
meets_fits cs point rows w h s = meets-fit (ratio_value (ratio_at cs point)) rows w (each_poly (λ p. HasValue (ratio_value (ratio_at cs point) p)) rows (λ p k. value_fits cs point p h k) (polys_of rows s))

no_fits : (rows : List Row) (point : List Fraction) (w : Step.Wide) → AreShortRows rows → AllByRecursion IsShortRatio point → tested_no rows point ≡ Err w → ⊥
no_fits rows point w s h e = second_part (length point == length (columns rows [])) (meets (ratio_value (ratio_at (columns rows []) point)) rows) w (meets_fits (columns rows []) point rows w h s) e

point_fits : (goal : Goal) (point : List Fraction) (w : Step.Wide) → IsShortGoal goal → AllByRecursion IsShortRatio point → tested_point goal point ≡ Err w → ⊥
point_fits goal point w g h e = second_part (length point == length (goal_columns goal)) (meets (ratio_value (ratio_at (goal_columns goal) point)) goal.rows) w (meets_fits (goal_columns goal) point goal.rows w h g.rows) e

reached_fits : (at : ℤ) (goal : Goal) (point : List Fraction) (w : Step.Wide) → IsShort at → IsShortGoal goal → AllByRecursion IsShortRatio point → tested_reached at goal point ≡ Err w → ⊥
reached_fits at goal point w a g h e =
    both_parts (tested_point goal point) (ratio_value (ratio_at (goal_columns goal) point) goal.objective >>= λ v. is_at_least v at) w (λ f. point_fits goal point w g h f)
    (no_error (ratio_value (ratio_at (goal_columns goal) point) goal.objective >>= λ v. is_at_least v at) w (compared (value_is (goal_columns goal) point goal.objective h g.objective))) e
  where
    compared : ((v : Fraction) × ((ratio_value (ratio_at (goal_columns goal) point) goal.objective ≡ Ok v) × IsRatio v (terms_at (numerator (ratio_at (goal_columns goal) point)) goal.objective.terms +ℤ goal.objective.rest *ℤ pos 1) (pos 1))) → HasValue (ratio_value (ratio_at (goal_columns goal) point) goal.objective >>= λ v. is_at_least v at)
    compared v =
        let small : unsigned_abs (at *ℤ v.0.den) ≤ 1099511627776 * 1 = product-small 1099511627776 1 at v.0.den a (den_small v.0 v.1.1) in (
          int_le (at *ℤ v.0.den) v.0.num,
          ap (λ (r : Result Fraction Step.Wide). r >>= λ u. is_at_least u at) v.1.0
              ∙ ap (λ (r : Result ℤ Step.Wide). r >>= λ bound. bool_ok (int_le bound v.0.num)) (product_of-fits at v.0.den (omega (arith, small))),
        )
      where
        den_small : (r : Fraction) → IsRatio r (terms_at (numerator (ratio_at (goal_columns goal) point)) goal.objective.terms +ℤ goal.objective.rest *ℤ pos 1) (pos 1) → unsigned_abs r.den ≤ 1
        den_small r k = of_share (shared r (terms_at (numerator (ratio_at (goal_columns goal) point)) goal.objective.terms +ℤ goal.objective.rest *ℤ pos 1) (pos 1) (omega (arith, ints)) k)
          where
            of_share : IsShare r (terms_at (numerator (ratio_at (goal_columns goal) point)) goal.objective.terms +ℤ goal.objective.rest *ℤ pos 1) (pos 1) → unsigned_abs r.den ≤ 1
            of_share f = factor_small r.den f.times (pos 1) f.positive f.den

ray_fits : (goal : Goal) (ray : List Fraction) (w : Step.Wide) → IsShortGoal goal → AllByRecursion IsShortRatio ray → tested_ray goal ray ≡ Err w → ⊥
ray_fits goal ray w g h e =
    both_parts (and_then (bool_ok (length ray == length (goal_columns goal))) (meets (slope_at (ratio_at (goal_columns goal) ray)) goal.rows)) (slope_at (ratio_at (goal_columns goal) ray) goal.objective >>= λ v. bool_ok (int_lt (pos 0) v.num)) w
    (λ f. second_part (length ray == length (goal_columns goal)) (meets (slope_at (ratio_at (goal_columns goal) ray)) goal.rows) w
    (meets-fit (slope_at (ratio_at (goal_columns goal) ray)) goal.rows w (each_poly (λ p. HasValue (slope_at (ratio_at (goal_columns goal) ray) p)) goal.rows (λ p k. slope_fits (goal_columns goal) ray p h k) (polys_of goal.rows g.rows))) f)
    (no_error (slope_at (ratio_at (goal_columns goal) ray) goal.objective >>= λ v. bool_ok (int_lt (pos 0) v.num)) w
    (bind_value (slope_at (ratio_at (goal_columns goal) ray) goal.objective) (λ v. bool_ok (int_lt (pos 0) v.num)) (slope_fits (goal_columns goal) ray goal.objective h g.objective) (λ v f. (int_lt (pos 0) v.num, refl)))) e

-- ---- answers

-- what never fails in a case fails in none
at_case : (goals : List Goal) (case : ℕ) (part : Goal → Result Bool Step.Wide) (w : Step.Wide) → ((goal : Goal) → slice_get goals case ≡ Some goal → part goal ≡ Err w → ⊥) → of_case goals case part ≡ Err w → ⊥
at_case [] case part w h e = cc
at_case (g ∷ goals) zero part w h e = h g refl e
at_case (g ∷ goals) (suc case) part w h e = at_case goals case part w (λ goal is. h goal is) e

ratios_of : (point : List Fraction) → All IsShortRatio point → AllByRecursion IsShortRatio point
ratios_of point h = recursion_from_All IsShortRatio point h

rows_fit : (rows : List Row) (a : Answer) (w : Step.Wide) → IsShortRowsAnswer rows a → outcome (Infeasible rows) a ≡ Err w → ⊥
rows_fit rows (answer.Yes by) w h e = yes_fits rows by w h.1 (recursion_from_All IsShort by h.0) e
rows_fit rows (answer.No point) w h e = no_fits rows point w h.1 (ratios_of point h.0) e
rows_fit rows (answer.Bound at certs case point) w h e = h
rows_fit rows (answer.Unbounded case point ray) w h e = h
rows_fit rows (answer.Basis relations spots free) w h e = h
rows_fit rows (answer.Limit limit) w h e = h

goals_fit : (goals : List Goal) (a : Answer) (w : Step.Wide) → IsShortGoalsAnswer goals a → outcome (Sup goals) a ≡ Err w → ⊥
goals_fit goals (answer.Yes by) w h e = h
goals_fit goals (answer.No point) w h e = h
goals_fit goals (answer.Basis relations spots free) w h e = h
goals_fit goals (answer.Limit limit) w h e = h
goals_fit goals (answer.Unbounded case point ray) w h e =
    at_case goals case (λ goal. and_then (tested_point goal point) (tested_ray goal ray)) w
    (λ goal is f. both_parts (tested_point goal point) (tested_ray goal ray) w (λ g. point_fits goal point w (h.2 goal is) (ratios_of point h.0) g) (λ g. ray_fits goal ray w (h.2 goal is) (ratios_of ray h.1) g) f) e
goals_fit goals (answer.Bound at certs case point) w h e =
    second_part (length certs == length goals) (and_then (tested_certs at goals certs) (of_case goals case (λ goal. tested_reached at goal point))) w
    (λ f. both_parts (tested_certs at goals certs) (of_case goals case (λ goal. tested_reached at goal point)) w
    (λ g. certs_calm at goals certs w (λ l goal cert i j u. cert_fits goal cert at w (each_goal l goal i) (at_place IsShortCert certs l cert (recursion_from_All IsShortCert certs h.2) j) h.0 u) g)
    (λ g. at_case goals case (λ goal. tested_reached at goal point) w (λ goal is u. reached_fits at goal point w h.0 (each_goal case goal is) (ratios_of point h.1) u) g) f) e
  where
    each_goal : (l : ℕ) (goal : Goal) → slice_get goals l ≡ Some goal → IsShortGoal goal
    each_goal l goal is = at_place IsShortGoal goals l goal (recursion_from_All IsShortGoal goals h.3) is

-- ---- what the calls owe

some_value : {X : Type 0} (r : Result X Step.Wide) → ((w : Step.Wide) → r ≡ Err w → ⊥) → HasValue r
some_value (Ok x) h = (x, refl)
some_value (Err w) h = absurd (h w refl)

pub short_rows : (rows : List Row) (a : Answer) → AreCanonical rows → HasPositive a → IsFoundFor (2 ^ 127 - 1) rows a → IsShortRowsAnswer rows a → IsRowsAnswer rows a
short_rows rows a k p h s = let v : HasValue (outcome (Infeasible rows) a) = some_value (outcome (Infeasible rows) a) (λ w e. rows_fit rows a w s e) in found_answer rows a v.0 k p h v.1

pub short_goals : (goals : List Goal) (a : Answer) → All IsCanonicalGoal goals → HasPositive a → IsFoundAmong (2 ^ 127 - 1) goals a → IsShortGoalsAnswer goals a → IsGoalsAnswer goals a
short_goals goals a k p h s = let v : HasValue (outcome (Sup goals) a) = some_value (outcome (Sup goals) a) (λ w e. goals_fit goals a w s e) in found_goals goals a v.0 k p h v.1
