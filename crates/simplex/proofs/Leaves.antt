-- A step at which a test ends leaves 128 bits.
use Rattle.std.proofs.Common.{◌≡◌, ℕ, zero, suc, Bool, true, false, cond, List, [], ◌∷◌, Ok, Err, refl, subst, ℤ, pos, negsuc, ◌+ℤ◌, ◌*ℤ◌}
use Rattle.std.specs.Prelude.{Result, ◌==◌, ◌&&◌, int_le, int_lt, length, int_div, unsigned_abs}
use Rattle.items.specs.Gives.{◌>>=◌}
use Rattle.items.proofs.Gives.{on_err}
use Rattle.linear_terms.specs.declared.col.Col.{Col}
use Rattle.linear_terms.specs.declared.row.Row.{Row}
use Rattle.linear_terms.specs.Polynomial.{Terms, Polynomial, coefficient_in}
use Rattle.linear_terms.specs.Row.{is_within}
use Rattle.whole_numbers.specs.Divisors.{gcd_of}
use Rattle.whole_numbers.specs.Fits.{fits, sum_of, product_of}
use Rattle.whole_numbers.specs.declared.wide.Wide as Step
use Rattle.farkas_check.specs.Columns.{columns}
use Rattle.farkas_check.specs.Multiples.{Form, sum_from, number_at, constant_in, sums_at, constant_sum, sum_of_multiples, are_multipliers, is_positive_constant, scaled_coefficients, scaled_less, scaled_form, same_form}
use Rattle.farkas_check.specs.Parts.{and_then}
use Rattle.farkas_check.specs.Points.{ratio_at, value_from, slope_at, ratio_value, meets}
use Rattle.farkas_check.specs.Ratios.{Fraction, whole, lowest_terms, common_multiple, ratio_product, ratio_sum, is_at_least}
use Rattle.farkas_check.specs.Tested.{goal_columns, outcome, tested_yes, tested_no, tested_sum, tested_below, tested_cert, tested_certs, tested_point, tested_reached, tested_ray, of_case, is_limit}
use Rattle.farkas_check.specs.declared.answer.Answer.{Answer}
use Rattle.farkas_check.specs.declared.answer.Answer.TheVariants as answer
use Rattle.farkas_check.specs.declared.answer.Limit.TheVariants as limit
use Rattle.farkas_check.specs.declared.answer.Cert.{Cert}
use Rattle.farkas_check.specs.declared.question.Goal.{Goal}
use Rattle.farkas_check.specs.declared.question.Question.TheVariants.{Infeasible, Sup}
use Rattle.simplex.specs.Refusal.{LeavesBits}

pub product-leaves : (a b : ℤ) (w : Step.Wide) → product_of a b ≡ Err w → LeavesBits w
product-leaves a b w e = go (fits (a *ℤ b)) refl e
  where
    go : (t : Bool) → fits (a *ℤ b) ≡ t → cond t (Ok (a *ℤ b)) (Err record { left = a; right = b; times = true }) ≡ Err w → LeavesBits w
    go true f g = cc
    go false f g = let same : record { left = a; right = b; times = true } ≡ w = cc in subst LeavesBits same f

pub sum-leaves : (a b : ℤ) (w : Step.Wide) → sum_of a b ≡ Err w → LeavesBits w
sum-leaves a b w e = go (fits (a +ℤ b)) refl e
  where
    go : (t : Bool) → fits (a +ℤ b) ≡ t → cond t (Ok (a +ℤ b)) (Err record { left = a; right = b; times = false }) ≡ Err w → LeavesBits w
    go true f g = cc
    go false f g = let same : record { left = a; right = b; times = false } ≡ w = cc in subst LeavesBits same f

-- ---- sums of multiples

sum_from-leaves : (number : Row → ℤ) (total : ℤ) (rows : List Row) (by : List ℤ) (w : Step.Wide) → sum_from number total rows by ≡ Err w → LeavesBits w
sum_from-leaves number total [] by w e = cc
sum_from-leaves number total (row ∷ rows) [] w e = cc
sum_from-leaves number total (row ∷ rows) (m ∷ by) w e =
    on_err (product_of (number row) m) (λ part. sum_of total part >>= λ next. sum_from number next rows by) w e (λ f. product-leaves (number row) m w f)
    (λ part f g. on_err (sum_of total part) (λ next. sum_from number next rows by) w g (λ h. sum-leaves total part w h) (λ next h k. sum_from-leaves number next rows by w k))

abbrev numbers_ok : List ℤ → Result (List ℤ) Step.Wide
numbers_ok ns = Ok ns

abbrev form_ok : Form → Result Form Step.Wide
form_ok form = Ok form

abbrev bool_ok : Bool → Result Bool Step.Wide
bool_ok b = Ok b

abbrev ratio_ok : Fraction → Result Fraction Step.Wide
ratio_ok r = Ok r

sums_at-leaves : (rows : List Row) (by : List ℤ) (cs : List (List Col)) (w : Step.Wide) → sums_at rows by cs ≡ Err w → LeavesBits w
sums_at-leaves rows by [] w e = cc
sums_at-leaves rows by (c ∷ cs) w e =
    on_err (sum_from (number_at c) (pos 0) rows by) (λ s. sums_at rows by cs >>= λ more. numbers_ok (s ∷ more)) w e (λ f. sum_from-leaves (number_at c) (pos 0) rows by w f)
    (λ s f g. on_err (sums_at rows by cs) (λ more. numbers_ok (s ∷ more)) w g (λ h. sums_at-leaves rows by cs w h) (λ more h k. cc))

pub and_then-leaves : (part others : Result Bool Step.Wide) (w : Step.Wide) → (part ≡ Err w → LeavesBits w) → (others ≡ Err w → LeavesBits w) → and_then part others ≡ Err w → LeavesBits w
and_then-leaves (Ok true) others w p q e = q e
and_then-leaves (Ok false) others w p q e = cc
and_then-leaves (Err v) others w p q e = p e

pub sum_of_multiples-leaves : (rows : List Row) (by : List ℤ) (cs : List (List Col)) (w : Step.Wide) → sum_of_multiples rows by cs ≡ Err w → LeavesBits w
sum_of_multiples-leaves rows by cs w e =
    on_err (sums_at rows by cs) (λ numbers. constant_sum rows by >>= λ rest. form_ok (record { numbers = numbers; rest = rest })) w e (λ h. sums_at-leaves rows by cs w h)
    (λ numbers h k. on_err (constant_sum rows by) (λ rest. form_ok (record { numbers = numbers; rest = rest })) w k (λ l. sum_from-leaves constant_in (pos 0) rows by w l) (λ rest l m. cc))

yes-leaves : (rows : List Row) (by : List ℤ) (w : Step.Wide) → tested_yes rows by ≡ Err w → LeavesBits w
yes-leaves rows by w e =
    and_then-leaves (Ok (are_multipliers rows by)) (sum_of_multiples rows by (columns rows []) >>= λ form. bool_ok (is_positive_constant form)) w (λ f. cc)
    (λ f. on_err (sum_of_multiples rows by (columns rows [])) (λ form. bool_ok (is_positive_constant form)) w f (λ g. sum_of_multiples-leaves rows by (columns rows []) w g) (λ form g h. cc)) e

-- ---- values

pub ratio_product-leaves : (a b : Fraction) (w : Step.Wide) → ratio_product a b ≡ Err w → LeavesBits w
ratio_product-leaves a b w e =
    on_err (product_of a.num b.num) (λ num. product_of a.den b.den >>= λ den. ratio_ok (lowest_terms num den)) w e (λ f. product-leaves a.num b.num w f)
    (λ num f g. on_err (product_of a.den b.den) (λ den. ratio_ok (lowest_terms num den)) w g (λ h. product-leaves a.den b.den w h) (λ den h k. cc))

pub ratio_sum-leaves : (a b : Fraction) (w : Step.Wide) → ratio_sum a b ≡ Err w → LeavesBits w
ratio_sum-leaves a b w e =
    on_err (common_multiple a.den b.den) (λ den. product_of a.num (int_div den a.den) >>= λ left. product_of b.num (int_div den b.den) >>= λ right. sum_of left right >>= λ num. ratio_ok (lowest_terms num den)) w e
    (λ f. product-leaves (int_div a.den (pos (gcd_of (unsigned_abs a.den) (unsigned_abs b.den)))) b.den w f)
    (λ den f g. on_err (product_of a.num (int_div den a.den)) (λ left. product_of b.num (int_div den b.den) >>= λ right. sum_of left right >>= λ num. ratio_ok (lowest_terms num den)) w g (λ h. product-leaves a.num (int_div den a.den) w h)
    (λ left h k. on_err (product_of b.num (int_div den b.den)) (λ right. sum_of left right >>= λ num. ratio_ok (lowest_terms num den)) w k (λ l. product-leaves b.num (int_div den b.den) w l)
    (λ right l m. on_err (sum_of left right) (λ num. ratio_ok (lowest_terms num den)) w m (λ n. sum-leaves left right w n) (λ num n o. cc))))

value_from-leaves : (at : List Col → Fraction) (total : Fraction) (ts : Terms) (w : Step.Wide) → value_from at total ts ≡ Err w → LeavesBits w
value_from-leaves at total [] w e = cc
value_from-leaves at total (t ∷ ts) w e =
    on_err (ratio_product (whole t.1) (at t.0)) (λ part. ratio_sum total part >>= λ next. value_from at next ts) w e (λ f. ratio_product-leaves (whole t.1) (at t.0) w f)
    (λ part f g. on_err (ratio_sum total part) (λ next. value_from at next ts) w g (λ h. ratio_sum-leaves total part w h) (λ next h k. value_from-leaves at next ts w k))

pub ratio_value-leaves : (at : List Col → Fraction) (p : Polynomial) (w : Step.Wide) → ratio_value at p ≡ Err w → LeavesBits w
ratio_value-leaves at p w e =
    on_err (slope_at at p) (λ terms. ratio_sum terms (whole p.rest)) w e (λ f. value_from-leaves at (whole (pos 0)) p.terms w f) (λ terms f g. ratio_sum-leaves terms (whole p.rest) w g)

pub meets-leaves : (value : Polynomial → Result Fraction Step.Wide) (rows : List Row) (w : Step.Wide) → ((p : Polynomial) → value p ≡ Err w → LeavesBits w) → meets value rows ≡ Err w → LeavesBits w
meets-leaves value [] w v e = cc
meets-leaves value (row ∷ rows) w v e =
    and_then-leaves (value row.poly >>= λ r. bool_ok (is_within row.kind r.num)) (meets value rows) w
    (λ f. on_err (value row.poly) (λ r. bool_ok (is_within row.kind r.num)) w f (λ g. v row.poly g) (λ r g h. cc))
    (λ f. meets-leaves value rows w v f) e

no-leaves : (rows : List Row) (point : List Fraction) (w : Step.Wide) → tested_no rows point ≡ Err w → LeavesBits w
no-leaves rows point w e =
    and_then-leaves (bool_ok (length point == length (columns rows []))) (meets (ratio_value (ratio_at (columns rows []) point)) rows) w (λ f. cc)
    (λ f. meets-leaves (ratio_value (ratio_at (columns rows []) point)) rows w (λ p g. ratio_value-leaves (ratio_at (columns rows []) point) p w g) f) e

pub outcome-leaves : (rows : List Row) (a : Answer) → (w : Step.Wide) → outcome (Infeasible rows) a ≡ Err w → LeavesBits w
outcome-leaves rows (answer.Yes by) w e = yes-leaves rows by w e
outcome-leaves rows (answer.No point) w e = no-leaves rows point w e
outcome-leaves rows (answer.Bound at certs case point) w e = cc
outcome-leaves rows (answer.Unbounded case point ray) w e = cc
outcome-leaves rows (answer.Limit l) w e = cc
outcome-leaves rows (answer.Basis relations spots free) w e = cc

-- ---- goals

scaled_at-leaves : (scale : ℤ) (terms : Terms) (cs : List (List Col)) (w : Step.Wide) → scaled_coefficients scale terms cs ≡ Err w → LeavesBits w
scaled_at-leaves scale terms [] w e = cc
scaled_at-leaves scale terms (c ∷ cs) w e =
    on_err (product_of scale (coefficient_in terms c)) (λ s. scaled_coefficients scale terms cs >>= λ more. numbers_ok (s ∷ more)) w e (λ f. product-leaves scale (coefficient_in terms c) w f)
    (λ s f g. on_err (scaled_coefficients scale terms cs) (λ more. numbers_ok (s ∷ more)) w g (λ h. scaled_at-leaves scale terms cs w h) (λ more h k. cc))

scaled_less-leaves : (scale rest less : ℤ) (w : Step.Wide) → scaled_less scale rest less ≡ Err w → LeavesBits w
scaled_less-leaves scale rest less w e =
    on_err (product_of scale rest) (λ left. product_of less (negsuc 0) >>= λ right. sum_of left right) w e (λ f. product-leaves scale rest w f)
    (λ left f g. on_err (product_of less (negsuc 0)) (λ right. sum_of left right) w g (λ h. product-leaves less (negsuc 0) w h) (λ right h k. sum-leaves left right w k))

scaled_form-leaves : (scale less : ℤ) (p : Polynomial) (cs : List (List Col)) (w : Step.Wide) → scaled_form scale less p cs ≡ Err w → LeavesBits w
scaled_form-leaves scale less p cs w e =
    on_err (scaled_coefficients scale p.terms cs) (λ numbers. scaled_less scale p.rest less >>= λ rest. form_ok (record { numbers = numbers; rest = rest })) w e (λ f. scaled_at-leaves scale p.terms cs w f)
    (λ numbers f g. on_err (scaled_less scale p.rest less) (λ rest. form_ok (record { numbers = numbers; rest = rest })) w g (λ h. scaled_less-leaves scale p.rest less w h) (λ rest h k. cc))

tested_sum-leaves : (goal : Goal) (cert : Cert) (w : Step.Wide) → tested_sum goal cert ≡ Err w → LeavesBits w
tested_sum-leaves goal cert w e =
    on_err (sum_of_multiples goal.rows cert.by (goal_columns goal)) (λ left. scaled_form cert.scale cert.sum goal.objective (goal_columns goal) >>= λ right. bool_ok (same_form left right)) w e (λ f. sum_of_multiples-leaves goal.rows cert.by (goal_columns goal) w f)
    (λ left f g. on_err (scaled_form cert.scale cert.sum goal.objective (goal_columns goal)) (λ right. bool_ok (same_form left right)) w g (λ h. scaled_form-leaves cert.scale cert.sum goal.objective (goal_columns goal) w h) (λ right h k. cc))

tested_below-leaves : (at : ℤ) (cert : Cert) (w : Step.Wide) → tested_below at cert ≡ Err w → LeavesBits w
tested_below-leaves at cert w e =
    on_err (sum_of at (pos 1)) (λ next. product_of cert.scale next >>= λ limit. sum_of limit (negsuc 0) >>= λ most. bool_ok (int_le cert.sum most)) w e (λ f. sum-leaves at (pos 1) w f)
    (λ next f g. on_err (product_of cert.scale next) (λ limit. sum_of limit (negsuc 0) >>= λ most. bool_ok (int_le cert.sum most)) w g (λ h. product-leaves cert.scale next w h)
    (λ limit h k. on_err (sum_of limit (negsuc 0)) (λ most. bool_ok (int_le cert.sum most)) w k (λ l. sum-leaves limit (negsuc 0) w l) (λ most l m. cc)))

tested_certs-leaves : (at : ℤ) (goals : List Goal) (certs : List Cert) (w : Step.Wide) → tested_certs at goals certs ≡ Err w → LeavesBits w
tested_certs-leaves at [] certs w e = cc
tested_certs-leaves at (goal ∷ goals) [] w e = cc
tested_certs-leaves at (goal ∷ goals) (cert ∷ certs) w e =
    and_then-leaves (tested_cert at goal cert) (tested_certs at goals certs) w
    (λ f. and_then-leaves (bool_ok (are_multipliers goal.rows cert.by && int_le (pos 1) cert.scale)) (and_then (tested_sum goal cert) (tested_below at cert)) w (λ g. cc)
    (λ g. and_then-leaves (tested_sum goal cert) (tested_below at cert) w (λ h. tested_sum-leaves goal cert w h) (λ h. tested_below-leaves at cert w h) g) f)
    (λ f. tested_certs-leaves at goals certs w f) e

meets_at-leaves : (goal : Goal) (value : Polynomial → Result Fraction Step.Wide) (numbers : List Fraction) (w : Step.Wide) → ((p : Polynomial) → value p ≡ Err w → LeavesBits w) → and_then (bool_ok (length numbers == length (goal_columns goal))) (meets value goal.rows) ≡ Err w → LeavesBits w
meets_at-leaves goal value numbers w v e = and_then-leaves (bool_ok (length numbers == length (goal_columns goal))) (meets value goal.rows) w (λ f. cc) (λ f. meets-leaves value goal.rows w v f) e

tested_point-leaves : (goal : Goal) (point : List Fraction) (w : Step.Wide) → tested_point goal point ≡ Err w → LeavesBits w
tested_point-leaves goal point w e = meets_at-leaves goal (ratio_value (ratio_at (goal_columns goal) point)) point w (λ p f. ratio_value-leaves (ratio_at (goal_columns goal) point) p w f) e

tested_reached-leaves : (at : ℤ) (goal : Goal) (point : List Fraction) (w : Step.Wide) → tested_reached at goal point ≡ Err w → LeavesBits w
tested_reached-leaves at goal point w e =
    and_then-leaves (tested_point goal point) (ratio_value (ratio_at (goal_columns goal) point) goal.objective >>= λ v. is_at_least v at) w (λ f. tested_point-leaves goal point w f)
    (λ f. on_err (ratio_value (ratio_at (goal_columns goal) point) goal.objective) (λ v. is_at_least v at) w f (λ g. ratio_value-leaves (ratio_at (goal_columns goal) point) goal.objective w g)
    (λ v g h. on_err (product_of at v.den) (λ bound. bool_ok (int_le bound v.num)) w h (λ k. product-leaves at v.den w k) (λ bound k l. cc))) e

tested_ray-leaves : (goal : Goal) (ray : List Fraction) (w : Step.Wide) → tested_ray goal ray ≡ Err w → LeavesBits w
tested_ray-leaves goal ray w e =
    and_then-leaves (and_then (bool_ok (length ray == length (goal_columns goal))) (meets (slope_at (ratio_at (goal_columns goal) ray)) goal.rows)) (slope_at (ratio_at (goal_columns goal) ray) goal.objective >>= λ v. bool_ok (int_lt (pos 0) v.num)) w
    (λ f. meets_at-leaves goal (slope_at (ratio_at (goal_columns goal) ray)) ray w (λ p g. value_from-leaves (ratio_at (goal_columns goal) ray) (whole (pos 0)) p.terms w g) f)
    (λ f. on_err (slope_at (ratio_at (goal_columns goal) ray) goal.objective) (λ v. bool_ok (int_lt (pos 0) v.num)) w f (λ g. value_from-leaves (ratio_at (goal_columns goal) ray) (whole (pos 0)) goal.objective.terms w g) (λ v g h. cc)) e

of_case-leaves : (goals : List Goal) (case : ℕ) (part : Goal → Result Bool Step.Wide) (w : Step.Wide) → ((goal : Goal) → part goal ≡ Err w → LeavesBits w) → of_case goals case part ≡ Err w → LeavesBits w
of_case-leaves [] case part w f e = cc
of_case-leaves (goal ∷ goals) zero part w f e = f goal e
of_case-leaves (goal ∷ goals) (suc case) part w f e = of_case-leaves goals case part w f e

pub goals-leaves : (goals : List Goal) (a : Answer) (w : Step.Wide) → outcome (Sup goals) a ≡ Err w → LeavesBits w
goals-leaves goals (answer.Yes by) w e = cc
goals-leaves goals (answer.No point) w e = cc
goals-leaves goals (answer.Bound at certs case point) w e =
    and_then-leaves (bool_ok (length certs == length goals)) (and_then (tested_certs at goals certs) (of_case goals case (λ goal. tested_reached at goal point))) w (λ f. cc)
    (λ f. and_then-leaves (tested_certs at goals certs) (of_case goals case (λ goal. tested_reached at goal point)) w (λ g. tested_certs-leaves at goals certs w g)
    (λ g. of_case-leaves goals case (λ goal. tested_reached at goal point) w (λ goal h. tested_reached-leaves at goal point w h) g) f) e
goals-leaves goals (answer.Unbounded case point ray) w e =
    of_case-leaves goals case (λ goal. and_then (tested_point goal point) (tested_ray goal ray)) w
    (λ goal f. and_then-leaves (tested_point goal point) (tested_ray goal ray) w (λ g. tested_point-leaves goal point w g) (λ g. tested_ray-leaves goal ray w g) f) e
goals-leaves goals (answer.Limit l) w e = cc
goals-leaves goals (answer.Basis relations spots free) w e = cc

-- ---- the limit of a step

pub limit_of : (step : Step.Wide) → LeavesBits step → is_limit (limit.Wide step.left step.right step.times) ≡ true
limit_of step h = rw h refl
