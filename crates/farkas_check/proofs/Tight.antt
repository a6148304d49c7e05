-- Answers that pass: that they are the truth about rational points, and about whole numbers.
use Rattle.std.proofs.Common.{◌≡◌, ℕ, Bool, true, false, ℤ, pos, negsuc, ◌+ℤ◌, ◌-ℤ◌, ◌*ℤ◌, ◌≤ℤ◌, ◌<ℤ◌, List, [], ◌∷◌, length, Option, Some, None, Result, Ok, refl, sym, ap, subst, ◌∙◌, arith}
use Rattle.std.proofs.lemmas.List.Elements.{recursion_from_All, All-head, All-tail}
use Rattle.std.specs.Prelude.{All, int_lt, unsigned_abs, slice_get, ◌==◌}
use Rattle.std.specs.List.{AllByRecursion}
use Rattle.std.proofs.lemmas.Int.{ints, by_lt_z}
use Rattle.std.proofs.Math.IntN.{zero-*ℤ}
use Rattle.items.specs.Gives.{◌>>=◌}
use Rattle.items.proofs.Gives.{on_ok}
use Rattle.whole_numbers.specs.declared.wide.Wide.{Wide}
use Rattle.whole_numbers.proofs.Ring.{ring, ≤ℤ-*ℤ, one-*ℤ, *ℤ-one}
use Rattle.linear_terms.specs.declared.col.Col.{Col}
use Rattle.linear_terms.specs.declared.row.Kind.{Kind}
use Rattle.linear_terms.specs.declared.row.Kind.TheVariants.{AtMost, Equal}
use Rattle.linear_terms.specs.declared.row.Row.{Row}
use Rattle.linear_terms.specs.Polynomial.{Terms, Polynomial, IsCanonical}
use Rattle.linear_terms.specs.Row.{IsWithin, RowsHold, AreCanonical}
use Rattle.linear_terms.specs.Value.{Valuation, value_of}
use Rattle.farkas_check.specs.declared.answer.Answer.{Answer}
use Rattle.farkas_check.specs.declared.answer.Answer.TheVariants as answer
use Rattle.farkas_check.specs.declared.answer.Cert.{Cert}
use Rattle.farkas_check.specs.declared.question.Goal.{Goal}
use Rattle.farkas_check.specs.declared.question.Question.{Question}
use Rattle.farkas_check.specs.declared.question.Question.TheVariants.{Infeasible, Sup, Stratum}
use Rattle.farkas_check.specs.Columns.{columns}
use Rattle.farkas_check.specs.Meaning.{terms_at, sum_at, Meets, HasPoint, IsBounded, IsBoundedBelow, IsReached, IsRoundedSup, IsTight, IsLimit, IsAtMost, IsTrueAnswer}
use Rattle.farkas_check.specs.Parts.{and_then}
use Rattle.farkas_check.specs.Points.{ratio_at, slope_at, ratio_value, meets}
use Rattle.farkas_check.specs.Ratios.{Fraction, is_at_least}
use Rattle.farkas_check.specs.Tested.{goal_columns, tested_no, tested_certs, tested_point, tested_reached, tested_ray, of_case, tested_bound, tested_unbounded, outcome}
use Rattle.farkas_check.specs.Laws.{PassingIsTrue}
use Rattle.farkas_check.proofs.Basis.{basis_true, basis_tight}
use Rattle.farkas_check.proofs.Lowest.{positive_product}
use Rattle.farkas_check.proofs.Farkas.{bool_ok, on_parts, ok_true, CanonicalRows, no_point}
use Rattle.farkas_check.proofs.Bounds as Goals
use Rattle.farkas_check.proofs.Bounds.{bounded_below}
use Rattle.farkas_check.specs.Kept.{IsCanonicalGoal, IsCanonicalQuestion, HasPositive}
use Rattle.farkas_check.proofs.RationalPoints.{point_of, same_length, listed, point-meets, point_at, sum_at-value, met_at}
use Rattle.farkas_check.proofs.PointValues.{Stands, ArePositive, over_of, over_of-positive, numerator_of, Stands-ratio_at, slope_at-stands, ratio_value-stands, meets-each, reached, grows}

-- ---- points

has_point : (rows : List Row) (numbers : List Fraction) → ArePositive numbers → tested_no rows numbers ≡ Ok true → HasPoint rows numbers
has_point rows numbers p e =
    on_parts (Ok (length numbers == length (columns rows []))) (meets (ratio_value (ratio_at (columns rows []) numbers)) rows) e
    (λ f g. record {
      point = point_of (columns rows []) numbers p;
      listed = listed (columns rows []) numbers p (same_length (length numbers) (length (columns rows [])) (ok_true (length numbers == length (columns rows [])) f));
      met = point-meets (columns rows []) numbers p rows g;
    })

-- ---- a bound that is reached

on_case : {P : Type 0} (goals : List Goal) (case : ℕ) (part : Goal → Result Bool Wide) → of_case goals case part ≡ Ok true → ((goal : Goal) → slice_get goals case ≡ Some goal → part goal ≡ Ok true → P) → P
on_case {P} goals case part e k = go (slice_get goals case) refl
  where
    go : (found : Option Goal) → slice_get goals case ≡ found → P
    go None f = absurd (none_passes (rw f at e))
      where
        none_passes : bool_ok false ≡ Ok true → ⊥
        none_passes g = cc
    go (Some goal) f = k goal f (rw f at e)

goal_met : (goal : Goal) (numbers : List Fraction) (p : ArePositive numbers) → tested_point goal numbers ≡ Ok true → Meets (point_of (goal_columns goal) numbers p) goal.rows
goal_met goal numbers p e =
    on_parts (Ok (length numbers == length (goal_columns goal))) (meets (ratio_value (ratio_at (goal_columns goal) numbers)) goal.rows) e
    (λ f g. point-meets (goal_columns goal) numbers p goal.rows g)

point_reaches : (at : ℤ) (goal : Goal) (numbers : List Fraction) (p : ArePositive numbers) → (ratio_value (ratio_at (goal_columns goal) numbers) goal.objective >>= λ v. is_at_least v at) ≡ Ok true → (at *ℤ over_of numbers) ≤ℤ sum_at (point_of (goal_columns goal) numbers p) goal.objective
point_reaches at goal numbers p e =
    on_ok (ratio_value (ratio_at (goal_columns goal) numbers) goal.objective) (λ v. is_at_least v at) true e
    (λ v f g. reached at (sum_at (point_of (goal_columns goal) numbers p) goal.objective) (over_of numbers) v (over_of-positive numbers p)
    (ratio_value-stands (ratio_at (goal_columns goal) numbers) (numerator_of (goal_columns goal) numbers) (over_of numbers) goal.objective v (λ m. Stands-ratio_at (goal_columns goal) numbers m p) f) g)

is_reached : (at : ℤ) (goals : List Goal) (case : ℕ) (numbers : List Fraction) → ArePositive numbers → of_case goals case (λ goal. tested_reached at goal numbers) ≡ Ok true → IsReached at goals
is_reached at goals case numbers p e =
    on_case goals case (λ goal. tested_reached at goal numbers) e
    (λ goal f g. on_parts (tested_point goal numbers) (ratio_value (ratio_at (goal_columns goal) numbers) goal.objective >>= λ v. is_at_least v at) g
    (λ h k. record { case = case; goal = goal; is = f; point = point_of (goal_columns goal) numbers p; met = goal_met goal numbers p h; reached = point_reaches at goal numbers p k }))

rounded_sup : (at : ℤ) (goals : List Goal) (certs : List Cert) (case : ℕ) (numbers : List Fraction) → AllByRecursion Goals.IsCanonicalGoal goals → ArePositive numbers → tested_bound at goals certs case numbers ≡ Ok true → IsRoundedSup at goals
rounded_sup at goals certs case numbers k p e =
    on_parts (Ok (length certs == length goals)) (and_then (tested_certs at goals certs) (of_case goals case (λ goal. tested_reached at goal numbers))) e
    (λ f g. on_parts (tested_certs at goals certs) (of_case goals case (λ goal. tested_reached at goal numbers)) g
    (λ h l. record {
      below = bounded_below at goals certs (same_length (length certs) (length goals) (ok_true (length certs == length goals) f)) k h;
      reached = is_reached at goals case numbers p l;
    }))

-- ---- along a ray

-- the point after k steps of a ray
abbrev moved : (List Col → ℤ) → ℤ → (List Col → ℤ) → ℤ → List Col → ℤ
moved x d y k m = x m *ℤ d +ℤ y m *ℤ k

terms_at-moved : (x y : List Col → ℤ) (d k : ℤ) (ts : Terms) → terms_at (moved x d y k) ts ≡ terms_at x ts *ℤ d +ℤ terms_at y ts *ℤ k
terms_at-moved x y d k [] = rw (zero-*ℤ d, zero-*ℤ k) refl
terms_at-moved x y d k (t ∷ ts) = ap (λ z. t.1 *ℤ moved x d y k t.0 +ℤ z) (terms_at-moved x y d k ts) ∙ regroup t.1 (x t.0) (y t.0) (terms_at x ts) (terms_at y ts)
  where
    regroup : (c v w s t : ℤ) → c *ℤ (v *ℤ d +ℤ w *ℤ k) +ℤ (s *ℤ d +ℤ t *ℤ k) ≡ (c *ℤ v +ℤ s) *ℤ d +ℤ (c *ℤ w +ℤ t) *ℤ k
    regroup c v w s t = simp ring (omega (arith, ints))

-- the value of a polynomial there
sum-moved : (x y : List Col → ℤ) (e d k : ℤ) (p : Polynomial) → terms_at (moved x d y k) p.terms +ℤ p.rest *ℤ (e *ℤ d) ≡ (terms_at x p.terms +ℤ p.rest *ℤ e) *ℤ d +ℤ terms_at y p.terms *ℤ k
sum-moved x y e d k p = ap (λ z. z +ℤ p.rest *ℤ (e *ℤ d)) (terms_at-moved x y d k p.terms) ∙ regroup (terms_at x p.terms) (terms_at y p.terms) p.rest
  where
    regroup : (s t r : ℤ) → s *ℤ d +ℤ t *ℤ k +ℤ r *ℤ (e *ℤ d) ≡ (s +ℤ r *ℤ e) *ℤ d +ℤ t *ℤ k
    regroup s t r = simp ring (omega (arith, ints))

within_moved : (kind : Kind) (a b d k : ℤ) → pos 0 ≤ℤ d → pos 0 ≤ℤ k → IsWithin kind a → IsWithin kind b → IsWithin kind (a *ℤ d +ℤ b *ℤ k)
within_moved AtMost a b d k p q f g = add (a *ℤ d) (b *ℤ k) (pos 0 *ℤ d) (pos 0 *ℤ k) (≤ℤ-*ℤ a (pos 0) d p f) (≤ℤ-*ℤ b (pos 0) k q g) (zero-*ℤ d) (zero-*ℤ k)
  where
    add : (x y u v : ℤ) → x ≤ℤ u → y ≤ℤ v → u ≡ pos 0 → v ≡ pos 0 → (x +ℤ y) ≤ℤ pos 0
    add x y u v p q f g = omega (arith, ints)
within_moved Equal a b d k p q f g = rw (f, g, zero-*ℤ d, zero-*ℤ k) refl

rows_moved : (x y : List Col → ℤ) (e d k : ℤ) → pos 0 ≤ℤ d → pos 0 ≤ℤ k → (rows : List Row)
    → AllByRecursion (λ (row : Row). IsWithin row.kind (terms_at x row.poly.terms +ℤ row.poly.rest *ℤ e)) rows
    → AllByRecursion (λ (row : Row). IsWithin row.kind (terms_at y row.poly.terms)) rows
    → AllByRecursion (λ (row : Row). IsWithin row.kind (terms_at (moved x d y k) row.poly.terms +ℤ row.poly.rest *ℤ (e *ℤ d))) rows
rows_moved x y e d k p q [] f g = tt
rows_moved x y e d k p q (row ∷ rows) f g = (
  subst (IsWithin row.kind) (sym (sum-moved x y e d k row.poly)) (within_moved row.kind (terms_at x row.poly.terms +ℤ row.poly.rest *ℤ e) (terms_at y row.poly.terms) d k p q f.0 g.0),
  rows_moved x y e d k p q rows f.1 g.1,
)

-- how many steps are enough: as many as the objective still wants
steps : ℤ → ℤ
steps z = pos (unsigned_abs z)

enough : (z : ℤ) → z ≤ℤ steps z
unfolding steps
enough (pos n) = omega (arith, ints)
enough (negsuc n) = omega (arith, ints)

not_negative : (z : ℤ) → pos 0 ≤ℤ steps z
unfolding steps
not_negative z = omega (arith, ints)

-- the objective gets past any number: v / e at the start, and s along the ray
far_enough : (at v s e d : ℤ) → pos 0 <ℤ s → (at *ℤ (e *ℤ d)) ≤ℤ (v *ℤ d +ℤ s *ℤ steps (at *ℤ (e *ℤ d) -ℤ v *ℤ d))
far_enough at v s e d p =
    go (at *ℤ (e *ℤ d)) (v *ℤ d) (steps (at *ℤ (e *ℤ d) -ℤ v *ℤ d)) (s *ℤ steps (at *ℤ (e *ℤ d) -ℤ v *ℤ d)) (enough (at *ℤ (e *ℤ d) -ℤ v *ℤ d))
    (more (steps (at *ℤ (e *ℤ d) -ℤ v *ℤ d)) (not_negative (at *ℤ (e *ℤ d) -ℤ v *ℤ d)))
  where
    go : (a b t u : ℤ) → (a -ℤ b) ≤ℤ t → t ≤ℤ u → a ≤ℤ (b +ℤ u)
    go a b t u h k = omega (arith, ints)

    one_at_least : (z : ℤ) → pos 0 <ℤ z → pos 1 ≤ℤ z
    one_at_least z h = omega (arith, ints)

    more : (t : ℤ) → pos 0 ≤ℤ t → t ≤ℤ (s *ℤ t)
    more t h = subst (λ (z : ℤ). z ≤ℤ (s *ℤ t)) (one-*ℤ t) (≤ℤ-*ℤ (pos 1) s t h (one_at_least s p))

unbounded : (goals : List Goal) (case : ℕ) (numbers ray : List Fraction) → ArePositive numbers → ArePositive ray → tested_unbounded goals case numbers ray ≡ Ok true → (at : ℤ) → IsReached at goals
unbounded goals case numbers ray p q e at =
    on_case goals case (λ goal. and_then (tested_point goal numbers) (tested_ray goal ray)) e
    (λ goal f g. on_parts (tested_point goal numbers) (tested_ray goal ray) g
    (λ h k. on_parts (and_then (Ok (length ray == length (goal_columns goal))) (meets (slope_at (ratio_at (goal_columns goal) ray)) goal.rows)) (slope_at (ratio_at (goal_columns goal) ray) goal.objective >>= λ v. bool_ok (int_lt (pos 0) v.num)) k
    (λ l m. on_parts (Ok (length ray == length (goal_columns goal))) (meets (slope_at (ratio_at (goal_columns goal) ray)) goal.rows) l
    (λ n o. on_ok (slope_at (ratio_at (goal_columns goal) ray) goal.objective) (λ v. bool_ok (int_lt (pos 0) v.num)) true m
    (λ v r s. made goal f h (meets-each (slope_at (ratio_at (goal_columns goal) ray)) (λ p. terms_at (numerator_of (goal_columns goal) ray) p.terms) (over_of ray) (over_of-positive ray q) (stands goal) goal.rows o)
    (grows (terms_at (numerator_of (goal_columns goal) ray) goal.objective.terms) (over_of ray) v (over_of-positive ray q) (stands goal goal.objective v r) (ok_true (int_lt (pos 0) v.num) s)))))))
  where
    stands : (goal : Goal) (p : Polynomial) (r : Fraction) → slope_at (ratio_at (goal_columns goal) ray) p ≡ Ok r → Stands r (terms_at (numerator_of (goal_columns goal) ray) p.terms) (over_of ray)
    stands goal p r f = slope_at-stands (ratio_at (goal_columns goal) ray) (numerator_of (goal_columns goal) ray) (over_of ray) p r (λ m. Stands-ratio_at (goal_columns goal) ray m q) f

    weak : (z : ℤ) → pos 0 <ℤ z → pos 0 ≤ℤ z
    weak z h = omega (arith, ints)

    made : (goal : Goal) → slice_get goals case ≡ Some goal → tested_point goal numbers ≡ Ok true
        → AllByRecursion (λ (row : Row). IsWithin row.kind (terms_at (numerator_of (goal_columns goal) ray) row.poly.terms)) goal.rows
        → pos 0 <ℤ terms_at (numerator_of (goal_columns goal) ray) goal.objective.terms → IsReached at goals
    made goal f h each grow =
        let x = numerator_of (goal_columns goal) numbers in
        let y = numerator_of (goal_columns goal) ray in
        let e = over_of numbers in
        let d = over_of ray in
        let v = terms_at x goal.objective.terms +ℤ goal.objective.rest *ℤ e in
        let k = steps (at *ℤ (e *ℤ d) -ℤ v *ℤ d) in
        record {
          case = case;
          goal = goal;
          is = f;
          point = record { numerator = moved x d y k; over = e *ℤ d; positive = positive_product e d (over_of-positive numbers p) (over_of-positive ray q) };
          met = rows_moved x y e d k (weak d (over_of-positive ray q)) (not_negative (at *ℤ (e *ℤ d) -ℤ v *ℤ d)) goal.rows (goal_met goal numbers p h) each;
          reached = subst (λ (z : ℤ). (at *ℤ (e *ℤ d)) ≤ℤ z) (sym (sum-moved x y e d k goal.objective)) (far_enough at v (terms_at y goal.objective.terms) e d grow);
        }

-- ---- whole numbers

at_most : (at top bottom : ℤ) → pos 0 <ℤ bottom → top <ℤ ((at +ℤ pos 1) *ℤ bottom) → (goals : List Goal) → AllByRecursion (IsBounded top bottom) goals → AllByRecursion (IsAtMost at) goals
at_most at top bottom p below [] b = tt
at_most at top bottom p below (goal ∷ goals) b = (λ v h. here v h, at_most at top bottom p below goals b.1)
  where
    not_above : (x : ℤ) → (x *ℤ bottom) ≤ℤ (top *ℤ pos 1) → x ≤ℤ at
    not_above x h = by_lt_z at x (λ above. absurd (clash x (≤ℤ-*ℤ (at +ℤ pos 1) x bottom (weak p) (next x above)) (*ℤ-one top) h)) (λ done. done)
      where
        weak : pos 0 <ℤ bottom → pos 0 ≤ℤ bottom
        weak q = omega (arith, ints)

        next : (x : ℤ) → at <ℤ x → (at +ℤ pos 1) ≤ℤ x
        next x q = omega (arith, ints)

        chain : (a b c d : ℤ) → a ≤ℤ b → b ≤ℤ c → c ≡ d → d <ℤ a → ⊥
        chain a b c d f g h k = omega (arith, ints)

        clash : (x : ℤ) → ((at +ℤ pos 1) *ℤ bottom) ≤ℤ (x *ℤ bottom) → top *ℤ pos 1 ≡ top → (x *ℤ bottom) ≤ℤ (top *ℤ pos 1) → ⊥
        clash x f g h = chain ((at +ℤ pos 1) *ℤ bottom) (x *ℤ bottom) (top *ℤ pos 1) top f h g below

    here : (v : Valuation) → RowsHold v goal.rows → value_of v goal.objective ≤ℤ at
    here v h = not_above (value_of v goal.objective) (subst (λ (z : ℤ). (z *ℤ bottom) ≤ℤ (top *ℤ pos 1)) (sum_at-value v goal.objective) (b.0 (point_at v) (met_at v goal.rows h)))

-- ---- answers

-- by recursion on the lists
abbrev canonical_goals : List Goal → Type 0
canonical_goals goals = AllByRecursion Goals.IsCanonicalGoal goals

rows_too : (rows : List Row) → AreCanonical rows → CanonicalRows rows
rows_too rows h = recursion_from_All (λ (row : Row). IsCanonical row.poly.terms) rows h

goals_too : (goals : List Goal) → All IsCanonicalGoal goals → canonical_goals goals
goals_too [] h = tt
goals_too (goal ∷ goals) h =
    let first : IsCanonicalGoal goal = All-head IsCanonicalGoal goal goals h in
    (record { rows = rows_too goal.rows first.rows; objective = first.objective }, goals_too goals (All-tail IsCanonicalGoal goal goals h))

numbers_too : (numbers : List Fraction) → All (λ (r : Fraction). pos 0 <ℤ r.den) numbers → ArePositive numbers
numbers_too numbers h = recursion_from_All (λ (r : Fraction). pos 0 <ℤ r.den) numbers h

fails : {P : Type 0} → bool_ok false ≡ Ok true → P
fails e = cc

pub tight : (question : Question) (answer : Answer) → IsCanonicalQuestion question → HasPositive answer → outcome question answer ≡ Ok true → (IsLimit answer → ⊥) → IsTight question answer
tight (Infeasible rows) (answer.Yes by) k p e h = no_point rows by (rows_too rows k) e
tight (Infeasible rows) (answer.No numbers) k p e h = has_point rows numbers (numbers_too numbers p) e
tight (Infeasible rows) (answer.Bound at certs case point) k p e h = fails e
tight (Infeasible rows) (answer.Unbounded case point ray) k p e h = fails e
tight (Infeasible rows) (answer.Basis relations spots free) k p e h = fails e
tight (Infeasible rows) (answer.Limit limit) k p e h = h tt
tight (Sup goals) (answer.Yes by) k p e h = fails e
tight (Sup goals) (answer.No numbers) k p e h = fails e
tight (Sup goals) (answer.Bound at certs case point) k p e h = rounded_sup at goals certs case point (goals_too goals k) (numbers_too point p) e
tight (Sup goals) (answer.Unbounded case point ray) k p e h = unbounded goals case point ray (numbers_too point p.0) (numbers_too ray p.1) e
tight (Sup goals) (answer.Basis relations spots free) k p e h = fails e
tight (Sup goals) (answer.Limit limit) k p e h = h tt
tight (Stratum asked) (answer.Yes by) k p e h = fails e
tight (Stratum asked) (answer.No numbers) k p e h = fails e
tight (Stratum asked) (answer.Bound at certs case point) k p e h = fails e
tight (Stratum asked) (answer.Unbounded case point ray) k p e h = fails e
tight (Stratum asked) (answer.Basis relations spots free) k p e h = basis_tight asked.cases asked.lower relations spots free k p e
tight (Stratum asked) (answer.Limit limit) k p e h = h tt

pub sound : (question : Question) (answer : Answer) → IsCanonicalQuestion question → HasPositive answer → outcome question answer ≡ Ok true → IsTrueAnswer question answer
sound (Infeasible rows) (answer.Yes by) k p e = λ at h. no_point rows by (rows_too rows k) e (point_at at) (met_at at rows h)
sound (Infeasible rows) (answer.No numbers) k p e = tt
sound (Infeasible rows) (answer.Bound at certs case point) k p e = tt
sound (Infeasible rows) (answer.Unbounded case point ray) k p e = tt
sound (Infeasible rows) (answer.Basis relations spots free) k p e = tt
sound (Infeasible rows) (answer.Limit limit) k p e = tt
sound (Sup goals) (answer.Yes by) k p e = tt
sound (Sup goals) (answer.No numbers) k p e = tt
sound (Sup goals) (answer.Bound at certs case point) k p e =
    let sup : IsBoundedBelow (at +ℤ pos 1) goals = (rounded_sup at goals certs case point (goals_too goals k) (numbers_too point p) e).below in
    at_most at sup.top sup.bottom sup.positive sup.below goals sup.bounded
sound (Sup goals) (answer.Unbounded case point ray) k p e = tt
sound (Sup goals) (answer.Basis relations spots free) k p e = tt
sound (Sup goals) (answer.Limit limit) k p e = tt
sound (Stratum asked) (answer.Yes by) k p e = tt
sound (Stratum asked) (answer.No numbers) k p e = tt
sound (Stratum asked) (answer.Bound at certs case point) k p e = tt
sound (Stratum asked) (answer.Unbounded case point ray) k p e = tt
sound (Stratum asked) (answer.Basis relations spots free) k p e = basis_true asked.cases asked.lower relations spots free k e
sound (Stratum asked) (answer.Limit limit) k p e = tt

pub passing : PassingIsTrue
passing question answer p = (sound question answer p.canonical p.positive p.passed, λ h. tight question answer p.canonical p.positive p.passed h)
