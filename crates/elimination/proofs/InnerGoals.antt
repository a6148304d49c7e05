-- The search for numbers on which each of a few small lines is negative: it finds a corner, or
-- there are none.
use Rattle.std.proofs.Common.{◌≡◌, ℕ, suc, ◌+◌, ◌-◌, ◌*◌, ◌<◌, ◌≤◌, List, [], ◌∷◌, map, length, refl, sym, ap, subst, ◌∙◌, arith, ℤ, pos, negsuc, ◌+ℤ◌, ◌*ℤ◌, ◌≤ℤ◌}
use Rattle.std.specs.Prelude.{◌^◌, unsigned_abs, MatchOption}
use Rattle.std.specs.List.{AllByRecursion}
use Rattle.std.proofs.lemmas.Int.{ints}
use Rattle.std.proofs.Math.Nat.{pow-le-pow_left, pow-le-pow_right}
use Rattle.whole_numbers.specs.declared.wide.Wide as Step
use Rattle.linear_terms.specs.declared.col.Col.{Col}
use Rattle.linear_terms.specs.declared.col.Col.TheVariants.{At, Aux}
use Rattle.linear_terms.specs.declared.row.Kind.{Kind}
use Rattle.linear_terms.specs.declared.row.Row.{Row}
use Rattle.linear_terms.specs.Polynomial.{Polynomial, constant_of}
use Rattle.linear_terms.specs.Row.{AreCanonical}
use Rattle.linear_terms.proofs.Canonical.{IsCanonical-nil}
use Rattle.farkas_check.specs.declared.question.Goal.{Goal}
use Rattle.farkas_check.specs.Calm.{paired_sum, IsCalmGoal}
use Rattle.farkas_check.specs.Frames.{frame_of, line_count, choose}
use Rattle.farkas_check.specs.Kept.{IsCanonicalGoal}
use Rattle.farkas_check.specs.Rational.{RationalPoint, terms_at, IsTrueAt}
use Rattle.farkas_check.specs.Relations.{entry}
use Rattle.farkas_check.specs.Sizes.{row_polys, HasRationalPoint, HasNumbersUpTo}
use Rattle.farkas_check.specs.Tested.{goal_columns}
use Rattle.simplex.specs.Refusal.{IsRefusalIn}
use Rattle.simplex.specs.Rows.{kinds_of}
use Rattle.simplex.specs.Suprema.{with_goal, goal_frame, IsSupremumOf}
use Rattle.simplex.specs.declared.stop.SearchStop.TheVariants as stop
use Rattle.simplex.specs.declared.supremum.Supremum.{Supremum}
use Rattle.simplex.specs.declared.supremum.Supremum.TheVariants as supremum
use Rattle.simplex.proofs.CalmGoals.{goal_small}
use Rattle.simplex.proofs.Emptiness.{no_point_of}
use Rattle.simplex.proofs.RowTableaux.{kinds-length}
use Rattle.simplex.proofs.Objectives.{more_rows}
use Rattle.simplex.proofs.Tame.{fits_twice}
use Rattle.elimination.specs.Descents.{AreSmallLines, IsBelow, HasNoDescent, line_poly, line_row, line_goal, point_of, IsLineCorner}
use Rattle.elimination.proofs.Frames.{calm_frame}
use Rattle.elimination.proofs.InnerTerms.{line_value, line_rest, line-small, few_columns}
use Rattle.elimination.proofs.Narrowness.{lines-small, lines-length, polys-length, choose-small}

-- ---- the goal is calm

pub rows-length : (lines : List (List ℤ)) → length (map line_row lines) ≡ length lines
rows-length [] = refl
rows-length (line ∷ lines) = ap (λ (n : ℕ). suc n) (rows-length lines)

pub polys-small : (lines : List (List ℤ)) (more : List Polynomial) → AllByRecursion (λ line. AllByRecursion (λ z. unsigned_abs z ≤ 4) line) lines → AllByRecursion (HasNumbersUpTo 4) more → AllByRecursion (HasNumbersUpTo 4) (row_polys (map line_row lines) more)
polys-small [] more h k = k
polys-small (line ∷ lines) more h k = (line-small line h.0, polys-small lines more h.1 k)

power-small : (a u : ℕ) → a ≤ 56 → u ≤ 5 → a ^ u ≤ 1099511627776
power-small a u h k =
    let x : a ^ u ≤ 56 ^ u = pow-le-pow_left h u in
    let y : 56 ^ u ≤ 56 ^ 5 = pow-le-pow_right {n = 56} (omega arith) k in
    omega (arith, x, y)

module _ (count : ℕ) (lines : List (List ℤ)) (s : AreSmallLines count lines) where
  abbrev cs : List (List Col)
  cs = goal_columns (line_goal lines)

  abbrev rows : List Row
  rows = map line_row lines

  -- the rows' polynomials, and last that of the objective
  abbrev polys : List Polynomial
  polys = row_polys rows (constant_of (pos 0) ∷ [])

  abbrev kinds : List Kind
  kinds = kinds_of (with_goal rows (constant_of (pos 0)))

  pub four_columns : length cs ≤ 4
  four_columns = let a : length cs ≤ count = few_columns lines count s.each in let b : count ≤ 4 = s.few_columns in omega (arith, a, b)

  few_rows : length rows ≤ 13
  few_rows = let a : length rows ≡ length lines = rows-length lines in let b : length lines ≤ 13 = s.few in omega (arith, a, b)

  few_lines : line_count (frame_of cs polys) ≤ 14
  few_lines =
      let a : line_count (frame_of cs polys) ≡ length polys = lines-length cs polys in
      let b : length polys ≡ length rows + 1 = polys-length rows (constant_of (pos 0) ∷ []) in
      let c : length rows ≤ 13 = few_rows in
      omega (arith, a, b, c)

  small : AllByRecursion (HasNumbersUpTo 4) polys
  small = polys-small lines (constant_of (pos 0) ∷ []) s.small (record { terms = tt; rest = omega arith }, tt)

  few_units : length cs + 1 ≤ 5
  few_units = let h : length cs ≤ 4 = four_columns in omega (arith, h)

  calm_goal : IsCalmGoal (line_goal lines)
  calm_goal = record {
    few_rows = let h : length rows ≤ 13 = few_rows in omega (arith, h);
    few_columns = let h : length cs ≤ 4 = four_columns in omega (arith, h);
    calm = calm_frame 1099511627776 4 (frame_of cs polys) (omega arith) (omega arith) (λ l j. lines-small 4 cs polys l j small)
        (power-small (line_count (frame_of cs polys) * 4) (length cs + 1) (let h : line_count (frame_of cs polys) ≤ 14 = few_lines in omega (arith, h)) few_units)
        (power-small ((length cs + 1) * 4) (length cs + 1) (let h : length cs ≤ 4 = four_columns in omega (arith, h)) few_units);
  }

  never_wide_here : (step : Step.Wide) → IsRefusalIn (goal_frame (line_goal lines)) (length rows + 1) (stop.Wide step) → ⊥
  never_wide_here step r = r.great 1099511627776 fits_twice (goal_small (line_goal lines) calm_goal)

  few_turns : 2 ^ 127 - 1 < choose (length cs + 1 + length kinds) (length kinds) → ⊥
  few_turns many =
      let n : length kinds ≡ length rows + 1 = kinds-length (with_goal rows (constant_of (pos 0))) ∙ more_rows rows (constant_of (pos 0)) in
      let four : length cs ≤ 4 = four_columns in
      let thirteen : length rows ≤ 13 = few_rows in
      let exponent : length cs + 1 + length kinds ≤ 19 = omega (arith, n, four, thirteen) in
      let few : choose (length cs + 1 + length kinds) (length kinds) ≤ 2 ^ (length cs + 1 + length kinds) = choose-small (length cs + 1 + length kinds) (length kinds) in
      let up : 2 ^ (length cs + 1 + length kinds) ≤ 2 ^ 19 = pow-le-pow_right {n = 2} (omega arith) exponent in
      omega (arith, few, up, many)

  -- ---- numbers give a point

  abbrev number_of : List Col → ℕ
  number_of [] = 0
  number_of (At n ∷ m) = n
  number_of (Aux n ∷ m) = 0

  abbrev point_at : List ℤ → RationalPoint
  point_at numbers = record { numerator = λ m. entry numbers (number_of m); over = pos 1; positive = omega (arith, ints) }

  all_true : (numbers : List ℤ) (own : List (List ℤ)) → AllByRecursion (λ line. length line ≡ count) own → length numbers ≡ count → AllByRecursion (IsBelow numbers) own → AllByRecursion (IsTrueAt (point_at numbers)) (map line_row own)
  all_true numbers [] each same below = tt
  all_true numbers (line ∷ own) each same below = (
    with_one (paired_sum line numbers) (terms_at (λ m. entry numbers (number_of m)) (line_poly line).terms) (line_poly line).rest
        (line_value (λ m. entry numbers (number_of m)) (pos 1) (pos 1) 0 line numbers (same ∙ sym each.0) (λ j h. ap (λ (i : ℕ). entry numbers i *ℤ pos 1) (let e : j ≡ 0 + j = omega arith in e))) (line_rest 0 line) below.0,
    all_true numbers own each.1 same below.1,
  )
    where
      with_one : (p t r : ℤ) → p *ℤ pos 1 ≡ t *ℤ pos 1 → r ≡ pos 1 → p ≤ℤ negsuc 0 → (t +ℤ r *ℤ pos 1) ≤ℤ pos 0
      with_one p t r e f h = omega (arith, ints, e, f, h)

  has_point : (numbers : List ℤ) → length numbers ≡ count → AllByRecursion (IsBelow numbers) lines → HasRationalPoint rows
  has_point numbers same below = record { point = point_at numbers; met = all_true numbers lines s.each same below }

  -- ---- what the search finds

  canonical_goal : AreCanonical rows → IsCanonicalGoal (line_goal lines)
  canonical_goal k = record { rows = k; objective = IsCanonical-nil }

  found_here : (found : Supremum) → AreCanonical rows → IsSupremumOf (line_goal lines) (2 ^ 127 - 1) found → MatchOption (point_of found) (HasNoDescent count lines) (IsLineCorner lines)
  found_here supremum.Empty k f = record { none = λ numbers same below. no_point_of (line_goal lines) f.0 f.1.0 (canonical_goal k) f.1.1 (has_point numbers same below) }
  found_here supremum.Pivots k f = absurd (few_turns f)
  found_here (supremum.Bound cert point) k f = record { objective = constant_of (pos 0); tableau = f.0; enters = f.1.0; met = f.1.1.0.met; corner = f.1.1.2 }
  found_here (supremum.Unbounded point ray) k f = record { objective = constant_of (pos 0); tableau = f.0; enters = f.1.0; met = f.1.1.1.1.0.met; corner = f.1.1.1.1.1 }

pub found_corner : (count : ℕ) (lines : List (List ℤ)) (goal : Goal) (found : Supremum) → AreSmallLines count lines → goal ≡ line_goal lines → AreCanonical goal.rows → IsSupremumOf goal (2 ^ 127 - 1) found → MatchOption (point_of found) (HasNoDescent count lines) (IsLineCorner lines)
found_corner count lines goal found s is k f = found_here count lines s found (subst (λ (g : Goal). AreCanonical g.rows) is k) (subst (λ (g : Goal). IsSupremumOf g (2 ^ 127 - 1) found) is f)

-- the search never leaves 128 bits
pub never_wide : (count : ℕ) (lines : List (List ℤ)) (goal : Goal) (step : Step.Wide) → AreSmallLines count lines → goal ≡ line_goal lines → IsRefusalIn (goal_frame goal) (length goal.rows + 1) (stop.Wide step) → ⊥
never_wide count lines goal step s is r = never_wide_here count lines s step (subst (λ (g : Goal). IsRefusalIn (goal_frame g) (length g.rows + 1) (stop.Wide step)) is r)
