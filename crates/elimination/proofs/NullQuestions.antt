-- The question whether the equations of regular lines have no point is calm and they have one,
-- whose numbers are a null vector.
use Rattle.std.proofs.Common.{◌≡◌, ℕ, ◌+◌, ◌*◌, ◌<◌, ◌≤◌, Bool, cond, List, [], ◌∷◌, length, map, get_or, refl, sym, ap, subst, ◌∙◌, arith, ℤ, pos, ◌+ℤ◌, ◌*ℤ◌, ◌≤ℤ◌, ◌<ℤ◌}
use Rattle.std.specs.Prelude.{◌^◌, unsigned_abs, neg_ℤ}
use Rattle.std.specs.List.{AllByRecursion}
use Rattle.std.proofs.lemmas.Int.{ints, by_lt_z}
use Rattle.std.proofs.lemmas.Bool.{eq-eqb, ne_eqb}
use Rattle.std.proofs.lemmas.List.{length-map}
use Rattle.std.proofs.Math.Nat.{pow-le-pow_left, pow-le-pow_right}
use Rattle.whole_numbers.proofs.Ring.{ring, *ℤ-positive}
use Rattle.linear_terms.specs.declared.col.Col.{Col}
use Rattle.linear_terms.specs.declared.col.Col.TheVariants.{At, Aux}
use Rattle.linear_terms.specs.Polynomial.{Polynomial}
use Rattle.farkas_check.specs.declared.question.Question.TheVariants.{Infeasible}
use Rattle.farkas_check.specs.Calm.{IsLiveAndCalm, choices}
use Rattle.farkas_check.specs.Columns.{columns}
use Rattle.farkas_check.specs.Frames.{line_of, frame_of, line_count, IsCalmUpTo}
use Rattle.farkas_check.specs.Rational.{RationalPoint, sum_at, Meets}
use Rattle.farkas_check.specs.Sizes.{row_polys, HasRationalPoint, HasNumbersUpTo}
use Rattle.simplex.proofs.Sums.{sum_below-same}
use Rattle.elimination.specs.Equations.{poly_from, equation_of, AreRegularLines}
use Rattle.elimination.specs.Probes.{HasSolution, number_at}
use Rattle.elimination.proofs.Frames.{calm_frame}
use Rattle.elimination.proofs.Narrowness.{lines-small, lines-length, polys-length, few_choices, weaken}
use Rattle.elimination.proofs.NullEquations.{numerator_at, line_sum, each_at, equations_hold, equation_holds, few_columns, poly_from-small}
use Rattle.elimination.proofs.NullSystems.{sum_below-more, sum_of_multiples, IsNull}

-- ---- calm

power-small : (a u : ℕ) → a ≤ 28 → u ≤ 7 → a ^ u ≤ 1099511627776
power-small a u h k =
    let x : a ^ u ≤ 28 ^ u = pow-le-pow_left h u in
    let y : 28 ^ u ≤ 28 ^ 7 = pow-le-pow_right {n = 28} (omega arith) k in
    omega (arith, x, y)

calm_polys : (cs : List (List Col)) (ps : List Polynomial) → length cs ≤ 6 → length ps ≤ 7 → AllByRecursion (HasNumbersUpTo 4) ps → IsCalmUpTo 1099511627776 (frame_of cs ps)
calm_polys cs ps columns_few few small =
    calm_frame 1099511627776 4 (frame_of cs ps) (omega arith) (omega arith) (λ l j. lines-small 4 cs ps l j small)
    (power-small (line_count (frame_of cs ps) * 4) (length cs + 1) (let e : length (map (line_of cs) ps) ≡ length ps = lines-length cs ps in omega (arith, e, few)) (omega (arith, columns_few)))
    (power-small ((length cs + 1) * 4) (length cs + 1) (omega (arith, columns_few)) (omega (arith, columns_few)))

equations-small : (lines : List (List ℤ)) → AllByRecursion (AllByRecursion (λ z. unsigned_abs z ≤ 4)) lines → AllByRecursion (HasNumbersUpTo 4) (row_polys (map equation_of lines) [])
equations-small [] h = tt
equations-small (line ∷ lines) h = (poly_from-small 4 0 line h.0, equations-small lines h.1)

pub equations_calm : (lines : List (List ℤ)) → AreRegularLines lines → IsLiveAndCalm (Infeasible (map equation_of lines))
equations_calm lines r = record {
  live = λ h. h;
  calm = record {
    few_cases = omega arith;
    cases = record {
      few_rows = omega (arith, row_count, r.few);
      few_columns = omega (arith, columns_few);
      calm = calm_polys (columns (map equation_of lines) []) (row_polys (map equation_of lines) []) columns_few (let e : length (row_polys (map equation_of lines) []) ≡ length (map equation_of lines) + length {A = Polynomial} [] = polys-length (map equation_of lines) [] in omega (arith, e, row_count, r.few)) (equations-small lines r.small);
    };
  };
  few = weaken (choices (Infeasible (map equation_of lines))) (few_choices (length (columns (map equation_of lines) []) + 1 + (length (map equation_of lines) + 1)) (length (map equation_of lines) + 1) (omega (arith, row_count, columns_few, r.few)), tt);
}
  where
    row_count : length (map equation_of lines) ≡ length lines
    row_count = length-map lines equation_of

    columns_few : length (columns (map equation_of lines) []) ≤ 6
    columns_few = let h : length (columns (map equation_of lines) []) ≤ length lines = few_columns (length lines) lines r.wide in omega (arith, h, r.few)

-- ---- a point

-- numbers at the entry columns
number_of : (ℕ → ℤ) → List Col → ℤ
number_of x [] = pos 0
number_of x (Aux j ∷ m) = pos 0
number_of x (At j ∷ m) = x j

number_of-entry : (x : ℕ → ℤ) (j : ℕ) → number_of x (At j ∷ []) ≡ x j
unfolding number_of
number_of-entry x j = refl

square_positive : (z : ℤ) → (z ≡ pos 0 → ⊥) → pos 0 <ℤ (z *ℤ z)
square_positive z n = by_lt_z (pos 0) z (λ above. *ℤ-positive z z above above) (λ below. subst (λ w. pos 0 <ℤ w) (signs z) (*ℤ-positive (neg_ℤ z) (neg_ℤ z) (turned z below n) (turned z below n)))
  where
    turned : (z : ℤ) → z ≤ℤ pos 0 → (z ≡ pos 0 → ⊥) → pos 0 <ℤ neg_ℤ z
    turned z h n = omega (arith, ints, h, n)

    signs : (z : ℤ) → neg_ℤ z *ℤ neg_ℤ z ≡ z *ℤ z
    signs z = simp ring (omega (arith, ints))

pub equations_point : (lines : List (List ℤ)) → AreRegularLines lines → HasRationalPoint (map equation_of lines)
equations_point lines r = by_solution (r.regular.lines (λ i. neg_ℤ (number_at lines i (length lines))))
  where
    k : ℕ
    k = length lines

    by_solution : HasSolution (length lines) (number_at lines) (λ i. neg_ℤ (number_at lines i (length lines))) → HasRationalPoint (map equation_of lines)
    by_solution s = record { point = point; met = equations_hold point lines zero_at }
      where
        point : RationalPoint
        point = record { numerator = number_of (λ j. s.scale *ℤ s.x j); over = s.scale *ℤ s.scale; positive = square_positive s.scale s.apart }

        level : (s c : ℤ) → s *ℤ (s *ℤ neg_ℤ c) +ℤ c *ℤ (s *ℤ s) ≡ pos 0
        level s c = simp ring (omega (arith, ints))

        before : (i j : ℕ) → j < length lines → number_at lines i j *ℤ numerator_at point (length lines) j ≡ number_at lines i j *ℤ (s.scale *ℤ s.x j)
        before i j h = ap (λ (b : Bool). number_at lines i j *ℤ cond b point.over (point.numerator (At j ∷ []))) (ne_eqb j (length lines) (λ e. omega (arith, h, e))) ∙ ap (λ z. number_at lines i j *ℤ z) (number_of-entry (λ j. s.scale *ℤ s.x j) j)

        at_end : (i : ℕ) → number_at lines i (length lines) *ℤ numerator_at point (length lines) (length lines) ≡ number_at lines i (length lines) *ℤ (s.scale *ℤ s.scale)
        at_end i = ap (λ (b : Bool). number_at lines i (length lines) *ℤ cond b point.over (point.numerator (At (length lines) ∷ []))) (eq-eqb (length lines) (length lines) refl)

        zero_at : (i : ℕ) → i < length lines → sum_at point (poly_from 0 (get_or lines i [])) ≡ pos 0
        zero_at i h =
            line_sum point (length lines) (get_or lines i []) (each_at (λ (line : List ℤ). length line ≡ length lines + 1) lines i [] r.wide h)
            ∙ sum_below-more (length lines) (λ j. number_at lines i j *ℤ numerator_at point (length lines) j)
            ∙ ap (λ z. z +ℤ number_at lines i (length lines) *ℤ numerator_at point (length lines) (length lines)) (sum_below-same (length lines) (λ j. number_at lines i j *ℤ numerator_at point (length lines) j) (λ j. number_at lines i j *ℤ (s.scale *ℤ s.x j)) (λ j g. before i j g)
            ∙ sum_of_multiples (length lines) s.scale (number_at lines i) s.x ∙ ap (λ z. s.scale *ℤ z) (s.solves i h))
            ∙ ap (λ z. s.scale *ℤ (s.scale *ℤ neg_ℤ (number_at lines i (length lines))) +ℤ z) (at_end i)
            ∙ level s.scale (number_at lines i (length lines))

-- ---- what a point is

pub point_null : (lines : List (List ℤ)) (point : RationalPoint) → AllByRecursion (λ (line : List ℤ). length line ≡ length lines + 1) lines → Meets point (map equation_of lines) → IsNull (length lines) (number_at lines) (numerator_at point (length lines))
point_null lines point wide h = record {
  each = λ i g. sym (line_sum point (length lines) (get_or lines i []) (each_at (λ (line : List ℤ). length line ≡ length lines + 1) lines i [] wide g)) ∙ equation_holds point lines i h g;
}
