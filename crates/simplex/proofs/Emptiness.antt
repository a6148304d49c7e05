-- A line that refutes the rows of a goal: its multiples show that no point makes the rows true.
use Rattle.std.proofs.Common.{◌≡◌, ℕ, zero, suc, ◌+◌, ◌<◌, Bool, true, false, List, [], ◌∷◌, length, get_or, refl, sym, ap, subst, ◌∙◌, arith, ⊎_elim, ℤ, pos, negsuc, ◌+ℤ◌, ◌*ℤ◌, ◌≤ℤ◌, ◌<ℤ◌}
use Rattle.std.specs.Prelude.{int_lt}
use Rattle.std.specs.List.{AllByRecursion}
use Rattle.std.proofs.lemmas.Int.{ints}
use Rattle.std.proofs.lemmas.List.Elements.{recursion_from_All}
use Rattle.std.proofs.Math.IntN.{zero-*ℤ}
use Rattle.whole_numbers.proofs.Ring.{one-*ℤ}
use Rattle.linear_terms.specs.declared.col.Col.{Col}
use Rattle.linear_terms.specs.declared.row.Kind.TheVariants.{AtMost}
use Rattle.linear_terms.specs.declared.row.Row.{Row}
use Rattle.linear_terms.specs.Polynomial.{IsCanonical, Polynomial}
use Rattle.linear_terms.specs.Row.{AreCanonical}
use Rattle.farkas_check.specs.Columns.{monos_of}
use Rattle.farkas_check.specs.Frames.{sum_below}
use Rattle.farkas_check.specs.Kept.{IsCanonicalGoal}
use Rattle.farkas_check.specs.Meaning.{sum_at}
use Rattle.farkas_check.specs.Multiples.{number_at as coefficient_at, constant_in}
use Rattle.farkas_check.specs.Sizes.{HasRationalPoint}
use Rattle.farkas_check.specs.Tested.{goal_columns}
use Rattle.farkas_check.specs.declared.question.Goal.{Goal}
use Rattle.farkas_check.proofs.Farkas.{total, total-at, total-within}
use Rattle.farkas_check.proofs.Lowest.{positive_product}
use Rattle.farkas_check.proofs.Spreads.{RowsAmong, rows_among, spread, spread-zero}
use Rattle.farkas_check.proofs.Walks.{IsOrdered, IsOrdered-columns}
use Rattle.simplex.specs.Exchange.{numbers_of, IsTableauOf}
use Rattle.simplex.specs.Rows.{kinds_of, kind_at, framed_tableau}
use Rattle.simplex.specs.Search.{IsRefuted}
use Rattle.simplex.specs.Suprema.{with_goal, frame_over, goal_frame}
use Rattle.simplex.specs.declared.tableau.Tableau.{Tableau}
use Rattle.simplex.proofs.BoundCertificates.{each_before, kind_before}
use Rattle.simplex.proofs.Certificates.{each_of, total-is, all_multipliers, framed-column, framed-constant}
use Rattle.simplex.proofs.Exchanges.{times_zero}
use Rattle.simplex.proofs.RowTableaux.{kinds-length}
use Rattle.simplex.proofs.Objectives.{more_rows}
use Rattle.simplex.proofs.Sums.{sum_below-same, weighted_multiple}

-- ---- the numbers below a place as a list

abbrev numbers_below : ℕ → (ℕ → ℤ) → List ℤ
numbers_below zero f = []
numbers_below (suc n) f = f 0 ∷ numbers_below n (λ l. f (suc l))

numbers_below-length : (n : ℕ) (f : ℕ → ℤ) → length (numbers_below n f) ≡ n
numbers_below-length zero f = refl
numbers_below-length (suc n) f = let e : length (numbers_below n (λ l. f (suc l))) ≡ n = numbers_below-length n (λ l. f (suc l)) in omega (arith, e)

numbers_below-entry : (n : ℕ) (f : ℕ → ℤ) (l : ℕ) → l < n → get_or (numbers_below n f) l (pos 0) ≡ f l
numbers_below-entry zero f l h = absurd (omega (arith, h))
numbers_below-entry (suc n) f zero h = refl
numbers_below-entry (suc n) f (suc l) h = numbers_below-entry n (λ i. f (suc i)) l (omega (arith, h))

all_columns : (P : List Col → Type 0) (cs : List (List Col)) → ((j : ℕ) → j < length cs → P (get_or cs j [])) → AllByRecursion P cs
all_columns P [] f = tt
all_columns P (c ∷ cs) f = (f 0 (omega arith), all_columns P cs (λ j h. f (suc j) (omega (arith, h))))

-- ---- the contradiction

pub no_point_over : (cs : List (List Col)) (rows : List Row) (p : Polynomial) (t : Tableau) (line : ℕ) → IsOrdered cs → AreCanonical rows → RowsAmong rows cs → IsRefuted (frame_over cs rows p) (length cs) (kinds_of (with_goal rows p)) t line → HasRationalPoint rows → ⊥
no_point_over cs rows p t line ordered canonical among r has = by_sign (int_lt (numbers_of t line (length cs)) (pos 0)) refl
  where
    m : ℕ
    m = length rows

    many : length t.lines ≡ length rows + 1
    many = sym r.sized.many ∙ kinds-length (with_goal rows p) ∙ more_rows rows p

    s : IsTableauOf (length cs + 1) (numbers_of (framed_tableau cs (with_goal rows p))) t
    s = r.sized.tableau

    unit : ℕ → ℤ
    unit l = numbers_of t line (length cs + 1 + l)

    own : ℕ → ℕ → ℤ
    own l j = numbers_of (framed_tableau cs (with_goal rows p)) l j

    last_zero : (a b z : ℤ) → z ≡ pos 0 → a +ℤ z *ℤ b ≡ a
    last_zero a b z e = ap (λ x. a +ℤ x *ℤ b) e ∙ ap (λ x. a +ℤ x) (zero-*ℤ b) ∙ alone a
      where
        alone : (a : ℤ) → a +ℤ pos 0 ≡ a
        alone a = omega (arith, ints)

    whole : (j : ℕ) → j < length cs + 1 + length t.lines → numbers_of t line j ≡ sum_below (length rows) (λ l. unit l *ℤ own l j)
    whole j h =
        s.is.combination line r.here j h
        ∙ ap (λ (n : ℕ). sum_below n (λ l. unit l *ℤ own l j)) (many ∙ (let e : length rows + 1 ≡ suc (length rows) = omega arith in e))
        ∙ last_zero (sum_below (length rows) (λ l. unit l *ℤ own l j)) (own (length rows) j) (unit (length rows)) (r.goals (length rows) (omega arith) (omega (arith, many)))

    with_sign : (sign : ℤ) → pos 0 <ℤ (sign *ℤ numbers_of t line (length cs)) → ((l : ℕ) → l < length t.lines → kind_at (kinds_of (with_goal rows p)) l ≡ AtMost → pos 0 ≤ℤ (sign *ℤ unit l)) → ⊥
    with_sign sign above signs = clash (total (λ (row : Row). sum_at has.point row.poly) rows by) (spread (λ c. total (coefficient_at c) rows by) has.point.numerator cs) (total constant_in rows by *ℤ has.point.over)
        (total-within has.point rows by has.met (all_multipliers rows by not_below))
        (total-at has.point cs rows by ordered (recursion_from_All (λ (row : Row). IsCanonical row.poly.terms) rows canonical) among)
        (spread-zero (λ c. total (coefficient_at c) rows by) has.point.numerator cs (all_columns (λ c. total (coefficient_at c) rows by ≡ pos 0) cs zeros))
        (positive_product (total constant_in rows by) has.point.over constant has.point.positive)
      where
        by : List ℤ
        by = numbers_below (length rows) (λ l. sign *ℤ unit l)

        sum_is : (number : Row → ℤ) (j : ℕ) → j < length cs + 1 + length t.lines → ((l : ℕ) → own l j ≡ each_of number (with_goal rows p) l) → total number rows by ≡ sign *ℤ numbers_of t line j
        sum_is number j h f =
            total-is number rows by (numbers_below-length (length rows) (λ l. sign *ℤ unit l))
            ∙ sum_below-same (length rows) (λ l. get_or by l (pos 0) *ℤ each_of number rows l) (λ l. get_or by l (pos 0) *ℤ own l j) (λ l g. ap (λ z. get_or by l (pos 0) *ℤ z) (sym (f l ∙ each_before number rows p l g)))
            ∙ weighted_multiple (length rows) unit (λ l. get_or by l (pos 0)) (λ l. own l j) sign (λ l g. numbers_below-entry (length rows) (λ i. sign *ℤ unit i) l g)
            ∙ ap (λ z. sign *ℤ z) (sym (whole j h))

        not_below : (l : ℕ) → l < length rows → kind_at (kinds_of rows) l ≡ AtMost → pos 0 ≤ℤ get_or by l (pos 0)
        not_below l h k = subst (λ (z : ℤ). pos 0 ≤ℤ z) (sym (numbers_below-entry (length rows) (λ i. sign *ℤ unit i) l h)) (signs l (omega (arith, h, many)) (kind_before rows p l h ∙ k))

        zeros : (j : ℕ) → j < length cs → total (coefficient_at (get_or cs j [])) rows by ≡ pos 0
        zeros j h = sum_is (coefficient_at (get_or cs j [])) j (omega (arith, h)) (λ l. framed-column cs (with_goal rows p) j l h) ∙ ap (λ z. sign *ℤ z) (r.flat j h) ∙ times_zero sign

        constant : pos 0 <ℤ total constant_in rows by
        constant = subst (λ (z : ℤ). pos 0 <ℤ z) (sym (sum_is constant_in (length cs) (omega arith) (λ l. framed-constant cs (with_goal rows p) l))) above

        clash : (t s p : ℤ) → t ≤ℤ pos 0 → t ≡ s +ℤ p → s ≡ pos 0 → pos 0 <ℤ p → ⊥
        clash t s p a b e f = omega (arith, ints, a, b, e, f)

    by_sign : (b : Bool) → int_lt (numbers_of t line (length cs)) (pos 0) ≡ b → ⊥
    by_sign true e = with_sign (negsuc 0) (flip (numbers_of t line (length cs)) e) (λ l h k. ⊎_elim (λ zero_at. at_zero (negsuc 0) (unit l) (zero_at l h k)) (λ above. absurd (not_both (numbers_of t line (length cs)) e above.0)) r.signs)
      where
        flip : (z : ℤ) → int_lt z (pos 0) ≡ true → pos 0 <ℤ (negsuc 0 *ℤ z)
        flip z f = omega (arith, ints, f)

        not_both : (z : ℤ) → int_lt z (pos 0) ≡ true → pos 0 <ℤ z → ⊥
        not_both z f g = omega (arith, ints, f, g)

        at_zero : (sign z : ℤ) → z ≡ pos 0 → pos 0 ≤ℤ (sign *ℤ z)
        at_zero sign z f = let g : sign *ℤ z ≡ pos 0 = ap (λ x. sign *ℤ x) f ∙ times_zero sign in above (sign *ℤ z) g
          where
            above : (x : ℤ) → x ≡ pos 0 → pos 0 ≤ℤ x
            above x g = omega (arith, ints, g)
    by_sign false e = with_sign (pos 1) (same (numbers_of t line (length cs)) e r.some) (λ l h k. ⊎_elim (λ zero_at. once (unit l) (weak (unit l) (zero_at l h k))) (λ above. once (unit l) (above.1 l h k)) r.signs)
      where
        same : (z : ℤ) → int_lt z (pos 0) ≡ false → (z ≡ pos 0 → ⊥) → pos 0 <ℤ (pos 1 *ℤ z)
        same z f g = subst (λ (x : ℤ). pos 0 <ℤ x) (sym (one-*ℤ z)) (omega (arith, ints, f, g))

        weak : (z : ℤ) → z ≡ pos 0 → pos 0 ≤ℤ z
        weak z f = omega (arith, ints, f)

        once : (z : ℤ) → pos 0 ≤ℤ z → pos 0 ≤ℤ (pos 1 *ℤ z)
        once z f = subst (λ (x : ℤ). pos 0 ≤ℤ x) (sym (one-*ℤ z)) f

pub no_point_of : (goal : Goal) (t : Tableau) (line : ℕ) → IsCanonicalGoal goal → IsRefuted (goal_frame goal) (length (goal_columns goal)) (kinds_of (with_goal goal.rows goal.objective)) t line → HasRationalPoint goal.rows → ⊥
no_point_of goal t line canonical r has = no_point_over (goal_columns goal) goal.rows goal.objective t line (IsOrdered-columns (monos_of goal.rows goal.objective.terms)) canonical.rows (rows_among goal.rows goal.objective.terms) r has
