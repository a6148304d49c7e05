-- The corner of a goal: no part of the test of its numbers is false.
use Rattle.std.proofs.Common.{◌≡◌, ℕ, zero, suc, ◌+◌, ◌<◌, Bool, true, false, List, [], ◌∷◌, length, get_or, Result, Ok, Err, refl, sym, ap, subst, ◌∙◌, arith, ℤ, pos, ◌+ℤ◌, ◌-ℤ◌, ◌*ℤ◌, ◌≤ℤ◌, ◌<ℤ◌}
use Rattle.std.specs.Prelude.{◌==◌, slice_get, Some}
use Rattle.std.specs.Map.{keys_of}
use Rattle.std.proofs.lemmas.Int.{ints}
use Rattle.std.proofs.lemmas.Bool.{eq-eqb}
use Rattle.std.proofs.lemmas.List.Elements.{recursion_from_All}
use Rattle.items.specs.Gives.{◌>>=◌}
use Rattle.whole_numbers.specs.declared.wide.Wide as Step
use Rattle.whole_numbers.proofs.Ring.{ring, ≤ℤ-*ℤ, *ℤ-≤ℤ, *ℤ_assoc}
use Rattle.linear_terms.specs.declared.col.Col.{Col}
use Rattle.linear_terms.specs.declared.row.Kind.{Kind}
use Rattle.linear_terms.specs.declared.row.Kind.TheVariants.{AtMost}
use Rattle.linear_terms.specs.declared.row.Row.{Row}
use Rattle.linear_terms.specs.Polynomial.{Polynomial, IsCanonical}
use Rattle.linear_terms.specs.Row.{IsWithin, is_within}
use Rattle.farkas_check.specs.Columns.{monos_of}
use Rattle.farkas_check.specs.Meaning.{terms_at}
use Rattle.farkas_check.specs.Parts.{and_then}
use Rattle.farkas_check.specs.Points.{ratio_at, ratio_value, meets}
use Rattle.farkas_check.specs.Ratios.{Fraction, whole}
use Rattle.farkas_check.proofs.Farkas.{bool_ok}
use Rattle.farkas_check.proofs.PointValues.{Stands, ratio_value-stands}
use Rattle.farkas_check.proofs.Spreads.{AreAmong, rows_among}
use Rattle.farkas_check.proofs.Walks.{IsOrdered-columns}
use Rattle.simplex.specs.declared.tableau.Tableau.{Tableau}
use Rattle.simplex.specs.Exchange.{numbers_of, choices_of}
use Rattle.simplex.specs.Rows.{kinds_of}
use Rattle.simplex.specs.Search.{IsMet, IsCornerOf}
use Rattle.simplex.proofs.Certificates.{le_true}
use Rattle.simplex.proofs.Corners.{over, share, share-over}
use Rattle.simplex.proofs.Exchanges.{product}
use Rattle.simplex.proofs.RowTableaux.{kinds-length}
use Rattle.simplex.proofs.RowCorners.{numbered, row_within, share-positive, over-positive}
use Rattle.farkas_check.specs.Kept.{IsCanonicalGoal}
use Rattle.items.proofs.Gives.{on_ok}
use Rattle.std.specs.Prelude.{int_le}
use Rattle.std.proofs.lemmas.Bool.{false≢true}
use Rattle.whole_numbers.specs.Fits.{product_of}
use Rattle.whole_numbers.proofs.Ring.{product_of-value}
use Rattle.farkas_check.specs.Ratios.{is_at_least}
use Rattle.farkas_check.specs.declared.answer.Cert.{Cert}
use Rattle.farkas_check.specs.Tested.{goal_columns, tested_point, tested_reached}
use Rattle.farkas_check.specs.declared.question.Goal.{Goal}
use Rattle.farkas_check.proofs.Spreads.{terms_among}
use Rattle.simplex.specs.Suprema.{with_goal, goal_frame}
use Rattle.simplex.proofs.RowCorners.{stands_each, stands-at, all_at, each_row, within_back, meets-honest, kind_row}
use Rattle.simplex.proofs.BoundCertificates.{kind_before, IsCertificate}
use Rattle.simplex.proofs.Moves.{shift, moved_row, shift_own, corner_within, goal_slope}
use Rattle.simplex.proofs.Objectives.{more_rows}

pub slice_before : (rows : List Row) (p : Polynomial) (l : ℕ) (row : Row) → slice_get rows l ≡ Some row → slice_get (with_goal rows p) l ≡ Some row
slice_before [] p l row e = cc
slice_before (r ∷ rows) p zero row e = e
slice_before (r ∷ rows) p (suc l) row e = slice_before rows p l row e

pub slice_goal : (rows : List Row) (p : Polynomial) → slice_get (with_goal rows p) (length rows) ≡ Some (record { poly = p; kind = AtMost })
slice_goal [] p = refl
slice_goal (r ∷ rows) p = slice_goal rows p

abbrev pub whole_of : Tableau → ℤ
whole_of t = over (length t.lines) (λ k. numbers_of t k (choices_of t k))

pub goal_stands : (goal : Goal) (kinds : List Kind) (enters : List Bool) (t : Tableau) (point : List Fraction) (m : List Col) → IsMet (goal_frame goal) (length (goal_columns goal)) kinds enters t → IsCornerOf t (length (goal_columns goal)) (length (goal_columns goal)) point
    → Stands (ratio_at (goal_columns goal) point m) (numbered (goal_columns goal) (shift t (length (goal_columns goal))) m) (whole_of t)
goal_stands goal kinds enters t point m k c =
    stands_each (goal_columns goal) point (shift t (length (goal_columns goal))) (whole_of t) m c.each (λ j h. stands-at (goal_frame goal) t (length (goal_columns goal)) j (get_or point j (whole (pos 0))) k.placed.marked.sized.tableau (λ same. absurd (omega (arith, h, same))) (c.same j h))

pub goal_row_value : (goal : Goal) (kinds : List Kind) (enters : List Bool) (t : Tableau) (l : ℕ) (row : Row) → IsMet (goal_frame goal) (length (goal_columns goal)) kinds enters t → length kinds ≡ length goal.rows + 1 → IsCanonical row.poly.terms → AreAmong (keys_of row.poly.terms) (goal_columns goal) → slice_get (with_goal goal.rows goal.objective) l ≡ Some row
    → terms_at (numbered (goal_columns goal) (shift t (length (goal_columns goal)))) row.poly.terms +ℤ row.poly.rest *ℤ whole_of t ≡ pos 0 -ℤ shift t (length (goal_columns goal)) (length (goal_columns goal) + 1 + l)
goal_row_value goal kinds enters t l row k many canonical among here =
    ap (λ z. terms_at (numbered (goal_columns goal) (shift t (length (goal_columns goal)))) row.poly.terms +ℤ row.poly.rest *ℤ z) (sym (shift_own t (length (goal_columns goal)) k.placed.marked.sized.apart))
    ∙ moved_row (goal_columns goal) (with_goal goal.rows goal.objective) t (length (goal_columns goal)) l row (IsOrdered-columns (monos_of goal.rows goal.objective.terms)) canonical among (sym k.placed.marked.sized.many ∙ many ∙ sym (more_rows goal.rows goal.objective)) k.placed.marked.sized.tableau (omega arith) here

pub goal_point_honest : (goal : Goal) (enters : List Bool) (t : Tableau) (point : List Fraction) (b : Bool) → IsCanonicalGoal goal → IsMet (goal_frame goal) (length (goal_columns goal)) (kinds_of (with_goal goal.rows goal.objective)) enters t → IsCornerOf t (length (goal_columns goal)) (length (goal_columns goal)) point → tested_point goal point ≡ Ok b → b ≡ true
goal_point_honest goal enters t point b canonical k c e = after_length (length point == length (goal_columns goal)) (eq-eqb (length point) (length (goal_columns goal)) c.each) e
  where
    lines_many : length (kinds_of (with_goal goal.rows goal.objective)) ≡ length goal.rows + 1
    lines_many = kinds-length (with_goal goal.rows goal.objective) ∙ more_rows goal.rows goal.objective

    above : pos 0 <ℤ whole_of t
    above = over-positive (length t.lines) (λ i. numbers_of t i (choices_of t i)) (λ i h. k.placed.marked.sized.tableau.is.own i h)

    row_honest : (l : ℕ) (row : Row) → slice_get goal.rows l ≡ Some row → (v : Fraction) → ratio_value (ratio_at (goal_columns goal) point) row.poly ≡ Ok v → is_within row.kind v.num ≡ true
    row_honest l row here v f =
        within_back row.kind v (terms_at (numbered (goal_columns goal) (shift t (length (goal_columns goal)))) row.poly.terms +ℤ row.poly.rest *ℤ whole_of t) (whole_of t) above
        (ratio_value-stands (ratio_at (goal_columns goal) point) (numbered (goal_columns goal) (shift t (length (goal_columns goal)))) (whole_of t) row.poly v (λ m. goal_stands goal (kinds_of (with_goal goal.rows goal.objective)) enters t point m k c) f)
        (subst (λ z. IsWithin row.kind z) (sym (goal_row_value goal (kinds_of (with_goal goal.rows goal.objective)) enters t l row k lines_many (all_at (λ (r : Row). IsCanonical r.poly.terms) goal.rows l row (recursion_from_All (λ (r : Row). IsCanonical r.poly.terms) goal.rows canonical.rows) here) (all_at (λ (r : Row). AreAmong (keys_of r.poly.terms) (goal_columns goal)) goal.rows l row (rows_among goal.rows goal.objective.terms) here) (slice_before goal.rows goal.objective l row here)))
        (corner_within (goal_frame goal) (length (goal_columns goal)) (kinds_of (with_goal goal.rows goal.objective)) enters t l row.kind k inside (let g : length t.lines ≡ length goal.rows + 1 = sym k.placed.marked.sized.many ∙ lines_many in omega (arith, g, inside)) (kind_before goal.rows goal.objective l inside ∙ kind_row goal.rows l row here)))
      where
        inside : l < length goal.rows
        inside = row_within goal.rows l row here

    after_length : (q : Bool) → q ≡ true → and_then (bool_ok q) (meets (ratio_value (ratio_at (goal_columns goal) point)) goal.rows) ≡ Ok b → b ≡ true
    after_length true f g = meets-honest (ratio_value (ratio_at (goal_columns goal) point)) goal.rows (each_row (λ (row : Row). (v : Fraction) → ratio_value (ratio_at (goal_columns goal) point) row.poly ≡ Ok v → is_within row.kind v.num ≡ true) goal.rows row_honest) b g
    after_length false f g = cc

-- ---- the objective at the corner

pub reached_honest : (goal : Goal) (enters : List Bool) (t : Tableau) (point : List Fraction) (cert : Cert) (at : ℤ) (b : Bool) → IsCanonicalGoal goal → IsMet (goal_frame goal) (length (goal_columns goal)) (kinds_of (with_goal goal.rows goal.objective)) enters t → IsCornerOf t (length (goal_columns goal)) (length (goal_columns goal)) point → IsCertificate (length (goal_columns goal)) (length goal.rows) (get_or t.lines (length goal.rows) []) cert
    → (at *ℤ cert.scale) ≤ℤ cert.sum → tested_reached at goal point ≡ Ok b → b ≡ true
reached_honest goal enters t point cert at b canonical k c is below e = first (tested_point goal point) refl e
  where
    n : ℕ
    n = length (goal_columns goal)

    m : ℕ
    m = length goal.rows

    lines_many : length (kinds_of (with_goal goal.rows goal.objective)) ≡ length goal.rows + 1
    lines_many = kinds-length (with_goal goal.rows goal.objective) ∙ more_rows goal.rows goal.objective

    inside : length goal.rows < length t.lines
    inside = let g : length t.lines ≡ length goal.rows + 1 = sym k.placed.marked.sized.many ∙ lines_many in omega (arith, g)

    own : choices_of t (length goal.rows) ≡ length (goal_columns goal) + 1 + length goal.rows
    own = k.placed.marked.waiting (length goal.rows) inside (k.placed.marked.sized.goals (length goal.rows) (omega arith) inside) (k.placed.out (length goal.rows) (omega arith) inside)

    part_of : ℤ
    part_of = share (length t.lines) (λ i. numbers_of t i (choices_of t i)) (length goal.rows)

    part_above : pos 0 <ℤ share (length t.lines) (λ i. numbers_of t i (choices_of t i)) (length goal.rows)
    part_above = share-positive (length t.lines) (λ i. numbers_of t i (choices_of t i)) (length goal.rows) (λ i h. k.placed.marked.sized.tableau.is.own i h)

    above : pos 0 <ℤ whole_of t
    above = over-positive (length t.lines) (λ i. numbers_of t i (choices_of t i)) (λ i h. k.placed.marked.sized.tableau.is.own i h)

    whole_is : whole_of t ≡ cert.scale *ℤ part_of
    whole_is = sym (share-over (length t.lines) (λ i. numbers_of t i (choices_of t i)) (length goal.rows) inside) ∙ ap (λ (j : ℕ). numbers_of t (length goal.rows) j *ℤ part_of) own ∙ ap (λ z. z *ℤ part_of) (sym is.scale)

    value_is : terms_at (numbered (goal_columns goal) (shift t n)) goal.objective.terms +ℤ goal.objective.rest *ℤ whole_of t ≡ cert.sum *ℤ part_of
    value_is =
        goal_row_value goal (kinds_of (with_goal goal.rows goal.objective)) enters t m (record { poly = goal.objective; kind = AtMost }) k lines_many canonical.objective (terms_among goal.rows goal.objective.terms) (slice_goal goal.rows goal.objective)
        ∙ goal_slope (goal_frame goal) n (kinds_of (with_goal goal.rows goal.objective)) enters t n k inside (λ same. absurd (omega (arith, same)))
        ∙ ap (λ z. z *ℤ part_of) (sym is.sum)

    weak : (z : ℤ) → pos 0 <ℤ z → pos 0 ≤ℤ z
    weak z h = omega (arith, ints)

    reach : (v : Fraction) → Stands v (cert.sum *ℤ part_of) (whole_of t) → (at *ℤ v.den) ≤ℤ v.num
    reach v s = *ℤ-≤ℤ (at *ℤ v.den) v.num (whole_of t) above (chain (at *ℤ v.den *ℤ whole_of t) (at *ℤ cert.scale *ℤ (part_of *ℤ v.den)) (cert.sum *ℤ (part_of *ℤ v.den)) (v.num *ℤ whole_of t)
        (ap (λ z. at *ℤ v.den *ℤ z) whole_is ∙ regroup at v.den cert.scale part_of)
        (≤ℤ-*ℤ (at *ℤ cert.scale) cert.sum (part_of *ℤ v.den) (weak (part_of *ℤ v.den) (product part_of v.den part_above s.positive)) below)
        (sym (s.same ∙ *ℤ_assoc cert.sum part_of v.den)))
      where
        regroup : (a b c d : ℤ) → a *ℤ b *ℤ (c *ℤ d) ≡ a *ℤ c *ℤ (d *ℤ b)
        regroup a b c d = simp ring (omega (arith, ints))

        chain : (x y z w : ℤ) → x ≡ y → y ≤ℤ z → z ≡ w → x ≤ℤ w
        chain x y z w f g h = omega (arith, ints, f, g, h)

    at_least : (v : Fraction) → Stands v (cert.sum *ℤ part_of) (whole_of t) → is_at_least v at ≡ Ok b → b ≡ true
    at_least v s f = on_ok (product_of at v.den) (λ bound. bool_ok (int_le bound v.num)) b f
        (λ bound g h. let same : int_le bound v.num ≡ b = cc in sym same ∙ le_true bound v.num (subst (λ z. z ≤ℤ v.num) (sym (product_of-value at v.den bound g)) (reach v s)))

    second : ratio_value (ratio_at (goal_columns goal) point) goal.objective >>= (λ v. is_at_least v at) ≡ Ok b → b ≡ true
    second f = on_ok (ratio_value (ratio_at (goal_columns goal) point) goal.objective) (λ v. is_at_least v at) b f
        (λ v g h. at_least v (subst (λ z. Stands v z (whole_of t)) value_is (ratio_value-stands (ratio_at (goal_columns goal) point) (numbered (goal_columns goal) (shift t n)) (whole_of t) goal.objective v (λ c2. goal_stands goal (kinds_of (with_goal goal.rows goal.objective)) enters t point c2 k c) g)) h)

    first : (r : Result Bool Step.Wide) → tested_point goal point ≡ r → and_then r (ratio_value (ratio_at (goal_columns goal) point) goal.objective >>= (λ v. is_at_least v at)) ≡ Ok b → b ≡ true
    first (Ok true) f g = second g
    first (Ok false) f g = absurd (false≢true (goal_point_honest goal enters t point false canonical k c f))
    first (Err w) f g = cc
