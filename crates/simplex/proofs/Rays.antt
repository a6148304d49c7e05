-- The ray of a goal: no part of the test of its numbers is false.
use Rattle.std.proofs.Common.{◌≡◌, ◌≢◌, ℕ, suc, ◌+◌, ◌<◌, Bool, true, false, cond, List, [], ◌∷◌, length, get_or, Result, Ok, Err, refl, sym, ap, subst, ◌∙◌, arith, ⊎_elim, ℤ, pos, negsuc, ◌+ℤ◌, ◌-ℤ◌, ◌*ℤ◌, ◌≤ℤ◌, ◌<ℤ◌}
use Rattle.std.specs.Prelude.{◌==◌, not, slice_get, Some, int_lt, neg_ℤ}
use Rattle.std.specs.Map.{keys_of}
use Rattle.std.specs.Ordering.{eq_by_cmp}
use Rattle.std.proofs.lemmas.Int.{ints}
use Rattle.std.proofs.lemmas.Bool.{cases_eq, eq-eqb, false≢true}
use Rattle.std.proofs.lemmas.List.Elements.{recursion_from_All}
use Rattle.std.proofs.Math.IntN.{*ℤ_comm, zero-*ℤ}
use Rattle.items.specs.Gives.{◌>>=◌}
use Rattle.items.proofs.Gives.{on_ok}
use Rattle.whole_numbers.specs.declared.wide.Wide as Step
use Rattle.whole_numbers.proofs.Ring.{ring, *ℤ_assoc, *ℤ_left_comm, *ℤ-+ℤ, one-*ℤ}
use Rattle.linear_terms.specs.declared.col.Col.{Col}
use Rattle.linear_terms.specs.declared.row.Kind.{Kind}
use Rattle.linear_terms.specs.declared.row.Kind.TheVariants.{AtMost, Equal}
use Rattle.linear_terms.specs.declared.row.Row.{Row}
use Rattle.linear_terms.specs.Mono.{mono_cmp}
use Rattle.linear_terms.specs.Polynomial.{Terms, IsCanonical}
use Rattle.linear_terms.specs.Row.{IsWithin, is_within}
use Rattle.farkas_check.specs.Columns.{monos_of}
use Rattle.farkas_check.specs.Kept.{IsCanonicalGoal}
use Rattle.farkas_check.specs.Meaning.{terms_at}
use Rattle.farkas_check.specs.Parts.{and_then}
use Rattle.farkas_check.specs.Points.{ratio_at, slope_at, meets}
use Rattle.farkas_check.specs.Ratios.{Fraction, whole}
use Rattle.farkas_check.specs.Tested.{goal_columns, tested_ray}
use Rattle.farkas_check.specs.declared.question.Goal.{Goal}
use Rattle.farkas_check.proofs.Farkas.{bool_ok}
use Rattle.farkas_check.proofs.PointValues.{Stands, Stands-whole, slope_at-stands}
use Rattle.farkas_check.proofs.Spreads.{AreAmong, rows_among, terms_among}
use Rattle.farkas_check.proofs.Walks.{IsOrdered-columns}
use Rattle.simplex.specs.Exchange.{numbers_of, choices_of, IsTableauOf}
use Rattle.simplex.specs.Raise.{Framed, sign_of, enters_at}
use Rattle.simplex.specs.Rows.{kinds_of, kind_at}
use Rattle.simplex.specs.Search.{IsMet, IsUnit}
use Rattle.simplex.specs.Suprema.{with_goal, goal_frame, IsOpened, SlopeAt, IsRayOf}
use Rattle.simplex.specs.declared.tableau.Tableau.{Tableau}
use Rattle.simplex.proofs.BoundCertificates.{kind_before}
use Rattle.simplex.proofs.Certificates.{lt_true}
use Rattle.simplex.proofs.Corners.{over, share, share-over}
use Rattle.simplex.proofs.Exchanges.{times_zero, product, factor_positive}
use Rattle.simplex.proofs.RowTableaux.{kinds-length}
use Rattle.simplex.proofs.Moves.{not_above_times, zero_within, shift, moved_row, shift_chosen, shift_free, shift_own, level_ray, goal_slope}
use Rattle.simplex.proofs.Objectives.{more_rows}
use Rattle.simplex.proofs.GoalCorners.{slice_before, slice_goal, whole_of}
use Rattle.simplex.proofs.RowCorners.{numbered, stands_each, row_within, all_at, each_row, kind_row, within_back, meets-honest, find_choice, share-positive, over-positive}

-- the numbers of the ray at all columns, times the common denominator
abbrev pub ray_shift : Tableau → ℕ → Bool → ℕ → ℤ
ray_shift t column up j = sign_of up *ℤ shift t column j

-- no line chooses the column along which the objective grows
pub column_free : (over : Framed) (constants : ℕ) (kinds : List Kind) (enters : List Bool) (column : ℕ) (up : Bool) (t : Tableau) → IsOpened over constants kinds enters column up t → over.rows < length t.lines → (k : ℕ) → k < length t.lines → choices_of t k ≢ column
column_free over constants kinds enters column up t o h k g e = ⊎_elim (λ (same : k ≡ over.rows). at_goal same) (λ other. elsewhere other) (cases_eq k over.rows)
  where
    own : choices_of t over.rows ≡ over.units + over.rows
    own = o.met.placed.marked.waiting over.rows h (o.met.placed.marked.sized.goals over.rows (omega arith) h) (o.met.placed.out over.rows (omega arith) h)

    false_true : (b : Bool) → b ≡ true → b ≡ false → ⊥
    false_true b p q = cc

    at_goal : k ≡ over.rows → ⊥
    at_goal same = let is : over.units + over.rows ≡ column = sym own ∙ ap (choices_of t) (sym same) ∙ e in
        let u : over.units ≡ constants + 1 = o.met.placed.marked.sized.units in
        ⊎_elim (λ (q : column < constants). omega (arith, is, u, q)) (λ way. false_true (enters_at enters column) way.0 (ap (enters_at enters) (sym is) ∙ o.met.placed.out over.rows (omega arith) h)) o.way

    no_growth : (sign z : ℤ) → z ≡ pos 0 → pos 0 <ℤ (sign *ℤ z) → ⊥
    no_growth sign z f p = let q : sign *ℤ z ≡ pos 0 = ap (λ x. sign *ℤ x) f ∙ times_zero sign in clash (sign *ℤ z) q p
      where
        clash : (x : ℤ) → x ≡ pos 0 → pos 0 <ℤ x → ⊥
        clash x q p = omega (arith, ints, q, p)

    elsewhere : k ≢ over.rows → ⊥
    elsewhere other = no_growth (sign_of up) (numbers_of t over.rows column) (ap (numbers_of t over.rows) (sym e) ∙ o.met.placed.marked.sized.tableau.is.others over.rows k h g (λ same. other (sym same))) o.grows

-- ---- the number of the ray at a column

-- a number that stands for minus a multiple, turned the other way where the ray falls
turned_number : (up : Bool) (num a s b den d : ℤ) → b *ℤ s ≡ d → num *ℤ b ≡ a *ℤ sign_of (not up) *ℤ den → num *ℤ d ≡ sign_of up *ℤ (pos 0 -ℤ a *ℤ s) *ℤ den
turned_number true num a s b den d e f =
    ap (λ z. num *ℤ z) (sym e) ∙ sym (*ℤ_assoc num b s) ∙ ap (λ z. z *ℤ s) f ∙ ap (λ z. z *ℤ den *ℤ s) (minus a) ∙ turn a den s
  where
    minus : (z : ℤ) → z *ℤ negsuc 0 ≡ neg_ℤ z
    minus z = omega (arith, ints)

    from_zero : (z : ℤ) → pos 1 *ℤ (pos 0 -ℤ z) ≡ neg_ℤ z
    from_zero z = omega (arith, ints)

    turn : (a q s : ℤ) → neg_ℤ a *ℤ q *ℤ s ≡ pos 1 *ℤ (pos 0 -ℤ a *ℤ s) *ℤ q
    turn a q s = plain a q s ∙ ap (λ z. z *ℤ q) (sym (from_zero (a *ℤ s)))
      where
        plain : (a q s : ℤ) → neg_ℤ a *ℤ q *ℤ s ≡ neg_ℤ (a *ℤ s) *ℤ q
        plain a q s = simp ring (omega (arith, ints))
turned_number false num a s b den d e f =
    ap (λ z. num *ℤ z) (sym e) ∙ sym (*ℤ_assoc num b s) ∙ ap (λ z. z *ℤ s) f ∙ ap (λ z. z *ℤ den *ℤ s) (plus a) ∙ turn a den s
  where
    plus : (z : ℤ) → z *ℤ pos 1 ≡ z
    plus z = omega (arith, ints)

    back : (z : ℤ) → negsuc 0 *ℤ (pos 0 -ℤ z) ≡ z
    back z = omega (arith, ints)

    turn : (a q s : ℤ) → a *ℤ q *ℤ s ≡ negsuc 0 *ℤ (pos 0 -ℤ a *ℤ s) *ℤ q
    turn a q s = plain a q s ∙ ap (λ z. z *ℤ q) (sym (back (a *ℤ s)))
      where
        plain : (a q s : ℤ) → a *ℤ q *ℤ s ≡ a *ℤ s *ℤ q
        plain a q s = simp ring (omega (arith, ints))

pub slope_stands : (frame : Framed) (t : Tableau) (column : ℕ) (up : Bool) (j : ℕ) (r : Fraction) → IsTableauOf frame.units frame.frame t → ((k : ℕ) → k < length t.lines → choices_of t k ≢ column) → SlopeAt t column up j r → Stands r (ray_shift t column up j) (whole_of t)
slope_stands frame t column up j r s free c = ⊎_elim (λ (same : j ≡ column). here same) (λ apart. ⊎_elim (λ found. chosen apart found.0 found.1.0 found.1.1) (λ no_one. nowhere apart no_one) (find_choice (length t.lines) (choices_of t) j)) (cases_eq j column)
  where
    here : j ≡ column → Stands r (ray_shift t column up j) (whole_of t)
    here same = subst (λ q. Stands q (ray_shift t column up j) (whole_of t)) (sym (c.here same))
        (subst (λ z. Stands (whole (sign_of up)) z (whole_of t)) (ap (λ z. sign_of up *ℤ z) (sym (ap (shift t column) same ∙ shift_own t column free))) (Stands-whole (sign_of up) (whole_of t)))

    chosen : j ≢ column → (k : ℕ) → k < length t.lines → choices_of t k ≡ j → Stands r (ray_shift t column up j) (whole_of t)
    chosen apart k h is = record {
      same = turned_number up r.num (numbers_of t k column) (share (length t.lines) (λ i. numbers_of t i (choices_of t i)) k) (numbers_of t k j) r.den (whole_of t)
          (ap (λ (i : ℕ). numbers_of t k i *ℤ share (length t.lines) (λ i. numbers_of t i (choices_of t i)) k) (sym is) ∙ share-over (length t.lines) (λ i. numbers_of t i (choices_of t i)) k h)
          (c.chosen apart k h is)
          ∙ ap (λ z. sign_of up *ℤ z *ℤ r.den) (sym (shift_chosen frame t column j k s (λ e. apart (sym e)) h is));
      positive = c.lowest.positive;
    }

    nowhere : j ≢ column → ((k : ℕ) → k < length t.lines → choices_of t k ≢ j) → Stands r (ray_shift t column up j) (whole_of t)
    nowhere apart no_one = record {
      same = ap (λ z. z *ℤ whole_of t) (c.free apart no_one) ∙ zero-*ℤ (whole_of t) ∙ sym (zero-*ℤ r.den)
          ∙ ap (λ z. z *ℤ r.den) (sym (ap (λ z. sign_of up *ℤ z) (shift_free t column j (λ e. apart (sym e)) no_one) ∙ times_zero (sign_of up)));
      positive = c.lowest.positive;
    }

-- ---- polynomials along the ray

numbered-times : (s : ℤ) (cs : List (List Col)) (f : ℕ → ℤ) (m : List Col) → numbered cs (λ j. s *ℤ f j) m ≡ s *ℤ numbered cs f m
numbered-times s [] f m = sym (times_zero s)
numbered-times s (c ∷ cs) f m = go (eq_by_cmp mono_cmp c m) (numbered-times s cs (λ j. f (suc j)) m)
  where
    go : (b : Bool) → numbered cs (λ j. s *ℤ f (suc j)) m ≡ s *ℤ numbered cs (λ j. f (suc j)) m → cond b (s *ℤ f 0) (numbered cs (λ j. s *ℤ f (suc j)) m) ≡ s *ℤ cond b (f 0) (numbered cs (λ j. f (suc j)) m)
    go true e = refl
    go false e = e

pub terms_at-times : (s : ℤ) (cs : List (List Col)) (f : ℕ → ℤ) (ts : Terms) → terms_at (numbered cs (λ j. s *ℤ f j)) ts ≡ s *ℤ terms_at (numbered cs f) ts
terms_at-times s cs f [] = sym (times_zero s)
terms_at-times s cs f (t ∷ ts) =
    ap (λ z. t.1 *ℤ z +ℤ terms_at (numbered cs (λ j. s *ℤ f j)) ts) (numbered-times s cs f t.0)
    ∙ ap (λ z. t.1 *ℤ (s *ℤ numbered cs f t.0) +ℤ z) (terms_at-times s cs f ts)
    ∙ ap (λ z. z +ℤ s *ℤ terms_at (numbered cs f) ts) (*ℤ_left_comm t.1 s (numbered cs f t.0))
    ∙ sym (*ℤ-+ℤ s (t.1 *ℤ numbered cs f t.0) (terms_at (numbered cs f) ts))

-- a row along the ray is worth minus what its slack is
pub ray_row_value : (goal : Goal) (enters : List Bool) (t : Tableau) (column : ℕ) (up : Bool) (l : ℕ) (row : Row) → IsMet (goal_frame goal) (length (goal_columns goal)) (kinds_of (with_goal goal.rows goal.objective)) enters t → column ≢ length (goal_columns goal) → column < length (goal_columns goal) + 1 + length t.lines
    → IsCanonical row.poly.terms → AreAmong (keys_of row.poly.terms) (goal_columns goal) → slice_get (with_goal goal.rows goal.objective) l ≡ Some row
    → terms_at (numbered (goal_columns goal) (ray_shift t column up)) row.poly.terms ≡ sign_of up *ℤ (pos 0 -ℤ shift t column (length (goal_columns goal) + 1 + l))
ray_row_value goal enters t column up l row k apart within canonical among here =
    terms_at-times (sign_of up) (goal_columns goal) (shift t column) row.poly.terms
    ∙ ap (λ z. sign_of up *ℤ z) (no_constant (terms_at (numbered (goal_columns goal) (shift t column)) row.poly.terms) row.poly.rest (shift t column (length (goal_columns goal))) (pos 0 -ℤ shift t column (length (goal_columns goal) + 1 + l)) (shift_free t column (length (goal_columns goal)) apart k.placed.marked.sized.apart)
    (moved_row (goal_columns goal) (with_goal goal.rows goal.objective) t column l row (IsOrdered-columns (monos_of goal.rows goal.objective.terms)) canonical among (sym k.placed.marked.sized.many ∙ kinds-length (with_goal goal.rows goal.objective)) k.placed.marked.sized.tableau within here))
  where
    no_constant : (x r z y : ℤ) → z ≡ pos 0 → x +ℤ r *ℤ z ≡ y → x ≡ y
    no_constant x r z y e f = let g : r *ℤ z ≡ pos 0 = ap (λ w. r *ℤ w) e ∙ times_zero r in plain x (r *ℤ z) y g f
      where
        plain : (x w y : ℤ) → w ≡ pos 0 → x +ℤ w ≡ y → x ≡ y
        plain x w y g f = omega (arith, ints, g, f)

-- ---- rows along the ray

one_of : (z : ℤ) → pos 1 *ℤ z ≡ z
one_of z = one-*ℤ z

pub ray_within : (over : Framed) (constants : ℕ) (kinds : List Kind) (enters : List Bool) (column : ℕ) (up : Bool) (t : Tableau) (l : ℕ) (kind : Kind) → IsOpened over constants kinds enters column up t → length t.lines ≡ over.rows + 1 → l < over.rows → kind_at kinds l ≡ kind → IsWithin kind (sign_of up *ℤ (pos 0 -ℤ shift t column (over.units + l)))
ray_within over constants kinds enters column up t l kind o many row is = ⊎_elim (λ (question : column < constants). level question) (λ way. along way.0 way.1 way.2) o.way
  where
    s : IsTableauOf over.units over.frame t
    s = o.met.placed.marked.sized.tableau

    here : l < length t.lines
    here = omega (arith, row, many)

    own : choices_of t over.rows ≡ over.units + over.rows
    own = o.met.placed.marked.waiting over.rows (omega (arith, many)) (o.met.placed.marked.sized.goals over.rows (omega arith) (omega (arith, many))) (o.met.placed.out over.rows (omega arith) (omega (arith, many)))

    free : (k : ℕ) → k < length t.lines → choices_of t k ≢ column
    free = column_free over constants kinds enters column up t o (omega (arith, many))

    level : column < constants → IsWithin kind (sign_of up *ℤ (pos 0 -ℤ shift t column (over.units + l)))
    level question = zero_within kind (sign_of up *ℤ (pos 0 -ℤ shift t column (over.units + l))) (ap (λ z. sign_of up *ℤ z) (level_ray over constants kinds enters t column l o.met question row here rows_only) ∙ times_zero (sign_of up))
      where
        rows_only : (i : ℕ) → i < length t.lines → choices_of t i ≡ over.units + l → i < over.rows
        rows_only i h e = ⊎_elim (λ (same : i ≡ over.rows). absurd (let f : over.units + over.rows ≡ over.units + l = sym own ∙ ap (choices_of t) (sym same) ∙ e in omega (arith, f, row))) (λ other. omega (arith, h, many, other)) (cases_eq i over.rows)

    along : enters_at enters column ≡ true → up ≡ true → ((i : ℕ) → i < length t.lines → enters_at enters (choices_of t i) ≡ true → numbers_of t i column ≤ℤ pos 0) → IsWithin kind (sign_of up *ℤ (pos 0 -ℤ shift t column (over.units + l)))
    along may upwards none_leaves = subst (λ (b : Bool). IsWithin kind (sign_of b *ℤ (pos 0 -ℤ shift t column (over.units + l)))) (sym upwards) (subst (λ z. IsWithin kind z) (sym (one_of (pos 0 -ℤ shift t column (over.units + l)))) slack)
      where
        unit : IsUnit over kinds (length t.lines) column
        unit = o.met.placed.marked.entering column may

        share_above : (i : ℕ) → pos 0 <ℤ share (length t.lines) (λ k. numbers_of t k (choices_of t k)) i
        share_above i = share-positive (length t.lines) (λ k. numbers_of t k (choices_of t k)) i (λ p q. s.is.own p q)

        kind_here : over.units + l ≡ column → kind ≡ AtMost
        kind_here e = sym is ∙ ap (kind_at kinds) (let f : column ≡ over.units + unit.row = unit.is in let g : l ≡ unit.row = omega (arith, e, f) in g) ∙ unit.kind

        falls : (z : ℤ) → pos 0 <ℤ z → (pos 0 -ℤ z) ≤ℤ pos 0
        falls z h = omega (arith, ints, h)

        back : (z : ℤ) → pos 0 -ℤ (pos 0 -ℤ z) ≡ z
        back z = omega (arith, ints)

        itself : over.units + l ≡ column → IsWithin kind (pos 0 -ℤ shift t column (over.units + l))
        itself e = subst (λ (q : Kind). IsWithin q (pos 0 -ℤ shift t column (over.units + l))) (sym (kind_here e))
            (subst (λ z. (pos 0 -ℤ z) ≤ℤ pos 0) (sym (ap (shift t column) e ∙ shift_own t column free)) (falls (whole_of t) (over-positive (length t.lines) (λ i. numbers_of t i (choices_of t i)) (λ i h. s.is.own i h))))

        chosen : column ≢ over.units + l → (i : ℕ) → i < length t.lines → choices_of t i ≡ over.units + l → IsWithin kind (pos 0 -ℤ shift t column (over.units + l))
        chosen apart i g choice = subst (λ z. IsWithin kind z) (sym (ap (λ z. pos 0 -ℤ z) (shift_chosen over t column (over.units + l) i s apart g choice) ∙ back (numbers_of t i column *ℤ share (length t.lines) (λ k. numbers_of t k (choices_of t k)) i))) (within kind is)
          where
            within : (kind : Kind) → kind_at kinds l ≡ kind → IsWithin kind (numbers_of t i column *ℤ share (length t.lines) (λ k. numbers_of t k (choices_of t k)) i)
            within AtMost k = not_above_times (numbers_of t i column) (share (length t.lines) (λ k. numbers_of t k (choices_of t k)) i) (none_leaves i g (ap (enters_at enters) choice ∙ o.met.kept l row k)) (share_above i)
            within Equal k = ap (λ z. z *ℤ share (length t.lines) (λ k. numbers_of t k (choices_of t k)) i) (ap (numbers_of t i) unit.is ∙ (o.met.placed.marked.fixed i l g here choice k).apart unit.row unit.here unit.kind) ∙ zero-*ℤ (share (length t.lines) (λ k. numbers_of t k (choices_of t k)) i)

        slack : IsWithin kind (pos 0 -ℤ shift t column (over.units + l))
        slack = ⊎_elim (λ (same : over.units + l ≡ column). itself same) (λ apart. ⊎_elim (λ found. chosen (λ e. apart (sym e)) found.0 found.1.0 found.1.1) (λ no_one. zero_within kind (pos 0 -ℤ shift t column (over.units + l)) (ap (λ z. pos 0 -ℤ z) (shift_free t column (over.units + l) (λ e. apart (sym e)) no_one))) (find_choice (length t.lines) (choices_of t) (over.units + l))) (cases_eq (over.units + l) column)

-- ---- the column, and the test

pub record IsRayColumn (goal : Goal) (t : Tableau) (column : ℕ) : Type 0 where
  pub many : length t.lines ≡ length goal.rows + 1
  pub apart : column ≢ length (goal_columns goal)
  pub within : column < length (goal_columns goal) + 1 + length t.lines
  pub free : (k : ℕ) → k < length t.lines → choices_of t k ≢ column

pub ray_column : (goal : Goal) (enters : List Bool) (t : Tableau) (column : ℕ) (up : Bool) → IsOpened (goal_frame goal) (length (goal_columns goal)) (kinds_of (with_goal goal.rows goal.objective)) enters column up t → IsRayColumn goal t column
ray_column goal enters t column up o = record {
  many = lines_many;
  apart = ⊎_elim (λ (h : column < length (goal_columns goal)). (λ e. absurd (omega (arith, h, e)))) (λ way. (λ e. absurd (let f : column ≡ length (goal_columns goal) + 1 + (o.met.placed.marked.entering column way.0).row = (o.met.placed.marked.entering column way.0).is in omega (arith, f, e)))) o.way;
  within = ⊎_elim (λ (h : column < length (goal_columns goal)). (let g : column < length (goal_columns goal) + 1 + length t.lines = omega (arith, h) in g)) (λ way. inside (o.met.placed.marked.entering column way.0)) o.way;
  free = column_free (goal_frame goal) (length (goal_columns goal)) (kinds_of (with_goal goal.rows goal.objective)) enters column up t o (omega (arith, lines_many));
}
  where
    lines_many : length t.lines ≡ length goal.rows + 1
    lines_many = sym o.met.placed.marked.sized.many ∙ kinds-length (with_goal goal.rows goal.objective) ∙ more_rows goal.rows goal.objective

    inside : IsUnit (goal_frame goal) (kinds_of (with_goal goal.rows goal.objective)) (length t.lines) column → column < length (goal_columns goal) + 1 + length t.lines
    inside u = let f : column ≡ length (goal_columns goal) + 1 + u.row = u.is in let h : u.row < length t.lines = u.here in omega (arith, f, h)

pub ray_stands : (goal : Goal) (enters : List Bool) (t : Tableau) (column : ℕ) (up : Bool) (ray : List Fraction) (m : List Col) → IsOpened (goal_frame goal) (length (goal_columns goal)) (kinds_of (with_goal goal.rows goal.objective)) enters column up t → IsRayOf t column up (length (goal_columns goal)) ray
    → Stands (ratio_at (goal_columns goal) ray m) (numbered (goal_columns goal) (ray_shift t column up) m) (whole_of t)
ray_stands goal enters t column up ray m o r =
    stands_each (goal_columns goal) ray (ray_shift t column up) (whole_of t) m r.each (λ j h. slope_stands (goal_frame goal) t column up j (get_or ray j (whole (pos 0))) o.met.placed.marked.sized.tableau (ray_column goal enters t column up o).free (r.same j h))

pub ray_honest : (goal : Goal) (enters : List Bool) (t : Tableau) (column : ℕ) (up : Bool) (ray : List Fraction) (b : Bool) → IsCanonicalGoal goal → IsOpened (goal_frame goal) (length (goal_columns goal)) (kinds_of (with_goal goal.rows goal.objective)) enters column up t → IsRayOf t column up (length (goal_columns goal)) ray → tested_ray goal ray ≡ Ok b → b ≡ true
ray_honest goal enters t column up ray b canonical o r e = first (and_then (bool_ok (length ray == length (goal_columns goal))) (meets (slope_at (ratio_at (goal_columns goal) ray)) goal.rows)) rows_too e
  where
    c : IsRayColumn goal t column
    c = ray_column goal enters t column up o

    above : pos 0 <ℤ whole_of t
    above = over-positive (length t.lines) (λ i. numbers_of t i (choices_of t i)) (λ i h. o.met.placed.marked.sized.tableau.is.own i h)

    stands : (m : List Col) → Stands (ratio_at (goal_columns goal) ray m) (numbered (goal_columns goal) (ray_shift t column up) m) (whole_of t)
    stands m = ray_stands goal enters t column up ray m o r

    row_honest : (l : ℕ) (row : Row) → slice_get goal.rows l ≡ Some row → (v : Fraction) → slope_at (ratio_at (goal_columns goal) ray) row.poly ≡ Ok v → is_within row.kind v.num ≡ true
    row_honest l row here v f =
        within_back row.kind v (terms_at (numbered (goal_columns goal) (ray_shift t column up)) row.poly.terms) (whole_of t) above
        (slope_at-stands (ratio_at (goal_columns goal) ray) (numbered (goal_columns goal) (ray_shift t column up)) (whole_of t) row.poly v stands f)
        (subst (λ z. IsWithin row.kind z) (sym (ray_row_value goal enters t column up l row o.met c.apart c.within (all_at (λ (q : Row). IsCanonical q.poly.terms) goal.rows l row (recursion_from_All (λ (q : Row). IsCanonical q.poly.terms) goal.rows canonical.rows) here) (all_at (λ (q : Row). AreAmong (keys_of q.poly.terms) (goal_columns goal)) goal.rows l row (rows_among goal.rows goal.objective.terms) here) (slice_before goal.rows goal.objective l row here)))
        (ray_within (goal_frame goal) (length (goal_columns goal)) (kinds_of (with_goal goal.rows goal.objective)) enters column up t l row.kind o c.many inside (kind_before goal.rows goal.objective l inside ∙ kind_row goal.rows l row here)))
      where
        inside : l < length goal.rows
        inside = row_within goal.rows l row here

    rows_too : (q : Bool) → and_then (bool_ok (length ray == length (goal_columns goal))) (meets (slope_at (ratio_at (goal_columns goal) ray)) goal.rows) ≡ Ok q → q ≡ true
    rows_too q f = after_length (length ray == length (goal_columns goal)) (eq-eqb (length ray) (length (goal_columns goal)) r.each) f
      where
        after_length : (p : Bool) → p ≡ true → and_then (bool_ok p) (meets (slope_at (ratio_at (goal_columns goal) ray)) goal.rows) ≡ Ok q → q ≡ true
        after_length true g h = meets-honest (slope_at (ratio_at (goal_columns goal) ray)) goal.rows (each_row (λ (row : Row). (v : Fraction) → slope_at (ratio_at (goal_columns goal) ray) row.poly ≡ Ok v → is_within row.kind v.num ≡ true) goal.rows row_honest) q h
        after_length false g h = cc

    slope_is : terms_at (numbered (goal_columns goal) (ray_shift t column up)) goal.objective.terms ≡ sign_of up *ℤ numbers_of t (length goal.rows) column *ℤ share (length t.lines) (λ k. numbers_of t k (choices_of t k)) (length goal.rows)
    slope_is =
        ray_row_value goal enters t column up (length goal.rows) (record { poly = goal.objective; kind = AtMost }) o.met c.apart c.within canonical.objective (terms_among goal.rows goal.objective.terms) (slice_goal goal.rows goal.objective)
        ∙ ap (λ z. sign_of up *ℤ z) (goal_slope (goal_frame goal) (length (goal_columns goal)) (kinds_of (with_goal goal.rows goal.objective)) enters t column o.met (let g : length t.lines ≡ length goal.rows + 1 = c.many in omega (arith, g)) not_own)
        ∙ sym (*ℤ_assoc (sign_of up) (numbers_of t (length goal.rows) column) (share (length t.lines) (λ k. numbers_of t k (choices_of t k)) (length goal.rows)))
      where
        inside : length goal.rows < length t.lines
        inside = let g : length t.lines ≡ length goal.rows + 1 = c.many in omega (arith, g)

        not_own : column ≢ length (goal_columns goal) + 1 + length goal.rows
        not_own e = c.free (length goal.rows) inside (o.met.placed.marked.waiting (length goal.rows) inside (o.met.placed.marked.sized.goals (length goal.rows) (omega arith) inside) (o.met.placed.out (length goal.rows) (omega arith) inside) ∙ sym e)

    grows_too : (v : Fraction) → Stands v (sign_of up *ℤ numbers_of t (length goal.rows) column *ℤ share (length t.lines) (λ k. numbers_of t k (choices_of t k)) (length goal.rows)) (whole_of t) → int_lt (pos 0) v.num ≡ true
    grows_too v s = lt_true (pos 0) v.num (positive_left v.num (whole_of t) above
        (subst (λ z. pos 0 <ℤ z) (sym s.same) (product (sign_of up *ℤ numbers_of t (length goal.rows) column *ℤ share (length t.lines) (λ k. numbers_of t k (choices_of t k)) (length goal.rows)) v.den
        (product (sign_of up *ℤ numbers_of t (length goal.rows) column) (share (length t.lines) (λ k. numbers_of t k (choices_of t k)) (length goal.rows)) o.grows (share-positive (length t.lines) (λ k. numbers_of t k (choices_of t k)) (length goal.rows) (λ i h. o.met.placed.marked.sized.tableau.is.own i h))) s.positive)))
      where
        positive_left : (z k : ℤ) → pos 0 <ℤ k → pos 0 <ℤ (z *ℤ k) → pos 0 <ℤ z
        positive_left z k h p = factor_positive k z h (subst (λ x. pos 0 <ℤ x) (*ℤ_comm z k) p)

    second : slope_at (ratio_at (goal_columns goal) ray) goal.objective >>= (λ v. bool_ok (int_lt (pos 0) v.num)) ≡ Ok b → b ≡ true
    second f = on_ok (slope_at (ratio_at (goal_columns goal) ray) goal.objective) (λ v. bool_ok (int_lt (pos 0) v.num)) b f
        (λ v g h. let same : int_lt (pos 0) v.num ≡ b = cc in sym same ∙ grows_too v (subst (λ z. Stands v z (whole_of t)) slope_is (slope_at-stands (ratio_at (goal_columns goal) ray) (numbered (goal_columns goal) (ray_shift t column up)) (whole_of t) goal.objective v stands g)))

    first : (q : Result Bool Step.Wide) → ((p : Bool) → q ≡ Ok p → p ≡ true) → and_then q (slope_at (ratio_at (goal_columns goal) ray) goal.objective >>= (λ v. bool_ok (int_lt (pos 0) v.num))) ≡ Ok b → b ≡ true
    first (Ok true) f g = second g
    first (Ok false) f g = absurd (let e : false ≡ true = f false refl in false≢true e)
    first (Err w) f g = cc
