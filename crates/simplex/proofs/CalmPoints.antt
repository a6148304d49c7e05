-- A point of a case that the search meets is a corner of the frame of the case's rows, or a corner
-- and a ray, in the words of calm questions: the tableau at hand loses the line of the polynomial
-- that it carries along.
use Rattle.std.proofs.Common.{◌≡◌, ◌≢◌, ◌⊎◌, inl, inr, ℕ, suc, ◌+◌, ◌<◌, ◌≤◌, Bool, true, false, cond, List, [], ◌∷◌, map, length, get_or, refl, sym, ap, subst, ◌∙◌, arith, ⊎_elim, ℤ, pos, negsuc, ◌+ℤ◌, ◌-ℤ◌, ◌*ℤ◌, ◌<ℤ◌}
use Rattle.std.specs.Prelude.{nat_eq, nat_lt, neg_ℤ}
use Rattle.std.specs.List.{AllByRecursion}
use Rattle.std.specs.Ordering.{eq_by_cmp}
use Rattle.std.proofs.lemmas.Int.{ints}
use Rattle.std.proofs.lemmas.Bool.{cases_eq, cases_lt, eq-eqb, ne_eqb, ltb-true, false≢true}
use Rattle.std.proofs.Math.IntN.{*ℤ_comm}
use Rattle.whole_numbers.proofs.Ring.{*ℤ-neg_ℤ}
use Rattle.linear_terms.specs.declared.col.Col.{Col}
use Rattle.linear_terms.specs.declared.row.Row.{Row}
use Rattle.linear_terms.specs.Mono.{mono_cmp}
use Rattle.linear_terms.specs.Polynomial.{Polynomial}
use Rattle.farkas_check.specs.Calm.{row_frame, is_among, at_chosen, corner, ray, IsCorner, IsCornerAndRay}
use Rattle.farkas_check.specs.Frames.{number_in, line_of, frame_of, line_count, sum_below, IsTableau}
use Rattle.farkas_check.specs.Points.{ratio_at}
use Rattle.farkas_check.specs.Ratios.{Fraction}
use Rattle.farkas_check.specs.Relations.{entry, places}
use Rattle.farkas_check.specs.Sizes.{row_polys}
use Rattle.farkas_check.proofs.PointValues.{Stands}
use Rattle.simplex.specs.Exchange.{numbers_of, choices_of, IsTableauOf}
use Rattle.simplex.specs.Points.{IsCornerPoint, IsRayPoint, IsPointOf}
use Rattle.simplex.specs.Raise.{sign_of, enters_at}
use Rattle.simplex.specs.Rows.{kinds_of, framed_tableau}
use Rattle.simplex.specs.Search.{IsMet, IsUnit}
use Rattle.simplex.specs.Suprema.{with_goal, frame_over, IsOpened}
use Rattle.simplex.specs.declared.tableau.Tableau.{Tableau}
use Rattle.simplex.proofs.CalmDifferences.{row_lines-goal, row_lines-length}
use Rattle.simplex.proofs.Calmness.{whole_over, multiple_of, is_tableau, row_numbers, lines-length}
use Rattle.simplex.proofs.CalmRelations.{at_chosen-none, at_chosen-one, among-none}
use Rattle.simplex.proofs.Eliminations.{choose_apart}
use Rattle.simplex.proofs.Exchanges.{times_zero}
use Rattle.simplex.proofs.RowTableaux.{at_front, kinds-length}
use Rattle.simplex.proofs.LeastShares.{number_listed, choice_listed, listed-length}
use Rattle.simplex.proofs.Moves.{shift, shift_chosen, shift_free, shift_own}
use Rattle.simplex.proofs.Objectives.{more_rows}
use Rattle.simplex.proofs.Rays.{ray_shift}
use Rattle.simplex.proofs.SpotPoints.{above, corner_stands, ray_stands, IsGrowing, growing}
use Rattle.simplex.proofs.RowCorners.{numbered, find_choice}
use Rattle.simplex.proofs.Sums.{sum_below-same}

-- ---- the tableau of the rows alone

module _ (cs : List (List Col)) (rows : List Row) (p : Polynomial) (enters : List Bool) (t : Tableau) (k : IsMet (frame_over cs rows p) (length cs) (kinds_of (with_goal rows p)) enters t) where
  many : length t.lines ≡ length rows + 1
  many = sym k.placed.marked.sized.many ∙ kinds-length (with_goal rows p) ∙ more_rows rows p

  pub tableau_is : IsTableauOf (length cs + 1) (numbers_of (framed_tableau cs (with_goal rows p))) t
  tableau_is = k.placed.marked.sized.tableau

  pub row-inside : (i : ℕ) → i < length rows → i < length t.lines
  row-inside i h = let e : length t.lines ≡ length rows + 1 = many in omega (arith, e, h)

  last_inside : length rows < length t.lines
  last_inside = let e : length t.lines ≡ length rows + 1 = many in omega (arith, e)

  -- the last line chooses its own unit column
  pub last_choice : choices_of t (length rows) ≡ length cs + 1 + length rows
  last_choice = k.placed.marked.waiting (length rows) last_inside (k.placed.marked.sized.goals (length rows) (omega arith) last_inside) (k.placed.out (length rows) (omega arith) last_inside)

  within : (i : ℕ) → i < length rows → choices_of t i < length cs + 1 + length rows
  within i h =
      let e : length t.lines ≡ length rows + 1 = many in
      let f : choices_of t (length rows) ≡ length cs + 1 + length rows = last_choice in
      let g : choices_of t i < length cs + 1 + length t.lines = tableau_is.within i (row-inside i h) in
      below (choices_of t i) (choices_of t (length rows)) (length t.lines) e f g (choose_apart (frame_over cs rows p) t i (length rows) tableau_is (row-inside i h) last_inside (λ q. absurd (omega (arith, h, q))))
    where
      below : (a b n : ℕ) → n ≡ length rows + 1 → b ≡ length cs + 1 + length rows → a < length cs + 1 + n → a ≢ b → a < length cs + 1 + length rows
      below a b n e f g other = omega (arith, e, f, g, other)

  abbrev chosen : List ℕ
  chosen = map (choices_of t) (places (length rows))

  choice_is : (i : ℕ) → i < length rows → get_or chosen i 0 ≡ choices_of t i
  choice_is i h = choice_listed (choices_of t) (length rows) i h

  chosen_many : length chosen ≡ length rows
  chosen_many = listed-length (choices_of t) (length rows)

  -- a line of the rows is the same in both frames
  number_same : (l j : ℕ) → l < length rows → number_in (row_frame cs rows) l j ≡ number_in (frame_of cs (row_polys (with_goal rows p) [])) l j
  number_same l j h =
      ap (λ (zs : List ℤ). cond (nat_lt j (length cs + 1)) (entry zs j) (cond (nat_eq j (length cs + 1 + l)) (pos 1) (pos 0)))
      (sym (ap (λ (ls : List (List ℤ)). get_or ls l []) (row_lines-goal cs rows p) ∙ at_front (map (line_of cs) (row_polys rows [])) (line_of cs p ∷ []) [] l (subst (λ (n : ℕ). l < n) (sym (row_lines-length cs rows)) h)))

  not_below : (a b : ℕ) → b ≤ a → (q : Bool) → nat_lt a b ≡ q → q ≡ false
  not_below a b e true f = absurd (let g : a < b = ltb-true a b f in omega (arith, e, g))
  not_below a b e false f = refl

  unit_zero : (l : ℕ) → l < length rows → number_in (frame_of cs (row_polys (with_goal rows p) [])) l (length cs + 1 + length rows) ≡ pos 0
  unit_zero l h =
      ap (λ (q : Bool). cond q (entry (get_or (map (line_of cs) (row_polys (with_goal rows p) [])) l []) (length cs + 1 + length rows)) (cond (nat_eq (length cs + 1 + length rows) (length cs + 1 + l)) (pos 1) (pos 0))) (not_below (length cs + 1 + length rows) (length cs + 1) (omega arith) (nat_lt (length cs + 1 + length rows) (length cs + 1)) refl)
      ∙ ap (λ (q : Bool). cond q (pos 1) (pos 0)) (ne_eqb (length cs + 1 + length rows) (length cs + 1 + l) (λ e. absurd (omega (arith, h, e))))

  big_many : length t.lines ≡ line_count (frame_of cs (row_polys (with_goal rows p) []))
  big_many = many ∙ sym (lines-length cs (with_goal rows p) ∙ more_rows rows p)

  big : IsTableau (frame_of cs (row_polys (with_goal rows p) [])) t.chosen (whole_over t) (multiple_of t)
  big = is_tableau (frame_of cs (row_polys (with_goal rows p) [])) (numbers_of (framed_tableau cs (with_goal rows p))) t (row_numbers cs (with_goal rows p)) big_many tableau_is

  abbrev big_part : ℕ → ℕ → ℕ → ℤ
  big_part l j i = multiple_of t i j *ℤ number_in (frame_of cs (row_polys (with_goal rows p) [])) l (choices_of t i)

  last_part : (l j : ℕ) → l < length rows → big_part l j (length rows) ≡ pos 0
  last_part l j h = ap (λ z. multiple_of t (length rows) j *ℤ z) (ap (number_in (frame_of cs (row_polys (with_goal rows p) [])) l) last_choice ∙ unit_zero l h) ∙ times_zero (multiple_of t (length rows) j)

  without_zero : (z w : ℤ) → w ≡ pos 0 → z +ℤ w ≡ z
  without_zero z w e = omega (arith, ints, e)

  written : (l j : ℕ) → l < length rows → j < length cs + 1 + length rows → whole_over t *ℤ number_in (row_frame cs rows) l j ≡ sum_below (length rows) (λ i. multiple_of t i j *ℤ number_in (row_frame cs rows) l (get_or chosen i 0))
  written l j h g =
      ap (λ z. whole_over t *ℤ z) (number_same l j h)
      ∙ big.writes l j (subst (λ (n : ℕ). l < n) big_many (row-inside l h)) (subst (λ (n : ℕ). j < length cs + 1 + n) big_many (let e : length t.lines ≡ length rows + 1 = many in omega (arith, e, g)))
      ∙ ap (λ (n : ℕ). sum_below n (big_part l j)) (sym big_many ∙ many ∙ (let e : length rows + 1 ≡ suc (length rows) = omega arith in e))
      ∙ without_zero (sum_below (length rows) (big_part l j)) (big_part l j (length rows)) (last_part l j h)
      ∙ sum_below-same (length rows) (big_part l j) (λ i. multiple_of t i j *ℤ number_in (row_frame cs rows) l (get_or chosen i 0))
      (λ i f. ap (λ z. multiple_of t i j *ℤ z) (ap (number_in (frame_of cs (row_polys (with_goal rows p) [])) l) (sym (choice_is i f)) ∙ sym (number_same l (get_or chosen i 0) h)))

  all_within : (n : ℕ) → ((i : ℕ) → i < n → choices_of t i < length cs + 1 + length rows) → (xs : List ℕ) → ((i : ℕ) → i < length xs → (c : ℕ) × ((c < n) × (get_or xs i 0 ≡ choices_of t c))) → AllByRecursion (λ column. column < length cs + 1 + length rows) xs
  all_within n f [] h = tt
  all_within n f (x ∷ xs) h = (
    (let c = h 0 (omega arith) in subst (λ (m : ℕ). m < length cs + 1 + length rows) (sym c.1.1) (f c.0 c.1.0)),
    all_within n f xs (λ i g. h (suc i) (omega (arith, g))),
  )

  pub row_tableau : IsTableau (row_frame cs rows) chosen (whole_over t) (multiple_of t)
  row_tableau = record {
    each = chosen_many ∙ sym (lines-length cs rows);
    within = subst (λ (n : ℕ). AllByRecursion (λ column. column < length cs + 1 + n) chosen) (sym (lines-length cs rows)) (all_within (length rows) within chosen (λ i h. (i, (subst (λ (n : ℕ). i < n) chosen_many h, choice_is i (subst (λ (n : ℕ). i < n) chosen_many h)))));
    positive = above cs rows p (kinds_of (with_goal rows p)) enters t k;
    writes = λ l j h g. written l j (subst (λ (n : ℕ). l < n) (lines-length cs rows) h) (subst (λ (n : ℕ). j < length cs + 1 + n) (lines-length cs rows) g)
        ∙ ap (λ (n : ℕ). sum_below n (λ i. multiple_of t i j *ℤ number_in (row_frame cs rows) l (get_or chosen i 0))) (sym (lines-length cs rows));
  }

  -- ---- numbers at the columns of the case

  at_any : (number : ℕ → ℤ) (j : ℕ) (z : ℤ) → ((i : ℕ) → i < length rows → choices_of t i ≡ j → number i ≡ z) → (((i : ℕ) → i < length rows → choices_of t i ≢ j) → pos 0 ≡ z) → at_chosen chosen number j ≡ z
  at_any number j z there none = ⊎_elim (λ found. one found.0 found.1.0 found.1.1) (λ no_one. nowhere no_one) (find_choice (length rows) (choices_of t) j)
    where
      one : (i : ℕ) → i < length rows → choices_of t i ≡ j → at_chosen chosen number j ≡ z
      one i h is = at_chosen-one chosen number j i (subst (λ (n : ℕ). i < n) (sym chosen_many) h) (choice_is i h ∙ is)
          (λ l g other e. choose_apart (frame_over cs rows p) t l i tableau_is (row-inside l (subst (λ (n : ℕ). l < n) chosen_many g)) (row-inside i h) other (sym (choice_is l (subst (λ (n : ℕ). l < n) chosen_many g)) ∙ e ∙ sym is))
          ∙ there i h is

      nowhere : ((i : ℕ) → i < length rows → choices_of t i ≢ j) → at_chosen chosen number j ≡ z
      nowhere no_one = at_chosen-none chosen number j (λ i h e. no_one i (subst (λ (n : ℕ). i < n) chosen_many h) (sym (choice_is i (subst (λ (n : ℕ). i < n) chosen_many h)) ∙ e)) ∙ none no_one

  pub lines-none : (j : ℕ) → j < length cs → ((i : ℕ) → i < length rows → choices_of t i ≢ j) → (i : ℕ) → i < length t.lines → choices_of t i ≢ j
  lines-none j h none i g e = ⊎_elim (λ (q : i < length rows). none i q e)
      (λ (q : length rows ≤ i). (let m : length t.lines ≡ length rows + 1 = many in let is : i ≡ length rows = omega (arith, g, q, m) in let f : choices_of t (length rows) ≡ length cs + 1 + length rows = last_choice in let same : choices_of t (length rows) ≡ j = sym (ap (choices_of t) is) ∙ e in absurd (omega (arith, f, same, h)))) (cases_lt i (length rows))

  less : (z : ℤ) → neg_ℤ z ≡ pos 0 -ℤ z
  less z = omega (arith, ints)

  pub corner_is : (j : ℕ) → j < length cs → corner (length cs) chosen (multiple_of t) j ≡ shift t (length cs) j
  corner_is j h = at_any (λ i. neg_ℤ (multiple_of t i (length cs))) j (shift t (length cs) j)
      (λ i g is. less (multiple_of t i (length cs)) ∙ sym (shift_chosen (frame_over cs rows p) t (length cs) j i tableau_is apart (row-inside i g) is))
      (λ none. sym (shift_free t (length cs) j apart (lines-none j h none)))
    where
      apart : length cs ≢ j
      apart e = absurd (omega (arith, h, e))

  pub ray_is : (column j : ℕ) (up : Bool) → j < length cs → ((i : ℕ) → i < length t.lines → choices_of t i ≢ column) → ray (whole_over t) (sign_of up) column chosen (multiple_of t) j ≡ ray_shift t column up j
  ray_is column j up h free = ⊎_elim (λ (e : j ≡ column). here e) (λ apart. elsewhere apart) (cases_eq j column)
    where
      here : j ≡ column → ray (whole_over t) (sign_of up) column chosen (multiple_of t) j ≡ ray_shift t column up j
      here e = ap (λ (q : Bool). cond q (sign_of up *ℤ whole_over t) (at_chosen chosen (λ i. neg_ℤ (multiple_of t i column *ℤ sign_of up)) j)) (eq-eqb j column e)
          ∙ ap (λ z. sign_of up *ℤ z) (sym (ap (shift t column) e ∙ shift_own t column free))

      turned : (z s : ℤ) → neg_ℤ (z *ℤ s) ≡ s *ℤ (pos 0 -ℤ z)
      turned z s = ap neg_ℤ (*ℤ_comm z s) ∙ sym (*ℤ-neg_ℤ s z) ∙ ap (λ y. s *ℤ y) (less z)

      elsewhere : j ≢ column → ray (whole_over t) (sign_of up) column chosen (multiple_of t) j ≡ ray_shift t column up j
      elsewhere apart =
          ap (λ (q : Bool). cond q (sign_of up *ℤ whole_over t) (at_chosen chosen (λ i. neg_ℤ (multiple_of t i column *ℤ sign_of up)) j)) (ne_eqb j column apart)
          ∙ at_any (λ i. neg_ℤ (multiple_of t i column *ℤ sign_of up)) j (ray_shift t column up j)
          (λ i g is. turned (multiple_of t i column) (sign_of up) ∙ ap (λ z. sign_of up *ℤ z) (sym (shift_chosen (frame_over cs rows p) t column j i tableau_is (λ e. apart (sym e)) (row-inside i g) is)))
          (λ none. sym (ap (λ z. sign_of up *ℤ z) (shift_free t column j (λ e. apart (sym e)) (lines-none j h none)) ∙ times_zero (sign_of up)))

  pub constants_free : is_among (length cs) chosen ≡ false
  constants_free = among-none chosen (length cs) (λ i h e. k.placed.marked.sized.apart i (row-inside i (subst (λ (n : ℕ). i < n) chosen_many h)) (sym (choice_is i (subst (λ (n : ℕ). i < n) chosen_many h)) ∙ e))

  pub column_among : (column : ℕ) → ((i : ℕ) → i < length t.lines → choices_of t i ≢ column) → is_among column chosen ≡ false
  column_among column free = among-none chosen column (λ i h e. free i (row-inside i (subst (λ (n : ℕ). i < n) chosen_many h)) (sym (choice_is i (subst (λ (n : ℕ). i < n) chosen_many h)) ∙ e))

-- ---- points

-- numbers of a corner, or of a corner and a ray, over one denominator, for which a point stands
pub record IsFramedPoint (cs : List (List Col)) (rows : List Row) (at : List Fraction) : Type 0 where
  pub over : ℤ
  pub numbers : List ℤ
  pub positive : pos 0 <ℤ over
  pub each : length numbers ≡ length cs
  pub is : IsCorner cs rows over numbers ⊎ IsCornerAndRay cs rows over numbers
  pub stands : (m : List Col) → Stands (ratio_at cs at m) (numbered cs (λ j. entry numbers j) m) over

numbered-same : (cs : List (List Col)) (f g : ℕ → ℤ) (m : List Col) → ((j : ℕ) → j < length cs → f j ≡ g j) → numbered cs f m ≡ numbered cs g m
numbered-same [] f g m same = refl
numbered-same (c ∷ cs) f g m same =
    ap (λ z. cond (eq_by_cmp mono_cmp c m) z (numbered cs (λ j. f (suc j)) m)) (same 0 (omega arith))
    ∙ ap (λ z. cond (eq_by_cmp mono_cmp c m) (g 0) z) (numbered-same cs (λ j. f (suc j)) (λ j. g (suc j)) m (λ j h. same (suc j) (omega (arith, h))))

-- the column along which the polynomial grows is one of the frame of the rows
pub column_within : (cs : List (List Col)) (rows : List Row) (p : Polynomial) (enters : List Bool) (t : Tableau) (column : ℕ) (up : Bool) → IsOpened (frame_over cs rows p) (length cs) (kinds_of (with_goal rows p)) enters column up t → column < length cs + 1 + length rows
column_within cs rows p enters t column up o = ⊎_elim (λ (h : column < length cs). (let r : column < length cs + 1 + length rows = omega (arith, h) in r)) (λ way. by_unit way.0) o.way
  where
    by_unit : enters_at enters column ≡ true → column < length cs + 1 + length rows
    by_unit e = ⊎_elim (λ (h : u.row < length rows). (let f : column ≡ length cs + 1 + u.row = u.is in omega (arith, f, h)))
        (λ (h : length rows ≤ u.row). absurd (false≢true (sym (o.met.placed.out u.row h u.here) ∙ ap (enters_at enters) (sym u.is) ∙ e))) (cases_lt u.row (length rows))
      where
        u : IsUnit (frame_over cs rows p) (kinds_of (with_goal rows p)) (length t.lines) column
        u = o.met.placed.marked.entering column e

corner_framed : (cs : List (List Col)) (rows : List Row) (at : List Fraction) → IsCornerPoint cs rows at → IsFramedPoint cs rows at
corner_framed cs rows at c = record {
  over = whole_over c.tableau;
  numbers = map number (places (length cs));
  positive = above cs rows c.objective (kinds_of (with_goal rows c.objective)) c.enters c.tableau c.met;
  each = listed-length number (length cs);
  is = inl (record {
    chosen = map (choices_of c.tableau) (places (length rows));
    multiple = multiple_of c.tableau;
    tableau = row_tableau cs rows c.objective c.enters c.tableau c.met;
    constants = constants_free cs rows c.objective c.enters c.tableau c.met;
    is = refl;
  });
  stands = λ m. subst (λ z. Stands (ratio_at cs at m) z (whole_over c.tableau))
      (numbered-same cs (shift c.tableau (length cs)) (λ j. entry (map number (places (length cs))) j) m (λ j h. sym (number_listed number (length cs) j h ∙ corner_is cs rows c.objective c.enters c.tableau c.met j h)))
      (corner_stands cs rows at c m);
}
  where
    number : ℕ → ℤ
    number = corner (length cs) (map (choices_of c.tableau) (places (length rows))) (multiple_of c.tableau)

ray_framed : (cs : List (List Col)) (rows : List Row) (at : List Fraction) → IsRayPoint cs rows at → IsFramedPoint cs rows at
ray_framed cs rows at c = record {
  over = whole_over c.tableau;
  numbers = map number (places (length cs));
  positive = above cs rows c.objective (kinds_of (with_goal rows c.objective)) c.enters c.tableau c.opened.met;
  each = listed-length number (length cs);
  is = inr (record {
    chosen = map (choices_of c.tableau) (places (length rows));
    multiple = multiple_of c.tableau;
    tableau = row_tableau cs rows c.objective c.enters c.tableau c.opened.met;
    constants = constants_free cs rows c.objective c.enters c.tableau c.opened.met;
    column = c.column;
    within = column_within cs rows c.objective c.enters c.tableau c.column c.up c.opened;
    other = ne_eqb c.column (length cs) g.apart;
    free = column_among cs rows c.objective c.enters c.tableau c.opened.met c.column g.free;
    sign = sign_of c.up;
    one = one_of c.up;
    is = refl;
  });
  stands = λ m. subst (λ z. Stands (ratio_at cs at m) z (whole_over c.tableau))
      (numbered-same cs (λ j. shift c.tableau (length cs) j +ℤ ray_shift c.tableau c.column c.up j) (λ j. entry (map number (places (length cs))) j) m
      (λ j h. sym (number_listed number (length cs) j h ∙ both (corner (length cs) chosen (multiple_of c.tableau) j) (shift c.tableau (length cs) j) (ray (whole_over c.tableau) (sign_of c.up) c.column chosen (multiple_of c.tableau) j) (ray_shift c.tableau c.column c.up j)
      (corner_is cs rows c.objective c.enters c.tableau c.opened.met j h) (ray_is cs rows c.objective c.enters c.tableau c.opened.met c.column j c.up h g.free))))
      (ray_stands cs rows at c m);
}
  where
    chosen : List ℕ
    chosen = map (choices_of c.tableau) (places (length rows))

    number : ℕ → ℤ
    number place = corner (length cs) chosen (multiple_of c.tableau) place +ℤ ray (whole_over c.tableau) (sign_of c.up) c.column chosen (multiple_of c.tableau) place

    g : IsGrowing cs rows c.tableau c.column
    g = growing cs rows c.objective c.enters c.tableau c.column c.up c.opened

    both : (a b x y : ℤ) → a ≡ b → x ≡ y → a +ℤ x ≡ b +ℤ y
    both a b x y e f = ap (λ z. z +ℤ x) e ∙ ap (λ z. b +ℤ z) f

    one_of : (up : Bool) → (sign_of up ≡ pos 1) ⊎ (sign_of up ≡ negsuc 0)
    one_of true = inl refl
    one_of false = inr refl

pub point_framed : (cs : List (List Col)) (rows : List Row) (at : List Fraction) → IsPointOf cs rows at → IsFramedPoint cs rows at
point_framed cs rows at is = ⊎_elim (λ (c : IsCornerPoint cs rows at). corner_framed cs rows at c) (λ (c : IsRayPoint cs rows at). ray_framed cs rows at c) is
