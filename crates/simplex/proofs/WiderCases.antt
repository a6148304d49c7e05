-- Suprema over more columns than the rows of a case have.
use Rattle.std.proofs.Common.{◌≡◌, ℕ, zero, suc, ◌+◌, ◌<◌, ◌≤◌, Bool, false, cond, List, [], ◌∷◌, ◌++◌, length, map, get_or, refl, sym, ap, subst, ◌∙◌, arith, ⊎_elim, ℤ, pos, ◌*ℤ◌, ◌<ℤ◌}
use Rattle.std.specs.Prelude.{unsigned_abs}
use Rattle.std.specs.List.{AllByRecursion}
use Rattle.std.specs.Ordering.{eq_by_cmp, is_eq}
use Rattle.std.specs.declared.cmp.Ordering.TheVariants.{Less}
use Rattle.std.proofs.lemmas.Bool.{cases_lt}
use Rattle.std.proofs.lemmas.List.{append_assoc, length-map}
use Rattle.linear_terms.specs.declared.col.Col.{Col}
use Rattle.linear_terms.specs.declared.row.Row.{Row}
use Rattle.linear_terms.specs.Mono.{mono_cmp}
use Rattle.linear_terms.specs.Polynomial.{Polynomial, coefficient_in}
use Rattle.farkas_check.specs.Multiples.{number_at as coefficient_at}
use Rattle.farkas_check.specs.Ratios.{Fraction, whole}
use Rattle.farkas_check.specs.declared.answer.Cert.{Cert}
use Rattle.farkas_check.proofs.Spreads.{itself}
use Rattle.farkas_check.proofs.Walks.{IsBefore, reversed}
use Rattle.simplex.specs.Endings.{IsMetFor}
use Rattle.simplex.specs.Exchange.{numbers_of}
use Rattle.simplex.specs.Raise.{Framed, sign_of}
use Rattle.simplex.specs.Refusal.{IsSmallFrame}
use Rattle.simplex.specs.Rows.{kinds_of, whole_line, lines_from, framed_tableau}
use Rattle.simplex.specs.Search.{IsMet, IsCornerOf}
use Rattle.simplex.specs.Suprema.{with_goal, frame_over, IsRayOf, IsSupremumOver, SupremumAt}
use Rattle.simplex.specs.Wider.{widened_numbers, widened_supremum}
use Rattle.simplex.specs.declared.supremum.Supremum.{Supremum}
use Rattle.simplex.specs.declared.supremum.Supremum.TheVariants as supremum
use Rattle.simplex.specs.declared.tableau.Tableau.{Tableau}
use Rattle.simplex.proofs.Calmness.{no_line, nothing_small}
use Rattle.simplex.proofs.Certificates.{each_of}
use Rattle.simplex.proofs.RowTableaux.{at_line, kinds-length, long, numbers-unit, whole_line-length}
use Rattle.simplex.proofs.Objectives.{more_rows}
use Rattle.simplex.proofs.Skips.{put, skip, put-front, put-here, put-skip}
use Rattle.simplex.proofs.Wider.{HasMore, wider, now-many, numbers_now, tableau_now, primitive_now}
use Rattle.simplex.proofs.WiderCorners.{IsWider, corner_now, met_now, opened_here, ray_here, empty_put, pivots_put, bound_put, unbounded_put}

-- ---- the frame with one column more

line-put : (front later : List (List Col)) (c : List Col) (count place : ℕ) (row : Row) → whole_line (front ++ c ∷ later) count place row ≡ put (length front) (coefficient_in row.poly.terms c) (whole_line (front ++ later) count place row)
line-put [] later c count place row = refl
line-put (x ∷ front) later c count place row = ap (λ zs. coefficient_in row.poly.terms x ∷ zs) (line-put front later c count place row)

lines-put : (front later : List (List Col)) (c : List Col) (count place : ℕ) (rows : List Row) (l : ℕ) → l < length rows → get_or (lines_from (front ++ c ∷ later) count place rows) l [] ≡ put (length front) (each_of (coefficient_at c) rows l) (get_or (lines_from (front ++ later) count place rows) l [])
lines-put front later c count place [] l h = absurd (omega (arith, h))
lines-put front later c count place (row ∷ rows) zero h = line-put front later c count place row
lines-put front later c count place (row ∷ rows) (suc l) h = lines-put front later c count (place + 1) rows l (omega (arith, h))

-- all of the rows have 0 there
abbrev pub HasNothing : List Row → List Col → Type 0
HasNothing rows c = AllByRecursion (λ (row : Row). coefficient_in row.poly.terms c ≡ pos 0) rows

nothing-at : (c : List Col) (rows : List Row) (p : Polynomial) (l : ℕ) → HasNothing rows c → l < length rows → each_of (coefficient_at c) (with_goal rows p) l ≡ pos 0
nothing-at c [] p l n h = absurd (omega (arith, h))
nothing-at c (row ∷ rows) p zero n h = n.0
nothing-at c (row ∷ rows) p (suc l) n h = nothing-at c rows p l n.1 (omega (arith, h))

goal-at : (c : List Col) (rows : List Row) (p : Polynomial) → each_of (coefficient_at c) (with_goal rows p) (length rows) ≡ coefficient_in p.terms c
goal-at c [] p = refl
goal-at c (row ∷ rows) p = goal-at c rows p

-- the same of the objective
pub rows-nothing : (c : List Col) (rows : List Row) (p : Polynomial) → HasNothing (with_goal rows p) c → HasNothing rows c
rows-nothing c [] p n = tt
rows-nothing c (row ∷ rows) p n = (n.0, rows-nothing c rows p n.1)

goal-nothing : (c : List Col) (rows : List Row) (p : Polynomial) → HasNothing (with_goal rows p) c → coefficient_in p.terms c ≡ pos 0
goal-nothing c [] p n = n.0
goal-nothing c (row ∷ rows) p n = goal-nothing c rows p n.1

module _ (rows : List Row) (p : Polynomial) (front later : List (List Col)) (c : List Col) where
  abbrev before : List (List Col)
  before = front ++ later

  abbrev after : List (List Col)
  after = front ++ c ∷ later

  abbrev old : ℕ → ℕ → ℤ
  old = numbers_of (framed_tableau (front ++ later) (with_goal rows p))

  abbrev new : ℕ → ℕ → ℤ
  new = numbers_of (framed_tableau (front ++ c ∷ later) (with_goal rows p))

  front-short : length front ≤ length (front ++ later)
  front-short = let e : length (front ++ later) ≡ length front + length later = long front later in omega (arith, e)

  longer : length (front ++ later) + 1 ≡ length (front ++ c ∷ later)
  longer = let e : length (front ++ later) ≡ length front + length later = long front later in let f : length (front ++ c ∷ later) ≡ length front + length (c ∷ later) = long front (c ∷ later) in omega (arith, e, f)

  line-long : (l : ℕ) → l < length (with_goal rows p) → length front ≤ length (get_or (lines_from (front ++ later) (length (with_goal rows p)) 0 (with_goal rows p)) l [])
  line-long l h = at_line (λ line. length front ≤ length line) (front ++ later) (length (with_goal rows p)) 0 (with_goal rows p) l h
      (λ row. let e : length (whole_line (front ++ later) (length (with_goal rows p)) (0 + l) row) ≡ length (front ++ later) + 1 + length (with_goal rows p) = whole_line-length (front ++ later) (length (with_goal rows p)) (0 + l) row in let f : length front ≤ length (front ++ later) = front-short in omega (arith, e, f))

  number-moved : (l j : ℕ) → l < length (with_goal rows p) → new l (skip (length front) j) ≡ old l j
  number-moved l j h =
      ap (λ zs. get_or zs (skip (length front) j) (pos 0)) (lines-put front later c (length (with_goal rows p)) 0 (with_goal rows p) l h)
      ∙ put-skip (length front) (each_of (coefficient_at c) (with_goal rows p) l) (get_or (lines_from (front ++ later) (length (with_goal rows p)) 0 (with_goal rows p)) l []) j (pos 0) (line-long l h)

  number-new : (l : ℕ) → l < length (with_goal rows p) → new l (length front) ≡ each_of (coefficient_at c) (with_goal rows p) l
  number-new l h =
      ap (λ zs. get_or zs (length front) (pos 0)) (lines-put front later c (length (with_goal rows p)) 0 (with_goal rows p) l h)
      ∙ put-here (length front) (each_of (coefficient_at c) (with_goal rows p) l) (get_or (lines_from (front ++ later) (length (with_goal rows p)) 0 (with_goal rows p)) l []) (pos 0) (line-long l h)

  count : length (with_goal rows p) ≡ length rows + 1
  count = more_rows rows p

  in_all : (l : ℕ) → l < length rows + 1 → l < length (with_goal rows p)
  in_all l h = subst (λ (n : ℕ). l < n) (sym count) h

  more : HasMore (length front) (length (front ++ later) + 1) (length rows + 1) old new
  more = record {
    inside = let f : length front ≤ length (front ++ later) = front-short in omega (arith, f);
    same = λ l j h. number-moved l j (in_all l h);
    unit = λ l m h g. numbers-unit (front ++ later) (with_goal rows p) l m (in_all l h) (in_all m g);
  }

  over_wider : HasNothing rows c → IsWider (length front) (length (front ++ later)) (kinds_of (with_goal rows p)) (frame_over (front ++ later) rows p) new
  over_wider n = record {
    inside = front-short;
    units = refl;
    many = kinds-length (with_goal rows p) ∙ count;
    more = more;
    nothing = λ l h. number-new l (in_all l (omega (arith, h))) ∙ nothing-at c rows p l n h;
  }

  goal-new : new (length rows) (length front) ≡ coefficient_in p.terms c
  goal-new = number-new (length rows) (in_all (length rows) (omega arith)) ∙ goal-at c rows p

  -- what is said of the frame with the new column, said of that of the case
  at_after : (P : Framed → ℕ → Type 0) → P (record { units = length (front ++ later) + 1 + 1; rows = length rows; frame = new }) (length (front ++ later) + 1) → P (frame_over (front ++ c ∷ later) rows p) (length (front ++ c ∷ later))
  at_after P h = subst (λ (n : ℕ). P (record { units = n + 1; rows = length rows; frame = new }) n) longer h

  refusal_after : (n : ℕ) → IsSmallFrame n (frame_over (front ++ c ∷ later) rows p) (length rows + 1) → IsSmallFrame n (frame_over (front ++ later) rows p) (length rows + 1)
  refusal_after n small t many s primitive i j = ⊎_elim (λ (h : i < length t.lines). inside h) (λ (h : length t.lines ≤ i). nothing_small (numbers_of t i j) n (no_line t.lines i j h)) (cases_lt i (length t.lines))
    where
      here : HasMore (length front) (length (front ++ later) + 1) (length t.lines) old new
      here = subst (λ (m : ℕ). HasMore (length front) (length (front ++ later) + 1) m old new) (sym many) more

      small_now : (i j : ℕ) → unsigned_abs (numbers_of (wider (length front) (length (front ++ later) + 1) (λ l. new l (length front)) t) i j) ≤ n
      small_now = subst (λ (m : ℕ). IsSmallFrame n (record { units = m + 1; rows = length rows; frame = new }) (length rows + 1)) (sym longer) small
          (wider (length front) (length (front ++ later) + 1) (λ l. new l (length front)) t)
          (now-many (length front) (length (front ++ later) + 1) old new t here s ∙ many)
          (tableau_now (length front) (length (front ++ later) + 1) old new t here s) (primitive_now (length front) (length (front ++ later) + 1) old new t here s primitive)

      inside : i < length t.lines → unsigned_abs (numbers_of t i j) ≤ n
      inside h = subst (λ (z : ℤ). unsigned_abs z ≤ n) (numbers_now (length front) (length (front ++ later) + 1) old new t here s i j h) (small_now i (skip (length front) j))

-- a corner of the rows, with an objective as its goal
pub record HasCorner (cs : List (List Col)) (rows : List Row) (p : Polynomial) (point : List Fraction) : Type 0 where
  pub enters : List Bool
  pub tableau : Tableau
  pub met : IsMetFor cs rows p enters tableau
  pub corner : IsCornerOf tableau (length cs) (length cs) point

-- ---- columns put in one after another

-- own columns among others in the same order; each of the others has a property
pub data Part (New : List Col → Type 0) : List (List Col) → List (List Col) → Type 0 where
  done : Part New [] []
  keep : (c : List Col) (ds cs : List (List Col)) → Part New ds cs → Part New (c ∷ ds) (c ∷ cs)
  besides : (c : List Col) (ds cs : List (List Col)) → IsBefore c ds → New c → Part New ds cs → Part New ds (c ∷ cs)

pub not_eq : (c d : List Col) → mono_cmp c d ≡ Less → eq_by_cmp mono_cmp d c ≡ false
not_eq c d e = ap is_eq (reversed c d Less e)

pub widened-besides : (c : List Col) (ds cs : List (List Col)) (ns : List Fraction) → IsBefore c ds → widened_numbers ds (c ∷ cs) ns ≡ whole (pos 0) ∷ widened_numbers ds cs ns
widened-besides c [] cs ns b = refl
widened-besides c (d ∷ ds) cs [] b = refl
widened-besides c (d ∷ ds) cs (n ∷ ns) b = ap (λ (q : Bool). cond q (n ∷ widened_numbers ds cs ns) (whole (pos 0) ∷ widened_numbers (d ∷ ds) cs (n ∷ ns))) (not_eq c d b.0)

pub widened-keep : (c : List Col) (ds cs : List (List Col)) (n : Fraction) (ns : List Fraction) → widened_numbers (c ∷ ds) (c ∷ cs) (n ∷ ns) ≡ n ∷ widened_numbers ds cs ns
widened-keep c ds cs n ns = ap (λ (q : Bool). cond q (n ∷ widened_numbers ds cs ns) (whole (pos 0) ∷ widened_numbers (c ∷ ds) cs (n ∷ ns))) (itself c)

-- what is kept where a column is put in, holds with all columns put in
module _ (New : List Col → Type 0) (P : List (List Col) → List Fraction → List Fraction → Type 0)
    (step : (front later : List (List Col)) (c : List Col) (xs ys us vs : List Fraction) → New c → length xs ≡ length front → length us ≡ length front → P (front ++ later) (xs ++ ys) (us ++ vs) → P (front ++ c ∷ later) (xs ++ whole (pos 0) ∷ ys) (us ++ whole (pos 0) ∷ vs)) where
  -- the front with one more
  grown : (front cs : List (List Col)) (c : List Col) (xs ys us vs : List Fraction) (x u : Fraction) → P (front ++ c ∷ cs) (xs ++ x ∷ ys) (us ++ u ∷ vs) → P ((front ++ c ∷ []) ++ cs) ((xs ++ x ∷ []) ++ ys) ((us ++ u ∷ []) ++ vs)
  grown front cs c xs ys us vs x u h =
      subst (λ (zs : List Fraction). P ((front ++ c ∷ []) ++ cs) ((xs ++ x ∷ []) ++ ys) zs) (sym (append_assoc us (u ∷ []) vs))
      (subst (λ (zs : List Fraction). P ((front ++ c ∷ []) ++ cs) zs (us ++ u ∷ vs)) (sym (append_assoc xs (x ∷ []) ys))
      (subst (λ (ds : List (List Col)). P ds (xs ++ x ∷ ys) (us ++ u ∷ vs)) (sym (append_assoc front (c ∷ []) cs)) h))

  shrunk_to : (front cs : List (List Col)) (c : List Col) (xs ys us vs : List Fraction) (x u : Fraction) → P ((front ++ c ∷ []) ++ cs) ((xs ++ x ∷ []) ++ ys) ((us ++ u ∷ []) ++ vs) → P (front ++ c ∷ cs) (xs ++ x ∷ ys) (us ++ u ∷ vs)
  shrunk_to front cs c xs ys us vs x u h =
      subst (λ (zs : List Fraction). P (front ++ c ∷ cs) (xs ++ x ∷ ys) zs) (append_assoc us (u ∷ []) vs)
      (subst (λ (zs : List Fraction). P (front ++ c ∷ cs) zs ((us ++ u ∷ []) ++ vs)) (append_assoc xs (x ∷ []) ys)
      (subst (λ (ds : List (List Col)). P ds ((xs ++ x ∷ []) ++ ys) ((us ++ u ∷ []) ++ vs)) (append_assoc front (c ∷ []) cs) h))

  more-long : {X Y : Type 0} (xs : List X) (ys : List Y) (x : X) (y : Y) → length xs ≡ length ys → length (xs ++ x ∷ []) ≡ length (ys ++ y ∷ [])
  more-long xs ys x y e = let a = long xs (x ∷ []) in let b = long ys (y ∷ []) in omega (arith, a, b, e)

  pub put_all : (front ds cs : List (List Col)) (xs ys us vs : List Fraction) → Part New ds cs → length xs ≡ length front → length us ≡ length front → length ys ≡ length ds → length vs ≡ length ds
      → P (front ++ ds) (xs ++ ys) (us ++ vs) → P (front ++ cs) (xs ++ widened_numbers ds cs ys) (us ++ widened_numbers ds cs vs)
  put_all front _ _ xs [] us [] done e f g h p = p
  put_all front _ _ xs [] us (v ∷ vs) done e f g h p = absurd (omega (arith, h))
  put_all front _ _ xs (y ∷ ys) us vs done e f g h p = absurd (omega (arith, g))
  put_all front _ _ xs [] us vs (keep c ds cs q) e f g h p = absurd (omega (arith, g))
  put_all front _ _ xs (y ∷ ys) us [] (keep c ds cs q) e f g h p = absurd (omega (arith, h))
  put_all front _ _ xs (y ∷ ys) us (v ∷ vs) (keep c ds cs q) e f g h p =
      subst (λ (zs : List Fraction). P (front ++ c ∷ cs) (xs ++ widened_numbers (c ∷ ds) (c ∷ cs) (y ∷ ys)) (us ++ zs)) (sym (widened-keep c ds cs v vs))
      (subst (λ (zs : List Fraction). P (front ++ c ∷ cs) (xs ++ zs) (us ++ v ∷ widened_numbers ds cs vs)) (sym (widened-keep c ds cs y ys))
      (shrunk_to front cs c xs (widened_numbers ds cs ys) us (widened_numbers ds cs vs) y v
      (put_all (front ++ c ∷ []) ds cs (xs ++ y ∷ []) ys (us ++ v ∷ []) vs q (more-long xs front y c e) (more-long us front v c f) (omega (arith, g)) (omega (arith, h)) (grown front ds c xs ys us vs y v p))))
  put_all front _ _ xs ys us vs (besides c ds cs b n q) e f g h p =
      subst (λ (zs : List Fraction). P (front ++ c ∷ cs) (xs ++ widened_numbers ds (c ∷ cs) ys) (us ++ zs)) (sym (widened-besides c ds cs vs b))
      (subst (λ (zs : List Fraction). P (front ++ c ∷ cs) (xs ++ zs) (us ++ whole (pos 0) ∷ widened_numbers ds cs vs)) (sym (widened-besides c ds cs ys b))
      (shrunk_to front cs c xs (widened_numbers ds cs ys) us (widened_numbers ds cs vs) (whole (pos 0)) (whole (pos 0))
      (put_all (front ++ c ∷ []) ds cs (xs ++ whole (pos 0) ∷ []) ys (us ++ whole (pos 0) ∷ []) vs q (more-long xs front (whole (pos 0)) c e) (more-long us front (whole (pos 0)) c f) g h
      (grown front ds c xs ys us vs (whole (pos 0)) (whole (pos 0)) (step front ds c xs ys us vs n e f p)))))

-- ---- what a case comes to, with one column more

length-put : (front later : List (List Col)) (xs ys : List Fraction) (x : Fraction) → length xs ≡ length front → put (length front) x (xs ++ ys) ≡ xs ++ x ∷ ys
length-put front later xs ys x e = ap (λ (k : ℕ). put k x (xs ++ ys)) (sym e) ∙ put-front xs x ys

module _ (rows : List Row) (p : Polynomial) where
  pub corner_put : (front later : List (List Col)) (c : List Col) (xs ys : List Fraction) → HasNothing rows c → length xs ≡ length front → HasCorner (front ++ later) rows p (xs ++ ys) → HasCorner (front ++ c ∷ later) rows p (xs ++ whole (pos 0) ∷ ys)
  corner_put front later c xs ys n e h =
      let w = over_wider rows p front later c n in
      let s = h.met.placed.marked.sized.tableau in
      let many : length (h.tableau).lines ≡ length rows + 1 = sym h.met.placed.marked.sized.many ∙ kinds-length (with_goal rows p) ∙ more_rows rows p in
      let t : Tableau = wider (length front) (length (front ++ later) + 1) (λ l. numbers_of (framed_tableau (front ++ c ∷ later) (with_goal rows p)) l (length front)) h.tableau in
      let found : (enters : List Bool) × ((t : Tableau) × (IsMet (frame_over (front ++ c ∷ later) rows p) (length (front ++ c ∷ later)) (kinds_of (with_goal rows p)) enters t × IsCornerOf t (length (front ++ c ∷ later)) (length (front ++ c ∷ later)) (xs ++ whole (pos 0) ∷ ys))) =
      at_after rows p front later c (λ over m. (enters : List Bool) × ((t : Tableau) × (IsMet over m (kinds_of (with_goal rows p)) enters t × IsCornerOf t m m (xs ++ whole (pos 0) ∷ ys)))) (
        put (length front) false h.enters,
        (
          t,
          (
            met_now (length front) (length (front ++ later)) (kinds_of (with_goal rows p)) (frame_over (front ++ later) rows p) (numbers_of (framed_tableau (front ++ c ∷ later) (with_goal rows p))) w h.tableau s many h.enters h.met,
            subst (λ (zs : List Fraction). IsCornerOf t (length (front ++ later) + 1) (length (front ++ later) + 1) zs) (length-put front later xs ys (whole (pos 0)) e)
                (corner_now (length front) (length (front ++ later)) (kinds_of (with_goal rows p)) (frame_over (front ++ later) rows p) (numbers_of (framed_tableau (front ++ c ∷ later) (with_goal rows p))) w h.tableau s many (xs ++ ys) h.corner),
          ),
        ),
      ) in
      record { enters = found.0; tableau = found.1.0; met = found.1.1.0; corner = found.1.1.1 }

  -- the objective grows along the new column
  pub open_put : (budget : ℕ) (front later : List (List Col)) (c : List Col) (up : Bool) (xs ys us vs : List Fraction) → HasNothing rows c → length xs ≡ length front → length us ≡ length front → length (us ++ vs) ≡ length (front ++ later)
      → ((j : ℕ) → j < length (front ++ later) → get_or (us ++ vs) j (whole (pos 0)) ≡ whole (pos 0)) → pos 0 <ℤ (sign_of up *ℤ coefficient_in p.terms c) → HasCorner (front ++ later) rows p (xs ++ ys)
      → IsSupremumOver (front ++ c ∷ later) rows p budget (supremum.Unbounded (xs ++ whole (pos 0) ∷ ys) (us ++ whole (sign_of up) ∷ vs))
  open_put budget front later c up xs ys us vs n e f each zeros grows h =
      let w = over_wider rows p front later c n in
      let s = h.met.placed.marked.sized.tableau in
      let many : length (h.tableau).lines ≡ length rows + 1 = sym h.met.placed.marked.sized.many ∙ kinds-length (with_goal rows p) ∙ more_rows rows p in
      let t : Tableau = wider (length front) (length (front ++ later) + 1) (λ l. numbers_of (framed_tableau (front ++ c ∷ later) (with_goal rows p)) l (length front)) h.tableau in
      let growing : pos 0 <ℤ (sign_of up *ℤ numbers_of (framed_tableau (front ++ c ∷ later) (with_goal rows p)) (length rows) (length front)) = subst (λ (z : ℤ). pos 0 <ℤ (sign_of up *ℤ z)) (sym (goal-new rows p front later c)) grows in
      at_after rows p front later c (λ over m. SupremumAt over m (kinds_of (with_goal rows p)) budget (supremum.Unbounded (xs ++ whole (pos 0) ∷ ys) (us ++ whole (sign_of up) ∷ vs))) (
        t,
        (
          put (length front) false h.enters,
          (
            length front,
            (
              up,
              (
                opened_here (length front) (length (front ++ later)) (kinds_of (with_goal rows p)) (frame_over (front ++ later) rows p) (numbers_of (framed_tableau (front ++ c ∷ later) (with_goal rows p))) w h.tableau s many h.enters h.met up growing,
                subst (λ (zs : List Fraction). IsCornerOf t (length (front ++ later) + 1) (length (front ++ later) + 1) zs) (length-put front later xs ys (whole (pos 0)) e)
                    (corner_now (length front) (length (front ++ later)) (kinds_of (with_goal rows p)) (frame_over (front ++ later) rows p) (numbers_of (framed_tableau (front ++ c ∷ later) (with_goal rows p))) w h.tableau s many (xs ++ ys) h.corner),
                subst (λ (zs : List Fraction). IsRayOf t (length front) up (length (front ++ later) + 1) zs) (length-put front later us vs (whole (sign_of up)) f)
                    (ray_here (length front) (length (front ++ later)) (kinds_of (with_goal rows p)) (frame_over (front ++ later) rows p) (numbers_of (framed_tableau (front ++ c ∷ later) (with_goal rows p))) w h.tableau s many h.enters h.met up (us ++ vs) each zeros),
              ),
            ),
          ),
        ),
      )

  bound_step : (budget : ℕ) (cert : Cert) (front later : List (List Col)) (c : List Col) (xs ys us vs : List Fraction) → HasNothing (with_goal rows p) c → length xs ≡ length front → length us ≡ length front → IsSupremumOver (front ++ later) rows p budget (supremum.Bound cert (xs ++ ys)) → IsSupremumOver (front ++ c ∷ later) rows p budget (supremum.Bound cert (xs ++ whole (pos 0) ∷ ys))
  bound_step budget cert front later c xs ys us vs n e f h =
      at_after rows p front later c (λ over m. SupremumAt over m (kinds_of (with_goal rows p)) budget (supremum.Bound cert (xs ++ whole (pos 0) ∷ ys)))
      (subst (λ (zs : List Fraction). SupremumAt (record { units = length (front ++ later) + 1 + 1; rows = length rows; frame = numbers_of (framed_tableau (front ++ c ∷ later) (with_goal rows p)) }) (length (front ++ later) + 1) (kinds_of (with_goal rows p)) budget (supremum.Bound cert zs)) (length-put front later xs ys (whole (pos 0)) e)
      (bound_put (length front) (length (front ++ later)) (kinds_of (with_goal rows p)) (frame_over (front ++ later) rows p) (numbers_of (framed_tableau (front ++ c ∷ later) (with_goal rows p))) (over_wider rows p front later c (rows-nothing c rows p n)) budget cert (xs ++ ys) (goal-new rows p front later c ∙ goal-nothing c rows p n) h))

  pub ray_step : (budget : ℕ) (front later : List (List Col)) (c : List Col) (xs ys us vs : List Fraction) → HasNothing rows c → length xs ≡ length front → length us ≡ length front → IsSupremumOver (front ++ later) rows p budget (supremum.Unbounded (xs ++ ys) (us ++ vs)) → IsSupremumOver (front ++ c ∷ later) rows p budget (supremum.Unbounded (xs ++ whole (pos 0) ∷ ys) (us ++ whole (pos 0) ∷ vs))
  ray_step budget front later c xs ys us vs n e f h =
      at_after rows p front later c (λ over m. SupremumAt over m (kinds_of (with_goal rows p)) budget (supremum.Unbounded (xs ++ whole (pos 0) ∷ ys) (us ++ whole (pos 0) ∷ vs)))
      (subst (λ (zs : List Fraction). SupremumAt (record { units = length (front ++ later) + 1 + 1; rows = length rows; frame = numbers_of (framed_tableau (front ++ c ∷ later) (with_goal rows p)) }) (length (front ++ later) + 1) (kinds_of (with_goal rows p)) budget (supremum.Unbounded zs (us ++ whole (pos 0) ∷ vs))) (length-put front later xs ys (whole (pos 0)) e)
      (subst (λ (zs : List Fraction). SupremumAt (record { units = length (front ++ later) + 1 + 1; rows = length rows; frame = numbers_of (framed_tableau (front ++ c ∷ later) (with_goal rows p)) }) (length (front ++ later) + 1) (kinds_of (with_goal rows p)) budget (supremum.Unbounded (put (length front) (whole (pos 0)) (xs ++ ys)) zs)) (length-put front later us vs (whole (pos 0)) f)
      (unbounded_put (length front) (length (front ++ later)) (kinds_of (with_goal rows p)) (frame_over (front ++ later) rows p) (numbers_of (framed_tableau (front ++ c ∷ later) (with_goal rows p))) (over_wider rows p front later c n) budget (xs ++ ys) (us ++ vs) h)))

  empty_step : (budget : ℕ) (front later : List (List Col)) (c : List Col) (xs ys us vs : List Fraction) → HasNothing rows c → length xs ≡ length front → length us ≡ length front → IsSupremumOver (front ++ later) rows p budget supremum.Empty → IsSupremumOver (front ++ c ∷ later) rows p budget supremum.Empty
  empty_step budget front later c xs ys us vs n e f h =
      at_after rows p front later c (λ over m. SupremumAt over m (kinds_of (with_goal rows p)) budget supremum.Empty)
      (empty_put (length front) (length (front ++ later)) (kinds_of (with_goal rows p)) (frame_over (front ++ later) rows p) (numbers_of (framed_tableau (front ++ c ∷ later) (with_goal rows p))) (over_wider rows p front later c n) budget h)

  pivots_step : (budget : ℕ) (front later : List (List Col)) (c : List Col) (xs ys us vs : List Fraction) → HasNothing rows c → length xs ≡ length front → length us ≡ length front → IsSupremumOver (front ++ later) rows p budget supremum.Pivots → IsSupremumOver (front ++ c ∷ later) rows p budget supremum.Pivots
  pivots_step budget front later c xs ys us vs n e f h =
      at_after rows p front later c (λ over m. SupremumAt over m (kinds_of (with_goal rows p)) budget supremum.Pivots)
      (pivots_put (length front) (length (front ++ later)) (kinds_of (with_goal rows p)) (frame_over (front ++ later) rows p) (numbers_of (framed_tableau (front ++ c ∷ later) (with_goal rows p))) (over_wider rows p front later c n) budget h)

  small_step : (m : ℕ) (front later : List (List Col)) (c : List Col) → IsSmallFrame m (frame_over (front ++ c ∷ later) rows p) (length rows + 1) → IsSmallFrame m (frame_over (front ++ later) rows p) (length rows + 1)
  small_step m front later c small = refusal_after rows p front later c m small

  -- a frame that is small with all columns put in
  small_all : (m : ℕ) (New : List Col → Type 0) (front ds cs : List (List Col)) → Part New ds cs → IsSmallFrame m (frame_over (front ++ cs) rows p) (length rows + 1) → IsSmallFrame m (frame_over (front ++ ds) rows p) (length rows + 1)
  small_all m New front _ _ done h = h
  small_all m New front _ _ (keep c ds cs q) h =
      subst (λ (es : List (List Col)). IsSmallFrame m (frame_over es rows p) (length rows + 1)) (append_assoc front (c ∷ []) ds)
      (small_all m New (front ++ c ∷ []) ds cs q (subst (λ (es : List (List Col)). IsSmallFrame m (frame_over es rows p) (length rows + 1)) (sym (append_assoc front (c ∷ []) cs)) h))
  small_all m New front _ _ (besides c ds cs b n q) h =
      small_step m front ds c (subst (λ (es : List (List Col)). IsSmallFrame m (frame_over es rows p) (length rows + 1)) (append_assoc front (c ∷ []) ds)
      (small_all m New (front ++ c ∷ []) ds cs q (subst (λ (es : List (List Col)). IsSmallFrame m (frame_over es rows p) (length rows + 1)) (sym (append_assoc front (c ∷ []) cs)) h)))

-- a frame that is small is so over a part of its columns
pub small_wider : (New : List Col → Type 0) (rows : List Row) (p : Polynomial) (n : ℕ) (ds cs : List (List Col)) → Part New ds cs → IsSmallFrame n (frame_over cs rows p) (length rows + 1) → IsSmallFrame n (frame_over ds rows p) (length rows + 1)
small_wider New rows p n ds cs q small = small_all rows p n New [] ds cs q small

-- ---- what is found, over wider columns

Part-map : (New Other : List Col → Type 0) (ds cs : List (List Col)) → ((c : List Col) → New c → Other c) → Part New ds cs → Part Other ds cs
Part-map New Other _ _ f done = done
Part-map New Other _ _ f (keep c ds cs q) = keep c ds cs (Part-map New Other ds cs f q)
Part-map New Other _ _ f (besides c ds cs b n q) = besides c ds cs b (f c n) (Part-map New Other ds cs f q)

zeros_of-length : (ds : List (List Col)) → length (map (λ (c : List Col). whole (pos 0)) ds) ≡ length ds
zeros_of-length ds = length-map ds (λ (c : List Col). whole (pos 0))

pub empty_wider : (rows : List Row) (p : Polynomial) (budget : ℕ) (ds cs : List (List Col)) → Part (HasNothing rows) ds cs → IsSupremumOver ds rows p budget supremum.Empty → IsSupremumOver cs rows p budget supremum.Empty
empty_wider rows p budget ds cs q h =
    put_all (HasNothing rows) (λ es ys vs. IsSupremumOver es rows p budget supremum.Empty) (λ front later c xs ys us vs n e f k. empty_step rows p budget front later c xs ys us vs n e f k)
    [] ds cs [] (map (λ (c : List Col). whole (pos 0)) ds) [] (map (λ (c : List Col). whole (pos 0)) ds) q refl refl (zeros_of-length ds) (zeros_of-length ds) h

pub pivots_wider : (rows : List Row) (p : Polynomial) (budget : ℕ) (ds cs : List (List Col)) → Part (HasNothing rows) ds cs → IsSupremumOver ds rows p budget supremum.Pivots → IsSupremumOver cs rows p budget supremum.Pivots
pivots_wider rows p budget ds cs q h =
    put_all (HasNothing rows) (λ es ys vs. IsSupremumOver es rows p budget supremum.Pivots) (λ front later c xs ys us vs n e f k. pivots_step rows p budget front later c xs ys us vs n e f k)
    [] ds cs [] (map (λ (c : List Col). whole (pos 0)) ds) [] (map (λ (c : List Col). whole (pos 0)) ds) q refl refl (zeros_of-length ds) (zeros_of-length ds) h

pub found_wider : (rows : List Row) (p : Polynomial) (budget : ℕ) (ds cs : List (List Col)) (found : Supremum) → Part (HasNothing (with_goal rows p)) ds cs → IsSupremumOver ds rows p budget found → IsSupremumOver cs rows p budget (widened_supremum ds cs found)
found_wider rows p budget ds cs supremum.Empty q h = empty_wider rows p budget ds cs (Part-map (HasNothing (with_goal rows p)) (HasNothing rows) ds cs (λ c n. rows-nothing c rows p n) q) h
found_wider rows p budget ds cs supremum.Pivots q h = pivots_wider rows p budget ds cs (Part-map (HasNothing (with_goal rows p)) (HasNothing rows) ds cs (λ c n. rows-nothing c rows p n) q) h
found_wider rows p budget ds cs (supremum.Bound cert point) q h =
    put_all (HasNothing (with_goal rows p)) (λ es ys vs. IsSupremumOver es rows p budget (supremum.Bound cert ys)) (λ front later c xs ys us vs n e f k. bound_step rows p budget cert front later c xs ys us vs n e f k)
    [] ds cs [] point [] point q refl refl h.1.1.2.each h.1.1.2.each h
found_wider rows p budget ds cs (supremum.Unbounded point ray) q h =
    put_all (HasNothing rows) (λ es ys vs. IsSupremumOver es rows p budget (supremum.Unbounded ys vs)) (λ front later c xs ys us vs n e f k. ray_step rows p budget front later c xs ys us vs n e f k)
    [] ds cs [] point [] ray (Part-map (HasNothing (with_goal rows p)) (HasNothing rows) ds cs (λ c n. rows-nothing c rows p n) q) refl refl h.1.1.1.1.1.each h.1.1.1.1.2.each h
