-- Rows as lines: a point with room in each row is what makes each line negative, and rows with room
-- have one.
use Rattle.std.proofs.Common.{◌≡◌, ◌⊎◌, ℕ, suc, ◌+◌, ◌≤◌, Bool, true, false, List, [], ◌∷◌, ◌++◌, map, length, refl, sym, ap, subst, ◌∙◌, arith, ⊎_elim, inl, inr, ℤ, pos, negsuc, ◌+ℤ◌, ◌*ℤ◌, ◌≤ℤ◌, ◌<ℤ◌}
use Rattle.std.specs.Prelude.{get_or, ◌↔◌, ⊤, IsTrue, Option, None, MatchOption, is_some, ◌&&◌, ◌^◌, slice_get, Some, unsigned_abs}
use Rattle.std.specs.List.{AllByRecursion, list_all}
use Rattle.std.specs.Map.{keys_of}
use Rattle.std.proofs.lemmas.Int.{ints, by_lt_z}
use Rattle.std.proofs.lemmas.Bool.{false≢true}
use Rattle.std.proofs.lemmas.Bool.Decides.{Decides-int_eq}
use Rattle.std.proofs.lemmas.List.Elements.{recursion_from_All}
use Rattle.std.proofs.Math.IntN.{zero-*ℤ}
use Rattle.linear_terms.specs.declared.col.Col.{Col}
use Rattle.linear_terms.specs.declared.row.Kind.{Kind}
use Rattle.linear_terms.specs.declared.row.Kind.TheVariants.{AtMost, Equal}
use Rattle.linear_terms.specs.declared.row.Row.{Row}
use Rattle.linear_terms.specs.Polynomial.{Terms, Polynomial, IsCanonical, coefficient_in}
use Rattle.linear_terms.specs.Row.{AreCanonical, IsWithin, is_within}
use Rattle.whole_numbers.proofs.Ring.{≤ℤ-*ℤ}
use Rattle.farkas_check.specs.Columns.{monos_of, columns}
use Rattle.farkas_check.specs.Relations.{entry}
use Rattle.farkas_check.proofs.Walks.{IsOrdered, IsOrdered-columns}
use Rattle.simplex.proofs.Certificates.{sum_below-first}
use Rattle.farkas_check.specs.Calm.{paired_sum}
use Rattle.farkas_check.specs.Frames.{line_of, sum_below}
use Rattle.farkas_check.specs.Rational.{RationalPoint, terms_at, sum_at, IsTrueAt, Meets}
use Rattle.farkas_check.specs.Ratios.{whole}
use Rattle.farkas_check.specs.Sizes.{HasNumbersUpTo}
use Rattle.farkas_check.proofs.PointValues.{Stands-whole}
use Rattle.farkas_check.proofs.Spreads.{AreAmong, spread, terms_at-spread, rows_among}
use Rattle.simplex.proofs.RowCorners.{all_at, each_row, within_back, numbered, spread-numbered}
use Rattle.elimination.specs.declared.inner.Inner.{Inner}
use Rattle.elimination.specs.Descents.{AreSmallLines, IsBelow, IsDescent, HasNoDescent, HasColumns, is_at_most, is_open_with, is_open, line_unless, over_line, deep_lines}
use Rattle.elimination.specs.Narrow.{IsSmallCase}
use Rattle.elimination.specs.Probes.{IsDeepIn, IsInner, value_in}
use Rattle.elimination.specs.Rooms.{IsClear, HasClear, HasSmallRoom}
use Rattle.elimination.proofs.Interiors.{HasMidst, midst, free_rows}
use Rattle.elimination.proofs.Narrowness.{coefficient-small, few_rows}

-- ---- open rows

canonical_at : (rows : List Row) (l : ℕ) (row : Row) → AreCanonical rows → slice_get rows l ≡ Some row → IsCanonical row.poly.terms
canonical_at rows l row k here = all_at (λ (r : Row). IsCanonical r.poly.terms) rows l row (recursion_from_All (λ (r : Row). IsCanonical r.poly.terms) rows k) here

some_terms : (t : List Col × ℤ) (ts : Terms) → t ∷ ts ≡ [] → ⊥
some_terms t ts e = cc

-- a row of a case with room is open
open_row : (rows : List Row) (row : Row) → HasSmallRoom rows → IsCanonical row.poly.terms → ((x : RationalPoint) → Meets x rows → IsTrueAt x row) → is_open row ≡ true
open_row rows row room canonical true_at = go row.poly.terms refl
  where
    constant : row.poly.terms ≡ [] → is_within row.kind row.poly.rest ≡ true
    constant e =
        within_back row.kind (whole row.poly.rest) (row.poly.rest *ℤ room.point.point.over) room.point.point.over room.point.point.positive (Stands-whole row.poly.rest room.point.point.over)
        (subst (IsWithin row.kind) (ap (λ ts. terms_at room.point.point.numerator ts +ℤ row.poly.rest *ℤ room.point.point.over) e ∙ left (row.poly.rest *ℤ room.point.point.over)) (true_at room.point.point room.point.met))
      where
        left : (z : ℤ) → pos 0 +ℤ z ≡ z
        left z = omega (arith, ints)

    inequality : (t : List Col × ℤ) (ts : Terms) → row.poly.terms ≡ t ∷ ts → (kind : Kind) → row.kind ≡ kind → is_at_most kind ≡ true
    inequality t ts e AtMost f = refl
    inequality t ts e Equal f = absurd (some_terms t ts (sym e ∙ room.free row.poly canonical (λ x h. subst (λ kind. IsWithin kind (sum_at x row.poly)) f (true_at x h))))

    go : (ts : Terms) → row.poly.terms ≡ ts → is_open_with ts row.kind row.poly.rest ≡ true
    go [] e = constant e
    go (t ∷ ts) e = inequality t ts e row.kind refl

all_open : (rows : List Row) → AllByRecursion (λ row. is_open row ≡ true) rows → list_all is_open rows ≡ true
all_open [] h = refl
all_open (row ∷ rows) h = both (is_open row) (list_all is_open rows) h.0 (all_open rows h.1)
  where
    both : (b c : Bool) → b ≡ true → c ≡ true → b && c ≡ true
    both true c e f = f
    both false c e f = e

each_open : (rows : List Row) → list_all is_open rows ≡ true → AllByRecursion (λ row. is_open row ≡ true) rows
each_open [] h = tt
each_open (row ∷ rows) h = go (is_open row) refl h (each_open rows)
  where
    go : (b : Bool) → is_open row ≡ b → b && list_all is_open rows ≡ true → (list_all is_open rows ≡ true → AllByRecursion (λ row. is_open row ≡ true) rows) → AllByRecursion (λ row. is_open row ≡ true) (row ∷ rows)
    go true e k rest = (e, rest k)
    go false e k rest = absurd (false≢true k)

pub not_open : (rows : List Row) → AreCanonical rows → list_all is_open rows ≡ false → HasSmallRoom rows → ⊥
not_open rows k e room = false≢true (sym e ∙ all_open rows (each_row (λ row. is_open row ≡ true) rows (λ l row here. open_row rows row room (canonical_at rows l row k here) (λ x h. all_at (IsTrueAt x) rows l row h here))))

-- ---- a point in the midst

-- an open row is not met with equality everywhere
not_flat : (rows : List Row) (row : Row) → HasSmallRoom rows → IsCanonical row.poly.terms → ((x : RationalPoint) → Meets x rows → IsTrueAt x row) → is_open row ≡ true → (HasClear rows row → ⊥) → ⊥
not_flat rows row room canonical true_at opened never = go row.poly.terms refl opened
  where
    at_most : (kind : Kind) → row.kind ≡ kind → is_at_most kind ≡ true → row.kind ≡ AtMost
    at_most AtMost f e = f
    at_most Equal f e = absurd (false≢true e)

    level : row.kind ≡ AtMost → (x : RationalPoint) → Meets x rows → sum_at x row.poly ≡ pos 0
    level f x h = decide (sum_at x row.poly) (subst (λ kind. IsWithin kind (sum_at x row.poly)) f (true_at x h)) (λ below. never (record { kind = inr f; point = x; met = h; clear = inr below }))
      where
        decide : (z : ℤ) → z ≤ℤ pos 0 → (z <ℤ pos 0 → ⊥) → z ≡ pos 0
        decide z h k = by_lt_z z (pos 0) (λ l. absurd (k l)) (λ l. omega (arith, ints, h, l))

    go : (ts : Terms) → row.poly.terms ≡ ts → is_open_with ts row.kind row.poly.rest ≡ true → ⊥
    go [] e o = never (record { kind = inl e; point = room.point.point; met = room.point.met; clear = inl e })
    go (t ∷ ts) e o = some_terms t ts (sym e ∙ room.free row.poly canonical (level (at_most row.kind refl o)))

together : (rows own : List Row) → AllByRecursion (λ row. (HasClear rows row → ⊥) → ⊥) own → (AllByRecursion (HasClear rows) own → ⊥) → ⊥
together rows [] h never = never tt
together rows (row ∷ own) h never = h.0 (λ first. together rows own h.1 (λ rest. never (first, rest)))

-- ---- lines at a point

line_sum : (x : List Col → ℤ) (over : ℤ) (cs : List (List Col)) (p : Polynomial) → paired_sum (line_of cs p) (map x cs ++ over ∷ []) ≡ spread (coefficient_in p.terms) x cs +ℤ p.rest *ℤ over
line_sum x over [] p = alone (p.rest *ℤ over)
  where
    alone : (z : ℤ) → z +ℤ pos 0 ≡ pos 0 +ℤ z
    alone z = omega (arith, ints)
line_sum x over (c ∷ cs) p = ap (λ z. coefficient_in p.terms c *ℤ x c +ℤ z) (line_sum x over cs p) ∙ grouped (coefficient_in p.terms c *ℤ x c) (spread (coefficient_in p.terms) x cs) (p.rest *ℤ over)
  where
    grouped : (a b c : ℤ) → a +ℤ (b +ℤ c) ≡ a +ℤ b +ℤ c
    grouped a b c = omega (arith, ints)

over_sum : (cs : List (List Col)) (numbers : List ℤ) (over : ℤ) → length numbers ≡ length cs → paired_sum (over_line cs) (numbers ++ over ∷ []) ≡ negsuc 0 *ℤ over
over_sum [] [] over same = alone (negsuc 0 *ℤ over)
  where
    alone : (z : ℤ) → z +ℤ pos 0 ≡ z
    alone z = omega (arith, ints)
over_sum [] (n ∷ numbers) over same = absurd (omega (arith, same))
over_sum (c ∷ cs) [] over same = absurd (omega (arith, same))
over_sum (c ∷ cs) (n ∷ numbers) over same = ap (λ z. z +ℤ paired_sum (over_line cs) (numbers ++ over ∷ [])) (zero-*ℤ n) ∙ left (paired_sum (over_line cs) (numbers ++ over ∷ [])) ∙ over_sum cs numbers over (omega (arith, same))
  where
    left : (z : ℤ) → pos 0 +ℤ z ≡ z
    left z = omega (arith, ints)

map-length : (x : List Col → ℤ) (cs : List (List Col)) → length (map x cs) ≡ length cs
map-length x [] = refl
map-length x (c ∷ cs) = ap (λ (n : ℕ). suc n) (map-length x cs)

line_length : (cs : List (List Col)) (p : Polynomial) → length (line_of cs p) ≡ length cs + 1
line_length [] p = refl
line_length (c ∷ cs) p = let e : length (line_of cs p) ≡ length cs + 1 = line_length cs p in omega (arith, e)

over_length : (cs : List (List Col)) → length (over_line cs) ≡ length cs + 1
over_length [] = refl
over_length (c ∷ cs) = let e : length (over_line cs) ≡ length cs + 1 = over_length cs in omega (arith, e)

long : (numbers : List ℤ) (over : ℤ) → length (numbers ++ over ∷ []) ≡ length numbers + 1
long [] over = refl
long (n ∷ numbers) over = let e : length (numbers ++ over ∷ []) ≡ length numbers + 1 = long numbers over in omega (arith, e)

-- at a point with room each line is negative
all_below : (x : RationalPoint) (cs : List (List Col)) (rows own : List Row) → HasColumns cs rows → AllByRecursion (λ (row : Row). IsCanonical row.poly.terms) own → AllByRecursion (λ (row : Row). AreAmong (keys_of row.poly.terms) cs) own → AllByRecursion (IsClear x) own
    → AllByRecursion (IsBelow (map x.numerator cs ++ x.over ∷ [])) (deep_lines cs own)
all_below x cs rows [] h k among clear = (subst (λ z. z ≤ℤ negsuc 0) (sym (over_sum cs (map x.numerator cs) x.over (map-length x.numerator cs))) (turned x.over x.positive), tt)
  where
    turned : (z : ℤ) → pos 0 <ℤ z → (negsuc 0 *ℤ z) ≤ℤ negsuc 0
    turned z h = omega (arith, ints, h)
all_below x cs rows (row ∷ own) h k among clear = go row.poly.terms refl (all_below x cs rows own h k.1 among.1 clear.1)
  where
    numbers : List ℤ
    numbers = map x.numerator cs ++ x.over ∷ []

    at_row : sum_at x row.poly <ℤ pos 0 → IsBelow (map x.numerator cs ++ x.over ∷ []) (line_of cs row.poly)
    at_row below = less (paired_sum (line_of cs row.poly) (map x.numerator cs ++ x.over ∷ [])) (subst (λ z. z <ℤ pos 0) (sym (line_sum x.numerator x.over cs row.poly ∙ ap (λ z. z +ℤ row.poly.rest *ℤ x.over) (sym (terms_at-spread x.numerator cs row.poly.terms h.ordered k.0 among.0)))) below)
      where
        less : (z : ℤ) → z <ℤ pos 0 → z ≤ℤ negsuc 0
        less z h = omega (arith, ints, h)

    go : (ts : Terms) → row.poly.terms ≡ ts → AllByRecursion (IsBelow (map x.numerator cs ++ x.over ∷ [])) (deep_lines cs own) → AllByRecursion (IsBelow (map x.numerator cs ++ x.over ∷ [])) (line_unless ts (line_of cs row.poly) ++ deep_lines cs own)
    go [] e rest = rest
    go (t ∷ ts) e rest = (at_row (⊎_elim (λ none. absurd (some_terms t ts (sym e ∙ none))) (λ below. below) clear.0), rest)

pub no_inner : (cs : List (List Col)) (rows : List Row) → HasColumns cs rows → AreCanonical rows → list_all is_open rows ≡ true → HasNoDescent (length cs + 1) (deep_lines cs rows) → HasSmallRoom rows → ⊥
no_inner cs rows h k opened none room = together rows rows (each_row (λ row. (HasClear rows row → ⊥) → ⊥) rows (λ l row here. not_flat rows row room (canonical_at rows l row k here) (λ x r. all_at (IsTrueAt x) rows l row r here) (all_at (λ row. is_open row ≡ true) rows l row (each_open rows opened) here))) (λ clear. at_midst (midst rows clear room.point))
  where
    at_midst : HasMidst rows rows → ⊥
    at_midst m = none.none (map m.point.numerator cs ++ m.point.over ∷ []) (long (map m.point.numerator cs) m.point.over ∙ ap (λ (n : ℕ). n + 1) (map-length m.point.numerator cs)) (all_below m.point cs rows rows h (recursion_from_All (λ (r : Row). IsCanonical r.poly.terms) rows k) h.among m.clear)

-- ---- the lines are few and small

all_deep : (P : List ℤ → Type 0) (cs : List (List Col)) (rows : List Row) → P (over_line cs) → AllByRecursion (λ (row : Row). P (line_of cs row.poly)) rows → AllByRecursion P (deep_lines cs rows)
all_deep P cs [] last h = (last, tt)
all_deep P cs (row ∷ rows) last h = go row.poly.terms (all_deep P cs rows last h.1)
  where
    go : (ts : Terms) → AllByRecursion P (deep_lines cs rows) → AllByRecursion P (line_unless ts (line_of cs row.poly) ++ deep_lines cs rows)
    go [] rest = rest
    go (t ∷ ts) rest = (h.0, rest)

few_deep : (cs : List (List Col)) (rows : List Row) → length (deep_lines cs rows) ≤ length rows + 1
few_deep cs [] = omega arith
few_deep cs (row ∷ rows) = go row.poly.terms (few_deep cs rows)
  where
    go : (ts : Terms) → length (deep_lines cs rows) ≤ length rows + 1 → length (line_unless ts (line_of cs row.poly) ++ deep_lines cs rows) ≤ suc (length rows) + 1
    go [] h = omega (arith, h)
    go (t ∷ ts) h = omega (arith, h)

line_numbers : (cs : List (List Col)) (p : Polynomial) → HasNumbersUpTo 4 p → AllByRecursion (λ z. unsigned_abs z ≤ 4) (line_of cs p)
line_numbers [] p h = (h.rest, tt)
line_numbers (c ∷ cs) p h = (coefficient-small 4 p.terms c h.terms, line_numbers cs p h)

over_numbers : (cs : List (List Col)) → AllByRecursion (λ z. unsigned_abs z ≤ 4) (over_line cs)
over_numbers [] = (omega arith, tt)
over_numbers (c ∷ cs) = (omega arith, over_numbers cs)

each_length : (cs : List (List Col)) (rows : List Row) → AllByRecursion (λ (row : Row). length (line_of cs row.poly) ≡ length cs + 1) rows
each_length cs [] = tt
each_length cs (row ∷ rows) = (line_length cs row.poly, each_length cs rows)

each_small : (cs : List (List Col)) (rows : List Row) → AllByRecursion (λ (row : Row). HasNumbersUpTo 4 row.poly) rows → AllByRecursion (λ (row : Row). AllByRecursion (λ z. unsigned_abs z ≤ 4) (line_of cs row.poly)) rows
each_small cs [] h = tt
each_small cs (row ∷ rows) h = (line_numbers cs row.poly h.0, each_small cs rows h.1)

pub small_lines : (cs : List (List Col)) (rows : List Row) → IsSmallCase 4 rows [] → HasColumns cs rows → AreSmallLines (length cs + 1) (deep_lines cs rows)
small_lines cs rows s h = record {
  few_columns = let f : length cs ≤ 3 = h.few in omega (arith, f);
  few = let f : length (deep_lines cs rows) ≤ length rows + 1 = few_deep cs rows in let g : length rows ≤ 12 = few_rows 12 rows s.few_rows in omega (arith, f, g);
  each = all_deep (λ line. length line ≡ length cs + 1) cs rows (over_length cs) (each_length cs rows);
  small = all_deep (λ line. AllByRecursion (λ z. unsigned_abs z ≤ 4) line) cs rows (over_numbers cs) (each_small cs rows (recursion_from_All (λ (r : Row). HasNumbersUpTo 4 r.poly) rows s.small));
}

-- ---- what a descent is

pub some_numbers : (n : ℕ) (lines : List (List ℤ)) (numbers : List ℤ) → IsDescent (n + 1) lines numbers → numbers ≡ [] → ⊥
some_numbers n lines numbers d e = let f : length numbers ≡ n + 1 = d.each in let g : length numbers ≡ 0 = ap length e in omega (arith, f, g)

both_parts : (P : ℤ → Type 0) (numbers : List ℤ) (over : ℤ) → AllByRecursion P (numbers ++ over ∷ []) → AllByRecursion P numbers × P over
both_parts P [] over h = (tt, h.0)
both_parts P (n ∷ numbers) over h = let rest = both_parts P numbers over h.1 in ((h.0, rest.0), rest.1)

last_deep : (P : List ℤ → Type 0) (cs : List (List Col)) (rows : List Row) → AllByRecursion P (deep_lines cs rows) → P (over_line cs)
last_deep P cs [] h = h.0
last_deep P cs (row ∷ rows) h = go row.poly.terms h (last_deep P cs rows)
  where
    go : (ts : Terms) → AllByRecursion P (line_unless ts (line_of cs row.poly) ++ deep_lines cs rows) → (AllByRecursion P (deep_lines cs rows) → P (over_line cs)) → P (over_line cs)
    go [] k rest = rest k
    go (t ∷ ts) k rest = rest k.1

within_true : (kind : Kind) (z : ℤ) → is_within kind z ≡ true → IsWithin kind z
within_true AtMost z h = omega (arith, ints, h)
within_true Equal z h = (Decides-int_eq z (pos 0)).0 h

all_deep_in : (cs : List (List Col)) (inner : Inner) (rows : List Row) → AllByRecursion (λ row. is_open row ≡ true) rows → AllByRecursion (IsBelow (inner.numbers ++ inner.over ∷ [])) (deep_lines cs rows) → AllByRecursion (IsDeepIn cs inner) rows
all_deep_in cs inner [] opened h = tt
all_deep_in cs inner (row ∷ rows) opened h = go row.poly.terms refl opened.0 h (all_deep_in cs inner rows opened.1)
  where
    at_most : (kind : Kind) → is_at_most kind ≡ true → kind ≡ AtMost
    at_most AtMost e = refl
    at_most Equal e = absurd (false≢true e)

    go : (ts : Terms) → row.poly.terms ≡ ts → is_open_with ts row.kind row.poly.rest ≡ true → AllByRecursion (IsBelow (inner.numbers ++ inner.over ∷ [])) (line_unless ts (line_of cs row.poly) ++ deep_lines cs rows) → (AllByRecursion (IsBelow (inner.numbers ++ inner.over ∷ [])) (deep_lines cs rows) → AllByRecursion (IsDeepIn cs inner) rows) → AllByRecursion (IsDeepIn cs inner) (row ∷ rows)
    go [] e o k rest = (inl (e, within_true row.kind row.poly.rest o), rest k)
    go (t ∷ ts) e o k rest = (inr (at_most row.kind o, k.0), rest k.1)

pub inner_found : (cs : List (List Col)) (rows : List Row) (inner : Inner) (numbers : List ℤ) → list_all is_open rows ≡ true → IsDescent (length cs + 1) (deep_lines cs rows) numbers → inner.numbers ++ inner.over ∷ [] ≡ numbers → IsInner cs rows inner
inner_found cs rows inner numbers opened d e = record {
  each = many;
  positive = above inner.over (subst (λ z. z ≤ℤ negsuc 0) (over_sum cs inner.numbers inner.over many) (last_deep (IsBelow (inner.numbers ++ inner.over ∷ [])) cs rows below));
  over_small = parts.1;
  small = parts.0;
  deep = all_deep_in cs inner rows (each_open rows opened) below;
}
  where
    below : AllByRecursion (IsBelow (inner.numbers ++ inner.over ∷ [])) (deep_lines cs rows)
    below = subst (λ ns. AllByRecursion (IsBelow ns) (deep_lines cs rows)) (sym e) d.below

    parts : AllByRecursion (λ z. unsigned_abs z ≤ 20 ^ 5) inner.numbers × (unsigned_abs inner.over ≤ 20 ^ 5)
    parts = both_parts (λ z. unsigned_abs z ≤ 20 ^ 5) inner.numbers inner.over (subst (AllByRecursion (λ z. unsigned_abs z ≤ 20 ^ 5)) (sym e) d.small)

    many : length inner.numbers ≡ length cs
    many = let f : length (inner.numbers ++ inner.over ∷ []) ≡ length cs + 1 = ap length e ∙ d.each in let g : length (inner.numbers ++ inner.over ∷ []) ≡ length inner.numbers + 1 = long inner.numbers inner.over in omega (arith, f, g)

    above : (z : ℤ) → (negsuc 0 *ℤ z) ≤ℤ negsuc 0 → pos 0 <ℤ z
    above z h = omega (arith, ints, h)

-- ---- an inner point shows room

abbrev inner_at : (cs : List (List Col)) (rows : List Row) (inner : Inner) → IsInner cs rows inner → RationalPoint
inner_at cs rows inner i = record { numerator = numbered cs (λ j. entry inner.numbers j); over = inner.over; positive = i.positive }

sum_at_places : (cs : List (List Col)) (p : Polynomial) (numbers : List ℤ) (over : ℤ) → length numbers ≡ length cs → paired_sum (line_of cs p) (numbers ++ over ∷ []) ≡ sum_below (length cs) (λ j. coefficient_in p.terms (get_or cs j []) *ℤ entry numbers j) +ℤ p.rest *ℤ over
sum_at_places [] p [] over same = alone (p.rest *ℤ over)
  where
    alone : (z : ℤ) → z +ℤ pos 0 ≡ pos 0 +ℤ z
    alone z = omega (arith, ints)
sum_at_places [] p (n ∷ numbers) over same = absurd (omega (arith, same))
sum_at_places (c ∷ cs) p [] over same = absurd (omega (arith, same))
sum_at_places (c ∷ cs) p (n ∷ numbers) over same =
    ap (λ z. coefficient_in p.terms c *ℤ n +ℤ z) (sum_at_places cs p numbers over (omega (arith, same)))
    ∙ grouped (coefficient_in p.terms c *ℤ n) (sum_below (length cs) (λ j. coefficient_in p.terms (get_or cs j []) *ℤ entry numbers j)) (p.rest *ℤ over)
    ∙ ap (λ z. z +ℤ p.rest *ℤ over) (sym (sum_below-first (length cs) (λ j. coefficient_in p.terms (get_or (c ∷ cs) j []) *ℤ entry (n ∷ numbers) j)))
  where
    grouped : (a b c : ℤ) → a +ℤ (b +ℤ c) ≡ a +ℤ b +ℤ c
    grouped a b c = omega (arith, ints)

value_there : (cs : List (List Col)) (rows : List Row) (inner : Inner) (i : IsInner cs rows inner) (p : Polynomial) → IsOrdered cs → IsCanonical p.terms → AreAmong (keys_of p.terms) cs → sum_at (inner_at cs rows inner i) p ≡ value_in cs inner p
value_there cs rows inner i p ordered k among =
    ap (λ z. z +ℤ p.rest *ℤ inner.over) (terms_at-spread (numbered cs (λ j. entry inner.numbers j)) cs p.terms ordered k among ∙ spread-numbered (coefficient_in p.terms) cs (λ j. entry inner.numbers j) ordered)
    ∙ sym (sum_at_places cs p inner.numbers inner.over i.each)

-- a row that the point leaves room in is true and clear there
record IsRoomy (x : RationalPoint) (row : Row) : Type 0 where
  kind : (row.poly.terms ≡ []) ⊎ (row.kind ≡ AtMost)
  true_there : IsTrueAt x row
  clear : IsClear x row

roomy : (cs : List (List Col)) (rows : List Row) (inner : Inner) (i : IsInner cs rows inner) (row : Row) → IsOrdered cs → IsCanonical row.poly.terms → AreAmong (keys_of row.poly.terms) cs → IsDeepIn cs inner row → IsRoomy (inner_at cs rows inner i) row
roomy cs rows inner i row ordered k among deep = ⊎_elim (λ constant. without constant.0 constant.1) (λ below. with_columns below.0 below.1) deep
  where
    x : RationalPoint
    x = inner_at cs rows inner i

    without : row.poly.terms ≡ [] → IsWithin row.kind row.poly.rest → IsRoomy (inner_at cs rows inner i) row
    without e w = record { kind = inl e; true_there = subst (IsWithin row.kind) (sym (ap (λ ts. terms_at (numbered cs (λ j. entry inner.numbers j)) ts +ℤ row.poly.rest *ℤ inner.over) e ∙ left (row.poly.rest *ℤ inner.over))) (times row.kind row.poly.rest w); clear = inl e }
      where
        left : (z : ℤ) → pos 0 +ℤ z ≡ z
        left z = omega (arith, ints)

        times : (kind : Kind) (z : ℤ) → IsWithin kind z → IsWithin kind (z *ℤ inner.over)
        times AtMost z h = subst (λ y. (z *ℤ inner.over) ≤ℤ y) (zero-*ℤ inner.over) (≤ℤ-*ℤ z (pos 0) inner.over (weak inner.over i.positive) h)
          where
            weak : (y : ℤ) → pos 0 <ℤ y → pos 0 ≤ℤ y
            weak y g = omega (arith, ints, g)
        times Equal z h = ap (λ y. y *ℤ inner.over) h ∙ zero-*ℤ inner.over

    with_columns : row.kind ≡ AtMost → value_in cs inner row.poly ≤ℤ negsuc 0 → IsRoomy (inner_at cs rows inner i) row
    with_columns e below =
        let less : sum_at (inner_at cs rows inner i) row.poly <ℤ pos 0 = subst (λ z. z <ℤ pos 0) (sym (value_there cs rows inner i row.poly ordered k among)) (under (value_in cs inner row.poly) below) in
        record { kind = inr e; true_there = subst (λ kind. IsWithin kind (sum_at (inner_at cs rows inner i) row.poly)) (sym e) (at_most (sum_at (inner_at cs rows inner i) row.poly) less); clear = inr less }
      where
        under : (z : ℤ) → z ≤ℤ negsuc 0 → z <ℤ pos 0
        under z h = omega (arith, ints, h)

        at_most : (z : ℤ) → z <ℤ pos 0 → z ≤ℤ pos 0
        at_most z h = omega (arith, ints, h)

pub room_of : (cs : List (List Col)) (rows : List Row) (inner : Inner) → IsSmallCase 4 rows [] → HasColumns cs rows → AreCanonical rows → IsInner cs rows inner → HasSmallRoom rows
room_of cs rows inner s h k i = record {
  point = record { point = inner_at cs rows inner i; met = point_met };
  free = free_rows rows canonical (recursion_from_All (λ (r : Row). HasNumbersUpTo 4 r.poly) rows s.small) (record { point = inner_at cs rows inner i; met = point_met })
      (each_row (HasClear rows) rows (λ l row here. let r = at l row here in record { kind = r.kind; point = inner_at cs rows inner i; met = point_met; clear = r.clear }));
}
  where
    canonical : AllByRecursion (λ (r : Row). IsCanonical r.poly.terms) rows
    canonical = recursion_from_All (λ (r : Row). IsCanonical r.poly.terms) rows k

    at : (l : ℕ) (row : Row) → slice_get rows l ≡ Some row → IsRoomy (inner_at cs rows inner i) row
    at l row here = roomy cs rows inner i row h.ordered (all_at (λ (r : Row). IsCanonical r.poly.terms) rows l row canonical here) (all_at (λ (r : Row). AreAmong (keys_of r.poly.terms) cs) rows l row h.among here) (all_at (IsDeepIn cs inner) rows l row i.deep here)

    point_met : Meets (inner_at cs rows inner i) rows
    point_met = each_row (IsTrueAt (inner_at cs rows inner i)) rows (λ l row here. (at l row here).true_there)

-- ---- the answer

pub own_columns : (rows : List Row) → IsSmallCase 4 rows [] → HasColumns (columns rows []) rows
own_columns rows s = record { few = s.few_columns; ordered = IsOrdered-columns (monos_of rows []); among = rows_among rows [] }

pub room_decided : (cs : List (List Col)) (rows : List Row) (found : Option Inner) → IsSmallCase 4 rows [] → HasColumns cs rows → AreCanonical rows → MatchOption found ⊤ (IsInner cs rows) → (found ≡ None → HasSmallRoom rows → ⊥) → IsTrue (is_some found) ↔ HasSmallRoom rows
room_decided cs rows (Some inner) s h k i none = (λ e. room_of cs rows inner s h k i, λ room. refl)
room_decided cs rows None s h k i none = (λ e. absurd (false≢true e), λ room. absurd (none refl room))
