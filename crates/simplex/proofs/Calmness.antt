-- A frame that is calm has small tableaux: each line of whole numbers without common divisor is a
-- line of rational multiples over its least common denominator.
use Rattle.std.proofs.Common.{◌≡◌, ℕ, zero, suc, ◌+◌, ◌*◌, ◌-◌, ◌<◌, ◌≤◌, Bool, true, false, cond, List, [], ◌∷◌, ◌++◌, map, length, get_or, refl, sym, ap, subst, ◌∙◌, arith, ⊎_elim, ℤ, pos, ◌-ℤ◌, ◌*ℤ◌, ◌<ℤ◌, ◌≢◌}
use Rattle.std.specs.Prelude.{◌==◌, nat_eq, nat_lt, unsigned_abs, int_div, neg_ℤ}
use Rattle.std.specs.Int.{◌∣◌}
use Rattle.std.specs.List.{AllByRecursion}
use Rattle.std.proofs.lemmas.Int.{ints, unsigned_abs-mul}
use Rattle.std.proofs.lemmas.Bool.{cases_eq, cases_lt, eq-eqb, ne_eqb, lt-ltb, ltb-true}
use Rattle.std.proofs.lemmas.Nat.Gcd.{dvd-zero, le_of_dvd}
use Rattle.std.proofs.Math.Nat.{zero-mul, one-mul, mul-le-mul_left, mul-le-mul_right}
use Rattle.std.proofs.Math.IntN.{*ℤ_comm, zero-*ℤ}
use Rattle.whole_numbers.specs.Divisors.{gcd_of_all}
use Rattle.whole_numbers.proofs.CommonDivisors.{DividesEach, DividesEach-gcd_of_all, gcd_of_all-positive}
use Rattle.whole_numbers.proofs.Quotients.{int_div-*ℤ}
use Rattle.whole_numbers.proofs.Ring.{neg_ℤ-*ℤ}
use Rattle.linear_terms.specs.declared.col.Col.{Col}
use Rattle.linear_terms.specs.declared.row.Row.{Row}
use Rattle.linear_terms.specs.Polynomial.{Polynomial, coefficient_in}
use Rattle.farkas_check.specs.Frames.{Frame, number_in, line_of, frame_of, width, line_count, sum_below, IsTableau, AreUpTo, IsCalmUpTo}
use Rattle.farkas_check.specs.Relations.{entry, places}
use Rattle.farkas_check.specs.Sizes.{row_polys}
use Rattle.simplex.specs.Exchange.{numbers_of, choices_of, IsTableauOf}
use Rattle.simplex.specs.Raise.{Framed}
use Rattle.simplex.specs.Refusal.{IsSmallFrame}
use Rattle.simplex.specs.Rows.{coefficients, units_to, lines_from, framed_tableau, frame_of_rows}
use Rattle.simplex.specs.declared.tableau.Tableau.{Tableau}
use Rattle.simplex.proofs.Corners.{over, share, part, moved, moved-sum, moved-solves}
use Rattle.simplex.proofs.Eliminations.{choose_apart}
use Rattle.simplex.proofs.RowTableaux.{at_front, front-length, numbers-unit}
use Rattle.simplex.proofs.Primitive.{divides_all}
use Rattle.simplex.proofs.RowCorners.{over-positive, share-positive, find_choice, part-none, part-one}
use Rattle.simplex.proofs.Sums.{sum_below-same}

-- ---- lists by places

all_from : (P : ℕ → Type 0) (xs : List ℕ) → ((i : ℕ) → i < length xs → P (get_or xs i 0)) → AllByRecursion P xs
all_from P [] f = tt
all_from P (x ∷ xs) f = (f 0 (omega arith), all_from P xs (λ i h. f (suc i) (omega (arith, h))))

pub mapped : {A B C : Type 0} (f : B → C) (g : A → B) (xs : List A) → map f (map g xs) ≡ map (λ x. f (g x)) xs
mapped f g [] = refl
mapped f g (x ∷ xs) = ap (λ ys. f (g x) ∷ ys) (mapped f g xs)

-- what holds of the numbers at the places below a number
pub at_place : (P : ℤ → Type 0) (f : ℕ → ℤ) (w j : ℕ) → AllByRecursion P (map f (places w)) → j < w → P (f j)
at_place P f zero j h k = absurd (omega (arith, k))
at_place P f (suc w) zero h k = h.0
at_place P f (suc w) (suc j) h k = at_place P (λ i. f (suc i)) w j (subst (AllByRecursion P) (mapped f (λ i. suc i) (places w)) h.1) (omega (arith, k))

pub divided_each : (d : ℕ) (zs : List ℤ) → DividesEach d zs → AllByRecursion (λ z. d ∣ unsigned_abs z) zs
divided_each d [] h = tt
divided_each d (z ∷ zs) h = (h.0, divided_each d zs h.1)

-- ---- the frame of the rows

polys-length : (rows : List Row) → length (row_polys rows []) ≡ length rows
polys-length [] = refl
polys-length (row ∷ rows) = let e : length (row_polys rows []) ≡ length rows = polys-length rows in omega (arith, e)

pub lines-length : (cs : List (List Col)) (rows : List Row) → line_count (frame_of cs (row_polys rows [])) ≡ length rows
lines-length cs rows = length_of (row_polys rows []) ∙ polys-length rows
  where
    length_of : (ps : List Polynomial) → length (map (line_of cs) ps) ≡ length ps
    length_of [] = refl
    length_of (p ∷ ps) = let e : length (map (line_of cs) ps) ≡ length ps = length_of ps in omega (arith, e)

line_parts : (cs : List (List Col)) (row : Row) → line_of cs row.poly ≡ coefficients row cs ++ row.poly.rest ∷ []
line_parts [] row = refl
line_parts (c ∷ cs) row = ap (λ zs. coefficient_in row.poly.terms c ∷ zs) (line_parts cs row)

same_number : (cs : List (List Col)) (count place : ℕ) (rows : List Row) (l j : ℕ) → j < length cs + 1 → entry (get_or (map (line_of cs) (row_polys rows [])) l []) j ≡ entry (get_or (lines_from cs count place rows) l []) j
same_number cs count place [] l j h = refl
same_number cs count place (row ∷ rows) zero j h =
    ap (λ (zs : List ℤ). entry zs j) (line_parts cs row)
    ∙ sym (at_front (coefficients row cs ++ row.poly.rest ∷ []) (units_to count place) (pos 0) j (subst (λ (n : ℕ). j < n) (sym (front-length cs row)) h))
same_number cs count place (row ∷ rows) (suc l) j h = same_number cs count (place + 1) rows l j h

pub frame_numbers : (cs : List (List Col)) (rows : List Row) (l j : ℕ) → l < length rows → j < length cs + 1 + length rows → number_in (frame_of cs (row_polys rows [])) l j ≡ numbers_of (framed_tableau cs rows) l j
frame_numbers cs rows l j h k = ⊎_elim (λ (a : j < length cs + 1). before a) (λ (b : length cs + 1 ≤ j). behind b) (cases_lt j (length cs + 1))
  where
    own : ℤ
    own = entry (get_or (map (line_of cs) (row_polys rows [])) l []) j

    before : j < length cs + 1 → cond (nat_lt j (length cs + 1)) own (cond (j == length cs + 1 + l) (pos 1) (pos 0)) ≡ numbers_of (framed_tableau cs rows) l j
    before a = ap (λ (b : Bool). cond b own (cond (j == length cs + 1 + l) (pos 1) (pos 0))) (lt-ltb j (length cs + 1) a) ∙ same_number cs (length rows) 0 rows l j a

    not_before : (a b : ℕ) → b ≤ a → (q : Bool) → nat_lt a b ≡ q → q ≡ false
    not_before a b m true e = absurd (let h : a < b = ltb-true a b e in omega (arith, m, h))
    not_before a b m false e = refl

    behind : length cs + 1 ≤ j → cond (nat_lt j (length cs + 1)) own (cond (j == length cs + 1 + l) (pos 1) (pos 0)) ≡ numbers_of (framed_tableau cs rows) l j
    behind b =
        ap (λ (q : Bool). cond q own (cond (j == length cs + 1 + l) (pos 1) (pos 0))) (not_before j (length cs + 1) b (nat_lt j (length cs + 1)) refl)
        ∙ at_unit (j - (length cs + 1)) (omega (arith, b))
      where
        at_unit : (u : ℕ) → j ≡ length cs + 1 + u → cond (nat_eq j (length cs + 1 + l)) (pos 1) (pos 0) ≡ numbers_of (framed_tableau cs rows) l j
        at_unit u e =
            ⊎_elim (λ (same : u ≡ l). ap (λ (q : Bool). cond q (pos 1) (pos 0)) (eq-eqb j (length cs + 1 + l) (omega (arith, e, same)) ∙ sym (eq-eqb u l same)))
            (λ other. ap (λ (q : Bool). cond q (pos 1) (pos 0)) (ne_eqb j (length cs + 1 + l) (λ f. other (omega (arith, e, f))) ∙ sym (ne_eqb u l other))) (cases_eq u l)
            ∙ sym (ap (numbers_of (framed_tableau cs rows) l) e ∙ numbers-unit cs rows l u h (omega (arith, e, k)))

-- ---- a tableau of the code as rational multiples over one denominator

abbrev pub whole_over : Tableau → ℤ
whole_over t = over (length t.lines) (λ k. numbers_of t k (choices_of t k))

abbrev pub share_of : Tableau → ℕ → ℤ
share_of t k = share (length t.lines) (λ k. numbers_of t k (choices_of t k)) k

abbrev pub multiple_of : Tableau → ℕ → ℕ → ℤ
multiple_of t k j = numbers_of t k j *ℤ share_of t k

-- the numbers of a frame, by lines and columns
abbrev pub HasNumbers : Frame → (ℕ → ℕ → ℤ) → Type 0
HasNumbers f frame = (l j : ℕ) → l < line_count f → j < width f → number_in f l j ≡ frame l j

pub is_tableau : (f : Frame) (frame : ℕ → ℕ → ℤ) (t : Tableau) → HasNumbers f frame → length t.lines ≡ line_count f → IsTableauOf f.units frame t → IsTableau f t.chosen (whole_over t) (multiple_of t)
is_tableau f frame t numbers many s = record {
  each = s.shape.choices ∙ many;
  within = all_from (λ c. c < width f) t.chosen (λ i h. subst (λ (n : ℕ). choices_of t i < f.units + n) many (s.within i (subst (λ (n : ℕ). i < n) s.shape.choices h)));
  positive = over-positive (length t.lines) (λ k. numbers_of t k (choices_of t k)) (λ k h. s.is.own k h);
  writes = λ l j h k. writes l j h k;
}
  where
    level : (a b : ℤ) → a -ℤ b ≡ pos 0 → a ≡ b
    level a b e = omega (arith, ints, e)

    in_frame : (i : ℕ) → i < line_count f → choices_of t i < width f
    in_frame i h = subst (λ (n : ℕ). choices_of t i < f.units + n) many (s.within i (subst (λ (n : ℕ). i < n) (sym many) h))

    written : (l j : ℕ) → l < line_count f → j < width f → frame l j *ℤ whole_over t ≡ sum_below (length t.lines) (λ k. frame l (choices_of t k) *ℤ multiple_of t k j)
    written l j h k =
        level (frame l j *ℤ whole_over t) (sum_below (length t.lines) (λ k. frame l (choices_of t k) *ℤ multiple_of t k j))
        (sym (moved-sum (length t.lines) (f.units + length t.lines) (numbers_of t) (choices_of t) j (frame l) inside (λ i g. s.within i g))
        ∙ moved-solves (length t.lines) f.units (f.units + length t.lines) frame (numbers_of t) (choices_of t) j s.is inside (λ i g. s.within i g) l (subst (λ (n : ℕ). l < n) (sym many) h))
      where
        inside : j < f.units + length t.lines
        inside = subst (λ (n : ℕ). j < f.units + n) (sym many) k

    writes : (l j : ℕ) → l < line_count f → j < width f → whole_over t *ℤ number_in f l j ≡ sum_below (line_count f) (λ k. multiple_of t k j *ℤ number_in f l (get_or t.chosen k 0))
    writes l j h k =
        ap (λ z. whole_over t *ℤ z) (numbers l j h k)
        ∙ *ℤ_comm (whole_over t) (frame l j)
        ∙ written l j h k
        ∙ sum_below-same (length t.lines) (λ i. frame l (choices_of t i) *ℤ multiple_of t i j) (λ i. multiple_of t i j *ℤ number_in f l (get_or t.chosen i 0))
        (λ i g. *ℤ_comm (frame l (choices_of t i)) (multiple_of t i j) ∙ ap (λ z. multiple_of t i j *ℤ z) (sym (numbers l (choices_of t i) h (in_frame i (subst (λ (n : ℕ). i < n) many g)))))
        ∙ ap (λ (n : ℕ). sum_below n (λ i. multiple_of t i j *ℤ number_in f l (get_or t.chosen i 0))) many

-- the frame of rows
pub row_numbers : (cs : List (List Col)) (rows : List Row) → HasNumbers (frame_of cs (row_polys rows [])) (numbers_of (framed_tableau cs rows))
row_numbers cs rows l j h k = frame_numbers cs rows l j (subst (λ (n : ℕ). l < n) (lines-length cs rows) h) (subst (λ (n : ℕ). j < length cs + 1 + n) (lines-length cs rows) k)

-- ---- lines

positive_size : (z : ℤ) → pos 0 <ℤ z → 0 < unsigned_abs z
positive_size z h = omega (arith, ints)

pub smaller : (a s g n : ℕ) → 0 < s → a * s ≤ n * g → g ≤ s → a ≤ n
smaller a s g n p h k = ⊎_elim (λ (b : n < a). absurd (clash (mul-le-mul_right s b) (mul-le-mul_left n k))) (λ (b : a ≤ n). b) (cases_lt n a)
  where
    clash : suc n * s ≤ a * s → n * g ≤ n * s → ⊥
    clash x y = let z : suc n * s ≡ n * s + s = omega arith in omega (arith, x, y, h, p, z)

outside : (t : Tableau) (w i j : ℕ) → ((i : ℕ) → i < length t.lines → length (get_or t.lines i []) ≡ w) → w ≤ j → i < length t.lines → numbers_of t i j ≡ pos 0
outside t w i j wide h k = past (get_or t.lines i []) j (subst (λ (n : ℕ). n ≤ j) (sym (wide i k)) h)
  where
    past : (zs : List ℤ) (j : ℕ) → length zs ≤ j → entry zs j ≡ pos 0
    past [] j h = refl
    past (z ∷ zs) zero h = absurd (omega (arith, h))
    past (z ∷ zs) (suc j) h = past zs j (omega (arith, h))

pub no_line : (ls : List (List ℤ)) (i j : ℕ) → length ls ≤ i → entry (get_or ls i []) j ≡ pos 0
no_line [] i j h = refl
no_line (l ∷ ls) zero j h = absurd (omega (arith, h))
no_line (l ∷ ls) (suc i) j h = no_line ls i j (omega (arith, h))

pub nothing_small : (z : ℤ) (n : ℕ) → z ≡ pos 0 → unsigned_abs z ≤ n
nothing_small z n e = omega (arith, ints, e)

pub small_frame_of : (n : ℕ) (f : Frame) (frame : ℕ → ℕ → ℤ) (rows : ℕ) → HasNumbers f frame → IsCalmUpTo n f → IsSmallFrame n (record { units = f.units; rows = rows; frame = frame }) (line_count f)
small_frame_of n f frame rows same calm t many s primitive i j =
    ⊎_elim (λ (h : i < length t.lines). ⊎_elim (λ (k : j < f.units + length t.lines). inside i j h k) (λ (k : f.units + length t.lines ≤ j). nothing_small (numbers_of t i j) n (outside t (f.units + length t.lines) i j s.shape.wide k h)) (cases_lt j (f.units + length t.lines)))
    (λ (h : length t.lines ≤ i). nothing_small (numbers_of t i j) n (no_line t.lines i j h)) (cases_lt i (length t.lines))
  where
    inside : (i j : ℕ) → i < length t.lines → j < f.units + length t.lines → unsigned_abs (numbers_of t i j) ≤ n
    inside i j h k = smaller (unsigned_abs (numbers_of t i j)) (unsigned_abs (share_of t i)) common n size_above bound (le_of_dvd size_above (subst (λ x. common ∣ x) (ap (λ x. x * unsigned_abs (share_of t i)) (primitive i h) ∙ one-mul (unsigned_abs (share_of t i))) divides))
      where
        wide : f.units + length t.lines ≡ width f
        wide = ap (λ x. f.units + x) (many)

        numbers : List ℤ
        numbers = whole_over t ∷ map (multiple_of t i) (places (width f))

        common : ℕ
        common = gcd_of_all numbers

        size_above : 0 < unsigned_abs (share_of t i)
        size_above = positive_size (share_of t i) (share-positive (length t.lines) (λ k. numbers_of t k (choices_of t k)) i (λ o p. s.is.own o p))

        is_up_to : AreUpTo n numbers
        is_up_to = calm.lines t.chosen (whole_over t) (multiple_of t) (is_tableau f frame t same many s) i (subst (λ (x : ℕ). i < x) (many) h)

        bound : unsigned_abs (numbers_of t i j) * unsigned_abs (share_of t i) ≤ n * common
        bound = subst (λ x. x ≤ n * common) (unsigned_abs-mul (numbers_of t i j) (share_of t i)) (at_place (λ z. unsigned_abs z ≤ n * common) (multiple_of t i) (width f) j is_up_to.1 (subst (λ (x : ℕ). j < x) wide k))

        each : (q : ℕ) → common ∣ (unsigned_abs (numbers_of t i q) * unsigned_abs (share_of t i))
        each q = ⊎_elim (λ (g : q < f.units + length t.lines). subst (λ x. common ∣ x) (unsigned_abs-mul (numbers_of t i q) (share_of t i)) (at_place (λ z. common ∣ unsigned_abs z) (multiple_of t i) (width f) q (divided_each common numbers (DividesEach-gcd_of_all numbers)).1 (subst (λ (x : ℕ). q < x) wide g)))
            (λ (g : f.units + length t.lines ≤ q). subst (λ x. common ∣ x) (sym (ap (λ z. unsigned_abs z * unsigned_abs (share_of t i)) (outside t (f.units + length t.lines) i q s.shape.wide g h) ∙ zero-mul (unsigned_abs (share_of t i)))) (dvd-zero common)) (cases_lt q (f.units + length t.lines))

        divides : common ∣ (gcd_of_all (get_or t.lines i []) * unsigned_abs (share_of t i))
        divides = divides_all common (unsigned_abs (share_of t i)) (get_or t.lines i []) size_above each

pub small_frame : (n : ℕ) (cs : List (List Col)) (rows : List Row) → IsCalmUpTo n (frame_of cs (row_polys rows [])) → IsSmallFrame n (frame_of_rows cs rows) (length rows)
small_frame n cs rows calm = subst (λ (count : ℕ). IsSmallFrame n (frame_of_rows cs rows) count) (lines-length cs rows) (small_frame_of n (frame_of cs (row_polys rows [])) (numbers_of (framed_tableau cs rows)) (length rows) (row_numbers cs rows) calm)

-- ---- columns

-- the multiples of a column over their least common denominator
pub record HasSmallColumn (n : ℕ) (t : Tableau) (column : ℕ) : Type 0 where
  pub bottom : ℤ
  pub top : ℕ → ℤ
  pub common : ℤ
  pub above : pos 0 <ℤ common
  pub bottom_is : bottom *ℤ common ≡ whole_over t
  pub top_is : (k : ℕ) → k < length t.lines → top k *ℤ common ≡ multiple_of t k column
  pub bottom_small : unsigned_abs bottom ≤ n
  pub top_small : (k : ℕ) → k < length t.lines → unsigned_abs (top k) ≤ n

pub small_column_of : (n : ℕ) (f : Frame) (frame : ℕ → ℕ → ℤ) (t : Tableau) (column : ℕ) → HasNumbers f frame → IsCalmUpTo n f → length t.lines ≡ line_count f → IsTableauOf f.units frame t → column < f.units + length t.lines → HasSmallColumn n t column
small_column_of n f frame t column same calm all_lines s inside = record {
  bottom = int_div (whole_over t) (pos common);
  top = λ k. int_div (multiple_of t k column) (pos common);
  common = pos common;
  above = omega (arith, ints, common_above);
  bottom_is = int_div-*ℤ (whole_over t) common each_divided.0;
  top_is = λ k h. int_div-*ℤ (multiple_of t k column) common (divided k h);
  bottom_small = below (int_div (whole_over t) (pos common)) (whole_over t) (int_div-*ℤ (whole_over t) common each_divided.0) is_up_to.0;
  top_small = λ k h. below (int_div (multiple_of t k column) (pos common)) (multiple_of t k column) (int_div-*ℤ (multiple_of t k column) common (divided k h)) (at_place (λ z. unsigned_abs z ≤ n * common) (λ i. multiple_of t i column) (line_count f) k is_up_to.1 (subst (λ (x : ℕ). k < x) all_lines h));
}
  where
    numbers : List ℤ
    numbers = whole_over t ∷ map (λ k. multiple_of t k column) (places (line_count f))

    common : ℕ
    common = gcd_of_all numbers

    over_above : pos 0 <ℤ whole_over t
    over_above = over-positive (length t.lines) (λ k. numbers_of t k (choices_of t k)) (λ k h. s.is.own k h)

    not_zero : (z : ℤ) → pos 0 <ℤ z → z ≡ pos 0 → ⊥
    not_zero z h e = omega (arith, ints, h, e)

    common_above : 0 < gcd_of_all (whole_over t ∷ map (λ k. multiple_of t k column) (places (line_count f)))
    common_above = gcd_of_all-positive (whole_over t) (map (λ k. multiple_of t k column) (places (line_count f))) (not_zero (whole_over t) over_above)

    each_divided : AllByRecursion (λ z. common ∣ unsigned_abs z) numbers
    each_divided = divided_each common numbers (DividesEach-gcd_of_all numbers)

    divided : (k : ℕ) → k < length t.lines → common ∣ unsigned_abs (multiple_of t k column)
    divided k h = at_place (λ z. common ∣ unsigned_abs z) (λ i. multiple_of t i column) (line_count f) k each_divided.1 (subst (λ (x : ℕ). k < x) all_lines h)

    is_up_to : AreUpTo n numbers
    is_up_to = calm.columns t.chosen (whole_over t) (multiple_of t) (is_tableau f frame t same all_lines s) column (subst (λ (x : ℕ). column < f.units + x) all_lines inside)

    below : (q z : ℤ) → q *ℤ pos common ≡ z → unsigned_abs z ≤ n * common → unsigned_abs q ≤ n
    below q z e h = smaller (unsigned_abs q) common common n common_above (subst (λ (x : ℕ). x ≤ n * common) (ap unsigned_abs (sym e) ∙ unsigned_abs-mul q (pos common)) h) (omega arith)

pub small_column : (n : ℕ) (cs : List (List Col)) (rows : List Row) (t : Tableau) (column : ℕ) → IsCalmUpTo n (frame_of cs (row_polys rows [])) → length t.lines ≡ length rows → IsTableauOf (length cs + 1) (numbers_of (framed_tableau cs rows)) t → column < length cs + 1 + length t.lines → HasSmallColumn n t column
small_column n cs rows t column calm many s inside = small_column_of n (frame_of cs (row_polys rows [])) (numbers_of (framed_tableau cs rows)) t column (row_numbers cs rows) calm (many ∙ sym (lines-length cs rows)) s inside

-- what the point or the ray of a column has at a column that it does not grow, over the least
-- common denominator
pub moved_part : (n : ℕ) (t : Tableau) (column : ℕ) → HasSmallColumn n t column → ℕ → ℤ
moved_part n t column c j = pos 0 -ℤ sum_below (length t.lines) (λ k. part (choices_of t) c.top j k)

pub record IsMovedPart (n : ℕ) (t : Tableau) (column j : ℕ) (c : HasSmallColumn n t column) : Type 0 where
  pub is : moved_part n t column c j *ℤ c.common ≡ moved (length t.lines) (numbers_of t) (choices_of t) column j
  pub small : unsigned_abs (moved_part n t column c j) ≤ n

pub moved_parts : (n : ℕ) (over : Framed) (t : Tableau) (column j : ℕ) (c : HasSmallColumn n t column) → IsTableauOf over.units over.frame t → column ≢ j → IsMovedPart n t column j c
unfolding moved_part
moved_parts n frame t column j c s apart = ⊎_elim (λ found. one found.0 found.1.0 found.1.1) free (find_choice (length t.lines) (choices_of t) j)
  where
    value : ℕ → ℤ
    value k = numbers_of t k column *ℤ share (length t.lines) (λ k. numbers_of t k (choices_of t k)) k

    moved_is : moved (length t.lines) (numbers_of t) (choices_of t) column j ≡ pos 0 -ℤ sum_below (length t.lines) (λ k. part (choices_of t) value j k)
    moved_is = ap (λ (b : Bool). cond b (over (length t.lines) (λ k. numbers_of t k (choices_of t k))) (pos 0) -ℤ sum_below (length t.lines) (λ k. part (choices_of t) value j k)) (ne_eqb column j apart)

    less_zero : (z : ℤ) → pos 0 -ℤ z ≡ neg_ℤ z
    less_zero z = omega (arith, ints)

    flip : (a b : ℤ) → (pos 0 -ℤ a) *ℤ b ≡ pos 0 -ℤ a *ℤ b
    flip a b = ap (λ z. z *ℤ b) (less_zero a) ∙ neg_ℤ-*ℤ a b ∙ sym (less_zero (a *ℤ b))

    same_size : (z : ℤ) → unsigned_abs (pos 0 -ℤ z) ≡ unsigned_abs z
    same_size z = omega (arith, ints)

    one : (k : ℕ) → k < length t.lines → choices_of t k ≡ j → IsMovedPart n t column j c
    one k h is = record {
      is = flip (sum_below (length t.lines) (λ k. part (choices_of t) c.top j k)) c.common
          ∙ ap (λ z. pos 0 -ℤ z *ℤ c.common) (part-one (length t.lines) (choices_of t) c.top j k h is others)
          ∙ ap (λ z. pos 0 -ℤ z) (c.top_is k h)
          ∙ ap (λ z. pos 0 -ℤ z) (sym (part-one (length t.lines) (choices_of t) value j k h is others))
          ∙ sym moved_is;
      small = subst (λ (x : ℕ). x ≤ n) (sym (same_size (sum_below (length t.lines) (λ k. part (choices_of t) c.top j k)) ∙ ap unsigned_abs (part-one (length t.lines) (choices_of t) c.top j k h is others))) (c.top_small k h);
    }
      where
        others : (i : ℕ) → i < length t.lines → i ≢ k → choices_of t i ≢ j
        others i g other e = choose_apart frame t i k s g h other (e ∙ sym is)

    free : ((k : ℕ) → k < length t.lines → choices_of t k ≢ j) → IsMovedPart n t column j c
    free no_one = record {
      is = ap (λ z. (pos 0 -ℤ z) *ℤ c.common) (part-none (length t.lines) (choices_of t) c.top j no_one)
          ∙ zero-*ℤ c.common
          ∙ sym (moved_is ∙ ap (λ z. pos 0 -ℤ z) (part-none (length t.lines) (choices_of t) value j no_one));
      small = subst (λ (x : ℤ). unsigned_abs (pos 0 -ℤ x) ≤ n) (sym (part-none (length t.lines) (choices_of t) c.top j no_one)) (omega arith);
    }
