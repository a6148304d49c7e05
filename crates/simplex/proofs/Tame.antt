-- A calm question of rows: the test of what the search finds stays within 128 bits.
use Rattle.std.proofs.Common.{◌≡◌, ◌≢◌, ℕ, zero, suc, ◌+◌, ◌*◌, ◌^◌, ◌<◌, ◌≤◌, Bool, true, false, cond, List, [], ◌∷◌, length, get_or, Result, Ok, Err, refl, sym, ap, subst, ◌∙◌, arith, ℤ, pos, negsuc, ◌+ℤ◌, ◌*ℤ◌, ◌≤ℤ◌, ◌<ℤ◌}
use Rattle.std.specs.Prelude.{unsigned_abs, slice_get, Some, ◌==◌}
use Rattle.std.specs.List.{AllByRecursion}
use Rattle.std.specs.Map.{keys_of}
use Rattle.std.specs.Ordering.{eq_by_cmp, is_eq}
use Rattle.std.specs.declared.cmp.Ordering.TheVariants.{Less}
use Rattle.std.proofs.lemmas.Int.{ints, unsigned_abs-mul}
use Rattle.std.proofs.lemmas.Bool.{false≢true}
use Rattle.std.proofs.lemmas.List.Elements.{recursion_from_All}
use Rattle.std.proofs.Math.Nat.{one-mul, mul-le-mul_right}
use Rattle.items.specs.Gives.{◌>>=◌}
use Rattle.whole_numbers.specs.declared.wide.Wide as Step
use Rattle.whole_numbers.proofs.Ring.{*ℤ_cancel, *ℤ_assoc, *ℤ_right_comm}
use Rattle.linear_terms.specs.declared.col.Col.{Col}
use Rattle.linear_terms.specs.declared.row.Row.{Row}
use Rattle.linear_terms.specs.Mono.{mono_cmp}
use Rattle.linear_terms.specs.Polynomial.{Terms, Polynomial, coefficient_in, IsCanonical}
use Rattle.linear_terms.specs.Row.{AreCanonical, is_within}
use Rattle.linear_terms.proofs.Canonical.{Before, first_before, IsCanonical-tail, Before-trans}
use Rattle.farkas_check.specs.Columns.{columns, monos_of}
use Rattle.farkas_check.specs.Calm.{IsCalmCase}
use Rattle.farkas_check.specs.Frames.{choose, choice_count}
use Rattle.farkas_check.specs.Multiples.{Form, number_at as coefficient_at, constant_in, sum_from, sums_at, constant_sum, sum_of_multiples, are_multipliers, is_positive_constant}
use Rattle.farkas_check.specs.Parts.{and_then}
use Rattle.farkas_check.specs.Points.{ratio_at, ratio_value, meets}
use Rattle.farkas_check.specs.Rational.{terms_at}
use Rattle.farkas_check.specs.Ratios.{Fraction, whole}
use Rattle.farkas_check.specs.Relations.{entry}
use Rattle.farkas_check.specs.Tested.{outcome, tested_yes, tested_no}
use Rattle.farkas_check.specs.declared.answer.Answer.{Answer}
use Rattle.farkas_check.specs.declared.answer.Answer.TheVariants as answer
use Rattle.farkas_check.specs.declared.question.Question.TheVariants.{Infeasible}
use Rattle.farkas_check.proofs.Farkas.{bool_ok}
use Rattle.farkas_check.proofs.Spreads.{itself, same_mono, is_among, AreAmong, rows_among}
use Rattle.farkas_check.proofs.Walks.{IsBefore, IsOrdered, IsOrdered-columns, reversed}
use Rattle.simplex.specs.Answers.{IsMultipliers, IsFoundFor}
use Rattle.simplex.specs.Exchange.{numbers_of, choices_of, IsTableauOf}
use Rattle.simplex.specs.Calm.{HasSmallLines}
use Rattle.simplex.specs.Raise.{Framed}
use Rattle.simplex.specs.Refusal.{IsSmallFrame}
use Rattle.simplex.specs.Rows.{kinds_of, framed_tableau, frame_of_rows}
use Rattle.simplex.specs.Search.{IsCornerOf, CornerAt, IsRefuted, IsMet}
use Rattle.simplex.specs.declared.tableau.Tableau.{Tableau}
use Rattle.simplex.proofs.Calmness.{small_frame, small_column, HasSmallColumn, moved_part, moved_parts, whole_over}
use Rattle.simplex.proofs.Certificates.{each_of, framed-column, framed-constant}
use Rattle.simplex.proofs.RowTableaux.{framed-is, framed-primitive, lines_from-length, kinds-length}
use Rattle.simplex.proofs.Small.{HasValue, bind_value, product-small}
use Rattle.simplex.proofs.RowCorners.{over-positive, numbered, stands-at, each_row, all_at}
use Rattle.simplex.proofs.Corners.{moved}
use Rattle.simplex.proofs.Widths.{IsRatio, EachRatio, IsRatio-nothing, sum_from-fits, value-ratio}

-- ---- terms and columns

pub coefficient-before : (m : List Col) (ts : Terms) → Before m ts → coefficient_in ts m ≡ pos 0
coefficient-before m [] b = refl
coefficient-before m (t ∷ ts) b = rw (ap is_eq (reversed m t.0 Less b.0)) (coefficient-before m ts b.1)

-- terms are no greater than the coefficients at the columns
terms_small : (n : ℕ) (cs : List (List Col)) (ts : Terms) → IsCanonical ts → AreAmong (keys_of ts) cs → ((m : List Col) → is_among m cs ≡ true → unsigned_abs (coefficient_in ts m) ≤ n) → AllByRecursion (λ t. unsigned_abs t.1 ≤ n) ts
terms_small n cs [] k a f = tt
terms_small n cs (t ∷ ts) k a f = (
  subst (λ (z : ℤ). unsigned_abs z ≤ n) (ap (λ (b : Bool). cond b t.1 (coefficient_in ts t.0)) (itself t.0)) (f t.0 a.0),
  terms_small n cs ts (IsCanonical-tail t ts k) a.1 (λ m h. later m (eq_by_cmp mono_cmp t.0 m) refl (f m h)),
)
  where
    later : (m : List Col) (b : Bool) → eq_by_cmp mono_cmp t.0 m ≡ b → unsigned_abs (cond b t.1 (coefficient_in ts m)) ≤ n → unsigned_abs (coefficient_in ts m) ≤ n
    later m true e h = subst (λ (z : ℤ). unsigned_abs z ≤ n) (sym (coefficient-before m ts (subst (λ c. Before c ts) (same_mono t.0 m e) (first_before t ts k)))) (omega arith)
    later m false e h = h

shrunk : (c : List Col) (cs : List (List Col)) (ts : Terms) → Before c ts → AreAmong (keys_of ts) (c ∷ cs) → AreAmong (keys_of ts) cs
shrunk c cs [] b a = tt
shrunk c cs (t ∷ ts) b a = (subst (λ (o : Bool). cond o true (is_among t.0 cs) ≡ true) (ap is_eq (reversed c t.0 Less b.0)) a.0, shrunk c cs ts b.1 a.1)

before_among : (c m : List Col) (cs : List (List Col)) → IsBefore c cs → is_among m cs ≡ true → mono_cmp c m ≡ Less
before_among c m [] b h = absurd (false≢true h)
before_among c m (d ∷ cs) b h = go (eq_by_cmp mono_cmp m d) refl h (λ k. before_among c m cs b.1 k)
  where
    go : (o : Bool) → eq_by_cmp mono_cmp m d ≡ o → cond o true (is_among m cs) ≡ true → (is_among m cs ≡ true → mono_cmp c m ≡ Less) → mono_cmp c m ≡ Less
    go true e k ih = subst (λ x. mono_cmp c x ≡ Less) (sym (same_mono m d e)) b.0
    go false e k ih = ih k

-- there are no more terms than columns
pub few_terms : (cs : List (List Col)) (ts : Terms) → IsOrdered cs → IsCanonical ts → AreAmong (keys_of ts) cs → length ts ≤ length cs
few_terms [] [] o k a = omega arith
few_terms [] (t ∷ ts) o k a = absurd (false≢true a.0)
few_terms (c ∷ cs) [] o k a = omega arith
few_terms (c ∷ cs) (t ∷ ts) o k a = go (eq_by_cmp mono_cmp t.0 c) refl a.0 (λ b. few_terms cs ts o.1 (IsCanonical-tail t ts k) b) (λ b. few_terms cs (t ∷ ts) o.1 k b)
  where
    go : (q : Bool) → eq_by_cmp mono_cmp t.0 c ≡ q → cond q true (is_among t.0 cs) ≡ true → (AreAmong (keys_of ts) cs → length ts ≤ length cs) → (AreAmong (keys_of (t ∷ ts)) cs → length (t ∷ ts) ≤ length cs) → length (t ∷ ts) ≤ length (c ∷ cs)
    go true e h short long = let g : length ts ≤ length cs = short (shrunk c cs ts (subst (λ m. Before m ts) (same_mono t.0 c e) (first_before t ts k)) a.1) in omega (arith, g)
    go false e h short long =
        let less : mono_cmp c t.0 ≡ Less = before_among c t.0 cs o.0 h in
        let g : length (t ∷ ts) ≤ length cs = long (h, shrunk c cs ts (Before-trans c t.0 ts less (first_before t ts k)) a.1) in omega (arith, g)

among_at : (P : List Col → Type 0) (m : List Col) (cs : List (List Col)) → ((j : ℕ) → j < length cs → P (get_or cs j [])) → is_among m cs ≡ true → P m
among_at P m [] f h = absurd (false≢true h)
among_at P m (c ∷ cs) f h = go (eq_by_cmp mono_cmp m c) refl h (λ k. among_at P m cs (λ j g. f (suc j) (omega (arith, g))) k)
  where
    go : (o : Bool) → eq_by_cmp mono_cmp m c ≡ o → cond o true (is_among m cs) ≡ true → (is_among m cs ≡ true → P m) → P m
    go true e k ih = subst P (sym (same_mono m c e)) (f 0 (omega arith))
    go false e k ih = ih k

-- ---- the frame's own numbers

pub own_small : (n : ℕ) (cs : List (List Col)) (rows : List Row) → IsSmallFrame n (frame_of_rows cs rows) (length rows) → HasSmallLines n (framed_tableau cs rows)
own_small n cs rows small = small (framed_tableau cs rows) (lines_from-length cs (length rows) 0 rows) (framed-is cs rows) (framed-primitive cs rows)

each_small : (n : ℕ) (number : Row → ℤ) (rows : List Row) → ((l : ℕ) → unsigned_abs (each_of number rows l) ≤ n) → AllByRecursion (λ row. unsigned_abs (number row) ≤ n) rows
each_small n number [] f = tt
each_small n number (row ∷ rows) f = (f 0, each_small n number rows (λ l. f (suc l)))

pub column_small : (n : ℕ) (cs : List (List Col)) (rows : List Row) (j : ℕ) → HasSmallLines n (framed_tableau cs rows) → j < length cs → AllByRecursion (λ row. unsigned_abs (coefficient_at (get_or cs j []) row) ≤ n) rows
column_small n cs rows j small h = each_small n (coefficient_at (get_or cs j [])) rows (λ l. subst (λ (z : ℤ). unsigned_abs z ≤ n) (framed-column cs rows j l h) (small l j))

pub constants_small : (n : ℕ) (cs : List (List Col)) (rows : List Row) → HasSmallLines n (framed_tableau cs rows) → AllByRecursion (λ row. unsigned_abs (constant_in row) ≤ n) rows
constants_small n cs rows small = each_small n constant_in rows (λ l. subst (λ (z : ℤ). unsigned_abs z ≤ n) (framed-constant cs rows l) (small l (length cs)))

-- ---- multipliers

pub sums_at-fits : (n : ℕ) (rows : List Row) (by : List ℤ) (cs : List (List Col)) → ((j : ℕ) → j < length cs → AllByRecursion (λ row. unsigned_abs (coefficient_at (get_or cs j []) row) ≤ n) rows) → AllByRecursion (λ m. unsigned_abs m ≤ n) by → length rows * (n * n) < 2 ^ 127 → HasValue (sums_at rows by cs)
sums_at-fits n rows by [] f m h = ([], refl)
sums_at-fits n rows by (c ∷ cs) f m h =
    bind_value (sum_from (coefficient_at c) (pos 0) rows by) (λ s. sums_at rows by cs >>= λ more. numbers_ok (s ∷ more)) (sum_from-fits n 0 (coefficient_at c) (pos 0) rows by (f 0 (omega arith)) m (omega arith) (omega (arith, h)))
    (λ s e. rest s (sums_at-fits n rows by cs (λ j g. f (suc j) (omega (arith, g))) m h))
  where
    numbers_ok : List ℤ → Result (List ℤ) Step.Wide
    numbers_ok ns = Ok ns

    rest : (s : ℤ) → HasValue (sums_at rows by cs) → HasValue (sums_at rows by cs >>= λ more. numbers_ok (s ∷ more))
    rest s v = bind_value (sums_at rows by cs) (λ more. numbers_ok (s ∷ more)) v (λ more e. (s ∷ more, refl))

abbrev form_ok : Form → Result Form Step.Wide
form_ok form = Ok form

pub multiples-fit : (n : ℕ) (rows : List Row) (by : List ℤ) (cs : List (List Col)) → HasSmallLines n (framed_tableau cs rows) → AllByRecursion (λ m. unsigned_abs m ≤ n) by → length rows * (n * n) < 2 ^ 127 → HasValue (sum_of_multiples rows by cs)
multiples-fit n rows by cs small m h =
    bind_value (sums_at rows by cs) (λ numbers. constant_sum rows by >>= λ rest. form_ok (record { numbers = numbers; rest = rest })) (sums_at-fits n rows by cs (λ j g. column_small n cs rows j small g) m h)
    (λ numbers e. bind_value (constant_sum rows by) (λ rest. form_ok (record { numbers = numbers; rest = rest })) (sum_from-fits n 0 constant_in (pos 0) rows by (constants_small n cs rows small) m (omega arith) (omega (arith, h))) (λ rest f. (record { numbers = numbers; rest = rest }, refl)))

pub no_error : {X : Type 0} (r : Result X Step.Wide) (w : Step.Wide) → HasValue r → r ≡ Err w → ⊥
no_error {X = X} r w v e = clash v.0 (sym v.1 ∙ e)
  where
    ok : X → Result X Step.Wide
    ok x = Ok x

    clash : (x : X) → ok x ≡ Err w → ⊥
    clash x f = cc

pub second_part : (b : Bool) (part : Result Bool Step.Wide) (w : Step.Wide) → (part ≡ Err w → ⊥) → and_then (bool_ok b) part ≡ Err w → ⊥
second_part true part w h e = h e
second_part false part w h e = cc

pub all_entries : (P : ℤ → Type 0) (zs : List ℤ) → ((j : ℕ) → j < length zs → P (entry zs j)) → AllByRecursion P zs
all_entries P [] f = tt
all_entries P (z ∷ zs) f = (f 0 (omega arith), all_entries P zs (λ j h. f (suc j) (omega (arith, h))))

pub multipliers_small : (n constants : ℕ) (t : Tableau) (line : ℕ) (by : List ℤ) → HasSmallLines n t → IsMultipliers constants t line by → AllByRecursion (λ m. unsigned_abs m ≤ n) by
multipliers_small n constants t line by small m =
    all_entries (λ z. unsigned_abs z ≤ n) by (λ l h. subst (λ (x : ℕ). x ≤ n) (sym (ap unsigned_abs (m.upright l (subst (λ (x : ℕ). l < x) m.each h)) ∙ unsigned_abs-mul m.sign (numbers_of t line (constants + 1 + l)) ∙ ap (λ (x : ℕ). x * unsigned_abs (numbers_of t line (constants + 1 + l))) m.one ∙ one-mul (unsigned_abs (numbers_of t line (constants + 1 + l))))) (small line (constants + 1 + l)))

pub yes-fits : (n : ℕ) (rows : List Row) (by : List ℤ) (w : Step.Wide) → HasSmallLines n (framed_tableau (columns rows []) rows) → AllByRecursion (λ m. unsigned_abs m ≤ n) by → length rows * (n * n) < 2 ^ 127 → tested_yes rows by ≡ Err w → ⊥
yes-fits n rows by w small m h e =
    second_part (are_multipliers rows by) (sum_of_multiples rows by (columns rows []) >>= λ form. bool_ok (is_positive_constant form)) w
    (no_error (sum_of_multiples rows by (columns rows []) >>= λ form. bool_ok (is_positive_constant form)) w (bind_value (sum_of_multiples rows by (columns rows [])) (λ form. bool_ok (is_positive_constant form)) (multiples-fit n rows by (columns rows []) small m h) (λ form f. (is_positive_constant form, refl)))) e

-- ---- points

pub ratio_each : (cs : List (List Col)) (point : List Fraction) (f : ℕ → ℤ) (d : ℤ) (m : List Col) → length point ≡ length cs → ((j : ℕ) → j < length cs → IsRatio (get_or point j (whole (pos 0))) (f j) d) → IsRatio (ratio_at cs point m) (numbered cs f m) d
ratio_each [] point f d m h s = IsRatio-nothing d
ratio_each (c ∷ cs) [] f d m h s = absurd (omega (arith, h))
ratio_each (c ∷ cs) (r ∷ rs) f d m h s = go (eq_by_cmp mono_cmp c m) (s 0 (omega arith)) (ratio_each cs rs (λ j. f (suc j)) d m (omega (arith, h)) (λ j g. s (suc j) (omega (arith, g))))
  where
    go : (b : Bool) → IsRatio r (f 0) d → IsRatio (ratio_at cs rs m) (numbered cs (λ j. f (suc j)) m) d → IsRatio (cond b r (ratio_at cs rs m)) (cond b (f 0) (numbered cs (λ j. f (suc j)) m)) d
    go true a b = a
    go false a b = b

pub numbered_small : (n : ℕ) (cs : List (List Col)) (f : ℕ → ℤ) (m : List Col) → ((j : ℕ) → j < length cs → unsigned_abs (f j) ≤ n) → unsigned_abs (numbered cs f m) ≤ n
numbered_small n [] f m h = omega arith
numbered_small n (c ∷ cs) f m h = go (eq_by_cmp mono_cmp c m) (numbered_small n cs (λ j. f (suc j)) m (λ j g. h (suc j) (omega (arith, g))))
  where
    go : (b : Bool) → unsigned_abs (numbered cs (λ j. f (suc j)) m) ≤ n → unsigned_abs (cond b (f 0) (numbered cs (λ j. f (suc j)) m)) ≤ n
    go true k = h 0 (omega arith)
    go false k = k

pub products_small : (n : ℕ) (x : List Col → ℤ) (ts : Terms) → ((m : List Col) → unsigned_abs (x m) ≤ n) → AllByRecursion (λ t. unsigned_abs t.1 ≤ n) ts → AllByRecursion (λ t. unsigned_abs (t.1 *ℤ x t.0) ≤ n * n) ts
products_small n x [] f h = tt
products_small n x (t ∷ ts) f h = (product-small n n t.1 (x t.0) h.0 (f t.0), products_small n x ts f h.1)

-- the coefficients of one polynomial at the columns of its frame
pub record IsSmallPoly (n : ℕ) (cs : List (List Col)) (p : Polynomial) : Type 0 where
  pub terms : AllByRecursion (λ t. unsigned_abs t.1 ≤ n) p.terms
  pub few : length p.terms ≤ length cs
  pub rest : unsigned_abs p.rest ≤ n

pub small_poly : (n : ℕ) (cs : List (List Col)) (rows : List Row) (l : ℕ) (row : Row) → IsOrdered cs → HasSmallLines n (framed_tableau cs rows) → slice_get rows l ≡ Some row → IsCanonical row.poly.terms → AreAmong (keys_of row.poly.terms) cs → IsSmallPoly n cs row.poly
small_poly n cs rows l row ordered small here canonical among = record {
  terms = terms_small n cs row.poly.terms canonical among (λ m h. among_at (λ c. unsigned_abs (coefficient_in row.poly.terms c) ≤ n) m cs (λ j g. all_at (λ (r : Row). unsigned_abs (coefficient_at (get_or cs j []) r) ≤ n) rows l row (column_small n cs rows j small g) here) h);
  few = few_terms cs row.poly.terms ordered canonical among;
  rest = all_at (λ (r : Row). unsigned_abs (constant_in r) ≤ n) rows l row (constants_small n cs rows small) here;
}

pub value-fits : (n : ℕ) (cs : List (List Col)) (at : List Col → Fraction) (x : List Col → ℤ) (d : ℤ) (p : Polynomial) → pos 0 <ℤ d → unsigned_abs d ≤ n → EachRatio at x d → ((m : List Col) → unsigned_abs (x m) ≤ n) → IsSmallPoly n cs p → length cs * (n * n) + n * n < 2 ^ 127 → n < 2 ^ 127
    → (r : Fraction) × ((ratio_value at p ≡ Ok r) × IsRatio r (terms_at x p.terms +ℤ p.rest *ℤ d) d)
value-fits n cs at x d p above small each sizes poly room fits =
    let many : length p.terms * (n * n) ≤ length cs * (n * n) = mul-le-mul_right (n * n) poly.few in
    value-ratio at x d (n * n) p above each (products_small n x p.terms sizes poly.terms) (product-small n n p.rest d poly.rest small) (omega (arith, many, room)) (omega (arith, small, fits))

pub meets-fit : (value : Polynomial → Result Fraction Step.Wide) (rows : List Row) (w : Step.Wide) → AllByRecursion (λ (row : Row). HasValue (value row.poly)) rows → meets value rows ≡ Err w → ⊥
meets-fit value [] w h e = cc
meets-fit value (row ∷ rows) w h e = with_value h.0.0 h.0.1 (λ f. meets-fit value rows w h.1 f)
  where
    with_value : (r : Fraction) → value row.poly ≡ Ok r → (meets value rows ≡ Err w → ⊥) → ⊥
    with_value r f again = second_part (is_within row.kind r.num) (meets value rows) w again (sym (ap (λ (v : Result Fraction Step.Wide). and_then (v >>= λ u. bool_ok (is_within row.kind u.num)) (meets value rows)) f) ∙ e)

-- the corner's numbers as ratios over the least common denominator
pub corner_ratio : (n : ℕ) (frame : Framed) (t : Tableau) (constants j : ℕ) (r : Fraction) (c : HasSmallColumn n t constants) → IsTableauOf frame.units frame.frame t → j ≢ constants → CornerAt t constants j r → IsRatio r (moved_part n t constants c j) c.bottom
corner_ratio n frame t constants j r c s apart k = record {
  stands = record {
    same = *ℤ_cancel (r.num *ℤ c.bottom) (moved_part n t constants c j *ℤ r.den) c.common c.above
        (*ℤ_assoc r.num c.bottom c.common ∙ ap (λ z. r.num *ℤ z) c.bottom_is ∙ (stands-at frame t constants j r s apart k).same ∙ ap (λ z. z *ℤ r.den) (sym is) ∙ *ℤ_right_comm (moved_part n t constants c j) c.common r.den);
    positive = k.positive;
  };
  lowest = k.lowest;
}
  where
    is : moved_part n t constants c j *ℤ c.common ≡ moved (length t.lines) (numbers_of t) (choices_of t) constants j
    is = (moved_parts n frame t constants j c s (λ e. apart (sym e))).is

pub bottom_above : (n : ℕ) (t : Tableau) (constants : ℕ) (c : HasSmallColumn n t constants) → pos 0 <ℤ whole_over t → pos 0 <ℤ c.bottom
bottom_above n t constants c h = positive_left c.bottom c.common (whole_over t) c.above c.bottom_is h
  where
    positive_left : (z k w : ℤ) → pos 0 <ℤ k → z *ℤ k ≡ w → pos 0 <ℤ w → pos 0 <ℤ z
    positive_left (pos zero) k w h e v = absurd (nothing k e)
      where
        nothing : (k : ℤ) → pos 0 *ℤ k ≡ w → ⊥
        nothing k e = omega (arith, ints, e, v)
    positive_left (pos (suc n)) k w h e v = omega (arith, ints)
    positive_left (negsuc n) k w h e v = absurd (let u : (negsuc n *ℤ k) ≤ℤ pos 0 = negative k h in omega (arith, ints, e, u, v))
      where
        negative : (k : ℤ) → pos 0 <ℤ k → (negsuc n *ℤ k) ≤ℤ pos 0
        negative (pos k) h = omega (arith, ints)
        negative (negsuc k) h = absurd (omega (arith, ints, h))

-- ---- the question of rows

pub fits_twice : 1099511627776 * 1099511627776 + 1099511627776 * 1099511627776 < 2 ^ 127
fits_twice = omega arith

calm_yes : (rows : List Row) (t : Tableau) (line : ℕ) (by : List ℤ) (w : Step.Wide) → IsCalmCase (columns rows []) rows [] → IsRefuted (frame_of_rows (columns rows []) rows) (length (columns rows [])) (kinds_of rows) t line → IsMultipliers (length (columns rows [])) t line by → tested_yes rows by ≡ Err w → ⊥
calm_yes rows t line by w case r m e =
    let few : length rows * (1099511627776 * 1099511627776) ≤ 4294967295 * (1099511627776 * 1099511627776) = mul-le-mul_right (1099511627776 * 1099511627776) case.few_rows in
    yes-fits 1099511627776 rows by w (own_small 1099511627776 (columns rows []) rows small) (multipliers_small 1099511627776 (length (columns rows [])) t line by (small t (sym r.sized.many ∙ kinds-length rows) r.sized.tableau r.sized.primitive) m) (omega (arith, few)) e
  where
    small : IsSmallFrame 1099511627776 (frame_of_rows (columns rows []) rows) (length rows)
    small = small_frame 1099511627776 (columns rows []) rows case.calm

calm_no : (rows : List Row) (t : Tableau) (enters : List Bool) (point : List Fraction) (w : Step.Wide) → AreCanonical rows → IsCalmCase (columns rows []) rows [] → IsMet (frame_of_rows (columns rows []) rows) (length (columns rows [])) (kinds_of rows) enters t → IsCornerOf t (length (columns rows [])) (length (columns rows [])) point → tested_no rows point ≡ Err w → ⊥
calm_no rows t enters point w canonical case k c e = second_part (length point == length (columns rows [])) (meets (ratio_value (ratio_at (columns rows []) point)) rows) w (meets-fit (ratio_value (ratio_at (columns rows []) point)) rows w (each_row (λ (row : Row). HasValue (ratio_value (ratio_at (columns rows []) point) row.poly)) rows row_fits)) e
  where
    many : length t.lines ≡ length rows
    many = sym k.placed.marked.sized.many ∙ kinds-length rows

    s : IsTableauOf (length (columns rows []) + 1) (numbers_of (framed_tableau (columns rows []) rows)) t
    s = k.placed.marked.sized.tableau

    small : IsSmallFrame 1099511627776 (frame_of_rows (columns rows []) rows) (length rows)
    small = small_frame 1099511627776 (columns rows []) rows case.calm

    column : HasSmallColumn 1099511627776 t (length (columns rows []))
    column = small_column 1099511627776 (columns rows []) rows t (length (columns rows [])) case.calm many s (omega arith)

    above : pos 0 <ℤ column.bottom
    above = bottom_above 1099511627776 t (length (columns rows [])) column (over-positive (length t.lines) (λ i. numbers_of t i (choices_of t i)) (λ i h. s.is.own i h))

    x : ℕ → ℤ
    x = moved_part 1099511627776 t (length (columns rows [])) column

    apart : (j : ℕ) → j < length (columns rows []) → j ≢ length (columns rows [])
    apart j h same = absurd (omega (arith, h, same))

    each : EachRatio (ratio_at (columns rows []) point) (numbered (columns rows []) x) column.bottom
    each m = ratio_each (columns rows []) point x column.bottom m c.each (λ j h. corner_ratio 1099511627776 (frame_of_rows (columns rows []) rows) t (length (columns rows [])) j (get_or point j (whole (pos 0))) column s (apart j h) (c.same j h))

    sizes : (m : List Col) → unsigned_abs (numbered (columns rows []) x m) ≤ 1099511627776
    sizes m = numbered_small 1099511627776 (columns rows []) x m (λ j h. (moved_parts 1099511627776 (frame_of_rows (columns rows []) rows) t (length (columns rows [])) j column s (λ same. apart j h (sym same))).small)

    room : length (columns rows []) * (1099511627776 * 1099511627776) + 1099511627776 * 1099511627776 < 2 ^ 127
    room = let few : length (columns rows []) * (1099511627776 * 1099511627776) ≤ 4294967295 * (1099511627776 * 1099511627776) = mul-le-mul_right (1099511627776 * 1099511627776) case.few_columns in omega (arith, few)

    row_fits : (l : ℕ) (row : Row) → slice_get rows l ≡ Some row → HasValue (ratio_value (ratio_at (columns rows []) point) row.poly)
    row_fits l row here = value_of (value-fits 1099511627776 (columns rows []) (ratio_at (columns rows []) point) (numbered (columns rows []) x) column.bottom row.poly above column.bottom_small each sizes
        (small_poly 1099511627776 (columns rows []) rows l row (IsOrdered-columns (monos_of rows [])) (own_small 1099511627776 (columns rows []) rows small) here (all_at (λ (r : Row). IsCanonical r.poly.terms) rows l row (recursion_from_All (λ (r : Row). IsCanonical r.poly.terms) rows canonical) here) (all_at (λ (r : Row). AreAmong (keys_of r.poly.terms) (columns rows [])) rows l row (rows_among rows []) here))
        room (omega arith))
      where
        value_of : ((r : Fraction) × ((ratio_value (ratio_at (columns rows []) point) row.poly ≡ Ok r) × IsRatio r (terms_at (numbered (columns rows []) x) row.poly.terms +ℤ row.poly.rest *ℤ column.bottom) column.bottom)) → HasValue (ratio_value (ratio_at (columns rows []) point) row.poly)
        value_of v = (v.0, v.1.0)

pub calm_found : (rows : List Row) (budget : ℕ) (a : Answer) (w : Step.Wide) → AreCanonical rows → IsCalmCase (columns rows []) rows [] → IsFoundFor budget rows a → outcome (Infeasible rows) a ≡ Err w → ⊥
calm_found rows budget (answer.Yes by) w k case h e = calm_yes rows h.0 h.1.0 by w case h.1.1.0 h.1.1.1 e
calm_found rows budget (answer.No point) w k case h e = calm_no rows h.0 h.1.0 point w k case h.1.1.0 h.1.1.1 e
calm_found rows budget (answer.Bound at certs case_at point) w k case h e = h
calm_found rows budget (answer.Unbounded case_at point ray) w k case h e = h
calm_found rows budget (answer.Basis relations spots free) w k case h e = h
calm_found rows budget (answer.Limit l) w k case h e = cc

-- choices of a line more are no fewer
pub more_choices : (columns rows : ℕ) → choose (columns + 1 + rows) rows ≤ choice_count columns (rows + 1)
more_choices columns rows =
    subst (λ (m : ℕ). choose (columns + 1 + rows) rows ≤ choose (columns + 1 + m) m) (let e : suc rows ≡ rows + 1 = omega arith in e)
    (subst (λ (n : ℕ). choose (columns + 1 + rows) rows ≤ choose n (suc rows)) (let e : suc (columns + 1 + rows) ≡ columns + 1 + suc rows = omega arith in e) (pascal (columns + 1 + rows) rows))
  where
    pascal : (n k : ℕ) → choose n k ≤ choose (suc n) (suc k)
    pascal n k = omega arith
