-- The tableau of a list of rows: it chooses the unit columns.
use Rattle.std.proofs.Common.{◌≡◌, ℕ, zero, suc, ◌+◌, ◌<◌, ◌≤◌, Bool, true, false, cond, List, [], ◌∷◌, ◌++◌, length, get_or, refl, sym, ap, subst, ◌∙◌, arith, ⊎_elim, ℤ, pos, ◌*ℤ◌, ◌<ℤ◌}
use Rattle.std.specs.Prelude.{nat_eq}
use Rattle.std.proofs.lemmas.Int.{ints}
use Rattle.std.proofs.lemmas.Bool.{cases_eq, eq-eqb, ne_eqb}
use Rattle.std.proofs.lemmas.List.{length-map}
use Rattle.std.proofs.Math.IntN.{zero-*ℤ}
use Rattle.whole_numbers.proofs.Ring.{one-*ℤ}
use Rattle.linear_terms.specs.declared.col.Col.{Col}
use Rattle.linear_terms.specs.declared.row.Kind.{Kind}
use Rattle.linear_terms.specs.declared.row.Row.{Row}
use Rattle.linear_terms.specs.Polynomial.{coefficient_in}
use Rattle.simplex.specs.declared.tableau.Tableau.{Tableau}
use Rattle.simplex.specs.Exchange.{numbers_of, choices_of, IsTableauOf, ArePrimitive}
use Rattle.farkas_check.specs.Relations.{entry}
use Rattle.simplex.specs.Frames.{IsWholeTableau}
use Rattle.simplex.specs.Rows.{kinds_of, coefficients, units_to, whole_line, lines_from, units_from, framed_tableau, frame_of_rows}
use Rattle.simplex.specs.Search.{IsSolving}
use Rattle.simplex.proofs.Divisors.{one-primitive}
use Rattle.simplex.proofs.Corners.{none, single}

-- ---- lists by places

pub at_front : {X : Type 0} (xs ys : List X) (d : X) (k : ℕ) → k < length xs → get_or (xs ++ ys) k d ≡ get_or xs k d
at_front [] ys d k h = absurd (omega arith)
at_front (x ∷ xs) ys d zero h = refl
at_front (x ∷ xs) ys d (suc k) h = at_front xs ys d k (omega arith)

pub after_front : {X : Type 0} (xs ys : List X) (d : X) (k : ℕ) → get_or (xs ++ ys) (length xs + k) d ≡ get_or ys k d
after_front [] ys d k = let e : 0 + k ≡ k = omega arith in ap (λ (n : ℕ). get_or ys n d) e
after_front (x ∷ xs) ys d k = let e : length (x ∷ xs) + k ≡ suc (length xs + k) = omega arith in ap (λ (n : ℕ). get_or (x ∷ xs ++ ys) n d) e ∙ after_front xs ys d k

pub long : {X : Type 0} (xs ys : List X) → length (xs ++ ys) ≡ length xs + length ys
long [] ys = omega arith
long (x ∷ xs) ys = let e : length (xs ++ ys) ≡ length xs + length ys = long xs ys in omega (arith, e)

-- ---- unit columns

pub units_to-length : (n place : ℕ) → length (units_to n place) ≡ n
units_to-length zero place = refl
units_to-length (suc n) place = long (units_to n place) ((cond (nat_eq n place) (pos 1) (pos 0)) ∷ []) ∙ (let e : length (units_to n place) ≡ n = units_to-length n place in omega (arith, e))

pub units_to-at : (n place k : ℕ) → k < n → get_or (units_to n place) k (pos 0) ≡ cond (nat_eq k place) (pos 1) (pos 0)
units_to-at zero place k h = absurd (omega arith)
units_to-at (suc n) place k h = ⊎_elim (λ (same : k ≡ n). last same) (λ other. at_front (units_to n place) ((cond (nat_eq n place) (pos 1) (pos 0)) ∷ []) (pos 0) k (let e : length (units_to n place) ≡ n = units_to-length n place in omega (arith, e, h, other)) ∙ units_to-at n place k (omega (arith, h, other))) (cases_eq k n)
  where
    last : k ≡ n → get_or (units_to n place ++ (cond (nat_eq n place) (pos 1) (pos 0)) ∷ []) k (pos 0) ≡ cond (nat_eq k place) (pos 1) (pos 0)
    last same =
        let e : length (units_to n place) ≡ n = units_to-length n place in
        let f : k ≡ length (units_to n place) + 0 = omega (arith, e, same) in
        ap (λ (m : ℕ). get_or (units_to n place ++ (cond (nat_eq n place) (pos 1) (pos 0)) ∷ []) m (pos 0)) f
        ∙ after_front (units_to n place) ((cond (nat_eq n place) (pos 1) (pos 0)) ∷ []) (pos 0) 0
        ∙ ap (λ (m : ℕ). cond (nat_eq m place) (pos 1) (pos 0)) (sym same)

pub units_from-length : (first n : ℕ) → length (units_from first n) ≡ n
units_from-length first zero = refl
units_from-length first (suc n) = long (units_from first n) ((first + n) ∷ []) ∙ (let e : length (units_from first n) ≡ n = units_from-length first n in omega (arith, e))

pub units_from-at : (first n k : ℕ) → k < n → get_or (units_from first n) k 0 ≡ first + k
units_from-at first zero k h = absurd (omega arith)
units_from-at first (suc n) k h = ⊎_elim (λ (same : k ≡ n). last same) (λ other. at_front (units_from first n) ((first + n) ∷ []) 0 k (let e : length (units_from first n) ≡ n = units_from-length first n in omega (arith, e, h, other)) ∙ units_from-at first n k (omega (arith, h, other))) (cases_eq k n)
  where
    last : k ≡ n → get_or (units_from first n ++ (first + n) ∷ []) k 0 ≡ first + k
    last same =
        let e : length (units_from first n) ≡ n = units_from-length first n in
        let f : k ≡ length (units_from first n) + 0 = omega (arith, e, same) in
        ap (λ (m : ℕ). get_or (units_from first n ++ (first + n) ∷ []) m 0) f
        ∙ after_front (units_from first n) ((first + n) ∷ []) 0 0 ∙ ap (λ (m : ℕ). first + m) (sym same)

-- ---- a line

coefficients-length : (row : Row) (cs : List (List Col)) → length (coefficients row cs) ≡ length cs
coefficients-length row cs = length-map cs (λ (c : List Col). coefficient_in row.poly.terms c)

coefficients-at : (row : Row) (cs : List (List Col)) (j : ℕ) → j < length cs → get_or (coefficients row cs) j (pos 0) ≡ coefficient_in row.poly.terms (get_or cs j [])
coefficients-at row [] j h = absurd (omega arith)
coefficients-at row (c ∷ cs) zero h = refl
coefficients-at row (c ∷ cs) (suc j) h = coefficients-at row cs j (omega arith)

front : List (List Col) → Row → List ℤ
front cs row = coefficients row cs ++ row.poly.rest ∷ []

pub front-length : (cs : List (List Col)) (row : Row) → length (coefficients row cs ++ row.poly.rest ∷ []) ≡ length cs + 1
front-length cs row = long (coefficients row cs) (row.poly.rest ∷ []) ∙ (let e : length (coefficients row cs) ≡ length cs = coefficients-length row cs in omega (arith, e))

pub whole_line-length : (cs : List (List Col)) (count place : ℕ) (row : Row) → length (whole_line cs count place row) ≡ length cs + 1 + count
whole_line-length cs count place row =
    long (coefficients row cs ++ row.poly.rest ∷ []) (units_to count place)
    ∙ (let e : length (coefficients row cs ++ row.poly.rest ∷ []) ≡ length cs + 1 = front-length cs row in let f : length (units_to count place) ≡ count = units_to-length count place in omega (arith, e, f))

pub whole_line-column : (cs : List (List Col)) (count place : ℕ) (row : Row) (j : ℕ) → j < length cs → entry (whole_line cs count place row) j ≡ coefficient_in row.poly.terms (get_or cs j [])
whole_line-column cs count place row j h =
    at_front (coefficients row cs ++ row.poly.rest ∷ []) (units_to count place) (pos 0) j (let e : length (coefficients row cs ++ row.poly.rest ∷ []) ≡ length cs + 1 = front-length cs row in omega (arith, e, h))
    ∙ at_front (coefficients row cs) (row.poly.rest ∷ []) (pos 0) j (let e : length (coefficients row cs) ≡ length cs = coefficients-length row cs in omega (arith, e, h))
    ∙ coefficients-at row cs j h

pub whole_line-constant : (cs : List (List Col)) (count place : ℕ) (row : Row) → entry (whole_line cs count place row) (length cs) ≡ row.poly.rest
whole_line-constant cs count place row =
    at_front (coefficients row cs ++ row.poly.rest ∷ []) (units_to count place) (pos 0) (length cs) (let e : length (coefficients row cs ++ row.poly.rest ∷ []) ≡ length cs + 1 = front-length cs row in omega (arith, e))
    ∙ ap (λ (n : ℕ). get_or (coefficients row cs ++ row.poly.rest ∷ []) n (pos 0)) (let e : length (coefficients row cs) ≡ length cs = coefficients-length row cs in let f : length cs ≡ length (coefficients row cs) + 0 = omega (arith, e) in f)
    ∙ after_front (coefficients row cs) (row.poly.rest ∷ []) (pos 0) 0

pub whole_line-unit : (cs : List (List Col)) (count place : ℕ) (row : Row) (k : ℕ) → k < count → entry (whole_line cs count place row) (length cs + 1 + k) ≡ cond (nat_eq k place) (pos 1) (pos 0)
whole_line-unit cs count place row k h =
    ap (λ (n : ℕ). get_or ((coefficients row cs ++ row.poly.rest ∷ []) ++ units_to count place) n (pos 0)) (let e : length (coefficients row cs ++ row.poly.rest ∷ []) ≡ length cs + 1 = front-length cs row in let f : length cs + 1 + k ≡ length (coefficients row cs ++ row.poly.rest ∷ []) + k = omega (arith, e) in f)
    ∙ after_front (coefficients row cs ++ row.poly.rest ∷ []) (units_to count place) (pos 0) k ∙ units_to-at count place k h

-- ---- all lines

pub lines_from-length : (cs : List (List Col)) (count place : ℕ) (rows : List Row) → length (lines_from cs count place rows) ≡ length rows
lines_from-length cs count place [] = refl
lines_from-length cs count place (row ∷ rows) = let e : length (lines_from cs count (place + 1) rows) ≡ length rows = lines_from-length cs count (place + 1) rows in omega (arith, e)

-- what holds of each line of a row holds of the line at a place
pub at_line : (P : List ℤ → Type 0) (cs : List (List Col)) (count place : ℕ) (rows : List Row) (l : ℕ) → l < length rows → ((row : Row) → P (whole_line cs count (place + l) row)) → P (get_or (lines_from cs count place rows) l [])
at_line P cs count place [] l h f = absurd (omega arith)
at_line P cs count place (row ∷ rows) zero h f = let e : place + 0 ≡ place = omega arith in subst (λ (n : ℕ). P (whole_line cs count n row)) e (f row)
at_line P cs count place (row ∷ rows) (suc l) h f = at_line P cs count (place + 1) rows l (omega arith) (λ other. let e : place + suc l ≡ place + 1 + l = omega arith in subst (λ (n : ℕ). P (whole_line cs count n other)) e (f other))

-- ---- the tableau

pub numbers-unit : (cs : List (List Col)) (rows : List Row) (i k : ℕ) → i < length rows → k < length rows → numbers_of (framed_tableau cs rows) i (length cs + 1 + k) ≡ cond (nat_eq k i) (pos 1) (pos 0)
numbers-unit cs rows i k h g = at_line (λ line. entry line (length cs + 1 + k) ≡ cond (nat_eq k i) (pos 1) (pos 0)) cs (length rows) 0 rows i h (λ row. whole_line-unit cs (length rows) (0 + i) row k g ∙ (let e : 0 + i ≡ i = omega arith in ap (λ (n : ℕ). cond (nat_eq k n) (pos 1) (pos 0)) e))

pub framed-is : (cs : List (List Col)) (rows : List Row) → IsTableauOf (length cs + 1) (numbers_of (framed_tableau cs rows)) (framed_tableau cs rows)
framed-is cs rows = record {
  shape = record { wide = λ i h. at_line (λ line. length line ≡ length cs + 1 + length (lines_from cs (length rows) 0 rows)) cs (length rows) 0 rows i (in_rows i h) (λ row. whole_line-length cs (length rows) (0 + i) row ∙ ap (λ (n : ℕ). length cs + 1 + n) (sym many)); choices = units_from-length (length cs + 1) (length rows) ∙ sym many };
  is = subst (λ (n : ℕ). IsWholeTableau n (length cs + 1) (length cs + 1 + n) (numbers_of (framed_tableau cs rows)) (numbers_of (framed_tableau cs rows)) (choices_of (framed_tableau cs rows))) (sym many) is;
  within = λ i h. subst (λ (n : ℕ). choices_of (framed_tableau cs rows) i < length cs + 1 + n) (sym many) (let e : choices_of (framed_tableau cs rows) i ≡ length cs + 1 + i = units_from-at (length cs + 1) (length rows) i (in_rows i h) in let g : i < length rows = in_rows i h in omega (arith, e, g));
}
  where
    many : length (lines_from cs (length rows) 0 rows) ≡ length rows
    many = lines_from-length cs (length rows) 0 rows

    in_rows : (i : ℕ) → i < length (lines_from cs (length rows) 0 rows) → i < length rows
    in_rows i h = subst (λ (n : ℕ). i < n) (lines_from-length cs (length rows) 0 rows) h

    at_choice : (i k : ℕ) → i < length rows → k < length rows → numbers_of (framed_tableau cs rows) i (choices_of (framed_tableau cs rows) k) ≡ cond (nat_eq k i) (pos 1) (pos 0)
    at_choice i k h g = ap (numbers_of (framed_tableau cs rows) i) (units_from-at (length cs + 1) (length rows) k g) ∙ numbers-unit cs rows i k h g

    times_unit : (a : ℤ) (b : Bool) → b ≡ false → cond b (pos 1) (pos 0) *ℤ a ≡ pos 0
    times_unit a true e = cc
    times_unit a false e = zero-*ℤ a

    is : IsWholeTableau (length rows) (length cs + 1) (length cs + 1 + length rows) (numbers_of (framed_tableau cs rows)) (numbers_of (framed_tableau cs rows)) (choices_of (framed_tableau cs rows))
    is = record {
      own = λ i h. subst (λ (z : ℤ). pos 0 <ℤ z) (sym (at_choice i i h h ∙ ap (λ (b : Bool). cond b (pos 1) (pos 0)) (eq-eqb i i refl))) (omega (arith, ints));
      others = λ i k h g other. at_choice i k h g ∙ ap (λ (b : Bool). cond b (pos 1) (pos 0)) (ne_eqb k i (λ e. other (sym e)));
      combination = λ i h j m. sym (
          single (length rows) (λ l. numbers_of (framed_tableau cs rows) i (length cs + 1 + l) *ℤ numbers_of (framed_tableau cs rows) l j) i h
          (λ l g other. ap (λ z. z *ℤ numbers_of (framed_tableau cs rows) l j) (numbers-unit cs rows i l h g) ∙ times_unit (numbers_of (framed_tableau cs rows) l j) (nat_eq l i) (ne_eqb l i other))
          ∙ ap (λ z. z *ℤ numbers_of (framed_tableau cs rows) i j) (numbers-unit cs rows i i h h ∙ ap (λ (b : Bool). cond b (pos 1) (pos 0)) (eq-eqb i i refl)) ∙ one-*ℤ (numbers_of (framed_tableau cs rows) i j));
      determined = λ w c zero_at j m. c j m ∙ none (length rows) (λ l. w (length cs + 1 + l) *ℤ numbers_of (framed_tableau cs rows) l j)
          (λ l g. ap (λ z. z *ℤ numbers_of (framed_tableau cs rows) l j) (ap w (sym (units_from-at (length cs + 1) (length rows) l g)) ∙ zero_at l g) ∙ zero-*ℤ (numbers_of (framed_tableau cs rows) l j));
      solutions = λ x e. e;
    }

pub kinds-length : (rows : List Row) → length (kinds_of rows) ≡ length rows
kinds-length rows = length-map rows (λ (row : Row). row.kind)

pub framed-primitive : (cs : List (List Col)) (rows : List Row) → ArePrimitive (framed_tableau cs rows)
framed-primitive cs rows i h = one-primitive (get_or (lines_from cs (length rows) 0 rows) i []) (length cs + 1 + i) (numbers-unit cs rows i i inside inside ∙ ap (λ (b : Bool). cond b (pos 1) (pos 0)) (eq-eqb i i refl))
  where
    inside : i < length rows
    inside = subst (λ (n : ℕ). i < n) (lines_from-length cs (length rows) 0 rows) h

pub solving : (cs : List (List Col)) (rows : List Row) → IsSolving (frame_of_rows cs rows) (length cs) (kinds_of rows) 0 (framed_tableau cs rows)
solving cs rows = record {
  sized = record { tableau = framed-is cs rows; units = refl; many = kinds-length rows ∙ sym (lines_from-length cs (length rows) 0 rows); apart = λ i h same. let e : choices_of (framed_tableau cs rows) i ≡ length cs + 1 + i = units_from-at (length cs + 1) (length rows) i (subst (λ (n : ℕ). i < n) (lines_from-length cs (length rows) 0 rows) h) in absurd (omega (arith, e, same)); primitive = framed-primitive cs rows; inside = subst (λ (n : ℕ). length rows ≤ n) (sym (lines_from-length cs (length rows) 0 rows)) (omega arith); goals = λ l h k. let g : l < length rows = subst (λ (n : ℕ). l < n) (lines_from-length cs (length rows) 0 rows) k in absurd (omega (arith, h, g)) };
  own = λ l h k. units_from-at (length cs + 1) (length rows) l (subst (λ (n : ℕ). l < n) (lines_from-length cs (length rows) 0 rows) h);
  done = λ l h. absurd (omega (arith, h));
}

pub solving-at : (cs : List (List Col)) (rows : List Row) (constants count : ℕ) (kinds : List Kind) (t : Tableau) → constants ≡ length cs → count ≡ length rows → t ≡ framed_tableau cs rows → kinds ≡ kinds_of rows → IsSolving (record { units = constants + 1; rows = count; frame = numbers_of t }) constants kinds 0 t
solving-at cs rows constants count kinds t e d f g =
    subst (λ (n : ℕ). IsSolving (record { units = n + 1; rows = count; frame = numbers_of t }) n kinds 0 t) (sym e)
    (subst (λ (n : ℕ). IsSolving (record { units = length cs + 1; rows = n; frame = numbers_of t }) (length cs) kinds 0 t) (sym d)
    (subst (λ (u : Tableau). IsSolving (record { units = length cs + 1; rows = length rows; frame = numbers_of u }) (length cs) kinds 0 u) (sym f)
    (subst (λ (ks : List Kind). IsSolving (record { units = length cs + 1; rows = length rows; frame = numbers_of (framed_tableau cs rows) }) (length cs) ks 0 (framed_tableau cs rows)) (sym g) (solving cs rows))))
