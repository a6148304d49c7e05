-- A line that refutes the rows: no part of the test of its multipliers is false.
use Rattle.std.proofs.Common.{◌≡◌, ℕ, zero, suc, ◌+◌, ◌<◌, Bool, true, false, List, [], ◌∷◌, length, map, get_or, Ok, refl, sym, ap, subst, ◌∙◌, arith, ⊎_elim, ℤ, pos, ◌+ℤ◌, ◌*ℤ◌, ◌≤ℤ◌, ◌<ℤ◌}
use Rattle.std.specs.Prelude.{◌&&◌, ◌==◌, int_le, int_lt}
use Rattle.std.specs.List.{list_all, zip}
use Rattle.std.proofs.lemmas.Int.{ints}
use Rattle.std.proofs.lemmas.Bool.{eq-eqb}
use Rattle.std.proofs.lemmas.Bool.Decides.{Decides-int_eq}
use Rattle.std.proofs.Math.IntN.{*ℤ_comm, zero-*ℤ}
use Rattle.items.specs.Gives.{◌>>=◌}
use Rattle.items.proofs.Gives.{on_ok}
use Rattle.whole_numbers.proofs.Ring.{≤ℤ-*ℤ}
use Rattle.linear_terms.specs.declared.col.Col.{Col}
use Rattle.linear_terms.specs.declared.row.Kind.{Kind}
use Rattle.linear_terms.specs.declared.row.Kind.TheVariants.{AtMost, Equal}
use Rattle.linear_terms.specs.declared.row.Row.{Row}
use Rattle.farkas_check.specs.Columns.{columns}
use Rattle.farkas_check.specs.Multiples.{number_at as coefficient_at, constant_in, is_multiplier, are_multipliers, sum_of_multiples, is_zero, is_positive_constant}
use Rattle.farkas_check.specs.Parts.{and_then}
use Rattle.farkas_check.specs.Tested.{tested_yes}
use Rattle.farkas_check.proofs.Farkas.{bool_ok, total, sums, form_of, on_sum}
use Rattle.simplex.specs.declared.tableau.Tableau.{Tableau}
use Rattle.simplex.specs.Answers.{IsMultipliers}
use Rattle.simplex.specs.Exchange.{numbers_of}
use Rattle.farkas_check.specs.Relations.{entry}
use Rattle.farkas_check.specs.Frames.{sum_below}
use Rattle.simplex.specs.Rows.{kinds_of, kind_at, whole_line, lines_from, framed_tableau, frame_of_rows}
use Rattle.simplex.specs.Search.{IsRefuted}
use Rattle.simplex.proofs.Exchanges.{times_zero, factor_positive}
use Rattle.simplex.proofs.RowTableaux.{whole_line-column, whole_line-constant, kinds-length}
use Rattle.simplex.proofs.Sums.{sum_below-same, weighted_multiple}

-- ---- tests of numbers

pub le_true : (a b : ℤ) → a ≤ℤ b → int_le a b ≡ true
le_true a b h = go (int_le a b) refl
  where
    go : (t : Bool) → int_le a b ≡ t → int_le a b ≡ true
    go true e = e
    go false e = absurd (omega (arith, ints, e, h))

pub lt_true : (a b : ℤ) → a <ℤ b → int_lt a b ≡ true
lt_true a b h = go (int_lt a b) refl
  where
    go : (t : Bool) → int_lt a b ≡ t → int_lt a b ≡ true
    go true e = e
    go false e = absurd (omega (arith, ints, e, h))

-- ---- rows by places

-- a number of each row
abbrev pub each_of : (Row → ℤ) → List Row → ℕ → ℤ
each_of number rows l = get_or (map number rows) l (pos 0)

lines_from-number : (cs : List (List Col)) (count place : ℕ) (rows : List Row) (number : Row → ℤ) (j : ℕ) → ((p : ℕ) (row : Row) → entry (whole_line cs count p row) j ≡ number row) → (l : ℕ) → entry (get_or (lines_from cs count place rows) l []) j ≡ each_of number rows l
lines_from-number cs count place [] number j f l = refl
lines_from-number cs count place (row ∷ rows) number j f zero = f place row
lines_from-number cs count place (row ∷ rows) number j f (suc l) = lines_from-number cs count (place + 1) rows number j f l

pub framed-column : (cs : List (List Col)) (rows : List Row) (j l : ℕ) → j < length cs → numbers_of (framed_tableau cs rows) l j ≡ each_of (coefficient_at (get_or cs j [])) rows l
framed-column cs rows j l h = lines_from-number cs (length rows) 0 rows (coefficient_at (get_or cs j [])) j (λ p row. whole_line-column cs (length rows) p row j h) l

pub framed-constant : (cs : List (List Col)) (rows : List Row) (l : ℕ) → numbers_of (framed_tableau cs rows) l (length cs) ≡ each_of constant_in rows l
framed-constant cs rows l = lines_from-number cs (length rows) 0 rows constant_in (length cs) (λ p row. whole_line-constant cs (length rows) p row) l

-- a sum from its first part on
pub sum_below-first : (n : ℕ) (f : ℕ → ℤ) → sum_below (suc n) f ≡ f 0 +ℤ sum_below n (λ l. f (suc l))
sum_below-first zero f = swap (f 0)
  where
    swap : (z : ℤ) → pos 0 +ℤ z ≡ z +ℤ pos 0
    swap z = omega (arith, ints)
sum_below-first (suc n) f = ap (λ z. z +ℤ f (suc n)) (sum_below-first n f) ∙ group (f 0) (sum_below n (λ l. f (suc l))) (f (suc n))
  where
    group : (a b c : ℤ) → a +ℤ b +ℤ c ≡ a +ℤ (b +ℤ c)
    group a b c = omega (arith, ints)

pub total-is : (number : Row → ℤ) (rows : List Row) (by : List ℤ) → length by ≡ length rows → total number rows by ≡ sum_below (length rows) (λ l. get_or by l (pos 0) *ℤ each_of number rows l)
total-is number [] by h = refl
total-is number (row ∷ rows) [] h = absurd (omega (arith, h))
total-is number (row ∷ rows) (m ∷ by) h =
    ap (λ z. number row *ℤ m +ℤ z) (total-is number rows by (omega (arith, h))) ∙ ap (λ z. z +ℤ sum_below (length rows) (λ l. get_or by l (pos 0) *ℤ each_of number rows l)) (*ℤ_comm (number row) m)
    ∙ sym (sum_below-first (length rows) (λ l. get_or (m ∷ by) l (pos 0) *ℤ each_of number (row ∷ rows) l))

-- ---- signs

pub all_multipliers : (rows : List Row) (by : List ℤ) → ((l : ℕ) → l < length rows → kind_at (kinds_of rows) l ≡ AtMost → pos 0 ≤ℤ get_or by l (pos 0)) → list_all (λ (p : Row × ℤ). is_multiplier p.0.kind p.1) (zip rows by) ≡ true
all_multipliers [] by h = refl
all_multipliers (row ∷ rows) [] h = refl
all_multipliers (row ∷ rows) (m ∷ by) h = both (is_multiplier row.kind m) (one row.kind (λ e. h 0 (omega arith) e)) (all_multipliers rows by (λ l g e. h (suc l) (omega arith) e))
  where
    one : (k : Kind) → (k ≡ AtMost → pos 0 ≤ℤ m) → is_multiplier k m ≡ true
    one AtMost f = le_true (pos 0) m (f refl)
    one Equal f = refl

    both : (b : Bool) → b ≡ true → list_all (λ (p : Row × ℤ). is_multiplier p.0.kind p.1) (zip rows by) ≡ true → b && list_all (λ (p : Row × ℤ). is_multiplier p.0.kind p.1) (zip rows by) ≡ true
    both b e f = rw (e, f) refl

all_zeros : (f : List Col → ℤ) (cs : List (List Col)) → ((j : ℕ) → j < length cs → f (get_or cs j []) ≡ pos 0) → list_all is_zero (map f cs) ≡ true
all_zeros f [] h = refl
all_zeros f (c ∷ cs) h = both (is_zero (f c)) ((Decides-int_eq (f c) (pos 0)).1 (h 0 (omega arith))) (all_zeros f cs (λ j g. h (suc j) (omega arith)))
  where
    both : (b : Bool) → b ≡ true → list_all is_zero (map f cs) ≡ true → b && list_all is_zero (map f cs) ≡ true
    both b e f = rw (e, f) refl

-- ---- the test

pub yes-honest : (rows : List Row) (t : Tableau) (line : ℕ) (by : List ℤ) (b : Bool) → IsRefuted (frame_of_rows (columns rows []) rows) (length (columns rows [])) (kinds_of rows) t line → IsMultipliers (length (columns rows [])) t line by → tested_yes rows by ≡ Ok b → b ≡ true
yes-honest rows t line by b r m e = after_multipliers (are_multipliers rows by) multipliers e
  where
    many : length t.lines ≡ length rows
    many = sym r.sized.many ∙ kinds-length rows

    lines_by : length by ≡ length rows
    lines_by = m.each ∙ many

    in_t : (l : ℕ) → l < length rows → l < length t.lines
    in_t l h = subst (λ (n : ℕ). l < n) (sym many) h

    -- the sum at a column of the frame is the line's number there, with the sign
    sum_at : (number : Row → ℤ) (j : ℕ) → j < length (columns rows []) + 1 + length t.lines → ((l : ℕ) → numbers_of (framed_tableau (columns rows []) rows) l j ≡ each_of number rows l) → total number rows by ≡ m.sign *ℤ numbers_of t line j
    sum_at number j h f =
        total-is number rows by lines_by
        ∙ ap (λ n. sum_below n (λ l. get_or by l (pos 0) *ℤ each_of number rows l)) (sym many)
        ∙ sum_below-same (length t.lines) (λ l. get_or by l (pos 0) *ℤ each_of number rows l) (λ l. get_or by l (pos 0) *ℤ numbers_of (framed_tableau (columns rows []) rows) l j) (λ l g. ap (λ z. get_or by l (pos 0) *ℤ z) (sym (f l)))
        ∙ weighted_multiple (length t.lines) (λ l. numbers_of t line (length (columns rows []) + 1 + l)) (λ l. get_or by l (pos 0)) (λ l. numbers_of (framed_tableau (columns rows []) rows) l j) m.sign (λ l g. m.upright l g)
        ∙ ap (λ z. m.sign *ℤ z) (sym (r.sized.tableau.is.combination line r.here j h))

    signs : (l : ℕ) → l < length rows → kind_at (kinds_of rows) l ≡ AtMost → pos 0 ≤ℤ get_or by l (pos 0)
    signs l h k = subst (λ (z : ℤ). pos 0 ≤ℤ z) (sym (m.upright l (in_t l h))) (⊎_elim (λ zero_at. nothing (zero_at l (in_t l h) k)) (λ above. not_below (numbers_of t line (length (columns rows []) + 1 + l)) above.0 (above.1 l (in_t l h) k)) r.signs)
      where
        at_zero : (z : ℤ) → z ≡ pos 0 → pos 0 ≤ℤ z
        at_zero z e = omega (arith, ints)

        nothing : numbers_of t line (length (columns rows []) + 1 + l) ≡ pos 0 → pos 0 ≤ℤ (m.sign *ℤ numbers_of t line (length (columns rows []) + 1 + l))
        nothing e = at_zero (m.sign *ℤ numbers_of t line (length (columns rows []) + 1 + l)) (ap (λ z. m.sign *ℤ z) e ∙ times_zero m.sign)

        not_below : (z : ℤ) → pos 0 <ℤ numbers_of t line (length (columns rows [])) → pos 0 ≤ℤ z → pos 0 ≤ℤ (m.sign *ℤ z)
        not_below z p q =
            let s : pos 0 <ℤ m.sign = factor_positive (numbers_of t line (length (columns rows []))) m.sign p (subst (λ (x : ℤ). pos 0 <ℤ x) (*ℤ_comm m.sign (numbers_of t line (length (columns rows [])))) m.positive) in
            chain (pos 0 *ℤ m.sign) (z *ℤ m.sign) (m.sign *ℤ z) (zero-*ℤ m.sign) (*ℤ_comm z m.sign) (≤ℤ-*ℤ (pos 0) z m.sign (omega (arith, ints, s)) q)
          where
            chain : (x y v : ℤ) → x ≡ pos 0 → y ≡ v → x ≤ℤ y → pos 0 ≤ℤ v
            chain x y v e f g = omega (arith, ints)

    multipliers : are_multipliers rows by ≡ true
    multipliers = both (length by == length rows) (eq-eqb (length by) (length rows) lines_by) (all_multipliers rows by signs)
      where
        both : (c : Bool) → c ≡ true → list_all (λ (p : Row × ℤ). is_multiplier p.0.kind p.1) (zip rows by) ≡ true → c && list_all (λ (p : Row × ℤ). is_multiplier p.0.kind p.1) (zip rows by) ≡ true
        both c f g = rw (f, g) refl

    positive : is_positive_constant (form_of (sums rows by (columns rows [])) (total constant_in rows by)) ≡ true
    positive =
        both (list_all is_zero (sums rows by (columns rows [])))
        (all_zeros (λ c. total (coefficient_at c) rows by) (columns rows []) (λ j h. sum_at (coefficient_at (get_or (columns rows []) j [])) j (omega (arith, h)) (λ l. framed-column (columns rows []) rows j l h) ∙ ap (λ z. m.sign *ℤ z) (r.flat j h) ∙ times_zero m.sign))
        (let p : pos 0 <ℤ total constant_in rows by = subst (λ (z : ℤ). pos 0 <ℤ z) (sym (sum_at constant_in (length (columns rows [])) (omega arith) (λ l. framed-constant (columns rows []) rows l))) m.positive in lt_true (pos 0) (total constant_in rows by) p)
      where
        both : (c : Bool) → c ≡ true → int_lt (pos 0) (total constant_in rows by) ≡ true → c && int_lt (pos 0) (total constant_in rows by) ≡ true
        both c f g = rw (f, g) refl

    sum_ok : sum_of_multiples rows by (columns rows []) >>= (λ form. bool_ok (is_positive_constant form)) ≡ Ok b → b ≡ true
    sum_ok f =
        on_ok (sum_of_multiples rows by (columns rows [])) (λ form. bool_ok (is_positive_constant form)) b f
        (λ form g h. on_sum rows by (columns rows []) form g
        (λ is. let same : is_positive_constant form ≡ b = cc in sym same ∙ ap is_positive_constant is ∙ positive))

    after_multipliers : (c : Bool) → c ≡ true → and_then (bool_ok c) (sum_of_multiples rows by (columns rows []) >>= (λ form. bool_ok (is_positive_constant form))) ≡ Ok b → b ≡ true
    after_multipliers true f g = sum_ok g
    after_multipliers false f g = cc
