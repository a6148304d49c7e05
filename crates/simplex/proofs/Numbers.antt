-- The numbers of what the code makes: an exchange of tableaux is an exchange of their numbers.
use Rattle.std.proofs.Common.{◌≡◌, ◌≢◌, ℕ, zero, suc, ◌+◌, ◌<◌, Bool, true, false, cond, List, [], ◌∷◌, Err, length, map, get_or, refl, sym, ap, subst, ◌∙◌, arith, ⊎_elim, Ok, ℤ, pos, negsuc, ◌+ℤ◌, ◌-ℤ◌, ◌*ℤ◌, ◌<ℤ◌}
use Rattle.std.specs.Prelude.{unsigned_abs, int_lt, int_div, nat_eq, neg_ℤ, Result, slice_set}
use Rattle.std.specs.Ordering.{int_eq}
use Rattle.std.proofs.lemmas.Int.{ints}
use Rattle.std.proofs.lemmas.Bool.{cases_eq, eq-eqb, ne_eqb, false≢true}
use Rattle.std.proofs.lemmas.Bool.Decides.{Decides-int_eq}
use Rattle.std.proofs.lemmas.List.{get_or-set_same, get_or-set_other, length-map, length-set}
use Rattle.std.proofs.Math.IntN.{*ℤ_comm, zero-*ℤ}
use Rattle.items.specs.Gives.{◌>>=◌}
use Rattle.items.proofs.Gives.{on_ok}
use Rattle.whole_numbers.specs.Fits.{fits, sum_of, product_of}
use Rattle.whole_numbers.specs.Divisors.{gcd_of_all}
use Rattle.whole_numbers.specs.declared.wide.Wide as Step
use Rattle.whole_numbers.proofs.CommonDivisors.{DividesEach, DividesEach-gcd_of_all}
use Rattle.whole_numbers.proofs.Quotients.{int_div-*ℤ}
use Rattle.whole_numbers.proofs.Ring.{neg_ℤ-*ℤ, one-*ℤ}
use Rattle.simplex.specs.declared.tableau.Tableau.{Tableau}
use Rattle.simplex.specs.Exchange.{sum_of_products, sum_of_lines, line_multiple, reduced_line, upright_line, line_without, line_without_at, lines_without, exchange, numbers_of, choices_of, HasShape, IsTableauOf}
use Rattle.farkas_check.specs.Relations.{entry}
use Rattle.simplex.specs.Frames.{IsCleared, IsExchange, IsChanged, IsWholeTableau}
use Rattle.simplex.proofs.Exchanges.{times_zero, exchanged_is}
use Rattle.simplex.proofs.Lines.{upright-length}

-- ---- steps in 128 bits

checked : (b : Bool) (x y : ℤ) (w : Step.Wide) → cond b (Ok x) (Err w) ≡ Ok y → y ≡ x
checked true x y w e = cc
checked false x y w e = cc

sum_of-value : (a b c : ℤ) → sum_of a b ≡ Ok c → c ≡ a +ℤ b
sum_of-value a b c e = checked (fits (a +ℤ b)) (a +ℤ b) c (record { left = a; right = b; times = false }) e

pub product_of-value : (a b c : ℤ) → product_of a b ≡ Ok c → c ≡ a *ℤ b
product_of-value a b c e = checked (fits (a *ℤ b)) (a *ℤ b) c (record { left = a; right = b; times = true }) e

sum_of_products-value : (p a q b z : ℤ) → sum_of_products p a q b ≡ Ok z → z ≡ p *ℤ a +ℤ q *ℤ b
sum_of_products-value p a q b z e =
    on_ok (product_of p a) (λ x. product_of q b >>= λ y. sum_of x y) z e
    (λ x f g. on_ok (product_of q b) (λ y. sum_of x y) z g
    (λ y h k. chain x y (product_of-value p a x f) (product_of-value q b y h) (sum_of-value x y z k)))
  where
    chain : (x y : ℤ) → x ≡ p *ℤ a → y ≡ q *ℤ b → z ≡ x +ℤ y → z ≡ p *ℤ a +ℤ q *ℤ b
    chain x y f g h = cc

abbrev lines_ok : List ℤ → Result (List ℤ) Step.Wide
lines_ok zs = Ok zs

-- ---- lines

sum_of_lines-number : (p : ℤ) (line : List ℤ) (q : ℤ) (pivot made : List ℤ) → length line ≡ length pivot → sum_of_lines p line q pivot ≡ Ok made → (j : ℕ) → entry made j ≡ p *ℤ entry line j +ℤ q *ℤ entry pivot j
sum_of_lines-number p [] q [] made l e j = let same : [] ≡ made = cc in ap (λ zs. entry zs j) (sym same) ∙ sym (rw (times_zero p, times_zero q) refl)
sum_of_lines-number p [] q (b ∷ bs) made l e j = absurd (omega arith)
sum_of_lines-number p (a ∷ line) q [] made l e j = absurd (omega arith)
sum_of_lines-number p (a ∷ line) q (b ∷ bs) made l e j =
    on_ok (sum_of_products p a q b) (λ z. sum_of_lines p line q bs >>= λ more. lines_ok (z ∷ more)) made e
    (λ z f g. on_ok (sum_of_lines p line q bs) (λ more. lines_ok (z ∷ more)) made g
    (λ more h k. let is : z ∷ more ≡ made = cc in ap (λ zs. entry zs j) (sym is) ∙ at j z more (sum_of_products-value p a q b z f) (sum_of_lines-number p line q bs more (omega arith) h)))
  where
    at : (j : ℕ) (z : ℤ) (more : List ℤ) → z ≡ p *ℤ a +ℤ q *ℤ b → ((j : ℕ) → entry more j ≡ p *ℤ entry line j +ℤ q *ℤ entry bs j) → entry (z ∷ more) j ≡ p *ℤ entry (a ∷ line) j +ℤ q *ℤ entry (b ∷ bs) j
    at zero z more f g = f
    at (suc j) z more f g = g j

pub line_multiple-number : (line : List ℤ) (by : ℤ) (made : List ℤ) → line_multiple line by ≡ Ok made → (j : ℕ) → entry made j ≡ entry line j *ℤ by
line_multiple-number [] by made e j = let same : [] ≡ made = cc in ap (λ zs. entry zs j) (sym same) ∙ sym (zero-*ℤ by)
line_multiple-number (a ∷ line) by made e j =
    on_ok (product_of a by) (λ z. line_multiple line by >>= λ more. lines_ok (z ∷ more)) made e
    (λ z f g. on_ok (line_multiple line by) (λ more. lines_ok (z ∷ more)) made g
    (λ more h k. let is : z ∷ more ≡ made = cc in ap (λ zs. entry zs j) (sym is) ∙ at j z more (product_of-value a by z f) (line_multiple-number line by more h)))
  where
    at : (j : ℕ) (z : ℤ) (more : List ℤ) → z ≡ a *ℤ by → ((j : ℕ) → entry more j ≡ entry line j *ℤ by) → entry (z ∷ more) j ≡ entry (a ∷ line) j *ℤ by
    at zero z more f g = f
    at (suc j) z more f g = g j

-- each number is the divisor times the quotient
divided-number : (d : ℕ) (line : List ℤ) → DividesEach d line → (j : ℕ) → pos d *ℤ entry (map (λ z. int_div z (pos d)) line) j ≡ entry line j
divided-number d [] h j = times_zero (pos d)
divided-number d (z ∷ line) h zero = *ℤ_comm (pos d) (int_div z (pos d)) ∙ int_div-*ℤ z d h.0
divided-number d (z ∷ line) h (suc j) = divided-number d line h.1 j

record IsReduced (line made : List ℤ) : Type 0 where
  factor : ℤ
  positive : pos 0 <ℤ factor
  is : (j : ℕ) → factor *ℤ entry made j ≡ entry line j

reduced-number : (line : List ℤ) → IsReduced line (reduced_line line)
reduced-number line = go (nat_eq (gcd_of_all line) 0) refl
  where
    some : (d : ℕ) → nat_eq d 0 ≡ false → pos 0 <ℤ pos d
    some zero e = absurd (false≢true (sym e))
    some (suc d) e = omega (arith, ints)

    go : (b : Bool) → nat_eq (gcd_of_all line) 0 ≡ b → IsReduced line (cond b line (map (λ z. int_div z (pos (gcd_of_all line))) line))
    go true e = record { factor = pos 1; positive = omega (arith, ints); is = λ j. one-*ℤ (entry line j) }
    go false e = record { factor = pos (gcd_of_all line); positive = some (gcd_of_all line) e; is = divided-number (gcd_of_all line) line (DividesEach-gcd_of_all line) }

-- ---- a line cleared, and a line turned

minus : (z : ℤ) → z *ℤ negsuc 0 ≡ neg_ℤ z
minus z = omega (arith, ints)

pub line_without-is : (column : ℕ) (pivot line made : List ℤ) → length line ≡ length pivot → pos 0 <ℤ entry pivot column → line_without column pivot line ≡ Ok made → IsCleared (entry line) (entry pivot) (entry made) column
line_without-is column pivot line made l p e = go (int_eq (entry line column) (pos 0)) refl e
  where
    at_zero : (z p a b : ℤ) → z ≡ pos 0 → p *ℤ a ≡ p *ℤ a -ℤ z *ℤ b
    at_zero z p a b e = rw (e, zero-*ℤ b) (plain (p *ℤ a))
      where
        plain : (x : ℤ) → x ≡ x -ℤ pos 0
        plain x = omega (arith, ints)

    go : (b : Bool) → int_eq (entry line column) (pos 0) ≡ b → cond b (lines_ok line) (product_of (entry line column) (negsuc 0) >>= λ q. sum_of_lines (entry pivot column) line q pivot >>= λ zs. lines_ok (reduced_line zs)) ≡ Ok made → IsCleared (entry line) (entry pivot) (entry made) column
    go true f g =
        let same : line ≡ made = cc in
        subst (λ zs. IsCleared (entry line) (entry pivot) (entry zs) column) same
        (record { factor = entry pivot column; positive = p; is = λ j. at_zero (entry line column) (entry pivot column) (entry line j) (entry pivot j) ((Decides-int_eq (entry line column) (pos 0)).0 f) })
    go false f g =
        on_ok (product_of (entry line column) (negsuc 0)) (λ q. sum_of_lines (entry pivot column) line q pivot >>= λ zs. lines_ok (reduced_line zs)) made g
        (λ q h k. on_ok (sum_of_lines (entry pivot column) line q pivot) (λ zs. lines_ok (reduced_line zs)) made k
        (λ zs m n. let same : reduced_line zs ≡ made = cc in subst (λ ys. IsCleared (entry line) (entry pivot) (entry ys) column) same (whole q zs (product_of-value (entry line column) (negsuc 0) q h) m (reduced-number zs))))
      where
        whole : (q : ℤ) (zs : List ℤ) → q ≡ entry line column *ℤ negsuc 0 → sum_of_lines (entry pivot column) line q pivot ≡ Ok zs → IsReduced zs (reduced_line zs) → IsCleared (entry line) (entry pivot) (entry (reduced_line zs)) column
        whole q zs h m r = record {
          factor = r.factor;
          positive = r.positive;
          is = λ j.
              r.is j ∙ sum_of_lines-number (entry pivot column) line q pivot zs l m j
              ∙ ap (λ z. entry pivot column *ℤ entry line j +ℤ z *ℤ entry pivot j) (h ∙ minus (entry line column))
              ∙ ap (λ z. entry pivot column *ℤ entry line j +ℤ z) (neg_ℤ-*ℤ (entry line column) (entry pivot j));
        }

-- a line turned so that it is positive at a column
pub record IsUpright (line made : ℕ → ℤ) (column : ℕ) : Type 0 where
  pub sign : ℤ
  pub one : unsigned_abs sign ≡ 1
  pub upright : (j : ℕ) → made j ≡ sign *ℤ line j
  pub back : (j : ℕ) → line j ≡ sign *ℤ made j
  pub positive : pos 0 <ℤ made column

pub upright-is : (column : ℕ) (line made : List ℤ) → (entry line column ≡ pos 0 → ⊥) → upright_line column line ≡ Ok made → IsUpright (entry line) (entry made) column
upright-is column line made n e = go (int_lt (entry line column) (pos 0)) refl e
  where
    not_negative : (z : ℤ) → (z ≡ pos 0 → ⊥) → int_lt z (pos 0) ≡ false → pos 0 <ℤ z
    not_negative (pos zero) n e = absurd (n refl)
    not_negative (pos (suc k)) n e = omega (arith, ints)
    not_negative (negsuc k) n e = absurd (false≢true (sym e))

    negative : (z : ℤ) → int_lt z (pos 0) ≡ true → pos 0 <ℤ (z *ℤ negsuc 0)
    negative (pos k) e = absurd (omega (arith, ints, e))
    negative (negsuc k) e = omega (arith, ints)

    back : (z : ℤ) → z ≡ negsuc 0 *ℤ (z *ℤ negsuc 0)
    back z = omega (arith, ints)

    go : (b : Bool) → int_lt (entry line column) (pos 0) ≡ b → cond b (line_multiple line (negsuc 0)) (Ok line) ≡ Ok made → IsUpright (entry line) (entry made) column
    go true f g =
        let is : (j : ℕ) → entry made j ≡ entry line j *ℤ negsuc 0 = line_multiple-number line (negsuc 0) made g in
        record {
          sign = negsuc 0;
          one = refl;
          upright = λ j. is j ∙ *ℤ_comm (entry line j) (negsuc 0);
          back = λ j. back (entry line j) ∙ ap (λ z. negsuc 0 *ℤ z) (sym (is j));
          positive = subst (λ (z : ℤ). pos 0 <ℤ z) (sym (is column)) (negative (entry line column) f);
        }
    go false f g =
        let same : line ≡ made = cc in
        subst (λ zs. IsUpright (entry line) (entry zs) column) same
        (record { sign = pos 1; one = refl; upright = λ j. sym (one-*ℤ (entry line j)); back = λ j. sym (one-*ℤ (entry line j)); positive = not_negative (entry line column) n f })

-- ---- all lines

abbrev all_ok : List (List ℤ) → Result (List (List ℤ)) Step.Wide
all_ok ls = Ok ls

-- what the code makes of the lines from the i-th on
pub record AreCleared (column : ℕ) (pivot : List ℤ) (place i : ℕ) (lines made : List (List ℤ)) : Type 0 where
  pub many : length made ≡ length lines
  pub each : (k : ℕ) → k < length lines → line_without_at column pivot place (i + k) (get_or lines k []) ≡ Ok (get_or made k [])

pub lines_without-is : (column : ℕ) (pivot : List ℤ) (place i : ℕ) (lines made : List (List ℤ)) → lines_without column pivot place i lines ≡ Ok made → AreCleared column pivot place i lines made
lines_without-is column pivot place i [] made e = let same : [] ≡ made = cc in record { many = ap length (sym same); each = λ k h. absurd (omega arith) }
lines_without-is column pivot place i (line ∷ lines) made e =
    on_ok (line_without_at column pivot place i line) (λ new. lines_without column pivot place (i + 1) lines >>= λ more. all_ok (new ∷ more)) made e
    (λ new f g. on_ok (lines_without column pivot place (i + 1) lines) (λ more. all_ok (new ∷ more)) made g
    (λ more h k. let same : new ∷ more ≡ made = cc in subst (λ ls. AreCleared column pivot place i (line ∷ lines) ls) same (with_first new more f (lines_without-is column pivot place (i + 1) lines more h))))
  where
    with_first : (new : List ℤ) (more : List (List ℤ)) → line_without_at column pivot place i line ≡ Ok new → AreCleared column pivot place (i + 1) lines more → AreCleared column pivot place i (line ∷ lines) (new ∷ more)
    with_first new more f rest = record { many = let h : length more ≡ length lines = rest.many in omega arith; each = at }
      where
        at : (k : ℕ) → k < length (line ∷ lines) → line_without_at column pivot place (i + k) (get_or (line ∷ lines) k []) ≡ Ok (get_or (new ∷ more) k [])
        at zero h = let e : i + 0 ≡ i = omega arith in rw e f
        at (suc k) h = let e : i + suc k ≡ i + 1 + k = omega arith in rw e (rest.each k (omega arith))

abbrev pub tableau_ok : Tableau → Result Tableau Step.Wide
tableau_ok t = Ok t

-- what an exchange of the code is
pub record ExchangeAt (before after : Tableau) (line column : ℕ) : Type 0 where
  pub many : length after.lines ≡ length before.lines
  pub numbers : IsExchange (length before.lines) (numbers_of before) (numbers_of after) line column
  pub choices : IsChanged (length before.lines) (choices_of before) (choices_of after) line column

pub exchange-is : (columns : ℕ) (before after : Tableau) (line column : ℕ) → HasShape columns before → line < length before.lines → (numbers_of before line column ≡ pos 0 → ⊥)
    → ((made : List ℤ) → upright_line column (get_or before.lines line []) ≡ Ok made → length made ≡ columns)
    → exchange before line column ≡ Ok after → ExchangeAt before after line column
exchange-is columns before after line column shape here n long e =
    on_ok (upright_line column (get_or before.lines line [])) (λ pivot. lines_without column pivot line 0 before.lines >>= λ lines. tableau_ok (record { lines = lines; chosen = slice_set before.chosen line column })) after e
    (λ pivot f g. on_ok (lines_without column pivot line 0 before.lines) (λ lines. tableau_ok (record { lines = lines; chosen = slice_set before.chosen line column })) after g
    (λ lines h k. let same : record { lines = lines; chosen = slice_set before.chosen line column } ≡ after = cc in
    subst (λ t. ExchangeAt before t line column) same (made pivot lines (long pivot f) (upright-is column (get_or before.lines line []) pivot n f) (lines_without-is column pivot line 0 before.lines lines h))))
  where
    at_place : (pivot own new : List ℤ) → line_without_at column pivot line line own ≡ Ok new → new ≡ pivot
    at_place pivot own new e = let f : Ok pivot ≡ Ok new = sym (rw (eq-eqb line line refl) refl) ∙ e in cc

    elsewhere : (pivot own new : List ℤ) (i : ℕ) → i ≢ line → line_without_at column pivot line i own ≡ Ok new → line_without column pivot own ≡ Ok new
    elsewhere pivot own new i other e = sym (rw (ne_eqb i line other) refl) ∙ e

    made : (pivot : List ℤ) (lines : List (List ℤ)) → length pivot ≡ columns → IsUpright (entry (get_or before.lines line [])) (entry pivot) column → AreCleared column pivot line 0 before.lines lines → ExchangeAt before (record { lines = lines; chosen = slice_set before.chosen line column }) line column
    made pivot lines wide t c = record {
      many = c.many;
      numbers = record {
        sign = t.sign;
        upright = λ j. ap (λ zs. entry zs j) pivot_there ∙ t.upright j;
        back = λ j. t.back j ∙ ap (λ zs. t.sign *ℤ entry zs j) (sym pivot_there);
        positive = subst (λ zs. pos 0 <ℤ entry zs column) (sym pivot_there) t.positive;
        line_without = λ i h other. subst (λ zs. IsCleared (entry (get_or before.lines i [])) (entry zs) (entry (get_or lines i [])) column) (sym pivot_there)
            (line_without-is column pivot (get_or before.lines i []) (get_or lines i []) (shape.wide i h ∙ sym wide) t.positive (elsewhere pivot (get_or before.lines i []) (get_or lines i []) i other (from_zero i (c.each i h))));
      };
      choices = record {
        there = get_or-set_same before.chosen line column 0 (let h : length before.chosen ≡ length before.lines = shape.choices in omega arith);
        elsewhere = λ i h other. get_or-set_other before.chosen line i column 0 other;
      };
    }
      where
        from_zero : (i : ℕ) → line_without_at column pivot line (0 + i) (get_or before.lines i []) ≡ Ok (get_or lines i []) → line_without_at column pivot line i (get_or before.lines i []) ≡ Ok (get_or lines i [])
        from_zero i e = let z : 0 + i ≡ i = omega arith in rw z at e

        pivot_there : get_or lines line [] ≡ pivot
        pivot_there = at_place pivot (get_or before.lines line []) (get_or lines line []) (from_zero line (c.each line here))

-- ---- shapes

sum_of_lines-length : (p : ℤ) (line : List ℤ) (q : ℤ) (pivot made : List ℤ) → length line ≡ length pivot → sum_of_lines p line q pivot ≡ Ok made → length made ≡ length line
sum_of_lines-length p [] q bs made l e = let same : [] ≡ made = cc in ap length (sym same)
sum_of_lines-length p (a ∷ line) q [] made l e = absurd (omega arith)
sum_of_lines-length p (a ∷ line) q (b ∷ bs) made l e =
    on_ok (sum_of_products p a q b) (λ z. sum_of_lines p line q bs >>= λ more. lines_ok (z ∷ more)) made e
    (λ z f g. on_ok (sum_of_lines p line q bs) (λ more. lines_ok (z ∷ more)) made g
    (λ more h k. let is : z ∷ more ≡ made = cc in let n : length more ≡ length line = sum_of_lines-length p line q bs more (omega arith) h in let m : length (z ∷ more) ≡ length made = ap length is in omega arith))

reduced-length : (line : List ℤ) → length (reduced_line line) ≡ length line
reduced-length line = go (nat_eq (gcd_of_all line) 0)
  where
    go : (b : Bool) → length (cond b line (map (λ z. int_div z (pos (gcd_of_all line))) line)) ≡ length line
    go true = refl
    go false = length-map line (λ z. int_div z (pos (gcd_of_all line)))

pub line_without-length : (column : ℕ) (pivot line made : List ℤ) → length line ≡ length pivot → line_without column pivot line ≡ Ok made → length made ≡ length line
line_without-length column pivot line made l e = go (int_eq (entry line column) (pos 0)) e
  where
    go : (b : Bool) → cond b (lines_ok line) (product_of (entry line column) (negsuc 0) >>= λ q. sum_of_lines (entry pivot column) line q pivot >>= λ zs. lines_ok (reduced_line zs)) ≡ Ok made → length made ≡ length line
    go true g = let same : line ≡ made = cc in ap length (sym same)
    go false g =
        on_ok (product_of (entry line column) (negsuc 0)) (λ q. sum_of_lines (entry pivot column) line q pivot >>= λ zs. lines_ok (reduced_line zs)) made g
        (λ q h k. on_ok (sum_of_lines (entry pivot column) line q pivot) (λ zs. lines_ok (reduced_line zs)) made k
        (λ zs m n. let same : reduced_line zs ≡ made = cc in ap length (sym same) ∙ reduced-length zs ∙ sum_of_lines-length (entry pivot column) line q pivot zs l m))

line_without_at-length : (column : ℕ) (pivot : List ℤ) (place i : ℕ) (line made : List ℤ) → length line ≡ length pivot → line_without_at column pivot place i line ≡ Ok made → length made ≡ length line
line_without_at-length column pivot place i line made l e = go (nat_eq i place) e
  where
    go : (b : Bool) → cond b (lines_ok pivot) (line_without column pivot line) ≡ Ok made → length made ≡ length line
    go true g = let same : pivot ≡ made = cc in ap length (sym same) ∙ sym l
    go false g = line_without-length column pivot line made l g

-- an exchange of the code makes a tableau of a tableau
pub exchange-keeps : (units : ℕ) (frame : ℕ → ℕ → ℤ) (before after : Tableau) (line column : ℕ) → IsTableauOf units frame before → line < length before.lines → column < units + length before.lines → (numbers_of before line column ≡ pos 0 → ⊥) → exchange before line column ≡ Ok after → IsTableauOf units frame after
exchange-keeps units frame before after line column t here in_range n e =
    on_ok (upright_line column (get_or before.lines line [])) (λ pivot. lines_without column pivot line 0 before.lines >>= λ lines. tableau_ok (record { lines = lines; chosen = slice_set before.chosen line column })) after e
    (λ pivot f g. on_ok (lines_without column pivot line 0 before.lines) (λ lines. tableau_ok (record { lines = lines; chosen = slice_set before.chosen line column })) after g
    (λ lines h k. let same : record { lines = lines; chosen = slice_set before.chosen line column } ≡ after = cc in
    whole same (upright-length column (get_or before.lines line []) pivot f ∙ t.shape.wide line here) (lines_without-is column pivot line 0 before.lines lines h)
    (exchange-is (units + length before.lines) before after line column t.shape here n (λ made m. upright-length column (get_or before.lines line []) made m ∙ t.shape.wide line here) e)))
  where
    whole : {pivot : List ℤ} {lines : List (List ℤ)} → record { lines = lines; chosen = slice_set before.chosen line column } ≡ after → length pivot ≡ units + length before.lines → AreCleared column pivot line 0 before.lines lines → ExchangeAt before after line column → IsTableauOf units frame after
    whole {pivot} {lines} same long c x = record {
      shape = record { wide = wide; choices = let h : length before.chosen ≡ length before.lines = t.shape.choices in ap (λ (u : Tableau). length u.chosen) (sym same) ∙ length-set before.chosen line column ∙ h ∙ sym x.many };
      is = subst (λ n. IsWholeTableau n units (units + n) frame (numbers_of after) (choices_of after)) (sym x.many)
          (exchanged_is (length before.lines) units (units + length before.lines) frame (numbers_of before) (numbers_of after) (choices_of before) (choices_of after) line column t.is x.numbers x.choices refl here in_range t.within);
      within = λ i h. within i (subst (λ n. i < n) x.many h);
    }
      where
        within : (i : ℕ) → i < length before.lines → choices_of after i < units + length after.lines
        within i h =
            subst (λ n. choices_of after i < units + n) (sym x.many)
            (⊎_elim (λ (e : i ≡ line). subst (λ n. n < units + length before.lines) (sym (ap (choices_of after) e ∙ x.choices.there)) in_range)
            (λ other. subst (λ n. n < units + length before.lines) (sym (x.choices.elsewhere i h other)) (t.within i h)) (cases_eq i line))

        wide : (i : ℕ) → i < length after.lines → length (get_or after.lines i []) ≡ units + length after.lines
        wide i h =
            let g : i < length before.lines = subst (λ n. i < n) x.many h in
            let z : 0 + i ≡ i = omega arith in
            ap (λ (u : Tableau). length (get_or u.lines i [])) (sym same)
            ∙ line_without_at-length column pivot line (0 + i) (get_or before.lines i []) (get_or lines i []) (t.shape.wide i g ∙ sym long) (c.each i g)
            ∙ t.shape.wide i g ∙ ap (λ n. units + n) (sym x.many)
