-- The equations of lines: how they are made, what they are worth at a point, and which columns and
-- numbers they have.
use Rattle.std.proofs.Common.{◌≡◌, ℕ, zero, suc, ◌+◌, ◌<◌, ◌≤◌, Bool, true, false, cond, List, [], ◌∷◌, ◌++◌, length, map, get_or, take, drop, refl, sym, ap, subst, ◌∙◌, arith, ⊎_elim, Result, Ok, ℤ, pos, ◌+ℤ◌, ◌*ℤ◌}
use Rattle.std.specs.Prelude.{◌^◌, nat_eq, unsigned_abs}
use Rattle.std.specs.Cmp.{nat_cmp_is}
use Rattle.std.specs.List.{AllByRecursion}
use Rattle.std.specs.Map.{keys_of}
use Rattle.std.specs.Ordering.{eq_by_cmp, int_eq, ordering_then, match_ordering}
use Rattle.std.specs.declared.cmp.Ordering.{Ordering}
use Rattle.std.specs.declared.cmp.Ordering.TheVariants.{Less, Equal as Same, Greater}
use Rattle.std.proofs.lemmas.Int.{ints}
use Rattle.std.proofs.lemmas.Bool.{cases_eq, eq-eqb, ne_eqb, false≢true}
use Rattle.std.proofs.lemmas.Bool.Decides.{Decides-int_eq}
use Rattle.std.proofs.Math.IntN.{zero-*ℤ}
use Rattle.items.specs.Gives.{◌>>=◌, err_map, Gives}
use Rattle.whole_numbers.proofs.Ring.{one-*ℤ}
use Rattle.linear_terms.specs.declared.col.Col.{Col}
use Rattle.linear_terms.specs.declared.col.Col.TheVariants.{At}
use Rattle.linear_terms.specs.declared.error.TermError.{TermError}
use Rattle.linear_terms.specs.Mono.{mono_cmp}
use Rattle.linear_terms.specs.Operations.{with_term, put, put_all, multiple_of, sum_of_polys}
use Rattle.linear_terms.specs.Polynomial.{Terms, Polynomial, column_of}
use Rattle.linear_terms.specs.TermError.{cause, wide, plus, times}
use Rattle.farkas_check.specs.Columns.{columns, monos_of, with_mono, in_print_order}
use Rattle.farkas_check.specs.Frames.{sum_below}
use Rattle.farkas_check.specs.Rational.{RationalPoint, terms_at, sum_at, Meets}
use Rattle.farkas_check.specs.Relations.{entry}
use Rattle.farkas_check.specs.Sizes.{HasNumbersUpTo}
use Rattle.farkas_check.proofs.Spreads.{is_among, same_mono, itself}
use Rattle.simplex.proofs.Certificates.{sum_below-first}
use Rattle.simplex.proofs.Small.{product_of-fits, sum_of-fits}
use Rattle.simplex.proofs.Sums.{sum_below-same}
use Rattle.elimination.specs.Equations.{with_column, poly_from, equation_of, StandsBehind}
use Rattle.elimination.proofs.ColumnCounts.{fewer_columns}

-- ---- one column more

kept-at : (x : List Col → ℤ) (m : List Col) (c : ℤ) (ts : Terms) → terms_at x (with_term m c ts) ≡ c *ℤ x m +ℤ terms_at x ts
kept-at x m c ts = go (int_eq c (pos 0)) refl
  where
    go : (b : Bool) → int_eq c (pos 0) ≡ b → terms_at x (cond b ts ((m, c) ∷ ts)) ≡ c *ℤ x m +ℤ terms_at x ts
    go true e = sym (ap (λ z. z *ℤ x m +ℤ terms_at x ts) ((Decides-int_eq c (pos 0)).0 e) ∙ ap (λ z. z +ℤ terms_at x ts) (zero-*ℤ (x m)) ∙ left (terms_at x ts))
      where
        left : (z : ℤ) → pos 0 +ℤ z ≡ z
        left z = omega (arith, ints)
    go false e = refl

-- a column stands before a later one in print order
before_later : (p j : ℕ) → p < j → mono_cmp (At p ∷ []) (At j ∷ []) ≡ Less
before_later p j h = ap (λ (o : Ordering). ordering_then o Same) (sym (nat_cmp_is p j Less h))

put-first : (place : ℕ) (n : ℤ) (ts : Terms) → StandsBehind place ts → put (At place ∷ []) n ts ≡ Ok (with_term (At place ∷ []) n ts)
put-first place n [] h = refl
put-first place n (t ∷ ts) h =
    ap (λ (o : Ordering). match_ordering o (terms_ok (with_term (At place ∷ []) n (t ∷ ts))) (plus t.1 n >>= λ s. terms_ok (with_term t.0 s ts)) (put (At place ∷ []) n ts >>= λ made. terms_ok (t ∷ made)))
    (ap (mono_cmp (At place ∷ [])) h.1.1 ∙ before_later place h.0 h.1.0)
  where
    terms_ok : Terms → Result Terms TermError
    terms_ok us = Ok us

put_all-first : (place : ℕ) (n : ℤ) (ts : Terms) → StandsBehind place ts → put_all ts (with_term (At place ∷ []) n []) ≡ Ok (with_term (At place ∷ []) n ts)
put_all-first place n ts h = go (int_eq n (pos 0)) refl
  where
    terms_ok : Terms → Result Terms TermError
    terms_ok us = Ok us

    go : (b : Bool) → int_eq n (pos 0) ≡ b → put_all ts (cond b [] ((At place ∷ [], n) ∷ [])) ≡ terms_ok (cond b ts ((At place ∷ [], n) ∷ ts))
    go true e = refl
    go false e = ap (λ (r : Result Terms TermError). r >>= λ made. terms_ok made) (put-first place n ts h) ∙ ap (λ (b : Bool). terms_ok (cond b ts ((At place ∷ [], n) ∷ ts))) e

times_one : (n : ℤ) → unsigned_abs n ≤ 4 → times (pos 1) n ≡ Ok n
times_one n h = ap (λ r. err_map wide r) (product_of-fits (pos 1) n (subst (λ z. unsigned_abs z < 2 ^ 127) (sym (one-*ℤ n)) (omega (arith, h)))) ∙ ap (λ z. number_ok z) (one-*ℤ n)
  where
    number_ok : ℤ → Result ℤ TermError
    number_ok z = Ok z

times_nothing : (n : ℤ) → times (pos 0) n ≡ Ok (pos 0)
times_nothing n = ap (λ r. err_map wide r) (product_of-fits (pos 0) n (subst (λ z. unsigned_abs z < 2 ^ 127) (sym (zero-*ℤ n)) (omega arith))) ∙ ap (λ z. number_ok z) (zero-*ℤ n)
  where
    number_ok : ℤ → Result ℤ TermError
    number_ok z = Ok z

plus_nothing : (n : ℤ) → unsigned_abs n ≤ 4 → plus n (pos 0) ≡ Ok n
plus_nothing n h = ap (λ r. err_map wide r) (sum_of-fits n (pos 0) (subst (λ z. unsigned_abs z < 2 ^ 127) (sym (right n)) (omega (arith, h)))) ∙ ap (λ z. number_ok z) (right n)
  where
    right : (z : ℤ) → z +ℤ pos 0 ≡ z
    right z = omega (arith, ints)

    number_ok : ℤ → Result ℤ TermError
    number_ok z = Ok z

-- a number times a column
abbrev pub term_of : ℕ → ℤ → Polynomial
term_of place n = record { terms = with_term (At place ∷ []) n []; rest = pos 0 }

abbrev poly_ok : Polynomial → Result Polynomial TermError
poly_ok p = Ok p

pub term_made : (place : ℕ) (n : ℤ) → unsigned_abs n ≤ 4 → multiple_of (column_of (At place)) n ≡ Ok (term_of place n)
term_made place n h =
    ap (λ (r : Result ℤ TermError). (r >>= λ c. terms_ok (with_term (At place ∷ []) c [])) >>= λ ts. times (pos 0) n >>= λ z. poly_ok (record { terms = ts; rest = z })) (times_one n h)
    ∙ ap (λ (r : Result ℤ TermError). r >>= λ z. poly_ok (record { terms = with_term (At place ∷ []) n []; rest = z })) (times_nothing n)
  where
    terms_ok : Terms → Result Terms TermError
    terms_ok us = Ok us

pub column_added : (place : ℕ) (n : ℤ) (behind : Polynomial) → StandsBehind place behind.terms → unsigned_abs behind.rest ≤ 4 → sum_of_polys behind (term_of place n) ≡ Ok (with_column place n behind)
column_added place n behind h small =
    ap (λ (r : Result Terms TermError). r >>= λ ts. plus behind.rest (pos 0) >>= λ z. poly_ok (record { terms = ts; rest = z })) (put_all-first place n behind.terms h)
    ∙ ap (λ (r : Result ℤ TermError). r >>= λ z. poly_ok (record { terms = with_term (At place ∷ []) n behind.terms; rest = z })) (plus_nothing behind.rest small)

pub column_answer : (place : ℕ) (n : ℤ) (behind column term : Polynomial) (r : Result Polynomial TermError) → poly_ok (column_of (At place)) ≡ Ok column → multiple_of column n ≡ Ok term
    → unsigned_abs n ≤ 4 → unsigned_abs behind.rest ≤ 4 → StandsBehind place behind.terms → Gives cause (λ p. p) r (sum_of_polys behind term) → Gives cause (λ p. p) r (poly_ok (with_column place n behind))
column_answer place n behind column term r e f small rest h g =
    subst (λ (stated : Result Polynomial TermError). Gives cause (λ p. p) r stated)
    (ap (sum_of_polys behind) (sym same) ∙ column_added place n behind h rest) g
  where
    own : column_of (At place) ≡ column
    own = let k : poly_ok (column_of (At place)) ≡ Ok column = e in cc

    same : term_of place n ≡ term
    same = let k : poly_ok (term_of place n) ≡ Ok term = sym (term_made place n small) ∙ ap (λ (p : Polynomial). multiple_of p n) own ∙ f in cc

-- ---- the polynomial of a line

pub poly_from-more : (place : ℕ) (z : ℤ) (more : List ℤ) → (more ≡ [] → ⊥) → poly_from place (z ∷ more) ≡ with_column place z (poly_from (place + 1) more)
poly_from-more place z [] some = absurd (some refl)
poly_from-more place z (y ∷ more) some = refl

poly_from-behind : (p place : ℕ) (line : List ℤ) → p < place → StandsBehind p (poly_from place line).terms
poly_from-behind p place [] h = tt
poly_from-behind p place (z ∷ []) h = tt
poly_from-behind p place (z ∷ (y ∷ zs)) h = go (int_eq z (pos 0)) (poly_from-behind p (place + 1) (y ∷ zs) (omega (arith, h)))
  where
    go : (b : Bool) → StandsBehind p (poly_from (place + 1) (y ∷ zs)).terms → StandsBehind p (cond b (poly_from (place + 1) (y ∷ zs)).terms ((At place ∷ [], z) ∷ (poly_from (place + 1) (y ∷ zs)).terms))
    go true k = k
    go false k = (place, (h, refl))

pub poly_from-right : (place : ℕ) (line : List ℤ) → StandsBehind place (poly_from (place + 1) line).terms
poly_from-right place line = poly_from-behind place (place + 1) line (omega arith)

pub poly_from-small : (n place : ℕ) (line : List ℤ) → AllByRecursion (λ z. unsigned_abs z ≤ n) line → HasNumbersUpTo n (poly_from place line)
poly_from-small n place [] h = record { terms = tt; rest = omega arith }
poly_from-small n place (z ∷ []) h = record { terms = tt; rest = h.0 }
poly_from-small n place (z ∷ (y ∷ zs)) h = more (poly_from-small n (place + 1) (y ∷ zs) h.1)
  where
    go : (b : Bool) (ts : Terms) → AllByRecursion (λ t. unsigned_abs t.1 ≤ n) ts → AllByRecursion (λ t. unsigned_abs t.1 ≤ n) (cond b ts ((At place ∷ [], z) ∷ ts))
    go true ts k = k
    go false ts k = (h.0, k)

    more : HasNumbersUpTo n (poly_from (place + 1) (y ∷ zs)) → HasNumbersUpTo n (poly_from place (z ∷ (y ∷ zs)))
    more k = record { terms = go (int_eq z (pos 0)) (poly_from (place + 1) (y ∷ zs)).terms k.terms; rest = k.rest }

pub poly_from-rest : (place : ℕ) (line : List ℤ) → AllByRecursion (λ z. unsigned_abs z ≤ 4) line → unsigned_abs (poly_from place line).rest ≤ 4
poly_from-rest place line h = (poly_from-small 4 place line h).rest

-- the same of a line but for its first number
pub small_tail : (line : List ℤ) → AllByRecursion (λ z. unsigned_abs z ≤ 4) line → AllByRecursion (λ z. unsigned_abs z ≤ 4) (drop 1 line)
small_tail [] h = h
small_tail (z ∷ line) h = h.1

pub small_front : (n : ℕ) (line : List ℤ) → AllByRecursion (λ z. unsigned_abs z ≤ 4) line → AllByRecursion (λ z. unsigned_abs z ≤ 4) (take n line)
small_front zero line h = tt
small_front (suc n) [] h = tt
small_front (suc n) (z ∷ line) h = (h.0, small_front n line h.1)

pub made-rest : (place : ℕ) (line : List ℤ) (p : Polynomial) → poly_ok (poly_from place line) ≡ Ok p → AllByRecursion (λ z. unsigned_abs z ≤ 4) line → unsigned_abs p.rest ≤ 4
made-rest place line p e h = let same : poly_from place line ≡ p = cc in subst (λ (q : Polynomial). unsigned_abs q.rest ≤ 4) same (poly_from-rest place line h)

pub made-behind : (place : ℕ) (line : List ℤ) (p : Polynomial) → poly_ok (poly_from (place + 1) line) ≡ Ok p → StandsBehind place p.terms
made-behind place line p e = let same : poly_from (place + 1) line ≡ p = cc in subst (λ (q : Polynomial). StandsBehind place q.terms) same (poly_from-right place line)

-- ---- its value at a point

pub kept-value : (x : List Col → ℤ) (m : List Col) (c : ℤ) (ts : Terms) → terms_at x (with_term m c ts) ≡ c *ℤ x m +ℤ terms_at x ts
kept-value x m c ts = go (int_eq c (pos 0)) refl
  where
    go : (b : Bool) → int_eq c (pos 0) ≡ b → terms_at x (cond b ts ((m, c) ∷ ts)) ≡ c *ℤ x m +ℤ terms_at x ts
    go true e = sym (ap (λ z. z *ℤ x m +ℤ terms_at x ts) ((Decides-int_eq c (pos 0)).0 e) ∙ ap (λ z. z +ℤ terms_at x ts) (zero-*ℤ (x m)) ∙ left (terms_at x ts))
      where
        left : (z : ℤ) → pos 0 +ℤ z ≡ z
        left z = omega (arith, ints)
    go false e = refl

-- the numbers of a point at the entry columns before a place, and its denominator there
abbrev pub numerator_at : RationalPoint → ℕ → ℕ → ℤ
numerator_at point k j = cond (nat_eq j k) point.over (point.numerator (At j ∷ []))

sum_from : (point : RationalPoint) (k place : ℕ) (line : List ℤ) → place + length line ≡ k + 1 → sum_at point (poly_from place line) ≡ sum_below (length line) (λ j. entry line j *ℤ numerator_at point k (place + j))
sum_from point k place [] h = ap (λ z. pos 0 +ℤ z) (zero-*ℤ point.over)
sum_from point k place (z ∷ []) h = ap (λ (b : Bool). pos 0 +ℤ z *ℤ cond b point.over (point.numerator (At (place + 0) ∷ []))) (sym (eq-eqb (place + 0) k (omega (arith, h))))
sum_from point k place (z ∷ (y ∷ zs)) h =
    ap (λ u. u +ℤ (poly_from (place + 1) (y ∷ zs)).rest *ℤ point.over) (kept-value point.numerator (At place ∷ []) z (poly_from (place + 1) (y ∷ zs)).terms)
    ∙ group (z *ℤ point.numerator (At place ∷ [])) (terms_at point.numerator (poly_from (place + 1) (y ∷ zs)).terms) ((poly_from (place + 1) (y ∷ zs)).rest *ℤ point.over)
    ∙ ap (λ u. z *ℤ point.numerator (At place ∷ []) +ℤ u) (sum_from point k (place + 1) (y ∷ zs) (omega (arith, h)))
    ∙ ap (λ u. u +ℤ sum_below (length (y ∷ zs)) (λ j. entry (y ∷ zs) j *ℤ numerator_at point k (place + 1 + j))) first
    ∙ ap (λ u. z *ℤ numerator_at point k (place + 0) +ℤ u) (sum_below-same (length (y ∷ zs)) (λ j. entry (y ∷ zs) j *ℤ numerator_at point k (place + 1 + j)) (λ j. entry (y ∷ zs) j *ℤ numerator_at point k (place + suc j)) (λ j g. ap (λ (m : ℕ). entry (y ∷ zs) j *ℤ numerator_at point k m) (shift j)))
    ∙ sym (sum_below-first (length (y ∷ zs)) (λ j. entry (z ∷ (y ∷ zs)) j *ℤ numerator_at point k (place + j)))
  where
    group : (a b c : ℤ) → a +ℤ b +ℤ c ≡ a +ℤ (b +ℤ c)
    group a b c = omega (arith, ints)

    shift : (j : ℕ) → place + 1 + j ≡ place + suc j
    shift j = omega arith

    here : place + 0 ≡ place
    here = omega arith

    first : z *ℤ point.numerator (At place ∷ []) ≡ z *ℤ numerator_at point k (place + 0)
    first = ap (λ (m : ℕ). z *ℤ point.numerator (At m ∷ [])) (sym here) ∙ ap (λ (b : Bool). z *ℤ cond b point.over (point.numerator (At (place + 0) ∷ []))) (sym (ne_eqb (place + 0) k (λ e. omega (arith, h, e))))

pub line_sum : (point : RationalPoint) (k : ℕ) (line : List ℤ) → length line ≡ k + 1 → sum_at point (poly_from 0 line) ≡ sum_below (k + 1) (λ j. entry line j *ℤ numerator_at point k j)
line_sum point k line e =
    sum_from point k 0 line (omega (arith, e))
    ∙ sum_below-same (length line) (λ j. entry line j *ℤ numerator_at point k (0 + j)) (λ j. entry line j *ℤ numerator_at point k j) (λ j h. ap (λ (m : ℕ). entry line j *ℤ numerator_at point k m) (left j))
    ∙ ap (λ (n : ℕ). sum_below n (λ j. entry line j *ℤ numerator_at point k j)) e
  where
    left : (j : ℕ) → 0 + j ≡ j
    left j = omega arith

-- ---- lines by their places

pub each_at : {A : Type 0} (P : A → Type 0) (xs : List A) (i : ℕ) (d : A) → AllByRecursion P xs → i < length xs → P (get_or xs i d)
each_at P [] i d h g = absurd (omega (arith, g))
each_at P (x ∷ xs) zero d h g = h.0
each_at P (x ∷ xs) (suc i) d h g = each_at P xs i d h.1 (omega (arith, g))

pub each_from : {A : Type 0} (P : A → Type 0) (xs : List A) (d : A) → ((i : ℕ) → i < length xs → P (get_or xs i d)) → AllByRecursion P xs
each_from P [] d h = tt
each_from P (x ∷ xs) d h = (h 0 (omega arith), each_from P xs d (λ i g. h (suc i) (omega (arith, g))))

pub equations_hold : (point : RationalPoint) (lines : List (List ℤ)) → ((i : ℕ) → i < length lines → sum_at point (poly_from 0 (get_or lines i [])) ≡ pos 0) → Meets point (map equation_of lines)
equations_hold point [] h = tt
equations_hold point (line ∷ lines) h = (h 0 (omega arith), equations_hold point lines (λ i g. h (suc i) (omega (arith, g))))

pub equation_holds : (point : RationalPoint) (lines : List (List ℤ)) (i : ℕ) → Meets point (map equation_of lines) → i < length lines → sum_at point (poly_from 0 (get_or lines i [])) ≡ pos 0
equation_holds point [] i h g = absurd (omega (arith, g))
equation_holds point (line ∷ lines) zero h g = h.0
equation_holds point (line ∷ lines) (suc i) h g = equation_holds point lines i h.1 (omega (arith, g))

-- ---- columns

-- the first so many entry columns
abbrev pub entry_columns : ℕ → List (List Col)
entry_columns zero = []
entry_columns (suc n) = (At n ∷ []) ∷ entry_columns n

entry-among : (n p : ℕ) → p < n → is_among (At p ∷ []) (entry_columns n) ≡ true
entry-among zero p h = absurd (omega (arith, h))
entry-among (suc n) p h =
    ⊎_elim (λ (e : p ≡ n). ap (λ (q : ℕ). cond (eq_by_cmp mono_cmp (At p ∷ []) (At q ∷ [])) true (is_among (At p ∷ []) (entry_columns n))) (sym e) ∙ ap (λ (b : Bool). cond b true (is_among (At p ∷ []) (entry_columns n))) (itself (At p ∷ [])))
    (λ other. later (eq_by_cmp mono_cmp (At p ∷ []) (At n ∷ [])) (entry-among n p (omega (arith, h, other)))) (cases_eq p n)
  where
    later : (b : Bool) → is_among (At p ∷ []) (entry_columns n) ≡ true → cond b true (is_among (At p ∷ []) (entry_columns n)) ≡ true
    later true e = refl
    later false e = e

pub entry-length : (n : ℕ) → length (entry_columns n) ≡ n
entry-length zero = refl
entry-length (suc n) = let e : length (entry_columns n) ≡ n = entry-length n in omega (arith, e)

with_mono-length : (m : List Col) (ns : List (List Col)) → length (with_mono m ns) ≤ suc (length ns)
with_mono-length m [] = omega arith
with_mono-length m (n ∷ ns) = go (mono_cmp m n) (with_mono-length m ns)
  where
    go : (o : Ordering) → length (with_mono m ns) ≤ suc (length ns) → length (match_ordering o (m ∷ n ∷ ns) (n ∷ ns) (n ∷ with_mono m ns)) ≤ suc (suc (length ns))
    go Less h = omega arith
    go Same h = omega arith
    go Greater h = omega (arith, h)

pub in_print_order-length : (ms : List (List Col)) → length (in_print_order ms) ≤ length ms
in_print_order-length [] = omega arith
in_print_order-length (m ∷ ms) =
    let a : length (with_mono m (in_print_order ms)) ≤ suc (length (in_print_order ms)) = with_mono-length m (in_print_order ms) in
    let b : length (in_print_order ms) ≤ length ms = in_print_order-length ms in
    omega (arith, a, b)

pub poly_from-among : (k place : ℕ) (line : List ℤ) (m : List Col) → place + length line ≤ k + 1 → is_among m (keys_of (poly_from place line).terms) ≡ true → is_among m (entry_columns k) ≡ true
poly_from-among k place [] m h e = absurd (false≢true e)
poly_from-among k place (z ∷ []) m h e = absurd (false≢true e)
poly_from-among k place (z ∷ (y ∷ zs)) m h e = go (int_eq z (pos 0)) e (poly_from-among k (place + 1) (y ∷ zs) m (omega (arith, h)))
  where
    own : (b : Bool) → eq_by_cmp mono_cmp m (At place ∷ []) ≡ b → cond b true (is_among m (keys_of (poly_from (place + 1) (y ∷ zs)).terms)) ≡ true
        → (is_among m (keys_of (poly_from (place + 1) (y ∷ zs)).terms) ≡ true → is_among m (entry_columns k) ≡ true) → is_among m (entry_columns k) ≡ true
    own true f g rest = ap (λ (n : List Col). is_among n (entry_columns k)) (same_mono m (At place ∷ []) f) ∙ entry-among k place (omega (arith, h))
    own false f g rest = rest g

    go : (b : Bool) → is_among m (keys_of (cond b (poly_from (place + 1) (y ∷ zs)).terms ((At place ∷ [], z) ∷ (poly_from (place + 1) (y ∷ zs)).terms))) ≡ true
        → (is_among m (keys_of (poly_from (place + 1) (y ∷ zs)).terms) ≡ true → is_among m (entry_columns k) ≡ true) → is_among m (entry_columns k) ≡ true
    go true g rest = rest g
    go false g rest = own (eq_by_cmp mono_cmp m (At place ∷ [])) refl g rest

equations-among : (k : ℕ) (lines : List (List ℤ)) (m : List Col) → AllByRecursion (λ (line : List ℤ). length line ≡ k + 1) lines → is_among m (monos_of (map equation_of lines) []) ≡ true → is_among m (entry_columns k) ≡ true
equations-among k [] m h e = absurd (false≢true e)
equations-among k (line ∷ lines) m h e = either (keys_of (poly_from 0 line).terms) (poly_from-among k 0 line m (let w : length line ≡ k + 1 = h.0 in omega (arith, w))) (equations-among k lines m h.1) e
  where
    either : (ks : List (List Col)) → (is_among m ks ≡ true → is_among m (entry_columns k) ≡ true) → (is_among m (monos_of (map equation_of lines) []) ≡ true → is_among m (entry_columns k) ≡ true)
        → is_among m (ks ++ monos_of (map equation_of lines) []) ≡ true → is_among m (entry_columns k) ≡ true
    either [] own rest g = rest g
    either (n ∷ ks) own rest g = go (eq_by_cmp mono_cmp m n) own (λ f. either ks f rest) g
      where
        go : (b : Bool) → (cond b true (is_among m ks) ≡ true → is_among m (entry_columns k) ≡ true)
            → ((is_among m ks ≡ true → is_among m (entry_columns k) ≡ true) → is_among m (ks ++ monos_of (map equation_of lines) []) ≡ true → is_among m (entry_columns k) ≡ true)
            → cond b true (is_among m (ks ++ monos_of (map equation_of lines) [])) ≡ true → is_among m (entry_columns k) ≡ true
        go true f more h = f refl
        go false f more h = more f h

pub few_columns : (k : ℕ) (lines : List (List ℤ)) → AllByRecursion (λ (line : List ℤ). length line ≡ k + 1) lines → length (columns (map equation_of lines) []) ≤ k
few_columns k lines h =
    let a : length (columns (map equation_of lines) []) ≤ length (in_print_order (entry_columns k)) = fewer_columns (monos_of (map equation_of lines) []) (entry_columns k) (λ m e. equations-among k lines m h e) in
    let b : length (in_print_order (entry_columns k)) ≤ length (entry_columns k) = in_print_order-length (entry_columns k) in
    let c : length (entry_columns k) ≡ k = entry-length k in
    omega (arith, a, b, c)
