-- The rows that say of lines that they are at most -1: their values, their numbers and their
-- columns.
use Rattle.std.proofs.Common.{◌≡◌, ◌⊎◌, ℕ, suc, ◌+◌, ◌<◌, ◌≤◌, Bool, true, false, cond, List, [], ◌∷◌, ◌++◌, map, length, refl, sym, ap, ◌∙◌, arith, ⊎_elim, inl, inr, ℤ, pos, ◌+ℤ◌, ◌*ℤ◌}
use Rattle.std.specs.Prelude.{unsigned_abs}
use Rattle.std.specs.List.{AllByRecursion}
use Rattle.std.specs.Map.{keys_of}
use Rattle.std.specs.Ordering.{eq_by_cmp}
use Rattle.std.proofs.lemmas.Int.{ints}
use Rattle.std.proofs.lemmas.Bool.{false≢true}
use Rattle.std.proofs.lemmas.List.{length-append}
use Rattle.std.proofs.Math.IntN.{zero-*ℤ}
use Rattle.whole_numbers.proofs.Ring.{ring}
use Rattle.linear_terms.specs.declared.col.Col.{Col}
use Rattle.linear_terms.specs.declared.col.Col.TheVariants.{At}
use Rattle.linear_terms.specs.Mono.{mono_cmp}
use Rattle.linear_terms.specs.Polynomial.{Polynomial}
use Rattle.farkas_check.specs.Calm.{paired_sum}
use Rattle.farkas_check.specs.Columns.{monos_of, in_print_order}
use Rattle.farkas_check.specs.Rational.{terms_at}
use Rattle.farkas_check.specs.Relations.{entry}
use Rattle.farkas_check.specs.Sizes.{HasNumbersUpTo}
use Rattle.farkas_check.specs.Tested.{goal_columns}
use Rattle.farkas_check.proofs.Spreads.{is_among}
use Rattle.elimination.specs.Descents.{line_poly, line_row, line_goal}
use Rattle.elimination.specs.Equations.{poly_from}
use Rattle.elimination.proofs.ColumnCounts.{fewer_columns}
use Rattle.elimination.proofs.NullEquations.{kept-value, poly_from-more, poly_from-small, poly_from-among, entry_columns, entry-length, in_print_order-length}

some_numbers : (line : List ℤ) → line ++ pos 1 ∷ [] ≡ [] → ⊥
some_numbers [] e = cc
some_numbers (n ∷ line) e = cc

-- ---- their values

pub line_rest : (k : ℕ) (line : List ℤ) → (poly_from k (line ++ pos 1 ∷ [])).rest ≡ pos 1
line_rest k [] = refl
line_rest k (n ∷ line) = ap (λ (p : Polynomial). p.rest) (poly_from-more k n (line ++ pos 1 ∷ []) (some_numbers line)) ∙ line_rest (k + 1) line

-- the line on numbers that are those of a point up to one factor
pub line_value : (x : List Col → ℤ) (over by : ℤ) (k : ℕ) (line numbers : List ℤ) → length numbers ≡ length line → ((j : ℕ) → j < length line → entry numbers j *ℤ over ≡ x (At (k + j) ∷ []) *ℤ by) → paired_sum line numbers *ℤ over ≡ terms_at x (poly_from k (line ++ pos 1 ∷ [])).terms *ℤ by
line_value x over by k [] numbers same h = zero-*ℤ over ∙ sym (zero-*ℤ by)
line_value x over by k (n ∷ line) [] same h = absurd (omega (arith, same))
line_value x over by k (n ∷ line) (y ∷ numbers) same h =
    parted n y (paired_sum line numbers) over
    ∙ ap (λ z. n *ℤ z +ℤ paired_sum line numbers *ℤ over) (h 0 (omega arith) ∙ ap (λ (j : ℕ). x (At j ∷ []) *ℤ by) (let e : k + 0 ≡ k = omega arith in e))
    ∙ ap (λ z. n *ℤ (x (At k ∷ []) *ℤ by) +ℤ z) (line_value x over by (k + 1) line numbers (omega (arith, same)) (λ j g. h (suc j) (omega (arith, g)) ∙ ap (λ (i : ℕ). x (At i ∷ []) *ℤ by) (let e : k + suc j ≡ k + 1 + j = omega arith in e)))
    ∙ joined n (x (At k ∷ [])) (terms_at x (poly_from (k + 1) (line ++ pos 1 ∷ [])).terms) by
    ∙ ap (λ z. z *ℤ by) (sym (kept-value x (At k ∷ []) n (poly_from (k + 1) (line ++ pos 1 ∷ [])).terms))
    ∙ ap (λ (p : Polynomial). terms_at x p.terms *ℤ by) (sym (poly_from-more k n (line ++ pos 1 ∷ []) (some_numbers line)))
  where
    parted : (n y p o : ℤ) → (n *ℤ y +ℤ p) *ℤ o ≡ n *ℤ (y *ℤ o) +ℤ p *ℤ o
    parted n y p o = simp ring (omega (arith, ints))

    joined : (n v q b : ℤ) → n *ℤ (v *ℤ b) +ℤ q *ℤ b ≡ (n *ℤ v +ℤ q) *ℤ b
    joined n v q b = simp ring (omega (arith, ints))

-- ---- their numbers

pub numbers-small : (line : List ℤ) → AllByRecursion (λ z. unsigned_abs z ≤ 4) line → AllByRecursion (λ z. unsigned_abs z ≤ 4) (line ++ pos 1 ∷ [])
numbers-small [] h = (omega arith, tt)
numbers-small (n ∷ line) h = (h.0, numbers-small line h.1)

pub line-small : (line : List ℤ) → AllByRecursion (λ z. unsigned_abs z ≤ 4) line → HasNumbersUpTo 4 (line_poly line)
line-small line h = poly_from-small 4 0 (line ++ pos 1 ∷ []) (numbers-small line h)

-- ---- their columns

among_parts : (m : List Col) (xs ys : List (List Col)) → is_among m (xs ++ ys) ≡ true → (is_among m xs ≡ true) ⊎ (is_among m ys ≡ true)
among_parts m [] ys h = inr h
among_parts m (x ∷ xs) ys h = go (eq_by_cmp mono_cmp m x) h (among_parts m xs ys)
  where
    go : (b : Bool) → cond b true (is_among m (xs ++ ys)) ≡ true → (is_among m (xs ++ ys) ≡ true → (is_among m xs ≡ true) ⊎ (is_among m ys ≡ true)) → (cond b true (is_among m xs) ≡ true) ⊎ (is_among m ys ≡ true)
    go true k ih = inl refl
    go false k ih = ih k

rows-among : (n : ℕ) (lines : List (List ℤ)) (m : List Col) → AllByRecursion (λ line. length line ≡ n) lines → is_among m (monos_of (map line_row lines) []) ≡ true → is_among m (entry_columns n) ≡ true
rows-among n [] m each h = absurd (false≢true h)
rows-among n (line ∷ lines) m each h =
    ⊎_elim (λ here. poly_from-among n 0 (line ++ pos 1 ∷ []) m (let e : length (line ++ pos 1 ∷ []) ≡ length line + 1 = length-append line (pos 1 ∷ []) in let f : length line ≡ n = each.0 in omega (arith, e, f)) here)
    (λ later. rows-among n lines m each.1 later) (among_parts m (keys_of (line_poly line).terms) (monos_of (map line_row lines) []) h)

-- there are no more columns than numbers in a line
pub few_columns : (lines : List (List ℤ)) (n : ℕ) → AllByRecursion (λ line. length line ≡ n) lines → length (goal_columns (line_goal lines)) ≤ n
few_columns lines n each =
    let fewer : length (in_print_order (monos_of (map line_row lines) [])) ≤ length (in_print_order (entry_columns n)) = fewer_columns (monos_of (map line_row lines) []) (entry_columns n) (λ m h. rows-among n lines m each h) in
    let few : length (in_print_order (entry_columns n)) ≤ length (entry_columns n) = in_print_order-length (entry_columns n) in
    let many : length (entry_columns n) ≡ n = entry-length n in
    omega (arith, fewer, few, many)
