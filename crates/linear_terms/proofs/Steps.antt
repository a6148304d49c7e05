-- What the loops over terms share.
use Rattle.std.proofs.Common.{◌≡◌, ℕ, ◌+◌, ◌-◌, ◌<◌, ◌≤◌, length, take, drop, get_or, subst, Option, Some, None, ℤ, pos, Bool, All, true, false, cond, List, [], ◌∷◌, ◌++◌, Result, Ok, Err, refl, sym, ap, ◌∙◌, append_assoc, append-nil, arith}
use Rattle.std.specs.Prelude.{IsTrue, ◌↔◌}
use Rattle.std.specs.Ordering.{int_eq}
use Rattle.std.proofs.lemmas.Bool.{false≢true}
use Rattle.std.proofs.Math.Seq.{take-length}
use Rattle.std.proofs.lemmas.List.{drop_more, drop_all}
use Rattle.items.specs.Gives.{◌>>=◌, FailsBy}
use Rattle.items.proofs.Gives.{FailsBy-bind}
use Rattle.linear_terms.proofs.Lookups.{changed}
use Rattle.linear_terms.specs.declared.col.Col.{Col}
use Rattle.linear_terms.specs.declared.error.TermError.{TermError}
use Rattle.linear_terms.specs.TermError.{plus, times}
use Rattle.linear_terms.specs.Polynomial.{Terms, Polynomial, constant_of}
use Rattle.linear_terms.specs.Operations.{with_term, times_each, multiple_of, product_on, put, put_all, put_term, add_product, add_row, add_rows, put_part, substituted_monomial, sum_of_polys, add_substituted, substituted_polynomial}

-- terms before those that are still to be made
abbrev pub with_front : Terms → Result Terms TermError → Result Terms TermError
with_front front made = made >>= λ ts. Ok (front ++ ts)

pub with_front-nil : (made : Result Terms TermError) → with_front [] made ≡ made
with_front-nil (Ok ts) = refl
with_front-nil (Err e) = refl

pub with_front-kept : (front : Terms) (m : List Col) (c : ℤ) (made : Result Terms TermError) → int_eq c (pos 0) ≡ false → with_front front (made >>= λ ts. Ok (with_term m c ts)) ≡ with_front (front ++ (m, c) ∷ []) made
with_front-kept front m c (Ok ts) test =
    ap (λ b. Ok (front ++ cond b ts ((m, c) ∷ ts))) test ∙ ap (λ l. Ok l) (sym (append_assoc front ((m, c) ∷ []) ts))
with_front-kept front m c (Err e) test = refl

pub with_front-dropped : (front : Terms) (m : List Col) (c : ℤ) (made : Result Terms TermError) → int_eq c (pos 0) ≡ true → with_front front (made >>= λ ts. Ok (with_term m c ts)) ≡ with_front front made
with_front-dropped front m c (Ok ts) test = ap (λ b. Ok (front ++ cond b ts ((m, c) ∷ ts))) test
with_front-dropped front m c (Err e) test = refl

pub with_front-one : (front : Terms) (m : List Col) (c : ℤ) (made : Result Terms TermError) → with_front front (made >>= λ ts. Ok (with_term m c ts)) ≡ with_front (front ++ with_term m c []) made
with_front-one front m c made = go (int_eq c (pos 0)) refl
  where
    go : (b : Bool) → int_eq c (pos 0) ≡ b → with_front front (made >>= λ ts. Ok (with_term m c ts)) ≡ with_front (front ++ with_term m c []) made
    go true test = with_front-dropped front m c made test ∙ ap (λ l. with_front l made) (sym (ap (λ b. front ++ cond b [] ((m, c) ∷ [])) test ∙ append-nil front))
    go false test = with_front-kept front m c made test ∙ ap (λ l. with_front l made) (sym (ap (λ b. front ++ cond b [] ((m, c) ∷ [])) test))

-- ---- the loops of the product

-- what is left at an index begins with the item there
pub at_index : (items : Terms) (i : ℕ) (t : List Col × ℤ) → i < length items → t ≡ get_or items i t → drop i items ≡ t ∷ drop (i + 1) items
at_index items i t h e = drop_more items i t h ∙ ap (λ u. u ∷ drop (i + 1) items) (sym e)

pub add_row-next : (m : List Col) (c : ℤ) (items last : Terms) (i : ℕ) (t : List Col × ℤ) (sum made : Polynomial) → i < length items → t ≡ get_or items i t → add_product m c t.0 t.1 sum ≡ Ok made → add_row m c (drop i items ++ last) sum ≡ add_row m c (drop (i + 1) items ++ last) made
add_row-next m c items last i t sum made h e f =
    ap (λ l. add_row m c (l ++ last) sum) (at_index items i t h e) ∙ ap (λ r. r >>= λ next. add_row m c (drop (i + 1) items ++ last) next) f

pub add_row-failed : (m : List Col) (c : ℤ) (items last : Terms) (i : ℕ) (t : List Col × ℤ) (sum : Polynomial) (fault : Option TermError) → i < length items → t ≡ get_or items i t → FailsBy fault (add_product m c t.0 t.1 sum) → FailsBy fault (add_row m c (drop i items ++ last) sum)
add_row-failed m c items last i t sum fault h e f =
    subst (λ l. FailsBy fault (add_row m c (l ++ last) sum)) (sym (at_index items i t h e))
    (FailsBy-bind fault (add_product m c t.0 t.1 sum) (λ next. add_row m c (drop (i + 1) items ++ last) next) f)

-- the constant's part, which is the last
pub add_row-last : (m : List Col) (c r : ℤ) (items : Terms) (i : ℕ) (sum : Polynomial) → length items ≤ i → add_row m c (drop i items ++ ([], r) ∷ []) sum ≡ add_product m c [] r sum
add_row-last m c r items i sum h = ap (λ l. add_row m c (l ++ ([], r) ∷ []) sum) (drop_all i items h) ∙ once (add_product m c [] r sum)
  where
    once : (s : Result Polynomial TermError) → s >>= (λ made. Ok made) ≡ s
    once (Ok p) = refl
    once (Err e) = refl

pub add_rows-last : (r : ℤ) (items others : Terms) (i : ℕ) (sum made : Polynomial) → length items ≤ i → add_row [] r others sum ≡ Ok made → add_rows (drop i items ++ ([], r) ∷ []) others sum ≡ Ok made
add_rows-last r items others i sum made h e =
    ap (λ l. add_rows (l ++ ([], r) ∷ []) others sum) (drop_all i items h) ∙ ap (λ s. s >>= λ next. add_rows [] others next) e

-- ---- the loop of the multiple

pub times_each-next : (by : ℤ) (items front : Terms) (i : ℕ) (t : List Col × ℤ) (c : ℤ) → i < length items → t ≡ get_or items i t → times t.1 by ≡ Ok c → with_front front (times_each (drop i items) by) ≡ with_front (front ++ with_term t.0 c []) (times_each (drop (i + 1) items) by)
times_each-next by items front i t c h e f =
    ap (λ l. with_front front (times_each l by)) (at_index items i t h e)
    ∙ ap (λ r. with_front front (r >>= λ d. times_each (drop (i + 1) items) by >>= λ made. Ok (with_term t.0 d made))) f
    ∙ with_front-one front t.0 c (times_each (drop (i + 1) items) by)

-- ---- the loop of the substitution

-- one term, and then the others
add_substituted-one : (put_in : Col → Polynomial) (t : List Col × ℤ) (ts : Terms) (sum : Polynomial) → add_substituted put_in (t ∷ ts) sum ≡ (add_substituted put_in (t ∷ []) sum >>= λ made. add_substituted put_in ts made)
add_substituted-one put_in t ts sum = go (substituted_monomial put_in t.0 t.1)
  where
    after : (s : Result Polynomial TermError) → (s >>= λ made. add_substituted put_in ts made) ≡ ((s >>= λ made. Ok made) >>= λ made. add_substituted put_in ts made)
    after (Ok p) = refl
    after (Err e) = refl

    go : (r : Result Polynomial TermError) → (r >>= λ term. sum_of_polys sum term >>= λ made. add_substituted put_in ts made) ≡ ((r >>= λ term. sum_of_polys sum term >>= λ made. Ok made) >>= λ made. add_substituted put_in ts made)
    go (Ok term) = after (sum_of_polys sum term)
    go (Err e) = refl

substituted-step : (put_in : Col → Polynomial) (items : Terms) (i : ℕ) (t : List Col × ℤ) (sum : Polynomial) → i < length items → t ≡ get_or items i t → add_substituted put_in (drop i items) sum ≡ (add_substituted put_in (t ∷ []) sum >>= λ made. add_substituted put_in (drop (i + 1) items) made)
substituted-step put_in items i t sum h e = ap (λ l. add_substituted put_in l sum) (at_index items i t h e) ∙ add_substituted-one put_in t (drop (i + 1) items) sum

pub substituted-next : (put_in : Col → Polynomial) (items : Terms) (i : ℕ) (t : List Col × ℤ) (sum made : Polynomial) → i < length items → t ≡ get_or items i t → add_substituted put_in (t ∷ []) sum ≡ Ok made → add_substituted put_in (drop i items) sum ≡ add_substituted put_in (drop (i + 1) items) made
substituted-next put_in items i t sum made h e f =
    substituted-step put_in items i t sum h e ∙ ap (λ r. r >>= λ next. add_substituted put_in (drop (i + 1) items) next) f

pub substituted-last : (put_in : Col → Polynomial) (a : Polynomial) (r : ℤ) (items : Terms) (i : ℕ) (sum : Polynomial) → length items ≤ i → add_substituted put_in (drop i items) sum ≡ add_substituted put_in a.terms (constant_of (pos 0)) → r ≡ a.rest → substituted_polynomial put_in a ≡ put_part [] r sum
substituted-last put_in a r items i sum h e f =
    ap (λ s. s >>= λ p. put_part [] a.rest p) (sym e ∙ ap (λ l. add_substituted put_in l sum) (drop_all i items h)) ∙ ap (λ x. put_part [] x sum) (sym f)

pub substituted-failed : (put_in : Col → Polynomial) (a : Polynomial) (items : Terms) (i : ℕ) (t : List Col × ℤ) (sum : Polynomial) (fault : Option TermError) → i < length items → t ≡ get_or items i t → add_substituted put_in (drop i items) sum ≡ add_substituted put_in a.terms (constant_of (pos 0)) → FailsBy fault (add_substituted put_in (t ∷ []) sum) → FailsBy fault (substituted_polynomial put_in a)
substituted-failed put_in a items i t sum fault h e same fails =
    FailsBy-bind fault (add_substituted put_in a.terms (constant_of (pos 0))) (λ p. put_part [] a.rest p)
    (subst (λ r. FailsBy fault r) (sym (substituted-step put_in items i t sum h e) ∙ same)
    (FailsBy-bind fault (add_substituted put_in (t ∷ []) sum) (λ next. add_substituted put_in (drop (i + 1) items) next) fails))

-- one column, and then the others
pub replaced-more : (put_in : Col → Polynomial) (columns : List Col) (c : ℤ) (d : Col) (first product : Polynomial) → 1 ≤ length columns → first ≡ put_in (get_or columns 0 d) → product_on put_in first (take (length columns - 1) (drop 1 columns)) ≡ Ok product → substituted_monomial put_in columns c ≡ multiple_of product c
replaced-more put_in [] c d first product some e f = absurd (omega arith)
replaced-more put_in (x ∷ m) c d first product some e f =
    let count : length (x ∷ m) - 1 ≡ length m = omega arith in
    let others : take (length (x ∷ m) - 1) m ≡ m = ap (λ n. take n m) count ∙ take-length m in
    ap (λ r. r >>= λ p. multiple_of p c) (ap (λ p. product_on put_in p m) (sym e) ∙ ap (product_on put_in first) (sym others) ∙ f)

-- ---- the loop that adds a polynomial to a sum

put_term-made : (m : List Col) (c : ℤ) (p q : Polynomial) → put_term m c p ≡ Ok q → (put m c p.terms ≡ Ok q.terms) × (q.rest ≡ p.rest)
put_term-made m c p q e = go (put m c p.terms) e
  where
    go : (r : Result Terms TermError) → r >>= (λ ts. Ok (changed p ts)) ≡ Ok q → (r ≡ Ok q.terms) × (q.rest ≡ p.rest)
    go (Ok ts) f = let same : changed p ts ≡ q = cc in (ap (λ u. Ok u.terms) same, sym (ap (λ u. u.rest) same))
    go (Err d) f = cc

put_term-failed : (m : List Col) (c : ℤ) (p : Polynomial) (fault : Option TermError) → FailsBy fault (put_term m c p) → FailsBy fault (put m c p.terms)
put_term-failed m c p fault e = go fault (put m c p.terms) e
  where
    go : (f : Option TermError) (r : Result Terms TermError) → FailsBy f (r >>= λ ts. Ok (changed p ts)) → FailsBy f r
    go None r g = tt
    go (Some d) (Ok ts) g = cc
    go (Some d) (Err x) g = let same : x ≡ d = cc in ap (λ y. Err y) same

pub total-next : (items : Terms) (i : ℕ) (t : List Col × ℤ) (sum made : Polynomial) → i < length items → t ≡ get_or items i t → put_term t.0 t.1 sum ≡ Ok made → (put_all sum.terms (drop i items) ≡ put_all made.terms (drop (i + 1) items)) × (made.rest ≡ sum.rest)
total-next items i t sum made h e f =
    let parts = put_term-made t.0 t.1 sum made f in
    (ap (put_all sum.terms) (at_index items i t h e) ∙ ap (λ r. r >>= λ next. put_all next (drop (i + 1) items)) parts.0, parts.1)

pub total-failed : (before sum poly : Polynomial) (items : Terms) (i : ℕ) (t : List Col × ℤ) (fault : Option TermError) → i < length items → t ≡ get_or items i t → put_all sum.terms (drop i items) ≡ put_all before.terms poly.terms → FailsBy fault (put_term t.0 t.1 sum) → FailsBy fault (sum_of_polys before poly)
total-failed before sum poly items i t fault h e same fails =
    FailsBy-bind fault (put_all before.terms poly.terms) (λ ts. plus before.rest poly.rest >>= λ r. Ok record { terms = ts; rest = r })
    (subst (λ r. FailsBy fault r) (sym (ap (put_all sum.terms) (at_index items i t h e)) ∙ same)
    (FailsBy-bind fault (put t.0 t.1 sum.terms) (λ next. put_all next (drop (i + 1) items)) (put_term-failed t.0 t.1 sum fault fails)))

abbrev make : Terms → ℤ → Polynomial
make ts x = record { terms = ts; rest = x }

-- what is left is the constant
pub total-last : (before sum poly : Polynomial) (items : Terms) (i : ℕ) (r : ℤ) → length items ≤ i → put_all sum.terms (drop i items) ≡ put_all before.terms poly.terms → sum.rest ≡ before.rest → r ≡ poly.rest → sum_of_polys before poly ≡ put_part [] r sum
total-last before sum poly items i r h same constant rest =
    ap (λ s. s >>= λ ts. plus before.rest poly.rest >>= λ x. Ok (make ts x)) (sym same ∙ ap (put_all sum.terms) (drop_all i items h))
    ∙ ap (λ x. plus x poly.rest >>= λ y. Ok (make sum.terms y)) (sym constant)
    ∙ ap (λ x. plus sum.rest x >>= λ y. Ok (make sum.terms y)) (sym rest)

-- ---- the loop that tests each monomial

pub test_fails : (P : List Col → Type 0) (items : Terms) (i : ℕ) (t : List Col × ℤ) (b : Bool) → i < length items → t ≡ get_or items i t → IsTrue b ↔ P t.0 → b ≡ false → All (λ t. P t.0) items → ⊥
test_fails P items i t b h e test fails all = false≢true (sym fails ∙ test.1 (subst (λ u. P u.0) (sym e) (all i t h)))
