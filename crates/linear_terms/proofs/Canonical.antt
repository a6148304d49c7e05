-- Terms in print order without zeros, and that the operations keep them so.
use Rattle.std.proofs.Common.{◌≡◌, Bool, true, false, cond, ℤ, pos, negsuc, ◌+◌, length, List, [], ◌∷◌, ◌++◌, ◌≢◌, Result, Ok, Err, refl, sym, ap, subst, ◌∙◌}
use Rattle.std.specs.Prelude.{nat_lt}
use Rattle.std.specs.List.{AllByRecursion, filter}
use Rattle.std.specs.List.Sorted.{IsStrictlySortedBy}
use Rattle.std.specs.Map.{keys_of}
use Rattle.std.specs.Ordering.{int_eq, match_ordering, ordering_reverse}
use Rattle.std.specs.declared.cmp.Ordering.{Ordering}
use Rattle.std.specs.declared.cmp.Ordering.TheVariants.{Less, Equal, Greater}
use Rattle.std.proofs.lemmas.Bool.{false≢true}
use Rattle.std.proofs.lemmas.Bool.Decides.{Decides-int_eq}
use Rattle.items.specs.Gives.{◌>>=◌}
use Rattle.items.proofs.Gives.{on_ok}
use Rattle.linear_terms.specs.declared.col.Col.{Col}
use Rattle.linear_terms.specs.declared.error.TermError.{TermError}
use Rattle.linear_terms.specs.declared.error.TermError.TheVariants.{Degree}
use Rattle.linear_terms.specs.TermError.{plus, times}
use Rattle.linear_terms.specs.Mono.{mono_cmp, in_order}
use Rattle.linear_terms.specs.MonoOrder.{mono_cmp_total}
use Rattle.linear_terms.specs.Polynomial.{Terms, Polynomial, IsCanonical, constant_of}
use Rattle.linear_terms.specs.Operations.{with_term, put, put_all, sum_of_polys, times_each, multiple_of, difference_of_polys, parts, put_part, add_product, add_row, add_rows, product_of_polys, substituted_monomial, add_substituted, substituted_polynomial}

abbrev done : {X : Type 0} → X → Result X TermError
done x = Ok x

-- ---- one term and the others

-- m stands before each of the terms
abbrev pub Before : List Col → Terms → Type 0
Before m ts = AllByRecursion (λ n. mono_cmp m n ≡ Less) (keys_of ts)

pub IsCanonical-nil : IsCanonical []
unfolding IsStrictlySortedBy
IsCanonical-nil = record { in_print_order = tt; no_zero = tt }

pub IsCanonical-cons : (t : List Col × ℤ) (ts : Terms) → Before t.0 ts → t.1 ≢ pos 0 → IsCanonical ts → IsCanonical (t ∷ ts)
unfolding IsStrictlySortedBy
IsCanonical-cons t ts before some rest = record { in_print_order = (before, rest.in_print_order); no_zero = (some, rest.no_zero) }

pub first_before : (t : List Col × ℤ) (ts : Terms) → IsCanonical (t ∷ ts) → Before t.0 ts
unfolding IsStrictlySortedBy
first_before t ts c = c.in_print_order.0

pub first_some : (t : List Col × ℤ) (ts : Terms) → IsCanonical (t ∷ ts) → t.1 ≢ pos 0
first_some t ts c = c.no_zero.0

pub IsCanonical-tail : (t : List Col × ℤ) (ts : Terms) → IsCanonical (t ∷ ts) → IsCanonical ts
unfolding IsStrictlySortedBy
IsCanonical-tail t ts c = record { in_print_order = c.in_print_order.1; no_zero = c.no_zero.1 }

one_is_some : pos 1 ≢ pos 0
one_is_some e = cc

pub IsCanonical-column : (m : List Col) → IsCanonical ((m, pos 1) ∷ [])
IsCanonical-column m = IsCanonical-cons (m, pos 1) [] tt one_is_some IsCanonical-nil

-- ---- before

pub Before-trans : (m n : List Col) (ts : Terms) → mono_cmp m n ≡ Less → Before n ts → Before m ts
Before-trans m n [] h b = tt
Before-trans m n (t ∷ ts) h b = (mono_cmp_total.trans m n t.0 h b.0, Before-trans m n ts h b.1)

pub reversed : (m n : List Col) (o : Ordering) → mono_cmp m n ≡ o → mono_cmp n m ≡ ordering_reverse o
reversed m n o e = mono_cmp_total.antisymm n m ∙ ap ordering_reverse e

some_kept : (c : ℤ) → int_eq c (pos 0) ≡ false → c ≢ pos 0
some_kept c e f = false≢true (sym e ∙ (Decides-int_eq c (pos 0)).1 f)

Before-kept : (m n : List Col) (c : ℤ) (ts : Terms) → mono_cmp m n ≡ Less → Before m ts → Before m (with_term n c ts)
Before-kept m n c ts h b = go (int_eq c (pos 0))
  where
    go : (z : Bool) → Before m (cond z ts ((n, c) ∷ ts))
    go true = b
    go false = (h, b)

pub IsCanonical-kept : (m : List Col) (c : ℤ) (ts : Terms) → Before m ts → IsCanonical ts → IsCanonical (with_term m c ts)
IsCanonical-kept m c ts b rest = go (int_eq c (pos 0)) refl
  where
    go : (z : Bool) → int_eq c (pos 0) ≡ z → IsCanonical (cond z ts ((m, c) ∷ ts))
    go true e = rest
    go false e = IsCanonical-cons (m, c) ts b (some_kept c e) rest

-- ---- sums

same_made : (P : Terms → Type 0) (ts made : Terms) → (let r : Result Terms TermError = Ok ts in r ≡ Ok made) → P ts → P made
same_made P ts made e p = let same : ts ≡ made = cc in subst P same p

Before-put : (x m : List Col) (c : ℤ) (ts made : Terms) → mono_cmp x m ≡ Less → Before x ts → put m c ts ≡ Ok made → Before x made
Before-put x m c [] made h b e = same_made (Before x) (with_term m c []) made e (Before-kept x m c [] h tt)
Before-put x m c (t ∷ ts) made h b e = go (mono_cmp m t.0) e (λ more f. Before-put x m c ts more h b.1 f)
  where
    go : (o : Ordering) → match_ordering o (Ok (with_term m c (t ∷ ts))) (plus t.1 c >>= λ s. Ok (with_term t.0 s ts)) (put m c ts >>= λ more. Ok (t ∷ more)) ≡ Ok made → ((more : Terms) → put m c ts ≡ Ok more → Before x more) → Before x made
    go Less f ih = same_made (Before x) (with_term m c (t ∷ ts)) made f (Before-kept x m c (t ∷ ts) h b)
    go Equal f ih = on_ok (plus t.1 c) (λ s. Ok (with_term t.0 s ts)) made f (λ s g k. same_made (Before x) (with_term t.0 s ts) made k (Before-kept x t.0 s ts b.0 b.1))
    go Greater f ih = on_ok (put m c ts) (λ more. Ok (t ∷ more)) made f (λ more g k. same_made (Before x) (t ∷ more) made k (b.0, ih more g))

pub IsCanonical-put : (m : List Col) (c : ℤ) (ts made : Terms) → IsCanonical ts → put m c ts ≡ Ok made → IsCanonical made
IsCanonical-put m c [] made k e = same_made IsCanonical (with_term m c []) made e (IsCanonical-kept m c [] tt IsCanonical-nil)
IsCanonical-put m c (t ∷ ts) made k e = go (mono_cmp m t.0) refl e (λ more f. IsCanonical-put m c ts more (IsCanonical-tail t ts k) f)
  where
    go : (o : Ordering) → mono_cmp m t.0 ≡ o → match_ordering o (Ok (with_term m c (t ∷ ts))) (plus t.1 c >>= λ s. Ok (with_term t.0 s ts)) (put m c ts >>= λ more. Ok (t ∷ more)) ≡ Ok made → ((more : Terms) → put m c ts ≡ Ok more → IsCanonical more) → IsCanonical made
    go Less o f ih = same_made IsCanonical (with_term m c (t ∷ ts)) made f (IsCanonical-kept m c (t ∷ ts) (o, Before-trans m t.0 ts o (first_before t ts k)) k)
    go Equal o f ih = on_ok (plus t.1 c) (λ s. Ok (with_term t.0 s ts)) made f (λ s g l. same_made IsCanonical (with_term t.0 s ts) made l (IsCanonical-kept t.0 s ts (first_before t ts k) (IsCanonical-tail t ts k)))
    go Greater o f ih =
        on_ok (put m c ts) (λ more. Ok (t ∷ more)) made f
        (λ more g l. same_made IsCanonical (t ∷ more) made l
        (IsCanonical-cons t more (Before-put t.0 m c ts more (reversed m t.0 Greater o) (first_before t ts k) g) (first_some t ts k) (ih more g)))

pub IsCanonical-put_all : (more ts made : Terms) → IsCanonical ts → put_all ts more ≡ Ok made → IsCanonical made
IsCanonical-put_all [] ts made k e = same_made IsCanonical ts made e k
IsCanonical-put_all (t ∷ more) ts made k e =
    on_ok (put t.0 t.1 ts) (λ next. put_all next more) made e (λ next f g. IsCanonical-put_all more next made (IsCanonical-put t.0 t.1 ts next k f) g)

-- ---- multiples

Before-times_each : (m : List Col) (by : ℤ) (ts made : Terms) → Before m ts → times_each ts by ≡ Ok made → Before m made
Before-times_each m by [] made b e = same_made (Before m) [] made e tt
Before-times_each m by (t ∷ ts) made b e =
    on_ok (times t.1 by) (λ c. times_each ts by >>= λ more. Ok (with_term t.0 c more)) made e
    (λ c f g. on_ok (times_each ts by) (λ more. Ok (with_term t.0 c more)) made g
    (λ more h k. same_made (Before m) (with_term t.0 c more) made k (Before-kept m t.0 c more b.0 (Before-times_each m by ts more b.1 h))))

pub IsCanonical-times_each : (by : ℤ) (ts made : Terms) → IsCanonical ts → times_each ts by ≡ Ok made → IsCanonical made
IsCanonical-times_each by [] made k e = same_made IsCanonical [] made e IsCanonical-nil
IsCanonical-times_each by (t ∷ ts) made k e =
    on_ok (times t.1 by) (λ c. times_each ts by >>= λ more. Ok (with_term t.0 c more)) made e
    (λ c f g. on_ok (times_each ts by) (λ more. Ok (with_term t.0 c more)) made g
    (λ more h l. same_made IsCanonical (with_term t.0 c more) made l
    (IsCanonical-kept t.0 c more (Before-times_each t.0 by ts more (first_before t ts k) h) (IsCanonical-times_each by ts more (IsCanonical-tail t ts k) h))))

-- ---- polynomials

IsCanonical-made : (ts : Terms) (r : ℤ) (p : Polynomial) → done (record { terms = ts; rest = r }) ≡ Ok p → IsCanonical ts → IsCanonical p.terms
IsCanonical-made ts r p e k = let same : record { terms = ts; rest = r } ≡ p = cc in subst IsCanonical (ap (λ q. q.terms) same) k

-- a sum has the terms of its left side in order, and a multiple those of the polynomial
pub IsCanonical-sum_of_polys : (a b p : Polynomial) → sum_of_polys a b ≡ Ok p → IsCanonical a.terms → IsCanonical p.terms
IsCanonical-sum_of_polys a b p e k =
    on_ok (put_all a.terms b.terms) (λ ts. plus a.rest b.rest >>= λ r. Ok record { terms = ts; rest = r }) p e
    (λ ts f g. on_ok (plus a.rest b.rest) (λ r. Ok record { terms = ts; rest = r }) p g
    (λ r h l. IsCanonical-made ts r p l (IsCanonical-put_all b.terms a.terms ts k f)))

pub IsCanonical-multiple_of : (a : Polynomial) (by : ℤ) (p : Polynomial) → multiple_of a by ≡ Ok p → IsCanonical a.terms → IsCanonical p.terms
IsCanonical-multiple_of a by p e k =
    on_ok (times_each a.terms by) (λ ts. times a.rest by >>= λ r. Ok record { terms = ts; rest = r }) p e
    (λ ts f g. on_ok (times a.rest by) (λ r. Ok record { terms = ts; rest = r }) p g
    (λ r h l. IsCanonical-made ts r p l (IsCanonical-times_each by a.terms ts k f)))

pub IsCanonical-difference_of_polys : (a b p : Polynomial) → difference_of_polys a b ≡ Ok p → IsCanonical a.terms → IsCanonical p.terms
IsCanonical-difference_of_polys a b p e k =
    on_ok (multiple_of b (negsuc 0)) (λ turned. sum_of_polys a turned) p e (λ turned f g. IsCanonical-sum_of_polys a turned p g k)

-- ---- products, whatever the factors are

same_poly : (a p : Polynomial) → done a ≡ Ok p → IsCanonical a.terms → IsCanonical p.terms
same_poly a p e k = let same : a ≡ p = cc in subst IsCanonical (ap (λ q. q.terms) same) k

IsCanonical-put_part : (m : List Col) (c : ℤ) (a p : Polynomial) → put_part m c a ≡ Ok p → IsCanonical a.terms → IsCanonical p.terms
IsCanonical-put_part [] c a p e k = on_ok (plus a.rest c) (λ r. Ok record { terms = a.terms; rest = r }) p e (λ r f g. IsCanonical-made a.terms r p g k)
IsCanonical-put_part (x ∷ m) c a p e k =
    on_ok (put (x ∷ m) c a.terms) (λ ts. Ok record { terms = ts; rest = a.rest }) p e
    (λ ts f g. IsCanonical-made ts a.rest p g (IsCanonical-put (x ∷ m) c a.terms ts k f))

IsCanonical-add_product : (m : List Col) (c : ℤ) (n : List Col) (d : ℤ) (a p : Polynomial) → add_product m c n d a ≡ Ok p → IsCanonical a.terms → IsCanonical p.terms
IsCanonical-add_product m c n d a p e k = go (nat_lt 4 (length m + length n)) e
  where
    go : (b : Bool) → cond b (Err Degree) (times c d >>= λ f. put_part (in_order (m ++ n)) f a) ≡ Ok p → IsCanonical p.terms
    go true f = cc
    go false f = on_ok (times c d) (λ g. put_part (in_order (m ++ n)) g a) p f (λ g h l. IsCanonical-put_part (in_order (m ++ n)) g a p l k)

IsCanonical-add_row : (m : List Col) (c : ℤ) (ts : Terms) (a p : Polynomial) → add_row m c ts a ≡ Ok p → IsCanonical a.terms → IsCanonical p.terms
IsCanonical-add_row m c [] a p e k = same_poly a p e k
IsCanonical-add_row m c (t ∷ ts) a p e k =
    on_ok (add_product m c t.0 t.1 a) (λ next. add_row m c ts next) p e
    (λ next f g. IsCanonical-add_row m c ts next p g (IsCanonical-add_product m c t.0 t.1 a next f k))

IsCanonical-add_rows : (ts others : Terms) (a p : Polynomial) → add_rows ts others a ≡ Ok p → IsCanonical a.terms → IsCanonical p.terms
IsCanonical-add_rows [] others a p e k = same_poly a p e k
IsCanonical-add_rows (t ∷ ts) others a p e k =
    on_ok (add_row t.0 t.1 others a) (λ next. add_rows ts others next) p e
    (λ next f g. IsCanonical-add_rows ts others next p g (IsCanonical-add_row t.0 t.1 others a next f k))

pub IsCanonical-product_of_polys : (a b p : Polynomial) → product_of_polys a b ≡ Ok p → IsCanonical p.terms
IsCanonical-product_of_polys a b p e = IsCanonical-add_rows (parts a) (parts b) (constant_of (pos 0)) p e IsCanonical-nil

-- ---- substitutions, whatever is put in

IsCanonical-add_substituted : (put_in : Col → Polynomial) (ts : Terms) (a p : Polynomial) → add_substituted put_in ts a ≡ Ok p → IsCanonical a.terms → IsCanonical p.terms
IsCanonical-add_substituted put_in [] a p e k = same_poly a p e k
IsCanonical-add_substituted put_in (t ∷ ts) a p e k =
    on_ok (substituted_monomial put_in t.0 t.1) (λ term. sum_of_polys a term >>= λ next. add_substituted put_in ts next) p e
    (λ term f g. on_ok (sum_of_polys a term) (λ next. add_substituted put_in ts next) p g
    (λ next h l. IsCanonical-add_substituted put_in ts next p l (IsCanonical-sum_of_polys a term next h k)))

pub IsCanonical-substituted : (put_in : Col → Polynomial) (a p : Polynomial) → substituted_polynomial put_in a ≡ Ok p → IsCanonical p.terms
IsCanonical-substituted put_in a p e =
    on_ok (add_substituted put_in a.terms (constant_of (pos 0))) (λ sum. plus sum.rest a.rest >>= λ r. Ok record { terms = sum.terms; rest = r }) p e
    (λ sum f g. on_ok (plus sum.rest a.rest) (λ r. Ok record { terms = sum.terms; rest = r }) p g
    (λ r h l. IsCanonical-made sum.terms r p l (IsCanonical-add_substituted put_in a.terms (constant_of (pos 0)) sum f IsCanonical-nil)))

-- ---- some of the terms

Before-filter : (test : List Col × ℤ → Bool) (m : List Col) (ts : Terms) → Before m ts → Before m (filter test ts)
Before-filter test m [] b = tt
Before-filter test m (t ∷ ts) b = go (test t) (Before-filter test m ts b.1)
  where
    go : (z : Bool) → Before m (filter test ts) → Before m (cond z (t ∷ filter test ts) (filter test ts))
    go true rest = (b.0, rest)
    go false rest = rest

pub IsCanonical-filter : (test : List Col × ℤ → Bool) (ts : Terms) → IsCanonical ts → IsCanonical (filter test ts)
IsCanonical-filter test [] k = k
IsCanonical-filter test (t ∷ ts) k = go (test t) (IsCanonical-filter test ts (IsCanonical-tail t ts k))
  where
    go : (z : Bool) → IsCanonical (filter test ts) → IsCanonical (cond z (t ∷ filter test ts) (filter test ts))
    go true rest = IsCanonical-cons t (filter test ts) (Before-filter test t.0 ts (first_before t ts k)) (first_some t ts k) rest
    go false rest = rest

-- for the code
pub ruleset canonical = (IsCanonical-nil, IsCanonical-column, IsCanonical-put_all, IsCanonical-times_each)
