-- The columns of what an operation answers are among those of its operands: what holds of each
-- column of these holds of each of its own.
use Rattle.std.proofs.Common.{◌≡◌, Bool, true, false, cond, ℤ, pos, List, [], ◌∷◌, ◌++◌, ◌+◌, length, fold, Result, Ok, Err, ap, subst}
use Rattle.std.specs.Prelude.{nat_lt}
use Rattle.std.specs.List.{AllByRecursion}
use Rattle.std.specs.Ordering.{int_eq, is_lt, match_ordering}
use Rattle.std.specs.declared.cmp.Ordering.{Ordering}
use Rattle.std.specs.declared.cmp.Ordering.TheVariants.{Less, Equal, Greater}
use Rattle.items.specs.Gives.{◌>>=◌}
use Rattle.items.proofs.Gives.{on_ok}
use Rattle.linear_terms.specs.declared.col.Col.{Col}
use Rattle.linear_terms.specs.declared.error.TermError.{TermError}
use Rattle.linear_terms.specs.declared.error.TermError.TheVariants.{Degree}
use Rattle.linear_terms.specs.Col.{col_cmp}
use Rattle.linear_terms.specs.TermError.{plus, times}
use Rattle.linear_terms.specs.Mono.{mono_cmp, with_column, in_order}
use Rattle.linear_terms.specs.Polynomial.{Terms, Polynomial, constant_of}
use Rattle.linear_terms.specs.Operations.{with_term, put, put_all, sum_of_polys, times_each, multiple_of, parts, put_part, add_product, add_row, add_rows, product_of_polys, product_on, product_in, substituted_monomial, add_substituted, substituted_polynomial}

-- each column of each term has the property
abbrev pub EachColumn : (Col → Type 0) → Terms → Type 0
EachColumn P ts = AllByRecursion (λ t. AllByRecursion P t.0) ts

pub each-append : {A : Type 0} (P : A → Type 0) (xs ys : List A) → AllByRecursion P xs → AllByRecursion P ys → AllByRecursion P (xs ++ ys)
each-append P [] ys h k = k
each-append P (x ∷ xs) ys h k = (h.0, each-append P xs ys h.1 k)

abbrev done : {X : Type 0} → X → Result X TermError
done x = Ok x

ended : (ts : Terms) (r : ℤ) (p : Polynomial) (P : Col → Type 0) → done (record { terms = ts; rest = r }) ≡ Ok p → EachColumn P ts → EachColumn P p.terms
ended ts r p P e h = let same : record { terms = ts; rest = r } ≡ p = cc in subst (EachColumn P) (ap (λ q. q.terms) same) h

module _ (P : Col → Type 0) where
  placed-each : (m : List Col) (c : Col) → AllByRecursion P m → P c → AllByRecursion P (with_column m c)
  placed-each [] c h k = (k, tt)
  placed-each (d ∷ m) c h k = go (is_lt (col_cmp c d)) (placed-each m d h.1 h.0) (placed-each m c h.1 k)
    where
      go : (b : Bool) → AllByRecursion P (with_column m d) → AllByRecursion P (with_column m c) → AllByRecursion P (cond b (c ∷ with_column m d) (d ∷ with_column m c))
      go true f g = (k, f)
      go false f g = (h.0, g)

  fold-each : (front m : List Col) → AllByRecursion P front → AllByRecursion P m → AllByRecursion P (fold with_column front m)
  fold-each front [] h k = h
  fold-each front (c ∷ m) h k = fold-each (with_column front c) m (placed-each front c h k.0) k.1

  kept-each : (m : List Col) (c : ℤ) (ts : Terms) → AllByRecursion P m → EachColumn P ts → EachColumn P (with_term m c ts)
  kept-each m c ts h k = go (int_eq c (pos 0))
    where
      go : (b : Bool) → EachColumn P (cond b ts ((m, c) ∷ ts))
      go true = k
      go false = (h, k)

  put-each : (m : List Col) (c : ℤ) (ts made : Terms) → put m c ts ≡ Ok made → AllByRecursion P m → EachColumn P ts → EachColumn P made
  put-each m c [] made e h k = let same : with_term m c [] ≡ made = cc in subst (EachColumn P) same (kept-each m c [] h tt)
  put-each m c (t ∷ ts) made e h k = go (mono_cmp m t.0) e (λ more f. put-each m c ts more f h k.1)
    where
      go : (o : Ordering) → match_ordering o (Ok (with_term m c (t ∷ ts))) (plus t.1 c >>= λ s. Ok (with_term t.0 s ts)) (put m c ts >>= λ more. Ok (t ∷ more)) ≡ Ok made → ((more : Terms) → put m c ts ≡ Ok more → EachColumn P more) → EachColumn P made
      go Less f ih = let same : with_term m c (t ∷ ts) ≡ made = cc in subst (EachColumn P) same (kept-each m c (t ∷ ts) h k)
      go Equal f ih = on_ok (plus t.1 c) (λ s. Ok (with_term t.0 s ts)) made f (λ s g l. let same : with_term t.0 s ts ≡ made = cc in subst (EachColumn P) same (kept-each t.0 s ts k.0 k.1))
      go Greater f ih = on_ok (put m c ts) (λ more. Ok (t ∷ more)) made f (λ more g l. let same : t ∷ more ≡ made = cc in subst (EachColumn P) same (k.0, ih more g))

  put_all-each : (more ts made : Terms) → put_all ts more ≡ Ok made → EachColumn P ts → EachColumn P more → EachColumn P made
  put_all-each [] ts made e h k = let same : ts ≡ made = cc in subst (EachColumn P) same h
  put_all-each (t ∷ more) ts made e h k =
      on_ok (put t.0 t.1 ts) (λ next. put_all next more) made e (λ next f g. put_all-each more next made g (put-each t.0 t.1 ts next f k.0 h) k.1)

  pub sum_of_polys-each : (a b p : Polynomial) → sum_of_polys a b ≡ Ok p → EachColumn P a.terms → EachColumn P b.terms → EachColumn P p.terms
  sum_of_polys-each a b p e h k =
      on_ok (put_all a.terms b.terms) (λ ts. plus a.rest b.rest >>= λ r. Ok record { terms = ts; rest = r }) p e
      (λ ts f g. on_ok (plus a.rest b.rest) (λ r. Ok record { terms = ts; rest = r }) p g
      (λ r l n. ended ts r p P n (put_all-each b.terms a.terms ts f h k)))

  times_each-each : (ts : Terms) (by : ℤ) (made : Terms) → times_each ts by ≡ Ok made → EachColumn P ts → EachColumn P made
  times_each-each [] by made e h = let same : [] ≡ made = cc in subst (EachColumn P) same tt
  times_each-each (t ∷ ts) by made e h =
      on_ok (times t.1 by) (λ c. times_each ts by >>= λ more. Ok (with_term t.0 c more)) made e
      (λ c f g. on_ok (times_each ts by) (λ more. Ok (with_term t.0 c more)) made g
      (λ more l n. let same : with_term t.0 c more ≡ made = cc in subst (EachColumn P) same (kept-each t.0 c more h.0 (times_each-each ts by more l h.1))))

  pub multiple_of-each : (a : Polynomial) (by : ℤ) (p : Polynomial) → multiple_of a by ≡ Ok p → EachColumn P a.terms → EachColumn P p.terms
  multiple_of-each a by p e h =
      on_ok (times_each a.terms by) (λ ts. times a.rest by >>= λ r. Ok record { terms = ts; rest = r }) p e
      (λ ts f g. on_ok (times a.rest by) (λ r. Ok record { terms = ts; rest = r }) p g
      (λ r l n. ended ts r p P n (times_each-each a.terms by ts f h)))

  parts-each : (a : Polynomial) → EachColumn P a.terms → EachColumn P (parts a)
  parts-each a h = each-append (λ t. AllByRecursion P t.0) a.terms (([], a.rest) ∷ []) h (tt, tt)

  put_part-each : (m : List Col) (c : ℤ) (a p : Polynomial) → put_part m c a ≡ Ok p → AllByRecursion P m → EachColumn P a.terms → EachColumn P p.terms
  put_part-each [] c a p e h k = on_ok (plus a.rest c) (λ r. Ok record { terms = a.terms; rest = r }) p e (λ r f g. ended a.terms r p P g k)
  put_part-each (x ∷ m) c a p e h k =
      on_ok (put (x ∷ m) c a.terms) (λ ts. Ok record { terms = ts; rest = a.rest }) p e (λ ts f g. ended ts a.rest p P g (put-each (x ∷ m) c a.terms ts f h k))

  add_product-each : (m : List Col) (c : ℤ) (n : List Col) (d : ℤ) (a p : Polynomial) → add_product m c n d a ≡ Ok p → AllByRecursion P m → AllByRecursion P n → EachColumn P a.terms → EachColumn P p.terms
  add_product-each m c n d a p e h k l = go (nat_lt 4 (length m + length n)) e
    where
      go : (b : Bool) → cond b (Err Degree) (times c d >>= λ f. put_part (in_order (m ++ n)) f a) ≡ Ok p → EachColumn P p.terms
      go true f = cc
      go false f = on_ok (times c d) (λ g. put_part (in_order (m ++ n)) g a) p f (λ g x y. put_part-each (in_order (m ++ n)) g a p y (fold-each [] (m ++ n) tt (each-append P m n h k)) l)

  add_row-each : (m : List Col) (c : ℤ) (ts : Terms) (a p : Polynomial) → add_row m c ts a ≡ Ok p → AllByRecursion P m → EachColumn P ts → EachColumn P a.terms → EachColumn P p.terms
  add_row-each m c [] a p e h k l = let same : a ≡ p = cc in subst (λ q. EachColumn P q.terms) same l
  add_row-each m c (t ∷ ts) a p e h k l =
      on_ok (add_product m c t.0 t.1 a) (λ next. add_row m c ts next) p e (λ next f g. add_row-each m c ts next p g h k.1 (add_product-each m c t.0 t.1 a next f h k.0 l))

  add_rows-each : (ts others : Terms) (a p : Polynomial) → add_rows ts others a ≡ Ok p → EachColumn P ts → EachColumn P others → EachColumn P a.terms → EachColumn P p.terms
  add_rows-each [] others a p e h k l = let same : a ≡ p = cc in subst (λ q. EachColumn P q.terms) same l
  add_rows-each (t ∷ ts) others a p e h k l =
      on_ok (add_row t.0 t.1 others a) (λ next. add_rows ts others next) p e (λ next f g. add_rows-each ts others next p g h.1 k (add_row-each t.0 t.1 others a next f h.0 k l))

  pub product_of_polys-each : (a b p : Polynomial) → product_of_polys a b ≡ Ok p → EachColumn P a.terms → EachColumn P b.terms → EachColumn P p.terms
  product_of_polys-each a b p e h k = add_rows-each (parts a) (parts b) (constant_of (pos 0)) p e (parts-each a h) (parts-each b k) tt

-- ---- substitution: each column that is replaced has the one property, and each column put in for
-- such a one the other

module _ (P Q : Col → Type 0) (put_in : Col → Polynomial) (covers : (c : Col) → P c → EachColumn Q (put_in c).terms) where
  product_on-each : (m : List Col) (made p : Polynomial) → product_on put_in made m ≡ Ok p → AllByRecursion P m → EachColumn Q made.terms → EachColumn Q p.terms
  product_on-each [] made p e h k = let same : made ≡ p = cc in subst (λ q. EachColumn Q q.terms) same k
  product_on-each (c ∷ m) made p e h k =
      on_ok (product_of_polys made (put_in c)) (λ next. product_on put_in next m) p e (λ next f g. product_on-each m next p g h.1 (product_of_polys-each Q made (put_in c) next f k (covers c h.0)))

  product_in-each : (m : List Col) (p : Polynomial) → product_in put_in m ≡ Ok p → AllByRecursion P m → EachColumn Q p.terms
  product_in-each [] p e h = let same : constant_of (pos 1) ≡ p = cc in subst (λ q. EachColumn Q q.terms) same tt
  product_in-each (c ∷ m) p e h = product_on-each m (put_in c) p e h.1 (covers c h.0)

  add_substituted-each : (ts : Terms) (a p : Polynomial) → add_substituted put_in ts a ≡ Ok p → EachColumn P ts → EachColumn Q a.terms → EachColumn Q p.terms
  add_substituted-each [] a p e h k = let same : a ≡ p = cc in subst (λ q. EachColumn Q q.terms) same k
  add_substituted-each (t ∷ ts) a p e h k =
      on_ok (substituted_monomial put_in t.0 t.1) (λ term. sum_of_polys a term >>= λ next. add_substituted put_in ts next) p e
      (λ term f g. on_ok (sum_of_polys a term) (λ next. add_substituted put_in ts next) p g
      (λ next l n. on_ok (product_in put_in t.0) (λ product. multiple_of product t.1) term f
      (λ product x y. add_substituted-each ts next p n h.1 (sum_of_polys-each Q a term next l k (multiple_of-each Q product t.1 term y (product_in-each t.0 product x h.0))))))

  pub substituted-each : (a p : Polynomial) → substituted_polynomial put_in a ≡ Ok p → EachColumn P a.terms → EachColumn Q p.terms
  substituted-each a p e h =
      on_ok (add_substituted put_in a.terms (constant_of (pos 0))) (λ sum. plus sum.rest a.rest >>= λ r. Ok record { terms = sum.terms; rest = r }) p e
      (λ sum f g. on_ok (plus sum.rest a.rest) (λ r. Ok record { terms = sum.terms; rest = r }) p g
      (λ r l n. ended sum.terms r p Q n (add_substituted-each a.terms (constant_of (pos 0)) sum f h tt)))
