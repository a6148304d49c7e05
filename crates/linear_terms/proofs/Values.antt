-- What the operations on terms do to values.
use Rattle.std.proofs.Common.{◌≡◌, Bool, true, false, cond, ℤ, pos, negsuc, ◌+ℤ◌, ◌-ℤ◌, ◌*ℤ◌, List, [], ◌∷◌, ◌++◌, ◌+◌, length, fold, Result, Ok, Err, refl, sym, ap, ◌∙◌, arith}
use Rattle.std.specs.Prelude.{nat_lt}
use Rattle.std.specs.Ordering.{int_eq, is_lt, match_ordering}
use Rattle.std.specs.declared.cmp.Ordering.{Ordering}
use Rattle.std.specs.declared.cmp.Ordering.TheVariants.{Less, Equal, Greater}
use Rattle.std.proofs.lemmas.Int.{ints}
use Rattle.std.proofs.lemmas.Bool.Decides.{Decides-int_eq}
use Rattle.std.proofs.Math.IntN.{zero-*ℤ}
use Rattle.items.specs.Gives.{◌>>=◌, err_map}
use Rattle.items.proofs.Gives.{on_ok}
use Rattle.whole_numbers.specs.Fits.{fits}
use Rattle.whole_numbers.specs.declared.wide.Wide as Step
use Rattle.whole_numbers.proofs.Ring.{ring, *ℤ_left_comm, +ℤ-*ℤ}
use Rattle.linear_terms.specs.declared.col.Col.{Col}
use Rattle.linear_terms.specs.declared.error.TermError.{TermError}
use Rattle.linear_terms.specs.declared.error.TermError.TheVariants.{Degree}
use Rattle.linear_terms.specs.Col.{col_cmp}
use Rattle.linear_terms.specs.TermError.{wide, plus, times}
use Rattle.linear_terms.specs.Mono.{mono_cmp, with_column, in_order}
use Rattle.linear_terms.specs.Polynomial.{Terms, Polynomial, constant_of}
use Rattle.linear_terms.specs.Operations.{with_term, put, put_all, sum_of_polys, times_each, multiple_of, difference_of_polys, parts, put_part, add_product, add_row, add_rows, product_of_polys, product_on, product_in, substituted_monomial, add_substituted, substituted_polynomial}
use Rattle.linear_terms.specs.Value.{Valuation, mono_value, terms_value, value_of}
use Rattle.linear_terms.proofs.Order.{mono_tie}

-- ---- steps on numbers

abbrev done : {X : Type 0} → X → Result X TermError
done x = Ok x

checked : (b : Bool) (x y : ℤ) (w : Step.Wide) → err_map wide (cond b (Ok x) (Err w)) ≡ Ok y → y ≡ x
checked true x y w e = cc
checked false x y w e = cc

pub plus-value : (a b c : ℤ) → plus a b ≡ Ok c → c ≡ a +ℤ b
plus-value a b c e = checked (fits (a +ℤ b)) (a +ℤ b) c (record { left = a; right = b; times = false }) e

pub times-value : (a b c : ℤ) → times a b ≡ Ok c → c ≡ a *ℤ b
times-value a b c e = checked (fits (a *ℤ b)) (a *ℤ b) c (record { left = a; right = b; times = true }) e

pub int_eq-zero : (c : ℤ) → int_eq c (pos 0) ≡ true → c ≡ pos 0
int_eq-zero c e = (Decides-int_eq c (pos 0)).0 e

-- ---- monomials

-- the two orders in which two columns may stand
mono_value-placed : (at : Valuation) (m : List Col) (c : Col) → mono_value at (with_column m c) ≡ at c *ℤ mono_value at m
mono_value-placed at [] c = refl
mono_value-placed at (d ∷ m) c = go (is_lt (col_cmp c d)) (mono_value-placed at m d) (mono_value-placed at m c)
  where
    go : (b : Bool) → mono_value at (with_column m d) ≡ at d *ℤ mono_value at m → mono_value at (with_column m c) ≡ at c *ℤ mono_value at m → mono_value at (cond b (c ∷ with_column m d) (d ∷ with_column m c)) ≡ at c *ℤ (at d *ℤ mono_value at m)
    go true e f = ap (λ v. at c *ℤ v) e
    go false e f = ap (λ v. at d *ℤ v) f ∙ *ℤ_left_comm (at d) (at c) (mono_value at m)

mono_value-fold : (at : Valuation) (front m : List Col) → mono_value at (fold with_column front m) ≡ mono_value at m *ℤ mono_value at front
mono_value-fold at front [] = omega (arith, ints)
mono_value-fold at front (c ∷ m) =
    mono_value-fold at (with_column front c) m ∙ ap (λ v. mono_value at m *ℤ v) (mono_value-placed at front c) ∙ shuffle (mono_value at m) (at c) (mono_value at front)
  where
    shuffle : (x y z : ℤ) → x *ℤ (y *ℤ z) ≡ y *ℤ x *ℤ z
    shuffle x y z = simp ring (omega (arith, ints))

mono_value-append : (at : Valuation) (m n : List Col) → mono_value at (m ++ n) ≡ mono_value at m *ℤ mono_value at n
mono_value-append at [] n = omega (arith, ints)
mono_value-append at (c ∷ m) n = ap (λ v. at c *ℤ v) (mono_value-append at m n) ∙ group (at c) (mono_value at m) (mono_value at n)
  where
    group : (x y z : ℤ) → x *ℤ (y *ℤ z) ≡ x *ℤ y *ℤ z
    group x y z = simp ring (omega (arith, ints))

pub mono_value-in_order : (at : Valuation) (m n : List Col) → mono_value at (in_order (m ++ n)) ≡ mono_value at m *ℤ mono_value at n
mono_value-in_order at m n = mono_value-fold at [] (m ++ n) ∙ one_right (mono_value at (m ++ n)) ∙ mono_value-append at m n
  where
    one_right : (x : ℤ) → x *ℤ pos 1 ≡ x
    one_right x = omega (arith, ints)

-- ---- sums

terms_value-kept : (at : Valuation) (m : List Col) (c : ℤ) (ts : Terms) → terms_value at (with_term m c ts) ≡ c *ℤ mono_value at m +ℤ terms_value at ts
terms_value-kept at m c ts = go (int_eq c (pos 0)) refl
  where
    gone : (x v : ℤ) → x ≡ pos 0 → terms_value at ts ≡ x *ℤ v +ℤ terms_value at ts
    gone x v e = rw e (rw (zero-*ℤ v) (omega (arith, ints)))

    go : (b : Bool) → int_eq c (pos 0) ≡ b → terms_value at (cond b ts ((m, c) ∷ ts)) ≡ c *ℤ mono_value at m +ℤ terms_value at ts
    go true e = gone c (mono_value at m) (int_eq-zero c e)
    go false e = refl

pub put-value : (at : Valuation) (m : List Col) (c : ℤ) (ts made : Terms) → put m c ts ≡ Ok made → terms_value at made ≡ terms_value at ts +ℤ c *ℤ mono_value at m
put-value at m c [] made e = let same : with_term m c [] ≡ made = cc in ap (terms_value at) (sym same) ∙ terms_value-kept at m c [] ∙ swap (c *ℤ mono_value at m)
  where
    swap : (x : ℤ) → x +ℤ pos 0 ≡ pos 0 +ℤ x
    swap x = omega (arith, ints)
put-value at m c (t ∷ ts) made e = go (mono_cmp m t.0) refl e (λ more f. put-value at m c ts more f)
  where
    before : (x y : ℤ) → x +ℤ y ≡ y +ℤ x
    before x y = omega (arith, ints)

    first : done (with_term m c (t ∷ ts)) ≡ Ok made → terms_value at made ≡ terms_value at (t ∷ ts) +ℤ c *ℤ mono_value at m
    first f = let same : with_term m c (t ∷ ts) ≡ made = cc in ap (terms_value at) (sym same) ∙ terms_value-kept at m c (t ∷ ts) ∙ before (c *ℤ mono_value at m) (terms_value at (t ∷ ts))

    added : (s : ℤ) → s ≡ t.1 +ℤ c → m ≡ t.0 → with_term t.0 s ts ≡ made → terms_value at made ≡ terms_value at (t ∷ ts) +ℤ c *ℤ mono_value at m
    added s f tie same =
        ap (terms_value at) (sym same) ∙ terms_value-kept at t.0 s ts ∙ ap (λ k. k *ℤ mono_value at t.0 +ℤ terms_value at ts) f
        ∙ spread t.1 c (mono_value at t.0) (terms_value at ts) ∙ ap (λ n. terms_value at (t ∷ ts) +ℤ c *ℤ mono_value at n) (sym tie)
      where
        spread : (x y v r : ℤ) → (x +ℤ y) *ℤ v +ℤ r ≡ x *ℤ v +ℤ r +ℤ y *ℤ v
        spread x y v r = simp ring (omega (arith, ints))

    later : (more : Terms) → terms_value at more ≡ terms_value at ts +ℤ c *ℤ mono_value at m → t ∷ more ≡ made → terms_value at made ≡ terms_value at (t ∷ ts) +ℤ c *ℤ mono_value at m
    later more f same = ap (terms_value at) (sym same) ∙ ap (λ v. t.1 *ℤ mono_value at t.0 +ℤ v) f ∙ group (t.1 *ℤ mono_value at t.0) (terms_value at ts) (c *ℤ mono_value at m)
      where
        group : (x y z : ℤ) → x +ℤ (y +ℤ z) ≡ x +ℤ y +ℤ z
        group x y z = omega (arith, ints)

    go : (o : Ordering) → mono_cmp m t.0 ≡ o → match_ordering o (Ok (with_term m c (t ∷ ts))) (plus t.1 c >>= λ s. Ok (with_term t.0 s ts)) (put m c ts >>= λ more. Ok (t ∷ more)) ≡ Ok made → ((more : Terms) → put m c ts ≡ Ok more → terms_value at more ≡ terms_value at ts +ℤ c *ℤ mono_value at m) → terms_value at made ≡ terms_value at (t ∷ ts) +ℤ c *ℤ mono_value at m
    go Less o f ih = first f
    go Equal o f ih = on_ok (plus t.1 c) (λ s. Ok (with_term t.0 s ts)) made f (λ s g k. added s (plus-value t.1 c s g) (mono_tie m t.0 o) (cc))
    go Greater o f ih = on_ok (put m c ts) (λ more. Ok (t ∷ more)) made f (λ more g k. later more (ih more g) (cc))

put_all-value : (at : Valuation) (more ts made : Terms) → put_all ts more ≡ Ok made → terms_value at made ≡ terms_value at ts +ℤ terms_value at more
put_all-value at [] ts made e = let same : ts ≡ made = cc in ap (terms_value at) (sym same) ∙ nothing (terms_value at ts)
  where
    nothing : (x : ℤ) → x ≡ x +ℤ pos 0
    nothing x = omega (arith, ints)
put_all-value at (t ∷ more) ts made e = on_ok (put t.0 t.1 ts) (λ next. put_all next more) made e (λ next f g. put_all-value at more next made g ∙ ap (λ v. v +ℤ terms_value at more) (put-value at t.0 t.1 ts next f) ∙ group (terms_value at ts) (t.1 *ℤ mono_value at t.0) (terms_value at more))
  where
    group : (x y z : ℤ) → x +ℤ y +ℤ z ≡ x +ℤ (y +ℤ z)
    group x y z = omega (arith, ints)

with_rest : (ts : Terms) (r : ℤ) (p : Polynomial) → done (record { terms = ts; rest = r }) ≡ Ok p → (p.terms ≡ ts) × (p.rest ≡ r)
with_rest ts r p e = let same : record { terms = ts; rest = r } ≡ p = cc in (ap (λ q. q.terms) (sym same), ap (λ q. q.rest) (sym same))

pub sum_of_polys-value : (at : Valuation) (a b p : Polynomial) → sum_of_polys a b ≡ Ok p → value_of at p ≡ value_of at a +ℤ value_of at b
sum_of_polys-value at a b p e =
    on_ok (put_all a.terms b.terms) (λ ts. plus a.rest b.rest >>= λ r. Ok record { terms = ts; rest = r }) p e
    (λ ts f g. on_ok (plus a.rest b.rest) (λ r. Ok record { terms = ts; rest = r }) p g
    (λ r h k. let parts = with_rest ts r p k in
    joined p.terms p.rest parts.0 parts.1 (put_all-value at b.terms a.terms ts f) (plus-value a.rest b.rest r h)))
  where
    add_up : (t r x y u v : ℤ) → t ≡ x +ℤ y → r ≡ u +ℤ v → t +ℤ r ≡ x +ℤ u +ℤ (y +ℤ v)
    add_up t r x y u v e f = omega (arith, ints)

    joined : {ts : Terms} {r : ℤ} (us : Terms) (s : ℤ) → us ≡ ts → s ≡ r → terms_value at ts ≡ terms_value at a.terms +ℤ terms_value at b.terms → r ≡ a.rest +ℤ b.rest → terms_value at us +ℤ s ≡ value_of at a +ℤ value_of at b
    joined us s same_terms same_rest f g = add_up (terms_value at us) s (terms_value at a.terms) (terms_value at b.terms) a.rest b.rest (ap (terms_value at) same_terms ∙ f) (same_rest ∙ g)

-- ---- multiples

times_each-value : (at : Valuation) (ts : Terms) (by : ℤ) (made : Terms) → times_each ts by ≡ Ok made → terms_value at made ≡ terms_value at ts *ℤ by
times_each-value at [] by made e = let same : [] ≡ made = cc in ap (terms_value at) (sym same) ∙ sym (zero-*ℤ by)
times_each-value at (t ∷ ts) by made e =
    on_ok (times t.1 by) (λ c. times_each ts by >>= λ more. Ok (with_term t.0 c more)) made e
    (λ c f g. on_ok (times_each ts by) (λ more. Ok (with_term t.0 c more)) made g
    (λ more h k. let same : with_term t.0 c more ≡ made = cc in
    ap (terms_value at) (sym same) ∙ terms_value-kept at t.0 c more ∙ grown c (terms_value at more) (times-value t.1 by c f) (times_each-value at ts by more h)))
  where
    spread : (x y v w : ℤ) → x *ℤ y *ℤ v +ℤ w *ℤ y ≡ (x *ℤ v +ℤ w) *ℤ y
    spread x y v w = simp ring (omega (arith, ints))

    grown : (c v : ℤ) → c ≡ t.1 *ℤ by → v ≡ terms_value at ts *ℤ by → c *ℤ mono_value at t.0 +ℤ v ≡ terms_value at (t ∷ ts) *ℤ by
    grown c v f g = rw (f, g) (spread t.1 by (mono_value at t.0) (terms_value at ts))

pub multiple_of-value : (at : Valuation) (a : Polynomial) (by : ℤ) (p : Polynomial) → multiple_of a by ≡ Ok p → value_of at p ≡ value_of at a *ℤ by
multiple_of-value at a by p e =
    on_ok (times_each a.terms by) (λ ts. times a.rest by >>= λ r. Ok record { terms = ts; rest = r }) p e
    (λ ts f g. on_ok (times a.rest by) (λ r. Ok record { terms = ts; rest = r }) p g
    (λ r h k. let parts = with_rest ts r p k in
    together p.terms p.rest (ap (terms_value at) parts.0 ∙ times_each-value at a.terms by ts f) (parts.1 ∙ times-value a.rest by r h)))
  where
    together : (us : Terms) (s : ℤ) → terms_value at us ≡ terms_value at a.terms *ℤ by → s ≡ a.rest *ℤ by → terms_value at us +ℤ s ≡ value_of at a *ℤ by
    together us s f g = rw (f, g) (sym (+ℤ-*ℤ (terms_value at a.terms) a.rest by))

pub difference_of_polys-value : (at : Valuation) (a b p : Polynomial) → difference_of_polys a b ≡ Ok p → value_of at p ≡ value_of at a -ℤ value_of at b
difference_of_polys-value at a b p e =
    on_ok (multiple_of b (negsuc 0)) (λ turned. sum_of_polys a turned) p e
    (λ turned f g. sum_of_polys-value at a turned p g ∙ less (value_of at a) (value_of at b) (value_of at turned) (multiple_of-value at b (negsuc 0) turned f))
  where
    less : (u v w : ℤ) → w ≡ v *ℤ negsuc 0 → u +ℤ w ≡ u -ℤ v
    less u v w e = omega (arith, ints)

-- ---- products

value_of-parts : (at : Valuation) (a : Polynomial) → terms_value at (parts a) ≡ value_of at a
value_of-parts at a = go a.terms
  where
    last : (r : ℤ) → r *ℤ pos 1 +ℤ pos 0 ≡ pos 0 +ℤ r
    last r = omega (arith, ints)

    group : (x y z : ℤ) → x +ℤ (y +ℤ z) ≡ x +ℤ y +ℤ z
    group x y z = omega (arith, ints)

    go : (ts : Terms) → terms_value at (ts ++ ([], a.rest) ∷ []) ≡ terms_value at ts +ℤ a.rest
    go [] = last a.rest
    go (t ∷ ts) = ap (λ v. t.1 *ℤ mono_value at t.0 +ℤ v) (go ts) ∙ group (t.1 *ℤ mono_value at t.0) (terms_value at ts) a.rest

put_part-value : (at : Valuation) (m : List Col) (c : ℤ) (a p : Polynomial) → put_part m c a ≡ Ok p → value_of at p ≡ value_of at a +ℤ c *ℤ mono_value at m
put_part-value at [] c a p e =
    on_ok (plus a.rest c) (λ r. Ok record { terms = a.terms; rest = r }) p e
    (λ r f g. let parts = with_rest a.terms r p g in
    ap (λ ts. terms_value at ts +ℤ p.rest) parts.0 ∙ sum_up (terms_value at a.terms) p.rest a.rest c (parts.1 ∙ plus-value a.rest c r f))
  where
    sum_up : (t s r c : ℤ) → s ≡ r +ℤ c → t +ℤ s ≡ t +ℤ r +ℤ c *ℤ pos 1
    sum_up t s r c e = omega (arith, ints)
put_part-value at (x ∷ m) c a p e =
    on_ok (put (x ∷ m) c a.terms) (λ ts. Ok record { terms = ts; rest = a.rest }) p e
    (λ ts f g. let parts = with_rest ts a.rest p g in
    ap (λ r. terms_value at p.terms +ℤ r) parts.1 ∙ sum_up (terms_value at p.terms) (terms_value at a.terms) a.rest (c *ℤ mono_value at (x ∷ m)) (ap (terms_value at) parts.0 ∙ put-value at (x ∷ m) c a.terms ts f))
  where
    sum_up : (s t r v : ℤ) → s ≡ t +ℤ v → s +ℤ r ≡ t +ℤ r +ℤ v
    sum_up s t r v e = omega (arith, ints)

add_product-value : (at : Valuation) (m : List Col) (c : ℤ) (n : List Col) (d : ℤ) (a p : Polynomial) → add_product m c n d a ≡ Ok p → value_of at p ≡ value_of at a +ℤ c *ℤ mono_value at m *ℤ (d *ℤ mono_value at n)
add_product-value at m c n d a p e = go (nat_lt 4 (length m + length n)) e
  where
    spread : (x y v w : ℤ) → x *ℤ y *ℤ (v *ℤ w) ≡ x *ℤ v *ℤ (y *ℤ w)
    spread x y v w = simp ring (omega (arith, ints))

    go : (b : Bool) → cond b (Err Degree) (times c d >>= λ f. put_part (in_order (m ++ n)) f a) ≡ Ok p → value_of at p ≡ value_of at a +ℤ c *ℤ mono_value at m *ℤ (d *ℤ mono_value at n)
    go true f = cc
    go false f =
        on_ok (times c d) (λ g. put_part (in_order (m ++ n)) g a) p f
        (λ g h k. put_part-value at (in_order (m ++ n)) g a p k
        ∙ ap (λ v. value_of at a +ℤ v *ℤ mono_value at (in_order (m ++ n))) (times-value c d g h)
        ∙ ap (λ v. value_of at a +ℤ c *ℤ d *ℤ v) (mono_value-in_order at m n)
        ∙ ap (λ v. value_of at a +ℤ v) (spread c d (mono_value at m) (mono_value at n)))

add_row-value : (at : Valuation) (m : List Col) (c : ℤ) (ts : Terms) (a p : Polynomial) → add_row m c ts a ≡ Ok p → value_of at p ≡ value_of at a +ℤ c *ℤ mono_value at m *ℤ terms_value at ts
add_row-value at m c [] a p e = let same : a ≡ p = cc in ap (value_of at) (sym same) ∙ nothing (value_of at a) (c *ℤ mono_value at m)
  where
    nothing : (x y : ℤ) → x ≡ x +ℤ y *ℤ pos 0
    nothing x y = omega (arith, ints)
add_row-value at m c (t ∷ ts) a p e =
    on_ok (add_product m c t.0 t.1 a) (λ next. add_row m c ts next) p e
    (λ next f g. add_row-value at m c ts next p g
    ∙ ap (λ v. v +ℤ c *ℤ mono_value at m *ℤ terms_value at ts) (add_product-value at m c t.0 t.1 a next f)
    ∙ spread (value_of at a) (c *ℤ mono_value at m) (t.1 *ℤ mono_value at t.0) (terms_value at ts))
  where
    spread : (x y v w : ℤ) → x +ℤ y *ℤ v +ℤ y *ℤ w ≡ x +ℤ y *ℤ (v +ℤ w)
    spread x y v w = simp ring (omega (arith, ints))

add_rows-value : (at : Valuation) (ts others : Terms) (a p : Polynomial) → add_rows ts others a ≡ Ok p → value_of at p ≡ value_of at a +ℤ terms_value at ts *ℤ terms_value at others
add_rows-value at [] others a p e = let same : a ≡ p = cc in ap (value_of at) (sym same) ∙ nothing (value_of at a) (terms_value at others)
  where
    nothing : (x y : ℤ) → x ≡ x +ℤ pos 0 *ℤ y
    nothing x y = omega (arith, ints)
add_rows-value at (t ∷ ts) others a p e =
    on_ok (add_row t.0 t.1 others a) (λ next. add_rows ts others next) p e
    (λ next f g. add_rows-value at ts others next p g
    ∙ ap (λ v. v +ℤ terms_value at ts *ℤ terms_value at others) (add_row-value at t.0 t.1 others a next f)
    ∙ spread (value_of at a) (t.1 *ℤ mono_value at t.0) (terms_value at ts) (terms_value at others))
  where
    spread : (x y v w : ℤ) → x +ℤ y *ℤ w +ℤ v *ℤ w ≡ x +ℤ (y +ℤ v) *ℤ w
    spread x y v w = simp ring (omega (arith, ints))

pub product_of_polys-value : (at : Valuation) (a b p : Polynomial) → product_of_polys a b ≡ Ok p → value_of at p ≡ value_of at a *ℤ value_of at b
product_of_polys-value at a b p e =
    add_rows-value at (parts a) (parts b) (constant_of (pos 0)) p e
    ∙ from_nothing (terms_value at (parts a) *ℤ terms_value at (parts b))
    ∙ ap (λ v. v *ℤ terms_value at (parts b)) (value_of-parts at a)
    ∙ ap (λ v. value_of at a *ℤ v) (value_of-parts at b)
  where
    from_nothing : (x : ℤ) → pos 0 +ℤ pos 0 +ℤ x ≡ x
    from_nothing x = omega (arith, ints)

-- ---- substitution

-- the numbers that the columns have where polynomials are put in for them
abbrev pub seen_through : Valuation → (Col → Polynomial) → Valuation
seen_through at put_in c = value_of at (put_in c)

product_on-value : (at : Valuation) (put_in : Col → Polynomial) (m : List Col) (made p : Polynomial) → product_on put_in made m ≡ Ok p → value_of at p ≡ value_of at made *ℤ mono_value (seen_through at put_in) m
product_on-value at put_in [] made p e = let same : made ≡ p = cc in ap (value_of at) (sym same) ∙ once (value_of at made)
  where
    once : (x : ℤ) → x ≡ x *ℤ pos 1
    once x = omega (arith, ints)
product_on-value at put_in (c ∷ m) made p e =
    on_ok (product_of_polys made (put_in c)) (λ next. product_on put_in next m) p e
    (λ next f g. product_on-value at put_in m next p g
    ∙ ap (λ v. v *ℤ mono_value (seen_through at put_in) m) (product_of_polys-value at made (put_in c) next f)
    ∙ group (value_of at made) (value_of at (put_in c)) (mono_value (seen_through at put_in) m))
  where
    group : (x y z : ℤ) → x *ℤ y *ℤ z ≡ x *ℤ (y *ℤ z)
    group x y z = simp ring (omega (arith, ints))

product_in-value : (at : Valuation) (put_in : Col → Polynomial) (m : List Col) (p : Polynomial) → product_in put_in m ≡ Ok p → value_of at p ≡ mono_value (seen_through at put_in) m
product_in-value at put_in [] p e = let same : constant_of (pos 1) ≡ p = cc in ap (value_of at) (sym same)
product_in-value at put_in (c ∷ m) p e = product_on-value at put_in m (put_in c) p e

add_substituted-value : (at : Valuation) (put_in : Col → Polynomial) (ts : Terms) (a p : Polynomial) → add_substituted put_in ts a ≡ Ok p → value_of at p ≡ value_of at a +ℤ terms_value (seen_through at put_in) ts
add_substituted-value at put_in [] a p e = let same : a ≡ p = cc in ap (value_of at) (sym same) ∙ nothing (value_of at a)
  where
    nothing : (x : ℤ) → x ≡ x +ℤ pos 0
    nothing x = omega (arith, ints)
add_substituted-value at put_in (t ∷ ts) a p e =
    on_ok (substituted_monomial put_in t.0 t.1) (λ term. sum_of_polys a term >>= λ next. add_substituted put_in ts next) p e
    (λ term f g. on_ok (sum_of_polys a term) (λ next. add_substituted put_in ts next) p g
    (λ next h k. on_ok (product_in put_in t.0) (λ product. multiple_of product t.1) term f
    (λ product l n. add_substituted-value at put_in ts next p k
    ∙ ap (λ v. v +ℤ terms_value (seen_through at put_in) ts) (sum_of_polys-value at a term next h)
    ∙ added (value_of at term) (value_of at product) (multiple_of-value at product t.1 term n) (product_in-value at put_in t.0 product l))))
  where
    spread : (x y v w : ℤ) → x +ℤ v *ℤ y +ℤ w ≡ x +ℤ (y *ℤ v +ℤ w)
    spread x y v w = simp ring (omega (arith, ints))

    added : (u v : ℤ) → u ≡ v *ℤ t.1 → v ≡ mono_value (seen_through at put_in) t.0 → value_of at a +ℤ u +ℤ terms_value (seen_through at put_in) ts ≡ value_of at a +ℤ terms_value (seen_through at put_in) (t ∷ ts)
    added u v f g = rw (f, g) (spread (value_of at a) t.1 (mono_value (seen_through at put_in) t.0) (terms_value (seen_through at put_in) ts))

pub substituted-value : (at : Valuation) (put_in : Col → Polynomial) (a p : Polynomial) → substituted_polynomial put_in a ≡ Ok p → value_of at p ≡ value_of (seen_through at put_in) a
substituted-value at put_in a p e =
    on_ok (add_substituted put_in a.terms (constant_of (pos 0))) (λ sum. plus sum.rest a.rest >>= λ r. Ok record { terms = sum.terms; rest = r }) p e
    (λ sum f g. on_ok (plus sum.rest a.rest) (λ r. Ok record { terms = sum.terms; rest = r }) p g
    (λ r h k. let parts = with_rest sum.terms r p k in
    ap (λ ts. terms_value at ts +ℤ p.rest) parts.0
    ∙ add_up (terms_value at sum.terms) p.rest sum.rest a.rest (terms_value (seen_through at put_in) a.terms) (parts.1 ∙ plus-value sum.rest a.rest r h) (add_substituted-value at put_in a.terms (constant_of (pos 0)) sum f)))
  where
    add_up : (t s x y u : ℤ) → s ≡ x +ℤ y → t +ℤ x ≡ pos 0 +ℤ pos 0 +ℤ u → t +ℤ s ≡ u +ℤ y
    add_up t s x y u e f = omega (arith, ints)

-- for the code, whose paths take no dash
pub ruleset sum_of_polys_value = (sum_of_polys-value)

pub ruleset multiple_of_value = (multiple_of-value)

pub ruleset difference_of_polys_value = (difference_of_polys-value)

pub ruleset product_of_polys_value = (product_of_polys-value)

pub ruleset substituted_value = (substituted-value)
