-- Values of sums, multiples and substitutions at rational points.
use Rattle.std.proofs.Common.{◌≡◌, Bool, true, false, ℤ, pos, ◌+ℤ◌, ◌*ℤ◌, List, [], ◌∷◌, map, Result, Ok, refl, sym, ap, ◌∙◌, arith}
use Rattle.std.specs.Prelude.{if◌then◌else◌}
use Rattle.std.specs.Ordering.{int_eq, match_ordering}
use Rattle.std.specs.declared.cmp.Ordering.{Ordering}
use Rattle.std.specs.declared.cmp.Ordering.TheVariants.{Less, Equal, Greater}
use Rattle.std.proofs.lemmas.Int.{ints}
use Rattle.items.specs.Gives.{◌>>=◌}
use Rattle.items.proofs.Gives.{on_ok}
use Rattle.whole_numbers.specs.Dot.{dot}
use Rattle.whole_numbers.proofs.Ring.{ring}
use Rattle.linear_terms.specs.declared.col.Col.{Col}
use Rattle.linear_terms.specs.declared.error.TermError.{TermError}
use Rattle.linear_terms.specs.Expressions.{Made, coefficients, linear, or_zero, when_made, when_all_made, put_into}
use Rattle.linear_terms.specs.Mono.{mono_cmp}
use Rattle.linear_terms.specs.Operations.{with_term, put, put_all, sum_of_polys, times_each, multiple_of, substituted_monomial, add_substituted, substituted_polynomial}
use Rattle.linear_terms.specs.Polynomial.{Terms, Polynomial, constant_of}
use Rattle.linear_terms.specs.TermError.{plus, times}
use Rattle.linear_terms.proofs.Order.{mono_tie}
use Rattle.linear_terms.proofs.Values.{plus-value, times-value, int_eq-zero}
use Rattle.farkas_check.specs.Rational.{RationalPoint, terms_at, sum_at}

-- ---- terms under numbers for the monomials

module _ (number : List Col → ℤ) where
  kept-at : (m : List Col) (c : ℤ) (ts : Terms) → terms_at number (with_term m c ts) ≡ c *ℤ number m +ℤ terms_at number ts
  kept-at m c ts = go (int_eq c (pos 0)) refl
    where
      none : (x y : ℤ) → y ≡ pos 0 *ℤ x +ℤ y
      none x y = omega (arith, ints)

      go : (b : Bool) → int_eq c (pos 0) ≡ b → terms_at number (if b then ts else (m, c) ∷ ts) ≡ c *ℤ number m +ℤ terms_at number ts
      go true e = none (number m) (terms_at number ts) ∙ ap (λ z. z *ℤ number m +ℤ terms_at number ts) (sym (int_eq-zero c e))
      go false e = refl

  put-at : (m : List Col) (c : ℤ) (ts made : Terms) → put m c ts ≡ Ok made → terms_at number made ≡ terms_at number ts +ℤ c *ℤ number m
  put-at m c [] made e = let same : with_term m c [] ≡ made = cc in ap (terms_at number) (sym same) ∙ kept-at m c [] ∙ turned (c *ℤ number m)
    where
      turned : (x : ℤ) → x +ℤ pos 0 ≡ pos 0 +ℤ x
      turned x = omega (arith, ints)
  put-at m c (t ∷ ts) made e = go (mono_cmp m t.0) refl e (λ more f. put-at m c ts more f)
    where
      turned : (x y : ℤ) → x +ℤ y ≡ y +ℤ x
      turned x y = omega (arith, ints)

      grouped : (x y z : ℤ) → x +ℤ (y +ℤ z) ≡ x +ℤ y +ℤ z
      grouped x y z = omega (arith, ints)

      spread : (x y v r : ℤ) → (x +ℤ y) *ℤ v +ℤ r ≡ x *ℤ v +ℤ r +ℤ y *ℤ v
      spread x y v r = simp ring (omega (arith, ints))

      first : with_term m c (t ∷ ts) ≡ made → terms_at number made ≡ terms_at number (t ∷ ts) +ℤ c *ℤ number m
      first same = ap (terms_at number) (sym same) ∙ kept-at m c (t ∷ ts) ∙ turned (c *ℤ number m) (terms_at number (t ∷ ts))

      added : (s : ℤ) → s ≡ t.1 +ℤ c → m ≡ t.0 → with_term t.0 s ts ≡ made → terms_at number made ≡ terms_at number (t ∷ ts) +ℤ c *ℤ number m
      added s f tie same =
          ap (terms_at number) (sym same) ∙ kept-at t.0 s ts ∙ ap (λ k. k *ℤ number t.0 +ℤ terms_at number ts) f
          ∙ spread t.1 c (number t.0) (terms_at number ts) ∙ ap (λ n. terms_at number (t ∷ ts) +ℤ c *ℤ number n) (sym tie)

      later : (more : Terms) → terms_at number more ≡ terms_at number ts +ℤ c *ℤ number m → t ∷ more ≡ made → terms_at number made ≡ terms_at number (t ∷ ts) +ℤ c *ℤ number m
      later more f same = ap (terms_at number) (sym same) ∙ ap (λ v. t.1 *ℤ number t.0 +ℤ v) f ∙ grouped (t.1 *ℤ number t.0) (terms_at number ts) (c *ℤ number m)

      go : (o : Ordering) → mono_cmp m t.0 ≡ o → match_ordering o (Ok (with_term m c (t ∷ ts))) (plus t.1 c >>= λ s. Ok (with_term t.0 s ts)) (put m c ts >>= λ more. Ok (t ∷ more)) ≡ Ok made
          → ((more : Terms) → put m c ts ≡ Ok more → terms_at number more ≡ terms_at number ts +ℤ c *ℤ number m) → terms_at number made ≡ terms_at number (t ∷ ts) +ℤ c *ℤ number m
      go Less o f ih = first (cc)
      go Equal o f ih = on_ok (plus t.1 c) (λ s. Ok (with_term t.0 s ts)) made f (λ s g k. added s (plus-value t.1 c s g) (mono_tie m t.0 o) (cc))
      go Greater o f ih = on_ok (put m c ts) (λ more. Ok (t ∷ more)) made f (λ more g k. later more (ih more g) (cc))

  put_all-at : (more ts made : Terms) → put_all ts more ≡ Ok made → terms_at number made ≡ terms_at number ts +ℤ terms_at number more
  put_all-at [] ts made e = let same : ts ≡ made = cc in ap (terms_at number) (sym same) ∙ nothing (terms_at number ts)
    where
      nothing : (x : ℤ) → x ≡ x +ℤ pos 0
      nothing x = omega (arith, ints)
  put_all-at (t ∷ more) ts made e =
      on_ok (put t.0 t.1 ts) (λ next. put_all next more) made e
      (λ next f g. put_all-at more next made g ∙ ap (λ v. v +ℤ terms_at number more) (put-at t.0 t.1 ts next f) ∙ grouped (terms_at number ts) (t.1 *ℤ number t.0) (terms_at number more))
    where
      grouped : (x y z : ℤ) → x +ℤ y +ℤ z ≡ x +ℤ (y +ℤ z)
      grouped x y z = omega (arith, ints)

  times_each-at : (ts : Terms) (by : ℤ) (made : Terms) → times_each ts by ≡ Ok made → terms_at number made ≡ by *ℤ terms_at number ts
  times_each-at [] by made e = let same : [] ≡ made = cc in ap (terms_at number) (sym same) ∙ nothing by
    where
      nothing : (x : ℤ) → pos 0 ≡ x *ℤ pos 0
      nothing x = omega (arith, ints)
  times_each-at (t ∷ ts) by made e =
      on_ok (times t.1 by) (λ c. times_each ts by >>= λ more. Ok (with_term t.0 c more)) made e
      (λ c f g. on_ok (times_each ts by) (λ more. Ok (with_term t.0 c more)) made g
      (λ more h k. let same : with_term t.0 c more ≡ made = cc in
      ap (terms_at number) (sym same) ∙ kept-at t.0 c more
      ∙ (λ i. times-value t.1 by c f i *ℤ number t.0 +ℤ times_each-at ts by more h i)
      ∙ spread t.1 by (number t.0) (terms_at number ts)))
    where
      spread : (x y v w : ℤ) → x *ℤ y *ℤ v +ℤ y *ℤ w ≡ y *ℤ (x *ℤ v +ℤ w)
      spread x y v w = simp ring (omega (arith, ints))

-- ---- polynomials at a point

module _ (point : RationalPoint) where
  with_rest : (ts : Terms) (r : ℤ) (p : Polynomial) → ◌≡◌ {A = Result Polynomial TermError} (Ok (record { terms = ts; rest = r })) (Ok p) → sum_at point p ≡ terms_at point.numerator ts +ℤ r *ℤ point.over
  with_rest ts r p e = let same : record { terms = ts; rest = r } ≡ p = cc in ap (sum_at point) (sym same)

  sum-at : (a b p : Polynomial) → sum_of_polys a b ≡ Ok p → sum_at point p ≡ sum_at point a +ℤ sum_at point b
  sum-at a b p e =
      on_ok (put_all a.terms b.terms) (λ ts. plus a.rest b.rest >>= λ r. Ok record { terms = ts; rest = r }) p e
      (λ ts f g. on_ok (plus a.rest b.rest) (λ r. Ok record { terms = ts; rest = r }) p g
      (λ r h k. with_rest ts r p k ∙ (λ i. put_all-at point.numerator b.terms a.terms ts f i +ℤ plus-value a.rest b.rest r h i *ℤ point.over)
      ∙ spread (terms_at point.numerator a.terms) (terms_at point.numerator b.terms) a.rest b.rest point.over))
    where
      spread : (x y u v d : ℤ) → x +ℤ y +ℤ (u +ℤ v) *ℤ d ≡ x +ℤ u *ℤ d +ℤ (y +ℤ v *ℤ d)
      spread x y u v d = simp ring (omega (arith, ints))

  multiple-at : (a : Polynomial) (by : ℤ) (p : Polynomial) → multiple_of a by ≡ Ok p → sum_at point p ≡ by *ℤ sum_at point a
  multiple-at a by p e =
      on_ok (times_each a.terms by) (λ ts. times a.rest by >>= λ r. Ok record { terms = ts; rest = r }) p e
      (λ ts f g. on_ok (times a.rest by) (λ r. Ok record { terms = ts; rest = r }) p g
      (λ r h k. with_rest ts r p k ∙ (λ i. times_each-at point.numerator a.terms by ts f i +ℤ times-value a.rest by r h i *ℤ point.over)
      ∙ spread by (terms_at point.numerator a.terms) a.rest point.over))
    where
      spread : (y x u d : ℤ) → y *ℤ x +ℤ u *ℤ y *ℤ d ≡ y *ℤ (x +ℤ u *ℤ d)
      spread y x u d = simp ring (omega (arith, ints))

  -- ---- polynomials put in for the columns of a linear one

  -- numbers times what is put in, added to the sum so far
  coefficients-at : (put_in : Col → Polynomial) (ns : List ℤ) (cs : List Col) (sum made : Polynomial) → add_substituted put_in (coefficients ns cs) sum ≡ Ok made
      → sum_at point made ≡ sum_at point sum +ℤ dot ns (map (λ c. sum_at point (put_in c)) cs)
  coefficients-at put_in [] cs sum made e = let same : sum ≡ made = cc in ap (sum_at point) (sym same) ∙ nothing (sum_at point sum)
    where
      nothing : (x : ℤ) → x ≡ x +ℤ pos 0
      nothing x = omega (arith, ints)
  coefficients-at put_in (n ∷ ns) [] sum made e = let same : sum ≡ made = cc in ap (sum_at point) (sym same) ∙ nothing (sum_at point sum)
    where
      nothing : (x : ℤ) → x ≡ x +ℤ pos 0
      nothing x = omega (arith, ints)
  coefficients-at put_in (n ∷ ns) (c ∷ cs) sum made e = go (int_eq n (pos 0)) refl e (λ next f. coefficients-at put_in ns cs next made f)
    where
      others : ℤ
      others = dot ns (map (λ d. sum_at point (put_in d)) cs)

      skipped : (x v s : ℤ) → x +ℤ s ≡ x +ℤ (pos 0 *ℤ v +ℤ s)
      skipped x v s = omega (arith, ints)

      grouped : (x v s : ℤ) → x +ℤ v +ℤ s ≡ x +ℤ (v +ℤ s)
      grouped x v s = omega (arith, ints)

      go : (b : Bool) → int_eq n (pos 0) ≡ b → add_substituted put_in (if b then coefficients ns cs else (c ∷ [], n) ∷ coefficients ns cs) sum ≡ Ok made
          → ((next : Polynomial) → add_substituted put_in (coefficients ns cs) next ≡ Ok made → sum_at point made ≡ sum_at point next +ℤ others)
          → sum_at point made ≡ sum_at point sum +ℤ (n *ℤ sum_at point (put_in c) +ℤ others)
      go true z f rest = rest sum f ∙ skipped (sum_at point sum) (sum_at point (put_in c)) others ∙ ap (λ k. sum_at point sum +ℤ (k *ℤ sum_at point (put_in c) +ℤ others)) (sym (int_eq-zero n z))
      go false z f rest =
          on_ok (substituted_monomial put_in (c ∷ []) n) (λ term. sum_of_polys sum term >>= λ next. add_substituted put_in (coefficients ns cs) next) made f
          (λ term g h. on_ok (sum_of_polys sum term) (λ next. add_substituted put_in (coefficients ns cs) next) made h
          (λ next k l. rest next l ∙ ap (λ v. v +ℤ others) (sum-at sum term next k ∙ ap (λ v. sum_at point sum +ℤ v) (multiple-at (put_in c) n term g))
          ∙ grouped (sum_at point sum) (n *ℤ sum_at point (put_in c)) others))

  linear-at : (put_in : Col → Polynomial) (ns : List ℤ) (cs : List Col) (p : Polynomial) → substituted_polynomial put_in (linear ns cs) ≡ Ok p → sum_at point p ≡ dot ns (map (λ c. sum_at point (put_in c)) cs)
  linear-at put_in ns cs p e =
      on_ok (add_substituted put_in (coefficients ns cs) (constant_of (pos 0))) (λ sum. plus sum.rest (pos 0) >>= λ r. Ok record { terms = sum.terms; rest = r }) p e
      (λ sum f g. on_ok (plus sum.rest (pos 0)) (λ r. Ok record { terms = sum.terms; rest = r }) p g
      (λ r h k. with_rest sum.terms r p k ∙ ap (λ z. terms_at point.numerator sum.terms +ℤ z *ℤ point.over) (plus-value sum.rest (pos 0) r h ∙ nothing sum.rest)
      ∙ coefficients-at put_in ns cs (constant_of (pos 0)) sum f ∙ first point.over (dot ns (map (λ c. sum_at point (put_in c)) cs))))
    where
      nothing : (x : ℤ) → x +ℤ pos 0 ≡ x
      nothing x = omega (arith, ints)

      first : (d x : ℤ) → pos 0 +ℤ pos 0 *ℤ d +ℤ x ≡ x
      first d x = omega (arith, ints)

  -- ---- expressions put in

  module _ (values : Col → Made) where
    when-made : (m : List Col) (next : Made) (p : Polynomial) → when_made values m next ≡ Ok p → next ≡ Ok p
    when-made [] next p e = e
    when-made (c ∷ m) next p e = on_ok (values c) (λ q. when_made values m next) p e (λ q f g. when-made m next p g)

    all-made : (ts : Terms) (next : Made) (p : Polynomial) → when_all_made values ts next ≡ Ok p → next ≡ Ok p
    all-made [] next p e = e
    all-made (t ∷ ts) next p e = all-made ts next p (when-made t.0 (when_all_made values ts next) p e)

    -- a linear polynomial with expressions put in for its columns has the form's value on theirs
    pub put_into-at : (ns : List ℤ) (cs : List Col) (p : Polynomial) → put_into values (linear ns cs) ≡ Ok p → sum_at point p ≡ dot ns (map (λ c. sum_at point (or_zero (values c))) cs)
    put_into-at ns cs p e = linear-at (λ c. or_zero (values c)) ns cs p (all-made (coefficients ns cs) (substituted_polynomial (λ c. or_zero (values c)) (linear ns cs)) p e)
