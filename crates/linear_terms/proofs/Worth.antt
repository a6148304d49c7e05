-- What expressions are worth under numbers for their columns, and what the rows that they make say.
--     IsWorth-..                 a leaf, an operation, a combination, expressions put in for columns
--     RowHolds-..                what a row of an expression says of its value
--     dot-..                     sums of numbers times values
use Rattle.std.proofs.Common.{◌≡◌, Ok, List, [], ◌∷◌, Bool, true, false, map, refl, sym, ap, subst, ◌∙◌, arith, ℤ, pos, negsuc, ◌+ℤ◌, ◌-ℤ◌, ◌*ℤ◌, ◌≤ℤ◌}
use Rattle.std.specs.Prelude.{Result, ◌↔◌, if◌then◌else◌}
use Rattle.std.specs.Ordering.{int_eq}
use Rattle.std.specs.List.{AllByRecursion}
use Rattle.std.proofs.lemmas.Int.{ints, by_lt_z}
use Rattle.whole_numbers.proofs.Ring.{ring}
use Rattle.items.specs.Gives.{◌>>=◌}
use Rattle.items.proofs.Gives.{on_ok}
use Rattle.linear_terms.specs.declared.col.Col.{Col}
use Rattle.linear_terms.specs.declared.error.TermError.{TermError}
use Rattle.linear_terms.specs.declared.row.Kind.{Kind}
use Rattle.linear_terms.specs.declared.row.Kind.TheVariants.{AtMost, Equal}
use Rattle.linear_terms.specs.declared.row.Row.{Row}
use Rattle.linear_terms.specs.Polynomial.{Terms, Polynomial, constant_of, column_of}
use Rattle.linear_terms.specs.Operations.{with_term, product_of_polys, multiple_of, sum_of_polys, difference_of_polys, substituted_polynomial}
use Rattle.linear_terms.specs.Row.{RowHolds, IsWithin}
use Rattle.linear_terms.specs.Value.{Valuation, mono_value, terms_value, value_of}
use Rattle.whole_numbers.specs.Dot.{dot}
use Rattle.linear_terms.specs.Expressions.{Made, ◌⊠◌, ◌⊞◌, ◌⊟◌, whole, column, negative_of, at_most, equation, negation, all_of, coefficients, linear, sum_from, weighted_sum, combination, or_zero, when_made, when_all_made, put_into}
use Rattle.linear_terms.proofs.Values.{int_eq-zero, sum_of_polys-value, multiple_of-value, difference_of_polys-value, product_of_polys-value, substituted-value}

-- ---- expressions

-- what is made, if it is, has this value
pub record IsWorth (at : Valuation) (made : Made) (value : ℤ) : Type 0 where
  pub as_made : (p : Polynomial) → made ≡ Ok p → value_of at p ≡ value

pub IsWorth-Ok : (at : Valuation) (p : Polynomial) → IsWorth at (Ok p) (value_of at p)
IsWorth-Ok at p = record { as_made = λ q e. let same : p ≡ q = cc in ap (value_of at) (sym same) }

pub IsWorth-same : {at : Valuation} {made : Made} {x y : ℤ} → x ≡ y → IsWorth at made x → IsWorth at made y
IsWorth-same {at = at} {made = made} e worth = record { as_made = λ p f. worth.as_made p f ∙ e }

pub IsWorth-whole : (at : Valuation) (n : ℤ) → IsWorth at (whole n) n
IsWorth-whole at n = record {
  as_made = λ q e. let same : constant_of n ≡ q = cc in ap (value_of at) (sym same) ∙ alone n;
}
  where
    alone : (x : ℤ) → pos 0 +ℤ x ≡ x
    alone x = omega (arith, ints)

pub column_of-value : (at : Valuation) (c : Col) → value_of at (column_of c) ≡ at c
column_of-value at c = alone (at c)
  where
    alone : (x : ℤ) → pos 1 *ℤ (x *ℤ pos 1) +ℤ pos 0 +ℤ pos 0 ≡ x
    alone x = omega (arith, ints)

pub IsWorth-column : (at : Valuation) (c : Col) → IsWorth at (column c) (at c)
IsWorth-column at c = IsWorth-same (column_of-value at c) (IsWorth-Ok at (column_of c))

pub IsWorth-product : {at : Valuation} {a b : Made} {x y : ℤ} → IsWorth at a x → IsWorth at b y → IsWorth at (a ⊠ b) (x *ℤ y)
IsWorth-product {at = at} {a = a} {b = b} {x = x} {y = y} of_a of_b = record {
  as_made = λ r e.
      on_ok a (λ p. b >>= λ q. product_of_polys p q) r e (λ p f g.
      on_ok b (λ q. product_of_polys p q) r g (λ q h l.
      product_of_polys-value at p q r l
      ∙ ap (λ v. v *ℤ value_of at q) (of_a.as_made p f)
      ∙ ap (λ v. x *ℤ v) (of_b.as_made q h)));
}

pub IsWorth-difference : {at : Valuation} {a b : Made} {x y : ℤ} → IsWorth at a x → IsWorth at b y → IsWorth at (a ⊟ b) (x -ℤ y)
IsWorth-difference {at = at} {a = a} {b = b} {x = x} {y = y} of_a of_b = record {
  as_made = λ r e.
      on_ok a (λ p. b >>= λ q. difference_of_polys p q) r e (λ p f g.
      on_ok b (λ q. difference_of_polys p q) r g (λ q h l.
      difference_of_polys-value at p q r l
      ∙ ap (λ v. v -ℤ value_of at q) (of_a.as_made p f)
      ∙ ap (λ v. x -ℤ v) (of_b.as_made q h)));
}

pub IsWorth-sum : {at : Valuation} {a b : Made} {x y : ℤ} → IsWorth at a x → IsWorth at b y → IsWorth at (a ⊞ b) (x +ℤ y)
IsWorth-sum {at = at} {a = a} {b = b} {x = x} {y = y} of_a of_b = record {
  as_made = λ r e.
      on_ok a (λ p. b >>= λ q. sum_of_polys p q) r e (λ p f g.
      on_ok b (λ q. sum_of_polys p q) r g (λ q h l.
      sum_of_polys-value at p q r l
      ∙ ap (λ v. v +ℤ value_of at q) (of_a.as_made p f)
      ∙ ap (λ v. x +ℤ v) (of_b.as_made q h)));
}

-- a step after an expression
pub IsWorth-then : {at : Valuation} {a : Made} {x y : ℤ} (f : Polynomial → Made) → IsWorth at a x
    → ((p : Polynomial) → value_of at p ≡ x → IsWorth at (f p) y) → IsWorth at (a >>= f) y
IsWorth-then {a = a} f of_a next = record {
  as_made = λ r e. on_ok a f r e (λ p g h. (next p (of_a.as_made p g)).as_made r h);
}

pub IsWorth-turned : {at : Valuation} {a : Made} {x : ℤ} → IsWorth at a x → IsWorth at (negative_of a) (pos 0 -ℤ x)
IsWorth-turned {at = at} {a = a} {x = x} of_a = record {
  as_made = λ r e. on_ok a (λ p. multiple_of p (negsuc 0)) r e (λ p f g.
      times_minus_one (value_of at r) (value_of at p) (multiple_of-value at p (negsuc 0) r g) (of_a.as_made p f));
}
  where
    times_minus_one : (u v : ℤ) → u ≡ v *ℤ negsuc 0 → v ≡ x → u ≡ pos 0 -ℤ x
    times_minus_one u v e f = omega (arith, ints)

-- ---- rows

abbrev row_of : Kind → Polynomial → Row
row_of k p = record { poly = p; kind = k }

-- the row, if it is made, is true
pub record IsTrueIfMade (at : Valuation) (made : Result Row TermError) : Type 0 where
  pub holds : (r : Row) → made ≡ Ok r → RowHolds at r

row-holds : {at : Valuation} {a : Made} {x : ℤ} (k : Kind) → IsWorth at a x → (r : Row) → a >>= (λ p. Ok (row_of k p)) ≡ Ok r → RowHolds at r ↔ IsWithin k x
row-holds {at = at} {a = a} {x = x} k of_a r e =
    on_ok a (λ p. Ok (row_of k p)) r e (λ p f g. let same : row_of k p ≡ r = cc in
    subst (λ (row : Row). RowHolds at row ↔ IsWithin k x) same
    (subst (λ z. IsWithin k z ↔ IsWithin k x) (sym (of_a.as_made p f)) (λ h. h, λ h. h)))

-- a row says of its expression's value what its kind says
pub RowHolds-at_most : {at : Valuation} {a : Made} {x : ℤ} → IsWorth at a x → (r : Row) → at_most a ≡ Ok r → RowHolds at r ↔ (x ≤ℤ pos 0)
RowHolds-at_most of_a r e = row-holds AtMost of_a r e

pub RowHolds-equation : {at : Valuation} {a : Made} {x : ℤ} → IsWorth at a x → (r : Row) → equation a ≡ Ok r → RowHolds at r ↔ (x ≡ pos 0)
RowHolds-equation of_a r e = row-holds Equal of_a r e

pub IsTrueIfMade-at_most : {at : Valuation} {a : Made} {x : ℤ} → IsWorth at a x → x ≤ℤ pos 0 → IsTrueIfMade at (at_most a)
IsTrueIfMade-at_most of_a below = record { holds = λ r e. (RowHolds-at_most of_a r e).1 below }

pub IsTrueIfMade-equation : {at : Valuation} {a : Made} {x : ℤ} → IsWorth at a x → x ≡ pos 0 → IsTrueIfMade at (equation a)
IsTrueIfMade-equation of_a zero_there = record { holds = λ r e. (RowHolds-equation of_a r e).1 zero_there }

-- the negation of an inequality holds exactly where it does not
pub RowHolds-negation : (at : Valuation) (p : Polynomial) (r : Row) → negation p ≡ Ok r → RowHolds at r ↔ (value_of at p ≤ℤ pos 0 → ⊥)
RowHolds-negation at p r e =
    let says = RowHolds-at_most (IsWorth-sum (IsWorth-turned (IsWorth-Ok at p)) (IsWorth-whole at (pos 1))) r e in
    let sides = above (value_of at p) in
    (λ h. sides.0 (says.0 h), λ h. says.1 (sides.1 h))
  where
    above : (v : ℤ) → ((pos 0 -ℤ v +ℤ pos 1) ≤ℤ pos 0) ↔ (v ≤ℤ pos 0 → ⊥)
    above v = (λ h below. omega (arith, ints), λ not_below. by_le v not_below)
      where
        by_le : (v : ℤ) → (v ≤ℤ pos 0 → ⊥) → (pos 0 -ℤ v +ℤ pos 1) ≤ℤ pos 0
        by_le v never = by_lt_z (pos 0) v (λ over. omega (arith, ints)) (λ under. absurd (never under))

-- ---- sums of numbers times values

-- numbers times values that are the difference of others
pub dot-minus : {A : Type 0} (bs : List ℤ) (xs : List A) (f g h : A → ℤ) → AllByRecursion (λ x. f x -ℤ g x ≡ h x) xs
    → dot bs (map f xs) -ℤ dot bs (map g xs) ≡ dot bs (map h xs)
dot-minus [] xs f g h all = refl
dot-minus (b ∷ bs) [] f g h all = refl
dot-minus (b ∷ bs) (x ∷ xs) f g h all =
    spread b (f x) (g x) (h x) (dot bs (map f xs)) (dot bs (map g xs)) (dot bs (map h xs)) all.0 (dot-minus bs xs f g h all.1)
  where
    apart : (b u v : ℤ) → b *ℤ (u -ℤ v) ≡ b *ℤ u -ℤ b *ℤ v
    apart b u v = simp ring (omega (arith, ints))

    spread : (b u v w s t r : ℤ) → u -ℤ v ≡ w → s -ℤ t ≡ r → b *ℤ u +ℤ s -ℤ (b *ℤ v +ℤ t) ≡ b *ℤ w +ℤ r
    spread b u v w s t r e k = let split : b *ℤ w ≡ b *ℤ u -ℤ b *ℤ v = ap (λ z. b *ℤ z) (sym e) ∙ apart b u v in omega (arith, ints)

pub dot-same : {A : Type 0} (bs : List ℤ) (xs : List A) (f g : A → ℤ) → AllByRecursion (λ x. f x ≡ g x) xs → dot bs (map f xs) ≡ dot bs (map g xs)
dot-same [] xs f g all = refl
dot-same (b ∷ bs) [] f g all = refl
dot-same (b ∷ bs) (x ∷ xs) f g all = λ i. b *ℤ all.0 i +ℤ dot-same bs xs f g all.1 i

kept-value : (at : Valuation) (m : List Col) (a : ℤ) (ts : Terms) → terms_value at (with_term m a ts) ≡ a *ℤ mono_value at m +ℤ terms_value at ts
kept-value at m a ts = go (int_eq a (pos 0)) refl
  where
    none : (x y : ℤ) → y ≡ pos 0 *ℤ x +ℤ y
    none x y = omega (arith, ints)

    go : (b : Bool) → int_eq a (pos 0) ≡ b → terms_value at (if b then ts else (m, a) ∷ ts) ≡ a *ℤ mono_value at m +ℤ terms_value at ts
    go true e = none (mono_value at m) (terms_value at ts) ∙ ap (λ z. z *ℤ mono_value at m +ℤ terms_value at ts) (sym (int_eq-zero a e))
    go false e = refl

coefficients-value : (at : Valuation) (ns : List ℤ) (cs : List Col) → terms_value at (coefficients ns cs) ≡ dot ns (map at cs)
coefficients-value at [] cs = refl
coefficients-value at (n ∷ ns) [] = refl
coefficients-value at (n ∷ ns) (c ∷ cs) =
    kept-value at (c ∷ []) n (coefficients ns cs) ∙ once n (at c) (terms_value at (coefficients ns cs)) (dot ns (map at cs)) (coefficients-value at ns cs)
  where
    once : (n x s t : ℤ) → s ≡ t → n *ℤ (x *ℤ pos 1) +ℤ s ≡ n *ℤ x +ℤ t
    once n x s t e = simp ring (omega (arith, ints))

pub linear-value : (at : Valuation) (ns : List ℤ) (cs : List Col) → value_of at (linear ns cs) ≡ dot ns (map at cs)
linear-value at ns cs = right_none (terms_value at (coefficients ns cs)) ∙ coefficients-value at ns cs
  where
    right_none : (x : ℤ) → x +ℤ pos 0 ≡ x
    right_none x = omega (arith, ints)

-- ---- combinations

abbrev pub AreWorth : Valuation → List Made → List ℤ → Type 0
AreWorth at [] [] = Unit {0}
AreWorth at [] (x ∷ xs) = ⊥
AreWorth at (m ∷ ms) [] = ⊥
AreWorth at (m ∷ ms) (x ∷ xs) = IsWorth at m x × AreWorth at ms xs

IsWorth-sum_from : (at : Valuation) (total : Polynomial) (bs : List ℤ) (ps : List Polynomial) (xs : List ℤ) → map (value_of at) ps ≡ xs
    → IsWorth at (sum_from total bs ps) (value_of at total +ℤ dot bs xs)
IsWorth-sum_from at total [] ps xs e = IsWorth-same (right_none (value_of at total)) (IsWorth-Ok at total)
  where
    right_none : (x : ℤ) → x ≡ x +ℤ pos 0
    right_none x = omega (arith, ints)
IsWorth-sum_from at total (b ∷ bs) [] xs e = subst (λ ys. IsWorth at (Ok total) (value_of at total +ℤ dot (b ∷ bs) ys)) e (IsWorth-same (right_none (value_of at total)) (IsWorth-Ok at total))
  where
    right_none : (x : ℤ) → x ≡ x +ℤ pos 0
    right_none x = omega (arith, ints)
IsWorth-sum_from at total (b ∷ bs) (p ∷ ps) xs e =
    subst (λ ys. IsWorth at (sum_from total (b ∷ bs) (p ∷ ps)) (value_of at total +ℤ dot (b ∷ bs) ys)) e
    (IsWorth-then (λ next. sum_from next bs ps) (IsWorth-sum (IsWorth-Ok at total) (IsWorth-product (IsWorth-whole at b) (IsWorth-Ok at p)))
    (λ next f. IsWorth-same (added (value_of at next) (value_of at total) (b *ℤ value_of at p) (dot bs (map (value_of at) ps)) f) (IsWorth-sum_from at next bs ps (map (value_of at) ps) refl)))
  where
    added : (u t x y : ℤ) → u ≡ t +ℤ x → u +ℤ y ≡ t +ℤ (x +ℤ y)
    added u t x y e = omega (arith, ints)

all_of-values : (at : Valuation) (ms : List Made) (xs : List ℤ) (ps : List Polynomial) → AreWorth at ms xs → all_of ms ≡ Ok ps → map (value_of at) ps ≡ xs
all_of-values at [] [] ps worth e = let same : [] ≡ ps = cc in ap (map (value_of at)) (sym same)
all_of-values at [] (x ∷ xs) ps worth e = absurd worth
all_of-values at (m ∷ ms) [] ps worth e = absurd worth
all_of-values at (m ∷ ms) (x ∷ xs) ps worth e =
    on_ok m (λ p. all_of ms >>= λ qs. Ok (p ∷ qs)) ps e
    (λ p f g. on_ok (all_of ms) (λ qs. Ok (p ∷ qs)) ps g
    (λ qs h k. let same : p ∷ qs ≡ ps = cc in ap (map (value_of at)) (sym same) ∙ (λ i. worth.0.as_made p f i ∷ all_of-values at ms xs qs worth.1 h i)))

pub IsWorth-weighted : (at : Valuation) (ns : List ℤ) (ps : List Polynomial) → IsWorth at (weighted_sum ns ps) (dot ns (map (value_of at) ps))
IsWorth-weighted at ns ps = IsWorth-same (none (dot ns (map (value_of at) ps))) (IsWorth-sum_from at (constant_of (pos 0)) ns ps (map (value_of at) ps) refl)
  where
    none : (x : ℤ) → pos 0 +ℤ pos 0 +ℤ x ≡ x
    none x = omega (arith, ints)

pub weighted-value : (at : Valuation) (ns : List ℤ) (ps : List Polynomial) (p : Polynomial) → weighted_sum ns ps ≡ Ok p → value_of at p ≡ dot ns (map (value_of at) ps)
weighted-value at ns ps p e = (IsWorth-weighted at ns ps).as_made p e

pub IsWorth-combination : (at : Valuation) (bs : List ℤ) (ms : List Made) (xs : List ℤ) → AreWorth at ms xs → IsWorth at (combination bs ms) (dot bs xs)
IsWorth-combination at bs ms xs worth = record {
  as_made = λ r e. on_ok (all_of ms) (λ ps. sum_from (constant_of (pos 0)) bs ps) r e
      (λ ps f g. (IsWorth-sum_from at (constant_of (pos 0)) bs ps xs (all_of-values at ms xs ps worth f)).as_made r g ∙ none (dot bs xs));
}
  where
    none : (x : ℤ) → pos 0 +ℤ pos 0 +ℤ x ≡ x
    none x = omega (arith, ints)

-- ---- expressions put in for columns

-- each column's value, if it can be made, is the number that another valuation has there
pub record ReadsThrough (at : Valuation) (values : Col → Made) (w : Valuation) : Type 0 where
  pub each : (c : Col) → IsWorth at (values c) (w c)

module _ (at : Valuation) (values : Col → Made) (w : Valuation) (reads : ReadsThrough at values w) where
  seen : Valuation
  seen c = value_of at (or_zero (values c))

  seen-is : (c : Col) (p : Polynomial) → values c ≡ Ok p → seen c ≡ w c
  unfolding seen
  seen-is c p e = ap (λ m. value_of at (or_zero m)) e ∙ (reads.each c).as_made p e

  mono-seen : (m : List Col) (next : Made) (p : Polynomial) → when_made values m next ≡ Ok p → (mono_value seen m ≡ mono_value w m) × (next ≡ Ok p)
  mono-seen [] next p e = (refl, e)
  mono-seen (c ∷ m) next p e = on_ok (values c) (λ q. when_made values m next) p e (λ q f g.
      let rest = mono-seen m next p g in ((λ i. seen-is c q f i *ℤ rest.0 i), rest.1))

  terms-seen : (ts : Terms) (next : Made) (p : Polynomial) → when_all_made values ts next ≡ Ok p → (terms_value seen ts ≡ terms_value w ts) × (next ≡ Ok p)
  terms-seen [] next p e = (refl, e)
  terms-seen (t ∷ ts) next p e =
      let here = mono-seen t.0 (when_all_made values ts next) p e in
      let rest = terms-seen ts next p here.1 in ((λ i. t.1 *ℤ here.0 i +ℤ rest.0 i), rest.1)

  pub IsWorth-put_into : (d : Polynomial) → IsWorth at (put_into values d) (value_of w d)
  unfolding seen
  IsWorth-put_into d = record {
    as_made = λ p e.
        let found = terms-seen d.terms (substituted_polynomial (λ c. or_zero (values c)) d) p e in
        substituted-value at (λ c. or_zero (values c)) d p found.1 ∙ ap (λ x. x +ℤ d.rest) found.0;
  }

-- for the code, whose paths take no dash
pub ruleset weighted_value = (weighted-value)
