-- Whole numbers that make rows true make their products true.
use Rattle.std.proofs.Common.{◌≡◌, ℕ, zero, suc, Bool, true, false, cond, List, [], ◌∷◌, ◌++◌, map, take, Ok, Err, refl, arith, ℤ, pos, negsuc, ◌+ℤ◌, ◌-ℤ◌, ◌*ℤ◌, ◌≤ℤ◌}
use Rattle.std.specs.Prelude.{Option, None, Some, Result, neg_ℤ}
use Rattle.std.specs.List.{AllByRecursion, filter, filter_map, flat_map, list_any}
use Rattle.std.specs.Ordering.{eq_by_cmp}
use Rattle.std.proofs.lemmas.Int.{ints, by_lt_z}
use Rattle.whole_numbers.proofs.Ring.{ring, *ℤ-not_negative}
use Rattle.items.proofs.Gives.{on_ok}
use Rattle.items.proofs.Each.{each-any, each-append, each-front, each-flat_map, each-map}
use Rattle.linear_terms.specs.declared.col.Col.{Col}
use Rattle.linear_terms.specs.declared.error.TermError.{TermError}
use Rattle.linear_terms.specs.declared.row.Kind.{Kind}
use Rattle.linear_terms.specs.declared.row.Kind.TheVariants.{AtMost, Equal}
use Rattle.linear_terms.specs.declared.row.Row.{Row}
use Rattle.linear_terms.specs.declared.row.Normal.{Normal}
use Rattle.linear_terms.specs.declared.row.Normal.TheVariants.{Constant, Kept}
use Rattle.linear_terms.specs.Col.{col_cmp}
use Rattle.linear_terms.specs.Expressions.{Made, ◌⊠◌, ◌⊞◌, column, negative_of}
use Rattle.linear_terms.specs.Operations.{difference_of_polys, multiple_of, product_of_polys, sum_of_polys}
use Rattle.linear_terms.specs.Polynomial.{IsCanonical, Polynomial, column_of}
use Rattle.linear_terms.specs.Row.{IsWithin, RowHolds, RowsHold, normal_form}
use Rattle.linear_terms.specs.Value.{Valuation, value_of}
use Rattle.linear_terms.proofs.Canonical.{IsCanonical-column, IsCanonical-difference_of_polys, IsCanonical-multiple_of, IsCanonical-product_of_polys, IsCanonical-sum_of_polys}
use Rattle.linear_terms.proofs.Normals.{normal_form-SaysAsMuch}
use Rattle.linear_terms.proofs.Worth.{IsTrueIfMade-at_most, IsWorth, IsWorth-Ok, IsWorth-column, IsWorth-difference, IsWorth-product, IsWorth-sum, IsWorth-turned}
use Rattle.row_products.specs.Laws.{ProductsAreTrue, ProductsKeepPoints}
use Rattle.row_products.specs.Limits.{most_products}
use Rattle.row_products.specs.Products.{above_square, below_square, factors, has_one_of, high_monos, is_factor, is_factor_by, minus_product, new_rows, offers_of, product_row, product_rows, products, row_of, same_row, square_rows, telling, with_one_of}

-- ---- numbers

not_above : (z v x : ℤ) → pos 0 ≤ℤ z → z ≡ v -ℤ x → (x -ℤ v) ≤ℤ pos 0
not_above z v x h e = omega (arith, ints)

-- a whole number is at most its square
square-above : (x : ℤ) → (x -ℤ x *ℤ x) ≤ℤ pos 0
square-above x =
    by_lt_z (pos 0) x
    (λ above. not_above (x *ℤ (x -ℤ pos 1)) (x *ℤ x) x (*ℤ-not_negative x (x -ℤ pos 1) (omega (arith, ints)) (omega (arith, ints))) (one_less x))
    (λ below. not_above (neg_ℤ x *ℤ (pos 1 -ℤ x)) (x *ℤ x) x (*ℤ-not_negative (neg_ℤ x) (pos 1 -ℤ x) (omega (arith, ints)) (omega (arith, ints))) (turned_both x))
  where
    one_less : (x : ℤ) → x *ℤ (x -ℤ pos 1) ≡ x *ℤ x -ℤ x
    one_less x = simp ring (omega (arith, ints))

    turned_both : (x : ℤ) → neg_ℤ x *ℤ (pos 1 -ℤ x) ≡ x *ℤ x -ℤ x
    turned_both x = simp ring (omega (arith, ints))

-- and so is its opposite
square-above_opposite : (x : ℤ) → (pos 0 -ℤ (x *ℤ x +ℤ x)) ≤ℤ pos 0
square-above_opposite x = turn (neg_ℤ x *ℤ neg_ℤ x) (x *ℤ x) (square-above (neg_ℤ x)) (simp ring (omega (arith, ints)))
  where
    turn : (u v : ℤ) → (neg_ℤ x -ℤ u) ≤ℤ pos 0 → u ≡ v → (pos 0 -ℤ (v +ℤ x)) ≤ℤ pos 0
    turn u v h e = omega (arith, ints)

-- the product of two numbers that are not positive is not negative
product-not_negative : (u v : ℤ) → u ≤ℤ pos 0 → v ≤ℤ pos 0 → (pos 0 -ℤ u *ℤ v) ≤ℤ pos 0
product-not_negative u v h k = turn (neg_ℤ u *ℤ neg_ℤ v) (u *ℤ v) (*ℤ-not_negative (neg_ℤ u) (neg_ℤ v) (omega (arith, ints)) (omega (arith, ints))) (simp ring (omega (arith, ints)))
  where
    turn : (w z : ℤ) → pos 0 ≤ℤ w → w ≡ z → (pos 0 -ℤ z) ≤ℤ pos 0
    turn w z h e = omega (arith, ints)

-- ---- monomials of what is made stand in print order, each once

abbrev CanonicalIfMade : Made → Type 0
CanonicalIfMade made = (p : Polynomial) → made ≡ Ok p → IsCanonical p.terms

turned-canonical : (a : Made) → CanonicalIfMade a → CanonicalIfMade (negative_of a)
turned-canonical a canonical p e = on_ok a (λ q. multiple_of q (negsuc 0)) p e (λ q f g. IsCanonical-multiple_of q (negsuc 0) p g (canonical q f))

below_square-canonical : (x : Col) → CanonicalIfMade (below_square x)
below_square-canonical x p e =
    on_ok (product_of_polys (column_of x) (column_of x)) (λ q. difference_of_polys (column_of x) q) p e
    (λ q f g. IsCanonical-difference_of_polys (column_of x) q p g (IsCanonical-column (x ∷ [])))

above_square-canonical : (x : Col) → CanonicalIfMade (above_square x)
above_square-canonical x = turned-canonical (column x ⊠ column x ⊞ column x) (λ p e.
    on_ok (product_of_polys (column_of x) (column_of x)) (λ q. sum_of_polys q (column_of x)) p e
    (λ q f g. IsCanonical-sum_of_polys q (column_of x) p g (IsCanonical-product_of_polys (column_of x) (column_of x) q f)))

minus_product-canonical : (p q : Polynomial) → CanonicalIfMade (minus_product p q)
minus_product-canonical p q = turned-canonical (Ok p ⊠ Ok q) (λ r e. IsCanonical-product_of_polys p q r e)

module _ (at : Valuation) where
  -- a row that is offered, if there is one, is true
  abbrev Tells : Option Row → Type 0
  Tells None = Unit {0}
  Tells (Some row) = RowHolds at row

  -- ---- rows in normal form

  telling-true : (row : Row) (form : Result Normal TermError) → IsCanonical row.poly.terms → RowHolds at row → normal_form row ≡ form → Tells (telling form)
  telling-true row (Err e) canonical holds f = tt
  telling-true row (Ok (Constant true)) canonical holds f = tt
  telling-true row (Ok (Constant false)) canonical holds f = absurd (cc ((normal_form-SaysAsMuch at row (Constant false) canonical f).1 holds))
  telling-true row (Ok (Kept other)) canonical holds f = (normal_form-SaysAsMuch at row (Kept other) canonical f).1 holds

  row_of-true : (made : Made) {x : ℤ} → CanonicalIfMade made → IsWorth at made x → x ≤ℤ pos 0 → Tells (row_of made)
  row_of-true (Err e) canonical worth below = tt
  row_of-true (Ok p) canonical worth below =
      let row : Row = record { poly = p; kind = AtMost } in
      telling-true row (normal_form row) (canonical p refl) ((IsTrueIfMade-at_most worth below).holds row refl) refl

  -- ---- squares

  square_rows-true : (m : List Col) → AllByRecursion Tells (square_rows m)
  square_rows-true [] = tt
  square_rows-true (x ∷ []) = tt
  square_rows-true (x ∷ y ∷ []) = go (eq_by_cmp col_cmp x y)
    where
      below : Tells (row_of (below_square x))
      below = row_of-true (below_square x) (below_square-canonical x) (IsWorth-difference (IsWorth-column at x) (IsWorth-product (IsWorth-column at x) (IsWorth-column at x))) (square-above (at x))

      above : Tells (row_of (above_square x))
      above = row_of-true (above_square x) (above_square-canonical x) (IsWorth-turned (IsWorth-sum (IsWorth-product (IsWorth-column at x) (IsWorth-column at x)) (IsWorth-column at x))) (square-above_opposite (at x))

      go : (b : Bool) → AllByRecursion Tells (cond b (row_of (below_square x) ∷ row_of (above_square x) ∷ []) [])
      go true = (below, (above, tt))
      go false = tt
  square_rows-true (x ∷ y ∷ z ∷ m) = tt

  squares-true : (monos : List (List Col)) → AllByRecursion Tells (flat_map square_rows monos)
  squares-true monos = each-flat_map (λ m. Unit {0}) Tells square_rows (λ m u. square_rows-true m) monos (each-any (λ m. Unit {0}) (λ m. tt) monos)

  -- ---- products

  abbrev NotPositive : Polynomial → Type 0
  NotPositive p = value_of at p ≤ℤ pos 0

  with_one_of-true : (monos : List (List Col)) (offer : Option Row) → Tells offer → Tells (with_one_of monos offer)
  with_one_of-true monos None tells = tt
  with_one_of-true monos (Some row) tells = go (has_one_of monos row.poly)
    where
      go : (b : Bool) → Tells (cond b (Some row) None)
      go true = tells
      go false = tt

  product_row-true : (monos : List (List Col)) (p q : Polynomial) → NotPositive p → NotPositive q → Tells (product_row monos p q)
  product_row-true monos p q h k =
      with_one_of-true monos (row_of (minus_product p q))
      (row_of-true (minus_product p q) (minus_product-canonical p q) (IsWorth-turned (IsWorth-product (IsWorth-Ok at p) (IsWorth-Ok at q))) (product-not_negative (value_of at p) (value_of at q) h k))

  product_rows-true : (monos : List (List Col)) (ps : List Polynomial) → AllByRecursion NotPositive ps → AllByRecursion Tells (product_rows monos ps)
  product_rows-true monos [] each = tt
  product_rows-true monos (p ∷ ps) each =
      each-append Tells (map (product_row monos p) (p ∷ ps)) (product_rows monos ps)
      (each-map NotPositive Tells (product_row monos p) (λ q k. product_row-true monos p q each.0 k) (p ∷ ps) each)
      (product_rows-true monos ps each.1)

  factor-not_positive : (kind : Kind) (monos : List (List Col)) (p : Polynomial) → is_factor_by kind monos p.terms ≡ true → IsWithin kind (value_of at p) → NotPositive p
  factor-not_positive AtMost monos p e within = within
  factor-not_positive Equal monos p e within = cc

  factors-not_positive : (monos : List (List Col)) (rows : List Row) → RowsHold at rows → AllByRecursion NotPositive (factors monos rows)
  factors-not_positive monos [] each = tt
  factors-not_positive monos (row ∷ rows) each = go (is_factor monos row) refl (factors-not_positive monos rows each.1)
    where
      go : (b : Bool) → is_factor monos row ≡ b → AllByRecursion NotPositive (factors monos rows) → AllByRecursion NotPositive (map (λ (r : Row). r.poly) (cond b (row ∷ filter (is_factor monos) rows) (filter (is_factor monos) rows)))
      go true e more = (factor-not_positive row.kind monos row.poly e each.0, more)
      go false e more = more

  -- ---- together

  offers_of-true : (monos : List (List Col)) (rows : List Row) → RowsHold at rows → AllByRecursion Tells (offers_of monos rows)
  offers_of-true monos rows each =
      each-append Tells (flat_map square_rows monos) (product_rows monos (factors monos rows)) (squares-true monos)
      (product_rows-true monos (factors monos rows) (factors-not_positive monos rows each))

  made-true : (offers : List (Option Row)) → AllByRecursion Tells offers → RowsHold at (filter_map (λ row. row) offers)
  made-true [] each = tt
  made-true (None ∷ offers) each = made-true offers each.1
  made-true (Some row ∷ offers) each = (each.0, made-true offers each.1)

  new_rows-true : (before rows : List Row) → RowsHold at rows → RowsHold at (new_rows before rows)
  new_rows-true before [] each = tt
  new_rows-true before (row ∷ rows) each = go (list_any (same_row row) before) (new_rows-true before rows each.1) (new_rows-true (before ++ row ∷ []) rows each.1)
    where
      go : (b : Bool) → RowsHold at (new_rows before rows) → RowsHold at (new_rows (before ++ row ∷ []) rows) → RowsHold at (cond b (new_rows before rows) (row ∷ new_rows (before ++ row ∷ []) rows))
      go true old new = old
      go false old new = (each.0, new)

  take-true : (n : ℕ) (rows : List Row) → RowsHold at rows → RowsHold at (take n rows)
  take-true zero rows each = tt
  take-true (suc n) [] each = tt
  take-true (suc n) (row ∷ rows) each = (each.0, take-true n rows each.1)

  first-true : (n : ℕ) (before : List Row) (offers : List (Option Row)) → AllByRecursion Tells offers → RowsHold at (take n (new_rows before (filter_map (λ row. row) offers)))
  first-true n before offers each = take-true n (new_rows before (filter_map (λ row. row) offers)) (new_rows-true before (filter_map (λ row. row) offers) (made-true offers each))

pub products-true : ProductsAreTrue
products-true at rows each = first-true at most_products rows (offers_of (high_monos rows) rows) (offers_of-true at (high_monos rows) rows each)

pub products-keep_points : ProductsKeepPoints
products-keep_points rows = (
  λ point. (point.0, each-front (RowHolds point.0) rows (products rows) point.1),
  λ point. (point.0, each-append (RowHolds point.0) rows (products rows) point.1 (products-true point.0 rows point.1)),
)
