-- The columns of expressions and rows.
use Rattle.std.proofs.Common.{◌≡◌, ℕ, zero, suc, List, [], ◌∷◌, Bool, true, false, Ok, Err, map, refl, subst, ℤ, pos, negsuc}
use Rattle.std.specs.Prelude.{Result, if◌then◌else◌}
use Rattle.std.specs.List.{AllByRecursion}
use Rattle.std.specs.Ordering.{int_eq}
use Rattle.items.specs.Gives.{◌>>=◌}
use Rattle.items.proofs.Gives.{on_ok}
use Rattle.items.proofs.Each.{each-map, each-more}
use Rattle.linear_terms.specs.declared.col.Col.{Col}
use Rattle.linear_terms.specs.declared.col.Col.TheVariants.{At, Aux}
use Rattle.linear_terms.specs.declared.error.TermError.{TermError}
use Rattle.linear_terms.specs.declared.row.Kind.TheVariants.{AtMost, Equal}
use Rattle.linear_terms.specs.declared.row.Row.{Row}
use Rattle.linear_terms.specs.Expressions.{Made, ◌⊠◌, ◌⊞◌, ◌⊟◌, whole, column, negative_of, at_most, or_zero, all_of, coefficients, sum_from, combination, when_made, when_all_made, put_into}
use Rattle.linear_terms.specs.Operations.{sum_of_polys, multiple_of, difference_of_polys, product_of_polys, substituted_polynomial}
use Rattle.linear_terms.specs.Polynomial.{Terms, Polynomial, constant_of, column_of, mono_of}
use Rattle.linear_terms.specs.Replacement.{put_in}
use Rattle.linear_terms.proofs.Columns.{EachColumn, sum_of_polys-each, multiple_of-each, product_of_polys-each, substituted-each}
use Rattle.closed_form.specs.ClosedRow.{closed_poly, closed_row, sum_row}
use Rattle.farkas_check.specs.declared.stratum.Relation.{Relation}
use Rattle.polyhedra.specs.Changes.{poly_at}
use Rattle.polyhedra.specs.Bounds.{for_entries, put_in_for}
use Rattle.recurrence.specs.declared.terms.Recurrence.{Recurrence}
use Rattle.recurrence.specs.Products.{growth, grown, sequence_of}
use Rattle.recurrence.specs.Strata.{steady, recurrence_of}

-- ---- expressions whose columns have a property

module _ (P : Col → Type 0) where
  pub record IsWithin (m : Made) : Type 0 where
    pub as_made : (p : Polynomial) → m ≡ Ok p → EachColumn P p.terms

  pub within-Ok : (d : Polynomial) → EachColumn P d.terms → IsWithin (Ok d)
  within-Ok d h = record { as_made = λ p e. let same : d ≡ p = cc in subst (λ q. EachColumn P q.terms) same h }

  pub within-whole : (n : ℤ) → IsWithin (whole n)
  within-whole n = within-Ok (constant_of n) tt

  pub within-column : (c : Col) → P c → IsWithin (column c)
  within-column c h = within-Ok (column_of c) ((h, tt), tt)

  pub within-turned : (m : Made) → IsWithin m → IsWithin (negative_of m)
  within-turned m h = record { as_made = λ p e. on_ok m (λ a. multiple_of a (negsuc 0)) p e (λ a f g. multiple_of-each P a (negsuc 0) p g (h.as_made a f)) }

  pub within-product : (a b : Made) → IsWithin a → IsWithin b → IsWithin (a ⊠ b)
  within-product a b of_a of_b = record {
    as_made = λ r e.
        on_ok a (λ p. b >>= λ q. product_of_polys p q) r e (λ p f g.
        on_ok b (λ q. product_of_polys p q) r g (λ q h l. product_of_polys-each P p q r l (of_a.as_made p f) (of_b.as_made q h)));
  }

  pub within-sum : (a b : Made) → IsWithin a → IsWithin b → IsWithin (a ⊞ b)
  within-sum a b of_a of_b = record {
    as_made = λ r e.
        on_ok a (λ p. b >>= λ q. sum_of_polys p q) r e (λ p f g.
        on_ok b (λ q. sum_of_polys p q) r g (λ q h l. sum_of_polys-each P p q r l (of_a.as_made p f) (of_b.as_made q h)));
  }

  pub within-difference : (a b : Made) → IsWithin a → IsWithin b → IsWithin (a ⊟ b)
  within-difference a b of_a of_b = record {
    as_made = λ r e.
        on_ok a (λ p. b >>= λ q. difference_of_polys p q) r e (λ p f g.
        on_ok b (λ q. difference_of_polys p q) r g (λ q h l.
        on_ok (multiple_of q (negsuc 0)) (λ columns_after_turn. sum_of_polys p columns_after_turn) r l (λ t m n. sum_of_polys-each P p t r n (of_a.as_made p f) (multiple_of-each P q (negsuc 0) t m (of_b.as_made q h)))));
  }

  pub within-or_zero : (m : Made) → IsWithin m → EachColumn P (or_zero m).terms
  within-or_zero (Ok p) h = h.as_made p refl
  within-or_zero (Err e) h = tt

  when-next : (values : Col → Made) (m : List Col) (next : Made) (p : Polynomial) → when_made values m next ≡ Ok p → next ≡ Ok p
  when-next values [] next p e = e
  when-next values (c ∷ m) next p e = on_ok (values c) (λ q. when_made values m next) p e (λ q f g. when-next values m next p g)

  when_all-next : (values : Col → Made) (ts : Terms) (next : Made) (p : Polynomial) → when_all_made values ts next ≡ Ok p → next ≡ Ok p
  when_all-next values [] next p e = e
  when_all-next values (t ∷ ts) next p e = when_all-next values ts next p (when-next values t.0 (when_all_made values ts next) p e)

  pub within-put_into : (Q : Col → Type 0) (values : Col → Made) (d : Polynomial) → ((c : Col) → Q c → IsWithin (values c)) → EachColumn Q d.terms → IsWithin (put_into values d)
  within-put_into Q values d fine h = record {
    as_made = λ p e. substituted-each Q P (λ c. or_zero (values c)) (λ c q. within-or_zero (values c) (fine c q)) d p (when_all-next values d.terms (substituted_polynomial (λ c. or_zero (values c)) d) p e) h;
  }

  -- polynomials put in for the columns of a direction
  within-at : (polys : List Polynomial) (v : ℕ) → AllByRecursion (λ (p : Polynomial). EachColumn P p.terms) polys → EachColumn P (poly_at polys v).terms
  within-at [] v h = tt
  within-at (p ∷ polys) zero h = h.0
  within-at (p ∷ polys) (suc v) h = within-at polys v h.1

  pub within-put_in_for : (polys : List Polynomial) (d : Polynomial) → AllByRecursion (λ (p : Polynomial). EachColumn P p.terms) polys → IsWithin (put_in_for polys d)
  within-put_in_for polys d h = within-put_into (λ c. Unit {0}) (for_entries (λ v. Ok (poly_at polys v))) d fine (any_terms d.terms)
    where
      fine : (c : Col) → Unit {0} → IsWithin (for_entries (λ v. Ok (poly_at polys v)) c)
      fine (At v) any = within-Ok (poly_at polys v) (within-at polys v h)
      fine (Aux n) any = within-whole (pos 0)

      any_columns : (m : List Col) → AllByRecursion (λ c. Unit {0}) m
      any_columns [] = tt
      any_columns (c ∷ m) = (tt, any_columns m)

      any_terms : (ts : Terms) → EachColumn (λ c. Unit {0}) ts
      any_terms [] = tt
      any_terms (t ∷ ts) = (any_columns t.0, any_terms ts)

  pub within-coefficients : (ns : List ℤ) (cs : List Col) → AllByRecursion P cs → EachColumn P (coefficients ns cs)
  within-coefficients [] cs h = tt
  within-coefficients (n ∷ ns) [] h = tt
  within-coefficients (n ∷ ns) (c ∷ cs) h = go (int_eq n (pos 0)) (within-coefficients ns cs h.1)
    where
      go : (b : Bool) → EachColumn P (coefficients ns cs) → EachColumn P (if b then coefficients ns cs else (c ∷ [], n) ∷ coefficients ns cs)
      go true rest = rest
      go false rest = ((h.0, tt), rest)

  pub within-sum_from : (total : Polynomial) (bs : List ℤ) (ps : List Polynomial) → EachColumn P total.terms → AllByRecursion (λ (p : Polynomial). EachColumn P p.terms) ps → IsWithin (sum_from total bs ps)
  within-sum_from total [] ps h k = within-Ok total h
  within-sum_from total (b ∷ bs) [] h k = within-Ok total h
  within-sum_from total (b ∷ bs) (p ∷ ps) h k = record {
    as_made = λ r e. on_ok (Ok total ⊞ whole b ⊠ Ok p) (λ next. sum_from next bs ps) r e (λ next f g.
        (within-sum_from next bs ps ((within-sum (Ok total) (whole b ⊠ Ok p) (within-Ok total h) (within-product (whole b) (Ok p) (within-whole b) (within-Ok p k.0))).as_made next f) k.1).as_made r g);
  }

  pub within-all_of : (ms : List Made) (ps : List Polynomial) → all_of ms ≡ Ok ps → AllByRecursion IsWithin ms → AllByRecursion (λ (p : Polynomial). EachColumn P p.terms) ps
  within-all_of [] ps e h = let same : [] ≡ ps = cc in subst (AllByRecursion (λ (p : Polynomial). EachColumn P p.terms)) same tt
  within-all_of (m ∷ ms) ps e h =
      on_ok m (λ p. all_of ms >>= λ qs. Ok (p ∷ qs)) ps e (λ p f g. on_ok (all_of ms) (λ qs. Ok (p ∷ qs)) ps g (λ qs k l.
      let same : p ∷ qs ≡ ps = cc in subst (AllByRecursion (λ (p : Polynomial). EachColumn P p.terms)) same (h.0.as_made p f, within-all_of ms qs k h.1)))

  pub within-combination : (bs : List ℤ) (ms : List Made) → AllByRecursion IsWithin ms → IsWithin (combination bs ms)
  within-combination bs ms h = record {
    as_made = λ r e. on_ok (all_of ms) (λ ps. sum_from (constant_of (pos 0)) bs ps) r e (λ ps f g. (within-sum_from (constant_of (pos 0)) bs ps tt (within-all_of ms ps f h)).as_made r g);
  }

  -- ---- rows

  pub record IsRowWithin (m : Result Row TermError) : Type 0 where
    pub as_made : (r : Row) → m ≡ Ok r → EachColumn P r.poly.terms

  pub within-at_most : (m : Made) → IsWithin m → IsRowWithin (at_most m)
  within-at_most m h = record {
    as_made = λ r e. on_ok m (λ p. Ok record { poly = p; kind = AtMost }) r e
        (λ p f g. let same : record { poly = p; kind = AtMost } ≡ r = cc in subst (λ (row : Row). EachColumn P row.poly.terms) same (h.as_made p f));
  }

  pub within-closed_row : (after before d1 d2 d3 : Polynomial) (k : Col) → EachColumn P after.terms → EachColumn P before.terms → EachColumn P d1.terms → EachColumn P d2.terms → EachColumn P d3.terms → P k → IsRowWithin (closed_row after before d1 d2 d3 k)
  within-closed_row after before d1 d2 d3 k ha hb h1 h2 h3 hk = record {
    as_made = λ r e. on_ok (closed_poly (Ok after) (Ok before) (Ok d1) (Ok d2) (Ok d3) (Ok (column_of k))) (λ p. Ok record { poly = p; kind = Equal }) r e
        (λ p f g. let same : record { poly = p; kind = Equal } ≡ r = cc in subst (λ (row : Row). EachColumn P row.poly.terms) same (is_made.as_made p f));
  }
    where
      counted : IsWithin (Ok (column_of k))
      counted = within-column k hk

      less : (n : ℕ) → IsWithin (Ok (column_of k) ⊟ whole (pos n))
      less n = within-difference (Ok (column_of k)) (whole (pos n)) (within-column k hk) (within-whole (pos n))

      sixth : (p : Polynomial) → EachColumn P p.terms → IsWithin (whole (pos 6) ⊠ Ok p)
      sixth p h = within-product (whole (pos 6)) (Ok p) (within-whole (pos 6)) (within-Ok p h)

      is_made : IsWithin (closed_poly (Ok after) (Ok before) (Ok d1) (Ok d2) (Ok d3) (Ok (column_of k)))
      is_made =
          within-difference
          (whole (pos 6) ⊠ Ok after ⊟ whole (pos 6) ⊠ Ok before ⊟ whole (pos 6) ⊠ Ok (column_of k) ⊠ Ok d1 ⊟ whole (pos 3) ⊠ Ok (column_of k) ⊠ (Ok (column_of k) ⊟ whole (pos 1)) ⊠ Ok d2)
          (Ok (column_of k) ⊠ (Ok (column_of k) ⊟ whole (pos 1)) ⊠ (Ok (column_of k) ⊟ whole (pos 2)) ⊠ Ok d3)
          (within-difference
          (whole (pos 6) ⊠ Ok after ⊟ whole (pos 6) ⊠ Ok before ⊟ whole (pos 6) ⊠ Ok (column_of k) ⊠ Ok d1)
          (whole (pos 3) ⊠ Ok (column_of k) ⊠ (Ok (column_of k) ⊟ whole (pos 1)) ⊠ Ok d2)
          (within-difference (whole (pos 6) ⊠ Ok after ⊟ whole (pos 6) ⊠ Ok before) (whole (pos 6) ⊠ Ok (column_of k) ⊠ Ok d1)
          (within-difference (whole (pos 6) ⊠ Ok after) (whole (pos 6) ⊠ Ok before) (sixth after ha) (sixth before hb))
          (within-product (whole (pos 6) ⊠ Ok (column_of k)) (Ok d1) (sixth (column_of k) ((hk, tt), tt)) (within-Ok d1 h1)))
          (within-product (whole (pos 3) ⊠ Ok (column_of k) ⊠ (Ok (column_of k) ⊟ whole (pos 1))) (Ok d2)
          (within-product (whole (pos 3) ⊠ Ok (column_of k)) (Ok (column_of k) ⊟ whole (pos 1)) (within-product (whole (pos 3)) (Ok (column_of k)) (within-whole (pos 3)) counted) (less 1)) (within-Ok d2 h2)))
          (within-product (Ok (column_of k) ⊠ (Ok (column_of k) ⊟ whole (pos 1)) ⊠ (Ok (column_of k) ⊟ whole (pos 2))) (Ok d3)
          (within-product (Ok (column_of k) ⊠ (Ok (column_of k) ⊟ whole (pos 1))) (Ok (column_of k) ⊟ whole (pos 2)) (within-product (Ok (column_of k)) (Ok (column_of k) ⊟ whole (pos 1)) counted (less 1)) (less 2)) (within-Ok d3 h3))

  pub within-sum_row : (d s : Polynomial) (g most : ℤ) (k : Col) → EachColumn P d.terms → EachColumn P s.terms → P k → IsRowWithin (sum_row d s g most k)
  within-sum_row d s g most k hd hs hk =
      within-at_most (whole (pos 2) ⊠ Ok d ⊟ whole (pos 2) ⊠ column k ⊠ Ok s ⊟ whole g ⊠ column k ⊠ (column k ⊟ whole (pos 1)) ⊟ whole (pos 2) ⊠ whole most ⊠ column k)
      (within-difference (whole (pos 2) ⊠ Ok d ⊟ whole (pos 2) ⊠ column k ⊠ Ok s ⊟ whole g ⊠ column k ⊠ (column k ⊟ whole (pos 1))) (whole (pos 2) ⊠ whole most ⊠ column k)
      (within-difference (whole (pos 2) ⊠ Ok d ⊟ whole (pos 2) ⊠ column k ⊠ Ok s) (whole g ⊠ column k ⊠ (column k ⊟ whole (pos 1)))
      (within-difference (whole (pos 2) ⊠ Ok d) (whole (pos 2) ⊠ column k ⊠ Ok s) (within-product (whole (pos 2)) (Ok d) (within-whole (pos 2)) (within-Ok d hd))
      (within-product (whole (pos 2) ⊠ column k) (Ok s) (within-product (whole (pos 2)) (column k) (within-whole (pos 2)) counted) (within-Ok s hs)))
      (within-product (whole g ⊠ column k) (column k ⊟ whole (pos 1)) (within-product (whole g) (column k) (within-whole g) counted) (within-difference (column k) (whole (pos 1)) counted (within-whole (pos 1)))))
      (within-product (whole (pos 2) ⊠ whole most) (column k) (within-product (whole (pos 2)) (whole most) (within-whole (pos 2)) (within-whole most)) counted))
    where
      counted : IsWithin (column k)
      counted = within-column k hk

  -- ---- recurrences

  pub record IsRecurrenceWithin (r : Recurrence) : Type 0 where
    pub start : EachColumn P r.start.terms
    pub first : IsWithin r.first
    pub second : IsWithin r.second
    pub third : IsWithin r.third
    pub fourth : IsWithin r.fourth

  pub steady-within : (v : ℕ) → P (At v) → IsRecurrenceWithin (steady v)
  steady-within v h = record { start = ((h, tt), tt); first = within-whole (pos 0); second = within-whole (pos 0); third = within-whole (pos 0); fourth = within-whole (pos 0) }

  pub recurrence-within : (vs : List ℕ) (lower : List Recurrence) (r : Relation) → AllByRecursion (λ v. P (At v)) vs → AllByRecursion IsRecurrenceWithin lower → IsRecurrenceWithin (recurrence_of vs lower r)
  recurrence-within vs lower r hv h = record {
    start = within-coefficients r.a (map (λ v. At v) vs) (each-map (λ v. P (At v)) P (λ v. At v) (λ v k. k) vs hv);
    first = within-sum (combination r.b (map (λ (l : Recurrence). Ok l.start) lower)) (whole r.c)
        (within-combination r.b (map (λ (l : Recurrence). Ok l.start) lower) (each-map IsRecurrenceWithin IsWithin (λ (l : Recurrence). Ok l.start) (λ l k. within-Ok l.start k.start) lower h)) (within-whole r.c);
    second = within-combination r.b (map (λ (l : Recurrence). l.first) lower) (each-map IsRecurrenceWithin IsWithin (λ (l : Recurrence). l.first) (λ l k. k.first) lower h);
    third = within-combination r.b (map (λ (l : Recurrence). l.second) lower) (each-map IsRecurrenceWithin IsWithin (λ (l : Recurrence). l.second) (λ l k. k.second) lower h);
    fourth = within-combination r.b (map (λ (l : Recurrence). l.third) lower) (each-map IsRecurrenceWithin IsWithin (λ (l : Recurrence). l.third) (λ l k. k.third) lower h);
  }

  -- a product, where what is put in for columns is within
  module _ (next : List Polynomial) (all : AllByRecursion (λ (p : Polynomial). EachColumn P p.terms) next) where
    put-within : (c : Col) → EachColumn P (put_in next [] c).terms
    put-within (At v) = within-at next v all
    put-within (Aux n) = tt

    pub growth-within : (p : Polynomial) → EachColumn P p.terms → IsWithin (growth next p)
    growth-within p h = within-difference (substituted_polynomial (put_in next []) p) (Ok p)
        (record { as_made = λ q e. substituted-each (λ c. Unit {0}) P (put_in next []) (λ c any. put-within c) p q e (each-more (λ t. AllByRecursion P t.0) (λ t. AllByRecursion (λ c. Unit {0}) t.0) (λ t k. each-more P (λ c. Unit {0}) (λ c l. tt) t.0 k) p.terms h) })
        (within-Ok p h)

    pub next-within : (m : Made) → IsWithin m → IsWithin (grown next m)
    next-within m h = record { as_made = λ q e. on_ok m (growth next) q e (λ p f g. (growth-within p (h.as_made p f)).as_made q g) }

    pub sequence-within : (m : List Col) → AllByRecursion P m → IsRecurrenceWithin (sequence_of next m)
    sequence-within m h =
        let first = growth-within (mono_of m) (h, tt) in
        let second = next-within (growth next (mono_of m)) first in
        let third = next-within (grown next (growth next (mono_of m))) second in
        record { start = (h, tt); first = first; second = second; third = third; fourth = next-within (grown next (grown next (growth next (mono_of m)))) third }
