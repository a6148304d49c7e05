-- The spots around an inner point: each is a point of the case, and what a small polynomial is
-- worth there.
use Rattle.std.proofs.Common.{◌≡◌, ℕ, zero, suc, ◌+◌, ◌*◌, ◌<◌, ◌≤◌, Bool, true, false, cond, List, [], ◌∷◌, ◌++◌, length, get_or, refl, sym, ap, subst, ◌∙◌, arith, ⊎_elim, Result, Ok, Err, ℤ, pos, negsuc, ◌+ℤ◌, ◌*ℤ◌, ◌≤ℤ◌, ◌<ℤ◌}
use Rattle.std.specs.Prelude.{◌^◌, ◌&&◌, ◌==◌, slice_get, Some, unsigned_abs, IfOk}
use Rattle.std.specs.List.{AllByRecursion}
use Rattle.std.specs.Map.{keys_of}
use Rattle.std.proofs.lemmas.Int.{ints}
use Rattle.std.proofs.lemmas.Bool.{cases_eq, eq-eqb, ne_eqb, lt-ltb}
use Rattle.std.proofs.lemmas.List.{length-append}
use Rattle.std.proofs.lemmas.Option.{slice_get_within, get_or_from_slice_get}
use Rattle.std.proofs.Math.ListN.{get_or-append}
use Rattle.std.proofs.Math.Seq.{get_or-append_seam}
use Rattle.std.proofs.Math.IntN.{zero-*ℤ}
use Rattle.items.specs.Gives.{◌>>=◌}
use Rattle.items.proofs.Each.{each-append}
use Rattle.whole_numbers.specs.declared.wide.Wide as Step
use Rattle.whole_numbers.proofs.Ring.{ring, ≤ℤ-*ℤ}
use Rattle.linear_terms.specs.declared.col.Col.{Col}
use Rattle.linear_terms.specs.declared.row.Kind.{Kind}
use Rattle.linear_terms.specs.declared.row.Kind.TheVariants.{AtMost, Equal}
use Rattle.linear_terms.specs.declared.row.Row.{Row}
use Rattle.linear_terms.specs.Polynomial.{Terms, Polynomial, coefficient_in}
use Rattle.linear_terms.specs.Row.{IsWithin, is_within}
use Rattle.farkas_check.specs.declared.stratum.Change.{Change}
use Rattle.farkas_check.specs.declared.stratum.Spot.{Spot}
use Rattle.farkas_check.specs.Calm.{paired_sum}
use Rattle.farkas_check.specs.Frames.{line_of}
use Rattle.farkas_check.specs.Parts.{and_then}
use Rattle.farkas_check.specs.Points.{ratio_at, ratio_value, meets}
use Rattle.farkas_check.specs.Rational.{terms_at}
use Rattle.farkas_check.specs.Ratios.{Fraction, whole, lowest_terms}
use Rattle.farkas_check.specs.Relations.{entry}
use Rattle.farkas_check.specs.Sizes.{HasNumbersUpTo}
use Rattle.farkas_check.specs.Stratum.{rows_of, tested_spot}
use Rattle.farkas_check.proofs.Farkas.{bool_ok}
use Rattle.farkas_check.proofs.Lowest.{IsLowest-lowest_terms}
use Rattle.farkas_check.proofs.PointValues.{Stands-lowest}
use Rattle.farkas_check.proofs.Spreads.{AreAmong, is_among, itself}
use Rattle.farkas_check.proofs.Walks.{IsOrdered}
use Rattle.simplex.proofs.SpotLines.{value_at-sum}
use Rattle.simplex.proofs.RowCorners.{numbered, within_back}
use Rattle.simplex.proofs.Tame.{few_terms, ratio_each, numbered_small, IsSmallPoly, value-fits}
use Rattle.simplex.proofs.Widths.{IsRatio}
use Rattle.elimination.specs.declared.inner.Inner.{Inner}
use Rattle.elimination.specs.Around.{around_value, HasValue, IsSmallOver, AreAround}
use Rattle.elimination.specs.Moves.{IsSmallInner, moved_number, numbers_moved_from, spot_at, spots_to}
use Rattle.elimination.specs.Probes.{read_at, value_in, IsDeepIn, IsInner}
use Rattle.elimination.proofs.Narrowness.{coefficient-small}

-- ---- the numbers of a spot

-- the numerators, over four times the denominator
abbrev numerators_from : ℕ → ℕ → List ℤ → List ℤ
numerators_from place j [] = []
numerators_from place j (z ∷ zs) = moved_number place j z ∷ numerators_from place (j + 1) zs

numerators-length : (place j : ℕ) (zs : List ℤ) → length (numerators_from place j zs) ≡ length zs
numerators-length place j [] = refl
numerators-length place j (z ∷ zs) = let e : length (numerators_from place (j + 1) zs) ≡ length zs = numerators-length place (j + 1) zs in omega (arith, e)

moved-length : (over : ℤ) (place j : ℕ) (zs : List ℤ) → length (numbers_moved_from over place j zs) ≡ length zs
moved-length over place j [] = refl
moved-length over place j (z ∷ zs) = let e : length (numbers_moved_from over place (j + 1) zs) ≡ length zs = moved-length over place (j + 1) zs in omega (arith, e)

moved-at : (over : ℤ) (place j : ℕ) (zs : List ℤ) (i : ℕ) (d : Fraction) → i < length zs → get_or (numbers_moved_from over place j zs) i d ≡ lowest_terms (entry (numerators_from place j zs) i) (pos 4 *ℤ over)
moved-at over place j [] i d h = absurd (omega (arith, h))
moved-at over place j (z ∷ zs) zero d h = refl
moved-at over place j (z ∷ zs) (suc i) d h = moved-at over place (j + 1) zs i d (omega (arith, h))

moved-small : (place j : ℕ) (z : ℤ) → unsigned_abs z ≤ 20 ^ 5 → unsigned_abs (moved_number place j z) ≤ 1099511627776
moved-small place j z h = go (place == j + 1)
  where
    go : (b : Bool) → unsigned_abs (pos 4 *ℤ z +ℤ cond b (pos 1) (pos 0)) ≤ 1099511627776
    go true = omega (arith, ints, h)
    go false = omega (arith, ints, h)

numerators-small : (place j : ℕ) (zs : List ℤ) (i : ℕ) → AllByRecursion (λ z. unsigned_abs z ≤ 20 ^ 5) zs → unsigned_abs (entry (numerators_from place j zs) i) ≤ 1099511627776
numerators-small place j [] i h = omega arith
numerators-small place j (z ∷ zs) zero h = moved-small place j z h.0
numerators-small place j (z ∷ zs) (suc i) h = numerators-small place (j + 1) zs i h.1

four_positive : (z : ℤ) → pos 0 <ℤ z → pos 0 <ℤ (pos 4 *ℤ z)
four_positive z h = omega (arith, ints, h)

-- ---- the value of a polynomial there

-- no column is moved from here on
paired-unmoved : (cs : List (List Col)) (p : Polynomial) (place j : ℕ) (zs : List ℤ) (over : ℤ) → length zs ≡ length cs → place ≤ j → paired_sum (line_of cs p) (numerators_from place j zs ++ (pos 4 *ℤ over) ∷ []) ≡ pos 4 *ℤ paired_sum (line_of cs p) (zs ++ over ∷ [])
paired-unmoved [] p place j [] over h g = level (pos 4) p.rest over
  where
    level : (k r o : ℤ) → r *ℤ (k *ℤ o) +ℤ pos 0 ≡ k *ℤ (r *ℤ o +ℤ pos 0)
    level k r o = right (r *ℤ (k *ℤ o)) ∙ turn k r o ∙ ap (λ z. k *ℤ z) (sym (right (r *ℤ o)))
      where
        right : (z : ℤ) → z +ℤ pos 0 ≡ z
        right z = omega (arith, ints)

        turn : (k r o : ℤ) → r *ℤ (k *ℤ o) ≡ k *ℤ (r *ℤ o)
        turn k r o = simp ring (omega (arith, ints))
paired-unmoved [] p place j (z ∷ zs) over h g = absurd (omega (arith, h))
paired-unmoved (c ∷ cs) p place j [] over h g = absurd (omega (arith, h))
paired-unmoved (c ∷ cs) p place j (z ∷ zs) over h g =
    ap (λ (b : Bool). coefficient_in p.terms c *ℤ (pos 4 *ℤ z +ℤ cond b (pos 1) (pos 0)) +ℤ paired_sum (line_of cs p) (numerators_from place (j + 1) zs ++ (pos 4 *ℤ over) ∷ [])) (ne_eqb place (j + 1) (λ e. omega (arith, e, g)))
    ∙ ap (λ s. coefficient_in p.terms c *ℤ (pos 4 *ℤ z +ℤ pos 0) +ℤ s) (paired-unmoved cs p place (j + 1) zs over (omega (arith, h)) (omega (arith, g)))
    ∙ level (pos 4) (coefficient_in p.terms c) z (paired_sum (line_of cs p) (zs ++ over ∷ []))
  where
    level : (k a z s : ℤ) → a *ℤ (k *ℤ z +ℤ pos 0) +ℤ k *ℤ s ≡ k *ℤ (a *ℤ z +ℤ s)
    level k a z s = ap (λ u. a *ℤ u +ℤ k *ℤ s) (right (k *ℤ z)) ∙ turn k a z s
      where
        right : (z : ℤ) → z +ℤ pos 0 ≡ z
        right z = omega (arith, ints)

        turn : (k a z s : ℤ) → a *ℤ (k *ℤ z) +ℤ k *ℤ s ≡ k *ℤ (a *ℤ z +ℤ s)
        turn k a z s = simp ring (omega (arith, ints))

-- one column is moved
paired-moved : (cs : List (List Col)) (p : Polynomial) (place j column : ℕ) (zs : List ℤ) (over : ℤ) → length zs ≡ length cs → column < length cs → place ≡ j + 1 + column
    → paired_sum (line_of cs p) (numerators_from place j zs ++ (pos 4 *ℤ over) ∷ []) ≡ pos 4 *ℤ paired_sum (line_of cs p) (zs ++ over ∷ []) +ℤ read_at cs column p
paired-moved [] p place j column zs over h within is = absurd (omega (arith, within))
paired-moved (c ∷ cs) p place j column [] over h within is = absurd (omega (arith, h))
paired-moved (c ∷ cs) p place j zero (z ∷ zs) over h within is =
    ap (λ (b : Bool). coefficient_in p.terms c *ℤ (pos 4 *ℤ z +ℤ cond b (pos 1) (pos 0)) +ℤ paired_sum (line_of cs p) (numerators_from place (j + 1) zs ++ (pos 4 *ℤ over) ∷ [])) (eq-eqb place (j + 1) (omega (arith, is)))
    ∙ ap (λ s. coefficient_in p.terms c *ℤ (pos 4 *ℤ z +ℤ pos 1) +ℤ s) (paired-unmoved cs p place (j + 1) zs over (omega (arith, h)) (omega (arith, is)))
    ∙ level (pos 4) (coefficient_in p.terms c) z (paired_sum (line_of cs p) (zs ++ over ∷ []))
  where
    level : (k a z s : ℤ) → a *ℤ (k *ℤ z +ℤ pos 1) +ℤ k *ℤ s ≡ k *ℤ (a *ℤ z +ℤ s) +ℤ a
    level k a z s = simp ring (omega (arith, ints))
paired-moved (c ∷ cs) p place j (suc column) (z ∷ zs) over h within is =
    ap (λ (b : Bool). coefficient_in p.terms c *ℤ (pos 4 *ℤ z +ℤ cond b (pos 1) (pos 0)) +ℤ paired_sum (line_of cs p) (numerators_from place (j + 1) zs ++ (pos 4 *ℤ over) ∷ [])) (ne_eqb place (j + 1) (λ e. omega (arith, e, is)))
    ∙ ap (λ s. coefficient_in p.terms c *ℤ (pos 4 *ℤ z +ℤ pos 0) +ℤ s) (paired-moved cs p place (j + 1) column zs over (omega (arith, h)) (omega (arith, within)) (omega (arith, is)))
    ∙ level (pos 4) (coefficient_in p.terms c) z (paired_sum (line_of cs p) (zs ++ over ∷ [])) (read_at cs column p)
  where
    level : (k a z s r : ℤ) → a *ℤ (k *ℤ z +ℤ pos 0) +ℤ (k *ℤ s +ℤ r) ≡ k *ℤ (a *ℤ z +ℤ s) +ℤ r
    level k a z s r = ap (λ u. a *ℤ u +ℤ (k *ℤ s +ℤ r)) (right (k *ℤ z)) ∙ turn k a z s r
      where
        right : (z : ℤ) → z +ℤ pos 0 ≡ z
        right z = omega (arith, ints)

        turn : (k a z s r : ℤ) → a *ℤ (k *ℤ z) +ℤ (k *ℤ s +ℤ r) ≡ k *ℤ (a *ℤ z +ℤ s) +ℤ r
        turn k a z s r = simp ring (omega (arith, ints))

-- what the numerators make of a polynomial
value_around : (cs : List (List Col)) (inner : Inner) (place : ℕ) (p : Polynomial) → length inner.numbers ≡ length cs → place ≤ length cs → paired_sum (line_of cs p) (numerators_from place 0 inner.numbers ++ (pos 4 *ℤ inner.over) ∷ []) ≡ around_value cs inner place p
value_around cs inner zero p each within = paired-unmoved cs p 0 0 inner.numbers inner.over each (omega arith)
value_around cs inner (suc column) p each within = paired-moved cs p (suc column) 0 column inner.numbers inner.over each (omega (arith, within)) (omega arith)

-- ---- sizes

terms-all : (ts : Terms) → ((t : List Col × ℤ) → unsigned_abs t.1 ≤ 4 → unsigned_abs t.1 ≤ 1099511627776) → AllByRecursion (λ t. unsigned_abs t.1 ≤ 4) ts → AllByRecursion (λ t. unsigned_abs t.1 ≤ 1099511627776) ts
terms-all [] f h = tt
terms-all (t ∷ ts) f h = (f t h.0, terms-all ts f h.1)

-- what stands among the columns, as a list
among_all : (cs : List (List Col)) (ks : List (List Col)) → ((m : List Col) → is_among m ks ≡ true → is_among m cs ≡ true) → AreAmong ks cs
among_all cs [] f = tt
among_all cs (k ∷ ks) f = (f k (ap (λ (b : Bool). cond b true (is_among k ks)) (itself k)), among_all cs ks (λ m h. f m (later m h)))
  where
    either : (b c : Bool) → c ≡ true → cond b true c ≡ true
    either true c h = refl
    either false c h = h

    later : (m : List Col) → is_among m ks ≡ true → is_among m (k ∷ ks) ≡ true
    later m h = either _ (is_among m ks) h

read-small : (cs : List (List Col)) (place : ℕ) (p : Polynomial) → HasNumbersUpTo 4 p → unsigned_abs (read_at cs place p) ≤ 4
read-small [] zero p h = h.rest
read-small [] (suc place) p h = omega arith
read-small (c ∷ cs) zero p h = coefficient-small 4 p.terms c h.terms
read-small (c ∷ cs) (suc place) p h = read-small cs place p h

-- the value is a numerator over a denominator
record IsWorth (cs : List (List Col)) (at : List Fraction) (p : Polynomial) (num den : ℤ) : Type 0 where
  value : Fraction
  is : ratio_value (ratio_at cs at) p ≡ Ok value
  ratio : IsRatio value num den

module _ (cs : List (List Col)) (rows : List Row) (inner : Inner) (few : length cs ≤ 3) (ordered : IsOrdered cs) (i : IsInner cs rows inner) (place : ℕ) (within : place ≤ length cs) where
  -- the numbers of the spot, and what they stand for, over a denominator
  abbrev at : List Fraction
  at = numbers_moved_from inner.over place 0 inner.numbers

  abbrev x : List Col → ℤ
  x = numbered cs (λ j. entry (numerators_from place 0 inner.numbers) j)

  abbrev over : ℤ
  over = pos 4 *ℤ inner.over

  at-each : length at ≡ length cs
  at-each = moved-length inner.over place 0 inner.numbers ∙ i.each

  ratio-of : (num : ℤ) → IsRatio (lowest_terms num over) num over
  ratio-of num = record { stands = Stands-lowest num over num over (four_positive inner.over i.positive) refl; lowest = IsLowest-lowest_terms num over (four_positive inner.over i.positive) }

  ratio-each : (m : List Col) → IsRatio (ratio_at cs at m) (x m) over
  ratio-each m = ratio_each cs at (λ j. entry (numerators_from place 0 inner.numbers) j) over m at-each
      (λ j h. subst (λ (r : Fraction). IsRatio r (entry (numerators_from place 0 inner.numbers) j) over) (sym (moved-at inner.over place 0 inner.numbers j (whole (pos 0)) (let e : length inner.numbers ≡ length cs = i.each in omega (arith, h, e)))) (ratio-of (entry (numerators_from place 0 inner.numbers) j)))

  small_poly : (p : Polynomial) → IsSmallOver cs p → IsSmallPoly 1099511627776 cs p
  small_poly p s = record {
    terms = terms-all p.terms (λ t h. omega (arith, h)) s.small.terms;
    few = few_terms cs p.terms ordered s.canonical (among_all cs (keys_of p.terms) s.among);
    rest = let h : unsigned_abs p.rest ≤ 4 = s.small.rest in omega (arith, h);
  }

  worth : (p : Polynomial) → IsSmallOver cs p → IsWorth cs at p (terms_at x p.terms +ℤ p.rest *ℤ over) over
  worth p s = made (value-fits 1099511627776 cs (ratio_at cs at) x over p (four_positive inner.over i.positive) over_small ratio-each
      (λ m. numbered_small 1099511627776 cs (λ j. entry (numerators_from place 0 inner.numbers) j) m (λ j h. numerators-small place 0 inner.numbers j i.small)) (small_poly p s) (room (length cs) few) (omega arith))
    where
      over_small : unsigned_abs over ≤ 1099511627776
      over_small = size inner.over i.over_small
        where
          size : (z : ℤ) → unsigned_abs z ≤ 20 ^ 5 → unsigned_abs (pos 4 *ℤ z) ≤ 1099511627776
          size z h = omega (arith, ints, h)

      room : (n : ℕ) → n ≤ 3 → n * (1099511627776 * 1099511627776) + 1099511627776 * 1099511627776 < 2 ^ 127
      room n h = omega (arith, h)

      made : ((r : Fraction) × ((ratio_value (ratio_at cs at) p ≡ Ok r) × IsRatio r (terms_at x p.terms +ℤ p.rest *ℤ over) over))
          → IsWorth cs at p (terms_at x p.terms +ℤ p.rest *ℤ over) over
      made r = record { value = r.0; is = r.1.0; ratio = r.1.1 }

  -- the value is what is stated
  sum-around : (p : Polynomial) → IsSmallOver cs p → terms_at x p.terms +ℤ p.rest *ℤ over ≡ around_value cs inner place p
  sum-around p s =
      sym (value_at-sum cs 0 (numerators_from place 0 inner.numbers) over (four_positive inner.over i.positive) p ordered (numerators-length place 0 inner.numbers ∙ i.each) (record { canonical = s.canonical; among = among_all cs (keys_of p.terms) s.among }))
      ∙ value_around cs inner place p i.each within

  pub spot_worth : (case : ℕ) (p : Polynomial) → IsSmallOver cs p → HasValue cs (spot_at case inner place) p (around_value cs inner place p) over
  spot_worth case p s = let w = worth p s in record { value = w.value; is = w.is; lowest = w.ratio.lowest; same = w.ratio.stands.same ∙ ap (λ z. z *ℤ w.value.den) (sum-around p s) }

  -- ---- it meets the rows

  deep : (row : Row) → IsSmallOver cs row.poly → IsDeepIn cs inner row → IsWithin row.kind (terms_at x row.poly.terms +ℤ row.poly.rest *ℤ over)
  deep row s d = ⊎_elim
      (λ (c : (row.poly.terms ≡ []) × IsWithin row.kind row.poly.rest). subst (λ (ts : Terms). IsWithin row.kind (terms_at x ts +ℤ row.poly.rest *ℤ over)) (sym c.0) (constant row.kind row.poly.rest c.1))
      (λ (c : (row.kind ≡ AtMost) × (value_in cs inner row.poly ≤ℤ negsuc 0)). subst (λ (kind : Kind). IsWithin kind (terms_at x row.poly.terms +ℤ row.poly.rest *ℤ over)) (sym c.0)
      (subst (λ z. z ≤ℤ pos 0) (sym (sum-around row.poly s)) (below place c.1))) d
    where
      weak : (z : ℤ) → pos 0 <ℤ z → pos 0 ≤ℤ z
      weak z h = omega (arith, ints, h)

      plain : (z : ℤ) → z ≡ pos 0 +ℤ z
      plain z = omega (arith, ints)

      constant : (kind : Kind) (z : ℤ) → IsWithin kind z → IsWithin kind (pos 0 +ℤ z *ℤ over)
      constant AtMost z h = subst (λ y. y ≤ℤ pos 0) (plain (z *ℤ over)) (subst (λ y. (z *ℤ over) ≤ℤ y) (zero-*ℤ over) (≤ℤ-*ℤ z (pos 0) over (weak over (four_positive inner.over i.positive)) h))
      constant Equal z h = ap (λ y. pos 0 +ℤ y *ℤ over) h ∙ sym (plain (pos 0 *ℤ over)) ∙ zero-*ℤ over

      four_below : (v r : ℤ) → v ≤ℤ negsuc 0 → unsigned_abs r ≤ 4 → (pos 4 *ℤ v +ℤ r) ≤ℤ pos 0
      four_below v r h g = omega (arith, ints, h, g)

      four_below_zero : (v : ℤ) → v ≤ℤ negsuc 0 → (pos 4 *ℤ v) ≤ℤ pos 0
      four_below_zero v h = omega (arith, ints, h)

      below : (place : ℕ) → value_in cs inner row.poly ≤ℤ negsuc 0 → around_value cs inner place row.poly ≤ℤ pos 0
      below zero h = four_below_zero (value_in cs inner row.poly) h
      below (suc column) h = four_below (value_in cs inner row.poly) (read_at cs column row.poly) h (read-small cs column row.poly s.small)

  abbrev IsMetBy : Row → Type 0
  IsMetBy row = (v : Fraction) × ((ratio_value (ratio_at cs at) row.poly ≡ Ok v) × (is_within row.kind v.num ≡ true))

  met : (row : Row) → IsSmallOver cs row.poly → IsDeepIn cs inner row → IsMetBy row
  met row s d = let w = worth row.poly s in (w.value, (w.is, within_back row.kind w.value (terms_at x row.poly.terms +ℤ row.poly.rest *ℤ over) over (four_positive inner.over i.positive) w.ratio.stands (deep row s d)))

  all_met : (some : List Row) → AllByRecursion (λ (row : Row). IsSmallOver cs row.poly) some → AllByRecursion (IsDeepIn cs inner) some → meets (ratio_value (ratio_at cs at)) some ≡ Ok true
  all_met [] s d = refl
  all_met (row ∷ some) s d = step (met row s.0 d.0) (all_met some s.1 d.1)
    where
      step : IsMetBy row → meets (ratio_value (ratio_at cs at)) some ≡ Ok true → meets (ratio_value (ratio_at cs at)) (row ∷ some) ≡ Ok true
      step m rest =
          ap (λ (r : Result Fraction Step.Wide). and_then (r >>= λ v. bool_ok (is_within row.kind v.num)) (meets (ratio_value (ratio_at cs at)) some)) m.1.0
          ∙ ap (λ (b : Bool). and_then (bool_ok b) (meets (ratio_value (ratio_at cs at)) some)) m.1.1 ∙ rest

  pub spot_tested : (cases : List Change) (case : ℕ) → case < length cases → rows ≡ rows_of cases case → AllByRecursion (λ (row : Row). IsSmallOver cs row.poly) rows → tested_spot cs cases (spot_at case inner place) ≡ Ok true
  spot_tested cases case here same small =
      ap (λ (b : Bool). and_then (bool_ok b) (meets (ratio_value (ratio_at cs at)) (rows_of cases case)))
      (ap (λ (b : Bool). b && (length at == length cs)) (lt-ltb case (length cases) here) ∙ eq-eqb (length at) (length cs) at-each)
      ∙ ap (λ (rs : List Row). meets (ratio_value (ratio_at cs at)) rs) (sym same) ∙ all_met rows small i.deep

-- ---- all spots

spots-length : (case : ℕ) (inner : Inner) (n : ℕ) → length (spots_to case inner n) ≡ n
spots-length case inner zero = refl
spots-length case inner (suc n) =
    let a : length (spots_to case inner n ++ spot_at case inner n ∷ []) ≡ length (spots_to case inner n) + 1 = length-append (spots_to case inner n) (spot_at case inner n ∷ []) in
    let b : length (spots_to case inner n) ≡ n = spots-length case inner n in
    omega (arith, a, b)

spots-at : (case : ℕ) (inner : Inner) (n i : ℕ) (d : Spot) → i < n → get_or (spots_to case inner n) i d ≡ spot_at case inner i
spots-at case inner zero i d h = absurd (omega (arith, h))
spots-at case inner (suc n) i d h =
    ⊎_elim (λ (e : i ≡ n). ap (λ (j : ℕ). get_or (spots_to case inner n ++ spot_at case inner n ∷ []) j d) (e ∙ sym (spots-length case inner n)) ∙ get_or-append_seam (spots_to case inner n) (spot_at case inner n) [] d ∙ ap (λ (j : ℕ). spot_at case inner j) (sym e))
    (λ other. get_or-append (spots_to case inner n) (spot_at case inner n ∷ []) d i (let e : length (spots_to case inner n) ≡ n = spots-length case inner n in omega (arith, h, other, e)) ∙ spots-at case inner n i d (omega (arith, h, other))) (cases_eq i n)

spots-each : (P : Spot → Type 0) (case : ℕ) (inner : Inner) (n : ℕ) → ((place : ℕ) → place < n → P (spot_at case inner place)) → AllByRecursion P (spots_to case inner n)
spots-each P case inner zero f = tt
spots-each P case inner (suc n) f = each-append P (spots_to case inner n) (spot_at case inner n ∷ []) (spots-each P case inner n (λ place h. f place (omega (arith, h)))) (f n (omega arith), tt)

pub spots_around : (cs : List (List Col)) (cases : List Change) (case : ℕ) (inner : Inner) → length cs ≤ 3 → IsOrdered cs → case < length cases → AllByRecursion (λ (row : Row). IsSmallOver cs row.poly) (rows_of cases case) → IsInner cs (rows_of cases case) inner
    → AreAround cs cases case inner (spots_to case inner (length cs + 1))
spots_around cs cases case inner few ordered here small i = record {
  each = spots-length case inner (length cs + 1);
  case_is = spots-each (λ (spot : Spot). spot.case ≡ case) case inner (length cs + 1) (λ place h. refl);
  tested = spots-each (λ (spot : Spot). tested_spot cs cases spot ≡ Ok true) case inner (length cs + 1) (λ place h. spot_tested cs (rows_of cases case) inner few ordered i place (omega (arith, h)) cases case here refl small);
  values = λ place spot is p s. subst (λ (x : Spot). HasValue cs x p (around_value cs inner place p) (pos 4 *ℤ inner.over)) (sym (spots-at case inner (length cs + 1) place spot (inside place spot is)) ∙ get_or_from_slice_get (spots_to case inner (length cs + 1)) place spot spot is)
      (spot_worth cs (rows_of cases case) inner few ordered i place (let h : place < length cs + 1 = inside place spot is in omega (arith, h)) case p s);
}
  where
    inside : (place : ℕ) (spot : Spot) → slice_get (spots_to case inner (length cs + 1)) place ≡ Some spot → place < length cs + 1
    inside place spot is = let h : place < length (spots_to case inner (length cs + 1)) = slice_get_within (spots_to case inner (length cs + 1)) place spot is in let e : length (spots_to case inner (length cs + 1)) ≡ length cs + 1 = spots-length case inner (length cs + 1) in omega (arith, h, e)

-- ---- in a function's words

pub inner_small : (cs : List (List Col)) (rows : List Row) (inner : Inner) → length cs ≤ 3 → IsInner cs rows inner → IsSmallInner inner
inner_small cs rows inner few i = record { few = let e : length inner.numbers ≡ length cs = i.each in omega (arith, e, few); positive = i.positive; over_small = i.over_small; small = i.small }

pub around_answer : {E : Type 0} (cs : List (List Col)) (cases : List Change) (case : ℕ) (inner : Inner) (r : Result (List Spot) E) → length cs ≤ 3 → IsOrdered cs → case < length cases → AllByRecursion (λ (row : Row). IsSmallOver cs row.poly) (rows_of cases case) → IsInner cs (rows_of cases case) inner
    → IfOk r (λ spots. spots ≡ spots_to case inner (length cs + 1)) → IfOk r (AreAround cs cases case inner)
around_answer cs cases case inner (Ok spots) few ordered here small i e = subst (AreAround cs cases case inner) (sym e) (spots_around cs cases case inner few ordered here small i)
around_answer cs cases case inner (Err error) few ordered here small i e = tt
