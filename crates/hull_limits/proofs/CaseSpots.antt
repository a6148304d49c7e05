-- Owners of columns as spots of a case: a corner, where one of them owns the constants, and a corner
-- with a ray, by another one of them.
use Rattle.std.proofs.Common.{◌≡◌, ◌≢◌, ℕ, suc, ◌+◌, ◌<◌, false, cond, ⊎_elim, inl, inr, refl, sym, ap, subst, ◌∙◌, arith, List, [], ◌∷◌, ◌++◌, map, length, get_or, nat_eq, ℤ, pos, ◌+ℤ◌, ◌*ℤ◌, ◌<ℤ◌, ◌≤ℤ◌}
use Rattle.std.specs.Prelude.{◌⊎◌, neg_ℤ}
use Rattle.std.specs.List.{AllByRecursion}
use Rattle.std.proofs.lemmas.Bool.{cases_eq, eq-eqb, ne_eqb}
use Rattle.std.proofs.lemmas.Int.{ints}
use Rattle.std.proofs.Math.IntN.{zero-*ℤ}
use Rattle.whole_numbers.proofs.Ring.{*ℤ_assoc, neg_ℤ-*ℤ}
use Rattle.linear_terms.specs.declared.col.Col.{Col}
use Rattle.linear_terms.specs.declared.row.Row.{Row}
use Rattle.farkas_check.specs.Calm.{IsCorner, IsCornerAndRay, at_chosen, corner, is_among, ray, row_frame}
use Rattle.farkas_check.specs.Frames.{Frame, IsTableau, line_count, line_of, sum_below, width}
use Rattle.farkas_check.specs.Relations.{places}
use Rattle.farkas_check.specs.Sizes.{row_polys}
use Rattle.cones.proofs.Numbers.{not_zero-*ℤ, times_zero}
use Rattle.hull_limits.proofs.Bounded.{IsAlone, owners-alone}
use Rattle.hull_limits.proofs.Clearings.{HasBasis, IsSeenBy, basis-front, given_up, moved_other, others-cleared}
use Rattle.hull_limits.proofs.Owners.{AreApart, IsBasis, IsRead, Owner, columns_of, found_in, multiple_of, only, only-else, only-sum, only-there, over-positive, over_of, own, owners-read, sum_over, tableau-of}
use Rattle.hull_limits.proofs.RowBasis.{each-below, mapped-length, never-negative, none-there}

-- ---- numbers at the columns of a tableau

-- numbers at chosen columns are those of a vector there, and 0 at each other column
at-chosen : (x : ℕ → ℤ) (by : ℤ) (chosen : List ℕ) (g : ℕ → ℤ) (c : ℕ) → ((k : ℕ) → g k ≡ by *ℤ x (get_or chosen k 0)) → (at_chosen chosen g c ≡ by *ℤ x c) ⊎ (sum_over chosen (only c (pos 1)) ≡ pos 0) × (at_chosen chosen g c ≡ pos 0)
at-chosen x by [] g c h = inr (refl, refl)
at-chosen x by (d ∷ chosen) g c h =
    ⊎_elim (λ e. inl (ap (λ b. cond b (g 0) (at_chosen chosen (λ k. g (suc k)) c)) (eq-eqb d c e) ∙ h 0 ∙ ap (λ y. by *ℤ x y) e))
    (λ n. ⊎_elim (λ k. inl (later n ∙ k)) (λ k. inr (both (only c (pos 1) d) (sum_over chosen (only c (pos 1))) (only-else c d (pos 1) n) k.0, later n ∙ k.1)) (at-chosen x by chosen (λ k. g (suc k)) c (λ k. h (suc k)))) (cases_eq d c)
  where
    later : d ≢ c → at_chosen (d ∷ chosen) g c ≡ at_chosen chosen (λ k. g (suc k)) c
    later n = ap (λ b. cond b (g 0) (at_chosen chosen (λ k. g (suc k)) c)) (ne_eqb d c n)

    both : (a b : ℤ) → a ≡ pos 0 → b ≡ pos 0 → a +ℤ b ≡ pos 0
    both a b e f = omega (arith, ints)

-- what an owner has at each column but its own, by what it has at those that are chosen
owner-at : (f : Frame) (os : List Owner) (chosen : List ℕ) (o : Owner) (by : ℤ) (g : ℕ → ℤ) (c : ℕ) → IsBasis f os chosen → IsAlone os o → ((k : ℕ) → g k ≡ by *ℤ o.numbers (get_or chosen k 0)) → c < width f → c ≢ o.column → at_chosen chosen g c ≡ by *ℤ o.numbers c
owner-at f os chosen o by g c b alone h l n = ⊎_elim (λ e. e) (λ k. k.1 ∙ sym (ap (λ z. by *ℤ z) (nothing k.0) ∙ times_zero by)) (at-chosen o.numbers by chosen g c h)
  where
    clash : (a b c : ℤ) → a ≡ pos 0 → b ≡ pos 0 → a +ℤ b ≡ c → c ≡ pos 1 → ⊥
    clash a b c e f g i = omega (arith, ints)

    nothing : sum_over chosen (only c (pos 1)) ≡ pos 0 → o.numbers c ≡ pos 0
    nothing e =
        ⊎_elim (λ k. ⊎_elim (λ z. z) (λ s. absurd (n s)) k)
        (λ z. absurd (clash (sum_over (columns_of os) (only c (pos 1))) (sum_over chosen (only c (pos 1))) (sum_below (width f) (only c (pos 1))) z e (b.parted.sums (only c (pos 1))) (only-sum (width f) c (pos 1) l))) (found_in (λ d. (o.numbers d ≡ pos 0) ⊎ (d ≡ o.column)) (columns_of os) c alone)

none-among : (chosen : List ℕ) (c : ℕ) → AllByRecursion (λ d. d ≢ c) chosen → is_among c chosen ≡ false
none-among [] c h = refl
none-among (d ∷ chosen) c h = rw (ne_eqb d c h.0) (none-among chosen c h.1)

-- a column that is owned is not chosen
owned-free : (f : Frame) (os : List Owner) (chosen : List ℕ) (c : ℕ) → IsBasis f os chosen → c < width f → pos 1 ≤ℤ sum_over (columns_of os) (only c (pos 1)) → is_among c chosen ≡ false
owned-free f os chosen c b l h = none-among chosen c (none-there chosen c (rest (sum_over (columns_of os) (only c (pos 1))) (sum_over chosen (only c (pos 1))) (sum_below (width f) (only c (pos 1))) h (b.parted.sums (only c (pos 1))) (only-sum (width f) c (pos 1) l)))
  where
    rest : (x y z : ℤ) → pos 1 ≤ℤ x → x +ℤ y ≡ z → z ≡ pos 1 → y ≤ℤ pos 0
    rest x y z h e f = omega (arith, ints)

owned-first : (o : Owner) (os : List Owner) → pos 1 ≤ℤ sum_over (columns_of (o ∷ os)) (only o.column (pos 1))
owned-first o os = least (only o.column (pos 1) o.column) (sum_over (columns_of os) (only o.column (pos 1))) (only-there o.column (pos 1)) (never-negative (columns_of os) o.column)
  where
    least : (a b : ℤ) → a ≡ pos 1 → pos 0 ≤ℤ b → pos 1 ≤ℤ (a +ℤ b)
    least a b e h = omega (arith, ints)

owned-second : (q o : Owner) (os : List Owner) → pos 1 ≤ℤ sum_over (columns_of (q ∷ o ∷ os)) (only o.column (pos 1))
owned-second q o os = more (only o.column (pos 1) q.column) (sum_over (columns_of (o ∷ os)) (only o.column (pos 1))) (never-negative (q.column ∷ []) o.column) (owned-first o os)
  where
    more : (a b : ℤ) → pos 0 ≤ℤ (a +ℤ pos 0) → pos 1 ≤ℤ b → pos 1 ≤ℤ (a +ℤ b)
    more a b h k = omega (arith, ints)

map-below : (n : ℕ) (f g : ℕ → ℤ) → ((c : ℕ) → c < n → f c ≡ g c) → map f (places n) ≡ map g (places n)
map-below n f g h = each (places n) (each-below (λ c. c < n) n (λ c l. l))
  where
    each : (ks : List ℕ) → AllByRecursion (λ c. c < n) ks → map f ks ≡ map g ks
    each [] k = refl
    each (c ∷ ks) k = λ i. h c k.0 i ∷ each ks k.1 i

-- ---- spots

-- a spot of a case, by what it has at each column and at the constants
pub record IsCaseSpot (cs : List (List Col)) (rows : List Row) (x : ℕ → ℤ) : Type 0 where
  pub positive : pos 0 <ℤ x (length cs)
  pub spot : IsCorner cs rows (x (length cs)) (map x (places (length cs))) ⊎ IsCornerAndRay cs rows (x (length cs)) (map x (places (length cs)))

-- some multiple of a vector is a spot
pub record IsAlongSpot (cs : List (List Col)) (rows : List Row) (x : ℕ → ℤ) : Type 0 where
  pub by : ℤ
  pub some : by ≢ pos 0
  pub spot : IsCaseSpot cs rows (λ c. by *ℤ x c)

-- multiples of two vectors are a spot, and both together are one too; the second one is 0 at the
-- constants
pub record HasRaySpots (cs : List (List Col)) (rows : List Row) (y : ℕ → ℤ) : Type 0 where
  pub x : ℕ → ℤ
  pub by : ℤ
  pub some : by ≢ pos 0
  pub zero_there : y (length cs) ≡ pos 0
  pub corner : IsCaseSpot cs rows x
  pub both : IsCaseSpot cs rows (λ c. x c +ℤ by *ℤ y c)

factor-some : (total by x : ℤ) → total ≡ by *ℤ x → pos 0 <ℤ total → by ≢ pos 0
factor-some total by x e h z = none total (ap (λ y. y *ℤ x) z) (zero-*ℤ x) e h
  where
    none : (t : ℤ) → by *ℤ x ≡ pos 0 *ℤ x → pos 0 *ℤ x ≡ pos 0 → t ≡ by *ℤ x → pos 0 <ℤ t → ⊥
    none t e f g h = omega (arith, ints, e, f, g, h)

module _ (cs : List (List Col)) (rows : List Row) where
  row_frame-lines : line_count (row_frame cs rows) ≡ length rows
  row_frame-lines = mapped-length (line_of cs) (row_polys rows []) ∙ polys-length rows
    where
      polys-length : (rows : List Row) → length (row_polys rows []) ≡ length rows
      polys-length [] = refl
      polys-length (row ∷ rows) = omega (arith, polys-length rows)

  turned : (multiple by x : ℤ) → multiple ≡ neg_ℤ by *ℤ x → neg_ℤ multiple ≡ by *ℤ x
  turned multiple by x e = ap neg_ℤ (e ∙ neg_ℤ-*ℤ by x) ∙ twice (by *ℤ x)
    where
      twice : (z : ℤ) → neg_ℤ (neg_ℤ z) ≡ z
      twice z = omega (arith, ints)

  -- what an owner of the constants has is a corner
  corner-numbers : (q : Owner) (os : List Owner) (chosen : List ℕ) → IsBasis (row_frame cs rows) (q ∷ os) chosen → q.column ≡ length cs → (r : IsRead (over_of (q ∷ os)) chosen (multiple_of (q ∷ os) chosen) q) → (c : ℕ) → c < length cs
      → corner (length cs) chosen (multiple_of (q ∷ os) chosen) c ≡ r.by *ℤ q.numbers c
  corner-numbers q os chosen b e r c l =
      owner-at (row_frame cs rows) (q ∷ os) chosen q r.by (λ k. neg_ℤ (multiple_of (q ∷ os) chosen k (length cs))) c b (owners-alone (q ∷ os) b.owners).0
      (λ k. turned (multiple_of (q ∷ os) chosen k (length cs)) r.by (q.numbers (get_or chosen k 0)) (ap (multiple_of (q ∷ os) chosen k) (sym e) ∙ r.is k)) (omega (arith, l)) (λ s. absurd (omega (arith, l, e, s)))

  owner-corner : (q : Owner) (os : List Owner) (chosen : List ℕ) → IsBasis (row_frame cs rows) (q ∷ os) chosen → q.column ≡ length cs → (r : IsRead (over_of (q ∷ os)) chosen (multiple_of (q ∷ os) chosen) q)
      → IsCaseSpot cs rows (λ c. r.by *ℤ q.numbers c)
  owner-corner q os chosen b e r = record {
    positive = subst (λ z. pos 0 <ℤ z) whole (over-positive (q ∷ os) b.owners);
    spot = inl (record {
      chosen = chosen;
      multiple = multiple_of (q ∷ os) chosen;
      tableau = subst (λ z. IsTableau (row_frame cs rows) chosen z (multiple_of (q ∷ os) chosen)) whole (tableau-of (row_frame cs rows) (q ∷ os) chosen b);
      constants = owned-free (row_frame cs rows) (q ∷ os) chosen (length cs) b (omega arith) (subst (λ c. pos 1 ≤ℤ sum_over (columns_of (q ∷ os)) (only c (pos 1))) e (owned-first q os));
      is = sym (map-below (length cs) (corner (length cs) chosen (multiple_of (q ∷ os) chosen)) (λ c. r.by *ℤ q.numbers c) (corner-numbers q os chosen b e r));
    });
  }
    where
      whole : over_of (q ∷ os) ≡ r.by *ℤ q.numbers (length cs)
      whole = r.over ∙ ap (λ c. r.by *ℤ q.numbers c) e

  ray-numbers : (q o : Owner) (os : List Owner) (chosen : List ℕ) → IsBasis (row_frame cs rows) (q ∷ o ∷ os) chosen → (r : IsRead (over_of (q ∷ o ∷ os)) chosen (multiple_of (q ∷ o ∷ os) chosen) o) → (c : ℕ) → c < length cs
      → ray (over_of (q ∷ o ∷ os)) (pos 1) o.column chosen (multiple_of (q ∷ o ∷ os) chosen) c ≡ r.by *ℤ o.numbers c
  ray-numbers q o os chosen b r c l = ⊎_elim (λ e. here e) (λ s. there s) (cases_eq c o.column)
    where
      rest : ℤ
      rest = at_chosen chosen (λ k. neg_ℤ (multiple_of (q ∷ o ∷ os) chosen k o.column *ℤ pos 1)) c

      one : (z : ℤ) → pos 1 *ℤ z ≡ z
      one z = omega (arith, ints)

      right : (z : ℤ) → z *ℤ pos 1 ≡ z
      right z = omega (arith, ints)

      here : c ≡ o.column → cond (nat_eq c o.column) (pos 1 *ℤ over_of (q ∷ o ∷ os)) rest ≡ r.by *ℤ o.numbers c
      here e = ap (λ t. cond t (pos 1 *ℤ over_of (q ∷ o ∷ os)) rest) (eq-eqb c o.column e) ∙ one (over_of (q ∷ o ∷ os)) ∙ r.over ∙ ap (λ d. r.by *ℤ o.numbers d) (sym e)

      there : c ≢ o.column → cond (nat_eq c o.column) (pos 1 *ℤ over_of (q ∷ o ∷ os)) rest ≡ r.by *ℤ o.numbers c
      there s =
          ap (λ t. cond t (pos 1 *ℤ over_of (q ∷ o ∷ os)) rest) (ne_eqb c o.column s)
          ∙ owner-at (row_frame cs rows) (q ∷ o ∷ os) chosen o r.by (λ k. neg_ℤ (multiple_of (q ∷ o ∷ os) chosen k o.column *ℤ pos 1)) c b (owners-alone (q ∷ o ∷ os) b.owners).1.0
          (λ k. ap neg_ℤ (right (multiple_of (q ∷ o ∷ os) chosen k o.column)) ∙ turned (multiple_of (q ∷ o ∷ os) chosen k o.column) r.by (o.numbers (get_or chosen k 0)) (r.is k)) (omega (arith, l)) s

  -- two owners, of which the first one has the constants
  owners-ray : (q o : Owner) (os : List Owner) (chosen : List ℕ) → IsBasis (row_frame cs rows) (q ∷ o ∷ os) chosen → q.column ≡ length cs → HasRaySpots cs rows o.numbers
  owners-ray q o os chosen b e = from (owners-read (row_frame cs rows) (q ∷ o ∷ os) chosen b).0 (owners-read (row_frame cs rows) (q ∷ o ∷ os) chosen b).1.0
    where
      over : ℤ
      over = over_of (q ∷ o ∷ os)

      zero_at : o.numbers (length cs) ≡ pos 0
      zero_at = let apart : AreApart q o = b.owners.1.0 in ap o.numbers (sym e) ∙ apart.here

      other : o.column ≢ length cs
      other s = b.owners.2.0 (ap o.numbers s ∙ zero_at)

      from : IsRead (over_of (q ∷ o ∷ os)) chosen (multiple_of (q ∷ o ∷ os) chosen) q → IsRead (over_of (q ∷ o ∷ os)) chosen (multiple_of (q ∷ o ∷ os) chosen) o → HasRaySpots cs rows o.numbers
      from r s = record {
        x = λ c. r.by *ℤ q.numbers c;
        by = s.by;
        some = factor-some (over_of (q ∷ o ∷ os)) s.by (own o) s.over (over-positive (q ∷ o ∷ os) b.owners);
        zero_there = zero_at;
        corner = owner-corner q (o ∷ os) chosen b e r;
        both = record {
          positive = subst (λ z. pos 0 <ℤ z) whole (over-positive (q ∷ o ∷ os) b.owners);
          spot = inr (record {
            chosen = chosen;
            multiple = multiple_of (q ∷ o ∷ os) chosen;
            tableau = subst (λ z. IsTableau (row_frame cs rows) chosen z (multiple_of (q ∷ o ∷ os) chosen)) whole (tableau-of (row_frame cs rows) (q ∷ o ∷ os) chosen b);
            constants = owned-free (row_frame cs rows) (q ∷ o ∷ os) chosen (length cs) b (omega arith) (subst (λ c. pos 1 ≤ℤ sum_over (columns_of (q ∷ o ∷ os)) (only c (pos 1))) e (owned-first q (o ∷ os)));
            column = o.column;
            within = column_within;
            other = ne_eqb o.column (length cs) other;
            free = owned-free (row_frame cs rows) (q ∷ o ∷ os) chosen o.column b b.owned.1.0 (owned-second q o os);
            sign = pos 1;
            one = inl refl;
            is = sym (map-below (length cs) (λ place. corner (length cs) chosen (multiple_of (q ∷ o ∷ os) chosen) place +ℤ ray (r.by *ℤ q.numbers (length cs) +ℤ s.by *ℤ o.numbers (length cs)) (pos 1) o.column chosen (multiple_of (q ∷ o ∷ os) chosen) place) (λ c. r.by *ℤ q.numbers c +ℤ s.by *ℤ o.numbers c)
                (λ c l i. corner-numbers q (o ∷ os) chosen b e r c l i +ℤ (ap (λ z. ray z (pos 1) o.column chosen (multiple_of (q ∷ o ∷ os) chosen) c) (sym whole) ∙ ray-numbers q o os chosen b s c l) i));
          });
        };
      }
        where
          whole : over_of (q ∷ o ∷ os) ≡ r.by *ℤ q.numbers (length cs) +ℤ s.by *ℤ o.numbers (length cs)
          whole = r.over ∙ ap (λ c. r.by *ℤ q.numbers c) e ∙ right (r.by *ℤ q.numbers (length cs)) (s.by *ℤ o.numbers (length cs)) (ap (λ z. s.by *ℤ z) zero_at ∙ times_zero s.by)
            where
              right : (a b : ℤ) → b ≡ pos 0 → a ≡ a +ℤ b
              right a b f = omega (arith, ints)

          column_within : o.column < length cs + 1 + length rows
          column_within = let l : o.column < width (row_frame cs rows) = b.owned.1.0 in omega (arith, l, row_frame-lines)

  -- ---- owners, of which one has a number at the constants

  -- an owner with a number at the constants is along a corner
  pub owner-spot : (p : Owner) (os : List Owner) (chosen : List ℕ) → IsBasis (row_frame cs rows) (p ∷ os) chosen → p.numbers (length cs) ≢ pos 0 → IsAlongSpot cs rows p.numbers
  owner-spot p os chosen b h = from (others-cleared (row_frame cs rows) p os chosen (length cs) b (omega arith) h)
    where
      from : HasBasis (row_frame cs rows) (given_up (length cs) p ∷ map (moved_other (length cs) p) os) → IsAlongSpot cs rows p.numbers
      from has = record { by = r.by; some = factor-some (over_of all) r.by (p.numbers (length cs)) r.over (over-positive all has.basis.owners); spot = owner-corner (given_up (length cs) p) (map (moved_other (length cs) p) os) has.chosen has.basis refl r }
        where
          all : List Owner
          all = given_up (length cs) p ∷ map (moved_other (length cs) p) os

          r : IsRead (over_of all) has.chosen (multiple_of all has.chosen) (given_up (length cs) p)
          r = (owners-read (row_frame cs rows) all has.chosen has.basis).0

  -- one of them that has a number at the constants, and the others
  record IsSplit (os : List Owner) : Type 0 where
    before : List Owner
    seen : Owner
    after : List Owner
    all : os ≡ before ++ seen ∷ after
    some : seen.numbers (length cs) ≢ pos 0

  split : (os : List Owner) → IsSeenBy (length cs) os → IsSplit os
  split [] h = absurd h
  split (o ∷ os) h = ⊎_elim (λ k. record { before = []; seen = o; after = os; all = refl; some = k }) (λ k. let s = split os k in record { before = o ∷ s.before; seen = s.seen; after = s.after; all = ap (λ ps. o ∷ ps) s.all; some = s.some }) h

  -- an owner with none is a ray from a corner, and so is each multiple of it
  pub owner-ray : (o : Owner) (os : List Owner) (chosen : List ℕ) → IsBasis (row_frame cs rows) (o ∷ os) chosen → o.numbers (length cs) ≡ pos 0 → IsSeenBy (length cs) os → HasRaySpots cs rows o.numbers
  owner-ray o os chosen b e seen = from (split os seen)
    where
      scaled : (q : Owner) → q.numbers (length cs) ≢ pos 0 → HasRaySpots cs rows (moved_other (length cs) q o).numbers → HasRaySpots cs rows o.numbers
      scaled q n h = record {
        x = h.x;
        by = h.by *ℤ q.numbers (length cs);
        some = not_zero-*ℤ h.by (q.numbers (length cs)) h.some n;
        zero_there = e;
        corner = h.corner;
        both = subst (λ y. IsCaseSpot cs rows y) (λ i c. h.x c +ℤ same c i) h.both;
      }
        where
          same : (c : ℕ) → h.by *ℤ (q.numbers (length cs) *ℤ o.numbers c +ℤ neg_ℤ (o.numbers (length cs)) *ℤ q.numbers c) ≡ h.by *ℤ q.numbers (length cs) *ℤ o.numbers c
          same c = ap (λ z. h.by *ℤ (q.numbers (length cs) *ℤ o.numbers c +ℤ neg_ℤ z *ℤ q.numbers c)) e ∙ left h.by (q.numbers (length cs)) (o.numbers c) (pos 0 *ℤ q.numbers c) (zero-*ℤ (q.numbers c))
            where
              left : (a b c y : ℤ) → y ≡ pos 0 → a *ℤ (b *ℤ c +ℤ y) ≡ a *ℤ b *ℤ c
              left a b c y e = ap (λ x. a *ℤ x) (right (b *ℤ c) y e) ∙ sym (*ℤ_assoc a b c)
                where
                  right : (x y : ℤ) → y ≡ pos 0 → x +ℤ y ≡ x
                  right x y e = omega (arith, ints)

      from : IsSplit os → HasRaySpots cs rows o.numbers
      from s = cleared (others-cleared (row_frame cs rows) s.seen (o ∷ s.before ++ s.after) chosen (length cs) (basis-front (row_frame cs rows) (o ∷ s.before) s.seen s.after chosen (subst (λ ps. IsBasis (row_frame cs rows) (o ∷ ps) chosen) s.all b)) (omega arith) s.some)
        where
          cleared : HasBasis (row_frame cs rows) (given_up (length cs) s.seen ∷ map (moved_other (length cs) s.seen) (o ∷ s.before ++ s.after)) → HasRaySpots cs rows o.numbers
          cleared has = scaled s.seen s.some (owners-ray (given_up (length cs) s.seen) (moved_other (length cs) s.seen o) (map (moved_other (length cs) s.seen) (s.before ++ s.after)) has.chosen has.basis refl)
