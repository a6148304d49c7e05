-- The frame of the rows of a case: vectors at its own columns are solutions of it, and the units are
-- the first of them that own columns.
use Rattle.std.proofs.Common.{◌≡◌, ◌≢◌, ℕ, zero, suc, ◌+◌, ◌-◌, ◌<◌, ◌≤◌, cond, ⊎_elim, inl, inr, refl, sym, ap, subst, ◌∙◌, arith, List, [], ◌∷◌, ◌++◌, map, length, get_or, nat_eq, ℤ, pos, negsuc, ◌+ℤ◌, ◌*ℤ◌, ◌≤ℤ◌}
use Rattle.std.specs.Prelude.{◌⊎◌, nat_lt, neg_ℤ, unsigned_abs}
use Rattle.std.specs.List.{AllByRecursion}
use Rattle.std.specs.Map.{keys_of}
use Rattle.std.proofs.lemmas.Bool.{cases_eq, cases_lt, eq-eqb, le-ltb, lt-ltb, ne_eqb}
use Rattle.std.proofs.lemmas.Int.{ints}
use Rattle.std.proofs.Math.IntN.{zero-*ℤ}
use Rattle.items.proofs.Each.{each-append, each-both, each-map, each-more}
use Rattle.whole_numbers.specs.Dot.{dot}
use Rattle.whole_numbers.proofs.Ring.{neg_ℤ-*ℤ}
use Rattle.linear_terms.specs.declared.col.Col.{Col}
use Rattle.linear_terms.specs.Polynomial.{Polynomial}
use Rattle.farkas_check.specs.Frames.{Frame, frame_of, line_count, line_of, number_in, sum_below, width}
use Rattle.farkas_check.specs.Relations.{entry, places}
use Rattle.farkas_check.proofs.Spreads.{AreAmong}
use Rattle.cones.specs.Split.{units, zeros}
use Rattle.cones.specs.Vectors.{opposite}
use Rattle.cones.proofs.Numbers.{above_not_zero, times_zero}
use Rattle.cones.proofs.Primitive.{cleared_units-primitive}
use Rattle.cones.proofs.Splitting.{zeros_dot}
use Rattle.cones.proofs.Units.{units-wide}
use Rattle.facet_hull.specs.Images.{far}
use Rattle.simplex.proofs.Certificates.{sum_below-first}
use Rattle.simplex.proofs.Corners.{none, single}
use Rattle.simplex.proofs.RowCorners.{sum_below-plus}
use Rattle.simplex.proofs.Sums.{sum_below-same}
use Rattle.hull_limits.proofs.Clearings.{HasBasis, IsSeenBy}
use Rattle.hull_limits.proofs.FrameSearch.{IsFrameBasis, IsLineOf, IsReading, Own, owner_of, owners_of}
use Rattle.hull_limits.proofs.Growth.{units-within, zeros-within}
use Rattle.hull_limits.proofs.Magnitudes.{IsWithin, AreWithin, within-places}
use Rattle.hull_limits.proofs.OwnColumns.{IsPart, lacking, lacking-nothing, lacking-within, line-read, only-before, only-first, only-next, over-map, parted-columns, place-last, place-line, place-reads, place-within, place_of, read_sum, reader, reader-entry, readers, readers-length, sums-read, unit-reads}
use Rattle.hull_limits.proofs.Owners.{AreApart, AreOwners, IsBasis, IsSolution, Owner, columns_of, only, only-else, only-sum, only-there, sum_over}

-- ---- units

-- the unit of a place among so many
abbrev pub unit : ℕ → ℕ → List ℤ
unit zero i = []
unit (suc n) zero = pos 1 ∷ zeros n
unit (suc n) (suc i) = pos 0 ∷ unit n i

pub map-map : {A B C : Type 0} (f : A → B) (g : B → C) (xs : List A) → map g (map f xs) ≡ map (λ x. g (f x)) xs
map-map f g [] = refl
map-map f g (x ∷ xs) = ap (λ ys. g (f x) ∷ ys) (map-map f g xs)

units-are : (n : ℕ) → map (unit n) (places n) ≡ units n
units-are zero = refl
units-are (suc n) = ap (λ vs. (pos 1 ∷ zeros n) ∷ vs) (map-map (λ i. suc i) (unit (suc n)) (places n) ∙ sym (map-map (unit n) (λ v. pos 0 ∷ v) (places n)) ∙ ap (map (λ v. pos 0 ∷ v)) (units-are n))

zeros-entry : (n j : ℕ) → entry (zeros n) j ≡ pos 0
zeros-entry zero j = refl
zeros-entry (suc n) zero = refl
zeros-entry (suc n) (suc j) = zeros-entry n j

unit-entry : (n i j : ℕ) → i < n → entry (unit n i) j ≡ only i (pos 1) j
unit-entry zero i j h = absurd (omega (arith, h))
unit-entry (suc n) zero zero h = sym (only-there 0 (pos 1))
unit-entry (suc n) zero (suc j) h = zeros-entry n j ∙ sym (only-first j (pos 1))
unit-entry (suc n) (suc i) zero h = sym (only-before i (pos 1))
unit-entry (suc n) (suc i) (suc j) h = unit-entry n i j (omega (arith, h)) ∙ sym (only-next i j (pos 1))

unit-dot : (n i : ℕ) (v : List ℤ) → i < n → length v ≡ n → dot (unit n i) v ≡ entry v i
unit-dot zero i v h e = absurd (omega (arith, h))
unit-dot (suc n) i [] h e = absurd (omega (arith, e))
unit-dot (suc n) zero (z ∷ v) h e = first z (dot (zeros n) v) (zeros_dot n v)
  where
    first : (z x : ℤ) → x ≡ pos 0 → pos 1 *ℤ z +ℤ x ≡ z
    first z x e = omega (arith, ints)
unit-dot (suc n) (suc i) (z ∷ v) h e = behind (pos 0 *ℤ z) (dot (unit n i) v) (zero-*ℤ z) ∙ unit-dot n i v (omega (arith, h)) (omega (arith, e))
  where
    behind : (a b : ℤ) → a ≡ pos 0 → a +ℤ b ≡ b
    behind a b e = omega (arith, ints)

-- what is so of each place below a number
pub each-below : (P : ℕ → Type 0) (n : ℕ) → ((i : ℕ) → i < n → P i) → AllByRecursion P (places n)
each-below P zero h = tt
each-below P (suc n) h = (h 0 (omega arith), each-map (λ i. P (suc i)) P (λ i. suc i) (λ i k. k) (places n) (each-below (λ i. P (suc i)) n (λ i l. h (suc i) (omega (arith, l)))))

pub over-below : (n : ℕ) (g : ℕ → ℤ) → sum_over (places n) g ≡ sum_below n g
over-below zero g = refl
over-below (suc n) g = ap (λ z. g 0 +ℤ z) (over-map (λ k. suc k) (places n) g ∙ over-below n (λ k. g (suc k))) ∙ sym (sum_below-first n g)

over-mapped : {A : Type 0} (h : ℕ → A) (f : A → ℕ) (ks : List ℕ) (g : ℕ → ℤ) → sum_over (map f (map h ks)) g ≡ sum_over ks (λ k. g (f (h k)))
over-mapped h f [] g = refl
over-mapped h f (k ∷ ks) g = ap (λ z. g (f (h k)) +ℤ z) (over-mapped h f ks g)

pub mapped-length : {A B : Type 0} (f : A → B) (xs : List A) → length (map f xs) ≡ length xs
mapped-length f [] = refl
mapped-length f (x ∷ xs) = omega (arith, mapped-length f xs)

places-length : (n : ℕ) → length (places n) ≡ n
places-length zero = refl
places-length (suc n) = omega (arith, mapped-length (λ i. suc i) (places n), places-length n)

-- ---- the unit columns

-- the unit columns of a frame
abbrev pub unit_columns : Frame → List ℕ
unit_columns f = map (λ k. f.units + k) (places (line_count f))

pub unit_columns-length : (f : Frame) → length (unit_columns f) ≡ line_count f
unit_columns-length f = mapped-length (λ k. f.units + k) (places (line_count f)) ∙ places-length (line_count f)

pub unit_columns-within : (f : Frame) → AllByRecursion (λ c. c < width f) (unit_columns f)
unit_columns-within f = each-map (λ k. k < line_count f) (λ c. c < width f) (λ k. f.units + k) (λ k h. omega (arith, h)) (places (line_count f)) (each-below (λ k. k < line_count f) (line_count f) (λ k h. h))

-- ---- a number at the constants

seen-append : (at : ℕ) (xs ys : List Owner) → IsSeenBy at xs → IsSeenBy at (xs ++ ys)
seen-append at [] ys h = absurd h
seen-append at (x ∷ xs) ys h = ⊎_elim (λ n. inl n) (λ k. inr (seen-append at xs ys k)) h

seen-place : (at : ℕ) (h : ℕ → Owner) (n i : ℕ) → i < n → (h i).numbers at ≢ pos 0 → IsSeenBy at (map h (places n))
seen-place at h zero i l k = absurd (omega (arith, l))
seen-place at h (suc n) zero l k = inl k
seen-place at h (suc n) (suc i) l k = inr (subst (λ os. IsSeenBy at os) (sym (map-map (λ j. suc j) h (places n))) (seen-place at (λ j. h (suc j)) n i (omega (arith, l)) k))

-- ---- columns each of which stands once

-- no column stands twice
abbrev AreDistinct : List ℕ → Type 0
AreDistinct [] = Unit {0}
AreDistinct (c ∷ cs) = AllByRecursion (λ d. d ≢ c) cs × AreDistinct cs

only-one : (c d : ℕ) → (d ≡ c) × (only c (pos 1) d ≡ pos 1) ⊎ (d ≢ c) × (only c (pos 1) d ≡ pos 0)
only-one c d = ⊎_elim (λ e. inl (e, ap (only c (pos 1)) e ∙ only-there c (pos 1))) (λ n. inr (n, only-else c d (pos 1) n)) (cases_eq d c)

pub never-negative : (cs : List ℕ) (c : ℕ) → pos 0 ≤ℤ sum_over cs (only c (pos 1))
never-negative [] c = omega (arith, ints)
never-negative (d ∷ cs) c = ⊎_elim (λ k. step (only c (pos 1) d) (sum_over cs (only c (pos 1))) (never-negative cs c) (inl k.1)) (λ k. step (only c (pos 1) d) (sum_over cs (only c (pos 1))) (never-negative cs c) (inr k.1)) (only-one c d)
  where
    step : (a b : ℤ) → pos 0 ≤ℤ b → (a ≡ pos 1) ⊎ (a ≡ pos 0) → pos 0 ≤ℤ (a +ℤ b)
    step a b h (inl e) = omega (arith, ints)
    step a b h (inr e) = omega (arith, ints)

pub none-there : (cs : List ℕ) (c : ℕ) → sum_over cs (only c (pos 1)) ≤ℤ pos 0 → AllByRecursion (λ d. d ≢ c) cs
none-there [] c h = tt
none-there (d ∷ cs) c h = ⊎_elim (λ k. absurd (clash (only c (pos 1) d) (sum_over cs (only c (pos 1))) k.1 (never-negative cs c) h)) (λ k. (k.0, none-there cs c (rest (only c (pos 1) d) (sum_over cs (only c (pos 1))) k.1 h))) (only-one c d)
  where
    clash : (a b : ℤ) → a ≡ pos 1 → pos 0 ≤ℤ b → (a +ℤ b) ≤ℤ pos 0 → ⊥
    clash a b e h k = omega (arith, ints)

    rest : (a b : ℤ) → a ≡ pos 0 → (a +ℤ b) ≤ℤ pos 0 → b ≤ℤ pos 0
    rest a b e k = omega (arith, ints)

distinct-counted : (cs : List ℕ) → ((c : ℕ) → sum_over cs (only c (pos 1)) ≤ℤ pos 1) → AreDistinct cs
distinct-counted [] h = tt
distinct-counted (d ∷ cs) h = (none-there cs d (once (only d (pos 1) d) (sum_over cs (only d (pos 1))) (only-there d (pos 1)) (h d)), distinct-counted cs (λ c. less (only c (pos 1) d) (sum_over cs (only c (pos 1))) (⊎_elim (λ k. inl k.1) (λ k. inr k.1) (only-one c d)) (h c)))
  where
    once : (a b : ℤ) → a ≡ pos 1 → (a +ℤ b) ≤ℤ pos 1 → b ≤ℤ pos 0
    once a b e k = omega (arith, ints)

    less : (a b : ℤ) → (a ≡ pos 1) ⊎ (a ≡ pos 0) → (a +ℤ b) ≤ℤ pos 1 → b ≤ℤ pos 1
    less a b (inl e) k = omega (arith, ints)
    less a b (inr e) k = omega (arith, ints)

distinct-summed : (n : ℕ) (cs : List ℕ) → ((g : ℕ → ℤ) → sum_over cs g ≡ sum_below n g) → AreDistinct cs
distinct-summed n cs h = distinct-counted cs (λ c. subst (λ z. z ≤ℤ pos 1) (sym (h (only c (pos 1)))) (⊎_elim (λ l. least (sum_below n (only c (pos 1))) (inl (only-sum n c (pos 1) l))) (λ l. least (sum_below n (only c (pos 1))) (inr (none n (only c (pos 1)) (λ j k. only-else c j (pos 1) (λ e. absurd (omega (arith, l, k, e))))))) (cases_lt c n)))
  where
    least : (z : ℤ) → (z ≡ pos 1) ⊎ (z ≡ pos 0) → z ≤ℤ pos 1
    least z (inl e) = omega (arith, ints)
    least z (inr e) = omega (arith, ints)

-- an owner with 1 at its own column and 0 at each other below a number
record IsPure (n : ℕ) (o : Owner) : Type 0 where
  within : o.column < n
  pure : (c : ℕ) → c < n → o.numbers c ≡ only o.column (pos 1) c

pure-owners : (n : ℕ) (os : List Owner) → AllByRecursion (IsPure n) os → AreDistinct (columns_of os) → AreOwners os
pure-owners n [] h d = tt
pure-owners n (o ∷ os) h d = (own_there, apart os h.1 d.0, pure-owners n os h.1 d.1)
  where
    own_there : o.numbers o.column ≢ pos 0
    own_there e = one (sym (h.0.pure o.column h.0.within ∙ only-there o.column (pos 1)) ∙ e)
      where
        one : pos 1 ≢ pos 0
        one = above_not_zero (pos 1) (omega (arith, ints))

    apart : (ps : List Owner) → AllByRecursion (IsPure n) ps → AllByRecursion (λ c. c ≢ o.column) (columns_of ps) → AllByRecursion (AreApart o) ps
    apart [] k e = tt
    apart (p ∷ ps) k e = (record { there = h.0.pure p.column k.0.within ∙ only-else o.column p.column (pos 1) e.0; here = k.0.pure o.column h.0.within ∙ only-else p.column o.column (pos 1) (λ s. e.0 (sym s)) }, apart ps k.1 e.1)

-- ---- the frame of polynomials over all columns

pub line-length : (cs : List (List Col)) (p : Polynomial) → length (line_of cs p) ≡ length cs + 1
line-length [] p = refl
line-length (c ∷ cs) p = omega (arith, line-length cs p)

lines-length : (cs : List (List Col)) (ps : List Polynomial) → length (map (line_of cs) ps) ≡ length ps
lines-length cs [] = refl
lines-length cs (p ∷ ps) = omega (arith, lines-length cs ps)

module _ (most : ℕ) (all ds cs : List (List Col)) (part : IsPart all ds cs) (polys : List Polynomial) where
  -- the frame
  abbrev pub frame : Frame
  frame = frame_of cs polys

  -- the lines that read a vector at all columns of the frame: at a row's unit column minus what the
  -- row has on it
  abbrev pub lines_at : ℕ → List ℤ
  lines_at c = cond (nat_lt c (length cs + 1)) (get_or (readers all ds cs part 0) c []) (opposite (get_or (map (line_of ds) polys) (c - (length cs + 1)) []))

  at-column : (c : ℕ) → c < length cs + 1 → lines_at c ≡ get_or (readers all ds cs part 0) c []
  at-column c h = ap (λ b. cond b (get_or (readers all ds cs part 0) c []) (opposite (get_or (map (line_of ds) polys) (c - (length cs + 1)) []))) (lt-ltb c (length cs + 1) h)

  at-unit : (k : ℕ) → lines_at (length cs + 1 + k) ≡ opposite (get_or (map (line_of ds) polys) k [])
  at-unit k =
      ap (λ b. cond b (get_or (readers all ds cs part 0) (length cs + 1 + k) []) (opposite (get_or (map (line_of ds) polys) (length cs + 1 + k - (length cs + 1)) []))) (le-ltb (length cs + 1 + k) (length cs + 1) (omega arith))
      ∙ (let e : length cs + 1 + k - (length cs + 1) ≡ k = omega arith in ap (λ j. opposite (get_or (map (line_of ds) polys) j [])) e)

  -- what a line of the frame has at a column, and at a unit column
  number-column : (line c : ℕ) → c < length cs + 1 → number_in frame line c ≡ entry (get_or (map (line_of cs) polys) line []) c
  number-column line c h = ap (λ b. cond b (entry (get_or (map (line_of cs) polys) line []) c) (cond (nat_eq c (length cs + 1 + line)) (pos 1) (pos 0))) (lt-ltb c (length cs + 1) h)

  number-unit : (line k : ℕ) → number_in frame line (length cs + 1 + k) ≡ cond (nat_eq (length cs + 1 + k) (length cs + 1 + line)) (pos 1) (pos 0)
  number-unit line k = ap (λ b. cond b (entry (get_or (map (line_of cs) polys) line []) (length cs + 1 + k)) (cond (nat_eq (length cs + 1 + k) (length cs + 1 + line)) (pos 1) (pos 0))) (le-ltb (length cs + 1 + k) (length cs + 1) (omega arith))

  row-read : (ps : List Polynomial) (line : ℕ) (v : List ℤ) → line < length ps → (length (get_or (map (line_of cs) ps) line []) ≡ length cs + 1) × (read_sum (get_or (map (line_of cs) ps) line []) (readers all ds cs part 0) v ≡ dot (get_or (map (line_of ds) ps) line []) v)
  row-read [] line v h = absurd (omega (arith, h))
  row-read (p ∷ ps) zero v h = (line-length cs p, line-read all ds cs part p 0 v)
  row-read (p ∷ ps) (suc line) v h = row-read ps line v (omega (arith, h))

  opposite-line : (row v : List ℤ) → dot (opposite row) v ≡ neg_ℤ (dot row v)
  opposite-line [] v = refl
  opposite-line (x ∷ row) [] = refl
  opposite-line (x ∷ row) (y ∷ v) = step x y (dot (opposite row) v) (dot row v) (neg_ℤ x *ℤ y) (x *ℤ y) (turn x y) (opposite-line row v)
    where
      step : (x y a b c d : ℤ) → c ≡ neg_ℤ d → a ≡ neg_ℤ b → c +ℤ a ≡ neg_ℤ (d +ℤ b)
      step x y a b c d e f = omega (arith, ints)

      turn : (x y : ℤ) → neg_ℤ x *ℤ y ≡ neg_ℤ (x *ℤ y)
      turn x y = neg_ℤ-*ℤ x y

  vector-solved : (v : List ℤ) → IsSolution frame (λ c. dot (lines_at c) v)
  vector-solved v line h =
      sum_below-plus (length cs + 1) (length (map (line_of cs) polys)) both
      ∙ cancel (sum_below (length cs + 1) both) (sum_below (length (map (line_of cs) polys)) (λ k. both (length cs + 1 + k))) (dot row v)
      (sum_below-same (length cs + 1) both (λ c. entry (get_or (map (line_of cs) polys) line []) c *ℤ dot (get_or (readers all ds cs part 0) c []) v) (λ c l. λ i. number-column line c l i *ℤ dot (at-column c l i) v)
      ∙ sums-read (get_or (map (line_of cs) polys) line []) (readers all ds cs part 0) v (length cs + 1) read.0 (readers-length all ds cs part 0) ∙ read.1)
      (single (length (map (line_of cs) polys)) (λ k. both (length cs + 1 + k)) line h (λ k l n. ap (λ z. z *ℤ dot (lines_at (length cs + 1 + k)) v) (number-unit line k ∙ ap (λ b. cond b (pos 1) (pos 0)) (ne_eqb (length cs + 1 + k) (length cs + 1 + line) (λ e. n (omega (arith, e))))) ∙ zero-*ℤ (dot (lines_at (length cs + 1 + k)) v))
      ∙ ap (λ z. z *ℤ dot (lines_at (length cs + 1 + line)) v) (number-unit line line ∙ ap (λ b. cond b (pos 1) (pos 0)) (eq-eqb (length cs + 1 + line) (length cs + 1 + line) refl))
      ∙ one (dot (lines_at (length cs + 1 + line)) v) ∙ ap (λ w. dot w v) (at-unit line) ∙ opposite-line row v)
    where
      row : List ℤ
      row = get_or (map (line_of ds) polys) line []

      both : ℕ → ℤ
      both c = number_in frame line c *ℤ dot (lines_at c) v

      read : (length (get_or (map (line_of cs) polys) line []) ≡ length cs + 1) × (read_sum (get_or (map (line_of cs) polys) line []) (readers all ds cs part 0) v ≡ dot (get_or (map (line_of ds) polys) line []) v)
      read = row-read polys line v (omega (arith, h, lines-length cs polys))

      one : (z : ℤ) → pos 1 *ℤ z ≡ z
      one z = omega (arith, ints)

      cancel : (x y z : ℤ) → x ≡ z → y ≡ neg_ℤ z → x +ℤ y ≡ pos 0
      cancel x y z e f = omega (arith, ints)

  place-within_frame : (i : ℕ) → place_of all ds cs part i < width frame
  place-within_frame i = omega (arith, place-within all ds cs part i)

  place-entries : (i : ℕ) (v : List ℤ) → i < length ds + 1 → dot (lines_at (place_of all ds cs part i)) v ≡ entry v i
  place-entries i v h = ap (λ w. dot w v) (at-column (place_of all ds cs part i) (place-within all ds cs part i) ∙ place-reads all ds cs part 0 i h ∙ (let e : 0 + i ≡ i = omega arith in ap reader e)) ∙ reader-entry i v

  pub row-reading : IsReading frame (length ds + 1) lines_at
  row-reading = record {
    solved = λ v e. vector-solved v;
    placed = λ i h. record { place = place_of all ds cs part i; within = place-within_frame i; entries = λ v e. place-entries i v h };
  }

  -- the number at the constants is the last one of the vector
  pub constants-read : (v : List ℤ) → dot (lines_at (length cs)) v ≡ entry v (length ds)
  constants-read v = ap (λ c. dot (lines_at c) v) (sym (place-last all ds cs part)) ∙ place-entries (length ds) v (omega arith)

  -- ---- the first basis

  -- the unit of a place owns that column
  abbrev own_unit : ℕ → Own
  own_unit i = record { column = place_of all ds cs part i; vector = unit (length ds + 1) i }

  -- that unit as an owner
  abbrev first_owner : ℕ → Owner
  first_owner i = record { column = place_of all ds cs part i; numbers = λ c. dot (lines_at c) (unit (length ds + 1) i) }

  -- a column that the case lacks owns itself
  abbrev lacking_owner : ℕ → Owner
  lacking_owner c = record { column = c; numbers = only c (pos 1) }

  -- all of them
  abbrev first_owners : List Owner
  first_owners = map first_owner (places (length ds + 1)) ++ map lacking_owner (lacking all ds cs part)

  columns-append : (xs ys : List Owner) (g : ℕ → ℤ) → sum_over (columns_of (xs ++ ys)) g ≡ sum_over (columns_of xs) g +ℤ sum_over (columns_of ys) g
  columns-append [] ys g = nothing (sum_over (columns_of ys) g)
    where
      nothing : (z : ℤ) → z ≡ pos 0 +ℤ z
      nothing z = omega (arith, ints)
  columns-append (x ∷ xs) ys g = ap (λ z. g x.column +ℤ z) (columns-append xs ys g) ∙ group (g x.column) (sum_over (columns_of xs) g) (sum_over (columns_of ys) g)
    where
      group : (a b c : ℤ) → a +ℤ (b +ℤ c) ≡ a +ℤ b +ℤ c
      group a b c = omega (arith, ints)

  first-sums : (g : ℕ → ℤ) → sum_over (columns_of first_owners) g ≡ sum_below (length cs + 1) g
  first-sums g =
      columns-append (map first_owner (places (length ds + 1))) (map lacking_owner (lacking all ds cs part)) g
      ∙ (λ i. (over-mapped first_owner (λ (o : Owner). o.column) (places (length ds + 1)) g ∙ over-below (length ds + 1) (λ j. g (place_of all ds cs part j))) i +ℤ over-mapped lacking_owner (λ (o : Owner). o.column) (lacking all ds cs part) g i)
      ∙ parted-columns all ds cs part g

  first-pure : AllByRecursion (IsPure (length cs + 1)) first_owners
  first-pure =
      each-append (IsPure (length cs + 1)) (map first_owner (places (length ds + 1))) (map lacking_owner (lacking all ds cs part))
      (each-map (λ i. i < length ds + 1) (IsPure (length cs + 1)) first_owner (λ i h. own_pure i h) (places (length ds + 1)) (each-below (λ i. i < length ds + 1) (length ds + 1) (λ i h. h)))
      (each-map (λ c. c < length cs + 1) (IsPure (length cs + 1)) lacking_owner (λ c h. record { within = h; pure = λ d k. refl }) (lacking all ds cs part) (lacking-within all ds cs part))
    where
      own_pure : (i : ℕ) → i < length ds + 1 → IsPure (length cs + 1) (first_owner i)
      own_pure i h = record {
        within = place-within all ds cs part i;
        pure = λ c k. ap (λ w. dot w (unit (length ds + 1) i)) (at-column c k) ∙ unit-reads all ds cs part 0 i c (unit (length ds + 1) i) h (λ j. (let e : 0 + j ≡ j = omega arith in ap (entry (unit (length ds + 1) i)) e) ∙ unit-entry (length ds + 1) i j h);
      }

  module _ (among : AllByRecursion (λ (p : Polynomial). AreAmong (keys_of p.terms) all) polys) where
    rows-nothing : (ps : List Polynomial) → AllByRecursion (λ (p : Polynomial). AreAmong (keys_of p.terms) all) ps → (line : ℕ) → line < length ps → AllByRecursion (λ c. entry (get_or (map (line_of cs) ps) line []) c ≡ pos 0) (lacking all ds cs part)
    rows-nothing [] a line h = absurd (omega (arith, h))
    rows-nothing (p ∷ ps) a zero h = lacking-nothing all ds cs part p a.0
    rows-nothing (p ∷ ps) a (suc line) h = rows-nothing ps a.1 line (omega (arith, h))

    -- lines of the frame have nothing at the column
    abbrev HasNothingAt : ℕ → Type 0
    HasNothingAt c = (line : ℕ) → line < length polys → entry (get_or (map (line_of cs) polys) line []) c ≡ pos 0

    all-nothing : (xs : List ℕ) → ((line : ℕ) → line < length polys → AllByRecursion (λ c. entry (get_or (map (line_of cs) polys) line []) c ≡ pos 0) xs) → AllByRecursion HasNothingAt xs
    all-nothing [] h = tt
    all-nothing (x ∷ xs) h = (λ line l. (h line l).0, all-nothing xs (λ line l. (h line l).1))

    lacking-solved : (c : ℕ) → (c < length cs + 1) × HasNothingAt c → IsSolution frame (only c (pos 1))
    lacking-solved c h line l =
        single (width frame) (λ j. number_in frame line j *ℤ only c (pos 1) j) c (omega (arith, h.0)) (λ j k n. ap (λ z. number_in frame line j *ℤ z) (only-else c j (pos 1) n) ∙ times_zero (number_in frame line j))
        ∙ ap (λ z. z *ℤ only c (pos 1) c) (number-column line c h.0 ∙ h.1 line (omega (arith, l, lines-length cs polys))) ∙ zero-*ℤ (only c (pos 1) c)

    first-solved : AllByRecursion (λ (o : Owner). IsSolution frame o.numbers) first_owners
    first-solved =
        each-append (λ (o : Owner). IsSolution frame o.numbers) (map first_owner (places (length ds + 1))) (map lacking_owner (lacking all ds cs part))
        (each-map (λ i. i < length ds + 1) (λ (o : Owner). IsSolution frame o.numbers) first_owner (λ i h. vector-solved (unit (length ds + 1) i)) (places (length ds + 1)) (each-below (λ i. i < length ds + 1) (length ds + 1) (λ i h. h)))
        (each-map (λ c. (c < length cs + 1) × HasNothingAt c) (λ (o : Owner). IsSolution frame o.numbers) lacking_owner lacking-solved (lacking all ds cs part) (each-both (λ c. c < length cs + 1) HasNothingAt (lacking all ds cs part) (lacking-within all ds cs part) (all-nothing (lacking all ds cs part) (rows-nothing polys among))))

    -- the unit columns are chosen
    first-basis : IsBasis frame first_owners (unit_columns frame)
    first-basis = record {
      each = unit_columns-length frame;
      within = unit_columns-within frame;
      owned = each-more (IsPure (length cs + 1)) (λ (o : Owner). o.column < width frame) (λ o h. let own_within : o.column < length cs + 1 = h.within in omega (arith, own_within)) first_owners first-pure;
      owners = pure-owners (length cs + 1) first_owners first-pure (distinct-summed (length cs + 1) (columns_of first_owners) first-sums);
      solved = first-solved;
      parted = record { sums = λ g. (λ i. first-sums g i +ℤ (over-map (λ k. length cs + 1 + k) (places (line_count frame)) g ∙ over-below (line_count frame) (λ k. g (length cs + 1 + k))) i) ∙ sym (sum_below-plus (length cs + 1) (line_count frame) g) };
    }

    first-seen : IsSeenBy (length cs) first_owners
    first-seen = seen-append (length cs) (map first_owner (places (length ds + 1))) (map lacking_owner (lacking all ds cs part)) (seen-place (length cs) first_owner (length ds + 1) (length ds) (omega arith) last)
      where
        last : dot (lines_at (length cs)) (unit (length ds + 1) (length ds)) ≢ pos 0
        last e = above_not_zero (pos 1) (omega (arith, ints)) (sym (constants-read (unit (length ds + 1) (length ds)) ∙ unit-entry (length ds + 1) (length ds) (length ds) (omega arith) ∙ only-there (length ds) (pos 1)) ∙ e)

    owners-are : owners_of frame (length ds + 1) most (length cs) lines_at row-reading (map own_unit (places (length ds + 1))) ++ map lacking_owner (lacking all ds cs part) ≡ first_owners
    owners-are = ap (λ os. os ++ map lacking_owner (lacking all ds cs part)) (map-map own_unit (owner_of frame (length ds + 1) most (length cs) lines_at row-reading) (places (length ds + 1)))

    pub units-basis : IsFrameBasis frame (length ds + 1) most (length cs) lines_at row-reading (units (length ds + 1))
    units-basis = record {
      vectors = map own_unit (places (length ds + 1));
      are = map-map own_unit (λ (o : Own). o.vector) (places (length ds + 1)) ∙ units-are (length ds + 1);
      others = map lacking_owner (lacking all ds cs part);
      has = subst (λ os. HasBasis frame os) (sym owners-are) (record { chosen = unit_columns frame; basis = first-basis });
      seen = subst (λ os. IsSeenBy (length cs) os) (sym owners-are) first-seen;
      wide = units-wide (length ds + 1);
      primitive = cleared_units-primitive [] (length ds + 1);
    }

  -- ---- the lines of the search

  pub unit-line : (i : ℕ) → 1 ≤ most → i < length ds + 1 → AreWithin most (unit (length ds + 1) i) → IsLineOf frame (length ds + 1) most (length cs) lines_at row-reading (unit (length ds + 1) i)
  unit-line i h l small = record {
    column = place_of all ds cs part i;
    within = place-within_frame i;
    same = λ v e. ap unsigned_abs (unit-dot (length ds + 1) i v l e ∙ sym (place-entries i v l));
    small = small;
  }

  pub units-lines : 1 ≤ most → AllByRecursion (IsLineOf frame (length ds + 1) most (length cs) lines_at row-reading) (units (length ds + 1))
  units-lines h =
      subst (λ vs. AllByRecursion (IsLineOf frame (length ds + 1) most (length cs) lines_at row-reading) vs) (units-are (length ds + 1))
      (from_units (places (length ds + 1)) (each-below (λ i. i < length ds + 1) (length ds + 1) (λ i l. l)) (subst (λ vs. AllByRecursion (AreWithin most) vs) (sym (units-are (length ds + 1))) (units-within most (length ds + 1) h)))
    where
      from_units : (ks : List ℕ) → AllByRecursion (λ i. i < length ds + 1) ks → AllByRecursion (AreWithin most) (map (unit (length ds + 1)) ks) → AllByRecursion (IsLineOf frame (length ds + 1) most (length cs) lines_at row-reading) (map (unit (length ds + 1)) ks)
      from_units [] k l = tt
      from_units (i ∷ ks) k l = (unit-line i h k.0 l.0, from_units ks k.1 l.1)

  -- minus the denominator reads the constants
  pub far-line : 1 ≤ most → IsLineOf frame (length ds + 1) most (length cs) lines_at row-reading (far (length ds))
  far-line h = record {
    column = length cs;
    within = omega arith;
    same = λ v e. ap unsigned_abs (far-dot (length ds) v) ∙ turned (entry v (length ds)) ∙ ap unsigned_abs (sym (constants-read v));
    small = each-append (IsWithin most) (zeros (length ds)) (negsuc 0 ∷ []) (zeros-within most (length ds)) (omega (arith, h), tt);
  }
    where
      turned : (z : ℤ) → unsigned_abs (neg_ℤ z) ≡ unsigned_abs z
      turned z = omega (arith, ints)

      far-dot : (n : ℕ) (v : List ℤ) → dot (far n) v ≡ neg_ℤ (entry v n)
      far-dot zero [] = refl
      far-dot zero (z ∷ v) = one z
        where
          one : (z : ℤ) → negsuc 0 *ℤ z +ℤ pos 0 ≡ neg_ℤ z
          one z = omega (arith, ints)
      far-dot (suc n) [] = refl
      far-dot (suc n) (z ∷ v) = behind (pos 0 *ℤ z) (dot (far n) v) (zero-*ℤ z) ∙ far-dot n v
        where
          behind : (a b : ℤ) → a ≡ pos 0 → a +ℤ b ≡ b
          behind a b e = omega (arith, ints)

  pub row-line : (k : ℕ) → k < length polys → AreWithin most (get_or (map (line_of ds) polys) k []) → IsLineOf frame (length ds + 1) most (length cs) lines_at row-reading (get_or (map (line_of ds) polys) k [])
  row-line k h small = record {
    column = length cs + 1 + k;
    within = omega (arith, h, lines-length cs polys);
    same = λ v e. sym (ap unsigned_abs (ap (λ w. dot w v) (at-unit k) ∙ opposite-line (get_or (map (line_of ds) polys) k []) v) ∙ turned (dot (get_or (map (line_of ds) polys) k []) v));
    small = small;
  }
    where
      turned : (z : ℤ) → unsigned_abs (neg_ℤ z) ≡ unsigned_abs z
      turned z = omega (arith, ints)

  -- the opposite of a line is one as well
  pub opposite-is_line : (line : List ℤ) → IsLineOf frame (length ds + 1) most (length cs) lines_at row-reading line → IsLineOf frame (length ds + 1) most (length cs) lines_at row-reading (opposite line)
  opposite-is_line line h = record {
    column = h.column;
    within = h.within;
    same = λ v e. ap unsigned_abs (opposite-line line v) ∙ turned (dot line v) ∙ h.same v e;
    small = each-map (IsWithin most) (IsWithin most) neg_ℤ (λ z k. within z k) line h.small;
  }
    where
      turned : (z : ℤ) → unsigned_abs (neg_ℤ z) ≡ unsigned_abs z
      turned z = omega (arith, ints)

      within : (z : ℤ) → IsWithin most z → IsWithin most (neg_ℤ z)
      within z k = omega (arith, ints, k)

  -- ---- values of polynomials

  -- what a polynomial has on a vector that is given at all columns
  abbrev pub value_on : (ℕ → ℤ) → Polynomial → ℤ
  value_on x t = sum_below (length cs + 1) (λ c. entry (line_of cs t) c *ℤ x c)

  pub vector-value : (t : Polynomial) (v : List ℤ) → value_on (λ c. dot (lines_at c) v) t ≡ dot (line_of ds t) v
  vector-value t v =
      sum_below-same (length cs + 1) (λ c. entry (line_of cs t) c *ℤ dot (lines_at c) v) (λ c. entry (line_of cs t) c *ℤ dot (get_or (readers all ds cs part 0) c []) v) (λ c l. ap (λ w. entry (line_of cs t) c *ℤ dot w v) (at-column c l))
      ∙ sums-read (line_of cs t) (readers all ds cs part 0) v (length cs + 1) (line-length cs t) (readers-length all ds cs part 0) ∙ line-read all ds cs part t 0 v

  -- numbers of the rows at the own columns are numbers of the frame
  pub row-small : (k : ℕ) → k < length polys → ((c : ℕ) → c < width frame → unsigned_abs (number_in frame k c) ≤ most) → AreWithin most (get_or (map (line_of ds) polys) k [])
  row-small k h small = from polys k h (λ c l. subst (λ z. unsigned_abs z ≤ most) (number-column k c l) (small c (omega (arith, l))))
    where
      from : (ps : List Polynomial) (k : ℕ) → k < length ps → ((c : ℕ) → c < length cs + 1 → unsigned_abs (entry (get_or (map (line_of cs) ps) k []) c) ≤ most) → AreWithin most (get_or (map (line_of ds) ps) k [])
      from [] k h small = absurd (omega (arith, h))
      from (p ∷ ps) zero h small = within-places most (line_of ds p) (λ i l. subst (λ z. unsigned_abs z ≤ most) (place-line all ds cs part p i (omega (arith, l, line-length ds p))) (small (place_of all ds cs part i) (place-within all ds cs part i)))
      from (p ∷ ps) (suc k) h small = from ps k (omega (arith, h)) small
