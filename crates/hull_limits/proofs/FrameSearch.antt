-- The search in vectors that are solutions of a calm frame never leaves 128 bits.
use Rattle.std.proofs.Common.{◌≡◌, ◌≢◌, ℕ, zero, suc, ◌+◌, ◌*◌, ◌^◌, ◌<◌, ◌≤◌, Bool, true, false, cond, ⊎_elim, inl, inr, refl, sym, ap, subst, ◌∙◌, arith, List, [], ◌∷◌, ◌++◌, map, length, ℤ, pos, ◌+ℤ◌, ◌*ℤ◌}
use Rattle.std.specs.Prelude.{◌⊎◌, IsOkAnd, Ok, Err, neg_ℤ, unsigned_abs}
use Rattle.std.specs.Int.{◌∣◌}
use Rattle.std.specs.List.{AllByRecursion}
use Rattle.std.specs.Ordering.{int_eq}
use Rattle.std.proofs.lemmas.Bool.{false≢true}
use Rattle.std.proofs.lemmas.Bool.Decides.{Decides-int_eq}
use Rattle.std.proofs.lemmas.Int.{ints}
use Rattle.std.proofs.lemmas.List.{append_assoc}
use Rattle.std.proofs.Math.IntN.{zero-*ℤ}
use Rattle.std.proofs.Math.Nat.{dvd-zero, mul-le-mul_left, one-mul}
use Rattle.items.proofs.Each.{each-append, each-back, each-front, each-map}
use Rattle.whole_numbers.specs.Divisors.{gcd_of_all}
use Rattle.whole_numbers.specs.Dot.{dot}
use Rattle.whole_numbers.proofs.CommonDivisors.{DividesEach, gcd_of_all-greatest}
use Rattle.cones.specs.Cones.{AreWide, along_sign, clearing, clearing_with, projection}
use Rattle.cones.specs.InBits.{IsOrLeaves}
use Rattle.cones.specs.InBits as in_bits
use Rattle.cones.specs.Split.{remainder}
use Rattle.cones.specs.Vectors.{combination, opposite}
use Rattle.cones.specs.declared.projecting.Cleared.{Cleared}
use Rattle.cones.specs.declared.projecting.Cleared.TheVariants.{Kept, Given}
use Rattle.cones.proofs.Bits.{clearing-made, dot-made, opposite-made}
use Rattle.cones.proofs.Clears.{IsMoved, projection-is}
use Rattle.cones.proofs.Numbers.{above_not_zero, times_zero}
use Rattle.cones.proofs.Primitive.{IsPrimitive, lowest-primitive}
use Rattle.cones.proofs.Widths.{projection-length}
use Rattle.farkas_check.specs.Frames.{Frame, IsCalmUpTo, width}
use Rattle.farkas_check.specs.Relations.{entry}
use Rattle.hull_limits.proofs.Bounded.{IsBounded, IsLowest, owners-bounded}
use Rattle.hull_limits.proofs.Clearings.{AreMoved, HasBasis, IsMovedOwner, IsSeenBy, basis-front, basis-put, column-cleared, given_up, moved_other, others-moved, others-solved, seen-cleared, seen-front, seen-put}
use Rattle.hull_limits.proofs.KeptSearch.{IsKept, IsSeen}
use Rattle.hull_limits.proofs.MadeSteps.{IsMade, IsOkAnd-bind, IsOkAnd-more}
use Rattle.hull_limits.proofs.Magnitudes.{IsWithin, AreWithin, within-places, total, total-within, combination_each-makes, dot-makes, magnitude-makes, multiple-divisor, opposite-makes, opposite_along-makes}
use Rattle.hull_limits.proofs.Owners.{AreOwners, IsBasis, IsSolution, Owner, own}

-- ---- what is made, exactly

-- what is made is what is defined
pub made-exact : {X : Type 0} (x : X) (r : in_bits.Made X) → IsOrLeaves x r → IsMade r → IsOkAnd r (λ made. made ≡ x)
made-exact x (Ok made) h k = h
made-exact x (Err step) h k = absurd k

-- ---- vectors that own columns

-- a vector of the search, and the column that it owns
pub record Own : Type 0 where
  pub column : ℕ
  pub vector : List ℤ

-- the number at a place of vectors of so many numbers is that at a column of the frame
pub record IsPlaced (f : Frame) (count : ℕ) (lines : ℕ → List ℤ) (i : ℕ) : Type 0 where
  pub place : ℕ
  pub within : place < width f
  pub entries : (v : List ℤ) → length v ≡ count → dot (lines place) v ≡ entry v i

-- vectors of so many numbers have one at each column of a frame, by a line for each
pub record IsReading (f : Frame) (count : ℕ) (lines : ℕ → List ℤ) : Type 0 where
  pub solved : (v : List ℤ) → length v ≡ count → IsSolution f (λ c. dot (lines c) v)
  pub placed : (i : ℕ) → i < count → IsPlaced f count lines i

module _ (f : Frame) (count most constants : ℕ) (lines : ℕ → List ℤ) (reading : IsReading f count lines) where
  -- a vector as an owner
  abbrev pub owner_of : Own → Owner
  owner_of o = record { column = o.column; numbers = λ c. dot (lines c) o.vector }

  abbrev pub vectors_of : List Own → List (List ℤ)
  vectors_of os = map (λ (o : Own). o.vector) os

  abbrev pub owners_of : List Own → List Owner
  owners_of os = map owner_of os

  -- the vectors of a basis, with others that were given up, own the columns that are not chosen; one
  -- of them has a number at the constants
  pub record IsFrameBasis (basis : List (List ℤ)) : Type 0 where
    pub vectors : List Own
    pub are : vectors_of vectors ≡ basis
    pub others : List Owner
    pub has : HasBasis f (owners_of vectors ++ others)
    pub seen : IsSeenBy constants (owners_of vectors ++ others)
    pub wide : AreWide count basis
    pub primitive : AllByRecursion IsPrimitive basis

  -- ---- how great they are

  all-divide : (d : ℕ) (v : List ℤ) → ((i : ℕ) → i < length v → d ∣ unsigned_abs (entry v i)) → DividesEach d v
  all-divide d [] h = tt
  all-divide d (z ∷ v) h = (h 0 (omega arith), all-divide d v (λ i l. h (suc i) (omega (arith, l))))

  entry-times : (by : ℤ) (v : List ℤ) (i : ℕ) → entry (map (λ z. by *ℤ z) v) i ≡ by *ℤ entry v i
  entry-times by [] i = sym (times_zero by)
  entry-times by (z ∷ v) zero = refl
  entry-times by (z ∷ v) (suc i) = entry-times by v i

  map-length : (g : ℤ → ℤ) (v : List ℤ) → length (map g v) ≡ length v
  map-length g [] = refl
  map-length g (z ∷ v) = omega (arith, map-length g v)

  vector-lowest : (o : Own) → length o.vector ≡ count → gcd_of_all o.vector ≡ 1 → IsLowest f (owner_of o)
  vector-lowest o e g = record { divides = λ d by h. go d by h (unsigned_abs by) refl }
    where
      go : (d : ℕ) (by : ℤ) → ((c : ℕ) → c < width f → d ∣ unsigned_abs (by *ℤ dot (lines c) o.vector)) → (n : ℕ) → unsigned_abs by ≡ n → d ∣ unsigned_abs by
      go d by h zero k = subst (λ n. d ∣ n) (sym k) (dvd-zero d)
      go d by h (suc n) k =
          subst (λ n. d ∣ n) (multiple-divisor by o.vector (omega (arith, k)) ∙ ap (λ n. n * unsigned_abs by) g ∙ one-mul (unsigned_abs by))
          (gcd_of_all-greatest d (map (λ z. by *ℤ z) o.vector) (all-divide d (map (λ z. by *ℤ z) o.vector) (λ i l.
          let there : i < count = omega (arith, l, map-length (λ z. by *ℤ z) o.vector, e) in
          subst (λ z. d ∣ unsigned_abs z) (ap (λ z. by *ℤ z) ((reading.placed i there).entries o.vector e) ∙ sym (entry-times by o.vector i)) (h (reading.placed i there).place (reading.placed i there).within))))

  -- the numbers of the vectors at the columns of the frame are bounded
  vectors-bounded : (os : List Own) (others : List Owner) → HasBasis f (owners_of os ++ others) → IsCalmUpTo most f → AreWide count (vectors_of os) → AllByRecursion IsPrimitive (vectors_of os) → AllByRecursion (λ (o : Own). IsBounded most f (owner_of o)) os
  vectors-bounded os others has calm wide primitive = each os (each-front (λ (o : Owner). IsLowest f o → IsBounded most f o) (owners_of os) others (owners-bounded most f (owners_of os ++ others) has.chosen has.basis calm)) wide primitive (front os has.basis.owners)
    where
      front : (ps : List Own) → AreOwners (owners_of ps ++ others) → AllByRecursion (λ (p : Own). own (owner_of p) ≢ pos 0) ps
      front [] h = tt
      front (p ∷ ps) h = (h.0, front ps h.2)

      each : (ps : List Own) → AllByRecursion (λ (o : Owner). IsLowest f o → IsBounded most f o) (owners_of ps) → AreWide count (vectors_of ps) → AllByRecursion IsPrimitive (vectors_of ps) → AllByRecursion (λ (p : Own). own (owner_of p) ≢ pos 0) ps → AllByRecursion (λ (o : Own). IsBounded most f (owner_of o)) ps
      each [] h w p s = tt
      each (o ∷ ps) h w p s = (h.0 (vector-lowest o w.0 (p.0 (lines o.column) s.0)), each ps h.1 w.1 p.1 s.1)

  -- ---- a line that is made 0

  -- what a line has on a vector is what the vector has at a column of the frame, up to the sign
  pub record IsLineOf (line : List ℤ) : Type 0 where
    pub column : ℕ
    pub within : column < width f
    pub same : (v : List ℤ) → length v ≡ count → unsigned_abs (dot line v) ≡ unsigned_abs (dot (lines column) v)
    pub small : AreWithin most line

  -- a vector that is moved owns the column that it owned before
  abbrev moved_by : List ℤ → Own → Own → Own
  moved_by line p o = record { column = o.column; vector = projection line p.vector o.vector }

  -- the vectors before the one that is given up, and behind it
  record IsGivenUp (line : List ℤ) (os : List Own) (c : Cleared) : Type 0 where
    before : List Own
    pivot : Own
    after : List Own
    all : os ≡ before ++ pivot ∷ after
    is : c ≡ Given pivot.vector (vectors_of (map (moved_by line pivot) before ++ after))
    seen : dot line pivot.vector ≢ pos 0
    zero : AllByRecursion (λ (o : Own). dot line o.vector ≡ pos 0) after

  -- all vectors are kept
  record AreKept (line : List ℤ) (os : List Own) (c : Cleared) : Type 0 where
    is : c ≡ Kept
    zero : AllByRecursion (λ (o : Own). dot line o.vector ≡ pos 0) os

  clearing-of : (line : List ℤ) (os : List Own) → AreKept line os (clearing line (vectors_of os)) ⊎ IsGivenUp line os (clearing line (vectors_of os))
  clearing-of line [] = inl (record { is = refl; zero = tt })
  clearing-of line (o ∷ os) = ⊎_elim (λ k. test (int_eq (dot line o.vector) (pos 0)) refl k) (λ g. inr (given g)) (clearing-of line os)
    where
      behind : AreKept line os (clearing line (vectors_of os)) → clearing line (vectors_of (o ∷ os)) ≡ cond (int_eq (dot line o.vector) (pos 0)) Kept (Given o.vector (vectors_of os))
      behind k = ap (λ c. clearing_with line o.vector (vectors_of os) c) k.is

      test : (b : Bool) → int_eq (dot line o.vector) (pos 0) ≡ b → AreKept line os (clearing line (vectors_of os)) → AreKept line (o ∷ os) (clearing line (vectors_of (o ∷ os))) ⊎ IsGivenUp line (o ∷ os) (clearing line (vectors_of (o ∷ os)))
      test true e k = inl (record { is = behind k ∙ ap (λ b. cond b Kept (Given o.vector (vectors_of os))) e; zero = ((Decides-int_eq (dot line o.vector) (pos 0)).0 e, k.zero) })
      test false e k = inr (record { before = []; pivot = o; after = os; all = refl; is = behind k ∙ ap (λ b. cond b Kept (Given o.vector (vectors_of os))) e; seen = λ q. false≢true (sym e ∙ (Decides-int_eq (dot line o.vector) (pos 0)).1 q); zero = k.zero })

      given : IsGivenUp line os (clearing line (vectors_of os)) → IsGivenUp line (o ∷ os) (clearing line (vectors_of (o ∷ os)))
      given g = record { before = o ∷ g.before; pivot = g.pivot; after = g.after; all = ap (λ ps. o ∷ ps) g.all; is = ap (λ c. clearing_with line o.vector (vectors_of os) c) g.is; seen = g.seen; zero = g.zero }

  -- ---- the owners of what is left

  moved-append : (col : ℕ) (p : Owner) (xs ys ms ns : List Owner) → AreMoved col p xs ms → AreMoved col p ys ns → AreMoved col p (xs ++ ys) (ms ++ ns)
  moved-append col p [] ys [] ns h k = k
  moved-append col p [] ys (m ∷ ms) ns h k = absurd h
  moved-append col p (x ∷ xs) ys [] ns h k = absurd h
  moved-append col p (x ∷ xs) ys (m ∷ ms) ns h k = (h.0, moved-append col p xs ys ms ns h.1 k)

  no_size : (z : ℤ) → unsigned_abs z ≡ 0 → z ≡ pos 0
  no_size z e = omega (arith, ints, e)

  owners-split : (before : List Own) (p : Own) (after : List Own) (others : List Owner) → owners_of (before ++ p ∷ after) ++ others ≡ owners_of before ++ owner_of p ∷ (owners_of after ++ others)
  owners-split [] p after others = refl
  owners-split (o ∷ before) p after others = ap (λ os. owner_of o ∷ os) (owners-split before p after others)

  owners-joined : (before after : List Own) (others : List Owner) → owners_of before ++ (owners_of after ++ others) ≡ owners_of (before ++ after) ++ others
  owners-joined [] after others = refl
  owners-joined (o ∷ before) after others = ap (λ os. owner_of o ∷ os) (owners-joined before after others)

  module _ (line : List ℤ) (is_line : IsLineOf line) (p : Own) (seen : dot line p.vector ≢ pos 0) (wide_pivot : length p.vector ≡ count) where
    vector-moved : (o : Own) → length o.vector ≡ count → IsMovedOwner is_line.column (owner_of p) (owner_of o) (owner_of (moved_by line p o))
    vector-moved o e = from (projection-is line p.vector o.vector seen)
      where
        from : IsMoved line p.vector o.vector (projection line p.vector o.vector) → IsMovedOwner is_line.column (owner_of p) (owner_of o) (owner_of (moved_by line p o))
        from m = record {
          column = refl;
          factor = m.factor;
          some_factor = above_not_zero m.factor m.positive;
          a = m.own;
          some = m.some;
          b = m.by;
          is = λ c. m.is (lines c);
          gone = no_size (dot (lines is_line.column) (projection line p.vector o.vector)) (sym (is_line.same (projection line p.vector o.vector) (projection-length line p.vector o.vector (wide_pivot ∙ sym e) ∙ e)) ∙ ap unsigned_abs m.zero_there);
        }

    vectors-moved : (os : List Own) → AreWide count (vectors_of os) → AreMoved is_line.column (owner_of p) (owners_of os) (owners_of (map (moved_by line p) os))
    vectors-moved [] h = tt
    vectors-moved (o ∷ os) h = (vector-moved o h.0, vectors-moved os h.1)

    vectors-left : (os : List Own) → AreWide count (vectors_of os) → AllByRecursion (λ (o : Own). dot line o.vector ≡ pos 0) os → AreMoved is_line.column (owner_of p) (owners_of os) (owners_of os)
    vectors-left [] h z = tt
    vectors-left (o ∷ os) h z = (
      record {
        column = refl;
        factor = pos 1;
        some_factor = above_not_zero (pos 1) (omega (arith, ints));
        a = pos 1;
        some = above_not_zero (pos 1) (omega (arith, ints));
        b = pos 0;
        is = λ c. same (dot (lines c) o.vector) (pos 0 *ℤ dot (lines c) p.vector) (zero-*ℤ (dot (lines c) p.vector));
        gone = no_size (dot (lines is_line.column) o.vector) (sym (is_line.same o.vector h.0) ∙ ap unsigned_abs z.0);
      },
      vectors-left os h.1 z.1,
    )
      where
        same : (x y : ℤ) → y ≡ pos 0 → pos 1 *ℤ x ≡ pos 1 *ℤ x +ℤ y
        same x y e = omega (arith, ints)

    moved-wide : (os : List Own) → AreWide count (vectors_of os) → AreWide count (vectors_of (map (moved_by line p) os))
    moved-wide [] h = tt
    moved-wide (o ∷ os) h = (projection-length line p.vector o.vector (wide_pivot ∙ sym h.0) ∙ h.0, moved-wide os h.1)

    moved-primitive : (os : List Own) → AllByRecursion IsPrimitive (vectors_of (map (moved_by line p) os))
    moved-primitive [] = tt
    moved-primitive (o ∷ os) = (lowest-primitive (combination (pos (unsigned_abs (dot line p.vector))) o.vector (along_sign (dot line p.vector) (neg_ℤ (dot line o.vector))) p.vector), moved-primitive os)

    vectors-solved : (os : List Own) → AreWide count (vectors_of os) → AllByRecursion (λ (o : Owner). IsSolution f o.numbers) (owners_of os)
    vectors-solved [] h = tt
    vectors-solved (o ∷ os) h = (reading.solved o.vector h.0, vectors-solved os h.1)

    column-seen : dot (lines is_line.column) p.vector ≢ pos 0
    column-seen e = seen (no_size (dot line p.vector) (is_line.same p.vector wide_pivot ∙ ap unsigned_abs e))

    all-moved : (before after : List Own) (others : List Owner) → AreWide count (vectors_of before) → AreWide count (vectors_of after) → AllByRecursion (λ (o : Own). dot line o.vector ≡ pos 0) after
        → AreMoved is_line.column (owner_of p) (owners_of before ++ (owners_of after ++ others)) (owners_of (map (moved_by line p) before) ++ (owners_of after ++ map (moved_other is_line.column (owner_of p)) others))
    all-moved before after others h k z =
        moved-append is_line.column (owner_of p) (owners_of before) (owners_of after ++ others) (owners_of (map (moved_by line p) before)) (owners_of after ++ map (moved_other is_line.column (owner_of p)) others) (vectors-moved before h)
        (moved-append is_line.column (owner_of p) (owners_of after) others (owners_of after) (map (moved_other is_line.column (owner_of p)) others) (vectors-left after k z) (others-moved is_line.column (owner_of p) others column-seen))

    left-seen : (before after : List Own) (others : List Owner) → AreWide count (vectors_of before) → AreWide count (vectors_of after) → AllByRecursion (λ (o : Own). dot line o.vector ≡ pos 0) after → IsSeenBy constants (owners_of (before ++ p ∷ after) ++ others)
        → IsSeenBy constants (owners_of (map (moved_by line p) before ++ after) ++ given_up is_line.column (owner_of p) ∷ map (moved_other is_line.column (owner_of p)) others)
    left-seen before after others h k z s =
        seen-put constants (owners_of (map (moved_by line p) before ++ after)) (given_up is_line.column (owner_of p)) (map (moved_other is_line.column (owner_of p)) others)
        (subst (λ os. IsSeenBy constants (given_up is_line.column (owner_of p) ∷ os)) (owners-joined (map (moved_by line p) before) after (map (moved_other is_line.column (owner_of p)) others))
        (seen-cleared is_line.column constants (owner_of p) (owners_of before ++ (owners_of after ++ others)) (owners_of (map (moved_by line p) before) ++ (owners_of after ++ map (moved_other is_line.column (owner_of p)) others)) (all-moved before after others h k z)
        (seen-front constants (owners_of before) (owner_of p) (owners_of after ++ others) (subst (λ os. IsSeenBy constants os) (owners-split before p after others) s))))

    left-has : (before after : List Own) (others : List Owner) → AreWide count (vectors_of before) → AreWide count (vectors_of after) → AllByRecursion (λ (o : Own). dot line o.vector ≡ pos 0) after → HasBasis f (owners_of (before ++ p ∷ after) ++ others)
        → HasBasis f (owners_of (map (moved_by line p) before ++ after) ++ given_up is_line.column (owner_of p) ∷ map (moved_other is_line.column (owner_of p)) others)
    left-has before after others h k z has =
        record { chosen = cleared.chosen; basis = basis-put f (owners_of (map (moved_by line p) before ++ after)) (given_up is_line.column (owner_of p)) others_moved cleared.chosen (subst (λ os. IsBasis f (given_up is_line.column (owner_of p) ∷ os) cleared.chosen) (owners-joined (map (moved_by line p) before) after others_moved) cleared.basis) }
      where
        others_moved : List Owner
        others_moved = map (moved_other is_line.column (owner_of p)) others

        first : IsBasis f (owner_of p ∷ owners_of before ++ (owners_of after ++ others)) has.chosen
        first = basis-front f (owners_of before) (owner_of p) (owners_of after ++ others) has.chosen (subst (λ os. IsBasis f os has.chosen) (owners-split before p after others) has.basis)

        cleared : HasBasis f (given_up is_line.column (owner_of p) ∷ owners_of (map (moved_by line p) before) ++ (owners_of after ++ others_moved))
        cleared =
            column-cleared f (owner_of p) (owners_of before ++ (owners_of after ++ others)) (owners_of (map (moved_by line p) before) ++ (owners_of after ++ others_moved)) has.chosen is_line.column first is_line.within column-seen (all-moved before after others h k z)
            (each-append (λ (o : Owner). IsSolution f o.numbers) (owners_of (map (moved_by line p) before)) (owners_of after ++ others_moved) (vectors-solved (map (moved_by line p) before) (moved-wide before h))
            (each-append (λ (o : Owner). IsSolution f o.numbers) (owners_of after) others_moved (vectors-solved after k) (others-solved f is_line.column (owner_of p) others (reading.solved p.vector wide_pivot)
            (each-back (λ (o : Owner). IsSolution f o.numbers) (owners_of after) others (each-back (λ (o : Owner). IsSolution f o.numbers) (owners_of before) (owners_of after ++ others) first.solved.1)))))

  wide-parts : (before : List Own) (p : Own) (after : List Own) → AreWide count (vectors_of (before ++ p ∷ after)) → AreWide count (vectors_of before) × (length p.vector ≡ count) × AreWide count (vectors_of after)
  wide-parts [] p after h = (tt, h.0, h.1)
  wide-parts (o ∷ before) p after h = let more = wide-parts before p after h.1 in ((h.0, more.0), more.1, more.2)

  each-behind : (P : List ℤ → Type 0) (before : List Own) (p : Own) (after : List Own) → AllByRecursion P (vectors_of (before ++ p ∷ after)) → AllByRecursion P (vectors_of after)
  each-behind P [] p after h = h.1
  each-behind P (o ∷ before) p after h = each-behind P before p after h.1

  each-joined : (P : List ℤ → Type 0) (xs ys : List Own) → AllByRecursion P (vectors_of xs) → AllByRecursion P (vectors_of ys) → AllByRecursion P (vectors_of (xs ++ ys))
  each-joined P [] ys h k = k
  each-joined P (x ∷ xs) ys h k = (h.0, each-joined P xs ys h.1 k)

  -- what is left of a basis is one again
  basis-left : (line : List ℤ) (basis : List (List ℤ)) → IsLineOf line → IsFrameBasis basis → IsFrameBasis (remainder basis (clearing line basis))
  basis-left line basis is_line b = subst (λ vs. IsFrameBasis (remainder vs (clearing line vs))) b.are (⊎_elim kept given (clearing-of line b.vectors))
    where
      os : List Own
      os = b.vectors

      wide : AreWide count (vectors_of os)
      wide = subst (λ vs. AreWide count vs) (sym b.are) b.wide

      primitive : AllByRecursion IsPrimitive (vectors_of os)
      primitive = subst (λ vs. AllByRecursion IsPrimitive vs) (sym b.are) b.primitive

      kept : AreKept line os (clearing line (vectors_of os)) → IsFrameBasis (remainder (vectors_of os) (clearing line (vectors_of os)))
      kept k = subst (λ c. IsFrameBasis (remainder (vectors_of os) c)) (sym k.is) (record { vectors = os; are = refl; others = b.others; has = b.has; seen = b.seen; wide = wide; primitive = primitive })

      given : IsGivenUp line os (clearing line (vectors_of os)) → IsFrameBasis (remainder (vectors_of os) (clearing line (vectors_of os)))
      given g =
          let parts = wide-parts g.before g.pivot g.after (subst (λ ps. AreWide count (vectors_of ps)) g.all wide) in
          subst (λ c. IsFrameBasis (remainder (vectors_of os) c)) (sym g.is) (record {
            vectors = map (moved_by line g.pivot) g.before ++ g.after;
            are = refl;
            others = given_up is_line.column (owner_of g.pivot) ∷ map (moved_other is_line.column (owner_of g.pivot)) b.others;
            has = left-has line is_line g.pivot g.seen parts.1 g.before g.after b.others parts.0 parts.2 g.zero (subst (λ ps. HasBasis f (owners_of ps ++ b.others)) g.all b.has);
            seen = left-seen line is_line g.pivot g.seen parts.1 g.before g.after b.others parts.0 parts.2 g.zero (subst (λ ps. IsSeenBy constants (owners_of ps ++ b.others)) g.all b.seen);
            wide = each-joined (λ v. length v ≡ count) (map (moved_by line g.pivot) g.before) g.after (moved-wide line is_line g.pivot g.seen parts.1 g.before parts.0) parts.2;
            primitive = each-joined IsPrimitive (map (moved_by line g.pivot) g.before) g.after (moved-primitive line is_line g.pivot g.seen parts.1 g.before) (each-behind IsPrimitive g.before g.pivot g.after (subst (λ ps. AllByRecursion IsPrimitive (vectors_of ps)) g.all primitive));
          })

  -- ---- in 128 bits

  short : (n : ℕ) → n * n + n * n < 2 ^ 127 → n < 2 ^ 127
  short zero l = omega arith
  short (suc n) l = let up : suc n * 1 ≤ suc n * suc n = mul-le-mul_left (suc n) (omega arith) in omega (arith, l, up)

  module _ (calm : IsCalmUpTo most f) (dots : most * (count * most) < 2 ^ 127) (moves : most * most + most * most < 2 ^ 127) where
    -- numbers of a vector, and what a line has on it
    abbrev IsTame : List ℤ → List ℤ → Type 0
    IsTame line v = AreWithin most v × IsOkAnd (in_bits.dot line v) (IsWithin most)

    dot-tame : (line v : List ℤ) → AreWithin most line → length v ≡ count → AreWithin most v → IsMade (in_bits.dot line v)
    dot-tame line v h e k =
        let up : most * total v ≤ most * (count * most) = mul-le-mul_left most (subst (λ n. total v ≤ n * most) e (total-within most v k)) in
        IsOkAnd-more (IsWithin (most * total v)) (λ z. Unit {0}) (in_bits.dot line v) (λ z l. tt) (dot-makes most line v h (omega (arith, up, dots)))

    vector-within : (o : Own) → length o.vector ≡ count → IsBounded most f (owner_of o) → AreWithin most o.vector
    vector-within o e h = within-places most o.vector (λ i l. let there : i < count = omega (arith, l, e) in subst (λ z. unsigned_abs z ≤ most) ((reading.placed i there).entries o.vector e) (h (reading.placed i there).place (reading.placed i there).within))

    vector-tame : (line : List ℤ) → IsLineOf line → (o : Own) → length o.vector ≡ count → IsBounded most f (owner_of o) → IsTame line o.vector
    vector-tame line is_line o e h = (
      vector-within o e h,
      IsOkAnd-more (λ z. z ≡ dot line o.vector) (IsWithin most) (in_bits.dot line o.vector) (λ z s. subst (λ n. n ≤ most) (sym (is_line.same o.vector e) ∙ ap unsigned_abs (sym s)) (h is_line.column is_line.within))
          (made-exact (dot line o.vector) (in_bits.dot line o.vector) (dot-made line o.vector) (dot-tame line o.vector is_line.small e (vector-within o e h))),
    )

    bounded-of : (basis : List (List ℤ)) → (b : IsFrameBasis basis) → AllByRecursion (λ (o : Own). IsBounded most f (owner_of o)) b.vectors
    bounded-of basis b = vectors-bounded b.vectors b.others b.has calm (subst (λ vs. AreWide count vs) (sym b.are) b.wide) (subst (λ vs. AllByRecursion IsPrimitive vs) (sym b.are) b.primitive)

    -- what is so of each vector of a basis
    each-vector : (P : List ℤ → Type 0) (basis : List (List ℤ)) → IsFrameBasis basis → ((o : Own) → length o.vector ≡ count → IsBounded most f (owner_of o) → P o.vector) → AllByRecursion P basis
    each-vector P basis b tells = subst (λ vs. AllByRecursion P vs) b.are (each b.vectors (subst (λ vs. AreWide count vs) (sym b.are) b.wide) (bounded-of basis b))
      where
        each : (os : List Own) → AreWide count (vectors_of os) → AllByRecursion (λ (o : Own). IsBounded most f (owner_of o)) os → AllByRecursion P (vectors_of os)
        each [] h k = tt
        each (o ∷ os) h k = (tells o h.0 k.0, each os h.1 k.1)

    projection-tame : (line pivot v : List ℤ) → IsTame line pivot → IsTame line v → IsMade (in_bits.projection line pivot v)
    projection-tame line pivot v h k =
        IsOkAnd-bind (IsWithin most) (λ x. Unit {0}) (in_bits.dot line pivot) _ h.1 (λ its a.
        IsOkAnd-bind (IsWithin most) (λ x. Unit {0}) (in_bits.dot line v) _ k.1 (λ value b.
        IsOkAnd-bind (IsWithin most) (λ x. Unit {0}) (in_bits.magnitude its) _ (magnitude-makes its most a (short most moves)) (λ times c.
        IsOkAnd-bind (IsWithin most) (λ x. Unit {0}) (in_bits.opposite_along its value) _ (opposite_along-makes its value most b (short most moves)) (λ by d.
        IsOkAnd-bind (AreWithin (most * most + most * most)) (λ x. Unit {0}) (in_bits.combination times v by pivot) _ (combination_each-makes times by most most most most v pivot c d k.0 h.0 moves) (λ made e. tt)))))

    -- the vector that is given up is one of the basis
    abbrev HasTamePivot : List ℤ → Cleared → Type 0
    HasTamePivot line Kept = Unit {0}
    HasTamePivot line (Given pivot rest) = IsTame line pivot

    clearing-tame : (line : List ℤ) (vs : List (List ℤ)) → AllByRecursion (IsTame line) vs → IsOkAnd (in_bits.clearing line vs) (HasTamePivot line)
    clearing-tame line [] h = tt
    clearing-tame line (v ∷ vs) h = IsOkAnd-bind (HasTamePivot line) (HasTamePivot line) (in_bits.clearing line vs) (in_bits.clearing_with line v vs) (clearing-tame line vs h.1) go
      where
        test : (b : Bool) → HasTamePivot line (cond b Kept (Given v vs))
        test true = tt
        test false = h.0

        go : (c : Cleared) → HasTamePivot line c → IsOkAnd (in_bits.clearing_with line v vs c) (HasTamePivot line)
        go Kept k = IsOkAnd-bind (IsWithin most) (HasTamePivot line) (in_bits.dot line v) (λ value. Ok (cond (int_eq value (pos 0)) Kept (Given v vs))) h.0.1 (λ value e. test (int_eq value (pos 0)))
        go (Given pivot rest) k = IsOkAnd-bind (λ x. Unit {0}) (HasTamePivot line) (in_bits.projection line pivot v) (λ made. Ok (Given pivot (made ∷ rest))) (projection-tame line pivot v k h.0) (λ made e. k)

    frame-clears : (line : List ℤ) (basis : List (List ℤ)) → IsLineOf line → IsFrameBasis basis → IsOkAnd (in_bits.clearing line basis) (λ c. IsFrameBasis (remainder basis c))
    frame-clears line basis is_line b =
        IsOkAnd-more (λ c. c ≡ clearing line basis) (λ c. IsFrameBasis (remainder basis c)) (in_bits.clearing line basis) (λ c e. subst (λ d. IsFrameBasis (remainder basis d)) (sym e) (basis-left line basis is_line b))
        (made-exact (clearing line basis) (in_bits.clearing line basis) (clearing-made line basis) (IsOkAnd-more (HasTamePivot line) (λ c. Unit {0}) (in_bits.clearing line basis) (λ c k. tt) (clearing-tame line basis (each-vector (IsTame line) basis b (λ o e h. vector-tame line is_line o e h)))))

    -- a vector that is the last one left, or its opposite
    pub record IsFoundInFrame (w : List ℤ) : Type 0 where
      pub vector : List ℤ
      pub basis : IsFrameBasis (vector ∷ [])
      pub is : (w ≡ vector) ⊎ (w ≡ opposite vector)

    opposite-within : (v : List ℤ) → AreWithin most v → AreWithin most (opposite v)
    opposite-within v h = each-map (IsWithin most) (IsWithin most) neg_ℤ (λ z k. turned z k) v h
      where
        turned : (z : ℤ) → IsWithin most z → IsWithin most (neg_ℤ z)
        turned z k = omega (arith, ints, k)

    pub found-within : (w : List ℤ) → IsFoundInFrame w → (length w ≡ count) × AreWithin most w
    found-within w h = ⊎_elim (λ e. subst (λ v. (length v ≡ count) × AreWithin most v) (sym e) (h.basis.wide.0, own_within)) (λ e. subst (λ v. (length v ≡ count) × AreWithin most v) (sym e) (map-length neg_ℤ h.vector ∙ h.basis.wide.0, opposite-within h.vector own_within)) h.is
      where
        own_within : AreWithin most h.vector
        own_within = (each-vector (AreWithin most) (h.vector ∷ []) h.basis vector-within).0

    opposite-found : (w : List ℤ) → IsFrameBasis (w ∷ []) → IsOkAnd (in_bits.opposite w) IsFoundInFrame
    opposite-found w b =
        IsOkAnd-more (λ u. u ≡ opposite w) IsFoundInFrame (in_bits.opposite w) (λ u e. record { vector = w; basis = b; is = inr e })
        (made-exact (opposite w) (in_bits.opposite w) (opposite-made w) (IsOkAnd-more (AreWithin most) (λ u. Unit {0}) (in_bits.opposite w) (λ u e. tt) (opposite-makes w most (each-vector (AreWithin most) (w ∷ []) b vector-within).0 (short most moves))))

    -- the search keeps to vectors that own columns of the frame
    pub frame-is_kept : IsKept IsLineOf IsFrameBasis IsFoundInFrame
    frame-is_kept = record {
      clears = frame-clears;
      sees = λ basis b. each-vector (IsSeen IsLineOf) basis b (λ o e h line k. dot-tame line o.vector k.small e (vector-within o e h));
      turns = λ basis b. each-vector (λ v. IsMade (in_bits.opposite v)) basis b (λ o e h. IsOkAnd-more (AreWithin most) (λ u. Unit {0}) (in_bits.opposite o.vector) (λ u k. tt) (opposite-makes o.vector most (vector-within o e h) (short most moves)));
      ends = λ w b. (record { vector = w; basis = b; is = inl refl }, opposite-found w b);
      finds = λ w h line k. dot-tame line w k.small (found-within w h).0 (found-within w h).1;
    }

    -- a vector that owns a column, with others; one of them has a number at the constants
    pub record IsOwning (v : List ℤ) : Type 0 where
      pub column : ℕ
      pub others : List Owner
      pub chosen : List ℕ
      pub basis : IsBasis f (record { column = column; numbers = λ c. dot (lines c) v } ∷ others) chosen
      pub seen : IsSeenBy constants (record { column = column; numbers = λ c. dot (lines c) v } ∷ others)
      pub wide : length v ≡ count
      pub within : AreWithin most v

    owning-behind : (before rest : List Own) (others : List Owner) (chosen : List ℕ) → IsBasis f (owners_of (before ++ rest) ++ others) chosen → IsSeenBy constants (owners_of (before ++ rest) ++ others) → AreWide count (vectors_of rest) → AllByRecursion (AreWithin most) (vectors_of rest) → AllByRecursion IsOwning (vectors_of rest)
    owning-behind before [] others chosen b s w h = tt
    owning-behind before (o ∷ rest) others chosen b s w h = (
      record {
        column = o.column;
        others = owners_of before ++ (owners_of rest ++ others);
        chosen = chosen;
        basis = basis-front f (owners_of before) (owner_of o) (owners_of rest ++ others) chosen (subst (λ os. IsBasis f os chosen) (owners-split before o rest others) b);
        seen = seen-front constants (owners_of before) (owner_of o) (owners_of rest ++ others) (subst (λ os. IsSeenBy constants os) (owners-split before o rest others) s);
        wide = w.0;
        within = h.0;
      },
      owning-behind (before ++ o ∷ []) rest others chosen (subst (λ os. IsBasis f (owners_of os ++ others) chosen) (sym (append_assoc before (o ∷ []) rest)) b) (subst (λ os. IsSeenBy constants (owners_of os ++ others)) (sym (append_assoc before (o ∷ []) rest)) s) w.1 h.1,
    )

    pub basis-owning : (basis : List (List ℤ)) → IsFrameBasis basis → AllByRecursion IsOwning basis
    basis-owning basis b =
        subst (λ vs. AllByRecursion IsOwning vs) b.are
        (owning-behind [] b.vectors b.others b.has.chosen b.has.basis b.seen (subst (λ vs. AreWide count vs) (sym b.are) b.wide) (subst (λ vs. AllByRecursion (AreWithin most) vs) (sym b.are) (each-vector (AreWithin most) basis b vector-within)))
