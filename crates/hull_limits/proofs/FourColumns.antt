-- The search over lines of at most four numbers, none of them greater than 2^20, never leaves 128
-- bits. A unit that is moved once has at most two numbers of the line; one that is moved twice has
-- minors of two lines; from there the steps alone bound what a third line makes, and a fourth is
-- only put on it.
use Rattle.std.proofs.Common.{◌≡◌, ◌≢◌, ℕ, zero, suc, ◌+◌, ◌*◌, ◌^◌, ◌<◌, ◌≤◌, Bool, true, false, cond, refl, sym, subst, ◌∙◌, arith, List, [], ◌∷◌, length, ℤ, pos, ◌+ℤ◌, ◌*ℤ◌}
use Rattle.std.specs.Prelude.{IsOkAnd, Ok, Err, neg_ℤ, unsigned_abs}
use Rattle.std.specs.List.{AllByRecursion}
use Rattle.std.specs.Ordering.{int_eq}
use Rattle.std.proofs.lemmas.Bool.{false≢true}
use Rattle.std.proofs.lemmas.Bool.Decides.{Decides-int_eq}
use Rattle.std.proofs.lemmas.Int.{ints}
use Rattle.std.proofs.Math.Nat.{mul-le-mul_left}
use Rattle.items.proofs.Each.{each-both, each-more}
use Rattle.whole_numbers.specs.Dot.{dot}
use Rattle.cones.specs.Cones.{along_sign, clearing, clearing_with, projection}
use Rattle.cones.specs.InBits as steps
use Rattle.cones.specs.Split.{remainder}
use Rattle.cones.specs.Vectors.{combination}
use Rattle.cones.specs.declared.projecting.Cleared.{Cleared}
use Rattle.cones.specs.declared.projecting.Cleared.TheVariants.{Kept, Given}
use Rattle.cones.specs.declared.point.Point.{Point}
use Rattle.cones.proofs.Bits.{clearing-made}
use Rattle.cones.proofs.Clears.{projection-is}
use Rattle.cones.proofs.Numbers.{above_not_zero}
use Rattle.cones.proofs.Primitive.{lowest-primitive}
use Rattle.facet_hull.specs.InBits as in_bits
use Rattle.hull_limits.proofs.ConeImages.{normals_at-make}
use Rattle.hull_limits.proofs.Growth.{HasGrown, HaveTotalsUpTo, clearing-grows, totals-more, units-count, units-total, units-within}
use Rattle.hull_limits.proofs.KeptSearch.{IsKept, IsSeen}
use Rattle.hull_limits.proofs.MadeSteps.{IsMade, IsOkAnd-more}
use Rattle.hull_limits.proofs.Magnitudes.{IsWithin, AreWithin, total, dot-makes, moved_total, opposite_total-makes}
use Rattle.hull_limits.proofs.Minors.{IsMovedUnit, twice_moved-total}

-- ---- one line made 0

-- What clearing leaves of a basis: a vector that is given up, on which the line is not 0, and others
-- of which something is so; or all, where the line is 0 on each.
abbrev HasLeft : (Own : List ℤ → Type 0) (Left : List ℤ → List ℤ → Type 0) → List ℤ → List (List ℤ) → Cleared → Type 0
HasLeft Own Left line basis Kept = AllByRecursion (λ v. dot line v ≡ pos 0) basis
HasLeft Own Left line basis (Given pivot rest) = Own pivot × (dot line pivot ≢ pos 0) × AllByRecursion (Left pivot) rest

-- What is so of each vector of a basis makes something else so of those that are left: of those that
-- are moved along the pivot, and of those behind it, on which the line is 0.
record IsLeft (Own : List ℤ → Type 0) (Left : List ℤ → List ℤ → Type 0) (line : List ℤ) : Type 0 where
  moves : (pivot v : List ℤ) → Own pivot → dot line pivot ≢ pos 0 → Own v → Left pivot (projection line pivot v)
  stays : (pivot v : List ℤ) → Own pivot → dot line pivot ≢ pos 0 → Own v → dot line v ≡ pos 0 → Left pivot v

clearing-leaves : (Own : List ℤ → Type 0) (Left : List ℤ → List ℤ → Type 0) (line : List ℤ) (basis : List (List ℤ)) → IsLeft Own Left line → AllByRecursion Own basis → HasLeft Own Left line basis (clearing line basis)
clearing-leaves Own Left line [] h k = tt
clearing-leaves Own Left line (v ∷ vs) h k = go (clearing line vs) (clearing-leaves Own Left line vs h k.1)
  where
    test : (b : Bool) → int_eq (dot line v) (pos 0) ≡ b → AllByRecursion (λ u. dot line u ≡ pos 0) vs → HasLeft Own Left line (v ∷ vs) (cond b Kept (Given v vs))
    test true e z = ((Decides-int_eq (dot line v) (pos 0)).0 e, z)
    test false e z =
        let seen : dot line v ≢ pos 0 = λ q. false≢true (sym e ∙ (Decides-int_eq (dot line v) (pos 0)).1 q) in
        (k.0, seen, each-more (λ u. Own u × (dot line u ≡ pos 0)) (Left v) (λ u both. h.stays v u k.0 seen both.0 both.1) vs (each-both Own (λ u. dot line u ≡ pos 0) vs k.1 z))

    go : (c : Cleared) → HasLeft Own Left line vs c → HasLeft Own Left line (v ∷ vs) (clearing_with line v vs c)
    go Kept z = test (int_eq (dot line v) (pos 0)) refl z
    go (Given pivot rest) z = (z.0, z.1, (h.moves pivot v z.0 z.1 k.0, z.2))

-- ---- units that are moved

unit-moves : (line : List ℤ) → IsLeft (λ v. total v ≤ 1) (IsMovedUnit line) line
unit-moves line = record {
  moves = λ pivot v h seen k. record { unit = v; small = k; moved = projection-is line pivot v seen };
  stays = λ pivot v h seen k z. record {
    unit = v;
    small = k;
    moved = record {
      factor = pos 1;
      positive = omega (arith, ints);
      own = pos 1;
      some = above_not_zero (pos 1) (omega (arith, ints));
      by = pos 0;
      is = λ l. same (dot l v) (dot l pivot);
      zero_there = z;
    };
  };
}
  where
    same : (x y : ℤ) → pos 1 *ℤ x ≡ pos 1 *ℤ x +ℤ pos 0 *ℤ y
    same x y = omega (arith, ints)

-- ---- how great vectors are, by the number of those that were given up

abbrev limit_of : ℕ → ℕ → ℕ
limit_of most zero = 1
limit_of most (suc zero) = moved_total most 1
limit_of most (suc (suc zero)) = 6 * (most * most)
limit_of most (suc (suc (suc given))) = moved_total most (6 * (most * most))

-- so great a number is enough for steps on these vectors, where two are left of at most four
record IsEnough (most top : ℕ) : Type 0 where
  some : 1 ≤ most
  lines : (given : ℕ) → given ≤ 3 → most * limit_of most given < 2 ^ 127
  moves : (given : ℕ) → given ≤ 2 → moved_total most (limit_of most given) < 2 ^ 127
  rises : (given : ℕ) → given ≤ 3 → limit_of most given ≤ moved_total most (limit_of most given)
  twice : moved_total most 1 ≤ 6 * (most * most)
  tops : (given : ℕ) → given ≤ 3 → limit_of most given ≤ top
  fits : most * top < 2 ^ 127
  top_fits : top < 2 ^ 127

-- the vectors are units that were moved along one pivot to where a line is 0
record AreMovedUnits (most : ℕ) (basis : List (List ℤ)) : Type 0 where
  line : List ℤ
  within : AreWithin most line
  pivot : List ℤ
  small : total pivot ≤ 1
  seen : dot line pivot ≢ pos 0
  moved : AllByRecursion (IsMovedUnit line pivot) basis

-- what is known of them by how many were given up, beside how great they are
abbrev AreFormed : ℕ → ℕ → List (List ℤ) → Type 0
AreFormed most zero basis = Unit {0}
AreFormed most (suc zero) basis = AreMovedUnits most basis
AreFormed most (suc (suc given)) basis = Unit {0}

-- at most four vectors are left and given up
record IsFew (most : ℕ) (basis : List (List ℤ)) : Type 0 where
  given : ℕ
  few : length basis + given ≤ 4
  small : HaveTotalsUpTo (limit_of most given) basis
  formed : AreFormed most given basis

module _ (most top : ℕ) (enough : IsEnough most top) where
  -- what clearing makes, exactly, and how great it is
  clears : (line : List ℤ) (basis : List (List ℤ)) (given : ℕ) → AreWithin most line → 1 ≤ length basis → length basis + given ≤ 4 → HaveTotalsUpTo (limit_of most given) basis
      → IsOkAnd (steps.clearing line basis) (λ c. HasGrown (limit_of most given) (moved_total most (limit_of most given)) basis c × (c ≡ clearing line basis))
  clears line basis given h one few small =
      exact (steps.clearing line basis) (clearing-made line basis) (clearing-grows most (limit_of most given) line basis h small (enough.rises given (omega (arith, one, few))) (enough.lines given (omega (arith, one, few))) (λ two. enough.moves given (omega (arith, two, few))))
    where
      exact : (r : steps.Made Cleared) → steps.IsOrLeaves (clearing line basis) r → IsOkAnd r (HasGrown (limit_of most given) (moved_total most (limit_of most given)) basis) → IsOkAnd r (λ c. HasGrown (limit_of most given) (moved_total most (limit_of most given)) basis c × (c ≡ clearing line basis))
      exact (Ok c) e g = (g, e)
      exact (Err step) e g = absurd g

  -- a unit that was moved once, and is moved once more
  twice : (line : List ℤ) (first pivot : List ℤ) → AreWithin most line → AreWithin most first → total pivot ≤ 1 → dot first pivot ≢ pos 0
      → IsLeft (λ v. (total v ≤ moved_total most 1) × IsMovedUnit first pivot v) (λ u v. total v ≤ 6 * (most * most)) line
  twice line first pivot h k small seen = record {
    moves = λ u v own seen_second other. twice_moved-total most first line pivot v u (projection line u v) k h small seen other.1 own.1 seen_second (projection-is line u v seen_second)
        (lowest-primitive (combination (pos (unsigned_abs (dot line u))) v (along_sign (dot line u) (neg_ℤ (dot line v))) u));
    stays = λ u v own seen_second other z. let up = enough.twice in omega (arith, other.0, up);
  }

  few-clears : (line : List ℤ) (basis : List (List ℤ)) → AreWithin most line → IsFew most basis → IsOkAnd (steps.clearing line basis) (λ c. IsFew most (remainder basis c))
  few-clears line [] h g = g
  few-clears line (v ∷ vs) h g =
      IsOkAnd-more (λ c. HasGrown (limit_of most g.given) (moved_total most (limit_of most g.given)) (v ∷ vs) c × (c ≡ clearing line (v ∷ vs))) (λ c. IsFew most (remainder (v ∷ vs) c)) (steps.clearing line (v ∷ vs)) (λ c k. go g.given g.few g.small g.formed c k.0 k.1)
      (clears line (v ∷ vs) g.given h (omega arith) g.few g.small)
    where
      go : (given : ℕ) → length (v ∷ vs) + given ≤ 4 → HaveTotalsUpTo (limit_of most given) (v ∷ vs) → AreFormed most given (v ∷ vs)
          → (c : Cleared) → HasGrown (limit_of most given) (moved_total most (limit_of most given)) (v ∷ vs) c → c ≡ clearing line (v ∷ vs) → IsFew most (remainder (v ∷ vs) c)
      go given few small formed Kept k e = g
      go zero few small formed (Given pivot rest) k e =
          let left : HasLeft (λ u. total u ≤ 1) (IsMovedUnit line) line (v ∷ vs) (Given pivot rest) = subst (HasLeft (λ u. total u ≤ 1) (IsMovedUnit line) line (v ∷ vs)) (sym e) (clearing-leaves (λ u. total u ≤ 1) (IsMovedUnit line) line (v ∷ vs) (unit-moves line) small) in
          record { given = 1; few = omega (arith, few, k.2); small = k.1; formed = record { line = line; within = h; pivot = pivot; small = left.0; seen = left.1; moved = left.2 } }
      go (suc zero) few small formed (Given pivot rest) k e =
          record { given = 2; few = omega (arith, few, k.2); small = (moved formed).2; formed = tt }
        where
          moved : (f : AreMovedUnits most (v ∷ vs)) → HasLeft (λ u. (total u ≤ moved_total most 1) × IsMovedUnit f.line f.pivot u) (λ p u. total u ≤ 6 * (most * most)) line (v ∷ vs) (Given pivot rest)
          moved f =
              subst (HasLeft (λ u. (total u ≤ moved_total most 1) × IsMovedUnit f.line f.pivot u) (λ p u. total u ≤ 6 * (most * most)) line (v ∷ vs)) (sym e)
              (clearing-leaves (λ u. (total u ≤ moved_total most 1) × IsMovedUnit f.line f.pivot u) (λ p u. total u ≤ 6 * (most * most)) line (v ∷ vs) (twice line f.line f.pivot h f.within f.small f.seen) (each-both (λ u. total u ≤ moved_total most 1) (IsMovedUnit f.line f.pivot) (v ∷ vs) small f.moved))
      go (suc (suc zero)) few small formed (Given pivot rest) k e = record { given = 3; few = omega (arith, few, k.2); small = k.1; formed = tt }
      go (suc (suc (suc given))) few small formed (Given pivot []) k e = record { given = suc (suc (suc (suc given))); few = omega (arith, few, k.2); small = tt; formed = tt }
      go (suc (suc (suc given))) few small formed (Given pivot (u ∷ us)) k e = absurd (omega (arith, few, k.2))

  few-tops : (basis : List (List ℤ)) → IsFew most basis → HaveTotalsUpTo top basis
  few-tops [] g = tt
  few-tops (v ∷ vs) g = totals-more (limit_of most g.given) top (v ∷ vs) (enough.tops g.given (omega (arith, g.few))) g.small

  few-sees : (w : List ℤ) → total w ≤ top → IsSeen (AreWithin most) w
  few-sees w h line k =
      let up : most * total w ≤ most * top = mul-le-mul_left most h in
      IsOkAnd-more (IsWithin (most * total w)) (λ z. Unit {0}) (steps.dot line w) (λ z e. tt) (dot-makes most line w k (omega (arith, up, enough.fits)))

  few-is_kept : IsKept (AreWithin most) (IsFew most) (λ w. total w ≤ top)
  few-is_kept = record {
    clears = few-clears;
    sees = λ basis g. each-more (λ v. total v ≤ top) (IsSeen (AreWithin most)) (λ v h. few-sees v h) basis (few-tops basis g);
    turns = λ basis g. each-more (λ v. total v ≤ top) (λ v. IsMade (steps.opposite v)) (λ v h. IsOkAnd-more (λ w. total w ≤ top) (λ w. Unit {0}) (steps.opposite v) (λ w e. tt) (opposite_total-makes v top h enough.top_fits)) basis (few-tops basis g);
    ends = λ w g. ((few-tops (w ∷ []) g).0, opposite_total-makes w top (few-tops (w ∷ []) g).0 enough.top_fits);
    finds = few-sees;
  }

-- ---- the normals

-- no number of a direction is greater
abbrev pub most_direction : ℕ
most_direction = 1048576

abbrev top_normal : ℕ
top_normal = limit_of most_direction 3

directions-enough : IsEnough most_direction top_normal
directions-enough = record {
  some = omega arith;
  lines = lines;
  moves = moves;
  rises = rises;
  twice = omega arith;
  tops = tops;
  fits = omega arith;
  top_fits = omega arith;
}
  where
    lines : (given : ℕ) → given ≤ 3 → most_direction * limit_of most_direction given < 2 ^ 127
    lines zero h = omega arith
    lines (suc zero) h = omega arith
    lines (suc (suc zero)) h = omega arith
    lines (suc (suc (suc given))) h = omega arith

    moves : (given : ℕ) → given ≤ 2 → moved_total most_direction (limit_of most_direction given) < 2 ^ 127
    moves zero h = omega arith
    moves (suc zero) h = omega arith
    moves (suc (suc zero)) h = omega arith
    moves (suc (suc (suc given))) h = absurd (omega (arith, h))

    rises : (given : ℕ) → given ≤ 3 → limit_of most_direction given ≤ moved_total most_direction (limit_of most_direction given)
    rises zero h = omega arith
    rises (suc zero) h = omega arith
    rises (suc (suc zero)) h = omega arith
    rises (suc (suc (suc given))) h = omega arith

    tops : (given : ℕ) → given ≤ 3 → limit_of most_direction given ≤ top_normal
    tops zero h = omega arith
    tops (suc zero) h = omega arith
    tops (suc (suc zero)) h = omega arith
    tops (suc (suc (suc given))) h = omega arith

-- The normals of points and rays in at most four columns are made, where each number of a direction
-- from one of the points is at most so great.
pub normals_at-fits : (count : ℕ) (points : List Point) (rays : List (List ℤ)) → count ≤ 4 → AllByRecursion (λ p. IsOkAnd (steps.directions points rays p) (AllByRecursion (AreWithin most_direction))) points
    → IsMade (in_bits.normals_at count points rays)
normals_at-fits count points rays few h =
    normals_at-make (AreWithin most_direction) (IsFew most_direction) (λ w. total w ≤ top_normal) (few-is_kept most_direction top_normal directions-enough) count points rays
    (units-within most_direction count (omega arith)) (record { given = 0; few = omega (arith, units-count count, few); small = units-total count; formed = tt }) h
