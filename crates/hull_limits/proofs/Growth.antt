-- How great the vectors of the search grow at most, by the number of those that were given up alone.
use Rattle.std.proofs.Common.{◌≡◌, ℕ, zero, suc, ◌+◌, ◌*◌, ◌^◌, ◌<◌, ◌≤◌, Bool, true, false, cond, refl, arith, List, [], ◌∷◌, map, length, ℤ, pos}
use Rattle.std.specs.Prelude.{IsOkAnd, Ok}
use Rattle.std.specs.List.{AllByRecursion}
use Rattle.std.specs.Ordering.{int_eq}
use Rattle.std.proofs.lemmas.Nat.{mul-le}
use Rattle.std.proofs.Math.Nat.{mul-le-mul_left, one-le-mul}
use Rattle.items.proofs.Each.{each-more, each-map}
use Rattle.cones.specs.declared.projecting.Cleared.{Cleared}
use Rattle.cones.specs.declared.projecting.Cleared.TheVariants.{Kept, Given}
use Rattle.cones.specs.InBits as in_bits
use Rattle.cones.specs.Split.{units, zeros, remainder}
use Rattle.hull_limits.proofs.Magnitudes.{IsWithin, AreWithin, total, dot-makes, opposite_total-makes, projection-makes, moved_total}
use Rattle.hull_limits.proofs.MadeSteps.{IsMade, IsOkAnd-bind, IsOkAnd-more}
use Rattle.hull_limits.proofs.KeptSearch.{IsKept, IsSeen}

-- vectors of at most so great a total each
abbrev pub HaveTotalsUpTo : ℕ → List (List ℤ) → Type 0
HaveTotalsUpTo n vs = AllByRecursion (λ v. total v ≤ n) vs

pub totals-more : (m n : ℕ) (vs : List (List ℤ)) → m ≤ n → HaveTotalsUpTo m vs → HaveTotalsUpTo n vs
totals-more m n vs h k = each-more (λ v. total v ≤ m) (λ v. total v ≤ n) (λ v e. omega (arith, e, h)) vs k

-- ---- one line made 0

-- one vector is given up, and the others grow at most so much; of what is kept nothing is asked
abbrev pub HasGrown : ℕ → ℕ → List (List ℤ) → Cleared → Type 0
HasGrown n m basis Kept = Unit {0}
HasGrown n m basis (Given pivot rest) = (total pivot ≤ n) × HaveTotalsUpTo m rest × (length rest + 1 ≡ length basis)

pub clearing-grows : (most n : ℕ) (line : List ℤ) (basis : List (List ℤ)) → AreWithin most line → HaveTotalsUpTo n basis → n ≤ moved_total most n → most * n < 2 ^ 127 → (2 ≤ length basis → moved_total most n < 2 ^ 127) → IsOkAnd (in_bits.clearing line basis) (HasGrown n (moved_total most n) basis)
clearing-grows most n line [] h b r l k = tt
clearing-grows most n line (v ∷ vs) h b r l k =
    IsOkAnd-bind (HasGrown n (moved_total most n) vs) (HasGrown n (moved_total most n) (v ∷ vs)) (in_bits.clearing line vs) (in_bits.clearing_with line v vs) (clearing-grows most n line vs h b.1 r l (λ e. k (omega (arith, e)))) go
  where
    up : most * total v ≤ most * n
    up = mul-le-mul_left most b.0

    test : (s : Bool) → HasGrown n (moved_total most n) (v ∷ vs) (cond s Kept (Given v vs))
    test true = tt
    test false = (b.0, totals-more n (moved_total most n) vs r b.1, omega arith)

    go : (c : Cleared) → HasGrown n (moved_total most n) vs c → IsOkAnd (in_bits.clearing_with line v vs c) (HasGrown n (moved_total most n) (v ∷ vs))
    go Kept g = IsOkAnd-bind (IsWithin (most * total v)) (HasGrown n (moved_total most n) (v ∷ vs)) (in_bits.dot line v) (λ value. Ok (cond (int_eq value (pos 0)) Kept (Given v vs))) (dot-makes most line v h (omega (arith, up, l))) (λ value e. test (int_eq value (pos 0)))
    go (Given pivot rest) g =
        IsOkAnd-bind (λ w. total w ≤ moved_total most n) (HasGrown n (moved_total most n) (v ∷ vs)) (in_bits.projection line pivot v) (λ made. Ok (Given pivot (made ∷ rest)))
        (projection-makes most n line pivot v h g.0 b.0 l (k (omega (arith, g.2)))) (λ made e. (g.0, (e, g.1), omega (arith, g.2)))

-- ---- one after another

-- the totals of the units, and of what is left of them where so many are given up
abbrev pub growth : ℕ → ℕ → ℕ
growth most zero = 1
growth most (suc given) = moved_total most (growth most given)

growth-positive : (most given : ℕ) → 1 ≤ most → 1 ≤ growth most given
growth-positive most zero h = omega arith
growth-positive most (suc given) h =
    let own : 1 ≤ growth most given = growth-positive most given h in
    omega (arith, one-le-mul (one-le-mul h own) own)

growth-rises : (most given : ℕ) → 1 ≤ most → growth most given ≤ moved_total most (growth most given)
growth-rises most given h =
    let up : 1 * growth most given ≤ most * growth most given * growth most given = mul-le 1 (growth most given) (most * growth most given) (growth most given) (one-le-mul h (growth-positive most given h)) (omega arith) in
    omega (arith, up)

-- at most so many vectors are left and given up, and those that are left have grown at most so much
pub record HaveGrown (most count : ℕ) (basis : List (List ℤ)) : Type 0 where
  pub given : ℕ
  pub few : length basis + given ≤ count
  pub small : HaveTotalsUpTo (growth most given) basis

-- so great a number is enough for lines of such numbers and so many vectors, and 128 bits are for both
pub record IsEnough (most count top : ℕ) : Type 0 where
  pub some : 1 ≤ most
  pub tops : (given : ℕ) → given < count → growth most given ≤ top
  pub fits : most * top < 2 ^ 127

module _ (most count top : ℕ) (enough : IsEnough most count top) where
  top-fits : top < 2 ^ 127
  top-fits =
      let up : 1 * top ≤ most * top = mul-le 1 top most top enough.some (omega arith) in
      omega (arith, up, enough.fits)

  lined-fits : (n : ℕ) → n ≤ top → most * n < 2 ^ 127
  lined-fits n h =
      let up : most * n ≤ most * top = mul-le-mul_left most h in
      omega (arith, up, enough.fits)

  grown-clears : (line : List ℤ) (basis : List (List ℤ)) → AreWithin most line → HaveGrown most count basis → IsOkAnd (in_bits.clearing line basis) (λ c. HaveGrown most count (remainder basis c))
  grown-clears line [] h g = g
  grown-clears line (v ∷ vs) h g =
      IsOkAnd-more (HasGrown (growth most g.given) (growth most (suc g.given)) (v ∷ vs)) (λ c. HaveGrown most count (remainder (v ∷ vs) c)) (in_bits.clearing line (v ∷ vs)) go
      (clearing-grows most (growth most g.given) line (v ∷ vs) h g.small (growth-rises most g.given enough.some) (lined-fits (growth most g.given) (enough.tops g.given (omega (arith, g.few)))) next)
    where
      next : 2 ≤ length (v ∷ vs) → moved_total most (growth most g.given) < 2 ^ 127
      next e = let up : growth most (suc g.given) ≤ top = enough.tops (suc g.given) (omega (arith, g.few, e)) in omega (arith, up, top-fits)

      go : (c : Cleared) → HasGrown (growth most g.given) (growth most (suc g.given)) (v ∷ vs) c → HaveGrown most count (remainder (v ∷ vs) c)
      go Kept k = g
      go (Given pivot rest) k = record { given = suc g.given; few = omega (arith, g.few, k.2); small = k.1 }

  grown-sees : (w : List ℤ) → total w ≤ top → IsSeen (AreWithin most) w
  grown-sees w h line k = IsOkAnd-more (IsWithin (most * total w)) (λ z. Unit {0}) (in_bits.dot line w) (λ z e. tt) (dot-makes most line w k (lined-fits (total w) h))

  -- none of the vectors has grown beyond
  pub grown-tops : (basis : List (List ℤ)) → HaveGrown most count basis → HaveTotalsUpTo top basis
  grown-tops [] g = tt
  grown-tops (v ∷ vs) g = totals-more (growth most g.given) top (v ∷ vs) (enough.tops g.given (omega (arith, g.few))) g.small

  pub growth-is_kept : IsKept (AreWithin most) (HaveGrown most count) (λ w. total w ≤ top)
  growth-is_kept = record {
    clears = grown-clears;
    sees = λ basis g. each-more (λ v. total v ≤ top) (IsSeen (AreWithin most)) (λ v h. grown-sees v h) basis (grown-tops basis g);
    turns = λ basis g. each-more (λ v. total v ≤ top) (λ v. IsMade (in_bits.opposite v)) (λ v h. IsOkAnd-more (λ w. total w ≤ top) (λ w. Unit {0}) (in_bits.opposite v) (λ w e. tt) (opposite_total-makes v top h top-fits)) basis (grown-tops basis g);
    ends = λ w g. ((grown-tops (w ∷ []) g).0, opposite_total-makes w top (grown-tops (w ∷ []) g).0 top-fits);
    finds = grown-sees;
  }

-- ---- units

zeros-total : (n : ℕ) → total (zeros n) ≡ 0
zeros-total zero = refl
zeros-total (suc n) = omega (arith, zeros-total n)

pub units-total : (n : ℕ) → HaveTotalsUpTo 1 (units n)
units-total zero = tt
units-total (suc n) = (omega (arith, zeros-total n), each-map (λ v. total v ≤ 1) (λ v. total v ≤ 1) (λ v. pos 0 ∷ v) (λ v e. omega (arith, e)) (units n) (units-total n))

pub units-count : (n : ℕ) → length (units n) ≡ n
units-count zero = refl
units-count (suc n) = omega (arith, map-count (units n), units-count n)
  where
    map-count : (vs : List (List ℤ)) → length (map (λ v. pos 0 ∷ v) vs) ≡ length vs
    map-count [] = refl
    map-count (v ∷ vs) = omega (arith, map-count vs)

pub zeros-within : (most n : ℕ) → AreWithin most (zeros n)
zeros-within most zero = tt
zeros-within most (suc n) = (omega arith, zeros-within most n)

pub units-within : (most n : ℕ) → 1 ≤ most → AllByRecursion (AreWithin most) (units n)
units-within most zero h = tt
units-within most (suc n) h = ((omega (arith, h), zeros-within most n), each-map (AreWithin most) (AreWithin most) (λ v. pos 0 ∷ v) (λ v e. (omega arith, e)) (units n) (units-within most n h))

pub units-grown : (most count n : ℕ) → n ≤ count → HaveGrown most count (units n)
units-grown most count n h = record { given = 0; few = omega (arith, units-count n, h); small = units-total n }
