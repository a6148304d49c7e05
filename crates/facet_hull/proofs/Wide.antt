-- How many numbers the vectors have that the search finds.
use Rattle.std.proofs.Common.{◌≡◌, ℕ, suc, Bool, true, false, cond, refl, ap, ◌∙◌, List, [], ◌∷◌, length, ℤ}
use Rattle.items.proofs.Each.{each-append}
use Rattle.cones.specs.declared.projecting.Cleared.{Cleared}
use Rattle.cones.specs.declared.projecting.Cleared.TheVariants.{Kept, Given}
use Rattle.cones.specs.Cones.{clearing, are_at_most, ends, at_end, extremes_at_zero, extremes, AreWide, IsWide}
use Rattle.cones.specs.Vectors.{opposite}
use Rattle.cones.specs.Split.{clearing_by_all, remainder, units, flat, rest_basis, pivots}
use Rattle.cones.proofs.Units.{units-wide, remainder-wide}
use Rattle.cones.proofs.Widths.{clearing-wide}

pub opposite-length : (v : List ℤ) → length (opposite v) ≡ length v
opposite-length [] = refl
opposite-length (x ∷ v) = ap (λ (n : ℕ). suc n) (opposite-length v)

ends-wide : (count : ℕ) (lines : List (List ℤ)) (w : List ℤ) → length w ≡ count → AreWide count (ends lines w)
ends-wide count lines w e = go (are_at_most lines w) (are_at_most lines (opposite w))
  where
    go : (s t : Bool) → AreWide count (cond s (w ∷ []) (cond t (opposite w ∷ []) []))
    go true t = (e, tt)
    go false true = (opposite-length w ∙ e, tt)
    go false false = tt

at_end-wide : (count : ℕ) (lines basis : List (List ℤ)) → AreWide count basis → AreWide count (at_end lines basis)
at_end-wide count lines [] h = tt
at_end-wide count lines (w ∷ []) h = ends-wide count lines w h.0
at_end-wide count lines (v ∷ (u ∷ vs)) h = tt

pub extremes-wide : (count : ℕ) (lines rest basis : List (List ℤ)) → AreWide count basis → AreWide count (extremes lines rest basis)
extremes-wide count lines [] basis h = at_end-wide count lines basis h
extremes-wide count lines (line ∷ rest) [] h = tt
extremes-wide count lines (line ∷ rest) (w ∷ []) h = ends-wide count lines w h.0
extremes-wide count lines (line ∷ rest) (v ∷ (u ∷ vs)) h =
    each-append (λ (x : List ℤ). length x ≡ count) (extremes_at_zero (extremes lines rest) (clearing line (v ∷ u ∷ vs))) (extremes lines rest (v ∷ u ∷ vs))
    (go (clearing line (v ∷ u ∷ vs)) (clearing-wide count line (v ∷ u ∷ vs) h) (λ basis k. extremes-wide count lines rest basis k))
    (extremes-wide count lines rest (v ∷ u ∷ vs) h)
  where
    go : (c : Cleared) → IsWide count c → ((basis : List (List ℤ)) → AreWide count basis → AreWide count (extremes lines rest basis)) → AreWide count (extremes_at_zero (extremes lines rest) c)
    go Kept k f = tt
    go (Given pivot left) k f = f left k.1

cleared-wide : (count : ℕ) (lines basis : List (List ℤ)) → AreWide count basis → AreWide count (clearing_by_all lines basis)
cleared-wide count [] basis h = h
cleared-wide count (line ∷ lines) basis h = cleared-wide count lines (remainder basis (clearing line basis)) (remainder-wide count line basis (remainder basis (clearing line basis)) refl h)

pub flat-wide : (lines : List (List ℤ)) (count : ℕ) → AreWide count (flat lines count)
flat-wide lines count = cleared-wide count lines (units count) (units-wide count)

pub rest_basis-wide : (vs : List (List ℤ)) (count : ℕ) → AreWide count (rest_basis vs count)
rest_basis-wide vs count = cleared-wide count (pivots (units count) vs) (units count) (units-wide count)
