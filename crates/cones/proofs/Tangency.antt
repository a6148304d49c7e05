-- Lengths of the directions from a point, and the points of a list.
use Rattle.std.proofs.Common.{◌≡◌, ℕ, zero, suc, ◌<◌, List, [], ◌∷◌, fold, get_or, length, map, sym, ap, ◌∙◌, arith, ℤ}
use Rattle.std.specs.Prelude.{neg_ℤ}
use Rattle.std.specs.BTreeSet.{insert_key}
use Rattle.std.specs.Cmp.Lexicographic.{slice_cmp}
use Rattle.std.specs.Ordering.{int_cmp}
use Rattle.items.proofs.Each.{each-append, each-map}
use Rattle.cones.specs.Cones.{AreWide}
use Rattle.cones.specs.Tangents.{ArePoints, Point, difference, direction, directions}
use Rattle.cones.proofs.Widths.{combination-length, lowest-length}

pub direction-length : (p q : Point) → length p.numbers ≡ length q.numbers → length (direction p q) ≡ length q.numbers
direction-length p q e = lowest-length (difference p q) ∙ combination-length p.over (neg_ℤ q.over) q.numbers p.numbers e

pub directions-wide : (count : ℕ) (points : List Point) (rays : List (List ℤ)) (p : Point) → ArePoints count points → AreWide count rays → length p.numbers ≡ count → AreWide count (directions points rays p)
directions-wide count points rays p h k e =
    each-append (λ (v : List ℤ). length v ≡ count) (map (direction p) points) rays
    (each-map (λ (q : Point). length q.numbers ≡ count) (λ (v : List ℤ). length v ≡ count) (direction p) (λ q f. direction-length p q (e ∙ sym f) ∙ f) points h)
    k

pub point-length : (count : ℕ) (points : List Point) (i : ℕ) (p : Point) → ArePoints count points → i < length points → p ≡ get_or points i p → length p.numbers ≡ count
point-length count [] i p h lt e = absurd (omega arith)
point-length count (q ∷ points) zero p h lt e = ap (λ (x : Point). length x.numbers) e ∙ h.0
point-length count (q ∷ points) (suc i) p h lt e = point-length count points i p h.1 (omega arith) e

pub point-same_length : (count : ℕ) (points : List Point) (i : ℕ) (p q : Point) → ArePoints count points → length p.numbers ≡ count → i < length points → q ≡ get_or points i q → length p.numbers ≡ length q.numbers
point-same_length count points i p q h e lt f = e ∙ sym (point-length count points i q h lt f)

-- ---- facets put into a set

abbrev pub put_all : List (List ℤ) → List (List ℤ) → List (List ℤ)
put_all keys vectors = fold (insert_key (slice_cmp int_cmp)) keys vectors
