-- The forms that bound points and rays: those that bound the cone of directions from each point.
use Rattle.std.specs.Prelude.{◌≡◌, ℕ, ℤ, neg_ℤ, List, [], ◌++◌, fold, length, map}
use Rattle.std.specs.BTreeSet.{insert_key}
use Rattle.std.specs.Cmp.Lexicographic.{slice_cmp}
use Rattle.std.specs.List.{AllByRecursion, flat_map}
use Rattle.std.specs.Ordering.{int_cmp}
use Rattle.cones.specs.Vectors.{combination, lowest}
use Rattle.cones.specs.Cones.{extremes}
pub use Rattle.cones.specs.declared.point.Point.{Point}

-- from one point to another, times both denominators
abbrev pub difference : Point → Point → List ℤ
difference p q = combination p.over q.numbers (neg_ℤ q.over) p.numbers

-- the same without common divisor
abbrev pub direction : Point → Point → List ℤ
direction p q = lowest (difference p q)

-- the directions from a point: to each of the points, and the rays
abbrev pub directions : List Point → List (List ℤ) → Point → List (List ℤ)
directions points rays p = map (direction p) points ++ rays

-- the facets through a point
abbrev pub facets_at : List (List ℤ) → List Point → List (List ℤ) → Point → List (List ℤ)
facets_at basis points rays p = extremes (directions points rays p) (directions points rays p) basis

-- the facets through each of the points
abbrev pub facets_of : List (List ℤ) → List Point → List (List ℤ) → List (List ℤ)
facets_of basis points rays = flat_map (facets_at basis points rays) points

-- the same in ascending order, each once
abbrev pub facets : List (List ℤ) → List Point → List (List ℤ) → List (List ℤ)
facets basis points rays =
    fold (insert_key (slice_cmp int_cmp)) [] (facets_of basis points rays)

-- points of so many numbers each
abbrev pub ArePoints : ℕ → List Point → Type 0
ArePoints count points = AllByRecursion (λ p. length p.numbers ≡ count) points
