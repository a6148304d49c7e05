-- The laws of the search.
use Rattle.std.specs.Prelude.{◌≡◌, ◌⊎◌, ℕ, length, ℤ, pos, ◌<ℤ◌, ◌≤ℤ◌, List, [], ◌∷◌, ◌++◌}
use Rattle.std.specs.List.{AllByRecursion}
use Rattle.whole_numbers.specs.Dot.{dot}
use Rattle.cones.specs.Cones.{projection, clearing, are_at_most, extremes}
use Rattle.cones.specs.InBits as in_bits
use Rattle.cones.specs.InBits.{IsOrLeaves}
use Rattle.cones.specs.Split.{units, clearing_by_all, flat, pivots, rest_basis, ArePrivate, IsAmong}
use Rattle.cones.specs.Tangents.{Point, difference, directions, facets_at, facets}
use Rattle.cones.specs.Spans.{Values, IsSpanned, IsIndependent, IsPointed, AreAtMost, IsAboveAt}
use Rattle.cones.specs.Vectors.{combination, opposite}

-- A form that is above 0 anywhere in the cone is so on a vector that is found. Values stand for any
-- rational vector that the basis spans.
abbrev pub FindsAbove : Type 0
FindsAbove = (lines basis : List (List ℤ)) → IsIndependent basis → IsPointed lines basis
    → (z : List ℤ) (w : Values) → IsSpanned basis w → AreAtMost lines w → pos 0 <ℤ w z
    → IsAboveAt z (extremes lines lines basis)

-- what is found lies in the cone
abbrev pub FindsInside : Type 0
FindsInside = (lines rest basis : List (List ℤ))
    → AllByRecursion (λ v. AreAtMost lines (λ line. dot line v)) (extremes lines rest basis)

-- what is found is spanned by the basis
abbrev pub FindsSpanned : Type 0
FindsSpanned = (lines rest basis : List (List ℤ))
    → AllByRecursion (λ v. IsSpanned basis (λ line. dot line v)) (extremes lines rest basis)

-- ---- with what is 0 on all lines

-- forms are 0 on each of the lines
abbrev pub AreFlat : List (List ℤ) → List (List ℤ) → Type 0
AreFlat flat lines = AllByRecursion (λ line. AllByRecursion (λ v. dot line v ≡ pos 0) flat) lines

-- the same of what the basis spans together with vectors on which all lines, and the form, are 0
abbrev pub FindsAboveFlat : Type 0
FindsAboveFlat = (lines flat basis : List (List ℤ)) → IsIndependent basis → IsPointed lines basis
    → AreFlat flat lines → (z : List ℤ) (w : Values) → AllByRecursion (λ v. dot z v ≡ pos 0) flat
    → IsSpanned (flat ++ basis) w → AreAtMost lines w → pos 0 <ℤ w z
    → IsAboveAt z (extremes lines lines basis)

-- ---- hulls of points and rays

-- the basis and the flat forms fit the directions from a point
pub record IsTangentAt (flat basis : List (List ℤ)) (points : List Point) (rays : List (List ℤ))
    (p : Point) : Type 0 where
  pub positive : pos 0 <ℤ p.over
  pub pointed : IsPointed (directions points rays p) basis
  pub flat_there : AreFlat flat (directions points rays p)

-- seen from a point, the place is on no wrong side of a facet through it, nor off a flat form
pub record MeetsAt (flat basis : List (List ℤ)) (points : List Point) (rays : List (List ℤ))
    (place p : Point) : Type 0 where
  pub equations : AllByRecursion (λ v. dot (difference p place) v ≡ pos 0) flat
  pub facets : AllByRecursion (λ v. dot (difference p place) v ≤ℤ pos 0)
      (facets_at basis points rays p)

-- some point has at least the place's value of the form
abbrev pub HasAsMuch : List ℤ → Point → List Point → Type 0
HasAsMuch form place [] = ⊥
HasAsMuch form place (p ∷ points) = (dot (difference p place) form ≤ℤ pos 0)
    ⊎ HasAsMuch form place points

-- A place that meets the flat forms and all facets through all points meets every bound of the
-- points that no ray passes.
abbrev pub FacetsAreComplete : Type 0
FacetsAreComplete = (flat basis : List (List ℤ)) (first : Point) (more : List Point)
    (rays : List (List ℤ)) → IsIndependent basis
    → AllByRecursion (IsTangentAt flat basis (first ∷ more) rays) (first ∷ more)
    → (form : List ℤ) → IsSpanned (flat ++ basis) (λ line. dot line form)
    → AllByRecursion (λ ray. dot ray form ≤ℤ pos 0) rays
    → (place : Point) → AllByRecursion (MeetsAt flat basis (first ∷ more) rays place) (first ∷ more)
    → HasAsMuch form place (first ∷ more)

-- ---- flat vectors and the rest

-- the flat vectors, on which all lines are 0, and a basis of the rest, on which the pivots are 0
pub record IsSplit (lines : List (List ℤ)) (count : ℕ) (flat basis : List (List ℤ)) : Type 0 where
  pub flat_there : AreFlat flat lines
  pub independent : IsIndependent basis
  pub pointed : IsPointed lines basis
  pub spans : (v : List ℤ) → length v ≡ count → IsSpanned (flat ++ basis) (λ line. dot line v)

-- what is left of the units where the lines are made 0, and where its pivots are
abbrev pub Splits : Type 0
Splits = (lines pivots : List (List ℤ)) (count : ℕ)
    → ArePrivate pivots (clearing_by_all lines (units count))
    → IsSplit lines count (clearing_by_all lines (units count))
    (clearing_by_all pivots (units count))

-- some of the units are such pivots
pub record HasPivots (units vs : List (List ℤ)) : Type 0 where
  pub pivots : List (List ℤ)
  pub private : ArePrivate pivots vs
  pub some : AllByRecursion (IsAmong units) pivots

-- some of the units are pivots of what is left of the units where the lines are made 0
abbrev pub UnitsArePivots : Type 0
UnitsArePivots = (lines : List (List ℤ)) (count : ℕ)
    → HasPivots (units count) (clearing_by_all lines (units count))

-- flat vectors, and the basis of the rest that goes with them
abbrev pub FlatAndRestSplit : Type 0
FlatAndRestSplit = (lines : List (List ℤ)) (count : ℕ)
    → IsSplit lines count (flat lines count) (rest_basis (flat lines count) count)

-- ---- steps of 128 bits

-- what is made in 128 bits is what is defined, and where nothing is made a step leaves them
pub record StepsMakeWhatIsDefined : Type 0 where
  pub dots : (line v : List ℤ) → IsOrLeaves (dot line v) (in_bits.dot line v)
  pub combinations : (a : ℤ) (v : List ℤ) (b : ℤ) (u : List ℤ)
      → IsOrLeaves (combination a v b u) (in_bits.combination a v b u)
  pub opposites : (v : List ℤ) → IsOrLeaves (opposite v) (in_bits.opposite v)
  pub projections : (line pivot v : List ℤ)
      → IsOrLeaves (projection line pivot v) (in_bits.projection line pivot v)
  pub clearings : (line : List ℤ) (basis : List (List ℤ))
      → IsOrLeaves (clearing line basis) (in_bits.clearing line basis)
  pub tests : (lines : List (List ℤ)) (v : List ℤ)
      → IsOrLeaves (are_at_most lines v) (in_bits.are_at_most lines v)
  pub searches : (lines rest basis : List (List ℤ))
      → IsOrLeaves (extremes lines rest basis) (in_bits.extremes lines rest basis)
  pub flats : (lines : List (List ℤ)) (count : ℕ)
      → IsOrLeaves (flat lines count) (in_bits.flat lines count)
  pub pivots_too : (lines vs : List (List ℤ)) → IsOrLeaves (pivots lines vs) (in_bits.pivots lines vs)
  pub rests : (vs : List (List ℤ)) (count : ℕ)
      → IsOrLeaves (rest_basis vs count) (in_bits.rest_basis vs count)
  pub differences : (p q : Point) → IsOrLeaves (difference p q) (in_bits.difference p q)
  pub ways : (points : List Point) (rays : List (List ℤ)) (p : Point)
      → IsOrLeaves (directions points rays p) (in_bits.directions points rays p)
  pub facets_too : (basis : List (List ℤ)) (points : List Point) (rays : List (List ℤ))
      → IsOrLeaves (facets basis points rays) (in_bits.facets basis points rays)
