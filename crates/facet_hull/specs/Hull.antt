-- The closed convex hull of the changes of a body, as what meets every bound that all changes meet,
-- and its equations and facets.
--
-- Source: Schrijver, Theory of Linear and Integer Programming, section 8.4.
use Rattle.std.specs.Prelude.{◌≡◌, ℕ, ◌+◌, ◌<◌, ℤ, pos, ◌*ℤ◌, ◌<ℤ◌, ◌≤ℤ◌, List, [], ◌∷◌, ◌++◌, map, length, IsTrue}
use Rattle.std.specs.Cmp.Lexicographic.{slice_cmp}
use Rattle.std.specs.List.{AllByRecursion, flat_map}
use Rattle.std.specs.List.Sorted.{IsStrictlySortedBy}
use Rattle.std.specs.Ordering.{int_cmp}
use Rattle.whole_numbers.specs.Divisors.{gcd_of_all}
use Rattle.whole_numbers.specs.Dot.{dot}
use Rattle.farkas_check.specs.Relations.{entry, pivot, is_reduced}
use Rattle.farkas_check.specs.Stratum.{IsCombination}
use Rattle.farkas_check.specs.declared.stratum.Change.{Change}
use Rattle.cones.specs.Vectors.{opposite}
use Rattle.facet_hull.specs.Changes.{Rational, IsBound, IsSupremum, IsConstant}

-- ---- places

-- a list of rational changes: whole numerators over one positive denominator
pub record Place : Type 0 where
  pub numbers : List ℤ
  pub over : ℤ
  pub positive : pos 0 <ℤ over

-- the form is at most so much there
abbrev pub IsAtMost : List ℤ → Rational → Place → Type 0
IsAtMost form most place = (dot form place.numbers *ℤ most.bottom) ≤ℤ (most.top *ℤ place.over)

-- the place lies in the closed convex hull: it meets each bound that all changes meet
abbrev pub IsInHull : ℕ → List Change → Place → Type 0
IsInHull count cases place = (form : List ℤ) (most : Rational) → length form ≡ count
    → IsBound cases form most → IsAtMost form most place

-- ---- forms with their suprema

-- a normal and the supremum of its form
pub record Facet : Type 0 where
  pub normal : List ℤ
  pub most : Rational

-- the place is on no wrong side of a facet
abbrev pub MeetsFacet : Place → Facet → Type 0
MeetsFacet place facet = IsAtMost facet.normal facet.most place

-- each normal bounds the changes by its supremum
abbrev pub AreSuprema : List Change → List Facet → Type 0
AreSuprema cases facets = AllByRecursion (λ (f : Facet). IsSupremum cases f.normal f.most) facets

-- what meets all of the facets lies in the hull
abbrev pub AreComplete : ℕ → List Change → List Facet → Type 0
AreComplete count cases facets = (place : Place) → AllByRecursion (MeetsFacet place) facets
    → IsInHull count cases place

-- The normals bound the hull and nothing beyond it: each has a supremum over the changes, and what
-- meets all of these lies in the hull.
pub record AreExact (count : ℕ) (cases : List Change) (normals : List (List ℤ)) : Type 0 where
  -- one for each of the normals
  pub bounds : List Facet
  pub each : map (λ (f : Facet). f.normal) bounds ≡ normals
  pub suprema : AreSuprema cases bounds
  pub complete : AreComplete count cases bounds

-- the forms are constant on the changes, and each form that is so is a combination of them
pub record AreEquations (count : ℕ) (cases : List Change) (forms : List (List ℤ)) : Type 0 where
  pub constant : AllByRecursion (IsConstant cases) forms
  pub basis : (form : List ℤ) → length form ≡ count → IsConstant cases form
      → IsCombination forms count form

-- some place meets all others, and not the facet in the middle
pub record IsNeeded (before : List Facet) (facet : Facet) (after : List Facet) : Type 0 where
  pub place : Place
  pub others : AllByRecursion (MeetsFacet place) (before ++ after)
  pub not : MeetsFacet place facet → ⊥

-- ---- the hull

-- a form, and the same with each sign turned
abbrev pub both_signs : List ℤ → List (List ℤ)
both_signs form = form ∷ opposite form ∷ []

-- the form is 0 at the pivot of each equation, and has no common divisor
pub record IsNormalised (equations : List (List ℤ)) (normal : List ℤ) : Type 0 where
  pub cleared : AllByRecursion (λ line. entry normal (pivot line) ≡ pos 0) equations
  pub lowest : gcd_of_all normal ≡ 1

-- The equations are the reduced basis of the forms that are constant on the changes, in whole
-- numbers without common divisor. The facets are those of the closed convex hull, none of which the
-- others imply: each is 0 at the pivots, without common divisor, and they ascend. The normals are
-- the equations with both signs and then the facets'.
pub record IsHull (count : ℕ) (cases : List Change) (normals : List (List ℤ)) : Type 0 where
  pub equations : List (List ℤ)
  pub facets : List (List ℤ)
  pub are : normals ≡ flat_map both_signs equations ++ facets
  pub long : AllByRecursion (λ line. length line ≡ count) normals
  pub reduced : IsTrue (is_reduced equations)
  pub equal : AreEquations count cases equations
  pub normalised : AllByRecursion (IsNormalised equations) facets
  pub ascending : IsStrictlySortedBy (slice_cmp int_cmp) facets
  pub exact : AreExact count cases normals
  pub needed : (before : List Facet) (facet : Facet) (after : List Facet)
      → exact.bounds ≡ before ++ facet ∷ after
      → length (flat_map both_signs equations) < length before + 1
      → IsNeeded before facet after
