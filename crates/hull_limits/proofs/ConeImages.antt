-- The points and rays of the changes are made, and the normals of them, where the search is.
use Rattle.std.proofs.Common.{ℕ, List, [], ◌∷◌, ◌++◌, fold, ℤ}
use Rattle.std.specs.Prelude.{IsOkAnd, Ok}
use Rattle.std.specs.BTreeSet.{insert_key}
use Rattle.std.specs.Cmp.Lexicographic.{slice_cmp}
use Rattle.std.specs.List.{AllByRecursion}
use Rattle.std.specs.Ordering.{int_cmp}
use Rattle.items.proofs.Each.{each-append}
use Rattle.linear_terms.specs.declared.col.Col.{Col}
use Rattle.linear_terms.specs.Polynomial.{Polynomial}
use Rattle.farkas_check.specs.Relations.{term_count}
use Rattle.farkas_check.specs.declared.stratum.Change.{Change}
use Rattle.cones.specs.InBits.{Made}
use Rattle.cones.specs.InBits as steps
use Rattle.cones.specs.Split.{units}
use Rattle.cones.specs.declared.point.Point.{Point}
use Rattle.facet_hull.specs.Images.{columns_of}
use Rattle.facet_hull.specs.InBits as in_bits
use Rattle.hull_limits.proofs.MadeSteps.{IsMade, IsOkAnd-bind, behind-makes, all_of-makes}
use Rattle.hull_limits.proofs.KeptSearch.{IsKept, extremes-make, flat-makes, rest_basis-makes}

-- what a function takes: so types are named here that stand in the crate below alone
abbrev Domain : {A B : Type 0} → (A → B) → Type 0
Domain {A} {B} f = A

-- what the search finds in the cone of a case
abbrev pub Cone : Type 0
Cone = Domain (in_bits.images_from [] [])

-- points and rays
abbrev pub Images : Type 0
Images = Domain (in_bits.both_images)

-- a form and its opposite are made where the opposite is
pub both_signs-make : (P : List ℤ → Type 0) (form : List ℤ) → P form → IsOkAnd (steps.opposite form) P → IsOkAnd (in_bits.both_signs form) (AllByRecursion P)
both_signs-make P form h k = IsOkAnd-bind P (AllByRecursion P) (steps.opposite form) (λ turned. Ok (form ∷ turned ∷ [])) k (λ turned l. (h, (l, tt)))

-- ---- of a case

-- what is so of the points and of the rays
pub record AreImages (IsPoint : Point → Type 0) (IsRay : List ℤ → Type 0) (images : Images) : Type 0 where
  pub points : AllByRecursion IsPoint images.points
  pub rays : AllByRecursion IsRay images.rays

-- what is so of what the search finds
pub record IsCone (Flat Found : List ℤ → Type 0) (cone : Cone) : Type 0 where
  pub flats : AllByRecursion Flat cone.flats
  pub extremes : AllByRecursion Found cone.extremes

-- vectors of a case are pushed through its terms
pub record ArePushed (Flat Found : List ℤ → Type 0) (IsPoint : Point → Type 0) (IsRay : List ℤ → Type 0) (cs : List (List Col)) (terms : List Polynomial) : Type 0 where
  pub points : (v : List ℤ) → Found v → IsOkAnd (in_bits.point_of cs terms v) (AllByRecursion IsPoint)
  pub rays : (v : List ℤ) → Found v → IsOkAnd (in_bits.ray_of cs terms v) (AllByRecursion IsRay)
  pub ways : (v : List ℤ) → Flat v → IsOkAnd (in_bits.line_ways cs terms v) (AllByRecursion IsRay)

module _ (IsPoint : Point → Type 0) (IsRay : List ℤ → Type 0) where
  pub images_from-make : (Flat Found : List ℤ → Type 0) (cs : List (List Col)) (terms : List Polynomial) (cone : Cone) → ArePushed Flat Found IsPoint IsRay cs terms → IsCone Flat Found cone → IsOkAnd (in_bits.images_from cs terms cone) (AreImages IsPoint IsRay)
  images_from-make Flat Found cs terms cone pushed found =
      IsOkAnd-bind (AllByRecursion IsPoint) (AreImages IsPoint IsRay) (steps.all_of (in_bits.point_of cs terms) cone.extremes) _ (all_of-makes Found IsPoint (in_bits.point_of cs terms) pushed.points cone.extremes found.extremes) (λ points h.
      IsOkAnd-bind (AllByRecursion IsRay) (AreImages IsPoint IsRay) (in_bits.rays_from points (in_bits.all_rays cs terms cone)) _ (go points) (λ rays k. record { points = h; rays = k }))
    where
      all : IsOkAnd (in_bits.all_rays cs terms cone) (AllByRecursion IsRay)
      all = IsOkAnd-bind (AllByRecursion IsRay) (AllByRecursion IsRay) (steps.all_of (in_bits.ray_of cs terms) cone.extremes) _ (all_of-makes Found IsRay (in_bits.ray_of cs terms) pushed.rays cone.extremes found.extremes) (λ rays h.
          behind-makes IsRay rays (steps.all_of (in_bits.line_ways cs terms) cone.flats) h (all_of-makes Flat IsRay (in_bits.line_ways cs terms) pushed.ways cone.flats found.flats))

      go : (points : List Point) → IsOkAnd (in_bits.rays_from points (in_bits.all_rays cs terms cone)) (AllByRecursion IsRay)
      go [] = tt
      go (p ∷ points) = all

  pub images_in-make : (Flat Found : List ℤ → Type 0) (case : Change) → ArePushed Flat Found IsPoint IsRay (columns_of case) case.terms → IsOkAnd (in_bits.case_cone (columns_of case) case.rows) (IsCone Flat Found)
      → IsOkAnd (in_bits.images_in (columns_of case) case) (AreImages IsPoint IsRay)
  images_in-make Flat Found case pushed made =
      IsOkAnd-bind (IsCone Flat Found) (AreImages IsPoint IsRay) (in_bits.case_cone (columns_of case) case.rows) (λ cone. in_bits.images_from (columns_of case) case.terms cone) made (λ cone found. images_from-make Flat Found (columns_of case) case.terms cone pushed found)

  -- ---- of all cases

  -- the points and rays of a case are made
  abbrev pub HasImages : Change → Type 0
  HasImages case = IsOkAnd (in_bits.images_in (columns_of case) case) (AreImages IsPoint IsRay)

  pub images_of-make : (cases : List Change) → AllByRecursion HasImages cases → IsOkAnd (in_bits.images_of cases) (AreImages IsPoint IsRay)
  images_of-make [] h = record { points = tt; rays = tt }
  images_of-make (case ∷ cases) h =
      IsOkAnd-bind (AreImages IsPoint IsRay) (AreImages IsPoint IsRay) (in_bits.images_in (columns_of case) case) _ h.0 (λ own k.
      IsOkAnd-bind (AreImages IsPoint IsRay) (AreImages IsPoint IsRay) (in_bits.images_of cases) _ (images_of-make cases h.1) (λ more l.
      record { points = each-append IsPoint own.points more.points k.points l.points; rays = each-append IsRay own.rays more.rays k.rays l.rays }))

-- ---- the cone of a case, where clearing keeps what is asked

pub cone_from-makes : (Line : List ℤ → Type 0) (Basis : List (List ℤ) → Type 0) (Flat Found : List ℤ → Type 0) → IsKept Line Basis Found → ((basis : List (List ℤ)) → Basis basis → AllByRecursion Flat basis)
    → (lines : List (List ℤ)) (count : ℕ) → AllByRecursion Line lines → AllByRecursion Line (units count) → Basis (units count) → IsOkAnd (in_bits.cone_from lines count) (IsCone Flat Found)
cone_from-makes Line Basis Flat Found kept tells lines count h u b =
    IsOkAnd-bind Basis (IsCone Flat Found) (steps.flat lines count) _ (flat-makes Line Basis Found kept lines count h b) (λ flats k.
    IsOkAnd-bind Basis (IsCone Flat Found) (steps.rest_basis flats count) _ (rest_basis-makes Line Basis Found kept flats count k u b) (λ basis l.
    IsOkAnd-bind (AllByRecursion Found) (IsCone Flat Found) (steps.extremes lines lines basis) _ (extremes-make Line Basis Found kept lines lines basis h h l) (λ found m. record { flats = tells flats k; extremes = m })))

-- ---- normals

module _ (Line : List ℤ → Type 0) (Basis : List (List ℤ) → Type 0) (Found : List ℤ → Type 0) (kept : IsKept Line Basis Found) where
  -- the directions from a point are made, and each is a line
  abbrev pub HasDirections : List Point → List (List ℤ) → Point → Type 0
  HasDirections points rays p = IsOkAnd (steps.directions points rays p) (AllByRecursion Line)

  facets_at-make : (basis : List (List ℤ)) (points : List Point) (rays : List (List ℤ)) (p : Point) → Basis basis → HasDirections points rays p → IsOkAnd (steps.facets_at basis points rays p) (AllByRecursion Found)
  facets_at-make basis points rays p b h =
      IsOkAnd-bind (AllByRecursion Line) (AllByRecursion Found) (steps.directions points rays p) (λ lines. steps.extremes lines lines basis) h (λ lines k. extremes-make Line Basis Found kept lines lines basis k k b)

  facets-make : (basis : List (List ℤ)) (points : List Point) (rays : List (List ℤ)) → Basis basis → AllByRecursion (HasDirections points rays) points → IsMade (steps.facets basis points rays)
  facets-make basis points rays b h =
      IsOkAnd-bind (AllByRecursion Found) (λ x. Unit {0}) (steps.facets_of basis points rays) (λ found. Ok (fold (insert_key (slice_cmp int_cmp)) [] found))
      (all_of-makes (HasDirections points rays) Found (steps.facets_at basis points rays) (λ p k. facets_at-make basis points rays p b k) points h) (λ found k. tt)

  beside-makes : (equations : List (List ℤ)) (count : ℕ) (points : List Point) (rays : List (List ℤ)) → Basis equations → AllByRecursion Line (units count) → Basis (units count) → AllByRecursion (HasDirections points rays) points
      → IsMade (in_bits.normals_beside equations count points rays)
  beside-makes equations count points rays b u c h =
      IsOkAnd-bind (AllByRecursion (λ (v : List ℤ). Unit {0})) (λ x. Unit {0}) (steps.all_of in_bits.both_signs equations) _
      (all_of-makes (λ v. IsMade (steps.opposite v)) (λ v. Unit {0}) in_bits.both_signs (λ v k. both_signs-make (λ w. Unit {0}) v tt k) equations (kept.turns equations b)) (λ signed k.
      IsOkAnd-bind Basis (λ x. Unit {0}) (steps.rest_basis equations count) _ (rest_basis-makes Line Basis Found kept equations count b u c) (λ basis l.
      IsOkAnd-bind (λ x. Unit {0}) (λ x. Unit {0}) (steps.facets basis points rays) (λ found. Ok (signed ++ found)) (facets-make basis points rays l h) (λ found m. tt)))

  pub normals_at-make : (count : ℕ) (points : List Point) (rays : List (List ℤ)) → AllByRecursion Line (units count) → Basis (units count) → AllByRecursion (HasDirections points rays) points → IsMade (in_bits.normals_at count points rays)
  normals_at-make count [] rays u c h = tt
  normals_at-make count (p ∷ points) rays u c h =
      IsOkAnd-bind Basis (λ x. Unit {0}) (in_bits.equations_from p count (p ∷ points) rays) _
      (IsOkAnd-bind (AllByRecursion Line) Basis (steps.directions (p ∷ points) rays p) (λ lines. steps.flat lines count) h.0 (λ lines k. flat-makes Line Basis Found kept lines count k c))
      (λ equations k. beside-makes equations count (p ∷ points) rays k u c h)

pub normals-make : (IsPoint : Point → Type 0) (IsRay : List ℤ → Type 0) (cases : List Change) → IsOkAnd (in_bits.images_of cases) (AreImages IsPoint IsRay)
    → ((images : Images) → AreImages IsPoint IsRay images → IsMade (in_bits.normals_at (term_count cases) images.points images.rays)) → IsMade (in_bits.normals cases)
normals-make IsPoint IsRay cases h makes = IsOkAnd-bind (AreImages IsPoint IsRay) (λ x. Unit {0}) (in_bits.images_of cases) (λ images. in_bits.normals_at (term_count cases) images.points images.rays) h makes
