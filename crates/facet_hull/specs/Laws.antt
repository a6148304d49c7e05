-- The laws: what the points and rays of the changes say of them, that the normals are exact, and
-- that rows along exact normals bound many turns as well as any rows can.
--
-- Source: Farzan and Kincaid, Compositional Recurrence Analysis, FMCAD 2015.
use Rattle.std.specs.Prelude.{◌≡◌, ◌↔◌, ℕ, ℤ, pos, ◌*ℤ◌, ◌<ℤ◌, ◌≤ℤ◌, List, [], length, slice_get, Some, All, true}
use Rattle.std.specs.List.{AllByRecursion}
use Rattle.whole_numbers.specs.Dot.{dot}
use Rattle.farkas_check.specs.Kept.{IsCanonicalChange}
use Rattle.farkas_check.specs.Rational.{RationalPoint, Meets}
use Rattle.farkas_check.specs.Relations.{term_count}
use Rattle.farkas_check.specs.declared.stratum.Change.{Change}
use Rattle.cones.specs.InBits.{IsOrLeaves}
use Rattle.cones.specs.declared.point.Point.{Point}
use Rattle.linear_terms.specs.Polynomial.{Polynomial}
use Rattle.transition_formula.specs.Transition.{Transition}
use Rattle.polyhedra.specs.Changes.{modified_variables, moving}
use Rattle.polyhedra.specs.Vocabulary.{IsDirectionOver}
use Rattle.facet_hull.specs.Changes.{changes_at, HasChange, Rational, IsBound}
use Rattle.facet_hull.specs.Hull.{AreExact, AreEquations, IsHull}
use Rattle.facet_hull.specs.Images.{points_of, rays_of}
use Rattle.facet_hull.specs.Facets.{facets_of}
use Rattle.facet_hull.specs.InBits as in_bits
use Rattle.facet_hull.specs.Normals.{equations, normals}
use Rattle.facet_hull.specs.declared.outcome.Facets.TheVariants.{Normals}

-- ---- bounds of points and rays

-- the form is at most so much at a point
abbrev pub IsAtMostAt : List ℤ → Rational → Point → Type 0
IsAtMostAt form most p = (dot form p.numbers *ℤ most.bottom) ≤ℤ (most.top *ℤ p.over)

-- at each point the form is at most so much, and along no ray it grows
pub record Bounds (points : List Point) (rays : List (List ℤ)) (form : List ℤ)
    (most : Rational) : Type 0 where
  pub at_points : AllByRecursion (IsAtMostAt form most) points
  pub along_rays : AllByRecursion (λ ray. dot ray form ≤ℤ pos 0) rays

-- a bound of the changes is one of their points and rays, and the other way round
abbrev pub ImagesHaveTheBounds : Type 0
ImagesHaveTheBounds = (cases : List Change) → All IsCanonicalChange cases
    → (form : List ℤ) (most : Rational)
    → IsBound cases form most ↔ Bounds (points_of cases) (rays_of cases) form most

-- a body has a point exactly where one of its cases has a rational point
abbrev pub ImagesHaveAPoint : Type 0
ImagesHaveAPoint = (cases : List Change) → All IsCanonicalChange cases
    → HasChange cases ↔ (points_of cases ≡ [] → ⊥)

-- ---- exact normals

-- the normals of a body bound the hull of its changes and nothing beyond it
abbrev pub NormalsAreExact : Type 0
NormalsAreExact = (cases : List Change) → All IsCanonicalChange cases
    → HasChange cases → AreExact (term_count cases) cases (normals cases)

-- the equations of a body are constant on its changes, and each form that is so is a combination of
-- them
abbrev pub EquationsAreAll : Type 0
EquationsAreAll = (cases : List Change) → All IsCanonicalChange cases
    → HasChange cases → AreEquations (term_count cases) cases (equations cases)

-- the normals of a body are the hull of its changes, none of them too many
abbrev pub NormalsAreHull : Type 0
NormalsAreHull = (cases : List Change) → All IsCanonicalChange cases
    → HasChange cases → IsHull (term_count cases) cases (normals cases)

-- ---- many turns

-- at some point of some case the form gets as far as a whole number: what a tight bound says
pub record IsReachedBy (cases : List Change) (form : List ℤ) (at : ℤ) : Type 0 where
  pub place : ℕ
  pub case : Change
  pub is : slice_get cases place ≡ Some case
  pub point : RationalPoint
  pub meets : Meets point case.rows
  pub far : (at *ℤ point.over) ≤ℤ dot form (changes_at case.terms point)

-- A row of the star: the change over so many turns is at most so many times the answered bound,
-- which some change of the body reaches.
pub record IsTurnRow (cases : List Change) (change : List ℤ) (turns : ℤ)
    (form : List ℤ) : Type 0 where
  pub at : ℤ
  pub tight : IsReachedBy cases form at
  pub row : dot form change ≤ℤ (at *ℤ turns)

-- each bound of one turn's change holds of the change over the turns, times their number
abbrev pub IsBoundOver : ℕ → List Change → List ℤ → ℤ → Type 0
IsBoundOver count cases change turns = (form : List ℤ) (most : Rational) → length form ≡ count
    → IsBound cases form most → (dot form change *ℤ most.bottom) ≤ℤ (most.top *ℤ turns)

-- where the star has a row for each of exact normals, it bounds the change over many turns as well
-- as any rows that the changes of one turn imply
abbrev pub IsRelativelyComplete : Type 0
IsRelativelyComplete = (count : ℕ) (cases : List Change) (normals : List (List ℤ))
    → AreExact count cases normals → (change : List ℤ) (turns : ℤ) → pos 0 <ℤ turns
    → AllByRecursion (IsTurnRow cases change turns) normals
    → IsBoundOver count cases change turns

-- ---- outcomes

-- where the outcome of a body is its normals, each change of a modified variable is made
abbrev pub KnowsAllChanges : Type 0
KnowsAllChanges = (body : Transition) (polys : List Polynomial)
    → facets_of body ≡ Normals polys → moving true body ≡ modified_variables true body

-- the normals of an outcome are directions over the body's columns
abbrev pub NormalsAreDirections : Type 0
NormalsAreDirections = (body : Transition) (polys : List Polynomial)
    → facets_of body ≡ Normals polys → AllByRecursion (IsDirectionOver body.to) polys

-- what is made in 128 bits is what is defined, and where nothing is made a step leaves them
abbrev pub StepsMakeNormals : Type 0
StepsMakeNormals = (cases : List Change) → IsOrLeaves (normals cases) (in_bits.normals cases)
