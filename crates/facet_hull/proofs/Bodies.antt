-- The bounds of all cases of a body, and its points.
use Rattle.std.proofs.Common.{◌≡◌, ℕ, zero, suc, refl, sym, subst, List, [], ◌∷◌, ◌++◌, length, Bool, true, false, cond, ℤ, pos, ◌≤ℤ◌, ◌<ℤ◌}
use Rattle.std.specs.Prelude.{All, ◌↔◌, slice_get, Some}
use Rattle.std.specs.List.{AllByRecursion, flat_map}
use Rattle.std.proofs.lemmas.List.Elements.{recursion_from_All}
use Rattle.items.proofs.Each.{each-append, each-front, each-back, each-any, each-flat_map}
use Rattle.whole_numbers.specs.Dot.{dot}
use Rattle.farkas_check.specs.Kept.{IsCanonicalChange}
use Rattle.farkas_check.specs.Rational.{Meets}
use Rattle.farkas_check.specs.Relations.{entry}
use Rattle.farkas_check.specs.declared.stratum.Change.{Change}
use Rattle.cones.specs.Spans.{AreAtMost}
use Rattle.cones.specs.declared.point.Point.{Point}
use Rattle.facet_hull.specs.Changes.{HasChange, Rational, IsBound}
use Rattle.facet_hull.specs.Images.{columns_of, row_lines, extreme_vectors, image, is_corner, point_of, points_in, rays_in, points_of, rays_of}
use Rattle.facet_hull.specs.Laws.{IsAtMostAt, Bounds}
use Rattle.facet_hull.proofs.CasePoints.{case-ready, IsReady, IsPointOf, vector-point, rows-meet}
use Rattle.facet_hull.proofs.Generators.{bound_of_images, point-found, lt_true}
use Rattle.facet_hull.proofs.Reach.{images_of_bound, HasCorner, corner-found}

-- ---- bounds

both_bounds : (points more : List Point) (rays others : List (List ℤ)) (form : List ℤ) (most : Rational) → Bounds points rays form most → Bounds more others form most → Bounds (points ++ more) (rays ++ others) form most
both_bounds points more rays others form most b c = record {
  at_points = each-append (IsAtMostAt form most) points more b.at_points c.at_points;
  along_rays = each-append (λ ray. dot ray form ≤ℤ pos 0) rays others b.along_rays c.along_rays;
}

pub bounds_of_cases : (cases : List Change) → AllByRecursion IsCanonicalChange cases → (form : List ℤ) (most : Rational) → IsBound cases form most → Bounds (points_of cases) (rays_of cases) form most
bounds_of_cases [] h form most b = record { at_points = tt; along_rays = tt }
bounds_of_cases (case ∷ cases) h form most b =
    both_bounds (points_in (columns_of case) case) (points_of cases) (rays_in (columns_of case) case) (rays_of cases) form most
    (images_of_bound (columns_of case) case (case-ready case h.0) form most b.0)
    (bounds_of_cases cases h.1 form most b.1)

pub cases_of_bounds : (cases : List Change) → AllByRecursion IsCanonicalChange cases → (form : List ℤ) (most : Rational) → Bounds (points_of cases) (rays_of cases) form most → IsBound cases form most
cases_of_bounds [] h form most b = tt
cases_of_bounds (case ∷ cases) h form most b = (
  bound_of_images (columns_of case) case (case-ready case h.0) form most (record {
    at_points = each-front (IsAtMostAt form most) (points_in (columns_of case) case) (points_of cases) b.at_points;
    along_rays = each-front (λ ray. dot ray form ≤ℤ pos 0) (rays_in (columns_of case) case) (rays_of cases) b.along_rays;
  }),
  cases_of_bounds cases h.1 form most (record {
    at_points = each-back (IsAtMostAt form most) (points_in (columns_of case) case) (points_of cases) b.at_points;
    along_rays = each-back (λ ray. dot ray form ≤ℤ pos 0) (rays_in (columns_of case) case) (rays_of cases) b.along_rays;
  }),
)

pub images_have_the_bounds : (cases : List Change) → All IsCanonicalChange cases → (form : List ℤ) (most : Rational) → IsBound cases form most ↔ Bounds (points_of cases) (rays_of cases) form most
images_have_the_bounds cases h form most = (bounds_of_cases cases each form most, cases_of_bounds cases each form most)
  where
    each : AllByRecursion IsCanonicalChange cases
    each = recursion_from_All IsCanonicalChange cases h

-- ---- points

none_in_front : {A : Type 0} (xs ys : List A) → xs ++ ys ≡ [] → xs ≡ []
none_in_front [] ys e = refl
none_in_front (x ∷ xs) ys e = cc

none_behind : {A : Type 0} (xs ys : List A) → xs ++ ys ≡ [] → ys ≡ []
none_behind [] ys e = e
none_behind (x ∷ xs) ys e = cc

pub change_brings : (cases : List Change) → AllByRecursion IsCanonicalChange cases → HasChange cases → points_of cases ≡ [] → ⊥
change_brings cases h c = go cases h c.place c.is
  where
    go : (cases : List Change) → AllByRecursion IsCanonicalChange cases → (place : ℕ) → slice_get cases place ≡ Some c.case → points_of cases ≡ [] → ⊥
    go [] h place e k = cc
    go (case ∷ cases) h zero e k =
        let same : case ≡ c.case = cc in
        point-found (columns_of case) case (case-ready case h.0) c.point (subst (λ (x : Change). Meets c.point x.rows) (sym same) c.meets) (none_in_front (points_in (columns_of case) case) (points_of cases) k)
    go (case ∷ cases) h (suc place) e k = go cases h.1 place e (none_behind (points_in (columns_of case) case) (points_of cases) k)

by_none : {A : Type 0} {P : Type 0} (xs : List A) → (xs ≡ [] → P) → ((xs ≡ [] → ⊥) → P) → P
by_none [] f g = f refl
by_none (x ∷ xs) f g = g (λ e. cc)

pub points_show : (cases : List Change) → AllByRecursion IsCanonicalChange cases → (points_of cases ≡ [] → ⊥) → HasChange cases
points_show [] h f = absurd (f refl)
points_show (case ∷ cases) h f =
    by_none (points_in (columns_of case) case)
    (λ e. later (points_show cases h.1 (λ k. f (both (points_in (columns_of case) case) (points_of cases) e k))))
    (λ some. first (corner-found (columns_of case) case some))
  where
    both : {A : Type 0} (xs ys : List A) → xs ≡ [] → ys ≡ [] → xs ++ ys ≡ []
    both xs ys e k = rw (e, k) refl

    later : HasChange cases → HasChange (case ∷ cases)
    later c = record { place = suc c.place; case = c.case; is = c.is; point = c.point; meets = c.meets }

    ready : IsReady (columns_of case) case
    ready = case-ready case h.0

    first : HasCorner (columns_of case) case.rows → HasChange (case ∷ cases)
    first k = at_point (vector-point (columns_of case) k.vector ready.ordered k.cone.long k.above)
      where
        at_point : IsPointOf (columns_of case) k.vector → HasChange (case ∷ cases)
        at_point q = record {
          place = 0;
          case = case;
          is = refl;
          point = q.point;
          meets = rows-meet (columns_of case) case.rows q.point ready.ordered ready.rows (subst (λ (w : List ℤ). AreAtMost (flat_map (row_lines (columns_of case)) case.rows) (λ l. dot l w)) (sym q.is) k.cone.inside.1);
        }

pub images_have_a_point : (cases : List Change) → All IsCanonicalChange cases → HasChange cases ↔ (points_of cases ≡ [] → ⊥)
images_have_a_point cases h = (change_brings cases each, points_show cases each)
  where
    each : AllByRecursion IsCanonicalChange cases
    each = recursion_from_All IsCanonicalChange cases h

-- each point has a positive denominator
pub points-positive : (cases : List Change) → AllByRecursion (λ (p : Point). pos 0 <ℤ p.over) (points_of cases)
points-positive cases = each-flat_map (λ (case : Change). Unit {0}) (λ (p : Point). pos 0 <ℤ p.over) (λ case. points_in (columns_of case) case) (λ case u. of_case case) cases (each-any (λ (case : Change). Unit {0}) (λ case. tt) cases)
  where
    of_case : (case : Change) → AllByRecursion (λ (p : Point). pos 0 <ℤ p.over) (points_in (columns_of case) case)
    of_case case = each-flat_map (λ (v : List ℤ). Unit {0}) (λ (p : Point). pos 0 <ℤ p.over) (point_of (columns_of case) case.terms) (λ v u. of_vector v (is_corner (columns_of case) v) refl) (extreme_vectors (columns_of case) case.rows) (each-any (λ (v : List ℤ). Unit {0}) (λ v. tt) (extreme_vectors (columns_of case) case.rows))
      where
        of_vector : (v : List ℤ) (b : Bool) → is_corner (columns_of case) v ≡ b → AllByRecursion (λ (p : Point). pos 0 <ℤ p.over) (cond b (record { numbers = image (columns_of case) case.terms v; over = entry v (length (columns_of case)) } ∷ []) [])
        of_vector v true e = (lt_true (entry v (length (columns_of case))) e, tt)
        of_vector v false e = tt
