-- The normals of a body are its hull whole.
use Rattle.std.proofs.Common.{◌≡◌, refl, sym, ap, subst, ◌∙◌, List, [], ◌∷◌, length, map, ℤ, pos, ◌≤ℤ◌, ◌<ℤ◌}
use Rattle.std.specs.Prelude.{All}
use Rattle.std.specs.List.{AllByRecursion, flat_map}
use Rattle.std.proofs.lemmas.List.Elements.{recursion_from_All}
use Rattle.items.proofs.Each.{each-append, each-flat_map, each-more}
use Rattle.whole_numbers.specs.Dot.{dot}
use Rattle.linear_terms.specs.Polynomial.{Polynomial}
use Rattle.farkas_check.specs.Kept.{IsCanonicalChange, IsCanonicalStratum}
use Rattle.farkas_check.specs.Relations.{term_count}
use Rattle.farkas_check.specs.declared.stratum.Change.{Change}
use Rattle.cones.specs.Split.{flat, rest_basis}
use Rattle.cones.specs.Tangents.{directions, facets_of, facets}
use Rattle.cones.specs.declared.point.Point.{Point}
use Rattle.facet_hull.specs.Changes.{HasChange, IsSupremum}
use Rattle.facet_hull.specs.Hull.{Facet, AreExact, both_signs, IsNormalised, IsHull}
use Rattle.facet_hull.specs.Images.{points_of, rays_of}
use Rattle.facet_hull.specs.Normals.{normals_at, normals}
use Rattle.facet_hull.proofs.Ascending.{set-ascends}
use Rattle.facet_hull.proofs.Bodies.{bounds_of_cases, change_brings, points-positive}
use Rattle.facet_hull.proofs.Echelon.{cleared_units-echelon, cleared_units-reduced}
use Rattle.facet_hull.proofs.Equations.{equations_are}
use Rattle.facet_hull.proofs.Exact.{IsAmong, IsGreatestAt, most_at, supremum-is, exact_at}
use Rattle.facet_hull.proofs.Needed.{IsFoundFacet, IsSharp, facets-found, normals-needed}
use Rattle.facet_hull.proofs.Normalised.{rest-cleared}
use Rattle.facet_hull.proofs.Outside.{IsTightAt}
use Rattle.facet_hull.proofs.Wide.{opposite-length, flat-wide}

-- a supremum is one of the points and rays
supremum-sharp : (cases : List Change) → AllByRecursion IsCanonicalChange cases → (f : Facet) → IsSupremum cases f.normal f.most → IsSharp (points_of cases) (rays_of cases) f
supremum-sharp cases h f s = record { bounds = bounds_of_cases cases h f.normal f.most s.bound; tight = tight }
  where
    tight : (q : Point) → IsAmong q (points_of cases) → pos 0 <ℤ q.over → AllByRecursion (λ d. dot d f.normal ≤ℤ pos 0) (directions (points_of cases) (rays_of cases) q) → IsTightAt f q
    tight q among positive falls = s.least (most_at (points_of cases) (rays_of cases) f.normal greatest) (supremum-is cases h f.normal greatest).bound
      where
        greatest : IsGreatestAt (points_of cases) (rays_of cases) f.normal
        greatest = record { at = q; among = among; positive = positive; none_grows = falls }

abbrev IsHullAt : List Change → List Point → List (List ℤ) → Type 0
IsHullAt cases points rays = points_of cases ≡ points → rays_of cases ≡ rays → (points ≡ [] → ⊥) → IsHull (term_count cases) cases (normals_at (term_count cases) points rays)

hull_at : (cases : List Change) → AllByRecursion IsCanonicalChange cases → (points : List Point) (rays : List (List ℤ)) → IsHullAt cases points rays
hull_at cases h [] rays e f some = absurd (some refl)
hull_at cases h (p ∷ points) rays e f some = record {
  equations = flat (directions (p ∷ points) rays p) (term_count cases);
  facets = all_facets;
  are = refl;
  long = each-append (λ (line : List ℤ). length line ≡ term_count cases) (flat_map both_signs all_equations) all_facets
      (each-flat_map (λ (line : List ℤ). length line ≡ term_count cases) (λ (line : List ℤ). length line ≡ term_count cases) both_signs (λ v k. (k, (opposite-length v ∙ k, tt))) all_equations (flat-wide (directions (p ∷ points) rays p) (term_count cases)))
      (each-more IsFound (λ (line : List ℤ). length line ≡ term_count cases) (λ v k. k.long) all_facets found);
  reduced = cleared_units-reduced (directions (p ∷ points) rays p) (term_count cases);
  equal = equations_are cases h (p ∷ points) rays e f some;
  normalised = each-more IsFound (IsNormalised all_equations) (λ v k. record {
    cleared = rest-cleared all_equations (term_count cases) (cleared_units-echelon (directions (p ∷ points) rays p) (term_count cases)) (flat-wide (directions (p ∷ points) rays p) (term_count cases)) v k.spanned;
    lowest = k.lowest;
  }) all_facets found;
  ascending = set-ascends (facets_of (rest_basis all_equations (term_count cases)) (p ∷ points) rays);
  exact = exact;
  needed = λ before facet after k l.
      normals-needed (term_count cases) p points rays above before facet after (ap (map (λ (g : Facet). g.normal)) (sym k) ∙ exact.each)
      (subst (AllByRecursion (IsSharp (p ∷ points) rays)) k (each-more (λ (g : Facet). IsSupremum cases g.normal g.most) (IsSharp (p ∷ points) rays) sharp exact.bounds exact.suprema)) l;
}
  where
    all_equations : List (List ℤ)
    all_equations = flat (directions (p ∷ points) rays p) (term_count cases)

    all_facets : List (List ℤ)
    all_facets = facets (rest_basis all_equations (term_count cases)) (p ∷ points) rays

    above : AllByRecursion (λ (x : Point). pos 0 <ℤ x.over) (p ∷ points)
    above = subst (λ (ps : List Point). AllByRecursion (λ (x : Point). pos 0 <ℤ x.over) ps) e (points-positive cases)

    IsFound : List ℤ → Type 0
    IsFound form = IsFoundFacet (term_count cases) (rest_basis all_equations (term_count cases)) (p ∷ points) rays form

    found : AllByRecursion IsFound all_facets
    found = facets-found (term_count cases) p points rays above

    exact : AreExact (term_count cases) cases (normals_at (term_count cases) (p ∷ points) rays)
    exact = exact_at cases h (p ∷ points) rays e f some

    sharp : (g : Facet) → IsSupremum cases g.normal g.most → IsSharp (p ∷ points) rays g
    sharp g s = subst (λ (ps : List Point). IsSharp ps rays g) e (subst (λ (rs : List (List ℤ)). IsSharp (points_of cases) rs g) f (supremum-sharp cases h g s))

pub normals-hull : (cases : List Change) → All IsCanonicalChange cases → HasChange cases → IsHull (term_count cases) cases (normals cases)
normals-hull cases h c = hull_at cases each (points_of cases) (rays_of cases) refl refl (change_brings cases each c)
  where
    each : AllByRecursion IsCanonicalChange cases
    each = recursion_from_All IsCanonicalChange cases h

pub hull_of : (cases : List Change) (lower : List Polynomial) (made : List (List ℤ)) → made ≡ normals cases → IsCanonicalStratum cases lower → HasChange cases → IsHull (term_count cases) cases made
hull_of cases lower made e h c = subst (IsHull (term_count cases) cases) (sym e) (normals-hull cases h.cases_too c)
