-- The normals of the hull of points and rays.
use Rattle.std.specs.Prelude.{ℕ, ℤ, List, [], ◌∷◌, ◌++◌}
use Rattle.std.specs.List.{flat_map}
use Rattle.farkas_check.specs.Relations.{term_count}
use Rattle.farkas_check.specs.declared.stratum.Change.{Change}
use Rattle.cones.specs.Split.{flat, rest_basis}
use Rattle.cones.specs.Tangents.{directions, facets}
use Rattle.cones.specs.declared.point.Point.{Point}
use Rattle.facet_hull.specs.Hull.{both_signs}
use Rattle.facet_hull.specs.Images.{points_of, rays_of}

-- the equations with both signs, and the facets of points and rays beside them
abbrev pub normals_beside : List (List ℤ) → ℕ → List Point → List (List ℤ) → List (List ℤ)
normals_beside equations count points rays = flat_map both_signs equations
    ++ facets (rest_basis equations count) points rays

-- the equations: the forms that are 0 on all directions from the first point; none without a point
abbrev pub equations_at : ℕ → List Point → List (List ℤ) → List (List ℤ)
equations_at count [] rays = []
equations_at count (p ∷ points) rays = flat (directions (p ∷ points) rays p) count

-- without a point there are no normals
abbrev pub normals_at : ℕ → List Point → List (List ℤ) → List (List ℤ)
normals_at count [] rays = []
normals_at count (p ∷ points) rays =
    normals_beside (equations_at count (p ∷ points) rays) count (p ∷ points) rays

-- the equations of the changes of a body, each of whose cases has as many terms as the first
abbrev pub equations : List Change → List (List ℤ)
equations cases = equations_at (term_count cases) (points_of cases) (rays_of cases)

-- and the normals
abbrev pub normals : List Change → List (List ℤ)
normals cases = normals_at (term_count cases) (points_of cases) (rays_of cases)
