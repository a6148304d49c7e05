-- The points, rays and normals in 128 bits: what each comes to, or the first step that leaves 128
-- bits. Cases, rows, vectors and terms are taken in their order; of a case first its lines, then
-- what the search finds, then the points and the rays.
use Rattle.std.specs.Prelude.{ℕ, ◌+◌, ℤ, List, [], ◌∷◌, ◌++◌, length, Ok, if◌then◌else◌}
use Rattle.items.specs.Gives.{◌>>=◌}
use Rattle.linear_terms.specs.Polynomial.{Polynomial}
use Rattle.linear_terms.specs.declared.col.Col.{Col}
use Rattle.linear_terms.specs.declared.row.Kind.{Kind}
use Rattle.linear_terms.specs.declared.row.Kind.TheVariants.{AtMost, Equal}
use Rattle.linear_terms.specs.declared.row.Row.{Row}
use Rattle.farkas_check.specs.Frames.{line_of}
use Rattle.farkas_check.specs.Relations.{entry, term_count}
use Rattle.farkas_check.specs.declared.stratum.Change.{Change}
use Rattle.cones.specs.InBits.{Made, behind, each, all_of, dot, opposite, extremes, flat, rest_basis, directions, facets}
use Rattle.cones.specs.Vectors.{lowest}
use Rattle.cones.specs.declared.point.Point.{Point}
use Rattle.facet_hull.specs.Images.{columns_of, far, is_corner}
use Rattle.facet_hull.specs.declared.case_cone.CaseCone.{CaseCone}
use Rattle.facet_hull.specs.declared.images.Images.{Images}

-- ---- the cone of a case

-- a form, and the same with each sign turned
abbrev pub both_signs : List ℤ → Made (List (List ℤ))
both_signs form = opposite form >>= λ turned. Ok (form ∷ turned ∷ [])

-- a line, and for an equation its opposite too
abbrev pub lines_by : Kind → List ℤ → Made (List (List ℤ))
lines_by AtMost line = Ok (line ∷ [])
lines_by Equal line = both_signs line

-- the lines of a row
abbrev pub row_lines : List (List Col) → Row → Made (List (List ℤ))
row_lines cs row = lines_by row.kind (line_of cs row.poly)

-- the lines of all rows, and before them that the denominator is not negative
abbrev pub cone_lines : List (List Col) → List Row → Made (List (List ℤ))
cone_lines cs rows = behind (far (length cs) ∷ []) (all_of (row_lines cs) rows)

-- what the search finds in the cone that lines bound, in vectors of so many numbers
abbrev pub cone_from : List (List ℤ) → ℕ → Made CaseCone
cone_from lines count = flat lines count >>= λ flats. rest_basis flats count
    >>= λ basis. extremes lines lines basis >>= λ found. Ok record {
      flats = flats;
      extremes = found;
    }

-- what the search finds in the cone of a case
abbrev pub case_cone : List (List Col) → List Row → Made CaseCone
case_cone cs rows = cone_lines cs rows >>= λ lines. cone_from lines (length cs + 1)

-- ---- pushed through the terms

-- the value of each term on a vector, times the denominator
abbrev pub image : List (List Col) → List Polynomial → List ℤ → Made (List ℤ)
image cs terms v = each (λ t. dot (line_of cs t) v) terms

-- the point of a corner, and nothing of a ray
abbrev pub point_of : List (List Col) → List Polynomial → List ℤ → Made (List Point)
point_of cs terms v = if is_corner cs v
    then (image cs terms v >>= λ made. Ok (record { numbers = made; over = entry v (length cs) }
    ∷ []))
    else Ok []

-- the ray without common divisor, and nothing of a corner
abbrev pub ray_of : List (List Col) → List Polynomial → List ℤ → Made (List (List ℤ))
ray_of cs terms v = if is_corner cs v then Ok []
    else (image cs terms v >>= λ made. Ok (lowest made ∷ []))

-- a flat vector gives a ray both ways
abbrev pub line_ways : List (List Col) → List Polynomial → List ℤ → Made (List (List ℤ))
line_ways cs terms v = image cs terms v >>= λ made. both_signs (lowest made)

-- the rays of what the search found
abbrev pub all_rays : List (List Col) → List Polynomial → CaseCone → Made (List (List ℤ))
all_rays cs terms cone = all_of (ray_of cs terms) cone.extremes
    >>= λ rays. behind rays (all_of (line_ways cs terms) cone.flats)

-- rays are made where there is a point that goes along them
abbrev pub rays_from : List Point → Made (List (List ℤ)) → Made (List (List ℤ))
rays_from [] rays = Ok []
rays_from (p ∷ points) rays = rays

-- the points and rays of what the search found
abbrev pub images_from : List (List Col) → List Polynomial → CaseCone → Made Images
images_from cs terms cone = all_of (point_of cs terms) cone.extremes
    >>= λ points. rays_from points (all_rays cs terms cone) >>= λ rays. Ok record {
      points = points;
      rays = rays;
    }

-- the points and rays of the changes of a case
abbrev pub images_in : List (List Col) → Change → Made Images
images_in cs case = case_cone cs case.rows >>= λ cone. images_from cs case.terms cone

-- ---- of all cases

-- points and rays, and others behind them
abbrev pub both_images : Images → Images → Images
both_images own more = record { points = own.points ++ more.points; rays = own.rays ++ more.rays }

-- the points and rays of each case, one case after another
abbrev pub images_of : List Change → Made Images
images_of [] = Ok record { points = []; rays = [] }
images_of (case ∷ cases) = images_in (columns_of case) case
    >>= λ own. images_of cases >>= λ more. Ok (both_images own more)

-- ---- normals

-- the equations with both signs, and the facets of points and rays beside them
abbrev pub normals_beside : List (List ℤ) → ℕ → List Point → List (List ℤ) → Made (List (List ℤ))
normals_beside equations count points rays = all_of both_signs equations
    >>= λ signed. rest_basis equations count >>= λ basis. behind signed (facets basis points rays)

-- the forms that are 0 on all directions from a point
abbrev pub equations_from : Point → ℕ → List Point → List (List ℤ) → Made (List (List ℤ))
equations_from p count points rays = directions points rays p >>= λ lines. flat lines count

-- without a point there are no normals
abbrev pub normals_at : ℕ → List Point → List (List ℤ) → Made (List (List ℤ))
normals_at count [] rays = Ok []
normals_at count (p ∷ points) rays = equations_from p count (p ∷ points) rays
    >>= λ equations. normals_beside equations count (p ∷ points) rays

-- the normals of the changes of a body, each of whose cases has as many terms as the first
abbrev pub normals : List Change → Made (List (List ℤ))
normals cases =
    images_of cases >>= λ images. normals_at (term_count cases) images.points images.rays
