-- What steps of 128 bits come to is what is defined, where none of them leaves 128 bits.
use Rattle.std.proofs.Common.{ℕ, ◌+◌, Bool, true, false, cond, refl, List, [], ◌∷◌, ◌++◌, length, ℤ}
use Rattle.std.specs.Prelude.{Ok}
use Rattle.std.specs.List.{flat_map}
use Rattle.items.specs.Gives.{◌>>=◌}
use Rattle.whole_numbers.specs.Dot.{dot}
use Rattle.linear_terms.specs.declared.col.Col.{Col}
use Rattle.linear_terms.specs.declared.row.Kind.{Kind}
use Rattle.linear_terms.specs.declared.row.Kind.TheVariants.{AtMost, Equal}
use Rattle.linear_terms.specs.declared.row.Row.{Row}
use Rattle.linear_terms.specs.Polynomial.{Polynomial}
use Rattle.farkas_check.specs.Frames.{line_of}
use Rattle.farkas_check.specs.Relations.{entry, term_count}
use Rattle.farkas_check.specs.declared.stratum.Change.{Change}
use Rattle.cones.specs.Cones.{extremes}
use Rattle.cones.specs.InBits.{Made, IsOrLeaves, behind, each, all_of}
use Rattle.cones.specs.InBits as steps
use Rattle.cones.specs.Split.{flat, rest_basis}
use Rattle.cones.specs.Tangents.{directions, facets}
use Rattle.cones.specs.Vectors.{lowest, opposite}
use Rattle.cones.specs.declared.point.Point.{Point}
use Rattle.cones.proofs.Bits.{IsOrLeaves-bind, behind-made, each-made, all_of-made, dot-made, opposite-made, flat-made, rest_basis-made, extremes-made, directions-made, facets-made}
use Rattle.facet_hull.specs.Hull.{both_signs}
use Rattle.facet_hull.specs.Images.{columns_of, far, lines_by, row_lines, cone_lines, image, is_corner, point_of, ray_of, points_in, line_ways, rays_from, rays_in, points_of, rays_of}
use Rattle.facet_hull.specs.InBits as in_bits
use Rattle.facet_hull.specs.Normals.{normals_beside, equations_at, normals_at, normals}
use Rattle.facet_hull.specs.declared.case_cone.CaseCone.{CaseCone}
use Rattle.facet_hull.specs.declared.images.Images.{Images}

-- ---- the cone of a case

both_signs-made : (form : List ℤ) → IsOrLeaves (both_signs form) (in_bits.both_signs form)
both_signs-made form = IsOrLeaves-bind (opposite form) (both_signs form) (steps.opposite form) (λ turned. Ok (form ∷ turned ∷ [])) (opposite-made form) refl

lines_by-made : (kind : Kind) (line : List ℤ) → IsOrLeaves (lines_by kind line) (in_bits.lines_by kind line)
lines_by-made AtMost line = refl
lines_by-made Equal line = both_signs-made line

row_lines-made : (cs : List (List Col)) (row : Row) → IsOrLeaves (row_lines cs row) (in_bits.row_lines cs row)
row_lines-made cs row = lines_by-made row.kind (line_of cs row.poly)

pub cone_lines-made : (cs : List (List Col)) (rows : List Row) → IsOrLeaves (cone_lines cs rows) (in_bits.cone_lines cs rows)
cone_lines-made cs rows = behind-made (far (length cs) ∷ []) (flat_map (row_lines cs) rows) (all_of (in_bits.row_lines cs) rows) (all_of-made (in_bits.row_lines cs) (row_lines cs) (row_lines-made cs) rows)

-- what the search finds in the cone that lines bound
abbrev cone_by : List (List ℤ) → ℕ → CaseCone
cone_by lines count = record { flats = flat lines count; extremes = extremes lines lines (rest_basis (flat lines count) count) }

cone_from-made : (lines : List (List ℤ)) (count : ℕ) → IsOrLeaves (cone_by lines count) (in_bits.cone_from lines count)
cone_from-made lines count =
    IsOrLeaves-bind flats (cone_by lines count) (steps.flat lines count) _ (flat-made lines count)
    (IsOrLeaves-bind basis (cone_by lines count) (steps.rest_basis flats count) _ (rest_basis-made flats count)
    (IsOrLeaves-bind (extremes lines lines basis) (cone_by lines count) (steps.extremes lines lines basis) (λ found. Ok record { flats = flats; extremes = found }) (extremes-made lines lines basis) refl))
  where
    flats : List (List ℤ)
    flats = flat lines count

    basis : List (List ℤ)
    basis = rest_basis flats count

-- what the search finds in the cone of a case
abbrev cone_of : List (List Col) → List Row → CaseCone
cone_of cs rows = cone_by (cone_lines cs rows) (length cs + 1)

case_cone-made : (cs : List (List Col)) (rows : List Row) → IsOrLeaves (cone_of cs rows) (in_bits.case_cone cs rows)
case_cone-made cs rows = IsOrLeaves-bind (cone_lines cs rows) (cone_of cs rows) (in_bits.cone_lines cs rows) (λ lines. in_bits.cone_from lines (length cs + 1)) (cone_lines-made cs rows) (cone_from-made (cone_lines cs rows) (length cs + 1))

-- ---- pushed through the terms

image-made : (cs : List (List Col)) (terms : List Polynomial) (v : List ℤ) → IsOrLeaves (image cs terms v) (in_bits.image cs terms v)
image-made cs terms v = each-made (λ t. steps.dot (line_of cs t) v) (λ t. dot (line_of cs t) v) (λ t. dot-made (line_of cs t) v) terms

point_of-made : (cs : List (List Col)) (terms : List Polynomial) (v : List ℤ) → IsOrLeaves (point_of cs terms v) (in_bits.point_of cs terms v)
point_of-made cs terms v = go (is_corner cs v)
  where
    point : List ℤ → List Point
    point numbers = record { numbers = numbers; over = entry v (length cs) } ∷ []

    go : (b : Bool) → IsOrLeaves (cond b (point (image cs terms v)) []) (cond b (in_bits.image cs terms v >>= λ made. Ok (point made)) (Ok []))
    go true = IsOrLeaves-bind (image cs terms v) (point (image cs terms v)) (in_bits.image cs terms v) (λ made. Ok (point made)) (image-made cs terms v) refl
    go false = refl

ray_of-made : (cs : List (List Col)) (terms : List Polynomial) (v : List ℤ) → IsOrLeaves (ray_of cs terms v) (in_bits.ray_of cs terms v)
ray_of-made cs terms v = go (is_corner cs v)
  where
    go : (b : Bool) → IsOrLeaves (cond b [] (lowest (image cs terms v) ∷ [])) (cond b (Ok []) (in_bits.image cs terms v >>= λ made. Ok (lowest made ∷ [])))
    go true = refl
    go false = IsOrLeaves-bind (image cs terms v) (lowest (image cs terms v) ∷ []) (in_bits.image cs terms v) (λ made. Ok (lowest made ∷ [])) (image-made cs terms v) refl

line_ways-made : (cs : List (List Col)) (terms : List Polynomial) (v : List ℤ) → IsOrLeaves (line_ways cs terms v) (in_bits.line_ways cs terms v)
line_ways-made cs terms v =
    IsOrLeaves-bind (image cs terms v) (line_ways cs terms v) (in_bits.image cs terms v) (λ made. in_bits.both_signs (lowest made)) (image-made cs terms v) (both_signs-made (lowest (image cs terms v)))

-- the rays of what the search found
abbrev rays_of_cone : List (List Col) → List Polynomial → CaseCone → List (List ℤ)
rays_of_cone cs terms cone = flat_map (ray_of cs terms) cone.extremes ++ flat_map (line_ways cs terms) cone.flats

all_rays-made : (cs : List (List Col)) (terms : List Polynomial) (cone : CaseCone) → IsOrLeaves (rays_of_cone cs terms cone) (in_bits.all_rays cs terms cone)
all_rays-made cs terms cone =
    IsOrLeaves-bind (flat_map (ray_of cs terms) cone.extremes) (rays_of_cone cs terms cone) (all_of (in_bits.ray_of cs terms) cone.extremes) (λ rays. behind rays (all_of (in_bits.line_ways cs terms) cone.flats))
    (all_of-made (in_bits.ray_of cs terms) (ray_of cs terms) (ray_of-made cs terms) cone.extremes)
    (behind-made (flat_map (ray_of cs terms) cone.extremes) (flat_map (line_ways cs terms) cone.flats) (all_of (in_bits.line_ways cs terms) cone.flats)
    (all_of-made (in_bits.line_ways cs terms) (line_ways cs terms) (line_ways-made cs terms) cone.flats))

rays_from-made : (points : List Point) (rays : List (List ℤ)) (r : Made (List (List ℤ))) → IsOrLeaves rays r → IsOrLeaves (rays_from points rays) (in_bits.rays_from points r)
rays_from-made [] rays r h = refl
rays_from-made (p ∷ points) rays r h = h

-- the points and rays of what the search found
abbrev images_of_cone : List (List Col) → List Polynomial → CaseCone → Images
images_of_cone cs terms cone = record {
  points = flat_map (point_of cs terms) cone.extremes;
  rays = rays_from (flat_map (point_of cs terms) cone.extremes) (rays_of_cone cs terms cone);
}

images_from-made : (cs : List (List Col)) (terms : List Polynomial) (cone : CaseCone) → IsOrLeaves (images_of_cone cs terms cone) (in_bits.images_from cs terms cone)
images_from-made cs terms cone =
    IsOrLeaves-bind points (images_of_cone cs terms cone) (all_of (in_bits.point_of cs terms) cone.extremes) (λ made. in_bits.rays_from made (in_bits.all_rays cs terms cone) >>= λ rays. Ok record { points = made; rays = rays })
    (all_of-made (in_bits.point_of cs terms) (point_of cs terms) (point_of-made cs terms) cone.extremes)
    (IsOrLeaves-bind (rays_from points (rays_of_cone cs terms cone)) (images_of_cone cs terms cone) (in_bits.rays_from points (in_bits.all_rays cs terms cone)) (λ rays. Ok record { points = points; rays = rays })
    (rays_from-made points (rays_of_cone cs terms cone) (in_bits.all_rays cs terms cone) (all_rays-made cs terms cone)) refl)
  where
    points : List Point
    points = flat_map (point_of cs terms) cone.extremes

-- the points and rays of the changes of a case
abbrev images_of_case : List (List Col) → Change → Images
images_of_case cs case = record { points = points_in cs case; rays = rays_in cs case }

images_in-made : (cs : List (List Col)) (case : Change) → IsOrLeaves (images_of_case cs case) (in_bits.images_in cs case)
images_in-made cs case =
    IsOrLeaves-bind (cone_of cs case.rows) (images_of_case cs case) (in_bits.case_cone cs case.rows) (λ cone. in_bits.images_from cs case.terms cone) (case_cone-made cs case.rows) (images_from-made cs case.terms (cone_of cs case.rows))

-- ---- of all cases

-- the points and rays of the changes of a body
abbrev pub images : List Change → Images
images cases = record { points = points_of cases; rays = rays_of cases }

pub images_of-made : (cases : List Change) → IsOrLeaves (images cases) (in_bits.images_of cases)
images_of-made [] = refl
images_of-made (case ∷ cases) =
    IsOrLeaves-bind (images_of_case (columns_of case) case) (images (case ∷ cases)) (in_bits.images_in (columns_of case) case) (λ own. in_bits.images_of cases >>= λ more. Ok (in_bits.both_images own more)) (images_in-made (columns_of case) case)
    (IsOrLeaves-bind (images cases) (images (case ∷ cases)) (in_bits.images_of cases) (λ more. Ok (in_bits.both_images (images_of_case (columns_of case) case) more)) (images_of-made cases) refl)

-- ---- normals

normals_beside-made : (equations : List (List ℤ)) (count : ℕ) (points : List Point) (rays : List (List ℤ)) → IsOrLeaves (normals_beside equations count points rays) (in_bits.normals_beside equations count points rays)
normals_beside-made equations count points rays =
    IsOrLeaves-bind signed all (all_of in_bits.both_signs equations) (λ made. steps.rest_basis equations count >>= λ basis. behind made (steps.facets basis points rays)) (all_of-made in_bits.both_signs both_signs both_signs-made equations)
    (IsOrLeaves-bind basis all (steps.rest_basis equations count) (λ found. behind signed (steps.facets found points rays)) (rest_basis-made equations count)
    (behind-made signed (facets basis points rays) (steps.facets basis points rays) (facets-made basis points rays)))
  where
    signed : List (List ℤ)
    signed = flat_map both_signs equations

    basis : List (List ℤ)
    basis = rest_basis equations count

    all : List (List ℤ)
    all = normals_beside equations count points rays

equations_from-made : (p : Point) (count : ℕ) (points : List Point) (rays : List (List ℤ)) → IsOrLeaves (flat (directions points rays p) count) (in_bits.equations_from p count points rays)
equations_from-made p count points rays =
    IsOrLeaves-bind (directions points rays p) (flat (directions points rays p) count) (steps.directions points rays p) (λ lines. steps.flat lines count) (directions-made points rays p) (flat-made (directions points rays p) count)

normals_at-made : (count : ℕ) (points : List Point) (rays : List (List ℤ)) → IsOrLeaves (normals_at count points rays) (in_bits.normals_at count points rays)
normals_at-made count [] rays = refl
normals_at-made count (p ∷ points) rays =
    IsOrLeaves-bind (equations_at count (p ∷ points) rays) (normals_at count (p ∷ points) rays) (in_bits.equations_from p count (p ∷ points) rays) (λ equations. in_bits.normals_beside equations count (p ∷ points) rays)
    (equations_from-made p count (p ∷ points) rays) (normals_beside-made (equations_at count (p ∷ points) rays) count (p ∷ points) rays)

pub normals-made : (cases : List Change) → IsOrLeaves (normals cases) (in_bits.normals cases)
normals-made cases =
    IsOrLeaves-bind (images cases) (normals cases) (in_bits.images_of cases) (λ found. in_bits.normals_at (term_count cases) found.points found.rays) (images_of-made cases) (normals_at-made (term_count cases) (points_of cases) (rays_of cases))
