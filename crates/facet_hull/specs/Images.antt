-- The points and rays of the changes of a case. Its rational points are vectors: their numerators at
-- the case's columns, and last the denominator. The rows are lines, which are at most 0 on them, and
-- what the search finds in this cone is pushed through the terms.
use Rattle.std.specs.Prelude.{ℕ, ◌+◌, ℤ, pos, negsuc, List, [], ◌∷◌, ◌++◌, map, length, Bool, int_lt, if◌then◌else◌}
use Rattle.std.specs.List.{flat_map}
use Rattle.whole_numbers.specs.Dot.{dot}
use Rattle.linear_terms.specs.Polynomial.{Polynomial}
use Rattle.linear_terms.specs.declared.col.Col.{Col}
use Rattle.linear_terms.specs.declared.row.Kind.{Kind}
use Rattle.linear_terms.specs.declared.row.Kind.TheVariants.{AtMost, Equal}
use Rattle.linear_terms.specs.declared.row.Row.{Row}
use Rattle.farkas_check.specs.Frames.{line_of}
use Rattle.farkas_check.specs.Relations.{entry, stratum_columns}
use Rattle.farkas_check.specs.declared.stratum.Change.{Change}
use Rattle.cones.specs.Cones.{extremes}
use Rattle.cones.specs.Split.{zeros, flat, rest_basis}
use Rattle.cones.specs.declared.point.Point.{Point}
use Rattle.cones.specs.Vectors.{lowest}
use Rattle.facet_hull.specs.Hull.{both_signs}

-- ---- the cone of a case

-- the monomials of its rows and terms, in print order, each once
abbrev pub columns_of : Change → List (List Col)
columns_of case = stratum_columns (case ∷ []) []

-- minus the denominator, which stands behind so many numbers
abbrev pub far : ℕ → List ℤ
far count = zeros count ++ negsuc 0 ∷ []

-- a line, and for an equation its opposite too
abbrev pub lines_by : Kind → List ℤ → List (List ℤ)
lines_by AtMost line = line ∷ []
lines_by Equal line = both_signs line

-- the lines of a row: its numbers at the columns, and its constant
abbrev pub row_lines : List (List Col) → Row → List (List ℤ)
row_lines cs row = lines_by row.kind (line_of cs row.poly)

-- the lines of all rows, and before them that the denominator is not negative
abbrev pub cone_lines : List (List Col) → List Row → List (List ℤ)
cone_lines cs rows = far (length cs) ∷ flat_map (row_lines cs) rows

-- ---- what the search finds in it

-- the vectors on which all lines are 0
abbrev pub flat_vectors : List (List Col) → List Row → List (List ℤ)
flat_vectors cs rows = flat (cone_lines cs rows) (length cs + 1)

-- the extreme vectors, by a basis that goes with the flat ones
abbrev pub extreme_vectors : List (List Col) → List Row → List (List ℤ)
extreme_vectors cs rows = extremes (cone_lines cs rows) (cone_lines cs rows)
    (rest_basis (flat_vectors cs rows) (length cs + 1))

-- ---- pushed through the terms

-- the value of each term on a vector, times the denominator
abbrev pub image : List (List Col) → List Polynomial → List ℤ → List ℤ
image cs terms v = map (λ t. dot (line_of cs t) v) terms

-- a vector with a positive denominator is a corner, any other one a ray
abbrev pub is_corner : List (List Col) → List ℤ → Bool
is_corner cs v = int_lt (pos 0) (entry v (length cs))

-- the point of a corner, and nothing of a ray
abbrev pub point_of : List (List Col) → List Polynomial → List ℤ → List Point
point_of cs terms v =
    if is_corner cs v then record { numbers = image cs terms v; over = entry v (length cs) } ∷ []
    else []

-- the ray without common divisor, and nothing of a corner
abbrev pub ray_of : List (List Col) → List Polynomial → List ℤ → List (List ℤ)
ray_of cs terms v = if is_corner cs v then [] else lowest (image cs terms v) ∷ []

-- the points of the changes of a case
abbrev pub points_in : List (List Col) → Change → List Point
points_in cs case = flat_map (point_of cs case.terms) (extreme_vectors cs case.rows)

-- a flat vector gives a ray both ways
abbrev pub line_ways : List (List Col) → List Polynomial → List ℤ → List (List ℤ)
line_ways cs terms v = both_signs (lowest (image cs terms v))

-- the rays of the changes of a case
abbrev pub all_rays_in : List (List Col) → Change → List (List ℤ)
all_rays_in cs case = flat_map (ray_of cs case.terms) (extreme_vectors cs case.rows)
    ++ flat_map (line_ways cs case.terms) (flat_vectors cs case.rows)

-- rays count where there is a point that goes along them
abbrev pub rays_from : List Point → List (List ℤ) → List (List ℤ)
rays_from [] rays = []
rays_from (p ∷ points) rays = rays

-- the rays of a case that has a point
abbrev pub rays_in : List (List Col) → Change → List (List ℤ)
rays_in cs case = rays_from (points_in cs case) (all_rays_in cs case)

-- ---- of all cases

-- the points of each case, one case after another
abbrev pub points_of : List Change → List Point
points_of cases = flat_map (λ case. points_in (columns_of case) case) cases

-- and the rays
abbrev pub rays_of : List Change → List (List ℤ)
rays_of cases = flat_map (λ case. rays_in (columns_of case) case) cases
