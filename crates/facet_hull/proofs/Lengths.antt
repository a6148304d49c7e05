-- How many numbers the lines, points and rays of a case have.
use Rattle.std.proofs.Common.{◌≡◌, ℕ, zero, suc, ◌+◌, Bool, true, false, cond, refl, sym, ap, subst, ◌∙◌, arith, List, [], ◌∷◌, length, ℤ}
use Rattle.std.specs.Prelude.{IsTrue}
use Rattle.std.specs.List.{AllByRecursion, flat_map}
use Rattle.std.proofs.lemmas.Bool.{eqb-true}
use Rattle.items.proofs.Each.{each-append, each-any, each-flat_map, each_from_test}
use Rattle.linear_terms.specs.declared.col.Col.{Col}
use Rattle.linear_terms.specs.declared.row.Kind.{Kind}
use Rattle.linear_terms.specs.declared.row.Kind.TheVariants.{AtMost, Equal}
use Rattle.linear_terms.specs.declared.row.Row.{Row}
use Rattle.linear_terms.specs.Polynomial.{Polynomial}
use Rattle.farkas_check.specs.Frames.{line_of}
use Rattle.farkas_check.specs.Relations.{entry, term_count, has_count, have_equally_many}
use Rattle.farkas_check.specs.declared.stratum.Change.{Change}
use Rattle.cones.specs.Cones.{AreWide}
use Rattle.cones.specs.Split.{rest_basis}
use Rattle.cones.specs.Tangents.{ArePoints, directions}
use Rattle.cones.specs.Vectors.{lowest}
use Rattle.cones.specs.declared.point.Point.{Point}
use Rattle.cones.proofs.Tangency.{directions-wide}
use Rattle.cones.proofs.Widths.{lowest-length}
use Rattle.facet_hull.specs.Images.{columns_of, far, lines_by, row_lines, cone_lines, flat_vectors, extreme_vectors, image, is_corner, point_of, ray_of, points_in, line_ways, all_rays_in, rays_from, rays_in, points_of, rays_of}
use Rattle.facet_hull.proofs.Wide.{opposite-length, rest_basis-wide}

-- ---- lines

line_of-length : (cs : List (List Col)) (p : Polynomial) → length (line_of cs p) ≡ length cs + 1
line_of-length [] p = refl
line_of-length (c ∷ cs) p = let e = line_of-length cs p in omega (arith, e)

far-length : (n : ℕ) → length (far n) ≡ n + 1
far-length zero = refl
far-length (suc n) = let e = far-length n in omega (arith, e)

lines_by-wide : (count : ℕ) (kind : Kind) (line : List ℤ) → length line ≡ count → AreWide count (lines_by kind line)
lines_by-wide count AtMost line e = (e, tt)
lines_by-wide count Equal line e = (e, (opposite-length line ∙ e, tt))

cone_lines-wide : (cs : List (List Col)) (rows : List Row) → AreWide (length cs + 1) (cone_lines cs rows)
cone_lines-wide cs rows = (far-length (length cs), each-flat_map (λ (row : Row). Unit {0}) (λ (v : List ℤ). length v ≡ length cs + 1) (row_lines cs) (λ row u. lines_by-wide (length cs + 1) row.kind (line_of cs row.poly) (line_of-length cs row.poly)) rows (each-any (λ (row : Row). Unit {0}) (λ row. tt) rows))

pub lines_of-wide : (cs : List (List Col)) (rows : List Row) (lines : List (List ℤ)) → lines ≡ cone_lines cs rows → AreWide (length cs + 1) lines
lines_of-wide cs rows lines e = subst (AreWide (length cs + 1)) (sym e) (cone_lines-wide cs rows)

pub basis_of-wide : (vs basis : List (List ℤ)) (count : ℕ) → basis ≡ rest_basis vs count → AreWide count basis
basis_of-wide vs basis count e = subst (AreWide count) (sym e) (rest_basis-wide vs count)

pub directions_to-wide : (count : ℕ) (points : List Point) (rays : List (List ℤ)) (p : Point) (lines : List (List ℤ)) → lines ≡ directions points rays p → ArePoints count points → AreWide count rays → length p.numbers ≡ count → AreWide count lines
directions_to-wide count points rays p lines e h k l = subst (AreWide count) (sym e) (directions-wide count points rays p h k l)

-- ---- points and rays

image-length : (cs : List (List Col)) (terms : List Polynomial) (v : List ℤ) → length (image cs terms v) ≡ length terms
image-length cs [] v = refl
image-length cs (t ∷ terms) v = ap (λ (n : ℕ). suc n) (image-length cs terms v)

points_in-wide : (cs : List (List Col)) (case : Change) → ArePoints (length case.terms) (points_in cs case)
points_in-wide cs case = each-flat_map (λ (v : List ℤ). Unit {0}) (λ (p : Point). length p.numbers ≡ length case.terms) (point_of cs case.terms) (λ v u. go v (is_corner cs v)) (extreme_vectors cs case.rows) (each-any (λ (v : List ℤ). Unit {0}) (λ v. tt) (extreme_vectors cs case.rows))
  where
    go : (v : List ℤ) (b : Bool) → ArePoints (length case.terms) (cond b (record { numbers = image cs case.terms v; over = entry v (length cs) } ∷ []) [])
    go v true = (image-length cs case.terms v, tt)
    go v false = tt

ray-length : (cs : List (List Col)) (terms : List Polynomial) (v : List ℤ) → length (lowest (image cs terms v)) ≡ length terms
ray-length cs terms v = lowest-length (image cs terms v) ∙ image-length cs terms v

rays_in-wide : (cs : List (List Col)) (case : Change) → AreWide (length case.terms) (rays_in cs case)
rays_in-wide cs case = counted (points_in cs case)
  where
    along : (v : List ℤ) (b : Bool) → AreWide (length case.terms) (cond b [] (lowest (image cs case.terms v) ∷ []))
    along v true = tt
    along v false = (ray-length cs case.terms v, tt)

    all : AreWide (length case.terms) (all_rays_in cs case)
    all =
        each-append (λ (v : List ℤ). length v ≡ length case.terms) (flat_map (ray_of cs case.terms) (extreme_vectors cs case.rows)) (flat_map (line_ways cs case.terms) (flat_vectors cs case.rows))
        (each-flat_map (λ (v : List ℤ). Unit {0}) (λ (v : List ℤ). length v ≡ length case.terms) (ray_of cs case.terms) (λ v u. along v (is_corner cs v)) (extreme_vectors cs case.rows) (each-any (λ (v : List ℤ). Unit {0}) (λ v. tt) (extreme_vectors cs case.rows)))
        (each-flat_map (λ (v : List ℤ). Unit {0}) (λ (v : List ℤ). length v ≡ length case.terms) (line_ways cs case.terms)
        (λ v u. (ray-length cs case.terms v, (opposite-length (lowest (image cs case.terms v)) ∙ ray-length cs case.terms v, tt))) (flat_vectors cs case.rows) (each-any (λ (v : List ℤ). Unit {0}) (λ v. tt) (flat_vectors cs case.rows)))

    counted : (points : List Point) → AreWide (length case.terms) (rays_from points (all_rays_in cs case))
    counted [] = tt
    counted (p ∷ points) = all

-- each case has as many terms as the first
equal_counts : (cases : List Change) → IsTrue (have_equally_many cases) → AllByRecursion (λ (case : Change). length case.terms ≡ term_count cases) cases
equal_counts cases h = each_from_test (has_count (term_count cases)) (λ (case : Change). length case.terms ≡ term_count cases) (λ case e. eqb-true (length case.terms) (term_count cases) e) cases h

pub points_of-wide : (cases : List Change) (points : List Point) (count : ℕ) → points ≡ points_of cases → count ≡ term_count cases → IsTrue (have_equally_many cases) → ArePoints count points
points_of-wide cases points count e f h =
    subst (λ (ps : List Point). ArePoints count ps) (sym e)
    (subst (λ (n : ℕ). ArePoints n (points_of cases)) (sym f)
    (each-flat_map (λ (case : Change). length case.terms ≡ term_count cases) (λ (p : Point). length p.numbers ≡ term_count cases) (λ case. points_in (columns_of case) case)
    (λ case k. subst (λ (n : ℕ). ArePoints n (points_in (columns_of case) case)) k (points_in-wide (columns_of case) case)) cases (equal_counts cases h)))

pub rays_of-wide : (cases : List Change) (rays : List (List ℤ)) (count : ℕ) → rays ≡ rays_of cases → count ≡ term_count cases → IsTrue (have_equally_many cases) → AreWide count rays
rays_of-wide cases rays count e f h =
    subst (λ (ps : List (List ℤ)). AreWide count ps) (sym e)
    (subst (λ (n : ℕ). AreWide n (rays_of cases)) (sym f)
    (each-flat_map (λ (case : Change). length case.terms ≡ term_count cases) (λ (v : List ℤ). length v ≡ term_count cases) (λ case. rays_in (columns_of case) case)
    (λ case k. subst (λ (n : ℕ). AreWide n (rays_in (columns_of case) case)) k (rays_in-wide (columns_of case) case)) cases (equal_counts cases h)))

pub ruleset lengths = (lines_of-wide, basis_of-wide, directions_to-wide, points_of-wide, rays_of-wide)
