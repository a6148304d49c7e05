-- How many numbers the lines, points and rays have that are made in 128 bits.
use Rattle.std.proofs.Common.{◌≡◌, ℕ, ◌+◌, ap, ◌∙◌, List, length, ℤ}
use Rattle.std.specs.Prelude.{IsTrue, Ok}
use Rattle.linear_terms.specs.declared.col.Col.{Col}
use Rattle.linear_terms.specs.declared.row.Row.{Row}
use Rattle.farkas_check.specs.Relations.{term_count, have_equally_many}
use Rattle.farkas_check.specs.declared.stratum.Change.{Change}
use Rattle.cones.specs.Cones.{AreWide}
use Rattle.cones.specs.InBits as steps
use Rattle.cones.specs.Split.{rest_basis}
use Rattle.cones.specs.Tangents.{ArePoints}
use Rattle.cones.specs.declared.point.Point.{Point}
use Rattle.cones.proofs.Bits.{value_of, rest_basis-made}
use Rattle.cones.proofs.Making.{made_directions-wide}
use Rattle.facet_hull.specs.Images.{cone_lines}
use Rattle.facet_hull.specs.InBits as in_bits
use Rattle.facet_hull.specs.declared.images.Images.{Images}
use Rattle.facet_hull.proofs.Bits.{cone_lines-made, images, images_of-made}
use Rattle.facet_hull.proofs.Lengths.{lines_of-wide, basis_of-wide, points_of-wide, rays_of-wide}

pub made_lines-wide : (cs : List (List Col)) (rows : List Row) (lines : List (List ℤ)) → in_bits.cone_lines cs rows ≡ Ok lines → AreWide (length cs + 1) lines
made_lines-wide cs rows lines e = lines_of-wide cs rows lines (value_of (cone_lines cs rows) lines (in_bits.cone_lines cs rows) (cone_lines-made cs rows) e)

pub made_basis-wide : (vs basis : List (List ℤ)) (count : ℕ) → steps.rest_basis vs count ≡ Ok basis → AreWide count basis
made_basis-wide vs basis count e = basis_of-wide vs basis count (value_of (rest_basis vs count) basis (steps.rest_basis vs count) (rest_basis-made vs count) e)

pub made_points-wide : (cases : List Change) (found : Images) (points : List Point) (count : ℕ) → in_bits.images_of cases ≡ Ok found → points ≡ found.points → count ≡ term_count cases → IsTrue (have_equally_many cases) → ArePoints count points
made_points-wide cases found points count e is f h =
    points_of-wide cases points count (is ∙ ap (λ (i : Images). i.points) (value_of (images cases) found (in_bits.images_of cases) (images_of-made cases) e)) f h

pub made_rays-wide : (cases : List Change) (found : Images) (rays : List (List ℤ)) (count : ℕ) → in_bits.images_of cases ≡ Ok found → rays ≡ found.rays → count ≡ term_count cases → IsTrue (have_equally_many cases) → AreWide count rays
made_rays-wide cases found rays count e is f h =
    rays_of-wide cases rays count (is ∙ ap (λ (i : Images). i.rays) (value_of (images cases) found (in_bits.images_of cases) (images_of-made cases) e)) f h

pub ruleset lengths = (made_lines-wide, made_basis-wide, made_directions-wide, made_points-wide, made_rays-wide)
