-- The search in small bodies never leaves 128 bits.
use Rattle.std.proofs.Common.{◌≡◌, ℕ, zero, suc, ◌+◌, ◌*◌, ◌^◌, ◌<◌, ◌≤◌, Bool, true, false, cond, refl, ap, arith, List, [], ◌∷◌, ◌++◌, map, length, ℤ, negsuc}
use Rattle.std.specs.Prelude.{IsOkAnd, Option, None, Some, Ok, Err, unsigned_abs}
use Rattle.std.specs.List.{AllByRecursion}
use Rattle.std.specs.Ordering.{eq_by_cmp}
use Rattle.std.proofs.Math.Nat.{mul-le-mul_left}
use Rattle.items.specs.Gives.{◌>>=◌}
use Rattle.items.proofs.Each.{each-append, each-more}
use Rattle.linear_terms.specs.declared.col.Col.{Col}
use Rattle.linear_terms.specs.declared.row.Case.{Case}
use Rattle.linear_terms.specs.declared.row.Kind.{Kind}
use Rattle.linear_terms.specs.declared.row.Kind.TheVariants.{AtMost, Equal}
use Rattle.linear_terms.specs.declared.row.Row.{Row}
use Rattle.linear_terms.specs.Expressions.{or_zero}
use Rattle.linear_terms.specs.Mono.{mono_cmp}
use Rattle.linear_terms.specs.Polynomial.{Terms, Polynomial, coefficient_in}
use Rattle.farkas_check.specs.Frames.{line_of}
use Rattle.farkas_check.specs.Relations.{entry, term_count}
use Rattle.farkas_check.specs.Sizes.{HasNumbersUpTo}
use Rattle.farkas_check.specs.declared.answer.Limit.{Limit as AnswerLimit}
use Rattle.farkas_check.specs.declared.stratum.Change.{Change}
use Rattle.transition_formula.specs.Transition.{Transition}
use Rattle.polyhedra.specs.Changes.{change, changes_in, lost_changes, modified_variables}
use Rattle.cones.specs.InBits as steps
use Rattle.cones.specs.Split.{zeros}
use Rattle.cones.specs.Vectors.{lowest}
use Rattle.cones.specs.declared.point.Point.{Point}
use Rattle.facet_hull.specs.Facets.{facets_of, facets_by, first_limit, hull_cases, is_beyond, limit_or}
use Rattle.facet_hull.specs.Images.{columns_of, far, is_corner}
use Rattle.facet_hull.specs.InBits as in_bits
use Rattle.facet_hull.specs.declared.outcome.Facets.TheVariants.{Beyond, Limit}
use Rattle.hull_limits.specs.Laws.{SmallBodiesHaveNoLimit}
use Rattle.hull_limits.specs.Small.{HasFewColumns, HasSmallNumbers}
use Rattle.hull_limits.proofs.SmallChanges.{changes-small, nothing_lost}
use Rattle.hull_limits.proofs.ConeImages.{AreImages, ArePushed, HasImages, Images, IsCone, both_signs-make, cone_from-makes, images_in-make, images_of-make, normals_at-make, normals-make}
use Rattle.hull_limits.proofs.Magnitudes.{IsWithin, AreWithin, total, combination_each-makes, dot-makes, lowest-within, opposite-makes, opposite_number-makes}
use Rattle.hull_limits.proofs.Growth.{HaveGrown, IsEnough, growth, grown-tops, growth-is_kept, units-grown, units-within, zeros-within}
use Rattle.hull_limits.proofs.MadeSteps.{IsMade, IsOkAnd-bind, IsOkAnd-more, behind-makes, all_of-makes, each-makes}

-- ---- lines of polynomials

coefficient-within : (n : ℕ) (terms : Terms) (m : List Col) → AllByRecursion (λ (t : List Col × ℤ). unsigned_abs t.1 ≤ n) terms → IsWithin n (coefficient_in terms m)
coefficient-within n [] m h = omega arith
coefficient-within n (t ∷ ts) m h = go (eq_by_cmp mono_cmp t.0 m) (coefficient-within n ts m h.1)
  where
    go : (b : Bool) → IsWithin n (coefficient_in ts m) → IsWithin n (cond b t.1 (coefficient_in ts m))
    go true later = h.0
    go false later = later

pub line_of-within : (n : ℕ) (cs : List (List Col)) (p : Polynomial) → HasNumbersUpTo n p → AreWithin n (line_of cs p)
line_of-within n [] p h = (h.rest, tt)
line_of-within n (c ∷ cs) p h = (coefficient-within n p.terms c h.terms, line_of-within n cs p h)

entry-within : (v : List ℤ) (k : ℕ) → unsigned_abs (entry v k) ≤ total v
entry-within [] k = omega arith
entry-within (z ∷ v) zero = omega arith
entry-within (z ∷ v) (suc k) = let own : unsigned_abs (entry v k) ≤ total v = entry-within v k in omega (arith, own)

-- ---- the cone of a case

pub cone_lines-make : (n : ℕ) (cs : List (List Col)) (rows : List Row) → 1 ≤ n → n < 2 ^ 127 → AllByRecursion (λ (row : Row). HasNumbersUpTo n row.poly) rows → IsOkAnd (in_bits.cone_lines cs rows) (AllByRecursion (AreWithin n))
cone_lines-make n cs rows s l h =
    behind-makes (AreWithin n) (far (length cs) ∷ []) (steps.all_of (in_bits.row_lines cs) rows) (each-append (IsWithin n) (zeros (length cs)) (negsuc 0 ∷ []) (zeros-within n (length cs)) (omega (arith, s), tt), tt)
    (all_of-makes (λ (row : Row). HasNumbersUpTo n row.poly) (AreWithin n) (in_bits.row_lines cs) (λ row k. by row.kind (line_of cs row.poly) (line_of-within n cs row.poly k)) rows h)
  where
    by : (kind : Kind) (line : List ℤ) → AreWithin n line → IsOkAnd (in_bits.lines_by kind line) (AllByRecursion (AreWithin n))
    by AtMost line k = (k, tt)
    by Equal line k = both_signs-make (AreWithin n) line k (opposite-makes line n k l)

case_cone-makes : (most top : ℕ) (cs : List (List Col)) (rows : List Row) → IsEnough most 4 top → length cs ≤ 3 → most < 2 ^ 127 → AllByRecursion (λ (row : Row). HasNumbersUpTo most row.poly) rows
    → IsOkAnd (in_bits.case_cone cs rows) (IsCone (λ v. total v ≤ top) (λ v. total v ≤ top))
case_cone-makes most top cs rows enough few l h =
    IsOkAnd-bind (AllByRecursion (AreWithin most)) (IsCone (λ v. total v ≤ top) (λ v. total v ≤ top)) (in_bits.cone_lines cs rows) (λ lines. in_bits.cone_from lines (length cs + 1)) (cone_lines-make most cs rows enough.some l h) (λ lines k.
    cone_from-makes (AreWithin most) (HaveGrown most 4) (λ v. total v ≤ top) (λ v. total v ≤ top) (growth-is_kept most 4 top enough) (grown-tops most 4 top enough) lines (length cs + 1) k
    (units-within most (length cs + 1) enough.some) (units-grown most 4 (length cs + 1) (omega (arith, few))))

-- ---- pushed through the terms

-- a point with numbers, and a denominator, of at most so great a magnitude
abbrev IsPointWithin : ℕ → ℕ → Point → Type 0
IsPointWithin n m p = AreWithin n p.numbers × IsWithin m p.over

module _ (most top : ℕ) (cs : List (List Col)) (terms : List Polynomial) (small : AllByRecursion (HasNumbersUpTo most) terms) (fits : most * top < 2 ^ 127) where
  pub image-makes : (v : List ℤ) → total v ≤ top → IsOkAnd (in_bits.image cs terms v) (AreWithin (most * top))
  image-makes v h = each-makes (HasNumbersUpTo most) (IsWithin (most * top)) (λ t. steps.dot (line_of cs t) v) value terms small
    where
      up : most * total v ≤ most * top
      up = mul-le-mul_left most h

      value : (t : Polynomial) → HasNumbersUpTo most t → IsOkAnd (steps.dot (line_of cs t) v) (IsWithin (most * top))
      value t k = IsOkAnd-more (IsWithin (most * total v)) (IsWithin (most * top)) (steps.dot (line_of cs t) v) (λ z e. omega (arith, e, up)) (dot-makes most (line_of cs t) v (line_of-within most cs t k) (omega (arith, up, fits)))

  point_of-makes : (v : List ℤ) → total v ≤ top → IsOkAnd (in_bits.point_of cs terms v) (AllByRecursion (IsPointWithin (most * top) top))
  point_of-makes v h = go (is_corner cs v)
    where
      point : List ℤ → Point
      point made = record { numbers = made; over = entry v (length cs) }

      go : (b : Bool) → IsOkAnd (cond b (in_bits.image cs terms v >>= λ made. Ok (point made ∷ [])) (Ok [])) (AllByRecursion (IsPointWithin (most * top) top))
      go true = IsOkAnd-bind (AreWithin (most * top)) (AllByRecursion (IsPointWithin (most * top) top)) (in_bits.image cs terms v) (λ made. Ok (point made ∷ [])) (image-makes v h) (λ made k. ((k, omega (arith, entry-within v (length cs), h)), tt))
      go false = tt

  ray_of-makes : (v : List ℤ) → total v ≤ top → IsOkAnd (in_bits.ray_of cs terms v) (AllByRecursion (AreWithin (most * top)))
  ray_of-makes v h = go (is_corner cs v)
    where
      go : (b : Bool) → IsOkAnd (cond b (Ok []) (in_bits.image cs terms v >>= λ made. Ok (lowest made ∷ []))) (AllByRecursion (AreWithin (most * top)))
      go true = tt
      go false = IsOkAnd-bind (AreWithin (most * top)) (AllByRecursion (AreWithin (most * top))) (in_bits.image cs terms v) (λ made. Ok (lowest made ∷ [])) (image-makes v h) (λ made k. (lowest-within (most * top) made k, tt))

  ways-make : (v : List ℤ) → total v ≤ top → IsOkAnd (in_bits.line_ways cs terms v) (AllByRecursion (AreWithin (most * top)))
  ways-make v h =
      IsOkAnd-bind (AreWithin (most * top)) (AllByRecursion (AreWithin (most * top))) (in_bits.image cs terms v) (λ made. in_bits.both_signs (lowest made)) (image-makes v h) (λ made k.
      both_signs-make (AreWithin (most * top)) (lowest made) (lowest-within (most * top) made k) (opposite-makes (lowest made) (most * top) (lowest-within (most * top) made k) fits))

  pushed : ArePushed (λ v. total v ≤ top) (λ v. total v ≤ top) (IsPointWithin (most * top) top) (AreWithin (most * top)) cs terms
  pushed = record { points = point_of-makes; rays = ray_of-makes; ways = ways-make }

-- ---- directions

difference-makes : (n m : ℕ) (p q : Point) → IsPointWithin n m p → IsPointWithin n m q → m < 2 ^ 127 → m * n + m * n < 2 ^ 127 → IsOkAnd (steps.direction p q) (AreWithin (m * n + m * n))
difference-makes n m p q h k s l =
    IsOkAnd-bind (AreWithin (m * n + m * n)) (AreWithin (m * n + m * n)) (steps.difference p q) (λ made. Ok (lowest made))
    (IsOkAnd-bind (IsWithin m) (AreWithin (m * n + m * n)) (steps.opposite_number q.over) (λ by. steps.combination p.over q.numbers by p.numbers) (opposite_number-makes q.over m k.1 s) (λ by e. combination_each-makes p.over by m m n n q.numbers p.numbers h.1 e k.0 h.0 l))
    (λ made e. lowest-within (m * n + m * n) made e)

directions-make : (n m most : ℕ) (points : List Point) (rays : List (List ℤ)) (p : Point) → AllByRecursion (IsPointWithin n m) points → AllByRecursion (AreWithin n) rays → IsPointWithin n m p → m < 2 ^ 127 → m * n + m * n < 2 ^ 127
    → m * n + m * n ≤ most → n ≤ most → IsOkAnd (steps.directions points rays p) (AllByRecursion (AreWithin most))
directions-make n m most points rays p h r k s l e f =
    IsOkAnd-bind (AllByRecursion (AreWithin most)) (AllByRecursion (AreWithin most)) (steps.each (steps.direction p) points) (λ made. Ok (made ++ rays))
    (each-makes (IsPointWithin n m) (AreWithin most) (steps.direction p) (λ q d. IsOkAnd-more (AreWithin (m * n + m * n)) (AreWithin most) (steps.direction p q) (λ w. each-more (IsWithin (m * n + m * n)) (IsWithin most) (λ z g. omega (arith, g, e)) w) (difference-makes n m p q k d s l)) points h)
    (λ made g. each-append (AreWithin most) made rays g (each-more (AreWithin n) (AreWithin most) (λ ray. each-more (IsWithin n) (IsWithin most) (λ z i. omega (arith, i, f)) ray) rays r))

-- ---- numerals

-- what is found in a case with numbers up to 4 has at most this total, since three of four vectors
-- are given up at most
abbrev top_found : ℕ
top_found = 2097152

-- with terms up to 6
abbrev top_image : ℕ
top_image = 6 * top_found

abbrev top_direction : ℕ
top_direction = top_found * top_image + top_found * top_image

case-enough : IsEnough 4 4 top_found
case-enough = record { some = omega arith; tops = tops; fits = omega arith }
  where
    tops : (given : ℕ) → given < 4 → growth 4 given ≤ top_found
    tops zero h = omega arith
    tops (suc zero) h = omega arith
    tops (suc (suc zero)) h = omega arith
    tops (suc (suc (suc zero))) h = omega arith
    tops (suc (suc (suc (suc given)))) h = absurd (omega (arith, h))

normal-enough : IsEnough top_direction 2 (2 * top_direction)
normal-enough = record { some = omega arith; tops = tops; fits = omega arith }
  where
    tops : (given : ℕ) → given < 2 → growth top_direction given ≤ 2 * top_direction
    tops zero h = omega arith
    tops (suc zero) h = omega arith
    tops (suc (suc given)) h = absurd (omega (arith, h))

-- ---- small bodies

-- a case with small numbers and few columns, as the hull sees it
record IsSmallCase (case : Change) : Type 0 where
  few : HasFewColumns case
  rows : AllByRecursion (λ (row : Row). HasNumbersUpTo 4 row.poly) case.rows
  terms : AllByRecursion (HasNumbersUpTo 6) case.terms

small-cases : (variables : List ℕ) (cases : List Case) → AllByRecursion HasFewColumns (map (changes_in true variables) cases) → AllByRecursion HasSmallNumbers cases → AllByRecursion IsSmallCase (map (changes_in true variables) cases)
small-cases variables [] h k = tt
small-cases variables (case ∷ cases) h k = (record { few = h.0; rows = k.0.rows; terms = changes-small 5 case variables k.0.posts (omega arith) }, small-cases variables cases h.1 k.1)

abbrev IsSmallPoint : Point → Type 0
IsSmallPoint p = IsPointWithin top_image top_found p

abbrev IsSmallRay : List ℤ → Type 0
IsSmallRay v = AreWithin top_image v

images-small : (case : Change) → IsSmallCase case → HasImages IsSmallPoint IsSmallRay case
images-small case h =
    images_in-make IsSmallPoint IsSmallRay (λ v. total v ≤ top_found) (λ v. total v ≤ top_found) case (pushed 6 top_found (columns_of case) case.terms h.terms (omega arith))
    (case_cone-makes 4 top_found (columns_of case) case.rows case-enough h.few (omega arith) h.rows)

normals_at-small : (count : ℕ) (images : Images) → count ≤ 2 → AreImages IsSmallPoint IsSmallRay images → IsMade (in_bits.normals_at count images.points images.rays)
normals_at-small count images few h =
    normals_at-make (AreWithin top_direction) (HaveGrown top_direction 2) (λ v. total v ≤ 2 * top_direction) (growth-is_kept top_direction 2 (2 * top_direction) normal-enough) count images.points images.rays
    (units-within top_direction count normal-enough.some) (units-grown top_direction 2 count few)
    (each-more IsSmallPoint (λ p. IsOkAnd (steps.directions images.points images.rays p) (AllByRecursion (AreWithin top_direction))) (λ p k. directions-make top_image top_found top_direction images.points images.rays p h.points h.rays k (omega arith) (omega arith) (omega arith) (omega arith)) images.points h.points)

pub map-count : (f : ℕ → Polynomial) (xs : List ℕ) → length (map f xs) ≡ length xs
map-count f [] = refl
map-count f (x ∷ xs) = omega (arith, map-count f xs)

pub few-terms : (n : ℕ) (variables : List ℕ) (cases : List Case) → length variables ≤ n → term_count (map (changes_in true variables) cases) ≤ n
few-terms n variables [] h = omega arith
few-terms n variables (case ∷ cases) h = omega (arith, h, map-count (λ v. or_zero (change true case v)) variables)

-- ---- the outcome

made-no_limit : (variables : List ℕ) (r : steps.Made (List (List ℤ))) (limit : AnswerLimit) → IsMade r → facets_by variables r ≡ Limit limit → ⊥
made-no_limit variables (Ok forms) limit h e = cc e
made-no_limit variables (Err step) limit h e = h

-- without a limit that is noted, there is none where the normals are made of each body that is not
-- beyond the counts
pub outcome-no_limit : (body : Transition) (limit : AnswerLimit) → first_limit (lost_changes true body) ≡ None → (is_beyond (modified_variables true body) (hull_cases body) ≡ false → IsMade (in_bits.normals (hull_cases body))) → facets_of body ≡ Limit limit → ⊥
outcome-no_limit body limit none made = go (is_beyond (modified_variables true body) (hull_cases body)) (first_limit (lost_changes true body)) refl none
  where
    go : (b : Bool) (noted : Option AnswerLimit) → is_beyond (modified_variables true body) (hull_cases body) ≡ b → noted ≡ None → cond b Beyond (limit_or noted (facets_by (modified_variables true body) (in_bits.normals (hull_cases body)))) ≡ Limit limit → ⊥
    go true noted k n e = cc e
    go false None k n e = made-no_limit (modified_variables true body) (in_bits.normals (hull_cases body)) limit (made k) e
    go false (Some own) k n e = cc n

pub small_bodies : SmallBodiesHaveNoLimit
small_bodies body limit small e =
    outcome-no_limit body limit (ap first_limit (nothing_lost 5 body (each-more HasSmallNumbers (λ (case : Case). AllByRecursion (HasNumbersUpTo 5) case.post) (λ case h. h.posts) body.cases small.numbers) (omega arith)))
    (λ within. normals-make IsSmallPoint IsSmallRay (hull_cases body) (images_of-make IsSmallPoint IsSmallRay (hull_cases body) (each-more IsSmallCase (HasImages IsSmallPoint IsSmallRay) images-small (hull_cases body) (small-cases (modified_variables true body) body.cases small.columns small.numbers)))
    (λ images h. normals_at-small (term_count (hull_cases body)) images (few-terms 2 (modified_variables true body) body.cases small.few) h)) e
