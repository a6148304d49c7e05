-- The bounds of a case's rational points hold of the points and rays of its changes.
use Rattle.std.proofs.Common.{◌≡◌, suc, ◌+◌, Bool, true, false, cond, refl, sym, ap, subst, ◌∙◌, arith, List, [], ◌∷◌, ◌++◌, length, ℤ, pos, ◌+ℤ◌, ◌*ℤ◌, ◌≤ℤ◌, ◌<ℤ◌}
use Rattle.std.specs.Prelude.{neg_ℤ, unsigned_abs}
use Rattle.std.specs.List.{AllByRecursion, flat_map}
use Rattle.std.proofs.lemmas.Int.{ints, by_lt_z}
use Rattle.std.proofs.Math.IntN.{*ℤ_comm, zero-*ℤ}
use Rattle.items.proofs.Each.{each-append, each-flat_map}
use Rattle.whole_numbers.specs.Dot.{dot}
use Rattle.whole_numbers.proofs.Ring.{one-*ℤ, ≤ℤ-*ℤ}
use Rattle.linear_terms.specs.declared.col.Col.{Col}
use Rattle.linear_terms.specs.declared.row.Row.{Row}
use Rattle.linear_terms.specs.Polynomial.{Polynomial}
use Rattle.farkas_check.specs.Relations.{entry}
use Rattle.farkas_check.specs.declared.stratum.Change.{Change}
use Rattle.cones.specs.Spans.{AreAtMost}
use Rattle.cones.specs.Vectors.{combination, lowest, opposite}
use Rattle.cones.specs.declared.point.Point.{Point}
use Rattle.cones.proofs.Dots.{dot-combined, dot-opposite, IsLowestOf, lowest-is}
use Rattle.cones.proofs.Hulls.{dot_comm}
use Rattle.cones.proofs.Numbers.{factor_not_above, product_not_above, vanishes_above}
use Rattle.cones.proofs.Widths.{combination-length}
use Rattle.facet_hull.specs.Changes.{Rational, IsBoundIn}
use Rattle.facet_hull.specs.Images.{row_lines, cone_lines, flat_vectors, extreme_vectors, image, is_corner, point_of, ray_of, points_in, line_ways, all_rays_in, rays_from, rays_in}
use Rattle.facet_hull.specs.Laws.{IsAtMostAt, Bounds}
use Rattle.facet_hull.proofs.CasePoints.{IsReady, vector_of, image-changes, denominator, rows-meet, IsPointOf, vector-point}
use Rattle.facet_hull.proofs.Generators.{near, near-is, excess, excess-is, excess_bounds, excess_bounded, pulled, pulled-is, lt_true, not_lt, IsInCone, extremes-in_cone, over_not_below, IsFlatVector, flats-flat, flat_over, two_each}
use Rattle.facet_hull.proofs.Wide.{opposite-length, flat-wide}

-- ---- vectors with a positive denominator

point_bounded : (cs : List (List Col)) (case : Change) → IsReady cs case → (form : List ℤ) (most : Rational) → IsBoundIn form most case → (v : List ℤ) → IsInCone cs case.rows v → pos 0 <ℤ entry v (length cs)
    → (dot form (image cs case.terms v) *ℤ most.bottom) ≤ℤ (most.top *ℤ entry v (length cs))
point_bounded cs case r form most h v c p = go (vector-point cs v r.ordered c.long p)
  where
    go : IsPointOf cs v → (dot form (image cs case.terms v) *ℤ most.bottom) ≤ℤ (most.top *ℤ entry v (length cs))
    go q =
        subst (λ (w : List ℤ). (dot form (image cs case.terms w) *ℤ most.bottom) ≤ℤ (most.top *ℤ entry w (length cs))) q.is
        (subst (λ z. (dot form (image cs case.terms (vector_of cs q.point)) *ℤ most.bottom) ≤ℤ (most.top *ℤ z)) (sym (denominator cs q.point.numerator q.point.over))
        (subst (λ (zs : List ℤ). (dot form zs *ℤ most.bottom) ≤ℤ (most.top *ℤ q.point.over)) (sym (image-changes cs case.terms q.point r.ordered r.terms))
        (h q.point (rows-meet cs case.rows q.point r.ordered r.rows (subst (λ (w : List ℤ). AreAtMost (flat_map (row_lines cs) case.rows) (λ l. dot l w)) (sym q.is) c.inside.1)))))

-- ---- from these to each vector of the cone

-- a vector gone along another one, so many times
gone : (line first v : List ℤ) (t : ℤ) → dot line (combination (pos 1) first t v) ≡ dot line first +ℤ t *ℤ dot line v
gone line first v t = dot-combined line (pos 1) first t v ∙ ap (λ x. x +ℤ t *ℤ dot line v) (one-*ℤ (dot line first))

-- a form that is not above 0 where the denominator is positive is so on the whole cone, if there is
-- such a vector: it goes along the other one as far as it likes
cone_bounded : (cs : List (List Col)) (rows : List Row) (z : List ℤ) → ((v : List ℤ) → IsInCone cs rows v → pos 0 <ℤ entry v (length cs) → dot z v ≤ℤ pos 0)
    → (first : List ℤ) → IsInCone cs rows first → pos 0 <ℤ entry first (length cs) → (v : List ℤ) → IsInCone cs rows v → dot z v ≤ℤ pos 0
cone_bounded cs rows z h first c p v d = by_lt_z (pos 0) (dot z v) (λ q. absurd (beyond q)) (λ q. q)
  where
    t : ℤ
    t = pos (suc (unsigned_abs (dot z first)))

    t_above : pos 0 ≤ℤ t
    t_above = omega (arith, ints)

    sum_at_most : (x y : ℤ) → x ≤ℤ pos 0 → y ≤ℤ pos 0 → (x +ℤ y) ≤ℤ pos 0
    sum_at_most x y e f = omega (arith, ints)

    each : (ls : List (List ℤ)) → AreAtMost ls (λ l. dot l first) → AreAtMost ls (λ l. dot l v) → AreAtMost ls (λ l. dot l (combination (pos 1) first t v))
    each [] e f = tt
    each (l ∷ ls) e f = (subst (λ x. x ≤ℤ pos 0) (sym (gone l first v t)) (sum_at_most (dot l first) (t *ℤ dot l v) e.0 (product_not_above t (dot l v) t_above f.0)), each ls e.1 f.1)

    further : IsInCone cs rows (combination (pos 1) first t v)
    further = record {
      long = combination-length (pos 1) t first v (d.long ∙ sym c.long) ∙ c.long;
      inside = each (cone_lines cs rows) c.inside d.inside;
    }

    sum_above : (x y : ℤ) → pos 0 <ℤ x → pos 0 ≤ℤ y → pos 0 <ℤ (x +ℤ y)
    sum_above x y e f = omega (arith, ints)

    product_above : (x : ℤ) → pos 0 ≤ℤ x → pos 0 ≤ℤ (t *ℤ x)
    product_above x e = flip (pos 0 *ℤ t) (x *ℤ t) (t *ℤ x) (zero-*ℤ t) (*ℤ_comm x t) (≤ℤ-*ℤ (pos 0) x t t_above e)
      where
        flip : (a b c : ℤ) → a ≡ pos 0 → b ≡ c → a ≤ℤ b → pos 0 ≤ℤ c
        flip a b c e f h = omega (arith, ints)

    over : pos 0 <ℤ entry (combination (pos 1) first t v) (length cs)
    over =
        subst (λ x. pos 0 <ℤ x) (sym (gone (near (length cs)) first v t) ∙ near-is (length cs) (combination (pos 1) first t v))
        (sum_above (dot (near (length cs)) first) (t *ℤ dot (near (length cs)) v) (subst (λ x. pos 0 <ℤ x) (sym (near-is (length cs) first)) p)
        (product_above (dot (near (length cs)) v) (subst (λ x. pos 0 ≤ℤ x) (sym (near-is (length cs) v)) (over_not_below cs rows v d))))

    beyond : pos 0 <ℤ dot z v → ⊥
    beyond q =
        clash (dot z first) (t *ℤ dot z v) (pos 1 *ℤ t) (dot z v *ℤ t) (≤ℤ-*ℤ (pos 1) (dot z v) t t_above (next (dot z v) q)) (one-*ℤ t) (*ℤ_comm (dot z v) t)
        (subst (λ x. x ≤ℤ pos 0) (gone z first v t) (h (combination (pos 1) first t v) further over))
      where
        next : (x : ℤ) → pos 0 <ℤ x → pos 1 ≤ℤ x
        next x e = omega (arith, ints)

        clash : (x y m n : ℤ) → m ≤ℤ n → m ≡ pos (suc (unsigned_abs x)) → n ≡ y → (x +ℤ y) ≤ℤ pos 0 → ⊥
        clash x y m n e f g k = omega (arith, ints)

-- ---- rays

lowest_below : (form v : List ℤ) → dot form v ≤ℤ pos 0 → dot (lowest v) form ≤ℤ pos 0
lowest_below form v h = go (lowest-is v)
  where
    go : IsLowestOf v (lowest v) → dot (lowest v) form ≤ℤ pos 0
    go l = subst (λ z. z ≤ℤ pos 0) (dot_comm form (lowest v)) (factor_not_above l.factor (dot form (lowest v)) l.positive (subst (λ z. z ≤ℤ pos 0) (sym (l.is form)) h))

-- a form with an upper bound does not grow along a vector without denominator
along_ray : (cs : List (List Col)) (case : Change) → IsReady cs case → (form : List ℤ) (most : Rational) → IsBoundIn form most case → (first : List ℤ) → IsInCone cs case.rows first → pos 0 <ℤ entry first (length cs)
    → (v : List ℤ) → IsInCone cs case.rows v → entry v (length cs) ≡ pos 0 → dot form (image cs case.terms v) ≤ℤ pos 0
along_ray cs case r form most h first c p v d e =
    factor_not_above most.bottom (dot form (image cs case.terms v)) most.positive
    (at_most (dot form (image cs case.terms v) *ℤ most.bottom) (most.bottom *ℤ dot form (image cs case.terms v)) (most.top *ℤ entry v (length cs)) (*ℤ_comm (dot form (image cs case.terms v)) most.bottom) (ap (λ z. most.top *ℤ z) e ∙ *ℤ_comm most.top (pos 0) ∙ zero-*ℤ most.top)
    (excess_bounds (dot form (image cs case.terms v)) (dot (excess cs form most case.terms) v) most.bottom (most.top *ℤ entry v (length cs))
    (cone_bounded cs case.rows (excess cs form most case.terms) (λ w k q. excess_bounded (dot form (image cs case.terms w)) (dot (excess cs form most case.terms) w) most.bottom (most.top *ℤ entry w (length cs)) (point_bounded cs case r form most h w k q) (excess-is cs form most case.terms w)) first c p v d)
    (excess-is cs form most case.terms v)))
  where
    at_most : (m n t : ℤ) → m ≡ n → t ≡ pos 0 → m ≤ℤ t → n ≤ℤ pos 0
    at_most m n t e f h = omega (arith, ints)

-- ---- corners

pub record HasCorner (cs : List (List Col)) (rows : List Row) : Type 0 where
  pub vector : List ℤ
  pub cone : IsInCone cs rows vector
  pub above : pos 0 <ℤ entry vector (length cs)

corner_of : (cs : List (List Col)) (rows : List Row) (terms : List Polynomial) (vs : List (List ℤ)) → AllByRecursion (IsInCone cs rows) vs → (flat_map (point_of cs terms) vs ≡ [] → ⊥) → HasCorner cs rows
corner_of cs rows terms [] h e = absurd (e refl)
corner_of cs rows terms (v ∷ vs) h e = go (is_corner cs v) refl e (λ k. corner_of cs rows terms vs h.1 k)
  where
    go : (b : Bool) → is_corner cs v ≡ b → (cond b (record { numbers = image cs terms v; over = entry v (length cs) } ∷ []) [] ++ flat_map (point_of cs terms) vs ≡ [] → ⊥)
        → ((flat_map (point_of cs terms) vs ≡ [] → ⊥) → HasCorner cs rows) → HasCorner cs rows
    go true f e ih = record { vector = v; cone = h.0; above = lt_true (entry v (length cs)) f }
    go false f e ih = ih e

pub corner-found : (cs : List (List Col)) (case : Change) → (points_in cs case ≡ [] → ⊥) → HasCorner cs case.rows
corner-found cs case h = corner_of cs case.rows case.terms (extreme_vectors cs case.rows) (extremes-in_cone cs case.rows) h

-- ---- all points and rays

turned_in_cone : (cs : List (List Col)) (rows : List Row) (v : List ℤ) → length v ≡ length cs + 1 → IsFlatVector (cone_lines cs rows) v → IsInCone cs rows v
turned_in_cone cs rows v e h = record { long = e; inside = each (cone_lines cs rows) h }
  where
    each : (ls : List (List ℤ)) → IsFlatVector ls v → AreAtMost ls (λ l. dot l v)
    each [] h = tt
    each (l ∷ ls) h = (at_most (dot l v) h.0, each ls h.1)
      where
        at_most : (z : ℤ) → z ≡ pos 0 → z ≤ℤ pos 0
        at_most z e = omega (arith, ints)

flat-opposite : (lines : List (List ℤ)) (v : List ℤ) → IsFlatVector lines v → IsFlatVector lines (opposite v)
flat-opposite [] v h = tt
flat-opposite (l ∷ lines) v h = (dot-opposite l v ∙ ap neg_ℤ h.0, flat-opposite lines v h.1)

image-opposite : (cs : List (List Col)) (form : List ℤ) (terms : List Polynomial) (v : List ℤ) → dot form (image cs terms (opposite v)) ≡ neg_ℤ (dot form (image cs terms v))
image-opposite cs form terms v = sym (pulled-is cs form terms (opposite v)) ∙ dot-opposite (pulled cs form terms) v ∙ ap neg_ℤ (pulled-is cs form terms v)

-- what rays count is asked of them where there is a point
rays_each : (P : List ℤ → Type 0) (points : List Point) (rays : List (List ℤ)) → ((points ≡ [] → ⊥) → AllByRecursion P rays) → AllByRecursion P (rays_from points rays)
rays_each P [] rays f = tt
rays_each P (p ∷ points) rays f = f (λ e. cc)

pub images_of_bound : (cs : List (List Col)) (case : Change) → IsReady cs case → (form : List ℤ) (most : Rational) → IsBoundIn form most case → Bounds (points_in cs case) (rays_in cs case) form most
images_of_bound cs case r form most h = record {
  at_points = each-flat_map (IsInCone cs case.rows) (IsAtMostAt form most) (point_of cs case.terms) at_point (extreme_vectors cs case.rows) (extremes-in_cone cs case.rows);
  along_rays = rays_each (λ ray. dot ray form ≤ℤ pos 0) (points_in cs case) (all_rays_in cs case) (λ some. with_corner (corner-found cs case some));
}
  where
    at_point : (v : List ℤ) → IsInCone cs case.rows v → AllByRecursion (IsAtMostAt form most) (point_of cs case.terms v)
    at_point v c = go (is_corner cs v) refl
      where
        go : (b : Bool) → is_corner cs v ≡ b → AllByRecursion (IsAtMostAt form most) (cond b (record { numbers = image cs case.terms v; over = entry v (length cs) } ∷ []) [])
        go true e = (point_bounded cs case r form most h v c (lt_true (entry v (length cs)) e), tt)
        go false e = tt

    with_corner : HasCorner cs case.rows → AllByRecursion (λ ray. dot ray form ≤ℤ pos 0) (all_rays_in cs case)
    with_corner k =
        each-append (λ ray. dot ray form ≤ℤ pos 0) (flat_map (ray_of cs case.terms) (extreme_vectors cs case.rows)) (flat_map (line_ways cs case.terms) (flat_vectors cs case.rows))
        (each-flat_map (IsInCone cs case.rows) (λ ray. dot ray form ≤ℤ pos 0) (ray_of cs case.terms) at_ray (extreme_vectors cs case.rows) (extremes-in_cone cs case.rows))
        (each-flat_map (λ v. (length v ≡ length cs + 1) × IsFlatVector (cone_lines cs case.rows) v) (λ ray. dot ray form ≤ℤ pos 0) (line_ways cs case.terms) at_line (flat_vectors cs case.rows)
        (two_each (λ (v : List ℤ). length v ≡ length cs + 1) (IsFlatVector (cone_lines cs case.rows)) (λ v. (length v ≡ length cs + 1) × IsFlatVector (cone_lines cs case.rows) v) (λ v e f. (e, f)) (flat_vectors cs case.rows)
        (flat-wide (cone_lines cs case.rows) (length cs + 1)) (flats-flat cs case.rows)))
      where
        falls : (v : List ℤ) → IsInCone cs case.rows v → entry v (length cs) ≡ pos 0 → dot form (image cs case.terms v) ≤ℤ pos 0
        falls v c e = along_ray cs case r form most h k.vector k.cone k.above v c e

        at_ray : (v : List ℤ) → IsInCone cs case.rows v → AllByRecursion (λ ray. dot ray form ≤ℤ pos 0) (ray_of cs case.terms v)
        at_ray v c = go (is_corner cs v) refl
          where
            no_over : (z : ℤ) → z ≤ℤ pos 0 → pos 0 ≤ℤ z → z ≡ pos 0
            no_over z h k = omega (arith, ints)

            go : (b : Bool) → is_corner cs v ≡ b → AllByRecursion (λ ray. dot ray form ≤ℤ pos 0) (cond b [] (lowest (image cs case.terms v) ∷ []))
            go true e = tt
            go false e = (lowest_below form (image cs case.terms v) (falls v c (no_over (entry v (length cs)) (not_lt (entry v (length cs)) e) (over_not_below cs case.rows v c))), tt)

        at_line : (v : List ℤ) → (length v ≡ length cs + 1) × IsFlatVector (cone_lines cs case.rows) v → AllByRecursion (λ ray. dot ray form ≤ℤ pos 0) (line_ways cs case.terms v)
        at_line v f = (lowest_below form (image cs case.terms v) forth, (subst (λ z. z ≤ℤ pos 0) (sym turned) (minus (dot (lowest (image cs case.terms v)) form) still), tt))
          where
            forth : dot form (image cs case.terms v) ≤ℤ pos 0
            forth = falls v (turned_in_cone cs case.rows v f.0 f.1) (flat_over cs case.rows v f.1)

            back : neg_ℤ (dot form (image cs case.terms v)) ≤ℤ pos 0
            back =
                subst (λ z. z ≤ℤ pos 0) (image-opposite cs form case.terms v)
                (falls (opposite v) (turned_in_cone cs case.rows (opposite v) (opposite-length v ∙ f.0) (flat-opposite (cone_lines cs case.rows) v f.1)) (flat_over cs case.rows (opposite v) (flat-opposite (cone_lines cs case.rows) v f.1)))

            zero_of : (z : ℤ) → z ≤ℤ pos 0 → neg_ℤ z ≤ℤ pos 0 → z ≡ pos 0
            zero_of z h k = omega (arith, ints)

            still : dot (lowest (image cs case.terms v)) form ≡ pos 0
            still = go (lowest-is (image cs case.terms v))
              where
                not_below : (z : ℤ) → neg_ℤ z ≤ℤ pos 0 → pos 0 ≤ℤ z
                not_below z h = omega (arith, ints)

                go : IsLowestOf (image cs case.terms v) (lowest (image cs case.terms v)) → dot (lowest (image cs case.terms v)) form ≡ pos 0
                go l = dot_comm (lowest (image cs case.terms v)) form ∙ vanishes_above l.factor (dot form (lowest (image cs case.terms v))) l.positive (l.is form ∙ zero_of (dot form (image cs case.terms v)) forth back)

            turned : dot (opposite (lowest (image cs case.terms v))) form ≡ neg_ℤ (dot (lowest (image cs case.terms v)) form)
            turned = dot_comm (opposite (lowest (image cs case.terms v))) form ∙ dot-opposite form (lowest (image cs case.terms v)) ∙ ap neg_ℤ (dot_comm form (lowest (image cs case.terms v)))

            minus : (z : ℤ) → z ≡ pos 0 → neg_ℤ z ≤ℤ pos 0
            minus z e = omega (arith, ints)
