-- The points and rays of the changes of a case have the bounds that its rational points have.
use Rattle.std.proofs.Common.{◌≡◌, ℕ, zero, suc, ◌+◌, Bool, true, false, cond, refl, sym, ap, subst, ◌∙◌, arith, ⊎_elim, List, [], ◌∷◌, ◌++◌, length, map, ℤ, pos, ◌+ℤ◌, ◌*ℤ◌, ◌≤ℤ◌, ◌<ℤ◌}
use Rattle.std.specs.Prelude.{neg_ℤ, int_lt, ◌⊎◌}
use Rattle.std.specs.List.{AllByRecursion, flat_map}
use Rattle.std.proofs.lemmas.Int.{ints, by_lt_z}
use Rattle.std.proofs.Math.IntN.{*ℤ_comm, zero-*ℤ}
use Rattle.items.proofs.Each.{each-front, each-back, each-both, each-more}
use Rattle.whole_numbers.specs.Dot.{dot}
use Rattle.whole_numbers.proofs.Ring.{one-*ℤ, *ℤ-neg_ℤ}
use Rattle.linear_terms.specs.declared.col.Col.{Col}
use Rattle.linear_terms.specs.declared.row.Row.{Row}
use Rattle.linear_terms.specs.Polynomial.{Polynomial}
use Rattle.farkas_check.specs.Frames.{line_of}
use Rattle.farkas_check.specs.Rational.{RationalPoint, Meets}
use Rattle.farkas_check.specs.Relations.{entry}
use Rattle.farkas_check.specs.declared.stratum.Change.{Change}
use Rattle.cones.specs.Laws.{AreFlat, IsSplit}
use Rattle.cones.specs.Spans.{AreAtMost, IsAboveAt}
use Rattle.cones.specs.Split.{zeros, rest_basis}
use Rattle.cones.specs.Vectors.{combination, lowest, opposite}
use Rattle.cones.specs.declared.point.Point.{Point}
use Rattle.cones.proofs.Dots.{dot-combined, dot-opposite, IsLowestOf, lowest-is}
use Rattle.cones.proofs.Flats.{extremes-above_flat}
use Rattle.cones.proofs.Hulls.{dot_comm, not_above}
use Rattle.cones.proofs.Numbers.{product_not_above}
use Rattle.cones.proofs.PivotSearch.{flat_and_rest-split}
use Rattle.cones.proofs.Searches.{extremes-inside}
use Rattle.facet_hull.specs.Changes.{Rational, IsBoundIn}
use Rattle.facet_hull.specs.Images.{far, cone_lines, flat_vectors, extreme_vectors, image, is_corner, point_of, ray_of, points_in, line_ways, all_rays_in, rays_from, rays_in}
use Rattle.facet_hull.specs.Laws.{IsAtMostAt, Bounds}
use Rattle.facet_hull.proofs.CasePoints.{IsReady, vector_of, image-changes, far-is, denominator, cone-holds}
use Rattle.facet_hull.proofs.Wide.{extremes-wide, rest_basis-wide}

-- ---- forms pulled back to the vectors of a case

pub dot_of_combined : (a : ℤ) (u : List ℤ) (b : ℤ) (w v : List ℤ) → dot (combination a u b w) v ≡ a *ℤ dot u v +ℤ b *ℤ dot w v
dot_of_combined a u b w v = dot_comm (combination a u b w) v ∙ dot-combined v a u b w ∙ rw (dot_comm v u, dot_comm v w) refl

abbrev pub pulled : List (List Col) → List ℤ → List Polynomial → List ℤ
pulled cs [] terms = []
pulled cs (a ∷ form) [] = []
pulled cs (a ∷ form) (t ∷ terms) = combination a (line_of cs t) (pos 1) (pulled cs form terms)

pub pulled-is : (cs : List (List Col)) (form : List ℤ) (terms : List Polynomial) (v : List ℤ) → dot (pulled cs form terms) v ≡ dot form (image cs terms v)
pulled-is cs [] terms v = refl
pulled-is cs (a ∷ form) [] v = refl
pulled-is cs (a ∷ form) (t ∷ terms) v =
    dot_of_combined a (line_of cs t) (pos 1) (pulled cs form terms) v ∙ ap (λ x. a *ℤ dot (line_of cs t) v +ℤ x) (one-*ℤ (dot (pulled cs form terms) v) ∙ pulled-is cs form terms v)

-- bottom times the form, less top times the denominator
abbrev pub excess : List (List Col) → List ℤ → Rational → List Polynomial → List ℤ
excess cs form most terms = combination most.bottom (pulled cs form terms) most.top (far (length cs))

pub excess-is : (cs : List (List Col)) (form : List ℤ) (most : Rational) (terms : List Polynomial) (v : List ℤ)
    → dot (excess cs form most terms) v ≡ most.bottom *ℤ dot form (image cs terms v) +ℤ neg_ℤ (most.top *ℤ entry v (length cs))
excess-is cs form most terms v =
    dot_of_combined most.bottom (pulled cs form terms) most.top (far (length cs)) v
    ∙ rw (pulled-is cs form terms v, far-is (length cs) v, *ℤ-neg_ℤ most.top (entry v (length cs))) refl

-- it is at most 0 exactly where the form is at most top over bottom
pub excess_bounds : (x z b t : ℤ) → z ≤ℤ pos 0 → z ≡ b *ℤ x +ℤ neg_ℤ t → (x *ℤ b) ≤ℤ t
excess_bounds x z b t h f = less (x *ℤ b) (b *ℤ x) (*ℤ_comm x b) h f
  where
    less : (m n : ℤ) → m ≡ n → z ≤ℤ pos 0 → z ≡ n +ℤ neg_ℤ t → m ≤ℤ t
    less m n e h f = omega (arith, ints)

pub excess_bounded : (x z b t : ℤ) → (x *ℤ b) ≤ℤ t → z ≡ b *ℤ x +ℤ neg_ℤ t → z ≤ℤ pos 0
excess_bounded x z b t h f = less (x *ℤ b) (b *ℤ x) (*ℤ_comm x b) h f
  where
    less : (m n : ℤ) → m ≡ n → m ≤ℤ t → z ≡ n +ℤ neg_ℤ t → z ≤ℤ pos 0
    less m n e h f = omega (arith, ints)

-- ---- the vectors of a case

pub lt_true : (z : ℤ) → int_lt (pos 0) z ≡ true → pos 0 <ℤ z
lt_true z e = omega (arith, ints, e)

pub not_lt : (z : ℤ) → int_lt (pos 0) z ≡ false → z ≤ℤ pos 0
not_lt z e = omega (arith, ints, e)

-- a vector of the cone: so many numbers, and no line above 0
pub record IsInCone (cs : List (List Col)) (rows : List Row) (v : List ℤ) : Type 0 where
  pub long : length v ≡ length cs + 1
  pub inside : AreAtMost (cone_lines cs rows) (λ l. dot l v)

pub split-is : (cs : List (List Col)) (rows : List Row) → IsSplit (cone_lines cs rows) (length cs + 1) (flat_vectors cs rows) (rest_basis (flat_vectors cs rows) (length cs + 1))
split-is cs rows = flat_and_rest-split (cone_lines cs rows) (length cs + 1)

pub extremes-in_cone : (cs : List (List Col)) (rows : List Row) → AllByRecursion (IsInCone cs rows) (extreme_vectors cs rows)
extremes-in_cone cs rows =
    each-more (λ (v : List ℤ). (length v ≡ length cs + 1) × AreAtMost (cone_lines cs rows) (λ l. dot l v)) (IsInCone cs rows) (λ v h. record { long = h.0; inside = h.1 }) (extreme_vectors cs rows)
    (each-both (λ (v : List ℤ). length v ≡ length cs + 1) (λ (v : List ℤ). AreAtMost (cone_lines cs rows) (λ l. dot l v)) (extreme_vectors cs rows)
    (extremes-wide (length cs + 1) (cone_lines cs rows) (cone_lines cs rows) (rest_basis (flat_vectors cs rows) (length cs + 1)) (rest_basis-wide (flat_vectors cs rows) (length cs + 1)))
    (extremes-inside (cone_lines cs rows) (cone_lines cs rows) (rest_basis (flat_vectors cs rows) (length cs + 1))))

pub over_not_below : (cs : List (List Col)) (rows : List Row) (v : List ℤ) → IsInCone cs rows v → pos 0 ≤ℤ entry v (length cs)
over_not_below cs rows v h = turned (entry v (length cs)) (subst (λ z. z ≤ℤ pos 0) (far-is (length cs) v) h.inside.0)
  where
    turned : (z : ℤ) → neg_ℤ z ≤ℤ pos 0 → pos 0 ≤ℤ z
    turned z h = omega (arith, ints)

-- a line on the flat vectors, seen from each of them
abbrev pub IsFlatVector : List (List ℤ) → List ℤ → Type 0
IsFlatVector lines v = AllByRecursion (λ l. dot l v ≡ pos 0) lines

pub seen_from : (vs lines : List (List ℤ)) → AreFlat vs lines → AllByRecursion (IsFlatVector lines) vs
seen_from vs [] h = any vs
  where
    any : (vs : List (List ℤ)) → AllByRecursion (IsFlatVector []) vs
    any [] = tt
    any (v ∷ vs) = (tt, any vs)
seen_from vs (l ∷ lines) h = each-both (λ v. dot l v ≡ pos 0) (IsFlatVector lines) vs h.0 (seen_from vs lines h.1)

pub flats-flat : (cs : List (List Col)) (rows : List Row) → AllByRecursion (IsFlatVector (cone_lines cs rows)) (flat_vectors cs rows)
flats-flat cs rows = seen_from (flat_vectors cs rows) (cone_lines cs rows) (split-is cs rows).flat_there

-- ---- a rational point brings a corner

-- the denominator of a vector
abbrev pub near : ℕ → List ℤ
near n = zeros n ++ pos 1 ∷ []

pub near-is : (n : ℕ) (v : List ℤ) → dot (near n) v ≡ entry v n
near-is zero [] = refl
near-is zero (x ∷ xs) = plain x
  where
    plain : (z : ℤ) → pos 1 *ℤ z +ℤ pos 0 ≡ z
    plain z = omega (arith, ints)
near-is (suc n) [] = refl
near-is (suc n) (x ∷ xs) = plain (pos 0 *ℤ x) (dot (near n) xs) (zero-*ℤ x) ∙ near-is n xs
  where
    plain : (x y : ℤ) → x ≡ pos 0 → x +ℤ y ≡ y
    plain x y e = omega (arith, ints)

pub flat_over : (cs : List (List Col)) (rows : List Row) (v : List ℤ) → IsFlatVector (cone_lines cs rows) v → entry v (length cs) ≡ pos 0
flat_over cs rows v h = turned (entry v (length cs)) (sym (far-is (length cs) v) ∙ h.0)
  where
    turned : (z : ℤ) → neg_ℤ z ≡ pos 0 → z ≡ pos 0
    turned z h = omega (arith, ints)

-- what is above 0 at a rational point of the case is so on an extreme vector, where it is 0 on the
-- flat ones
above-found : (cs : List (List Col)) (case : Change) → IsReady cs case → (z : List ℤ) → AllByRecursion (λ v. dot z v ≡ pos 0) (flat_vectors cs case.rows)
    → (point : RationalPoint) → Meets point case.rows → pos 0 <ℤ dot z (vector_of cs point) → IsAboveAt z (extreme_vectors cs case.rows)
above-found cs case r z steady point m p =
    extremes-above_flat (cone_lines cs case.rows) (flat_vectors cs case.rows) (rest_basis (flat_vectors cs case.rows) (length cs + 1)) s.independent s.pointed s.flat_there z (λ l. dot l (vector_of cs point)) steady
    (s.spans (vector_of cs point) (longer cs)) (cone-holds cs case.rows point r.ordered r.rows m) p
  where
    s : IsSplit (cone_lines cs case.rows) (length cs + 1) (flat_vectors cs case.rows) (rest_basis (flat_vectors cs case.rows) (length cs + 1))
    s = split-is cs case.rows

    longer : (cs : List (List Col)) → length (map point.numerator cs ++ point.over ∷ []) ≡ length cs + 1
    longer [] = refl
    longer (c ∷ cs) = let e = longer cs in omega (arith, e)

is_found : (cs : List (List Col)) (terms : List Polynomial) (vs : List (List ℤ)) → IsAboveAt (near (length cs)) vs → flat_map (point_of cs terms) vs ≡ [] → ⊥
is_found cs terms [] h e = h
is_found cs terms (v ∷ vs) h e = go (is_corner cs v) refl h e (λ k f. is_found cs terms vs k f)
  where
    go : (b : Bool) → is_corner cs v ≡ b → (pos 0 <ℤ dot (near (length cs)) v) ⊎ IsAboveAt (near (length cs)) vs
        → cond b (record { numbers = image cs terms v; over = entry v (length cs) } ∷ []) [] ++ flat_map (point_of cs terms) vs ≡ []
        → (IsAboveAt (near (length cs)) vs → flat_map (point_of cs terms) vs ≡ [] → ⊥) → ⊥
    go true f h e ih = cc
    go false f h e ih = ⊎_elim (λ p. no (entry v (length cs)) (not_lt (entry v (length cs)) f) (subst (λ z. pos 0 <ℤ z) (near-is (length cs) v) p)) (λ k. ih k e) h
      where
        no : (z : ℤ) → z ≤ℤ pos 0 → pos 0 <ℤ z → ⊥
        no z h k = omega (arith, ints)

pub point-found : (cs : List (List Col)) (case : Change) → IsReady cs case → (point : RationalPoint) → Meets point case.rows → points_in cs case ≡ [] → ⊥
point-found cs case r point m e =
    is_found cs case.terms (extreme_vectors cs case.rows)
    (above-found cs case r (near (length cs)) (each-more (IsFlatVector (cone_lines cs case.rows)) (λ v. dot (near (length cs)) v ≡ pos 0) (λ v h. near-is (length cs) v ∙ flat_over cs case.rows v h) (flat_vectors cs case.rows) (flats-flat cs case.rows))
    point m (subst (λ z. pos 0 <ℤ z) (sym (near-is (length cs) (vector_of cs point) ∙ denominator cs point.numerator point.over)) point.positive))
    e

-- ---- bounds of points and rays hold of the rational points

-- the first of a list that is not empty
pub some_first : {A : Type 0} {P : Type 0} (xs : List A) → (xs ≡ [] → ⊥) → ((x : A) (more : List A) → xs ≡ x ∷ more → P) → P
some_first [] h f = absurd (h refl)
some_first (x ∷ xs) h f = f x xs refl

pub lowest_above : (form v : List ℤ) → dot (lowest v) form ≤ℤ pos 0 → dot v form ≤ℤ pos 0
lowest_above form v h = go (lowest-is v)
  where
    go : IsLowestOf v (lowest v) → dot v form ≤ℤ pos 0
    go l = subst (λ z. z ≤ℤ pos 0) (l.is form ∙ dot_comm form v) (product_not_above l.factor (dot form (lowest v)) (weak l.factor l.positive) (subst (λ z. z ≤ℤ pos 0) (dot_comm (lowest v) form) h))
      where
        weak : (z : ℤ) → pos 0 <ℤ z → pos 0 ≤ℤ z
        weak z h = omega (arith, ints)

-- what holds of the points and rays of one vector, says the excess of the form on it
abbrev IsBoundedOn : List (List Col) → List Polynomial → List ℤ → Rational → List ℤ → Type 0
IsBoundedOn cs terms form most v = AllByRecursion (IsAtMostAt form most) (point_of cs terms v) × AllByRecursion (λ ray. dot ray form ≤ℤ pos 0) (ray_of cs terms v)

excess_of_bounds : (cs : List (List Col)) (case : Change) (form : List ℤ) (most : Rational) (v : List ℤ) → IsInCone cs case.rows v → IsBoundedOn cs case.terms form most v → dot (excess cs form most case.terms) v ≤ℤ pos 0
excess_of_bounds cs case form most v c h = go (is_corner cs v) refl h.0 h.1
  where
    value : dot (excess cs form most case.terms) v ≡ most.bottom *ℤ dot form (image cs case.terms v) +ℤ neg_ℤ (most.top *ℤ entry v (length cs))
    value = excess-is cs form most case.terms v

    go : (b : Bool) → is_corner cs v ≡ b → AllByRecursion (IsAtMostAt form most) (cond b (record { numbers = image cs case.terms v; over = entry v (length cs) } ∷ []) [])
        → AllByRecursion (λ ray. dot ray form ≤ℤ pos 0) (cond b [] (lowest (image cs case.terms v) ∷ [])) → dot (excess cs form most case.terms) v ≤ℤ pos 0
    go true e h k = excess_bounded (dot form (image cs case.terms v)) (dot (excess cs form most case.terms) v) most.bottom (most.top *ℤ entry v (length cs)) h.0 value
    go false e h k =
        excess_bounded (dot form (image cs case.terms v)) (dot (excess cs form most case.terms) v) most.bottom (most.top *ℤ entry v (length cs))
        (along (dot form (image cs case.terms v)) (most.top *ℤ entry v (length cs))
        (subst (λ z. z ≤ℤ pos 0) (dot_comm (image cs case.terms v) form) (lowest_above form (image cs case.terms v) k.0))
        (ap (λ z. most.top *ℤ z) (zero_over (entry v (length cs)) (not_lt (entry v (length cs)) e) (over_not_below cs case.rows v c)) ∙ *ℤ_comm most.top (pos 0) ∙ zero-*ℤ most.top))
        value
      where
        zero_over : (z : ℤ) → z ≤ℤ pos 0 → pos 0 ≤ℤ z → z ≡ pos 0
        zero_over z h k = omega (arith, ints)

        along : (x t : ℤ) → x ≤ℤ pos 0 → t ≡ pos 0 → (x *ℤ most.bottom) ≤ℤ t
        along x t h e = le (x *ℤ most.bottom) (most.bottom *ℤ x) t (*ℤ_comm x most.bottom) (product_not_above most.bottom x (weak most.bottom most.positive) h) e
          where
            le : (m n t : ℤ) → m ≡ n → n ≤ℤ pos 0 → t ≡ pos 0 → m ≤ℤ t
            le m n t e h f = omega (arith, ints)

            weak : (z : ℤ) → pos 0 <ℤ z → pos 0 ≤ℤ z
            weak z h = omega (arith, ints)

-- a flat vector, whose image the form stays at both ways
excess_on_flat : (cs : List (List Col)) (case : Change) (form : List ℤ) (most : Rational) (v : List ℤ) → IsFlatVector (cone_lines cs case.rows) v → AllByRecursion (λ ray. dot ray form ≤ℤ pos 0) (line_ways cs case.terms v)
    → dot (excess cs form most case.terms) v ≡ pos 0
excess_on_flat cs case form most v f h =
    excess-is cs form most case.terms v
    ∙ ap (λ z. most.bottom *ℤ dot form (image cs case.terms v) +ℤ neg_ℤ (most.top *ℤ z)) (flat_over cs case.rows v f)
    ∙ nothing (dot form (image cs case.terms v)) (both (dot (lowest (image cs case.terms v)) form) (dot (opposite (lowest (image cs case.terms v))) form) turned h.0 h.1.0)
  where
    turned : dot (opposite (lowest (image cs case.terms v))) form ≡ neg_ℤ (dot (lowest (image cs case.terms v)) form)
    turned = dot_comm (opposite (lowest (image cs case.terms v))) form ∙ dot-opposite form (lowest (image cs case.terms v)) ∙ ap neg_ℤ (dot_comm form (lowest (image cs case.terms v)))

    both : (x y : ℤ) → y ≡ neg_ℤ x → x ≤ℤ pos 0 → y ≤ℤ pos 0 → x ≡ pos 0
    both x y e h k = omega (arith, ints)

    nothing : (x : ℤ) → dot (lowest (image cs case.terms v)) form ≡ pos 0 → most.bottom *ℤ dot form (image cs case.terms v) +ℤ neg_ℤ (most.top *ℤ pos 0) ≡ pos 0
    nothing x e = sums (most.bottom *ℤ dot form (image cs case.terms v)) (most.top *ℤ pos 0) (ap (λ z. most.bottom *ℤ z) still ∙ *ℤ_comm most.bottom (pos 0) ∙ zero-*ℤ most.bottom) (*ℤ_comm most.top (pos 0) ∙ zero-*ℤ most.top)
      where
        still : dot form (image cs case.terms v) ≡ pos 0
        still = go (lowest-is (image cs case.terms v))
          where
            go : IsLowestOf (image cs case.terms v) (lowest (image cs case.terms v)) → dot form (image cs case.terms v) ≡ pos 0
            go l = sym (l.is form) ∙ ap (λ z. l.factor *ℤ z) (dot_comm form (lowest (image cs case.terms v)) ∙ e) ∙ *ℤ_comm l.factor (pos 0) ∙ zero-*ℤ l.factor

        sums : (x y : ℤ) → x ≡ pos 0 → y ≡ pos 0 → x +ℤ neg_ℤ y ≡ pos 0
        sums x y e f = omega (arith, ints)

-- each part of a list that is made part by part
pub each_of_parts : {A B : Type 0} (Q : B → Type 0) (f : A → List B) (xs : List A) → AllByRecursion Q (flat_map f xs) → AllByRecursion (λ x. AllByRecursion Q (f x)) xs
each_of_parts Q f [] h = tt
each_of_parts Q f (x ∷ xs) h = (each-front Q (f x) (flat_map f xs) h, each_of_parts Q f xs (each-back Q (f x) (flat_map f xs) h))

pub two_each : {A : Type 0} (P Q R : A → Type 0) → ((x : A) → P x → Q x → R x) → (xs : List A) → AllByRecursion P xs → AllByRecursion Q xs → AllByRecursion R xs
two_each P Q R f [] h k = tt
two_each P Q R f (x ∷ xs) h k = (f x h.0 k.0, two_each P Q R f xs h.1 k.1)

-- all rays count where there is a point
rays_counted : (points : List Point) (rays : List (List ℤ)) → (points ≡ [] → ⊥) → rays_from points rays ≡ rays
rays_counted [] rays h = absurd (h refl)
rays_counted (p ∷ points) rays h = refl

pub bound_of_images : (cs : List (List Col)) (case : Change) → IsReady cs case → (form : List ℤ) (most : Rational) → Bounds (points_in cs case) (rays_in cs case) form most → IsBoundIn form most case
bound_of_images cs case r form most b point m =
    subst (λ (zs : List ℤ). (dot form zs *ℤ most.bottom) ≤ℤ (most.top *ℤ point.over)) (image-changes cs case.terms point r.ordered r.terms)
    (excess_bounds (dot form (image cs case.terms (vector_of cs point))) (dot (excess cs form most case.terms) (vector_of cs point)) most.bottom (most.top *ℤ point.over) not_more
    (excess-is cs form most case.terms (vector_of cs point) ∙ ap (λ z. most.bottom *ℤ dot form (image cs case.terms (vector_of cs point)) +ℤ neg_ℤ (most.top *ℤ z)) (denominator cs point.numerator point.over)))
  where
    rays : AllByRecursion (λ ray. dot ray form ≤ℤ pos 0) (all_rays_in cs case)
    rays = subst (AllByRecursion (λ ray. dot ray form ≤ℤ pos 0)) (rays_counted (points_in cs case) (all_rays_in cs case) (λ e. point-found cs case r point m e)) b.along_rays

    extreme : AllByRecursion (λ v. dot (excess cs form most case.terms) v ≤ℤ pos 0) (extreme_vectors cs case.rows)
    extreme =
        two_each (IsInCone cs case.rows) (IsBoundedOn cs case.terms form most) (λ v. dot (excess cs form most case.terms) v ≤ℤ pos 0) (λ v c h. excess_of_bounds cs case form most v c h) (extreme_vectors cs case.rows)
        (extremes-in_cone cs case.rows)
        (each-both (λ v. AllByRecursion (IsAtMostAt form most) (point_of cs case.terms v)) (λ v. AllByRecursion (λ ray. dot ray form ≤ℤ pos 0) (ray_of cs case.terms v)) (extreme_vectors cs case.rows)
        (each_of_parts (IsAtMostAt form most) (point_of cs case.terms) (extreme_vectors cs case.rows) b.at_points)
        (each_of_parts (λ ray. dot ray form ≤ℤ pos 0) (ray_of cs case.terms) (extreme_vectors cs case.rows)
        (each-front (λ ray. dot ray form ≤ℤ pos 0) (flat_map (ray_of cs case.terms) (extreme_vectors cs case.rows)) (flat_map (line_ways cs case.terms) (flat_vectors cs case.rows)) rays)))

    steady : AllByRecursion (λ v. dot (excess cs form most case.terms) v ≡ pos 0) (flat_vectors cs case.rows)
    steady =
        two_each (IsFlatVector (cone_lines cs case.rows)) (λ v. AllByRecursion (λ ray. dot ray form ≤ℤ pos 0) (line_ways cs case.terms v)) (λ v. dot (excess cs form most case.terms) v ≡ pos 0) (λ v f h. excess_on_flat cs case form most v f h) (flat_vectors cs case.rows)
        (flats-flat cs case.rows)
        (each_of_parts (λ ray. dot ray form ≤ℤ pos 0) (line_ways cs case.terms) (flat_vectors cs case.rows)
        (each-back (λ ray. dot ray form ≤ℤ pos 0) (flat_map (ray_of cs case.terms) (extreme_vectors cs case.rows)) (flat_map (line_ways cs case.terms) (flat_vectors cs case.rows)) rays))

    not_more : dot (excess cs form most case.terms) (vector_of cs point) ≤ℤ pos 0
    not_more =
        by_lt_z (pos 0) (dot (excess cs form most case.terms) (vector_of cs point))
        (λ p. absurd (not_above (excess cs form most case.terms) (extreme_vectors cs case.rows) extreme (above-found cs case r (excess cs form most case.terms) steady point m p)))
        (λ p. p)
