-- The equations of a body: they are constant on its changes, and each form that is so is a
-- combination of them.
use Rattle.std.proofs.Common.{◌≡◌, ◌≢◌, ℕ, inl, refl, sym, ap, subst, ◌∙◌, arith, List, [], ◌∷◌, ◌++◌, map, ℤ, pos, ◌+ℤ◌, ◌-ℤ◌, ◌*ℤ◌, ◌≤ℤ◌, ◌<ℤ◌}
use Rattle.std.specs.Prelude.{All, neg_ℤ}
use Rattle.std.specs.List.{AllByRecursion}
use Rattle.std.proofs.lemmas.Int.{ints, by_lt_z}
use Rattle.std.proofs.lemmas.List.Elements.{recursion_from_All}
use Rattle.items.proofs.Each.{each-any, each-append, each-map, each-more}
use Rattle.whole_numbers.specs.Dot.{dot}
use Rattle.whole_numbers.proofs.Ring.{ring, one-*ℤ, neg_ℤ-*ℤ, *ℤ-positive}
use Rattle.farkas_check.specs.Kept.{IsCanonicalChange}
use Rattle.farkas_check.specs.Rational.{RationalPoint}
use Rattle.farkas_check.specs.Relations.{entry, places, term_count}
use Rattle.farkas_check.specs.Stratum.{IsCombination, combination_at}
use Rattle.farkas_check.specs.declared.stratum.Change.{Change}
use Rattle.cones.specs.Laws.{IsSplit}
use Rattle.cones.specs.Spans.{Values, IsSpanned, IsPointed}
use Rattle.cones.specs.Split.{flat, rest_basis}
use Rattle.cones.specs.Tangents.{direction, directions}
use Rattle.cones.specs.Vectors.{opposite}
use Rattle.cones.specs.declared.point.Point.{Point}
use Rattle.cones.proofs.Dots.{dot-opposite}
use Rattle.cones.proofs.Hulls.{dot_comm}
use Rattle.cones.proofs.Numbers.{times_zero, vanishes_above, not_zero-*ℤ}
use Rattle.cones.proofs.PivotSearch.{flat_and_rest-split}
use Rattle.facet_hull.specs.Changes.{changes_at, HasChange, Rational, IsBoundIn, IsBound, HasValueIn, IsConstant}
use Rattle.facet_hull.specs.Hull.{AreEquations}
use Rattle.facet_hull.specs.Images.{points_of, rays_of}
use Rattle.facet_hull.specs.Laws.{IsAtMostAt, Bounds}
use Rattle.facet_hull.specs.Normals.{equations_at, equations}
use Rattle.facet_hull.proofs.Bodies.{bounds_of_cases, change_brings, points-positive}
use Rattle.facet_hull.proofs.Exact.{IsAmong, IsGreatestAt, most_at, supremum-is, still_both_ways}
use Rattle.facet_hull.proofs.Generators.{near, near-is, IsFlatVector, seen_from, two_each}
use Rattle.facet_hull.proofs.Origins.{dots_keep_sums, flat_along}

-- ---- forms that flat vectors span

spanned_alone : (vs basis lines : List (List ℤ)) → AllByRecursion (IsFlatVector lines) vs → IsPointed lines basis → (f : Values) → IsSpanned (vs ++ basis) f → AllByRecursion (λ l. f l ≡ pos 0) lines → IsSpanned vs f
spanned_alone [] basis lines h pointed f s z = pointed f s z
spanned_alone (v ∷ vs) basis lines h pointed f s z = (
  s.0,
  s.1,
  s.2,
  spanned_alone vs basis lines h.1 pointed (λ line. s.0 *ℤ f line -ℤ s.1 *ℤ dot line v) s.3
      (two_each (λ l. f l ≡ pos 0) (λ l. dot l v ≡ pos 0) (λ l. s.0 *ℤ f l -ℤ s.1 *ℤ dot l v ≡ pos 0) (λ l e g. none (s.0 *ℤ f l) (s.1 *ℤ dot l v) (ap (λ x. s.0 *ℤ x) e ∙ times_zero s.0) (ap (λ x. s.1 *ℤ x) g ∙ times_zero s.1)) lines z h.0),
)
  where
    none : (x y : ℤ) → x ≡ pos 0 → y ≡ pos 0 → x -ℤ y ≡ pos 0
    none x y e g = omega (arith, ints)

-- the sum of multiples of what a line has on vectors
abbrev sum_on : List (List ℤ) → List ℤ → List ℤ → ℤ
sum_on [] by line = pos 0
sum_on (v ∷ vs) [] line = pos 0
sum_on (v ∷ vs) (b ∷ by) line = b *ℤ dot line v +ℤ sum_on vs by line

record AreMultiples (vs : List (List ℤ)) (f : Values) : Type 0 where
  pub scale : ℤ
  pub some : scale ≢ pos 0
  pub by : List ℤ
  pub same : (line : List ℤ) → scale *ℤ f line ≡ sum_on vs by line

spanned-multiples : (vs : List (List ℤ)) (f : Values) → IsSpanned vs f → AreMultiples vs f
spanned-multiples [] f s = record { scale = pos 1; some = λ e. cc; by = []; same = λ line. one-*ℤ (f line) ∙ s line }
spanned-multiples (v ∷ vs) f s = go (spanned-multiples vs (λ line. s.0 *ℤ f line -ℤ s.1 *ℤ dot line v) s.3)
  where
    step : (k m c x d t : ℤ) → k *ℤ (m *ℤ x -ℤ c *ℤ d) ≡ t → k *ℤ m *ℤ x ≡ k *ℤ c *ℤ d +ℤ t
    step k m c x d t e = regroup ∙ ap (λ z. k *ℤ c *ℤ d +ℤ z) e
      where
        regroup : k *ℤ m *ℤ x ≡ k *ℤ c *ℤ d +ℤ k *ℤ (m *ℤ x -ℤ c *ℤ d)
        regroup = simp ring (omega (arith, ints))

    go : AreMultiples vs (λ line. s.0 *ℤ f line -ℤ s.1 *ℤ dot line v) → AreMultiples (v ∷ vs) f
    go r = record {
      scale = r.scale *ℤ s.0;
      some = not_zero-*ℤ r.scale s.0 r.some s.2;
      by = (r.scale *ℤ s.1) ∷ r.by;
      same = λ line. step r.scale s.0 s.1 (f line) (dot line v) (sum_on vs r.by line) (r.same line);
    }

sum_on-times : (k : ℤ) (vs : List (List ℤ)) (by line : List ℤ) → k *ℤ sum_on vs by line ≡ sum_on vs (map (λ z. k *ℤ z) by) line
sum_on-times k [] by line = times_zero k
sum_on-times k (v ∷ vs) [] line = times_zero k
sum_on-times k (v ∷ vs) (b ∷ by) line = step k b (dot line v) (sum_on vs by line) ∙ ap (λ z. k *ℤ b *ℤ dot line v +ℤ z) (sum_on-times k vs by line)
  where
    step : (k b d t : ℤ) → k *ℤ (b *ℤ d +ℤ t) ≡ k *ℤ b *ℤ d +ℤ k *ℤ t
    step k b d t = simp ring (omega (arith, ints))

sum_on-place : (vs : List (List ℤ)) (by : List ℤ) (place : ℕ) → sum_on vs by (near place) ≡ combination_at vs by place
sum_on-place [] by place = refl
sum_on-place (v ∷ vs) [] place = refl
sum_on-place (v ∷ vs) (b ∷ by) place = rw (near-is place v, sum_on-place vs by place) refl

square_above : (z : ℤ) → z ≢ pos 0 → pos 0 <ℤ (z *ℤ z)
square_above z h = by_lt_z (pos 0) z (λ p. *ℤ-positive z z p p) (λ p. subst (λ x. pos 0 <ℤ x) (same z) (*ℤ-positive (neg_ℤ z) (neg_ℤ z) (turned_above z p h) (turned_above z p h)))
  where
    turned_above : (z : ℤ) → z ≤ℤ pos 0 → z ≢ pos 0 → pos 0 <ℤ neg_ℤ z
    turned_above z p h = omega (arith, ints, p, h)

    same : (z : ℤ) → neg_ℤ z *ℤ neg_ℤ z ≡ z *ℤ z
    same z = simp ring (omega (arith, ints))

pub spanned-combination : (vs : List (List ℤ)) (count : ℕ) (form : List ℤ) → IsSpanned vs (λ line. dot line form) → IsCombination vs count form
spanned-combination vs count form s = go (spanned-multiples vs (λ line. dot line form) s)
  where
    go : AreMultiples vs (λ line. dot line form) → IsCombination vs count form
    go r = record {
      scale = r.scale *ℤ r.scale;
      positive = square_above r.scale r.some;
      by = map (λ z. r.scale *ℤ z) r.by;
      same = each-any (λ place. r.scale *ℤ r.scale *ℤ entry form place ≡ combination_at vs (map (λ z. r.scale *ℤ z) r.by) place)
          (λ place. ap (λ z. r.scale *ℤ r.scale *ℤ z) (sym (near-is place form)) ∙ group r.scale (dot (near place) form) ∙ ap (λ z. r.scale *ℤ z) (r.same (near place)) ∙ sum_on-times r.scale vs r.by (near place) ∙ sum_on-place vs (map (λ z. r.scale *ℤ z) r.by) place)
          (places count);
    }
      where
        group : (k x : ℤ) → k *ℤ k *ℤ x ≡ k *ℤ (k *ℤ x)
        group k x = simp ring (omega (arith, ints))

-- ---- constant forms are 0 on all directions

turned : (form zs : List ℤ) → dot (opposite form) zs ≡ neg_ℤ (dot form zs)
turned form zs = dot_comm (opposite form) zs ∙ dot-opposite zs form ∙ ap neg_ℤ (dot_comm zs form)

-- minus a rational number
abbrev minus : Rational → Rational
minus r = record { top = neg_ℤ r.top; bottom = r.bottom; positive = r.positive }

value-bound : (form : List ℤ) (value : Rational) (cases : List Change) → AllByRecursion (HasValueIn form value) cases → IsBound cases form value
value-bound form value cases h = each-more (HasValueIn form value) (IsBoundIn form value) (λ case k point m. less (dot form (changes_at case.terms point) *ℤ value.bottom) (value.top *ℤ point.over) (k point m)) cases h
  where
    less : (x y : ℤ) → x ≡ y → x ≤ℤ y
    less x y e = omega (arith, ints)

value-opposite : (form : List ℤ) (value : Rational) (cases : List Change) → AllByRecursion (HasValueIn form value) cases → IsBound cases (opposite form) (minus value)
value-opposite form value cases h =
    each-more (HasValueIn form value) (IsBoundIn (opposite form) (minus value))
    (λ case k point m. less (dot form (changes_at case.terms point) *ℤ value.bottom) (value.top *ℤ point.over) (dot (opposite form) (changes_at case.terms point) *ℤ value.bottom) (neg_ℤ value.top *ℤ point.over) (k point m)
    (ap (λ z. z *ℤ value.bottom) (turned form (changes_at case.terms point)) ∙ neg_ℤ-*ℤ (dot form (changes_at case.terms point)) value.bottom) (neg_ℤ-*ℤ value.top point.over))
    cases h
  where
    less : (x y p q : ℤ) → x ≡ y → p ≡ neg_ℤ x → q ≡ neg_ℤ y → p ≤ℤ q
    less x y p q e f g = omega (arith, ints)

-- at each point it has its value, and it stays the same along each ray
at_each_point : (form : List ℤ) (value : Rational) (points : List Point) → AllByRecursion (IsAtMostAt form value) points → AllByRecursion (IsAtMostAt (opposite form) (minus value)) points → AllByRecursion (λ (p : Point). dot form p.numbers *ℤ value.bottom ≡ value.top *ℤ p.over) points
at_each_point form value points h k =
    two_each (IsAtMostAt form value) (IsAtMostAt (opposite form) (minus value)) (λ (p : Point). dot form p.numbers *ℤ value.bottom ≡ value.top *ℤ p.over)
    (λ p a b. same (dot form p.numbers *ℤ value.bottom) (value.top *ℤ p.over) (dot (opposite form) p.numbers *ℤ value.bottom) (neg_ℤ value.top *ℤ p.over) a b (ap (λ z. z *ℤ value.bottom) (turned form p.numbers) ∙ neg_ℤ-*ℤ (dot form p.numbers) value.bottom) (neg_ℤ-*ℤ value.top p.over)) points h k
  where
    same : (x y p q : ℤ) → x ≤ℤ y → p ≤ℤ q → p ≡ neg_ℤ x → q ≡ neg_ℤ y → x ≡ y
    same x y p q h k e f = omega (arith, ints)

along_each_ray : (form : List ℤ) (rays : List (List ℤ)) → AllByRecursion (λ ray. dot ray form ≤ℤ pos 0) rays → AllByRecursion (λ ray. dot ray (opposite form) ≤ℤ pos 0) rays → AllByRecursion (λ ray. dot ray form ≡ pos 0) rays
along_each_ray form rays h k =
    two_each (λ ray. dot ray form ≤ℤ pos 0) (λ ray. dot ray (opposite form) ≤ℤ pos 0) (λ ray. dot ray form ≡ pos 0) (λ ray a b. zero_of (dot ray form) (dot ray (opposite form)) (dot-opposite ray form) a b) rays h k
  where
    zero_of : (x y : ℤ) → y ≡ neg_ℤ x → x ≤ℤ pos 0 → y ≤ℤ pos 0 → x ≡ pos 0
    zero_of x y e h k = omega (arith, ints)

constant-still : (form : List ℤ) (value : Rational) (p : Point) (points : List Point) (rays : List (List ℤ)) → AllByRecursion (λ (q : Point). dot form q.numbers *ℤ value.bottom ≡ value.top *ℤ q.over) (p ∷ points) → AllByRecursion (λ ray. dot ray form ≡ pos 0) rays
    → IsFlatVector (directions (p ∷ points) rays p) form
constant-still form value p points rays h k =
    each-append (λ d. dot d form ≡ pos 0) (map (direction p) (p ∷ points)) rays
    (each-map (λ (q : Point). dot form q.numbers *ℤ value.bottom ≡ value.top *ℤ q.over) (λ d. dot d form ≡ pos 0) (direction p) (λ q e. flat_along (λ l. dot l form) (dots_keep_sums form) p q (level q e)) (p ∷ points) h)
    k
  where
    level : (q : Point) → dot form q.numbers *ℤ value.bottom ≡ value.top *ℤ q.over → p.over *ℤ dot q.numbers form ≡ q.over *ℤ dot p.numbers form
    level q e =
        same (p.over *ℤ dot q.numbers form) (q.over *ℤ dot p.numbers form)
        (vanishes_above value.bottom (p.over *ℤ dot q.numbers form -ℤ q.over *ℤ dot p.numbers form) value.positive
        (regroup (dot q.numbers form) (dot p.numbers form) p.over q.over value.bottom value.top
        ∙ gone (dot q.numbers form *ℤ value.bottom -ℤ value.top *ℤ q.over) (dot p.numbers form *ℤ value.bottom -ℤ value.top *ℤ p.over)
        (off (dot q.numbers form *ℤ value.bottom) (value.top *ℤ q.over) (ap (λ z. z *ℤ value.bottom) (dot_comm q.numbers form) ∙ e))
        (off (dot p.numbers form *ℤ value.bottom) (value.top *ℤ p.over) (ap (λ z. z *ℤ value.bottom) (dot_comm p.numbers form) ∙ h.0))))
      where
        same : (x y : ℤ) → x -ℤ y ≡ pos 0 → x ≡ y
        same x y e = omega (arith, ints)

        off : (x y : ℤ) → x ≡ y → x -ℤ y ≡ pos 0
        off x y e = omega (arith, ints)

        gone : (a b : ℤ) → a ≡ pos 0 → b ≡ pos 0 → p.over *ℤ a -ℤ q.over *ℤ b ≡ pos 0
        gone a b e g = rw (e, g, times_zero p.over, times_zero q.over) refl

        regroup : (x y po qo b t : ℤ) → b *ℤ (po *ℤ x -ℤ qo *ℤ y) ≡ po *ℤ (x *ℤ b -ℤ t *ℤ qo) -ℤ qo *ℤ (y *ℤ b -ℤ t *ℤ po)
        regroup x y po qo b t = simp ring (omega (arith, ints))

-- ---- equations are constant

equation-constant : (cases : List Change) → AllByRecursion IsCanonicalChange cases → (e : List ℤ) (g : IsGreatestAt (points_of cases) (rays_of cases) e) (k : IsGreatestAt (points_of cases) (rays_of cases) (opposite e)) → g.at ≡ k.at → IsConstant cases e
equation-constant cases h e g k same_point = record {
  value = most_at (points_of cases) (rays_of cases) e g;
  same = two_each (IsBoundIn e (most_at (points_of cases) (rays_of cases) e g)) (IsBoundIn (opposite e) (most_at (points_of cases) (rays_of cases) (opposite e) k)) (HasValueIn e (most_at (points_of cases) (rays_of cases) e g))
      (λ case a b point m. both case point (a point m) (subst (λ (x : Point). (dot (opposite e) (changes_at case.terms point) *ℤ x.over) ≤ℤ (dot (opposite e) x.numbers *ℤ point.over)) (sym same_point) (b point m)))
      cases (supremum-is cases h e g).bound (supremum-is cases h (opposite e) k).bound;
}
  where
    both : (case : Change) (point : RationalPoint) → (dot e (changes_at case.terms point) *ℤ g.at.over) ≤ℤ (dot e g.at.numbers *ℤ point.over) → (dot (opposite e) (changes_at case.terms point) *ℤ g.at.over) ≤ℤ (dot (opposite e) g.at.numbers *ℤ point.over)
        → dot e (changes_at case.terms point) *ℤ g.at.over ≡ dot e g.at.numbers *ℤ point.over
    both case point a b =
        same (dot e (changes_at case.terms point) *ℤ g.at.over) (dot e g.at.numbers *ℤ point.over) (dot (opposite e) (changes_at case.terms point) *ℤ g.at.over) (dot (opposite e) g.at.numbers *ℤ point.over) a b
        (ap (λ z. z *ℤ g.at.over) (turned e (changes_at case.terms point)) ∙ neg_ℤ-*ℤ (dot e (changes_at case.terms point)) g.at.over)
        (ap (λ z. z *ℤ point.over) (turned e g.at.numbers) ∙ neg_ℤ-*ℤ (dot e g.at.numbers) point.over)
      where
        same : (x y p q : ℤ) → x ≤ℤ y → p ≤ℤ q → p ≡ neg_ℤ x → q ≡ neg_ℤ y → x ≡ y
        same x y p q h k e f = omega (arith, ints)

-- ---- the equations of a body

abbrev pub HasEquationsAt : List Change → List Point → List (List ℤ) → Type 0
HasEquationsAt cases points rays = points_of cases ≡ points → rays_of cases ≡ rays → (points ≡ [] → ⊥) → AreEquations (term_count cases) cases (equations_at (term_count cases) points rays)

pub equations_are : (cases : List Change) → AllByRecursion IsCanonicalChange cases → (points : List Point) (rays : List (List ℤ)) → HasEquationsAt cases points rays
equations_are cases h [] rays e f some = absurd (some refl)
equations_are cases h (p ∷ points) rays e f some = record {
  constant = each-more (IsFlatVector (directions (p ∷ points) rays p)) (IsConstant cases) (λ v k. still_constant v k) (flat (directions (p ∷ points) rays p) (term_count cases)) flats;
  basis = λ form long c. spanned-combination (flat (directions (p ∷ points) rays p) (term_count cases)) (term_count cases) form
      (spanned_alone (flat (directions (p ∷ points) rays p) (term_count cases)) (rest_basis (flat (directions (p ∷ points) rays p) (term_count cases)) (term_count cases)) (directions (p ∷ points) rays p) flats split.pointed (λ line. dot line form) (split.spans form long)
      (constant-still form c.value p points rays
      (at_each_point form c.value (p ∷ points) (moved form c.value (value-bound form c.value cases c.same)).at_points (moved (opposite form) (minus c.value) (value-opposite form c.value cases c.same)).at_points)
      (along_each_ray form rays (moved form c.value (value-bound form c.value cases c.same)).along_rays (moved (opposite form) (minus c.value) (value-opposite form c.value cases c.same)).along_rays)));
}
  where
    split : IsSplit (directions (p ∷ points) rays p) (term_count cases) (flat (directions (p ∷ points) rays p) (term_count cases)) (rest_basis (flat (directions (p ∷ points) rays p) (term_count cases)) (term_count cases))
    split = flat_and_rest-split (directions (p ∷ points) rays p) (term_count cases)

    flats : AllByRecursion (IsFlatVector (directions (p ∷ points) rays p)) (flat (directions (p ∷ points) rays p) (term_count cases))
    flats = seen_from (flat (directions (p ∷ points) rays p) (term_count cases)) (directions (p ∷ points) rays p) split.flat_there

    moved : (form : List ℤ) (most : Rational) → IsBound cases form most → Bounds (p ∷ points) rays form most
    moved form most b = subst (λ (ps : List Point). Bounds ps rays form most) e (subst (λ (rs : List (List ℤ)). Bounds (points_of cases) rs form most) f (bounds_of_cases cases h form most b))

    still_constant : (v : List ℤ) → IsFlatVector (directions (p ∷ points) rays p) v → IsConstant cases v
    still_constant v k = equation-constant cases h v (there v (still_both_ways (directions (p ∷ points) rays p) v k).0) (there (opposite v) (still_both_ways (directions (p ∷ points) rays p) v k).1) refl
      where
        above : AllByRecursion (λ (x : Point). pos 0 <ℤ x.over) (p ∷ points)
        above = subst (λ (ps : List Point). AllByRecursion (λ (x : Point). pos 0 <ℤ x.over) ps) e (points-positive cases)

        there : (w : List ℤ) → AllByRecursion (λ d. dot d w ≤ℤ pos 0) (directions (p ∷ points) rays p) → IsGreatestAt (points_of cases) (rays_of cases) w
        there w k = record {
          at = p;
          among = subst (λ (ps : List Point). IsAmong p ps) (sym e) (inl refl);
          positive = above.0;
          none_grows = subst (λ (ps : List Point). AllByRecursion (λ d. dot d w ≤ℤ pos 0) (directions ps (rays_of cases) p)) (sym e) (subst (λ (rs : List (List ℤ)). AllByRecursion (λ d. dot d w ≤ℤ pos 0) (directions (p ∷ points) rs p)) (sym f) k);
        }

pub equations-are : (cases : List Change) → All IsCanonicalChange cases → HasChange cases → AreEquations (term_count cases) cases (equations cases)
equations-are cases h c = equations_are cases each (points_of cases) (rays_of cases) refl refl (change_brings cases each c)
  where
    each : AllByRecursion IsCanonicalChange cases
    each = recursion_from_All IsCanonicalChange cases h
