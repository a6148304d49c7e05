-- Forms seen from one point of a list and from another one: where one is 0 on all directions from
-- the one, it is so on those from the other.
use Rattle.std.proofs.Common.{◌≡◌, ℕ, refl, ap, ◌∙◌, arith, List, [], ◌∷◌, map, ℤ, pos, ◌+ℤ◌, ◌-ℤ◌, ◌*ℤ◌, ◌<ℤ◌}
use Rattle.std.specs.Prelude.{neg_ℤ}
use Rattle.std.specs.List.{AllByRecursion}
use Rattle.std.proofs.lemmas.Int.{ints}
use Rattle.items.proofs.Each.{each-append, each-front, each-back, each-map, each-more}
use Rattle.whole_numbers.specs.Dot.{dot}
use Rattle.whole_numbers.proofs.Ring.{ring, neg_ℤ-*ℤ}
use Rattle.cones.specs.Laws.{AreFlat, IsSplit, IsTangentAt}
use Rattle.cones.specs.Spans.{Values, IsSpanned}
use Rattle.cones.specs.Split.{flat, rest_basis}
use Rattle.cones.specs.Tangents.{difference, direction, directions}
use Rattle.cones.specs.Vectors.{lowest}
use Rattle.cones.specs.declared.point.Point.{Point}
use Rattle.cones.proofs.Dots.{IsLowestOf, lowest-is}
use Rattle.cones.proofs.Hulls.{dot_comm}
use Rattle.cones.proofs.Numbers.{times_zero, vanishes, vanishes_above}
use Rattle.cones.proofs.PivotSearch.{flat_and_rest-split}
use Rattle.facet_hull.proofs.Generators.{dot_of_combined, IsFlatVector, seen_from, two_each}

-- ---- values go along with sums of vectors

-- so many times one vector is a sum of multiples of two others
abbrev IsSumOf : ℤ → List ℤ → ℤ → List ℤ → ℤ → List ℤ → Type 0
IsSumOf k d a y b z = (u : List ℤ) → k *ℤ dot d u ≡ a *ℤ dot y u +ℤ b *ℤ dot z u

-- the values of vectors that are such sums are so too
abbrev pub KeepsSums : Values → Type 0
KeepsSums f = (k : ℤ) (d : List ℤ) (a : ℤ) (y : List ℤ) (b : ℤ) (z : List ℤ) → IsSumOf k d a y b z → k *ℤ f d ≡ a *ℤ f y +ℤ b *ℤ f z

pub dots_keep_sums : (e : List ℤ) → KeepsSums (λ l. dot l e)
dots_keep_sums e k d a y b z h = h e

pub spanned_keep_sums : (vs : List (List ℤ)) (f : Values) → IsSpanned vs f → KeepsSums f
spanned_keep_sums [] f s k d a y b z h = none (k *ℤ f d) (a *ℤ f y) (b *ℤ f z) (ap (λ x. k *ℤ x) (s d) ∙ times_zero k) (ap (λ x. a *ℤ x) (s y) ∙ times_zero a) (ap (λ x. b *ℤ x) (s z) ∙ times_zero b)
  where
    none : (x y z : ℤ) → x ≡ pos 0 → y ≡ pos 0 → z ≡ pos 0 → x ≡ y +ℤ z
    none x y z e f g = omega (arith, ints)
spanned_keep_sums (v ∷ vs) f s k d a y b z h =
    same (k *ℤ f d) (a *ℤ f y +ℤ b *ℤ f z)
    (vanishes s.0 (k *ℤ f d -ℤ (a *ℤ f y +ℤ b *ℤ f z)) s.2
    (regroup s.0 s.1 (f d) (f y) (f z) (dot d v) (dot y v) (dot z v)
    ∙ gone (k *ℤ (s.0 *ℤ f d -ℤ s.1 *ℤ dot d v)) (a *ℤ (s.0 *ℤ f y -ℤ s.1 *ℤ dot y v) +ℤ b *ℤ (s.0 *ℤ f z -ℤ s.1 *ℤ dot z v)) (s.1 *ℤ (k *ℤ dot d v -ℤ (a *ℤ dot y v +ℤ b *ℤ dot z v)))
    (spanned_keep_sums vs (λ line. s.0 *ℤ f line -ℤ s.1 *ℤ dot line v) s.3 k d a y b z h)
    (ap (λ x. s.1 *ℤ x) (level (k *ℤ dot d v) (a *ℤ dot y v +ℤ b *ℤ dot z v) (h v)) ∙ times_zero s.1)))
  where
    same : (x y : ℤ) → x -ℤ y ≡ pos 0 → x ≡ y
    same x y e = omega (arith, ints)

    level : (x y : ℤ) → x ≡ y → x -ℤ y ≡ pos 0
    level x y e = omega (arith, ints)

    gone : (x y w : ℤ) → x ≡ y → w ≡ pos 0 → x -ℤ y +ℤ w ≡ pos 0
    gone x y w e f = omega (arith, ints)

    regroup : (m c p q r s t u : ℤ) → m *ℤ (k *ℤ p -ℤ (a *ℤ q +ℤ b *ℤ r)) ≡ k *ℤ (m *ℤ p -ℤ c *ℤ s) -ℤ (a *ℤ (m *ℤ q -ℤ c *ℤ t) +ℤ b *ℤ (m *ℤ r -ℤ c *ℤ u)) +ℤ c *ℤ (k *ℤ s -ℤ (a *ℤ t +ℤ b *ℤ u))
    regroup m c p q r s t u = simp ring (omega (arith, ints))

-- ---- the direction from one point to another

-- it is such a sum, times a positive number
pub record IsDirection (p q : Point) : Type 0 where
  pub factor : ℤ
  pub positive : pos 0 <ℤ factor
  pub is : IsSumOf factor (direction p q) p.over q.numbers (neg_ℤ q.over) p.numbers

pub direction-is : (p q : Point) → IsDirection p q
direction-is p q = go (lowest-is (difference p q))
  where
    go : IsLowestOf (difference p q) (lowest (difference p q)) → IsDirection p q
    go l = record {
      factor = l.factor;
      positive = l.positive;
      is = λ u. ap (λ x. l.factor *ℤ x) (dot_comm (direction p q) u) ∙ l.is u ∙ dot_comm u (difference p q) ∙ dot_of_combined p.over q.numbers (neg_ℤ q.over) p.numbers u;
    }

-- where values are 0 on it, both points have the same
level_along : (f : Values) → KeepsSums f → (p q : Point) → f (direction p q) ≡ pos 0 → p.over *ℤ f q.numbers ≡ q.over *ℤ f p.numbers
level_along f keeps p q e = go (direction-is p q)
  where
    same : (x y z : ℤ) → x ≡ pos 0 → x ≡ y +ℤ z → (w : ℤ) → z ≡ neg_ℤ w → y ≡ w
    same x y z e f w g = omega (arith, ints)

    go : IsDirection p q → p.over *ℤ f q.numbers ≡ q.over *ℤ f p.numbers
    go d =
        same (d.factor *ℤ f (direction p q)) (p.over *ℤ f q.numbers) (neg_ℤ q.over *ℤ f p.numbers) (ap (λ x. d.factor *ℤ x) e ∙ times_zero d.factor) (keeps d.factor (direction p q) p.over q.numbers (neg_ℤ q.over) p.numbers d.is)
        (q.over *ℤ f p.numbers) (neg_ℤ-*ℤ q.over (f p.numbers))

-- and the other way round
pub flat_along : (f : Values) → KeepsSums f → (p q : Point) → p.over *ℤ f q.numbers ≡ q.over *ℤ f p.numbers → f (direction p q) ≡ pos 0
flat_along f keeps p q e = go (direction-is p q)
  where
    none : (x y z : ℤ) → x ≡ y +ℤ z → (w : ℤ) → z ≡ neg_ℤ w → y ≡ w → x ≡ pos 0
    none x y z f w g h = omega (arith, ints)

    go : IsDirection p q → f (direction p q) ≡ pos 0
    go d =
        vanishes_above d.factor (f (direction p q)) d.positive
        (none (d.factor *ℤ f (direction p q)) (p.over *ℤ f q.numbers) (neg_ℤ q.over *ℤ f p.numbers) (keeps d.factor (direction p q) p.over q.numbers (neg_ℤ q.over) p.numbers d.is)
        (q.over *ℤ f p.numbers) (neg_ℤ-*ℤ q.over (f p.numbers)) e)

pub each_of_map : {A B : Type 0} (Q : B → Type 0) (f : A → B) (xs : List A) → AllByRecursion Q (map f xs) → AllByRecursion (λ x. Q (f x)) xs
each_of_map Q f [] h = tt
each_of_map Q f (x ∷ xs) h = (h.0, each_of_map Q f xs h.1)

abbrev IsZeroOn : Values → List (List ℤ) → Type 0
IsZeroOn f ds = AllByRecursion (λ d. f d ≡ pos 0) ds

moved_origin : (f : Values) → KeepsSums f → (points : List Point) (rays : List (List ℤ)) (p q : Point) → pos 0 <ℤ p.over → f (direction p q) ≡ pos 0 → IsZeroOn f (directions points rays p) → IsZeroOn f (directions points rays q)
moved_origin f keeps points rays p q above e h =
    each-append (λ d. f d ≡ pos 0) (map (direction q) points) rays
    (each-map (λ (x : Point). f (direction p x) ≡ pos 0) (λ d. f d ≡ pos 0) (direction q) (λ x k. flat_along f keeps q x (levelled x (level_along f keeps p x k))) points
    (each_of_map (λ d. f d ≡ pos 0) (direction p) points (each-front (λ d. f d ≡ pos 0) (map (direction p) points) rays h)))
    (each-back (λ d. f d ≡ pos 0) (map (direction p) points) rays h)
  where
    -- p q over, values
    levelled : (x : Point) → p.over *ℤ f x.numbers ≡ x.over *ℤ f p.numbers → q.over *ℤ f x.numbers ≡ x.over *ℤ f q.numbers
    levelled x k = same (q.over *ℤ f x.numbers) (x.over *ℤ f q.numbers) (vanishes_above p.over (q.over *ℤ f x.numbers -ℤ x.over *ℤ f q.numbers) above (regroup (f x.numbers) (f q.numbers) (f p.numbers) q.over x.over p.over ∙ gone (p.over *ℤ f x.numbers -ℤ x.over *ℤ f p.numbers) (p.over *ℤ f q.numbers -ℤ q.over *ℤ f p.numbers) (level (p.over *ℤ f x.numbers) (x.over *ℤ f p.numbers) k) (level (p.over *ℤ f q.numbers) (q.over *ℤ f p.numbers) (level_along f keeps p q e))))
      where
        same : (x y : ℤ) → x -ℤ y ≡ pos 0 → x ≡ y
        same x y e = omega (arith, ints)

        level : (x y : ℤ) → x ≡ y → x -ℤ y ≡ pos 0
        level x y e = omega (arith, ints)

        gone : (a b : ℤ) → a ≡ pos 0 → b ≡ pos 0 → q.over *ℤ a -ℤ x.over *ℤ b ≡ pos 0
        gone a b e g = rw (e, g, times_zero q.over, times_zero x.over) refl

        regroup : (fx fq fp qo xo po : ℤ) → po *ℤ (qo *ℤ fx -ℤ xo *ℤ fq) ≡ qo *ℤ (po *ℤ fx -ℤ xo *ℤ fp) -ℤ xo *ℤ (po *ℤ fq -ℤ qo *ℤ fp)
        regroup fx fq fp qo xo po = simp ring (omega (arith, ints))

-- ---- equations and the rest fit the directions from each point

seen_back : (vs lines : List (List ℤ)) → AllByRecursion (IsFlatVector lines) vs → AreFlat vs lines
seen_back vs [] h = tt
seen_back vs (l ∷ lines) h = (each-more (IsFlatVector (l ∷ lines)) (λ v. dot l v ≡ pos 0) (λ v k. k.0) vs h, seen_back vs lines (each-more (IsFlatVector (l ∷ lines)) (IsFlatVector lines) (λ v k. k.1) vs h))

pub tangents : (count : ℕ) (p : Point) (points : List Point) (rays : List (List ℤ)) → AllByRecursion (λ (x : Point). pos 0 <ℤ x.over) (p ∷ points)
    → AllByRecursion (IsTangentAt (flat (directions (p ∷ points) rays p) count) (rest_basis (flat (directions (p ∷ points) rays p) count) count) (p ∷ points) rays) (p ∷ points)
tangents count p points rays above =
    two_each (λ (x : Point). pos 0 <ℤ x.over) (λ x. AllByRecursion (λ v. dot (direction p x) v ≡ pos 0) equations) (IsTangentAt equations basis (p ∷ points) rays) at_point (p ∷ points) above
    (each_of_map (λ d. AllByRecursion (λ v. dot d v ≡ pos 0) equations) (direction p) (p ∷ points) (each-front (λ d. AllByRecursion (λ v. dot d v ≡ pos 0) equations) (map (direction p) (p ∷ points)) rays split.flat_there))
  where
    equations : List (List ℤ)
    equations = flat (directions (p ∷ points) rays p) count

    basis : List (List ℤ)
    basis = rest_basis equations count

    split : IsSplit (directions (p ∷ points) rays p) count equations basis
    split = flat_and_rest-split (directions (p ∷ points) rays p) count

    at_point : (q : Point) → pos 0 <ℤ q.over → AllByRecursion (λ v. dot (direction p q) v ≡ pos 0) equations → IsTangentAt equations basis (p ∷ points) rays q
    at_point q positive h = record {
      positive = positive;
      pointed = λ f s k. split.pointed f s (moved_origin f (spanned_keep_sums basis f s) (p ∷ points) rays q p positive k.0 k);
      flat_there = seen_back equations (directions (p ∷ points) rays q)
          (two_each (λ v. dot (direction p q) v ≡ pos 0) (IsFlatVector (directions (p ∷ points) rays p)) (IsFlatVector (directions (p ∷ points) rays q)) (λ v e k. moved_origin (λ l. dot l v) (dots_keep_sums v) (p ∷ points) rays p q above.0 e k) equations h
          (seen_from equations (directions (p ∷ points) rays p) split.flat_there));
    }
