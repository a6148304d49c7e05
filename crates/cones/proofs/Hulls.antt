-- The facets through all points are complete.
use Rattle.std.proofs.Common.{◌≡◌, refl, sym, ap, subst, ◌∙◌, arith, ⊎_elim, inl, inr, List, [], ◌∷◌, ◌++◌, map, ℤ, pos, ◌+ℤ◌, ◌*ℤ◌, ◌≤ℤ◌, ◌<ℤ◌}
use Rattle.std.specs.Prelude.{◌⊎◌, neg_ℤ}
use Rattle.std.specs.List.{AllByRecursion}
use Rattle.std.proofs.lemmas.Int.{ints, by_lt_z}
use Rattle.std.proofs.Math.IntN.{*ℤ_comm}
use Rattle.whole_numbers.proofs.Ring.{*ℤ_right_comm, neg_ℤ-*ℤ, *ℤ-≤ℤ, ≤ℤ-*ℤ}
use Rattle.cones.specs.Vectors.{lowest}
use Rattle.whole_numbers.specs.Dot.{dot}
use Rattle.cones.specs.Spans.{IsSpanned, IsIndependent, AreAtMost, IsAboveAt}
use Rattle.cones.specs.Tangents.{Point, difference, directions, facets_at}
use Rattle.cones.specs.Laws.{IsTangentAt, MeetsAt, HasAsMuch}
use Rattle.cones.proofs.Numbers.{factor_not_above}
use Rattle.cones.proofs.Dots.{dot-combined, lowest-is, IsLowestOf}
use Rattle.cones.proofs.Flats.{extremes-above_flat}

pub dot_comm : (u v : List ℤ) → dot u v ≡ dot v u
dot_comm [] [] = refl
dot_comm [] (y ∷ ys) = refl
dot_comm (x ∷ xs) [] = refl
dot_comm (x ∷ xs) (y ∷ ys) = rw (*ℤ_comm x y, dot_comm xs ys) refl

-- the form grows by so much from one point to another, times both denominators
grown : (p q : Point) (form : List ℤ) → dot (difference p q) form ≡ p.over *ℤ dot q.numbers form +ℤ neg_ℤ q.over *ℤ dot p.numbers form
grown p q form =
    dot_comm (difference p q) form ∙ dot-combined form p.over q.numbers (neg_ℤ q.over) p.numbers
    ∙ rw (dot_comm form q.numbers, dot_comm form p.numbers) refl

-- the first point has at least the second one's value of the form
abbrev IsAbove : List ℤ → Point → Point → Type 0
IsAbove form p q = (dot q.numbers form *ℤ p.over) ≤ℤ (dot p.numbers form *ℤ q.over)

not_grown : (form : List ℤ) (p q : Point) → IsAbove form p q → dot (difference p q) form ≤ℤ pos 0
not_grown form p q h = subst (λ x. x ≤ℤ pos 0) (sym (grown p q form)) (less (dot q.numbers form) (dot p.numbers form) p.over q.over h)
  where
    less : (a b x y : ℤ) → (a *ℤ x) ≤ℤ (b *ℤ y) → (x *ℤ a +ℤ neg_ℤ y *ℤ b) ≤ℤ pos 0
    less a b x y h = links (a *ℤ x) (b *ℤ y) (x *ℤ a) (neg_ℤ y *ℤ b) h (*ℤ_comm x a) (neg_ℤ-*ℤ y b ∙ ap neg_ℤ (*ℤ_comm y b))
      where
        links : (m n o p : ℤ) → m ≤ℤ n → o ≡ m → p ≡ neg_ℤ n → (o +ℤ p) ≤ℤ pos 0
        links m n o p h e f = omega (arith, ints)

chained : (form : List ℤ) (p r q : Point) → pos 0 <ℤ p.over → pos 0 <ℤ r.over → pos 0 <ℤ q.over → IsAbove form p r → IsAbove form r q → IsAbove form p q
chained form p r q a b c h k = go (dot q.numbers form) (dot r.numbers form) (dot p.numbers form) q.over r.over p.over c b a k h
  where
    weak : (x : ℤ) → pos 0 <ℤ x → pos 0 ≤ℤ x
    weak x h = omega (arith, ints)

    go : (a b c x y z : ℤ) → pos 0 <ℤ x → pos 0 <ℤ y → pos 0 <ℤ z → (a *ℤ y) ≤ℤ (b *ℤ x) → (b *ℤ z) ≤ℤ (c *ℤ y) → (a *ℤ z) ≤ℤ (c *ℤ x)
    go a b c x y z r s t f g =
        *ℤ-≤ℤ (a *ℤ z) (c *ℤ x) y s
        (links (a *ℤ y *ℤ z) (b *ℤ x *ℤ z) (b *ℤ z *ℤ x) (c *ℤ y *ℤ x) (a *ℤ z *ℤ y) (c *ℤ x *ℤ y)
        (≤ℤ-*ℤ (a *ℤ y) (b *ℤ x) z (weak z t) f) (≤ℤ-*ℤ (b *ℤ z) (c *ℤ y) x (weak x r) g) (*ℤ_right_comm b x z) (*ℤ_right_comm a z y) (*ℤ_right_comm c x y))
      where
        links : (k l m n o q : ℤ) → k ≤ℤ l → m ≤ℤ n → l ≡ m → o ≡ k → q ≡ n → o ≤ℤ q
        links k l m n o q f g d e h = omega (arith, ints)

-- ---- the point with the greatest value

abbrev HasPoint : Point → List Point → Type 0
HasPoint p [] = ⊥
HasPoint p (q ∷ points) = (p ≡ q) ⊎ HasPoint p points

at_point : (P : Point → Type 0) (p : Point) (points : List Point) → AllByRecursion P points → HasPoint p points → P p
at_point P p [] h k = absurd k
at_point P p (q ∷ points) h k = ⊎_elim (λ (e : p ≡ q). subst P (sym e) h.0) (λ m. at_point P p points h.1 m) k

record Highest (form : List ℤ) (points : List Point) : Type 0 where
  point : Point
  within : HasPoint point points
  above : AllByRecursion (IsAbove form point) points

each_above : (form : List ℤ) (p r : Point) (points : List Point) → pos 0 <ℤ p.over → pos 0 <ℤ r.over → AllByRecursion (λ (q : Point). pos 0 <ℤ q.over) points → IsAbove form p r
    → AllByRecursion (IsAbove form r) points → AllByRecursion (IsAbove form p) points
each_above form p r [] a b c h k = tt
each_above form p r (q ∷ points) a b c h k = (chained form p r q a b c.0 h k.0, each_above form p r points a b c.1 h k.1)

highest : (form : List ℤ) (first : Point) (more : List Point) → AllByRecursion (λ (q : Point). pos 0 <ℤ q.over) (first ∷ more) → Highest form (first ∷ more)
highest form first [] h = record { point = first; within = inl refl; above = (same (dot first.numbers form *ℤ first.over), tt) }
  where
    same : (x : ℤ) → x ≤ℤ x
    same x = omega (arith, ints)
highest form first (second ∷ more) h = whole (highest form second more h.1)
  where
    same : (x : ℤ) → x ≤ℤ x
    same x = omega (arith, ints)

    weak : (x y : ℤ) → x <ℤ y → x ≤ℤ y
    weak x y h = omega (arith, ints)

    whole : Highest form (second ∷ more) → Highest form (first ∷ second ∷ more)
    whole r =
        by_lt_z (dot first.numbers form *ℤ r.point.over) (dot r.point.numbers form *ℤ first.over)
        (λ q. record { point = r.point; within = inr r.within; above = (weak (dot first.numbers form *ℤ r.point.over) (dot r.point.numbers form *ℤ first.over) q, r.above) })
        (λ q. record {
          point = first;
          within = inl refl;
          above = (
            same (dot first.numbers form *ℤ first.over),
            each_above form first r.point (second ∷ more) h.0 (at_point (λ (x : Point). pos 0 <ℤ x.over) r.point (second ∷ more) h.1 r.within) h.1 q r.above,
          );
        })

-- ---- from that point the form grows in no direction

pub lowest_at_most : (line form : List ℤ) → dot line form ≤ℤ pos 0 → dot (lowest line) form ≤ℤ pos 0
lowest_at_most line form h = whole (lowest-is line)
  where
    whole : IsLowestOf line (lowest line) → dot (lowest line) form ≤ℤ pos 0
    whole r =
        factor_not_above r.factor (dot (lowest line) form) r.positive
        (subst (λ x. x ≤ℤ pos 0) (sym (ap (λ x. r.factor *ℤ x) (dot_comm (lowest line) form) ∙ r.is form ∙ dot_comm form line)) h)

none_grows : (form : List ℤ) (p : Point) (points : List Point) (rays : List (List ℤ)) → AllByRecursion (IsAbove form p) points → AllByRecursion (λ ray. dot ray form ≤ℤ pos 0) rays
    → AreAtMost (map (λ q. lowest (difference p q)) points ++ rays) (λ l. dot l form)
none_grows form p [] rays h k = k
none_grows form p (q ∷ points) rays h k = (lowest_at_most (difference p q) form (not_grown form p q h.0), none_grows form p points rays h.1 k)

pub not_above : (z : List ℤ) (vs : List (List ℤ)) → AllByRecursion (λ v. dot z v ≤ℤ pos 0) vs → IsAboveAt z vs → ⊥
not_above z [] h k = k
not_above z (v ∷ vs) h k = ⊎_elim (λ (p : pos 0 <ℤ dot z v). clash (dot z v) p h.0) (λ m. not_above z vs h.1 m) k
  where
    clash : (x : ℤ) → pos 0 <ℤ x → x ≤ℤ pos 0 → ⊥
    clash x p q = omega (arith, ints)

as_much : (form : List ℤ) (place p : Point) (points : List Point) → HasPoint p points → dot (difference p place) form ≤ℤ pos 0 → HasAsMuch form place points
as_much form place p [] h k = absurd h
as_much form place p (q ∷ points) h k = ⊎_elim (λ (e : p ≡ q). inl (subst (λ (x : Point). dot (difference x place) form ≤ℤ pos 0) e k)) (λ m. inr (as_much form place p points m k)) h

each_positive : (flat basis : List (List ℤ)) (points : List Point) (rays : List (List ℤ)) (ps : List Point) → AllByRecursion (IsTangentAt flat basis points rays) ps → AllByRecursion (λ (q : Point). pos 0 <ℤ q.over) ps
each_positive flat basis points rays [] h = tt
each_positive flat basis points rays (p ∷ ps) h = (h.0.positive, each_positive flat basis points rays ps h.1)

pub facets-complete : (flat basis : List (List ℤ)) (first : Point) (more : List Point) (rays : List (List ℤ)) → IsIndependent basis → AllByRecursion (IsTangentAt flat basis (first ∷ more) rays) (first ∷ more)
    → (form : List ℤ) → IsSpanned (flat ++ basis) (λ line. dot line form) → AllByRecursion (λ ray. dot ray form ≤ℤ pos 0) rays
    → (place : Point) → AllByRecursion (MeetsAt flat basis (first ∷ more) rays place) (first ∷ more) → HasAsMuch form place (first ∷ more)
facets-complete flat basis first more rays i t form s r place m = whole (highest form first more (each_positive flat basis (first ∷ more) rays (first ∷ more) t))
  where
    whole : Highest form (first ∷ more) → HasAsMuch form place (first ∷ more)
    whole h =
        by_lt_z (pos 0) (dot (difference h.point place) form) (λ p. absurd (above p))
        (λ p. as_much form place h.point (first ∷ more) h.within p)
      where
        here : IsTangentAt flat basis (first ∷ more) rays h.point
        here = at_point (IsTangentAt flat basis (first ∷ more) rays) h.point (first ∷ more) t h.within

        met : MeetsAt flat basis (first ∷ more) rays place h.point
        met = at_point (MeetsAt flat basis (first ∷ more) rays place) h.point (first ∷ more) m h.within

        above : pos 0 <ℤ dot (difference h.point place) form → ⊥
        above p =
            not_above (difference h.point place) (facets_at basis (first ∷ more) rays h.point) met.facets
            (extremes-above_flat (directions (first ∷ more) rays h.point) flat basis i here.pointed here.flat_there (difference h.point place) (λ l. dot l form) met.equations s
            (none_grows form h.point (first ∷ more) rays h.above r) p)
