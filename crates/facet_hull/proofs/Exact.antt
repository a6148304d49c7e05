-- The normals of a body are exact.
use Rattle.std.proofs.Common.{◌≡◌, ℕ, refl, sym, ap, subst, ◌∙◌, arith, ⊎_elim, inl, inr, List, [], ◌∷◌, fold, length, map, ℤ, pos, ◌+ℤ◌, ◌*ℤ◌, ◌≤ℤ◌, ◌<ℤ◌}
use Rattle.std.specs.Prelude.{◌⊎◌, All, neg_ℤ}
use Rattle.std.specs.BTreeSet.{insert_key}
use Rattle.std.specs.Cmp.Lexicographic.{slice_cmp}
use Rattle.std.specs.List.{AllByRecursion, flat_map}
use Rattle.std.specs.Ordering.{int_cmp, match_ordering, ordering_then}
use Rattle.std.specs.declared.cmp.Ordering.{Ordering}
use Rattle.std.specs.declared.cmp.Ordering.TheVariants.{Less, Equal, Greater}
use Rattle.std.proofs.lemmas.Cmp.{int_ranked}
use Rattle.std.proofs.lemmas.Int.{ints}
use Rattle.std.proofs.lemmas.List.Elements.{recursion_from_All}
use Rattle.std.proofs.Math.IntN.{*ℤ_comm}
use Rattle.items.proofs.Each.{each-append, each-front, each-back, each-flat_map, each-more}
use Rattle.whole_numbers.specs.Dot.{dot}
use Rattle.whole_numbers.proofs.Ring.{*ℤ_right_comm, *ℤ-≤ℤ, ≤ℤ-*ℤ, neg_ℤ-*ℤ}
use Rattle.farkas_check.specs.Kept.{IsCanonicalChange}
use Rattle.farkas_check.specs.Relations.{term_count}
use Rattle.farkas_check.specs.declared.stratum.Change.{Change}
use Rattle.cones.specs.Laws.{IsSplit, IsTangentAt, MeetsAt, HasAsMuch}
use Rattle.cones.specs.Split.{flat, rest_basis}
use Rattle.cones.specs.Tangents.{difference, direction, directions, facets_at, facets_of, facets}
use Rattle.cones.specs.Vectors.{opposite}
use Rattle.cones.specs.declared.point.Point.{Point}
use Rattle.cones.proofs.Dots.{dot-opposite}
use Rattle.cones.proofs.Hulls.{dot_comm, facets-complete}
use Rattle.cones.proofs.PivotSearch.{flat_and_rest-split}
use Rattle.cones.proofs.Searches.{extremes-inside}
use Rattle.facet_hull.specs.Changes.{HasChange, Rational, IsSupremum}
use Rattle.facet_hull.specs.Hull.{Place, IsAtMost, Facet, MeetsFacet, AreSuprema, AreExact, both_signs}
use Rattle.facet_hull.specs.Images.{points_of, rays_of}
use Rattle.facet_hull.specs.Laws.{IsAtMostAt, Bounds}
use Rattle.facet_hull.specs.Normals.{normals_beside, normals_at, normals}
use Rattle.facet_hull.proofs.Bodies.{bounds_of_cases, cases_of_bounds, change_brings, points-positive}
use Rattle.facet_hull.proofs.Generators.{dot_of_combined, lowest_above, IsFlatVector, seen_from, two_each, each_of_parts}
use Rattle.facet_hull.proofs.Origins.{each_of_map, tangents}

-- ---- points of a list

abbrev pub IsAmong : Point → List Point → Type 0
IsAmong q [] = ⊥
IsAmong q (p ∷ points) = (q ≡ p) ⊎ IsAmong q points

pub of_one : (T : Point → Type 0) (q : Point) (points : List Point) → IsAmong q points → AllByRecursion T points → T q
of_one T q [] m h = absurd m
of_one T q (p ∷ points) m h = ⊎_elim (λ (e : q ≡ p). subst T (sym e) h.0) (λ k. of_one T q points k h.1) m

pub all_among : (points : List Point) → AllByRecursion (λ q. IsAmong q points) points
all_among [] = tt
all_among (p ∷ points) = (inl refl, each-more (λ q. IsAmong q points) (λ q. IsAmong q (p ∷ points)) (λ q m. inr m) points (all_among points))

-- ---- values of forms at points

-- the form has at most as much at a point, and at a place, as at another point
abbrev IsUpToAt : List ℤ → List ℤ → ℤ → Point → Type 0
IsUpToAt form numbers over p = (dot form numbers *ℤ p.over) ≤ℤ (dot form p.numbers *ℤ over)

grown : (p : Point) (numbers : List ℤ) (over : ℤ) (form : List ℤ) → dot (difference p (record { numbers = numbers; over = over })) form ≡ p.over *ℤ dot numbers form +ℤ neg_ℤ over *ℤ dot p.numbers form
grown p numbers over form = dot_of_combined p.over numbers (neg_ℤ over) p.numbers form

falls : (p : Point) (numbers : List ℤ) (over : ℤ) (form : List ℤ) → dot (difference p (record { numbers = numbers; over = over })) form ≤ℤ pos 0 → IsUpToAt form numbers over p
falls p numbers over form h =
    links (p.over *ℤ dot numbers form) (neg_ℤ over *ℤ dot p.numbers form) (dot form numbers *ℤ p.over) (dot form p.numbers *ℤ over)
    (subst (λ z. z ≤ℤ pos 0) (grown p numbers over form) h)
    (*ℤ_comm (dot form numbers) p.over ∙ ap (λ z. p.over *ℤ z) (dot_comm form numbers))
    (neg_ℤ-*ℤ over (dot p.numbers form) ∙ ap neg_ℤ (*ℤ_comm over (dot p.numbers form) ∙ ap (λ z. z *ℤ over) (dot_comm p.numbers form)))
  where
    links : (x y m n : ℤ) → (x +ℤ y) ≤ℤ pos 0 → m ≡ x → y ≡ neg_ℤ n → m ≤ℤ n
    links x y m n h e f = omega (arith, ints)

pub fallen : (p : Point) (numbers : List ℤ) (over : ℤ) (form : List ℤ) → IsUpToAt form numbers over p → dot (difference p (record { numbers = numbers; over = over })) form ≤ℤ pos 0
fallen p numbers over form h =
    subst (λ z. z ≤ℤ pos 0) (sym (grown p numbers over form))
    (links (p.over *ℤ dot numbers form) (neg_ℤ over *ℤ dot p.numbers form) (dot form numbers *ℤ p.over) (dot form p.numbers *ℤ over) h
    (*ℤ_comm (dot form numbers) p.over ∙ ap (λ z. p.over *ℤ z) (dot_comm form numbers))
    (neg_ℤ-*ℤ over (dot p.numbers form) ∙ ap neg_ℤ (*ℤ_comm over (dot p.numbers form) ∙ ap (λ z. z *ℤ over) (dot_comm p.numbers form))))
  where
    links : (x y m n : ℤ) → m ≤ℤ n → m ≡ x → y ≡ neg_ℤ n → (x +ℤ y) ≤ℤ pos 0
    links x y m n h e f = omega (arith, ints)

weak : (z : ℤ) → pos 0 <ℤ z → pos 0 ≤ℤ z
weak z h = omega (arith, ints)

-- a / x is at most b / y, which is at most c / z
pub between : (a x b y c z : ℤ) → pos 0 <ℤ x → pos 0 <ℤ y → pos 0 <ℤ z → (a *ℤ y) ≤ℤ (b *ℤ x) → (b *ℤ z) ≤ℤ (c *ℤ y) → (a *ℤ z) ≤ℤ (c *ℤ x)
between a x b y c z px py pz h k =
    *ℤ-≤ℤ (a *ℤ z) (c *ℤ x) y py
    (links (a *ℤ y *ℤ z) (b *ℤ x *ℤ z) (b *ℤ z *ℤ x) (c *ℤ y *ℤ x) (a *ℤ z *ℤ y) (c *ℤ x *ℤ y)
    (≤ℤ-*ℤ (a *ℤ y) (b *ℤ x) z (weak z pz) h) (*ℤ_right_comm b x z) (≤ℤ-*ℤ (b *ℤ z) (c *ℤ y) x (weak x px) k) (*ℤ_right_comm a z y) (*ℤ_right_comm c x y))
  where
    links : (m n o p q r : ℤ) → m ≤ℤ n → n ≡ o → o ≤ℤ p → q ≡ m → r ≡ p → q ≤ℤ r
    links m n o p q r h e k f g = omega (arith, ints)

-- ---- forms that are greatest at a point

-- the form grows in no direction from a point of the list
pub record IsGreatestAt (points : List Point) (rays : List (List ℤ)) (form : List ℤ) : Type 0 where
  pub at : Point
  pub among : IsAmong at points
  pub positive : pos 0 <ℤ at.over
  pub none_grows : AllByRecursion (λ d. dot d form ≤ℤ pos 0) (directions points rays at)

-- its value there
abbrev pub most_at : (points : List Point) (rays : List (List ℤ)) (form : List ℤ) → IsGreatestAt points rays form → Rational
most_at points rays form g = record { top = dot form g.at.numbers; bottom = g.at.over; positive = g.positive }

-- at no other point is it greater
up_to : (points : List Point) (rays : List (List ℤ)) (p : Point) (form : List ℤ) → AllByRecursion (λ d. dot d form ≤ℤ pos 0) (directions points rays p) → AllByRecursion (λ (q : Point). IsUpToAt form q.numbers q.over p) points
up_to points rays p form h =
    each-more (λ q. dot (direction p q) form ≤ℤ pos 0) (λ (q : Point). IsUpToAt form q.numbers q.over p) (λ q k. falls p q.numbers q.over form (lowest_above form (difference p q) k)) points
    (each_of_map (λ d. dot d form ≤ℤ pos 0) (direction p) points (each-front (λ d. dot d form ≤ℤ pos 0) (map (direction p) points) rays h))

pub supremum-is : (cases : List Change) → AllByRecursion IsCanonicalChange cases → (form : List ℤ) (g : IsGreatestAt (points_of cases) (rays_of cases) form) → IsSupremum cases form (most_at (points_of cases) (rays_of cases) form g)
supremum-is cases h form g = record {
  bound = cases_of_bounds cases h form (most_at (points_of cases) (rays_of cases) form g) (record {
    at_points = up_to (points_of cases) (rays_of cases) g.at form g.none_grows;
    along_rays = each-back (λ d. dot d form ≤ℤ pos 0) (map (direction g.at) (points_of cases)) (rays_of cases) g.none_grows;
  });
  least = λ other b. of_one (IsAtMostAt form other) g.at (points_of cases) g.among (bounds_of_cases cases h form other b).at_points;
}

-- ---- the facets with their suprema

abbrev AreGreatest : List Point → List (List ℤ) → List (List ℤ) → Type 0
AreGreatest points rays forms = AllByRecursion (IsGreatestAt points rays) forms

abbrev with_suprema : (points : List Point) (rays forms : List (List ℤ)) → AreGreatest points rays forms → List Facet
with_suprema points rays [] g = []
with_suprema points rays (form ∷ forms) g = record { normal = form; most = most_at points rays form g.0 } ∷ with_suprema points rays forms g.1

each_normal : (points : List Point) (rays forms : List (List ℤ)) (g : AreGreatest points rays forms) → map (λ (f : Facet). f.normal) (with_suprema points rays forms g) ≡ forms
each_normal points rays [] g = refl
each_normal points rays (form ∷ forms) g = ap (λ (fs : List (List ℤ)). form ∷ fs) (each_normal points rays forms g.1)

each_supremum : (cases : List Change) → AllByRecursion IsCanonicalChange cases → (forms : List (List ℤ)) (g : AreGreatest (points_of cases) (rays_of cases) forms) → AreSuprema cases (with_suprema (points_of cases) (rays_of cases) forms g)
each_supremum cases h [] g = tt
each_supremum cases h (form ∷ forms) g = (supremum-is cases h form g.0, each_supremum cases h forms g.1)

-- at the place the form is at most what it is at some point where it is greatest
pub record IsMetBy (points : List Point) (rays : List (List ℤ)) (place : Place) (form : List ℤ) : Type 0 where
  pub greatest : IsGreatestAt points rays form
  pub met : IsAtMost form (most_at points rays form greatest) place

each_met : (points : List Point) (rays : List (List ℤ)) (place : Place) (forms : List (List ℤ)) (g : AreGreatest points rays forms) → AllByRecursion (MeetsFacet place) (with_suprema points rays forms g) → AllByRecursion (IsMetBy points rays place) forms
each_met points rays place [] g m = tt
each_met points rays place (form ∷ forms) g m = (record { greatest = g.0; met = m.0 }, each_met points rays place forms g.1 m.1)

-- so the place is on no wrong side of the form, seen from each point where it is greatest
abbrev as_point : Place → Point
as_point place = record { numbers = place.numbers; over = place.over }

met_from : (points : List Point) (rays : List (List ℤ)) (place : Place) (form : List ℤ) → IsMetBy points rays place form → (q : Point) → pos 0 <ℤ q.over → AllByRecursion (λ d. dot d form ≤ℤ pos 0) (directions points rays q)
    → dot (difference q (as_point place)) form ≤ℤ pos 0
met_from points rays place form m q positive h =
    fallen q place.numbers place.over form
    (between (dot form place.numbers) place.over (dot form m.greatest.at.numbers) m.greatest.at.over (dot form q.numbers) q.over place.positive m.greatest.positive positive m.met
    (of_one (λ (x : Point). IsUpToAt form x.numbers x.over q) m.greatest.at points m.greatest.among (up_to points rays q form h)))

-- ---- a set of vectors

tie_both : (o p : Ordering) → ordering_then o p ≡ Equal → (o ≡ Equal) × (p ≡ Equal)
tie_both Less p h = cc
tie_both Equal p h = (refl, h)
tie_both Greater p h = cc

vectors_tie : (v w : List ℤ) → slice_cmp int_cmp v w ≡ Equal → v ≡ w
vectors_tie [] [] h = refl
vectors_tie [] (y ∷ w) h = cc
vectors_tie (x ∷ v) [] h = cc
vectors_tie (x ∷ v) (y ∷ w) h =
    let both = tie_both (int_cmp x y) (slice_cmp int_cmp v w) h in
    let first : x ≡ y = int_ranked x y Equal (sym both.0) in
    let others = vectors_tie v w both.1 in
    λ i. first i ∷ others i

abbrev pub with_vector : List (List ℤ) → List ℤ → List (List ℤ)
with_vector = insert_key (slice_cmp int_cmp)

pub each_inserted : (Q : List ℤ → Type 0) (vs : List (List ℤ)) (v : List ℤ) → AllByRecursion Q vs → Q v → AllByRecursion Q (with_vector vs v)
each_inserted Q [] v h q = (q, tt)
each_inserted Q (w ∷ vs) v h q = go (slice_cmp int_cmp v w) (each_inserted Q vs v h.1 q)
  where
    go : (o : Ordering) → AllByRecursion Q (with_vector vs v) → AllByRecursion Q (match_ordering o (v ∷ w ∷ vs) (w ∷ vs) (w ∷ with_vector vs v))
    go Less ih = (q, h)
    go Equal ih = h
    go Greater ih = (h.0, ih)

inserted_each : (Q : List ℤ → Type 0) (vs : List (List ℤ)) (v : List ℤ) → AllByRecursion Q (with_vector vs v) → AllByRecursion Q vs × Q v
inserted_each Q [] v h = (tt, h.0)
inserted_each Q (w ∷ vs) v h = go (slice_cmp int_cmp v w) refl h (λ k. inserted_each Q vs v k)
  where
    go : (o : Ordering) → slice_cmp int_cmp v w ≡ o → AllByRecursion Q (match_ordering o (v ∷ w ∷ vs) (w ∷ vs) (w ∷ with_vector vs v)) → (AllByRecursion Q (with_vector vs v) → AllByRecursion Q vs × Q v) → AllByRecursion Q (w ∷ vs) × Q v
    go Less e k ih = (k.1, k.0)
    go Equal e k ih = (k, subst Q (sym (vectors_tie v w e)) k.0)
    go Greater e k ih = ((k.0, (ih k.1).0), (ih k.1).1)

abbrev pub as_set : List (List ℤ) → List (List ℤ) → List (List ℤ)
as_set made vs = fold (insert_key (slice_cmp int_cmp)) made vs

pub each_in_set : (Q : List ℤ → Type 0) (made vs : List (List ℤ)) → AllByRecursion Q made → AllByRecursion Q vs → AllByRecursion Q (as_set made vs)
each_in_set Q made [] h k = h
each_in_set Q made (v ∷ vs) h k = each_in_set Q (with_vector made v) vs (each_inserted Q made v h k.0) k.1

set_each : (Q : List ℤ → Type 0) (made vs : List (List ℤ)) → AllByRecursion Q (as_set made vs) → AllByRecursion Q made × AllByRecursion Q vs
set_each Q made [] h = (h, tt)
set_each Q made (v ∷ vs) h =
    let rest = set_each Q (with_vector made v) vs h in
    let both = inserted_each Q made v rest.0 in
    (both.0, (both.1, rest.1))

-- ---- the normals at the points

-- the form is 0 on all directions, or its opposite
pub still_both_ways : (ds : List (List ℤ)) (e : List ℤ) → IsFlatVector ds e → AllByRecursion (λ d. dot d e ≤ℤ pos 0) ds × AllByRecursion (λ d. dot d (opposite e) ≤ℤ pos 0) ds
still_both_ways [] e h = (tt, tt)
still_both_ways (d ∷ ds) e h =
    let rest = still_both_ways ds e h.1 in
    ((at_most (dot d e) h.0, rest.0), (subst (λ z. z ≤ℤ pos 0) (sym (dot-opposite d e)) (minus (dot d e) h.0), rest.1))
  where
    at_most : (z : ℤ) → z ≡ pos 0 → z ≤ℤ pos 0
    at_most z e = omega (arith, ints)

    minus : (z : ℤ) → z ≡ pos 0 → neg_ℤ z ≤ℤ pos 0
    minus z e = omega (arith, ints)

module _ (count : ℕ) (p : Point) (points : List Point) (rays : List (List ℤ)) (above : AllByRecursion (λ (x : Point). pos 0 <ℤ x.over) (p ∷ points)) where
  abbrev all_points : List Point
  all_points = p ∷ points

  abbrev equations : List (List ℤ)
  equations = flat (directions (p ∷ points) rays p) count

  abbrev basis : List (List ℤ)
  basis = rest_basis (flat (directions (p ∷ points) rays p) count) count

  split : IsSplit (directions (p ∷ points) rays p) count equations basis
  split = flat_and_rest-split (directions (p ∷ points) rays p) count

  -- the facets through each point are greatest there
  through : (q : Point) → AllByRecursion (λ v. AllByRecursion (λ d. dot d v ≤ℤ pos 0) (directions all_points rays q)) (facets_at basis all_points rays q)
  through q = extremes-inside (directions all_points rays q) (directions all_points rays q) basis

  abbrev IsPositiveAmong : Point → Type 0
  IsPositiveAmong q = (pos 0 <ℤ q.over) × IsAmong q all_points

  greatest_facets : AreGreatest all_points rays (facets basis all_points rays)
  greatest_facets =
      each_in_set (IsGreatestAt all_points rays) [] (facets_of basis all_points rays) tt
      (each-flat_map IsPositiveAmong (IsGreatestAt all_points rays) (facets_at basis all_points rays)
      (λ q k. each-more (λ v. AllByRecursion (λ d. dot d v ≤ℤ pos 0) (directions all_points rays q)) (IsGreatestAt all_points rays) (λ v h. record { at = q; among = k.1; positive = k.0; none_grows = h }) (facets_at basis all_points rays q) (through q))
      all_points
      (two_each (λ (x : Point). pos 0 <ℤ x.over) (λ q. IsAmong q all_points) IsPositiveAmong (λ q a b. (a, b)) all_points above (all_among all_points)))

  greatest_equations : AreGreatest all_points rays (flat_map both_signs equations)
  greatest_equations =
      each-flat_map (IsFlatVector (directions all_points rays p)) (IsGreatestAt all_points rays) both_signs
      (λ e h. (record { at = p; among = inl refl; positive = above.0; none_grows = (still_both_ways (directions all_points rays p) e h).0 }, (record { at = p; among = inl refl; positive = above.0; none_grows = (still_both_ways (directions all_points rays p) e h).1 }, tt)))
      equations (seen_from equations (directions all_points rays p) split.flat_there)

  pub greatest_normals : AreGreatest all_points rays (normals_beside equations count all_points rays)
  greatest_normals = each-append (IsGreatestAt all_points rays) (flat_map both_signs equations) (facets basis all_points rays) greatest_equations greatest_facets

  -- a place that meets all of the normals, seen from each point
  meets_at : (place : Place) → AllByRecursion (IsMetBy all_points rays place) (normals_beside equations count all_points rays) → AllByRecursion (MeetsAt equations basis all_points rays (as_point place)) all_points
  meets_at place m =
      two_each (λ q. AllByRecursion (IsMetBy all_points rays place) (facets_at basis all_points rays q)) (IsTangentAt equations basis all_points rays) (MeetsAt equations basis all_points rays (as_point place)) at_point all_points
      (each_of_parts (IsMetBy all_points rays place) (facets_at basis all_points rays) all_points (set_each (IsMetBy all_points rays place) [] (facets_of basis all_points rays) (each-back (IsMetBy all_points rays place) (flat_map both_signs equations) (facets basis all_points rays) m)).1)
      (tangents count p points rays above)
    where
      met_equations : AllByRecursion (λ e. AllByRecursion (IsMetBy all_points rays place) (both_signs e)) equations
      met_equations = each_of_parts (IsMetBy all_points rays place) both_signs equations (each-front (IsMetBy all_points rays place) (flat_map both_signs equations) (facets basis all_points rays) m)

      zero_of : (x y : ℤ) → y ≡ neg_ℤ x → x ≤ℤ pos 0 → y ≤ℤ pos 0 → x ≡ pos 0
      zero_of x y e h k = omega (arith, ints)

      at_point : (q : Point) → AllByRecursion (IsMetBy all_points rays place) (facets_at basis all_points rays q) → IsTangentAt equations basis all_points rays q → MeetsAt equations basis all_points rays (as_point place) q
      at_point q k t = record {
        equations =
            two_each (λ e. AllByRecursion (IsMetBy all_points rays place) (both_signs e)) (IsFlatVector (directions all_points rays q)) (λ e. dot (difference q (as_point place)) e ≡ pos 0)
            (λ e k f. zero_of (dot (difference q (as_point place)) e) (dot (difference q (as_point place)) (opposite e)) (dot-opposite (difference q (as_point place)) e)
            (met_from all_points rays place e k.0 q t.positive (still_both_ways (directions all_points rays q) e f).0)
            (met_from all_points rays place (opposite e) k.1.0 q t.positive (still_both_ways (directions all_points rays q) e f).1))
            equations met_equations (seen_from equations (directions all_points rays q) t.flat_there);
        facets = two_each (IsMetBy all_points rays place) (λ v. AllByRecursion (λ d. dot d v ≤ℤ pos 0) (directions all_points rays q)) (λ v. dot (difference q (as_point place)) v ≤ℤ pos 0)
            (λ v m h. met_from all_points rays place v m q t.positive h) (facets_at basis all_points rays q) k (through q);
      }

  as_much_bounds : (form : List ℤ) (most : Rational) (place : Place) (ps : List Point) → AllByRecursion (λ (x : Point). pos 0 <ℤ x.over) ps → AllByRecursion (IsAtMostAt form most) ps → HasAsMuch form (as_point place) ps → IsAtMost form most place
  as_much_bounds form most place [] a b h = absurd h
  as_much_bounds form most place (q ∷ ps) a b h =
      ⊎_elim (λ (k : dot (difference q (as_point place)) form ≤ℤ pos 0). between (dot form place.numbers) place.over (dot form q.numbers) q.over most.top most.bottom place.positive a.0 most.positive (falls q place.numbers place.over form k) b.0)
      (λ k. as_much_bounds form most place ps a.1 b.1 k) h

  pub points_complete : (form : List ℤ) (most : Rational) → length form ≡ count → Bounds all_points rays form most → (place : Place) → AllByRecursion (IsMetBy all_points rays place) (normals_beside equations count all_points rays) → IsAtMost form most place
  points_complete form most e b place m =
      as_much_bounds form most place all_points above b.at_points
      (facets-complete equations basis p points rays split.independent (tangents count p points rays above) form (split.spans form e) b.along_rays (as_point place) (meets_at place m))

-- ---- the normals of a body

abbrev pub AreExactAt : List Change → List Point → List (List ℤ) → Type 0
AreExactAt cases points rays = points_of cases ≡ points → rays_of cases ≡ rays → (points ≡ [] → ⊥) → AreExact (term_count cases) cases (normals_at (term_count cases) points rays)

pub exact_at : (cases : List Change) → AllByRecursion IsCanonicalChange cases → (points : List Point) (rays : List (List ℤ)) → AreExactAt cases points rays
exact_at cases h [] rays e f some = absurd (some refl)
exact_at cases h (p ∷ points) rays e f some = record {
  bounds = with_suprema (p ∷ points) rays (normals_at (term_count cases) (p ∷ points) rays) greatest;
  each = each_normal (p ∷ points) rays (normals_at (term_count cases) (p ∷ points) rays) greatest;
  suprema = moved_suprema;
  complete = λ place m form most long b. points_complete (term_count cases) p points rays above form most long
      (subst (λ (ps : List Point). Bounds ps rays form most) e (subst (λ (rs : List (List ℤ)). Bounds (points_of cases) rs form most) f (bounds_of_cases cases h form most b))) place
      (each_met (p ∷ points) rays place (normals_at (term_count cases) (p ∷ points) rays) greatest m);
}
  where
    above : AllByRecursion (λ (x : Point). pos 0 <ℤ x.over) (p ∷ points)
    above = subst (λ (ps : List Point). AllByRecursion (λ (x : Point). pos 0 <ℤ x.over) ps) e (points-positive cases)

    greatest : AreGreatest (p ∷ points) rays (normals_at (term_count cases) (p ∷ points) rays)
    greatest = greatest_normals (term_count cases) p points rays above

    moved_suprema : AreSuprema cases (with_suprema (p ∷ points) rays (normals_at (term_count cases) (p ∷ points) rays) greatest)
    moved_suprema = each_of (p ∷ points) rays e f (normals_at (term_count cases) (p ∷ points) rays) greatest
      where
        each_of : (ps : List Point) (rs : List (List ℤ)) → points_of cases ≡ ps → rays_of cases ≡ rs → (forms : List (List ℤ)) (g : AreGreatest ps rs forms) → AreSuprema cases (with_suprema ps rs forms g)
        each_of ps rs e f = subst (λ (xs : List Point). (forms : List (List ℤ)) (g : AreGreatest xs rs forms) → AreSuprema cases (with_suprema xs rs forms g)) e
            (subst (λ (ys : List (List ℤ)). (forms : List (List ℤ)) (g : AreGreatest (points_of cases) ys forms) → AreSuprema cases (with_suprema (points_of cases) ys forms g)) f (each_supremum cases h))

pub normals-exact : (cases : List Change) → All IsCanonicalChange cases → HasChange cases → AreExact (term_count cases) cases (normals cases)
normals-exact cases h c = exact_at cases each (points_of cases) (rays_of cases) refl refl (change_brings cases each c)
  where
    each : AllByRecursion IsCanonicalChange cases
    each = recursion_from_All IsCanonicalChange cases h
