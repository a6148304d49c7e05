-- Each facet of the hull is needed beside the equations and the other facets.
use Rattle.std.proofs.Common.{◌≡◌, ◌≢◌, ℕ, ◌+◌, ◌<◌, Bool, true, false, cond, ⊎_elim, inl, inr, refl, sym, ap, subst, ◌∙◌, arith, List, [], ◌∷◌, ◌++◌, length, map, ℤ, pos, ◌+ℤ◌, ◌*ℤ◌, ◌≤ℤ◌, ◌<ℤ◌}
use Rattle.std.specs.Prelude.{◌⊎◌, neg_ℤ}
use Rattle.std.specs.Cmp.Lexicographic.{slice_cmp}
use Rattle.std.specs.List.{AllByRecursion, flat_map}
use Rattle.std.specs.List.Sorted.{IsStrictlySortedBy}
use Rattle.std.specs.Ordering.{int_cmp, int_eq}
use Rattle.std.proofs.lemmas.Bool.{false≢true}
use Rattle.std.proofs.lemmas.Bool.Decides.{Decides-int_eq}
use Rattle.std.proofs.lemmas.Int.{ints, by_lt_z}
use Rattle.std.proofs.lemmas.List.{length-map, map-append}
use Rattle.items.proofs.Each.{each-append, each-back, each-both, each-flat_map, each-front, each-more}
use Rattle.whole_numbers.specs.Divisors.{gcd_of_all}
use Rattle.whole_numbers.specs.Dot.{dot}
use Rattle.whole_numbers.proofs.Ring.{one-*ℤ}
use Rattle.cones.specs.Laws.{IsSplit, IsTangentAt}
use Rattle.cones.specs.Spans.{AreAtMost, IsSpanned}
use Rattle.cones.specs.Split.{IsAmong as IsLineAmong, flat, rest_basis, pivots, units}
use Rattle.cones.specs.Tangents.{directions, facets_at, facets_of, facets}
use Rattle.cones.specs.Vectors.{combination, opposite}
use Rattle.cones.specs.declared.point.Point.{Point}
use Rattle.cones.proofs.Dots.{dot-opposite}
use Rattle.cones.proofs.Extreme.{IsExtreme, extremes-extreme}
use Rattle.cones.proofs.PivotSearch.{flat_and_rest-split}
use Rattle.cones.proofs.Primitive.{extremes-lowest, cleared_units-primitive}
use Rattle.cones.proofs.Proportional.{lowest-seen, proportional-same}
use Rattle.cones.proofs.Searches.{extremes-inside, extremes-spanned}
use Rattle.cones.proofs.Splitting.{at_among}
use Rattle.facet_hull.specs.Hull.{Facet, IsNeeded, both_signs}
use Rattle.facet_hull.specs.Laws.{Bounds}
use Rattle.facet_hull.proofs.Ascending.{AreOthers, ascending-others, set-ascends}
use Rattle.facet_hull.proofs.Exact.{IsAmong, of_one, all_among, each_in_set}
use Rattle.facet_hull.proofs.Generators.{dot_of_combined, IsFlatVector, seen_from, two_each}
use Rattle.facet_hull.proofs.Origins.{each_of_map, tangents}
use Rattle.facet_hull.proofs.Outside.{IsTightAt, tight-falls, IsKeptBack, needed-there}
use Rattle.facet_hull.proofs.Wide.{extremes-wide, rest_basis-wide}

-- ---- directions from a point, seen by a form

-- the sum of those on which the form is 0
abbrev still_sum : List ℤ → List (List ℤ) → List ℤ
still_sum form [] = []
still_sum form (d ∷ ds) = cond (int_eq (dot d form) (pos 0)) (combination (pos 1) d (pos 1) (still_sum form ds)) (still_sum form ds)

with_one : (d sum form : List ℤ) → dot (combination (pos 1) d (pos 1) sum) form ≡ dot d form +ℤ dot sum form
with_one d sum form = dot_of_combined (pos 1) d (pos 1) sum form ∙ rw (one-*ℤ (dot d form), one-*ℤ (dot sum form)) refl

both_zero : (x y : ℤ) → x ≡ pos 0 → y ≡ pos 0 → x +ℤ y ≡ pos 0
both_zero x y e f = omega (arith, ints)

-- the form is 0 on it
still_sum-zero : (form : List ℤ) (ds : List (List ℤ)) → dot (still_sum form ds) form ≡ pos 0
still_sum-zero form [] = refl
still_sum-zero form (d ∷ ds) = go (int_eq (dot d form) (pos 0)) refl (still_sum-zero form ds)
  where
    go : (b : Bool) → int_eq (dot d form) (pos 0) ≡ b → dot (still_sum form ds) form ≡ pos 0 → dot (cond b (combination (pos 1) d (pos 1) (still_sum form ds)) (still_sum form ds)) form ≡ pos 0
    go true e more = with_one d (still_sum form ds) form ∙ both_zero (dot d form) (dot (still_sum form ds) form) ((Decides-int_eq (dot d form) (pos 0)).0 e) more
    go false e more = more

-- what is 0 on all directions is so too
still_sum-flat : (form : List ℤ) (ds : List (List ℤ)) (other : List ℤ) → IsFlatVector ds other → dot (still_sum form ds) other ≡ pos 0
still_sum-flat form [] other h = refl
still_sum-flat form (d ∷ ds) other h = go (int_eq (dot d form) (pos 0)) (still_sum-flat form ds other h.1)
  where
    go : (b : Bool) → dot (still_sum form ds) other ≡ pos 0 → dot (cond b (combination (pos 1) d (pos 1) (still_sum form ds)) (still_sum form ds)) other ≡ pos 0
    go true more = with_one d (still_sum form ds) other ∙ both_zero (dot d other) (dot (still_sum form ds) other) h.0 more
    go false more = more

-- the other form is 0 wherever the form is
abbrev IsStillToo : List ℤ → List (List ℤ) → List ℤ → Type 0
IsStillToo form ds other = AllByRecursion (λ d. dot d form ≡ pos 0 → dot d other ≡ pos 0) ds

abbrev FallsOrStays : List ℤ → List (List ℤ) → List ℤ → Type 0
FallsOrStays form ds other = (dot (still_sum form ds) other <ℤ pos 0) ⊎ ((dot (still_sum form ds) other ≡ pos 0) × IsStillToo form ds other)

-- what grows in no direction falls along the sum, or is 0 wherever the form is
still_sum-falls : (form : List ℤ) (ds : List (List ℤ)) (other : List ℤ) → AllByRecursion (λ d. dot d other ≤ℤ pos 0) ds → FallsOrStays form ds other
still_sum-falls form [] other h = inr (refl, tt)
still_sum-falls form (d ∷ ds) other h = go (int_eq (dot d form) (pos 0)) refl (still_sum-falls form ds other h.1)
  where
    below : (x y : ℤ) → x ≤ℤ pos 0 → y <ℤ pos 0 → (x +ℤ y) <ℤ pos 0
    below x y h k = omega (arith, ints)

    below_first : (x y : ℤ) → x <ℤ pos 0 → y ≡ pos 0 → (x +ℤ y) <ℤ pos 0
    below_first x y h k = omega (arith, ints)

    same : (x : ℤ) → x ≤ℤ pos 0 → pos 0 ≤ℤ x → x ≡ pos 0
    same x h k = omega (arith, ints)

    go : (b : Bool) → int_eq (dot d form) (pos 0) ≡ b → FallsOrStays form ds other
        → (dot (cond b (combination (pos 1) d (pos 1) (still_sum form ds)) (still_sum form ds)) other <ℤ pos 0) ⊎ ((dot (cond b (combination (pos 1) d (pos 1) (still_sum form ds)) (still_sum form ds)) other ≡ pos 0) × IsStillToo form (d ∷ ds) other)
    go true e more =
        ⊎_elim (λ (k : dot (still_sum form ds) other <ℤ pos 0). inl (subst (λ z. z <ℤ pos 0) (sym (with_one d (still_sum form ds) other)) (below (dot d other) (dot (still_sum form ds) other) h.0 k)))
        (λ (k : (dot (still_sum form ds) other ≡ pos 0) × IsStillToo form ds other). by_lt_z (dot d other) (pos 0)
        (λ l. inl (subst (λ z. z <ℤ pos 0) (sym (with_one d (still_sum form ds) other)) (below_first (dot d other) (dot (still_sum form ds) other) l k.0)))
        (λ l. inr (with_one d (still_sum form ds) other ∙ both_zero (dot d other) (dot (still_sum form ds) other) (same (dot d other) h.0 l) k.0, ((λ f. same (dot d other) h.0 l), k.1))))
        more
    go false e more =
        ⊎_elim (λ (k : dot (still_sum form ds) other <ℤ pos 0). inl k)
        (λ (k : (dot (still_sum form ds) other ≡ pos 0) × IsStillToo form ds other). inr (k.0, ((λ f. absurd (false≢true (sym e ∙ (Decides-int_eq (dot d form) (pos 0)).1 f))), k.1)))
        more

-- a direction on which the form is below 0
pub record HasFall (form : List ℤ) (ds : List (List ℤ)) : Type 0 where
  pub line : List ℤ
  pub among : IsLineAmong ds line
  pub below : dot line form <ℤ pos 0

still_or_falls : (form : List ℤ) (ds : List (List ℤ)) → AllByRecursion (λ d. dot d form ≤ℤ pos 0) ds → IsFlatVector ds form ⊎ HasFall form ds
still_or_falls form [] h = inl tt
still_or_falls form (d ∷ ds) h =
    by_lt_z (dot d form) (pos 0) (λ l. inr (record { line = d; among = inl refl; below = l }))
    (λ l. ⊎_elim (λ (k : IsFlatVector ds form). inl (same (dot d form) h.0 l, k)) (λ (k : HasFall form ds). inr (record { line = k.line; among = inr k.among; below = k.below })) (still_or_falls form ds h.1))
  where
    same : (x : ℤ) → x ≤ℤ pos 0 → pos 0 ≤ℤ x → x ≡ pos 0
    same x h k = omega (arith, ints)

-- ---- a list cut behind others

record IsCut (first xs more : List (List ℤ)) (y : List ℤ) (ys : List (List ℤ)) : Type 0 where
  front : List (List ℤ)
  is : xs ≡ first ++ front
  rest : more ≡ front ++ y ∷ ys

abbrev behind_first : List (List ℤ) → List (List ℤ)
behind_first [] = []
behind_first (x ∷ xs) = xs

abbrev head_of : List (List ℤ) → List ℤ
head_of [] = []
head_of (x ∷ xs) = x

cut : (first xs more : List (List ℤ)) (y : List ℤ) (ys : List (List ℤ)) → xs ++ y ∷ ys ≡ first ++ more → length first < length xs + 1 → IsCut first xs more y ys
cut [] xs more y ys e h = record { front = xs; is = refl; rest = sym e }
cut (u ∷ first) [] more y ys e h = absurd (omega (arith, h))
cut (u ∷ first) (x ∷ xs) more y ys e h = longer (cut first xs more y ys (ap behind_first e) (omega (arith, h)))
  where
    longer : IsCut first xs more y ys → IsCut (u ∷ first) (x ∷ xs) more y ys
    longer r = record { front = r.front; is = λ i. head_of (e i) ∷ r.is i; rest = r.rest }

-- ---- facets of points and rays

-- where a facet was found, and what is known of it
pub record IsFoundFacet (count : ℕ) (basis : List (List ℤ)) (points : List Point) (rays : List (List ℤ)) (form : List ℤ) : Type 0 where
  pub at : Point
  pub among : IsAmong at points
  pub positive : pos 0 <ℤ at.over
  pub none_grows : AllByRecursion (λ d. dot d form ≤ℤ pos 0) (directions points rays at)
  pub spanned : IsSpanned basis (λ line. dot line form)
  pub extreme : IsExtreme (directions points rays at) basis form
  pub lowest : gcd_of_all form ≡ 1
  pub long : length form ≡ count

-- its bound is one of the points and rays, and is tight wherever it grows in no direction
pub record IsSharp (points : List Point) (rays : List (List ℤ)) (f : Facet) : Type 0 where
  pub bounds : Bounds points rays f.normal f.most
  pub tight : (q : Point) → IsAmong q points → pos 0 <ℤ q.over → AllByRecursion (λ d. dot d f.normal ≤ℤ pos 0) (directions points rays q) → IsTightAt f q

module _ (count : ℕ) (p : Point) (points : List Point) (rays : List (List ℤ)) (above : AllByRecursion (λ (x : Point). pos 0 <ℤ x.over) (p ∷ points)) where
  abbrev all_points : List Point
  all_points = p ∷ points

  abbrev equations : List (List ℤ)
  equations = flat (directions (p ∷ points) rays p) count

  abbrev basis : List (List ℤ)
  basis = rest_basis (flat (directions (p ∷ points) rays p) count) count

  split : IsSplit (directions (p ∷ points) rays p) count equations basis
  split = flat_and_rest-split (directions (p ∷ points) rays p) count

  abbrev IsFound : List ℤ → Type 0
  IsFound form = IsFoundFacet count basis all_points rays form

  found-at : (q : Point) → pos 0 <ℤ q.over → IsAmong q all_points → AllByRecursion IsFound (facets_at basis all_points rays q)
  found-at q positive among =
      two_each (λ v. AreAtMost (directions all_points rays q) (λ line. dot line v) × IsSpanned basis (λ line. dot line v)) (λ v. IsExtreme (directions all_points rays q) basis v × ((gcd_of_all v ≡ 1) × (length v ≡ count))) IsFound
      (λ v h k. record { at = q; among = among; positive = positive; none_grows = h.0; spanned = h.1; extreme = k.0; lowest = k.1.0; long = k.1.1 })
      (facets_at basis all_points rays q)
      (each-both (λ v. AreAtMost (directions all_points rays q) (λ line. dot line v)) (λ v. IsSpanned basis (λ line. dot line v)) (facets_at basis all_points rays q)
      (extremes-inside (directions all_points rays q) (directions all_points rays q) basis) (extremes-spanned (directions all_points rays q) (directions all_points rays q) basis))
      (each-both (IsExtreme (directions all_points rays q) basis) (λ v. (gcd_of_all v ≡ 1) × (length v ≡ count)) (facets_at basis all_points rays q)
      (extremes-extreme (directions all_points rays q) (directions all_points rays q) basis)
      (each-both (λ v. gcd_of_all v ≡ 1) (λ v. length v ≡ count) (facets_at basis all_points rays q)
      (extremes-lowest (directions all_points rays q) (directions all_points rays q) basis split.independent (cleared_units-primitive (pivots (units count) equations) count))
      (extremes-wide count (directions all_points rays q) (directions all_points rays q) basis (rest_basis-wide equations count))))

  pub facets-found : AllByRecursion IsFound (facets basis all_points rays)
  facets-found =
      each_in_set IsFound [] (facets_of basis all_points rays) tt
      (each-flat_map (λ (q : Point). (pos 0 <ℤ q.over) × IsAmong q all_points) IsFound (facets_at basis all_points rays) (λ q k. found-at q k.0 k.1) all_points
      (each-both (λ (x : Point). pos 0 <ℤ x.over) (λ q. IsAmong q all_points) all_points above (all_among all_points)))

  -- ---- what the others do where a facet was found

  module _ (form : List ℤ) (f : IsFound form) (fall : HasFall form (directions all_points rays f.at)) where
    -- an equation, or another facet
    abbrev IsOther : List ℤ → Type 0
    IsOther other = IsFlatVector (directions all_points rays f.at) other ⊎ (IsFound other × (other ≢ form))

    abbrev IsBack : Facet → Type 0
    IsBack g = IsKeptBack f.at (still_sum form (directions all_points rays f.at)) fall.line g

    opposite-grows : (other : List ℤ) → AllByRecursion (λ d. dot d other ≤ℤ pos 0) (directions all_points rays f.at) → other ≡ opposite form → ⊥
    opposite-grows other h e =
        clash (dot fall.line form) (dot fall.line (opposite form)) fall.below (dot-opposite fall.line form)
        (subst (λ v. dot fall.line v ≤ℤ pos 0) e (at_among (λ d. dot d other ≤ℤ pos 0) (directions all_points rays f.at) fall.line h fall.among))
      where
        clash : (x y : ℤ) → x <ℤ pos 0 → y ≡ neg_ℤ x → y ≤ℤ pos 0 → ⊥
        clash x y h e k = omega (arith, ints)

    tight-back : (g : Facet) → IsFound g.normal → g.normal ≢ form → AllByRecursion (λ d. dot d g.normal ≤ℤ pos 0) (directions all_points rays f.at) → IsBack g
    tight-back g found other h =
        ⊎_elim (λ (k : dot (still_sum form (directions all_points rays f.at)) g.normal <ℤ pos 0). inr (inl k))
        (λ (k : (dot (still_sum form (directions all_points rays f.at)) g.normal ≡ pos 0) × IsStillToo form (directions all_points rays f.at) g.normal). absurd (⊎_elim (λ (e : g.normal ≡ form). other e) (λ e. opposite-grows g.normal h e)
        (proportional-same form g.normal (found.long ∙ sym f.long) f.lowest found.lowest (f.extreme (λ line. dot line g.normal) found.spanned k.1))))
        (still_sum-falls form (directions all_points rays f.at) g.normal h)

    kept-back : (g : Facet) → IsSharp all_points rays g → IsOther g.normal → IsBack g
    kept-back g s other =
        ⊎_elim
        (λ (k : IsFlatVector (directions all_points rays f.at) g.normal). inl (
          still_sum-flat form (directions all_points rays f.at) g.normal k,
          at_among (λ d. dot d g.normal ≡ pos 0) (directions all_points rays f.at) fall.line k fall.among,
        ))
        (λ (k : IsFound g.normal × (g.normal ≢ form)). by_lt_z (dot g.normal f.at.numbers *ℤ g.most.bottom) (g.most.top *ℤ f.at.over) (λ l. inr (inr l))
        (λ l. tight-back g k.0 k.1 (tight-falls all_points rays g f.at above f.positive s.bounds l)))
        other

    pub needed-found : (before : List Facet) (facet : Facet) (after : List Facet) → facet.normal ≡ form → AllByRecursion (IsSharp all_points rays) (before ++ facet ∷ after)
        → AllByRecursion (λ (g : Facet). IsOther g.normal) (before ++ after) → IsNeeded before facet after
    needed-found before facet after e sharp others =
        needed-there all_points rays f.at f.among f.positive (still_sum form (directions all_points rays f.at)) fall.line before facet after
        (each-more (IsSharp all_points rays) (λ (g : Facet). Bounds all_points rays g.normal g.most) (λ g k. k.bounds) (before ++ after) other_sharp)
        (two_each (IsSharp all_points rays) (λ (g : Facet). IsOther g.normal) IsBack kept-back (before ++ after) other_sharp others)
        (own.tight f.at f.among f.positive (subst (λ v. AllByRecursion (λ d. dot d v ≤ℤ pos 0) (directions all_points rays f.at)) (sym e) f.none_grows))
        (ap (dot (still_sum form (directions all_points rays f.at))) e ∙ still_sum-zero form (directions all_points rays f.at))
        (subst (λ v. dot fall.line v <ℤ pos 0) (sym e) fall.below)
      where
        from : AllByRecursion (IsSharp all_points rays) (facet ∷ after)
        from = each-back (IsSharp all_points rays) before (facet ∷ after) sharp

        own : IsSharp all_points rays facet
        own = from.0

        other_sharp : AllByRecursion (IsSharp all_points rays) (before ++ after)
        other_sharp = each-append (IsSharp all_points rays) before after (each-front (IsSharp all_points rays) before (facet ∷ after) sharp) from.1

  -- ---- a facet among the normals

  falls-somewhere : (form : List ℤ) (f : IsFound form) → HasFall form (directions all_points rays f.at)
  falls-somewhere form f =
      ⊎_elim (λ (k : IsFlatVector (directions all_points rays f.at) form). absurd (lowest-seen form f.lowest (here.pointed (λ line. dot line form) f.spanned k))) (λ k. k)
      (still_or_falls form (directions all_points rays f.at) f.none_grows)
    where
      here : IsTangentAt equations basis all_points rays f.at
      here = of_one (IsTangentAt equations basis all_points rays) f.at all_points f.among (tangents count p points rays above)

  equations-flat : (q : Point) → IsAmong q all_points → AllByRecursion (IsFlatVector (directions all_points rays q)) (flat_map both_signs equations)
  equations-flat q among =
      each-flat_map (IsFlatVector (directions all_points rays q)) (IsFlatVector (directions all_points rays q)) both_signs
      (λ e h. (h, (each-more (λ d. dot d e ≡ pos 0) (λ d. dot d (opposite e) ≡ pos 0) (λ d k. dot-opposite d e ∙ ap neg_ℤ k) (directions all_points rays q) h, tt)))
      equations (seen_from equations (directions all_points rays q) (of_one (IsTangentAt equations basis all_points rays) q all_points among (tangents count p points rays above)).flat_there)

  pub normals-needed : (before : List Facet) (facet : Facet) (after : List Facet) → map (λ (g : Facet). g.normal) (before ++ facet ∷ after) ≡ flat_map both_signs equations ++ facets basis all_points rays
      → AllByRecursion (IsSharp all_points rays) (before ++ facet ∷ after) → length (flat_map both_signs equations) < length before + 1 → IsNeeded before facet after
  normals-needed before facet after e sharp far =
      whole (cut (flat_map both_signs equations) (map (λ (g : Facet). g.normal) before) (facets basis all_points rays) facet.normal (map (λ (g : Facet). g.normal) after)
      (sym (map-append (λ (g : Facet). g.normal) before (facet ∷ after)) ∙ e) (let l = length-map before (λ (g : Facet). g.normal) in omega (arith, far, l)))
    where
      whole : IsCut (flat_map both_signs equations) (map (λ (g : Facet). g.normal) before) (facets basis all_points rays) facet.normal (map (λ (g : Facet). g.normal) after) → IsNeeded before facet after
      whole c = needed-found facet.normal f fall before facet after refl sharp (each-append (λ (g : Facet). IsOther facet.normal f fall g.normal) before after others_before others_after)
        where
          found : AllByRecursion IsFound (c.front ++ facet.normal ∷ map (λ (g : Facet). g.normal) after)
          found = subst (AllByRecursion IsFound) c.rest facets-found

          behind : AllByRecursion IsFound (facet.normal ∷ map (λ (g : Facet). g.normal) after)
          behind = each-back IsFound c.front (facet.normal ∷ map (λ (g : Facet). g.normal) after) found

          f : IsFound facet.normal
          f = behind.0

          fall : HasFall facet.normal (directions all_points rays f.at)
          fall = falls-somewhere facet.normal f

          distinct : AreOthers c.front facet.normal (map (λ (g : Facet). g.normal) after)
          distinct = ascending-others c.front facet.normal (map (λ (g : Facet). g.normal) after) (subst (IsStrictlySortedBy (slice_cmp int_cmp)) c.rest (set-ascends (facets_of basis all_points rays)))

          as_other : (vs : List (List ℤ)) → AllByRecursion IsFound vs → AllByRecursion (λ v. v ≢ facet.normal) vs → AllByRecursion (IsOther facet.normal f fall) vs
          as_other vs h k = two_each IsFound (λ v. v ≢ facet.normal) (IsOther facet.normal f fall) (λ v a b. inr (a, b)) vs h k

          others_before : AllByRecursion (λ (g : Facet). IsOther facet.normal f fall g.normal) before
          others_before =
              each_of_map (IsOther facet.normal f fall) (λ (g : Facet). g.normal) before
              (subst (AllByRecursion (IsOther facet.normal f fall)) (sym c.is)
              (each-append (IsOther facet.normal f fall) (flat_map both_signs equations) c.front
              (each-more (IsFlatVector (directions all_points rays f.at)) (IsOther facet.normal f fall) (λ v k. inl k) (flat_map both_signs equations) (equations-flat f.at f.among))
              (as_other c.front (each-front IsFound c.front (facet.normal ∷ map (λ (g : Facet). g.normal) after) found) distinct.before)))

          others_after : AllByRecursion (λ (g : Facet). IsOther facet.normal f fall g.normal) after
          others_after = each_of_map (IsOther facet.normal f fall) (λ (g : Facet). g.normal) after (as_other (map (λ (g : Facet). g.normal) after) behind.1 distinct.behind)
