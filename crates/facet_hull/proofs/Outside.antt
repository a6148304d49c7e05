-- A place that meets facets and not one of them: from a point, so many times along a direction that
-- keeps all back, then a little against one on which the one facet falls.
use Rattle.std.proofs.Common.{◌≡◌, ℕ, suc, ◌+◌, ◌≤◌, ⊎_elim, inl, inr, refl, sym, ap, subst, ◌∙◌, arith, List, [], ◌∷◌, ◌++◌, map, ℤ, pos, negsuc, ◌+ℤ◌, ◌*ℤ◌, ◌≤ℤ◌, ◌<ℤ◌}
use Rattle.std.specs.Prelude.{◌⊎◌, neg_ℤ, unsigned_abs}
use Rattle.std.specs.List.{AllByRecursion}
use Rattle.std.proofs.lemmas.Int.{ints}
use Rattle.std.proofs.Math.IntN.{*ℤ_comm, zero-*ℤ}
use Rattle.items.proofs.Each.{each-append, each-both, each-map, each-more}
use Rattle.whole_numbers.specs.Dot.{dot}
use Rattle.whole_numbers.proofs.Ring.{ring, *ℤ-positive, ≤ℤ-*ℤ}
use Rattle.cones.specs.Tangents.{difference, direction, directions}
use Rattle.cones.specs.Vectors.{combination}
use Rattle.cones.specs.declared.point.Point.{Point}
use Rattle.cones.proofs.Dots.{dot-combined}
use Rattle.cones.proofs.Hulls.{dot_comm, lowest_at_most}
use Rattle.cones.proofs.Numbers.{product_not_above}
use Rattle.facet_hull.specs.Hull.{Place, Facet, MeetsFacet, IsNeeded}
use Rattle.facet_hull.specs.Laws.{IsAtMostAt, Bounds}
use Rattle.facet_hull.proofs.Exact.{IsAmong, of_one, fallen, between}
use Rattle.facet_hull.proofs.Generators.{dot_of_combined}

-- ---- from some number on

record Eventually (P : ℕ → Type 0) : Type 0 where
  start : ℕ
  holds : (n : ℕ) → start ≤ n → P n

each_eventually : {A : Type 0} (P : A → ℕ → Type 0) (xs : List A) → AllByRecursion (λ x. Eventually (P x)) xs → Eventually (λ n. AllByRecursion (λ x. P x n) xs)
each_eventually P [] h = record { start = 0; holds = λ n l. tt }
each_eventually P (x ∷ xs) h = both (each_eventually P xs h.1)
  where
    both : Eventually (λ n. AllByRecursion (λ x. P x n) xs) → Eventually (λ n. AllByRecursion (λ x. P x n) (x ∷ xs))
    both r = record { start = h.0.start + r.start; holds = λ n l. (h.0.holds n (omega (arith, l)), r.holds n (omega (arith, l))) }

-- ---- facets at a point

-- the facet's bound is not met with room to spare
abbrev pub IsTightAt : Facet → Point → Type 0
IsTightAt f q = (f.most.top *ℤ q.over) ≤ℤ (dot f.normal q.numbers *ℤ f.most.bottom)

-- and with some
abbrev pub IsLooseAt : Facet → Point → Type 0
IsLooseAt f q = (dot f.normal q.numbers *ℤ f.most.bottom) <ℤ (f.most.top *ℤ q.over)

-- where it is tight, it grows in no direction
pub tight-falls : (points : List Point) (rays : List (List ℤ)) (f : Facet) (q : Point) → AllByRecursion (λ (x : Point). pos 0 <ℤ x.over) points → pos 0 <ℤ q.over → Bounds points rays f.normal f.most → IsTightAt f q
    → AllByRecursion (λ d. dot d f.normal ≤ℤ pos 0) (directions points rays q)
tight-falls points rays f q above positive b t =
    each-append (λ d. dot d f.normal ≤ℤ pos 0) (map (direction q) points) rays
    (each-map (λ (x : Point). (pos 0 <ℤ x.over) × IsAtMostAt f.normal f.most x) (λ d. dot d f.normal ≤ℤ pos 0) (direction q)
    (λ x k. lowest_at_most (difference q x) f.normal (fallen q x.numbers x.over f.normal (between (dot f.normal x.numbers) x.over f.most.top f.most.bottom (dot f.normal q.numbers) q.over k.0 f.most.positive positive k.1 t))) points
    (each-both (λ (x : Point). pos 0 <ℤ x.over) (IsAtMostAt f.normal f.most) points above b.at_points))
    b.along_rays

-- ---- the place

-- so many times along one vector, and once against another
abbrev step : ℕ → List ℤ → List ℤ → List ℤ
step n along against = combination (pos n) along (negsuc 0) against

-- a part of it from a point
abbrev place_at : (q : Point) → pos 0 <ℤ q.over → List ℤ → ℕ → Place
place_at q positive u n = record {
  numbers = combination (pos (suc n)) q.numbers q.over u;
  over = pos (suc n) *ℤ q.over;
  positive = *ℤ-positive (pos (suc n)) q.over (omega (arith, ints)) positive;
}

place-value : (q : Point) (u form : List ℤ) (n : ℕ) → dot form (combination (pos (suc n)) q.numbers q.over u) ≡ pos (suc n) *ℤ dot form q.numbers +ℤ q.over *ℤ dot u form
place-value q u form n = dot-combined form (pos (suc n)) q.numbers q.over u ∙ ap (λ y. pos (suc n) *ℤ dot form q.numbers +ℤ q.over *ℤ y) (dot_comm form u)

left_side : (k x o y b : ℤ) → (k *ℤ x +ℤ o *ℤ y) *ℤ b ≡ x *ℤ b *ℤ k +ℤ o *ℤ b *ℤ y
left_side k x o y b = simp ring (omega (arith, ints))

right_side : (k t o : ℤ) → t *ℤ (k *ℤ o) ≡ t *ℤ o *ℤ k
right_side k t o = simp ring (omega (arith, ints))

weak : (z : ℤ) → pos 0 <ℤ z → pos 0 ≤ℤ z
weak z h = omega (arith, ints)

-- what doesn't grow along the step stays met
still-met : (k x o y b t : ℤ) → pos 0 <ℤ k → pos 0 <ℤ o → pos 0 <ℤ b → (x *ℤ b) ≤ℤ (t *ℤ o) → y ≤ℤ pos 0 → ((k *ℤ x +ℤ o *ℤ y) *ℤ b) ≤ℤ (t *ℤ (k *ℤ o))
still-met k x o y b t pk po pb h f =
    links ((k *ℤ x +ℤ o *ℤ y) *ℤ b) (x *ℤ b *ℤ k) (o *ℤ b *ℤ y) (t *ℤ o *ℤ k) (t *ℤ (k *ℤ o)) (left_side k x o y b) (right_side k t o)
    (≤ℤ-*ℤ (x *ℤ b) (t *ℤ o) k (weak k pk) h) (product_not_above (o *ℤ b) y (weak (o *ℤ b) (*ℤ-positive o b po pb)) f)
  where
    links : (l m n r s : ℤ) → l ≡ m +ℤ n → s ≡ r → m ≤ℤ r → n ≤ℤ pos 0 → l ≤ℤ s
    links l m n r s e f g h = omega (arith, ints)

-- what is loose stays met where the part is small
loose-met : (n : ℕ) (x o y b t : ℤ) → (x *ℤ b) <ℤ (t *ℤ o) → unsigned_abs (o *ℤ b *ℤ y) ≤ n → ((pos (suc n) *ℤ x +ℤ o *ℤ y) *ℤ b) ≤ℤ (t *ℤ (pos (suc n) *ℤ o))
loose-met n x o y b t h f =
    links ((pos (suc n) *ℤ x +ℤ o *ℤ y) *ℤ b) (x *ℤ b *ℤ pos (suc n)) (o *ℤ b *ℤ y) (t *ℤ o *ℤ pos (suc n)) (t *ℤ (pos (suc n) *ℤ o)) ((x *ℤ b +ℤ pos 1) *ℤ pos (suc n)) (left_side (pos (suc n)) x o y b) (right_side (pos (suc n)) t o)
    (≤ℤ-*ℤ (x *ℤ b +ℤ pos 1) (t *ℤ o) (pos (suc n)) (omega (arith, ints)) (next (x *ℤ b) (t *ℤ o) h)) (one_more (x *ℤ b) (pos (suc n))) (small (o *ℤ b *ℤ y) f)
  where
    next : (l m : ℤ) → l <ℤ m → (l +ℤ pos 1) ≤ℤ m
    next l m h = omega (arith, ints)

    one_more : (l k : ℤ) → (l +ℤ pos 1) *ℤ k ≡ l *ℤ k +ℤ k
    one_more l k = simp ring (omega (arith, ints))

    small : (w : ℤ) → unsigned_abs w ≤ n → w ≤ℤ pos (suc n)
    small w h = omega (arith, ints, h)

    links : (l m w r s v : ℤ) → l ≡ m +ℤ w → s ≡ r → v ≤ℤ r → v ≡ m +ℤ pos (suc n) → w ≤ℤ pos (suc n) → l ≤ℤ s
    links l m w r s v e f g h k = omega (arith, ints)

-- what is tight and grows along it is not met
grown-unmet : (k x o y b t : ℤ) → pos 0 <ℤ k → pos 0 <ℤ o → pos 0 <ℤ b → (t *ℤ o) ≤ℤ (x *ℤ b) → pos 0 <ℤ y → ((k *ℤ x +ℤ o *ℤ y) *ℤ b) ≤ℤ (t *ℤ (k *ℤ o)) → ⊥
grown-unmet k x o y b t pk po pb h f m =
    clash ((k *ℤ x +ℤ o *ℤ y) *ℤ b) (x *ℤ b *ℤ k) (o *ℤ b *ℤ y) (t *ℤ o *ℤ k) (t *ℤ (k *ℤ o)) (left_side k x o y b) (right_side k t o)
    (≤ℤ-*ℤ (t *ℤ o) (x *ℤ b) k (weak k pk) h) (*ℤ-positive (o *ℤ b) y (*ℤ-positive o b po pb) f) m
  where
    clash : (l m n r s : ℤ) → l ≡ m +ℤ n → s ≡ r → r ≤ℤ m → pos 0 <ℤ n → l ≤ℤ s → ⊥
    clash l m n r s e f g h k = omega (arith, ints)

-- ---- what the others do along the step

-- it doesn't grow, or there is room
abbrev IsHeldBack : Point → List ℤ → Facet → Type 0
IsHeldBack q u f = (dot u f.normal ≤ℤ pos 0) ⊎ IsLooseAt f q

-- it stands still both ways, or falls along the one vector, or there is room
abbrev pub IsKeptBack : Point → List ℤ → List ℤ → Facet → Type 0
IsKeptBack q along against f = ((dot along f.normal ≡ pos 0) × (dot against f.normal ≡ pos 0)) ⊎ ((dot along f.normal <ℤ pos 0) ⊎ IsLooseAt f q)

step-value : (n : ℕ) (along against form : List ℤ) → dot (step n along against) form ≡ dot along form *ℤ pos n +ℤ neg_ℤ (dot against form)
step-value n along against form = dot_of_combined (pos n) along (negsuc 0) against form ∙ turn (pos n) (dot along form) (dot against form)
  where
    minus : (z : ℤ) → negsuc 0 *ℤ z ≡ neg_ℤ z
    minus z = omega (arith, ints)

    turn : (m x y : ℤ) → m *ℤ x +ℤ negsuc 0 *ℤ y ≡ x *ℤ m +ℤ neg_ℤ y
    turn m x y = rw (*ℤ_comm m x, minus y) refl

eventually-held : (q : Point) (along against : List ℤ) (f : Facet) → IsKeptBack q along against f → Eventually (λ n. IsHeldBack q (step n along against) f)
eventually-held q along against f kept =
    ⊎_elim (λ (k : (dot along f.normal ≡ pos 0) × (dot against f.normal ≡ pos 0)). record { start = 0; holds = λ n l. inl (subst (λ z. z ≤ℤ pos 0) (sym (step-value n along against f.normal)) (still (dot along f.normal) (dot against f.normal) (pos n) k.0 k.1)) })
    (λ k. ⊎_elim (λ (h : dot along f.normal <ℤ pos 0). record {
      start = unsigned_abs (dot against f.normal);
      holds = λ n l. inl (subst (λ z. z ≤ℤ pos 0) (sym (step-value n along against f.normal)) (beaten n (dot along f.normal) (dot against f.normal) h l));
    })
    (λ h. record { start = 0; holds = λ n l. inr h }) k)
    kept
  where
    still : (x y m : ℤ) → x ≡ pos 0 → y ≡ pos 0 → (x *ℤ m +ℤ neg_ℤ y) ≤ℤ pos 0
    still x y m e g = rw (e, g) (none (pos 0 *ℤ m) (zero-*ℤ m))
      where
        none : (z : ℤ) → z ≡ pos 0 → (z +ℤ neg_ℤ (pos 0)) ≤ℤ pos 0
        none z e = omega (arith, ints)

    beaten : (n : ℕ) (x y : ℤ) → x <ℤ pos 0 → unsigned_abs y ≤ n → (x *ℤ pos n +ℤ neg_ℤ y) ≤ℤ pos 0
    beaten n x y h l = less (x *ℤ pos n) (negsuc 0 *ℤ pos n) (≤ℤ-*ℤ x (negsuc 0) (pos n) (omega (arith, ints)) (next x h)) (minus (pos n))
      where
        next : (x : ℤ) → x <ℤ pos 0 → x ≤ℤ negsuc 0
        next x h = omega (arith, ints)

        minus : (z : ℤ) → negsuc 0 *ℤ z ≡ neg_ℤ z
        minus z = omega (arith, ints)

        less : (m k : ℤ) → m ≤ℤ k → k ≡ neg_ℤ (pos n) → (m +ℤ neg_ℤ y) ≤ℤ pos 0
        less m k g e = omega (arith, ints, l)

module _ (points : List Point) (rays : List (List ℤ)) (q : Point) (among : IsAmong q points) (positive : pos 0 <ℤ q.over) where
  eventually-met : (u : List ℤ) (f : Facet) → Bounds points rays f.normal f.most → IsHeldBack q u f → Eventually (λ n. MeetsFacet (place_at q positive u n) f)
  eventually-met u f b back =
      ⊎_elim (λ (h : dot u f.normal ≤ℤ pos 0). record {
        start = 0;
        holds = λ n l. met n (still-met (pos (suc n)) (dot f.normal q.numbers) q.over (dot u f.normal) f.most.bottom f.most.top (omega (arith, ints)) positive f.most.positive (of_one (IsAtMostAt f.normal f.most) q points among b.at_points) h);
      })
      (λ h. record {
        start = unsigned_abs (q.over *ℤ f.most.bottom *ℤ dot u f.normal);
        holds = λ n l. met n (loose-met n (dot f.normal q.numbers) q.over (dot u f.normal) f.most.bottom f.most.top h l);
      })
      back
    where
      met : (n : ℕ) → ((pos (suc n) *ℤ dot f.normal q.numbers +ℤ q.over *ℤ dot u f.normal) *ℤ f.most.bottom) ≤ℤ (f.most.top *ℤ (pos (suc n) *ℤ q.over)) → MeetsFacet (place_at q positive u n) f
      met n h = subst (λ z. (z *ℤ f.most.bottom) ≤ℤ (f.most.top *ℤ (pos (suc n) *ℤ q.over))) (sym (place-value q u f.normal n)) h

  -- what is tight at the point, still along the one vector and falls along the other, is needed
  -- beside what is kept back
  pub needed-there : (along against : List ℤ) (before : List Facet) (facet : Facet) (after : List Facet) → AllByRecursion (λ (f : Facet). Bounds points rays f.normal f.most) (before ++ after)
      → AllByRecursion (IsKeptBack q along against) (before ++ after) → IsTightAt facet q → dot along facet.normal ≡ pos 0 → dot against facet.normal <ℤ pos 0 → IsNeeded before facet after
  needed-there along against before facet after bounds kept tight still falls =
      with_step (each_eventually (λ (f : Facet) (n : ℕ). IsHeldBack q (step n along against) f) (before ++ after) (each-more (IsKeptBack q along against) (λ (f : Facet). Eventually (λ n. IsHeldBack q (step n along against) f)) (λ f k. eventually-held q along against f k) (before ++ after) kept))
    where
      up : (x y m : ℤ) → x ≡ pos 0 → y <ℤ pos 0 → pos 0 <ℤ (x *ℤ m +ℤ neg_ℤ y)
      up x y m e h = rw e (grown (pos 0 *ℤ m) (zero-*ℤ m))
        where
          grown : (z : ℤ) → z ≡ pos 0 → pos 0 <ℤ (z +ℤ neg_ℤ y)
          grown z e = omega (arith, ints, h)

      at_place : (u : List ℤ) → pos 0 <ℤ dot u facet.normal → Eventually (λ n. AllByRecursion (MeetsFacet (place_at q positive u n)) (before ++ after)) → IsNeeded before facet after
      at_place u grows m = record {
        place = place_at q positive u m.start;
        others = m.holds m.start (omega arith);
        not = λ h.
            grown-unmet (pos (suc m.start)) (dot facet.normal q.numbers) q.over (dot u facet.normal) facet.most.bottom facet.most.top (omega (arith, ints)) positive facet.most.positive tight grows
            (subst (λ z. (z *ℤ facet.most.bottom) ≤ℤ (facet.most.top *ℤ (pos (suc m.start) *ℤ q.over))) (place-value q u facet.normal m.start) h);
      }

      with_step : Eventually (λ n. AllByRecursion (λ (f : Facet). IsHeldBack q (step n along against) f) (before ++ after)) → IsNeeded before facet after
      with_step r =
          at_place (step r.start along against)
          (subst (λ z. pos 0 <ℤ z) (sym (step-value r.start along against facet.normal)) (up (dot along facet.normal) (dot against facet.normal) (pos r.start) still falls))
          (each_eventually (λ (f : Facet) (n : ℕ). MeetsFacet (place_at q positive (step r.start along against) n) f) (before ++ after)
          (each-more (λ (f : Facet). Bounds points rays f.normal f.most × IsHeldBack q (step r.start along against) f) (λ (f : Facet). Eventually (λ n. MeetsFacet (place_at q positive (step r.start along against) n) f))
          (λ f k. eventually-met (step r.start along against) f k.0 k.1) (before ++ after)
          (each-both (λ (f : Facet). Bounds points rays f.normal f.most) (λ (f : Facet). IsHeldBack q (step r.start along against) f) (before ++ after) bounds (r.holds r.start (omega arith)))))
