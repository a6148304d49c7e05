-- The cells of the stated elimination: the walks that keep above their two places.
use Rattle.std.proofs.Common.{◌≡◌, ℕ, zero, suc, ◌+◌, ◌-◌, ◌<◌, ◌≤◌, max, Bool, true, false, cond, ◌&&◌, eqb, ltb, List, [], ◌∷◌, ◌++◌, Some, refl, sym, ◌∙◌, ap, subst, inl, inr, ◌⊎◌, arith, eqb-true, eq-eqb}
use Rattle.std.specs.List.{concat, slice_get}
use Rattle.std.proofs.lemmas.Bool.{cond-true, cond-false, cond_both, and_parts, and_from, and_left, and_right, lt-ltb, le-ltb, cases_lt}
use Rattle.path_expr.specs.declared.link.Link.{Link}
use Rattle.path_expr.specs.PathExpr.{PathExpr, Zero, Edge, InLanguage, seq_of, join_of, star_of}
use Rattle.path_expr.specs.Elimination.{place_of, Table, links_between, path_through, first_table, after_elimination, table_after}
use Rattle.path_expr.proofs.Turns.{Each, Inner, Through, Inner-weaker, Inner-through, cut}
use Rattle.path_expr.proofs.Language.{in_seq_of, of_seq_of, Splits, in_join_left, in_join_right, of_join_of, in_star_of, of_star_of}

pub Each-map : (P Q : List ℕ → Type 0) → ((w : List ℕ) → P w → Q w) → (ws : List (List ℕ)) → Each P ws → Each Q ws
Each-map P Q f [] h = tt
Each-map P Q f (w ∷ ws) h = (f w h.0, Each-map P Q f ws h.1)

-- the number is one of these
abbrev pub Among : ℕ → List ℕ → Type 0
Among k [] = ⊥
Among k (x ∷ xs) = (k ≡ x) ⊎ Among k xs

of_joined : (p : PathExpr) (ks : List ℕ) (w : List ℕ) → InLanguage (path_through p ks) w → InLanguage p w ⊎ ((k : ℕ) × (w ≡ k ∷ []) × Among k ks)
of_joined p [] w h = inl h
of_joined p (k ∷ ks) w h = next (of_joined (join_of p (Edge k)) ks w h)
  where
    first : InLanguage p w ⊎ InLanguage (Edge k) w → InLanguage p w ⊎ ((m : ℕ) × (w ≡ m ∷ []) × Among m (k ∷ ks))
    first (inl r) = inl r
    first (inr e) = inr (k, e, inl refl)

    next : InLanguage (join_of p (Edge k)) w ⊎ ((m : ℕ) × (w ≡ m ∷ []) × Among m ks) → InLanguage p w ⊎ ((m : ℕ) × (w ≡ m ∷ []) × Among m (k ∷ ks))
    next (inl r) = first (of_join_of p (Edge k) w r)
    next (inr t) = inr (t.0, t.1, inr t.2)

in_joined : (p : PathExpr) (ks : List ℕ) (w : List ℕ) → InLanguage p w → InLanguage (path_through p ks) w
in_joined p [] w h = h
in_joined p (k ∷ ks) w h = in_joined (join_of p (Edge k)) ks w (in_join_left p (Edge k) w h)

among_joined : (p : PathExpr) (ks : List ℕ) (k : ℕ) → Among k ks → InLanguage (path_through p ks) (k ∷ [])
among_joined p [] k h = absurd h
among_joined p (x ∷ ks) k (inl e) = in_joined (join_of p (Edge x)) ks (k ∷ []) (in_join_right p (Edge x) (k ∷ []) (ap (λ y. y ∷ []) e))
among_joined p (x ∷ ks) k (inr h) = among_joined (join_of p (Edge x)) ks k h

module _ (source : ℕ) where
  -- the link with this number leads from place i to place j
  pub record Joins (links : List Link) (k i j : ℕ) : Type 0 where
    pub link : Link
    pub is : slice_get links k ≡ Some link
    pub from : place_of source link.from ≡ i
    pub to : place_of source link.to ≡ j

  -- the same, where the links are numbered from a number on
  pub record JoinsFrom (number : ℕ) (links : List Link) (k i j : ℕ) : Type 0 where
    pub at : ℕ
    pub is : k ≡ number + at
    pub joins : Joins links at i j

  abbrev fits_both : Link → ℕ → ℕ → Bool
  fits_both l i j = eqb (place_of source l.from) i && eqb (place_of source l.to) j

  between-tail : (number : ℕ) (l : Link) (ls : List Link) (k i j : ℕ) → JoinsFrom (number + 1) ls k i j → JoinsFrom number (l ∷ ls) k i j
  between-tail number l ls k i j h = record {
    at = suc h.at;
    is = omega (arith, h.is);
    joins = record { link = h.joins.link; is = h.joins.is; from = h.joins.from; to = h.joins.to };
  }

  pub of_between : (number : ℕ) (links : List Link) (k i j : ℕ) → Among k (links_between source number links i j) → JoinsFrom number links k i j
  of_between number [] k i j h = absurd h
  of_between number (l ∷ ls) k i j h =
      cases (λ m. between-tail number l ls k i j (of_between (number + 1) ls k i j m)) (fits_both l i j) refl h
    where
      here : fits_both l i j ≡ true → k ≡ number → JoinsFrom number (l ∷ ls) k i j
      here e is = let parts = and_parts (eqb (place_of source l.from) i) (eqb (place_of source l.to) j) e in record {
        at = 0;
        is = omega (arith, is);
        joins = record { link = l; is = refl; from = eqb-true (place_of source l.from) i parts.0; to = eqb-true (place_of source l.to) j parts.1 };
      }

      cases : (Among k (links_between source (number + 1) ls i j) → JoinsFrom number (l ∷ ls) k i j) → (b : Bool) → fits_both l i j ≡ b → Among k (cond b (number ∷ links_between source (number + 1) ls i j) (links_between source (number + 1) ls i j)) → JoinsFrom number (l ∷ ls) k i j
      cases later true e (inl is) = here e is
      cases later true e (inr m) = later m
      cases later false e m = later m

  in_between : (number : ℕ) (links : List Link) (at i j : ℕ) → Joins links at i j → Among (number + at) (links_between source number links i j)
  in_between number [] at i j h = absurd (no_link at h.link h.is)
    where
      no_link : (at : ℕ) (l : Link) → slice_get [] at ≡ Some l → ⊥
      no_link at l e = cc
  in_between number (l ∷ ls) zero i j h =
      subst (λ xs. Among (number + 0) xs) (sym (cond-true (fits_both l i j) (number ∷ links_between source (number + 1) ls i j) (links_between source (number + 1) ls i j) same)) (inl (omega arith))
    where
      link-is : l ≡ h.link
      link-is = let e : Some l ≡ Some h.link = h.is in cc

      same : fits_both l i j ≡ true
      same = and_from (eqb (place_of source l.from) i) (eqb (place_of source l.to) j)
          (eq-eqb (place_of source l.from) i (ap (λ x. place_of source x.from) link-is ∙ h.from))
          (eq-eqb (place_of source l.to) j (ap (λ x. place_of source x.to) link-is ∙ h.to))
  in_between number (l ∷ ls) (suc at) i j h =
      either (subst (λ x. Among x (links_between source (number + 1) ls i j)) shifted
      (in_between (number + 1) ls at i j (record { link = h.link; is = h.is; from = h.from; to = h.to })))
    where
      shifted : (number + 1) + at ≡ number + suc at
      shifted = omega arith

      either : Among (number + suc at) (links_between source (number + 1) ls i j) → Among (number + suc at) (links_between source number (l ∷ ls) i j)
      either later = cond_both (fits_both l i j) (number ∷ links_between source (number + 1) ls i j) (links_between source (number + 1) ls i j)
          (λ xs. Among (number + suc at) xs) (λ _. inr later) (λ _. later)

-- the cell for p and n, when each place above n is eliminated: walks from p to n that keep above n
-- between them
module _ (links : List Link) (source nodes : ℕ) (bounded : (k i j : ℕ) → Joins source links k i j → j < nodes) where
  abbrev pub Step : ℕ → ℕ → ℕ → Type 0
  Step k i j = Joins source links k i j

  of_first : (i j : ℕ) (w : List ℕ) → InLanguage (first_table links source i j) w → (k : ℕ) × (w ≡ k ∷ []) × Step k i j
  unfolding first_table
  of_first i j w h = next (of_joined Zero (links_between source 0 links i j) w h)
    where
      next : InLanguage Zero w ⊎ ((k : ℕ) × (w ≡ k ∷ []) × Among k (links_between source 0 links i j)) → (k : ℕ) × (w ≡ k ∷ []) × Step k i j
      next (inl e) = absurd e
      next (inr t) = let b = of_between source 0 links t.0 i j t.2 in
          let e : b.at ≡ t.0 = omega (arith, b.is) in (t.0, t.1, subst (λ x. Step x i j) e b.joins)

  in_first : (i j k : ℕ) → Step k i j → InLanguage (first_table links source i j) (k ∷ [])
  unfolding first_table
  in_first i j k h = among_joined Zero (links_between source 0 links i j) k
      (subst (λ x. Among x (links_between source 0 links i j)) (let e : 0 + k ≡ k = omega arith in e) (in_between source 0 links k i j h))

  -- each cell of a table whose places from n on are eliminated
  pub record Means (n : ℕ) (cells : Table) : Type 0 where
    pub sound : (i j m : ℕ) → i < nodes → j < nodes → m ≡ max n (max (i + 1) (j + 1)) → (w : List ℕ) → InLanguage (cells i j) w → Inner Step m i j w
    pub complete : (i j m : ℕ) → i < nodes → j < nodes → m ≡ max n (max (i + 1) (j + 1)) → (w : List ℕ) → Inner Step m i j w → InLanguage (cells i j) w

  first_complete : (i j m : ℕ) → nodes ≤ m → (w : List ℕ) → Inner Step m i j w → InLanguage (first_table links source i j) w
  first_complete i j m le [] h = absurd h
  first_complete i j m le (k ∷ []) h = in_first i j k h
  first_complete i j m le (k ∷ l ∷ ls) h = let b = bounded k i h.0 h.1 in let c = h.2 in absurd (omega arith)

  first_means : (n : ℕ) → n ≡ nodes → Means n (first_table links source)
  first_means n e = record {
    sound = λ i j m li lj em w h. let t = of_first i j w h in subst (Inner Step m i j) (sym t.1) t.2;
    complete = λ i j m li lj em w h. first_complete i j m (omega arith) w h;
  }

  eliminated-inside : (n : ℕ) (cells : Table) (i j : ℕ) → i < n → j < n →
      after_elimination n cells i j ≡ join_of (cells i j) (seq_of (seq_of (cells i n) (star_of (cells n n))) (cells n j))
  unfolding after_elimination
  eliminated-inside n cells i j li lj = cond-true (ltb i n && ltb j n) _ _ (and_from (ltb i n) (ltb j n) (lt-ltb i n li) (lt-ltb j n lj))

  eliminated-outside : (n : ℕ) (cells : Table) (i j : ℕ) → (n ≤ i) ⊎ (n ≤ j) → after_elimination n cells i j ≡ cells i j
  unfolding after_elimination
  eliminated-outside n cells i j (inl le) = cond-false (ltb i n && ltb j n) _ _ (and_left (ltb i n) (ltb j n) (le-ltb i n le))
  eliminated-outside n cells i j (inr le) = cond-false (ltb i n && ltb j n) _ _ (and_right (ltb i n) (ltb j n) (le-ltb j n le))

  -- where place n is eliminated, a walk keeps above n or goes through it
  module _ (n : ℕ) (cells : Table) (below : n < nodes) (means : Means (n + 1) cells) where
    inside_sound : (i j : ℕ) → i < n → j < n → (w : List ℕ) →
        InLanguage (join_of (cells i j) (seq_of (seq_of (cells i n) (star_of (cells n n))) (cells n j))) w → Inner Step n i j w
    inside_sound i j li lj w h = next (of_join_of (cells i j) _ w h)
      where
        through : Splits (seq_of (cells i n) (star_of (cells n n))) (cells n j) w → Inner Step n i j w
        through s = let f = of_seq_of (cells i n) (star_of (cells n n)) s.front s.first in
            let t = of_star_of (cells n n) f.back f.second in
            Inner-through Step n i j w (record {
              front = f.front;
              turns = t.turns;
              back = s.back;
              is = s.is ∙ ap (λ x. x ++ s.back) (f.is ∙ ap (λ x. f.front ++ x) t.is);
              into = means.sound i n (n + 1) (omega arith) below (omega arith) f.front f.first;
              turning = Each-map (InLanguage (cells n n)) (Inner Step (n + 1) n n) (means.sound n n (n + 1) below below (omega arith)) t.turns t.each;
              out = means.sound n j (n + 1) below (omega arith) (omega arith) s.back s.second;
            })

        next : InLanguage (cells i j) w ⊎ InLanguage (seq_of (seq_of (cells i n) (star_of (cells n n))) (cells n j)) w → Inner Step n i j w
        next (inl r) = Inner-weaker Step n i j w (means.sound i j (n + 1) (omega arith) (omega arith) (omega arith) w r)
        next (inr r) = through (of_seq_of (seq_of (cells i n) (star_of (cells n n))) (cells n j) w r)

    inside_complete : (i j : ℕ) → i < n → j < n → (w : List ℕ) → Inner Step n i j w →
        InLanguage (join_of (cells i j) (seq_of (seq_of (cells i n) (star_of (cells n n))) (cells n j))) w
    inside_complete i j li lj w h = next (cut Step n j i w h)
      where
        next : Inner Step (n + 1) i j w ⊎ Through Step n i j w →
            InLanguage (join_of (cells i j) (seq_of (seq_of (cells i n) (star_of (cells n n))) (cells n j))) w
        next (inl r) = in_join_left (cells i j) _ w (means.complete i j (n + 1) (omega arith) (omega arith) (omega arith) w r)
        next (inr t) = in_join_right (cells i j) _ w (subst (InLanguage (seq_of (seq_of (cells i n) (star_of (cells n n))) (cells n j))) (sym t.is)
            (in_seq_of (seq_of (cells i n) (star_of (cells n n))) (cells n j) (t.front ++ concat t.turns) t.back
            (in_seq_of (cells i n) (star_of (cells n n)) t.front (concat t.turns)
            (means.complete i n (n + 1) (omega arith) below (omega arith) t.front t.into)
            (in_star_of (cells n n) t.turns (Each-map (Inner Step (n + 1) n n) (InLanguage (cells n n)) (means.complete n n (n + 1) below below (omega arith)) t.turns t.turning)))
            (means.complete n j (n + 1) below (omega arith) (omega arith) t.back t.out)))

    eliminated_sound : (i j m : ℕ) → i < nodes → j < nodes → m ≡ max n (max (i + 1) (j + 1)) → (i < n) ⊎ (n ≤ i) → (j < n) ⊎ (n ≤ j) →
        (w : List ℕ) → InLanguage (after_elimination n cells i j) w → Inner Step m i j w
    eliminated_sound i j m li lj em (inl a) (inl b) w h =
        subst (λ x. Inner Step x i j w) (let e : n ≡ m = omega arith in e)
        (inside_sound i j a b w (subst (λ x. InLanguage x w) (eliminated-inside n cells i j a b) h))
    eliminated_sound i j m li lj em (inl a) (inr b) w h =
        means.sound i j m li lj (omega arith) w (subst (λ x. InLanguage x w) (eliminated-outside n cells i j (inr b)) h)
    eliminated_sound i j m li lj em (inr a) other w h =
        means.sound i j m li lj (omega arith) w (subst (λ x. InLanguage x w) (eliminated-outside n cells i j (inl a)) h)

    eliminated_complete : (i j m : ℕ) → i < nodes → j < nodes → m ≡ max n (max (i + 1) (j + 1)) → (i < n) ⊎ (n ≤ i) → (j < n) ⊎ (n ≤ j) →
        (w : List ℕ) → Inner Step m i j w → InLanguage (after_elimination n cells i j) w
    eliminated_complete i j m li lj em (inl a) (inl b) w h =
        subst (λ x. InLanguage x w) (sym (eliminated-inside n cells i j a b))
        (inside_complete i j a b w (subst (λ x. Inner Step x i j w) (let e : m ≡ n = omega arith in e) h))
    eliminated_complete i j m li lj em (inl a) (inr b) w h =
        subst (λ x. InLanguage x w) (sym (eliminated-outside n cells i j (inr b))) (means.complete i j m li lj (omega arith) w h)
    eliminated_complete i j m li lj em (inr a) other w h =
        subst (λ x. InLanguage x w) (sym (eliminated-outside n cells i j (inl a))) (means.complete i j m li lj (omega arith) w h)

    eliminated_means : Means n (after_elimination n cells)
    eliminated_means = record {
      sound = λ i j m li lj em w h. eliminated_sound i j m li lj em (cases_lt i n) (cases_lt j n) w h;
      complete = λ i j m li lj em w h. eliminated_complete i j m li lj em (cases_lt i n) (cases_lt j n) w h;
    }

  pub table_means : (count : ℕ) → count < nodes → Means (nodes - count) (table_after nodes links source count)
  table_means zero h = first_means (nodes - 0) (omega arith)
  table_means (suc count) h = eliminated_means (nodes - suc count) (table_after nodes links source count) (omega arith)
      (subst (λ x. Means x (table_after nodes links source count)) (let e : nodes - count ≡ (nodes - suc count) + 1 = omega arith in e)
      (table_means count (omega arith)))
