-- The way to a node: the walks from the source to it.
use Rattle.std.proofs.Common.{◌≡◌, ◌↔◌, ℕ, zero, suc, ◌+◌, ◌-◌, ◌<◌, ◌≤◌, List, [], ◌∷◌, ◌++◌, length, Some, refl, sym, ◌∙◌, ap, subst, inl, inr, ◌⊎◌, arith, add-zero, zero-add, ◌&&◌, ltb}
use Rattle.std.specs.List.{concat, slice_get}
use Rattle.std.proofs.lemmas.Bool.{cases_lt, cond_both}
use Rattle.std.proofs.lemmas.Bool.Decides.{nat_tests}
use Rattle.std.proofs.lemmas.Option.{slice_get_within, get_or_from_slice_get}
use Rattle.path_expr.specs.declared.link.Link.{Link}
use Rattle.path_expr.specs.PathExpr.{PathExpr, Zero, Edge, InLanguage, seq_of, join_of, star_of}
use Rattle.path_expr.specs.Elimination.{place_of, Table, first_table, after_elimination, table_after, last_table, arrivals, way_at, ways, path_at, path_through, links_between}
use Rattle.path_expr.specs.Walks.{IsWalk, IsGraph}
use Rattle.path_expr.proofs.Turns.{Each, Inner, Walk, Walk-append, Walk-inner, Walk-turns, Reaches, arrives, turning, falling, reach}
use Rattle.path_expr.proofs.Language.{in_seq_of, of_seq_of, in_join_left, in_join_right, of_join_of, in_star_of, of_star_of, Filled, nothing, word, Filled-seq_of, Filled-join_of, Filled-star_of}
use Rattle.path_expr.proofs.CellWalks.{Each-map, Joins, Step, Means, table_means}

slice_get-append_left : (xs ys : List PathExpr) (k : ℕ) → k < length xs → slice_get (xs ++ ys) k ≡ slice_get xs k
slice_get-append_left [] ys k h = absurd (omega arith)
slice_get-append_left (x ∷ xs) ys zero h = refl
slice_get-append_left (x ∷ xs) ys (suc k) h = slice_get-append_left xs ys k (omega arith)

slice_get-append_end : (xs : List PathExpr) (y : PathExpr) → slice_get (xs ++ y ∷ []) (length xs) ≡ Some y
slice_get-append_end [] y = refl
slice_get-append_end (x ∷ xs) y = slice_get-append_end xs y

module _ (cells : Table) where
  pub length-ways : (n : ℕ) → length (ways cells n) ≡ n
  length-ways zero = refl
  length-ways (suc n) = grind (arith, length-snoc (ways cells n) (way_at cells n), length-ways n)
    where
      length-snoc : (xs : List PathExpr) (y : PathExpr) → length (xs ++ y ∷ []) ≡ length xs + 1
      length-snoc [] y = omega arith
      length-snoc (x ∷ xs) y = omega (arith, length-snoc xs y)

  pub slice_get-ways : (n q : ℕ) → q < n → slice_get (ways cells n) q ≡ Some (way_at cells q)
  slice_get-ways zero q h = absurd (omega arith)
  slice_get-ways (suc n) q h = either (cases_lt q n) (λ lt. slice_get-ways n q lt)
    where
      either : (q < n) ⊎ (n ≤ q) → ((q < n) → slice_get (ways cells n) q ≡ Some (way_at cells q)) → slice_get (ways cells n ++ way_at cells n ∷ []) q ≡ Some (way_at cells q)
      either (inl lt) earlier =
          slice_get-append_left (ways cells n) (way_at cells n ∷ []) q (let e = length-ways n in omega arith) ∙ earlier lt
      either (inr le) earlier = let e : q ≡ n = omega arith in let l = length-ways n in
          subst (λ x. slice_get (ways cells n ++ way_at cells n ∷ []) x ≡ Some (way_at cells q)) (l ∙ sym e)
          (subst (λ x. slice_get (ways cells n ++ way_at cells n ∷ []) (length (ways cells n)) ≡ Some (way_at cells x)) (sym e) (slice_get-append_end (ways cells n) (way_at cells n)))

  -- a word that comes to n by one of the ways, of which the first is that to place p
  pub record Via (n : ℕ) (earlier : List PathExpr) (p : ℕ) (w : List ℕ) : Type 0 where
    pub at : ℕ
    pub way : PathExpr
    pub is : slice_get earlier at ≡ Some way
    pub path : InLanguage (seq_of (seq_of way (cells (p + at) n)) (star_of (cells n n))) w

  pub of_arrivals : (n : ℕ) (earlier : List PathExpr) (p : ℕ) (path : PathExpr) (w : List ℕ) →
      InLanguage (arrivals cells n earlier p path) w → InLanguage path w ⊎ Via n earlier p w
  of_arrivals n [] p path w h = inl h
  of_arrivals n (way ∷ earlier) p path w h = next (of_arrivals n earlier (p + 1) (join_of path step) w h)
    where
      step : PathExpr
      step = seq_of (seq_of way (cells p n)) (star_of (cells n n))

      here : InLanguage path w ⊎ InLanguage step w → InLanguage path w ⊎ Via n (way ∷ earlier) p w
      here (inl r) = inl r
      here (inr r) = inr (record {
        at = 0;
        way = way;
        is = refl;
        path = subst (λ x. InLanguage (seq_of (seq_of way (cells x n)) (star_of (cells n n))) w) (sym (add-zero p)) r;
      })

      next : InLanguage (join_of path step) w ⊎ Via n earlier (p + 1) w → InLanguage path w ⊎ Via n (way ∷ earlier) p w
      next (inl r) = here (of_join_of path step w r)
      next (inr v) = inr (record {
        at = suc v.at;
        way = v.way;
        is = v.is;
        path = subst (λ x. InLanguage (seq_of (seq_of v.way (cells x n)) (star_of (cells n n))) w) (let e : (p + 1) + v.at ≡ p + suc v.at = omega arith in e) v.path;
      })

  in_arrivals : (n : ℕ) (earlier : List PathExpr) (p : ℕ) (path : PathExpr) (w : List ℕ) → InLanguage path w → InLanguage (arrivals cells n earlier p path) w
  in_arrivals n [] p path w h = h
  in_arrivals n (way ∷ earlier) p path w h = in_arrivals n earlier (p + 1) _ w (in_join_left path _ w h)

  via_arrivals : (n : ℕ) (earlier : List PathExpr) (p : ℕ) (path : PathExpr) (w : List ℕ) (at : ℕ) (way : PathExpr) → slice_get earlier at ≡ Some way →
      InLanguage (seq_of (seq_of way (cells (p + at) n)) (star_of (cells n n))) w → InLanguage (arrivals cells n earlier p path) w
  via_arrivals n [] p path w at way is h = absurd (none at is)
    where
      none : (at : ℕ) → slice_get [] at ≡ Some way → ⊥
      none at e = cc
  via_arrivals n (x ∷ earlier) p path w zero way is h =
      in_arrivals n earlier (p + 1) _ w (in_join_right path _ w
      (subst (λ z. InLanguage (seq_of (seq_of z (cells p n)) (star_of (cells n n))) w) (let e : Some x ≡ Some way = is in let f : way ≡ x = cc in f)
      (subst (λ z. InLanguage (seq_of (seq_of way (cells z n)) (star_of (cells n n))) w) (add-zero p) h)))
  via_arrivals n (x ∷ earlier) p path w (suc at) way is h =
      via_arrivals n earlier (p + 1) _ w at way is
      (subst (λ z. InLanguage (seq_of (seq_of way (cells z n)) (star_of (cells n n))) w) (let e : p + suc at ≡ (p + 1) + at = omega arith in e) h)

  Filled-arrivals : (n : ℕ) (earlier : List PathExpr) (p : ℕ) (path : PathExpr) → ((q : ℕ) → Filled (cells q n)) →
      ((at : ℕ) (way : PathExpr) → slice_get earlier at ≡ Some way → Filled way) → Filled path → Filled (arrivals cells n earlier p path)
  Filled-arrivals n [] p path column before f = f
  Filled-arrivals n (way ∷ earlier) p path column before f =
      Filled-arrivals n earlier (p + 1) _ column (λ at x e. before (suc at) x e)
      (Filled-join_of path _ f (Filled-seq_of _ _ (Filled-seq_of way (cells p n) (before 0 way refl) (column p)) (Filled-star_of (cells n n))))

  pub Filled-way_at : (fuel n : ℕ) → n < fuel → ((i j : ℕ) → Filled (cells i j)) → Filled (way_at cells n)
  Filled-way_at zero n h filled = absurd (omega arith)
  Filled-way_at (suc fuel) zero h filled = Filled-star_of (cells 0 0)
  Filled-way_at (suc fuel) (suc n) h filled = Filled-arrivals (suc n) (ways cells (suc n)) 0 Zero (λ q. filled q (suc n))
      (λ at way e. earlier at way e (λ lt. Filled-way_at fuel at (omega arith) filled)) (nothing refl)
    where
      earlier : (at : ℕ) (way : PathExpr) → slice_get (ways cells (suc n)) at ≡ Some way → (at < suc n → Filled (way_at cells at)) → Filled way
      earlier at way e filled =
          let lt : at < suc n = omega (arith, slice_get_within (ways cells (suc n)) at way e, length-ways (suc n)) in
          let same : Some (way_at cells at) ≡ Some way = sym (slice_get-ways (suc n) at lt) ∙ e in
          let is : way_at cells at ≡ way = cc in
          subst Filled is (filled lt)

place_injective : (source a b : ℕ) → place_of source a ≡ place_of source b → a ≡ b
place_injective source a b h = grind (arith, nat_tests)

pub place_below : (source nodes a : ℕ) → source < nodes → a < nodes → place_of source a < nodes
place_below source nodes a hs h = grind (arith, nat_tests)

module _ (links : List Link) (source nodes : ℕ) (some : 0 < nodes) (bounded : (k i j : ℕ) → Joins source links k i j → j < nodes) where
  abbrev Link-step : ℕ → ℕ → ℕ → Type 0
  Link-step = Step links source nodes bounded

  abbrev cells : Table
  cells = last_table nodes links source

  last_means : Means links source nodes bounded 1 cells
  last_means = subst (λ x. Means links source nodes bounded x cells) (let e : nodes - (nodes - 1) ≡ 1 = omega arith in e)
      (table_means links source nodes bounded (nodes - 1) (omega arith))

  cell_sound : (p n : ℕ) → p ≤ n → n < nodes → (w : List ℕ) → InLanguage (cells p n) w → Inner Link-step (n + 1) p n w
  cell_sound p n le lt = last_means.sound p n (n + 1) (omega arith) lt (omega arith)

  cell_complete : (p n : ℕ) → p ≤ n → n < nodes → (w : List ℕ) → Inner Link-step (n + 1) p n w → InLanguage (cells p n) w
  cell_complete p n le lt = last_means.complete p n (n + 1) (omega arith) lt (omega arith)

  turns_sound : (n : ℕ) → n < nodes → (w : List ℕ) → InLanguage (star_of (cells n n)) w → Walk Link-step n n w
  turns_sound n lt w h = let t = of_star_of (cells n n) w h in
      subst (Walk Link-step n n) (sym t.is)
      (Walk-turns Link-step n (n + 1) t.turns (Each-map (InLanguage (cells n n)) (Inner Link-step (n + 1) n n) (cell_sound n n (omega arith) lt) t.turns t.each))

  turns_complete : (n : ℕ) → n < nodes → (turns : List (List ℕ)) → Each (Inner Link-step (n + 1) n n) turns → InLanguage (star_of (cells n n)) (concat turns)
  turns_complete n lt turns h = in_star_of (cells n n) turns
      (Each-map (Inner Link-step (n + 1) n n) (InLanguage (cells n n)) (cell_complete n n (omega arith) lt) turns h)

  way_sound : (fuel n : ℕ) → n < fuel → n < nodes → (w : List ℕ) → InLanguage (way_at cells n) w → Walk Link-step 0 n w
  way_sound zero n f lt w h = absurd (omega arith)
  way_sound (suc fuel) zero f lt w h = turns_sound 0 lt w h
  way_sound (suc fuel) (suc n) f lt w h = next (of_arrivals cells (suc n) (ways cells (suc n)) 0 Zero w h) (λ at b. way_sound fuel at (omega arith) (omega arith))
    where
      next : InLanguage Zero w ⊎ Via cells (suc n) (ways cells (suc n)) 0 w → ((at : ℕ) → at < suc n → (v : List ℕ) → InLanguage (way_at cells at) v → Walk Link-step 0 at v) → Walk Link-step 0 (suc n) w
      next (inl e) earlier = absurd e
      next (inr v) earlier =
          let before : v.at < suc n = omega (arith, slice_get_within (ways cells (suc n)) v.at v.way v.is, length-ways cells (suc n)) in
          let same : Some (way_at cells v.at) ≡ Some v.way = sym (slice_get-ways cells (suc n) v.at before) ∙ v.is in
          let is : v.way ≡ way_at cells v.at = cc in
          let s = of_seq_of (seq_of v.way (cells (0 + v.at) (suc n))) (star_of (cells (suc n) (suc n))) w v.path in
          let f = of_seq_of v.way (cells (0 + v.at) (suc n)) s.front s.first in
          let to = subst (λ x. InLanguage x f.front) is f.first in
          let up = subst (λ x. InLanguage (cells x (suc n)) f.back) (zero-add v.at) f.second in
          subst (Walk Link-step 0 (suc n)) (sym s.is)
          (Walk-append Link-step 0 (suc n) (suc n) s.front s.back
          (subst (Walk Link-step 0 (suc n)) (sym f.is)
          (Walk-append Link-step 0 v.at (suc n) f.front f.back (earlier v.at before f.front to)
          (Walk-inner Link-step (suc n + 1) v.at (suc n) f.back (cell_sound v.at (suc n) (omega arith) lt f.back up))))
          (turns_sound (suc n) lt s.back s.second))

  way_complete : (fuel n : ℕ) → n < fuel → n < nodes → (w : List ℕ) → Walk Link-step 0 n w → InLanguage (way_at cells n) w
  way_complete zero n f lt w h = absurd (omega arith)
  way_complete (suc fuel) zero f lt w h = next (reach Link-step 0 0 w h)
    where
      next : Reaches Link-step 0 0 w → InLanguage (star_of (cells 0 0)) w
      next (arrives a) = let b = a.below in absurd (omega arith)
      next (turning t) = subst (InLanguage (star_of (cells 0 0))) (sym t.is) (turns_complete 0 lt t.turns t.turning)
      next (falling t) = let b = t.above in absurd (omega arith)
  way_complete (suc fuel) (suc n) f lt w h = next (reach Link-step (suc n) 0 w h) (λ at b. way_complete fuel at (omega arith) (omega arith))
    where
      next : Reaches Link-step (suc n) 0 w → ((at : ℕ) → at < suc n → (v : List ℕ) → Walk Link-step 0 at v → InLanguage (way_at cells at) v) → InLanguage (way_at cells (suc n)) w
      next (turning t) earlier = let e = t.same in absurd (omega arith)
      next (falling t) earlier = let b = t.above in absurd (omega arith)
      next (arrives a) earlier =
          let p = a.place in let b = a.below in
          via_arrivals cells (suc n) (ways cells (suc n)) 0 Zero w a.place (way_at cells a.place) (slice_get-ways cells (suc n) a.place a.below)
          (subst (λ x. InLanguage (seq_of (seq_of (way_at cells a.place) (cells x (suc n))) (star_of (cells (suc n) (suc n)))) w) (sym (zero-add a.place))
          (subst (InLanguage (seq_of (seq_of (way_at cells a.place) (cells a.place (suc n))) (star_of (cells (suc n) (suc n))))) (sym a.is)
          (in_seq_of (seq_of (way_at cells a.place) (cells a.place (suc n))) (star_of (cells (suc n) (suc n))) (a.front ++ a.step) (concat a.turns)
          (in_seq_of (way_at cells a.place) (cells a.place (suc n)) a.front a.step (earlier a.place a.below a.front a.walk)
          (cell_complete a.place (suc n) (omega arith) lt a.step a.into))
          (turns_complete (suc n) lt a.turns a.turning))))

  walk_of_places : (a b x : ℕ) (w : List ℕ) → x ≡ place_of source a → Walk Link-step x (place_of source b) w → IsWalk links a b w
  walk_of_places a b x [] e h = place_injective source a b (sym e ∙ h)
  walk_of_places a b x (k ∷ ks) e h =
      let j = h.1 in
      let from : j.link.from ≡ a = place_injective source j.link.from a (j.from ∙ e) in (
        j.link.to,
        subst (λ y. slice_get links k ≡ Some (record { from = y; to = j.link.to })) from j.is,
        walk_of_places j.link.to b h.0 ks (sym j.to) h.2,
      )

  places_of_walk : (a b : ℕ) (w : List ℕ) → IsWalk links a b w → Walk Link-step (place_of source a) (place_of source b) w
  places_of_walk a b [] e = ap (place_of source) e
  places_of_walk a b (k ∷ ks) h =
      (place_of source h.0, record { link = record { from = a; to = h.0 }; is = h.1; from = refl; to = refl }, places_of_walk h.0 b ks h.2)

source_place : (source : ℕ) → place_of source source ≡ 0
source_place source = grind (arith, nat_tests)

graph_bounds : (nodes : ℕ) (links : List Link) (source : ℕ) → IsGraph nodes links → source < nodes → (k i j : ℕ) → Joins source links k i j → j < nodes
graph_bounds nodes links source g hs k i j h =
    let within = slice_get_within links k h.link h.is in
    let both = g k h.link within in
    let is = get_or_from_slice_get links k h.link h.link h.is in
    let bound : h.link.to < nodes = subst (λ (x : Link). x.to < nodes) is both.1 in
    subst (λ x. x < nodes) h.to (place_below source nodes h.link.to hs bound)

-- the language of the path at a node: the walks from the source to it
pub language_is_walks : (nodes : ℕ) (links : List Link) (source node : ℕ) → IsGraph nodes links → source < nodes → node < nodes →
    (w : List ℕ) → InLanguage (path_at nodes links source node) w ↔ IsWalk links source node w
unfolding path_at
language_is_walks nodes links source node g hs hn w =
    let bounded = graph_bounds nodes links source g hs in
    let some : 0 < nodes = omega arith in
    let below = place_below source nodes node hs hn in
    let n = place_of source node in (
      λ h. walk_of_places links source nodes some bounded source node 0 w (sym (source_place source))
          (way_sound links source nodes some bounded (n + 1) n (omega arith) below w h),
      λ h. way_complete links source nodes some bounded (n + 1) n (omega arith) below w
          (subst (λ x. Walk (Step links source nodes bounded) x n w) (source_place source)
          (places_of_walk links source nodes some bounded source node w h)),
    )

Filled-joined : (p : PathExpr) (ks : List ℕ) → Filled p → Filled (path_through p ks)
Filled-joined p [] f = f
Filled-joined p (k ∷ ks) f = Filled-joined _ ks (Filled-join_of p (Edge k) f (word (k ∷ []) refl))

Filled-table : (nodes : ℕ) (links : List Link) (source count : ℕ) (i j : ℕ) → Filled (table_after nodes links source count i j)
unfolding first_table after_elimination
Filled-table nodes links source zero i j = Filled-joined Zero (links_between source 0 links i j) (nothing refl)
Filled-table nodes links source (suc count) i j = step (Filled-table nodes links source count)
  where
    old : Table
    old = table_after nodes links source count

    n : ℕ
    n = nodes - suc count

    step : ((a b : ℕ) → Filled (old a b)) → Filled (after_elimination n old i j)
    step f = cond_both (ltb i n && ltb j n) (join_of (old i j) (seq_of (seq_of (old i n) (star_of (old n n))) (old n j))) (old i j) Filled
        (λ _. Filled-join_of (old i j) (seq_of (seq_of (old i n) (star_of (old n n))) (old n j)) (f i j)
        (Filled-seq_of (seq_of (old i n) (star_of (old n n))) (old n j) (Filled-seq_of (old i n) (star_of (old n n)) (f i n) (Filled-star_of (old n n))) (f n j)))
        (λ _. f i j)

-- the path at a node is Zero exactly where no walk leads to it
pub zero_is_no_walk : (nodes : ℕ) (links : List Link) (source node : ℕ) → IsGraph nodes links → source < nodes → node < nodes →
    (path_at nodes links source node ≡ Zero) ↔ ((w : List ℕ) → IsWalk links source node w → ⊥)
unfolding path_at
zero_is_no_walk nodes links source node g hs hn = (
  λ e w h. subst (λ x. InLanguage x w) e ((language_is_walks nodes links source node g hs hn w).1 h),
  λ none. by_word none (Filled-way_at (last_table nodes links source) (place_of source node + 1) (place_of source node) (omega arith) (Filled-table nodes links source (nodes - 1))),
)
  where
    by_word : ((w : List ℕ) → IsWalk links source node w → ⊥) → Filled (path_at nodes links source node) → path_at nodes links source node ≡ Zero
    by_word none (nothing e) = e
    by_word none (word w h) = absurd (none w ((language_is_walks nodes links source node g hs hn w).0 h))
