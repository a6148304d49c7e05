-- Each operation of the stated elimination is ready where it stands, and the way to each node is
-- made.
use Rattle.std.proofs.Common.{◌≡◌, ℕ, zero, suc, ◌+◌, ◌-◌, ◌<◌, ◌≤◌, ◌&&◌, ltb, List, [], ◌∷◌, ◌++◌, length, Some, refl, sym, ◌∙◌, ap, subst, inl, inr, ◌⊎◌, arith, add-zero}
use Rattle.std.specs.List.{slice_get}
use Rattle.std.specs.Option.{unwrap_or}
use Rattle.std.proofs.lemmas.Bool.{cases_lt, cond_both, and_parts, ltb-true}
use Rattle.std.proofs.lemmas.Option.{slice_get_within}
use Rattle.path_expr.specs.declared.link.Link.{Link}
use Rattle.path_expr.specs.PathExpr.{PathExpr, Zero, Edge, seq_of, join_of, star_of}
use Rattle.path_expr.specs.Elimination.{place_of, Table, links_between, path_through, first_table, after_elimination, table_after, last_table, arrivals, ways, way_at, path_at}
use Rattle.path_expr.specs.Holds.{node_at}
use Rattle.path_expr.specs.Operations.{seq_operation, join_operation, star_operation, below, join_operations, first_row_operations, cell_operations, row_operations, place_operations, eliminations, arrival_operations, arrivals_operations, way_operations, operations}
use Rattle.path_expr.specs.Walks.{IsGraph}
use Rattle.path_expr.proofs.CellWalks.{Among, of_between}
use Rattle.path_expr.proofs.EliminationLemmas.{table_after-kept}
use Rattle.path_expr.proofs.FirstLemmas.{node_at-place_of, links_between-outside}
use Rattle.path_expr.proofs.WayWalks.{length-ways, slice_get-ways, place_below}
use Rattle.path_expr.proofs.ReachLemmas.{edge_part, first_part, elimination_part, way_part, operations-one}
use Rattle.checked_tree.specs.Graph.{Graph, link_at}
use Rattle.checked_tree.specs.Ready.{IsAmong, AreReady}
use Rattle.checked_tree.proofs.Stands.{Stands, stands-more, Gives, gives-then, gives-none, gives-weaker, seq-gives, join-gives, star-gives, IsPlain, plain-seq_left, plain-seq_right, plain-join}

-- what stays so where more is made
abbrev pub IsKept : (List PathExpr → Type 0) → Type 0
IsKept P = (done more : List PathExpr) → P done → P (done ++ more)

module _ (g : Graph) (source : ℕ) (here : IsGraph (length g.nodes) g.links) (some : source < length g.nodes) where
  abbrev nodes : ℕ
  nodes = length g.nodes

  abbrev at : ℕ → ℕ
  at place = node_at source place

  -- operations at each number below one: each gives something of its own, where those before gave
  -- theirs
  below-gives : (ops : ℕ → List PathExpr) (Before : List PathExpr → Type 0) (Got : ℕ → List PathExpr → Type 0) → IsKept Before → ((k : ℕ) → IsKept (Got k)) → (n : ℕ) →
      ((k : ℕ) (d : List PathExpr) → k < n → Before d → ((m : ℕ) → m < k → Got m d) → Gives g d (ops k) (Got k)) →
      (done : List PathExpr) → Before done → Gives g done (below ops n) (λ d. Before d × ((m : ℕ) → m < n → Got m d))
  below-gives ops Before Got kept keeps zero step done h = gives-none g done (λ d. Before d × ((m : ℕ) → m < 0 → Got m d)) (h, λ m lt. absurd (omega arith))
  below-gives ops Before Got kept keeps (suc n) step done h =
      gives-then g done (below ops n) (ops n) (λ d. Before d × ((m : ℕ) → m < n → Got m d)) (λ d. Before d × ((m : ℕ) → m < suc n → Got m d))
      (below-gives ops Before Got kept keeps n (λ k d lt. step k d (omega arith)) done h)
      (λ first. let made = step n (done ++ below ops n) (omega arith) first.0 first.1 in
      record {
        ready = made.ready;
        after = (kept (done ++ below ops n) (ops n) first.0, λ m lt. all m lt (cases_lt m n) first.1 made.after);
      })
    where
      all : (m : ℕ) → m < suc n → (m < n) ⊎ (n ≤ m) → ((m : ℕ) → m < n → Got m (done ++ below ops n)) → Got n ((done ++ below ops n) ++ ops n) → Got m ((done ++ below ops n) ++ ops n)
      all m lt (inl less) earlier last = keeps m (done ++ below ops n) (ops n) (earlier m less)
      all m lt (inr more) earlier last = let same : n ≡ m = omega arith in subst (λ k. Got k ((done ++ below ops n) ++ ops n)) same last

  -- ---- the first table

  -- links that stand
  abbrev HasEdge : ℕ → List PathExpr → Type 0
  HasEdge k d = Stands g d (Edge k) (link_at g k).from (link_at g k).to

  edges-give : Gives g [] (below (λ number. Edge number ∷ []) (length g.links)) (λ d. Unit {0} × ((k : ℕ) → k < length g.links → HasEdge k d))
  edges-give =
      below-gives (λ number. Edge number ∷ []) (λ d. Unit {0}) HasEdge (λ d more h. tt) (λ k d more h. stands-more g d more (Edge k) (link_at g k).from (link_at g k).to h) (length g.links)
      (λ k d lt h earlier. record { ready = (lt, tt); after = (newest d k, refl, refl) }) [] tt
    where
      newest : (d : List PathExpr) (k : ℕ) → IsAmong (Edge k) (d ++ Edge k ∷ [])
      newest [] k = inl refl
      newest (x ∷ d) k = inr (newest d k)

  abbrev HaveEdges : List PathExpr → Type 0
  HaveEdges d = Unit {0} × ((k : ℕ) → k < length g.links → HasEdge k d)

  have_edges-kept : IsKept HaveEdges
  have_edges-kept d more h = (tt, λ k lt. stands-more g d more (Edge k) (link_at g k).from (link_at g k).to (h.1 k lt))

  -- a link between two places stands between their nodes
  edge-at : (d : List PathExpr) (i j k : ℕ) → HaveEdges d → Among k (links_between source 0 g.links i j) → Stands g d (Edge k) (at i) (at j)
  edge-at d i j k h among =
      let f = of_between source 0 g.links k i j among in
      let same : f.at ≡ k = omega (arith, f.is) in
      let is : slice_get g.links k ≡ Some f.joins.link = subst (λ n. slice_get g.links n ≡ Some f.joins.link) same f.joins.is in
      let found : link_at g k ≡ f.joins.link = ap (λ o. unwrap_or o record { from = 0; to = 0 }) is in
      let e = h.1 k (slice_get_within g.links k f.joins.link is) in (
        e.0,
        e.1 ∙ ap (λ (l : Link). l.from) found ∙ sym (node_at-place_of source f.joins.link.from) ∙ ap (node_at source) f.joins.from,
        e.2 ∙ ap (λ (l : Link). l.to) found ∙ sym (node_at-place_of source f.joins.link.to) ∙ ap (node_at source) f.joins.to,
      )

  joins-give : (i j : ℕ) (numbers : List ℕ) (path : PathExpr) (done : List PathExpr) → IsPlain g path → Stands g done path (at i) (at j) →
      ((k : ℕ) → Among k numbers → Stands g done (Edge k) (at i) (at j)) → Gives g done (join_operations path numbers) (λ d. Stands g d (path_through path numbers) (at i) (at j))
  joins-give i j [] path done plain h edges = gives-none g done (λ d. Stands g d path (at i) (at j)) h
  joins-give i j (k ∷ numbers) path done plain h edges =
      gives-then g done (join_operation path (Edge k)) (join_operations (join_of path (Edge k)) numbers) (λ d. Stands g d (join_of path (Edge k)) (at i) (at j)) (λ d. Stands g d (path_through (join_of path (Edge k)) numbers) (at i) (at j))
      (join-gives g done path (Edge k) (at i) (at j) plain tt h (edges k (inl refl)))
      (λ next. joins-give i j numbers (join_of path (Edge k)) (done ++ join_operation path (Edge k)) (plain-join g path (Edge k) plain tt) next
      (λ m among. stands-more g done (join_operation path (Edge k)) (Edge m) (at i) (at j) (edges m (inr among))))

  -- the cell for two places stands
  abbrev Cell : Table → ℕ → ℕ → List PathExpr → Type 0
  Cell cells i j d = Stands g d (cells i j) (at i) (at j)

  cell-kept : (cells : Table) (i j : ℕ) → IsKept (Cell cells i j)
  cell-kept cells i j d more h = stands-more g d more (cells i j) (at i) (at j) h

  abbrev Cells : Table → List PathExpr → Type 0
  Cells cells d = (i j : ℕ) → Cell cells i j d

  cells-kept : (cells : Table) → IsKept (Cells cells)
  cells-kept cells d more h i j = cell-kept cells i j d more (h i j)

  abbrev begun : Table
  begun i j = path_through Zero (links_between source 0 g.links i j)

  first_row-gives : (i : ℕ) (done : List PathExpr) → HaveEdges done → Gives g done (first_row_operations nodes g.links source i) (λ d. HaveEdges d × ((j : ℕ) → j < nodes → Cell begun i j d))
  unfolding first_row_operations
  first_row-gives i done h =
      below-gives (λ j. join_operations Zero (links_between source 0 g.links i j)) HaveEdges (λ j d. Cell begun i j d) have_edges-kept (λ j. cell-kept begun i j) nodes
      (λ j d lt edges earlier. joins-give i j (links_between source 0 g.links i j) Zero d tt tt (λ k among. edge-at d i j k edges among)) done h

  begun-outside : (i j : ℕ) → (nodes ≤ i) ⊎ (nodes ≤ j) → (d : List PathExpr) → Cell begun i j d
  begun-outside i j past d = subst (λ ks. Stands g d (path_through Zero ks) (at i) (at j)) (sym (links_between-outside nodes g.links source here some i j past)) tt

  first-gives : (done : List PathExpr) → HaveEdges done → Gives g done (below (first_row_operations nodes g.links source) nodes) (Cells (first_table g.links source))
  unfolding first_table
  first-gives done h =
      gives-weaker g done (below (first_row_operations nodes g.links source) nodes) (λ d. HaveEdges d × ((i : ℕ) → i < nodes → Row i d)) (Cells begun)
      (below-gives (first_row_operations nodes g.links source) HaveEdges Row have_edges-kept (λ i d more row. (have_edges-kept d more row.0, λ j lt. cell-kept begun i j d more (row.1 j lt))) nodes
      (λ i d lt edges earlier. first_row-gives i d edges) done h)
      (λ d rows i j. all d rows.1 i j (cases_lt i nodes) (cases_lt j nodes))
    where
      Row : ℕ → List PathExpr → Type 0
      Row i d = HaveEdges d × ((j : ℕ) → j < nodes → Cell begun i j d)

      all : (d : List PathExpr) → ((i : ℕ) → i < nodes → Row i d) → (i j : ℕ) → (i < nodes) ⊎ (nodes ≤ i) → (j < nodes) ⊎ (nodes ≤ j) → Cell begun i j d
      all d rows i j (inl a) (inl b) = (rows i a).1 j b
      all d rows i j (inl a) (inr b) = begun-outside i j (inr b) d
      all d rows i j (inr a) other = begun-outside i j (inl a) d

  -- ---- one place is eliminated

  abbrev ArePlain : Table → Type 0
  ArePlain cells = (i j : ℕ) → IsPlain g (cells i j)

  module _ (cells : Table) (plain : ArePlain cells) (n : ℕ) where
    abbrev star : PathExpr
    star = star_of (cells n n)

    abbrev turned : ℕ → PathExpr
    turned i = seq_of (cells i n) star

    abbrev swept : ℕ → ℕ → PathExpr
    swept i j = join_of (cells i j) (seq_of (turned i) (cells n j))

    abbrev HasStar : List PathExpr → Type 0
    HasStar d = Cells cells d × Stands g d star (at n) (at n)

    has_star-kept : IsKept HasStar
    has_star-kept d more h = (cells-kept cells d more h.0, stands-more g d more star (at n) (at n) h.1)

    abbrev IsTurned : ℕ → List PathExpr → Type 0
    IsTurned i d = HasStar d × Stands g d (turned i) (at i) (at n)

    is_turned-kept : (i : ℕ) → IsKept (IsTurned i)
    is_turned-kept i d more h = (has_star-kept d more h.0, stands-more g d more (turned i) (at i) (at n) h.1)

    cell-gives : (i j : ℕ) (done : List PathExpr) → IsTurned i done → Gives g done (cell_operations cells n i j) (λ d. Stands g d (swept i j) (at i) (at j))
    unfolding cell_operations
    cell-gives i j done h =
        gives-then g done (seq_operation (turned i) (cells n j)) (join_operation (cells i j) (seq_of (turned i) (cells n j)))
        (λ d. Stands g d (seq_of (turned i) (cells n j)) (at i) (at j)) (λ d. Stands g d (swept i j) (at i) (at j))
        (seq-gives g done (turned i) (cells n j) (at i) (at n) (at j) h.1 (h.0.0 n j))
        (λ path. join-gives g (done ++ seq_operation (turned i) (cells n j)) (cells i j) (seq_of (turned i) (cells n j)) (at i) (at j) (plain i j)
        (plain-seq_right g (turned i) (cells n j) (plain n j)) (cell-kept cells i j done (seq_operation (turned i) (cells n j)) (h.0.0 i j)) path)

    abbrev Swept : ℕ → ℕ → List PathExpr → Type 0
    Swept i j d = Stands g d (swept i j) (at i) (at j)

    abbrev SweptRow : ℕ → List PathExpr → Type 0
    SweptRow i d = (j : ℕ) → j < n → Swept i j d

    row-gives : (i : ℕ) (done : List PathExpr) → HasStar done → Gives g done (row_operations cells n i) (SweptRow i)
    unfolding row_operations
    row-gives i done h =
        gives-then g done (seq_operation (cells i n) star) (below (cell_operations cells n i) n) (IsTurned i) (SweptRow i)
        (let made = seq-gives g done (cells i n) star (at i) (at n) (at n) (h.0 i n) h.1 in
        record { ready = made.ready; after = (has_star-kept done (seq_operation (cells i n) star) h, made.after) })
        (λ turned_here. gives-weaker g (done ++ seq_operation (cells i n) star) (below (cell_operations cells n i) n) (λ d. IsTurned i d × SweptRow i d) (SweptRow i)
        (below-gives (cell_operations cells n i) (IsTurned i) (Swept i) (is_turned-kept i) (λ j d more k. stands-more g d more (swept i j) (at i) (at j) k) n
        (λ j d lt k earlier. cell-gives i j d k) (done ++ seq_operation (cells i n) star) turned_here)
        (λ d both. both.1))

    -- the table with the place eliminated, and turns at it
    abbrev Eliminated : List PathExpr → Type 0
    Eliminated d = Cells (after_elimination n cells) d × Stands g d star (at n) (at n)

    eliminated-stands : (d : List PathExpr) → HasStar d → ((i : ℕ) → i < n → SweptRow i d) → Cells (after_elimination n cells) d
    unfolding after_elimination
    eliminated-stands d h rows i j =
        cond_both (ltb i n && ltb j n) (swept i j) (cells i j) (λ p. Stands g d p (at i) (at j))
        (λ e. let parts = and_parts (ltb i n) (ltb j n) e in rows i (ltb-true i n parts.0) j (ltb-true j n parts.1))
        (λ e. h.0 i j)

    eliminated-plain : ArePlain (after_elimination n cells)
    unfolding after_elimination
    eliminated-plain i j =
        cond_both (ltb i n && ltb j n) (swept i j) (cells i j) (IsPlain g)
        (λ e. plain-join g (cells i j) (seq_of (turned i) (cells n j)) (plain i j) (plain-seq_right g (turned i) (cells n j) (plain n j)))
        (λ e. plain i j)

    place-gives : (done : List PathExpr) → Cells cells done → Gives g done (place_operations cells n) Eliminated
    unfolding place_operations
    place-gives done h =
        gives-then g done star_ops (below (row_operations cells n) n) HasStar Eliminated
        (let made = star-gives g done (cells n n) (at n) (h n n) in record { ready = made.ready; after = (cells-kept cells done star_ops h, made.after) })
        (λ turn. gives-weaker g (done ++ star_ops) (below (row_operations cells n) n) (λ d. HasStar d × ((i : ℕ) → i < n → SweptRow i d)) Eliminated
        (below-gives (row_operations cells n) HasStar SweptRow has_star-kept (λ i d more row j lt. stands-more g d more (swept i j) (at i) (at j) (row j lt)) n
        (λ i d lt k earlier. row-gives i d k) (done ++ star_ops) turn)
        (λ d all. (eliminated-stands d all.0 all.1, all.0.1)))
      where
        star_ops : List PathExpr
        star_ops = star_operation (cells n n)

  -- ---- all places are eliminated

  table : ℕ → Table
  table count = table_after nodes g.links source count

  joined-plain : (numbers : List ℕ) (path : PathExpr) → IsPlain g path → IsPlain g (path_through path numbers)
  joined-plain [] path h = h
  joined-plain (k ∷ numbers) path h = joined-plain numbers (join_of path (Edge k)) (plain-join g path (Edge k) h tt)

  first-plain : ArePlain (first_table g.links source)
  unfolding first_table
  first-plain i j = joined-plain (links_between source 0 g.links i j) Zero tt

  table-plain : (count : ℕ) → ArePlain (table_after nodes g.links source count)
  table-plain zero = first-plain
  table-plain (suc count) = eliminated-plain (table_after nodes g.links source count) (table-plain count) (nodes - suc count)

  -- the table stands, and turns at the places that were eliminated
  abbrev HasTable : ℕ → List PathExpr → Type 0
  HasTable count d =
      Cells (table_after nodes g.links source count) d
      × ((m : ℕ) → nodes ≤ m + count → m < nodes → Stands g d (star_of (table_after nodes g.links source count m m)) (at m) (at m))

  has_table-next : (count : ℕ) (d more : List PathExpr) → count < nodes → HasTable count d → Eliminated (table_after nodes g.links source count) (table-plain count) (nodes - suc count) (d ++ more) → HasTable (suc count) (d ++ more)
  has_table-next count d more lt h made = (made.0, λ m above below. turns m above below (cases_lt (nodes - suc count) m))
    where
      old : Table
      old = table_after nodes g.links source count

      kept : (m : ℕ) → nodes ≤ m + suc count → old m m ≡ table_after nodes g.links source (suc count) m m
      kept m le = table_after-kept nodes g.links source count m le ∙ ap (λ c. table_after nodes g.links source c m m) (let e : count + 1 ≡ suc count = omega arith in e)

      turns : (m : ℕ) → nodes ≤ m + suc count → m < nodes → (nodes - suc count < m) ⊎ (m ≤ nodes - suc count) → Stands g (d ++ more) (star_of (table_after nodes g.links source (suc count) m m)) (at m) (at m)
      turns m above below (inl after) =
          subst (λ p. Stands g (d ++ more) (star_of p) (at m) (at m)) (kept m above)
          (stands-more g d more (star_of (old m m)) (at m) (at m) (h.1 m (omega arith) below))
      turns m above below (inr upto) =
          let same : nodes - suc count ≡ m = omega arith in
          subst (λ p. Stands g (d ++ more) (star_of p) (at m) (at m)) (kept m above)
          (subst (λ n. Stands g (d ++ more) (star_of (old n n)) (at n) (at n)) same made.1)

  eliminations-give : (count : ℕ) (done : List PathExpr) → count < nodes → Cells (first_table g.links source) done → Gives g done (eliminations nodes g.links source count) (HasTable count)
  eliminations-give zero done lt h = gives-none g done (HasTable 0) (h, λ m above below. absurd (omega arith))
  eliminations-give (suc count) done lt h =
      let before = eliminations-give count done (omega arith) h in
      let old : Table = table_after nodes g.links source count in
      gives-then g done (eliminations nodes g.links source count) (place_operations old (nodes - suc count)) (HasTable count) (HasTable (suc count)) before
      (λ stands. let made = place-gives old (table-plain count) (nodes - suc count) (done ++ eliminations nodes g.links source count) stands.0 in
      record { ready = made.ready; after = has_table-next count (done ++ eliminations nodes g.links source count) (place_operations old (nodes - suc count)) (omega arith) stands made.after })

  -- ---- the ways

  module _ (cells : Table) (plain : ArePlain cells) where
    -- the table stands, and turns at each place but the source's
    abbrev HasAll : List PathExpr → Type 0
    HasAll d = Cells cells d × ((m : ℕ) → 0 < m → m < nodes → Stands g d (star_of (cells m m)) (at m) (at m))

    has_all-kept : IsKept HasAll
    has_all-kept d more h = (cells-kept cells d more h.0, λ m above below. stands-more g d more (star_of (cells m m)) (at m) (at m) (h.1 m above below))

    -- the ways to the places from p on
    abbrev AreWays : List PathExpr → List PathExpr → ℕ → Type 0
    AreWays d earlier p = (k : ℕ) (way : PathExpr) → slice_get earlier k ≡ Some way → Stands g d way (at 0) (at (p + k))

    arrivals-give : (n : ℕ) → 0 < n → n < nodes → (earlier : List PathExpr) (p : ℕ) (path : PathExpr) (done : List PathExpr) → HasAll done → AreWays done earlier p → IsPlain g path →
        Stands g done path (at 0) (at n) → Gives g done (arrivals_operations cells n earlier p path) (λ d. Stands g d (arrivals cells n earlier p path) (at 0) (at n))
    unfolding arrival_operations
    arrivals-give n some_n lt [] p path done h before plain_path stands = gives-none g done (λ d. Stands g d path (at 0) (at n)) stands
    arrivals-give n some_n lt (way ∷ earlier) p path done h before plain_path stands =
        gives-then g done (arrival_operations cells n way p path) (arrivals_operations cells n earlier (p + 1) (join_of path step)) (λ d. Stands g d (join_of path step) (at 0) (at n))
        (λ d. Stands g d (arrivals cells n earlier (p + 1) (join_of path step)) (at 0) (at n))
        arrival
        (λ next. arrivals-give n some_n lt earlier (p + 1) (join_of path step) (done ++ ops) (has_all-kept done ops h)
        (λ k other is. stands-more g done ops other (at 0) (at ((p + 1) + k)) (subst (λ m. Stands g done other (at 0) (at m)) (let e : p + suc k ≡ (p + 1) + k = omega arith in e) (before (suc k) other is)))
        (plain-join g path step plain_path step-plain) next)
      where
        ops : List PathExpr
        ops = arrival_operations cells n way p path

        up : PathExpr
        up = seq_of way (cells p n)

        turn : PathExpr
        turn = star_of (cells n n)

        step : PathExpr
        step = seq_of up turn

        step-plain : IsPlain g step
        step-plain = plain-seq_left g up turn (plain-seq_right g way (cells p n) (plain p n))

        arrival : Gives g done (arrival_operations cells n way p path) (λ d. Stands g d (join_of path step) (at 0) (at n))
        arrival =
            let first = seq_operation way (cells p n) in
            let second = seq_operation up turn in
            gives-then g done first (second ++ join_operation path step) (λ d. Stands g d up (at 0) (at n)) (λ d. Stands g d (join_of path step) (at 0) (at n))
            (seq-gives g done way (cells p n) (at 0) (at p) (at n) (subst (λ m. Stands g done way (at 0) (at m)) (add-zero p) (before 0 way refl)) (h.0 p n))
            (λ up_stands. gives-then g (done ++ first) second (join_operation path step) (λ d. Stands g d step (at 0) (at n)) (λ d. Stands g d (join_of path step) (at 0) (at n))
            (seq-gives g (done ++ first) up turn (at 0) (at n) (at n) up_stands (stands-more g done first turn (at n) (at n) (h.1 n some_n lt)))
            (λ step_stands. join-gives g ((done ++ first) ++ second) path step (at 0) (at n) plain_path step-plain
            (stands-more g (done ++ first) second path (at 0) (at n) (stands-more g done first path (at 0) (at n) stands)) step_stands))

    abbrev Way : ℕ → List PathExpr → Type 0
    Way n d = Stands g d (way_at cells n) (at 0) (at n)

    way-gives : (n : ℕ) (done : List PathExpr) → n < nodes → HasAll done → ((m : ℕ) → m < n → Way m done) → Gives g done (way_operations cells n) (Way n)
    way-gives zero done lt h before = star-gives g done (cells 0 0) (at 0) (h.0 0 0)
    way-gives (suc n) done lt h before =
        arrivals-give (suc n) (omega arith) lt (ways cells (suc n)) 0 Zero done h
        (λ k way is. let below : k < suc n = omega (arith, slice_get_within (ways cells (suc n)) k way is, length-ways cells (suc n)) in
        subst (λ m. Stands g done way (at 0) (at m)) (let e : k ≡ 0 + k = omega arith in e)
        (subst (λ p. Stands g done p (at 0) (at k)) (same k way (sym (slice_get-ways cells (suc n) k below) ∙ is)) (before k below))) tt tt
      where
        same : (k : ℕ) (way : PathExpr) → Some (way_at cells k) ≡ Some way → way_at cells k ≡ way
        same k way e = cc

    ways-give : (done : List PathExpr) → HasAll done → Gives g done (below (way_operations cells) nodes) (λ d. HasAll d × ((n : ℕ) → n < nodes → Way n d))
    ways-give done h =
        below-gives (way_operations cells) HasAll Way has_all-kept (λ n d more k. stands-more g d more (way_at cells n) (at 0) (at n) k) nodes
        (λ n d lt k earlier. way-gives n d lt k earlier) done h

  -- ---- the whole

  abbrev AllWays : List PathExpr → Type 0
  AllWays d = (n : ℕ) → n < nodes → Stands g d (way_at (last_table nodes g.links source) n) (at 0) (at n)

  operations-give : Gives g [] (operations nodes g.links source) AllWays
  operations-give =
      subst (λ ops. Gives g [] ops AllWays) (operations-one nodes g.links source)
      (gives-then g [] edges (firsts ++ (eliminated_ops ++ way_ops)) HaveEdges AllWays edges-give
      (λ have. gives-then g edges firsts (eliminated_ops ++ way_ops) (Cells (first_table g.links source)) AllWays (first-gives edges have)
      (λ begun_here. gives-then g (edges ++ firsts) eliminated_ops way_ops (HasTable (nodes - 1)) AllWays (eliminations-give (nodes - 1) (edges ++ firsts) (omega arith) begun_here)
      (λ last. gives-weaker g ((edges ++ firsts) ++ eliminated_ops) way_ops (λ d. HasAll (last_table nodes g.links source) (table-plain (nodes - 1)) d × ((n : ℕ) → n < nodes → Way (last_table nodes g.links source) (table-plain (nodes - 1)) n d)) AllWays
      (ways-give (last_table nodes g.links source) (table-plain (nodes - 1)) ((edges ++ firsts) ++ eliminated_ops) (last.0, λ m above below. last.1 m (omega arith) below))
      (λ d all. all.1)))))
    where
      edges : List PathExpr
      edges = edge_part nodes g.links source

      firsts : List PathExpr
      firsts = first_part nodes g.links source

      eliminated_ops : List PathExpr
      eliminated_ops = elimination_part nodes g.links source

      way_ops : List PathExpr
      way_ops = way_part nodes g.links source

  pub operations-ready : AreReady g [] (operations nodes g.links source)
  operations-ready = operations-give.ready

  -- the path at a node stands between the source and the node
  pub path_at-stands : (node : ℕ) → node < nodes → Stands g (operations nodes g.links source) (path_at nodes g.links source node) source node
  unfolding path_at
  path_at-stands node lt =
      subst (λ i. Stands g (operations nodes g.links source) (path_at nodes g.links source node) i node) (let e : node_at source 0 ≡ source = refl in e)
      (subst (λ j. Stands g (operations nodes g.links source) (path_at nodes g.links source node) (at 0) j) (node_at-place_of source node)
      (operations-give.after (place_of source node) (place_below source nodes node some lt)))
