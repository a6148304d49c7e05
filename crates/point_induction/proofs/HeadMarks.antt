-- Marks of heads, by the edges gone over so far, and the numbers that are marked.
use Rattle.std.proofs.Common.{◌≡◌, ◌⊎◌, ℕ, zero, suc, ◌+◌, ◌<◌, ◌≤◌, cond, List, [], ◌∷◌, ◌++◌, map, length, take, replicate, get_or, refl, sym, ap, subst, ◌∙◌, inl, inr, arith}
use Rattle.std.specs.Prelude.{Bool, true, false, not, nat_lt, All, slice_set, ◌==◌, ◌||◌}
use Rattle.std.specs.List.{filter, range_with_len}
use Rattle.std.proofs.lemmas.Bool.{and_from, and_left, and_right, cases_eq, eq-eqb, le-ltb, lt-ltb, ne_eqb, or_left, or_right}
use Rattle.std.proofs.lemmas.List.{append-nil, get_or-set_other, get_or-set_same, length-set, map-id, map_more}
use Rattle.std.proofs.lemmas.List.Elements.{All-get_or, filter-append}
use Rattle.std.proofs.lemmas.List.Folds.{list_any-append}
use Rattle.std.proofs.lemmas.List.FromFn.{fill_by_all, get_or-map-range_with_len, length-map-range_with_len, map-range_with_len_more}
use Rattle.flow_graph.specs.declared.parts.Edge.{Edge}
use Rattle.flow_graph.specs.declared.parts.Graph.{Graph as MadeGraph}
use Rattle.flow_graph.specs.FlowGraph.{Arc, FlowGraph}
use Rattle.flow_graph.specs.Plain.{arc_of}
use Rattle.point_induction.specs.Heads.{AreInside, head_marks, marked_numbers}
use Rattle.point_induction.specs.Points.{heads_of, is_head, leads_back_to}

-- ---- the edges gone over

pub arcs-more : (edges : List Edge) (i : ℕ) (edge : Edge) → i < length edges → edge ≡ get_or edges i edge
    → map arc_of (take (i + 1) edges) ≡ map arc_of (take i edges) ++ arc_of edge ∷ []
arcs-more edges i edge lt is = map_more arc_of edges i edge lt ∙ ap (λ e. map arc_of (take i edges) ++ arc_of e ∷ []) (sym is)

pub inside-at : (graph : MadeGraph) (edges : List Edge) (i : ℕ) (edge : Edge) → AreInside graph → edges ≡ graph.edges → i < length edges → edge ≡ get_or edges i edge
    → (edge.from < graph.nodes) × (edge.to < graph.nodes)
inside-at graph edges i edge all same lt is =
    let inside : All (λ (e : Edge). (e.from < graph.nodes) × (e.to < graph.nodes)) edges = subst (All (λ (e : Edge). (e.from < graph.nodes) × (e.to < graph.nodes))) (sym same) all in
    subst (λ (e : Edge). (e.from < graph.nodes) × (e.to < graph.nodes)) (sym is) (All-get_or (λ (e : Edge). (e.from < graph.nodes) × (e.to < graph.nodes)) edges i edge lt inside)

-- ---- marks of heads

or_none : (b : Bool) → (b || (false || false)) ≡ b
or_none true = refl
or_none false = refl

pub heads-none : (a n : ℕ) → replicate n false ≡ map (is_head []) (range_with_len a n)
heads-none a zero = refl
heads-none a (suc n) = ap (λ rest. false ∷ rest) (heads-none (a + 1) n)

module _ (arcs : List Arc) (way : Arc) where
  head-more : (node : ℕ) → is_head (arcs ++ way ∷ []) node ≡ (is_head arcs node || (leads_back_to node way || false))
  head-more node = list_any-append (leads_back_to node) arcs (way ∷ [])

  head-kept : (node : ℕ) → leads_back_to node way ≡ false → is_head arcs node ≡ is_head (arcs ++ way ∷ []) node
  head-kept node none = sym (head-more node ∙ ap (λ b. is_head arcs node || (b || false)) none ∙ or_none (is_head arcs node))

  -- an edge that leads forward changes no mark
  pub heads-kept : (nodes : ℕ) (marks : List Bool) → way.from < way.to → marks ≡ map (is_head arcs) (range_with_len 0 nodes)
      → marks ≡ map (is_head (arcs ++ way ∷ [])) (range_with_len 0 nodes)
  heads-kept nodes marks forward made =
      made ∙ (λ i. map (λ node. head-kept node (and_right (way.to == node) (not (nat_lt way.from way.to)) (ap not (lt-ltb way.from way.to forward))) i) (range_with_len 0 nodes))

  -- another marks its end
  pub heads-marked : (nodes : ℕ) (marks next : List Bool) → way.to ≤ way.from → way.to < nodes → marks ≡ map (is_head arcs) (range_with_len 0 nodes)
      → next ≡ slice_set marks way.to true → next ≡ map (is_head (arcs ++ way ∷ [])) (range_with_len 0 nodes)
  heads-marked nodes marks next back within made put = fill_by_all (is_head (arcs ++ way ∷ [])) next nodes false long each
    where
      before : length marks ≡ nodes
      before = ap length made ∙ length-map-range_with_len (is_head arcs) 0 nodes

      long : length next ≡ nodes
      long = ap length put ∙ length-set marks way.to true ∙ before

      old : (k : ℕ) → k < nodes → get_or marks k false ≡ is_head arcs k
      old k less = ap (λ xs. get_or xs k false) made ∙ get_or-map-range_with_len (is_head arcs) 0 nodes k k false less (omega arith)

      at : (k : ℕ) → k < nodes → (k ≡ way.to) ⊎ (k ≡ way.to → ⊥) → get_or next k false ≡ is_head (arcs ++ way ∷ []) k
      at k less (inl e) =
          ap (λ xs. get_or xs k false) put ∙ ap (λ n. get_or (slice_set marks way.to true) n false) e
          ∙ get_or-set_same marks way.to true false (subst (λ n. way.to < n) (sym before) within)
          ∙ sym (head-more k ∙ or_right (is_head arcs k) (leads_back_to k way || false)
          (or_left (leads_back_to k way) false
          (and_from (way.to == k) (not (nat_lt way.from way.to)) (eq-eqb way.to k (sym e)) (ap not (le-ltb way.from way.to back)))))
      at k less (inr ne) =
          ap (λ xs. get_or xs k false) put ∙ get_or-set_other marks way.to k true false ne ∙ old k less
          ∙ head-kept k (and_left (way.to == k) (not (nat_lt way.from way.to)) (ne_eqb way.to k (λ e. ne (sym e))))

      each : (k : ℕ) → k < nodes → get_or next k false ≡ is_head (arcs ++ way ∷ []) k
      each k less = at k less (cases_eq k way.to)

pub head-mark : (graph : FlowGraph) (node : ℕ) → node < graph.nodes → get_or (head_marks graph) node false ≡ is_head graph.arcs node
head-mark graph node lt = get_or-map-range_with_len (is_head graph.arcs) 0 graph.nodes node node false lt (omega arith)

pub length-heads : (graph : FlowGraph) → length (head_marks graph) ≡ graph.nodes
length-heads graph = length-map-range_with_len (is_head graph.arcs) 0 graph.nodes

-- ---- numbers that are marked

pub range-more : (n : ℕ) → range_with_len 0 (n + 1) ≡ range_with_len 0 n ++ n ∷ []
range-more n =
    sym (map-id (range_with_len 0 (n + 1))) ∙ map-range_with_len_more (λ (k : ℕ). k) 0 n n (omega arith)
    ∙ ap (λ r. r ++ n ∷ []) (map-id (range_with_len 0 n))

filter-more : (test : ℕ → Bool) (n : ℕ) → filter test (range_with_len 0 (n + 1)) ≡ filter test (range_with_len 0 n) ++ cond (test n) (n ∷ []) []
filter-more test n = ap (filter test) (range-more n) ∙ filter-append test (range_with_len 0 n) (n ∷ [])

pub filter-pushed : (test : ℕ → Bool) (n : ℕ) → test n ≡ true → filter test (range_with_len 0 (n + 1)) ≡ filter test (range_with_len 0 n) ++ n ∷ []
filter-pushed test n e = filter-more test n ∙ ap (λ b. filter test (range_with_len 0 n) ++ cond b (n ∷ []) []) e

pub filter-kept : (test : ℕ → Bool) (n : ℕ) → test n ≡ false → filter test (range_with_len 0 (n + 1)) ≡ filter test (range_with_len 0 n)
filter-kept test n e =
    filter-more test n ∙ ap (λ b. filter test (range_with_len 0 n) ++ cond b (n ∷ []) []) e ∙ append-nil (filter test (range_with_len 0 n))

filter-same : (test other : ℕ → Bool) (a n : ℕ) → ((k : ℕ) → k < a + n → test k ≡ other k) → filter test (range_with_len a n) ≡ filter other (range_with_len a n)
filter-same test other a zero same = refl
filter-same test other a (suc n) same =
    let here : test a ≡ other a = same a (omega arith) in
    let rest = filter-same test other (a + 1) n (λ k lt. same k (omega (arith, lt))) in
    λ i. cond (here i) (a ∷ rest i) (rest i)

-- those of the marks of heads are the heads
pub heads-numbered : (graph : FlowGraph) → marked_numbers graph.nodes (head_marks graph) ≡ heads_of graph
heads-numbered graph =
    filter-same (λ n. get_or (head_marks graph) n false) (is_head graph.arcs) 0 graph.nodes (λ k lt. head-mark graph k (omega (arith, lt)))
