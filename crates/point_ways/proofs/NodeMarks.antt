-- Marks of nodes ahead, ends of ways and starts of edges, by the nodes and the edges gone over so far.
use Rattle.std.proofs.Common.{◌≡◌, ◌⊎◌, ℕ, zero, suc, ◌+◌, ◌<◌, ◌≤◌, cond, List, [], ◌∷◌, ◌++◌, map, length, replicate, get_or, refl, sym, ap, subst, ◌∙◌, inl, inr, arith}
use Rattle.std.specs.Prelude.{Bool, true, false, not, slice_set, ◌==◌, ◌&&◌, ◌||◌, if◌then◌else◌}
use Rattle.std.specs.List.{filter, list_any, range_with_len}
use Rattle.std.proofs.lemmas.Bool.{cases_eq, eq-eqb, ne_eqb}
use Rattle.std.proofs.lemmas.List.{append-nil, get_or-set_other, get_or-set_same, length-set, length_push, map-append}
use Rattle.std.proofs.lemmas.List.Elements.{filter-append}
use Rattle.std.proofs.lemmas.List.FromFn.{fill_by_all, get_or-map-range_with_len, length-map-range_with_len, length-range_with_len, map-range_with_len_more}
use Rattle.std.proofs.lemmas.List.Sums.{count_by-le-length, length-filter}
use Rattle.flow_graph.specs.FlowGraph.{Arc, FlowGraph}
use Rattle.point_induction.specs.Heads.{head_marks}
use Rattle.point_induction.specs.Points.{is_head}
use Rattle.point_induction.proofs.HeadMarks.{filter-kept, filter-pushed, head-mark}
use Rattle.point_ways.specs.Parts.{all_starts, starts_at, way_ends}
use Rattle.point_ways.specs.Ways.{arrival_node, head_rank, is_led_to, leads_from_marked, marks_ahead, way_end}
use Rattle.point_ways.proofs.AheadNodes.{marks-more}

-- ---- ends of ways

pub rank-most : (graph : FlowGraph) (node : ℕ) → head_rank graph node ≤ node
rank-most graph node =
    let numbers = range_with_len 0 node in
    let kept = length-filter (is_head graph.arcs) numbers in
    let few = count_by-le-length (is_head graph.arcs) numbers in
    let all = length-range_with_len 0 node in omega (arith, kept, few, all)

pub rank-head : (graph : FlowGraph) (node : ℕ) → is_head graph.arcs node ≡ true → head_rank graph (node + 1) ≡ head_rank graph node + 1
rank-head graph node e = ap length (filter-pushed (is_head graph.arcs) node e) ∙ length_push (filter (is_head graph.arcs) (range_with_len 0 node)) node

pub rank-other : (graph : FlowGraph) (node : ℕ) → is_head graph.arcs node ≡ false → head_rank graph (node + 1) ≡ head_rank graph node
rank-other graph node e = ap length (filter-kept (is_head graph.arcs) node e)

pub ends-head : (graph : FlowGraph) (node : ℕ) (ends : List ℕ) → is_head graph.arcs node ≡ true → ends ≡ map (way_end graph) (range_with_len 0 node)
    → ends ++ arrival_node graph node ∷ [] ≡ map (way_end graph) (range_with_len 0 (node + 1))
ends-head graph node ends e made =
    (λ i. made i ++ (if (sym e i) then arrival_node graph node else node) ∷ []) ∙ sym (map-range_with_len_more (way_end graph) 0 node node (omega arith))

pub ends-other : (graph : FlowGraph) (node : ℕ) (ends : List ℕ) → is_head graph.arcs node ≡ false → ends ≡ map (way_end graph) (range_with_len 0 node)
    → ends ++ node ∷ [] ≡ map (way_end graph) (range_with_len 0 (node + 1))
ends-other graph node ends e made =
    (λ i. made i ++ (if (sym e i) then arrival_node graph node else node) ∷ []) ∙ sym (map-range_with_len_more (way_end graph) 0 node node (omega arith))

pub length-ends : (graph : FlowGraph) → length (way_ends graph) ≡ graph.nodes
length-ends graph = length-map-range_with_len (way_end graph) 0 graph.nodes

-- ---- where edges start that end at a node

pub starts-none : (a n : ℕ) → replicate n [] ≡ map (starts_at []) (range_with_len a n)
starts-none a zero = refl
starts-none a (suc n) = ap (λ rest. [] ∷ rest) (starts-none (a + 1) n)

module _ (arcs : List Arc) (way : Arc) where
  start-more : (node : ℕ) → starts_at (arcs ++ way ∷ []) node ≡ starts_at arcs node ++ cond (way.to == node) (way.from ∷ []) []
  start-more node =
      ap (map (λ (w : Arc). w.from)) (filter-append (λ (w : Arc). w.to == node) arcs (way ∷ []))
      ∙ map-append (λ (w : Arc). w.from) (filter (λ (w : Arc). w.to == node) arcs) (filter (λ (w : Arc). w.to == node) (way ∷ []))
      ∙ ap (λ (xs : List ℕ). starts_at arcs node ++ xs) (by_test (way.to == node))
    where
      by_test : (b : Bool) → map (λ (w : Arc). w.from) (cond b (way ∷ []) []) ≡ cond b (way.from ∷ []) []
      by_test true = refl
      by_test false = refl

  pub starts-next : (nodes : ℕ) (made next : List (List ℕ)) → way.to < nodes → made ≡ all_starts arcs nodes
      → next ≡ slice_set made way.to (get_or made way.to [] ++ way.from ∷ []) → next ≡ all_starts (arcs ++ way ∷ []) nodes
  starts-next nodes made next within made_is put = fill_by_all (starts_at (arcs ++ way ∷ [])) next nodes [] long each
    where
      before : length made ≡ nodes
      before = ap length made_is ∙ length-map-range_with_len (starts_at arcs) 0 nodes

      long : length next ≡ nodes
      long = ap length put ∙ length-set made way.to (get_or made way.to [] ++ way.from ∷ []) ∙ before

      old : (k : ℕ) → k < nodes → get_or made k [] ≡ starts_at arcs k
      old k less = ap (λ xs. get_or xs k []) made_is ∙ get_or-map-range_with_len (starts_at arcs) 0 nodes k k [] less (omega arith)

      at : (k : ℕ) → k < nodes → (k ≡ way.to) ⊎ (k ≡ way.to → ⊥) → get_or next k [] ≡ starts_at (arcs ++ way ∷ []) k
      at k less (inl e) =
          ap (λ xs. get_or xs k []) put ∙ ap (λ n. get_or (slice_set made way.to (get_or made way.to [] ++ way.from ∷ [])) n []) e
          ∙ get_or-set_same made way.to (get_or made way.to [] ++ way.from ∷ []) [] (subst (λ n. way.to < n) (sym before) within)
          ∙ ap (λ n. get_or made n [] ++ way.from ∷ []) (sym e)
          ∙ ap (λ xs. xs ++ way.from ∷ []) (old k less)
          ∙ ap (λ b. starts_at arcs k ++ cond b (way.from ∷ []) []) (sym (eq-eqb way.to k (sym e)))
          ∙ sym (start-more k)
      at k less (inr ne) =
          ap (λ xs. get_or xs k []) put ∙ get_or-set_other made way.to k (get_or made way.to [] ++ way.from ∷ []) [] ne
          ∙ old k less ∙ sym (append-nil (starts_at arcs k))
          ∙ ap (λ b. starts_at arcs k ++ cond b (way.from ∷ []) []) (sym (ne_eqb way.to k (λ e. ne (sym e))))
          ∙ sym (start-more k)

      each : (k : ℕ) → k < nodes → get_or next k [] ≡ starts_at (arcs ++ way ∷ []) k
      each k less = at k less (cases_eq k way.to)

pub length-starts : (arcs : List Arc) (nodes : ℕ) → length (all_starts arcs nodes) ≡ nodes
length-starts arcs nodes = length-map-range_with_len (starts_at arcs) 0 nodes

-- ---- the mark of one node more

marked-starts : (marks : List Bool) (node : ℕ) (arcs : List Arc) → list_any (λ start. get_or marks start false) (starts_at arcs node) ≡ list_any (leads_from_marked marks node) arcs
marked-starts marks node [] = refl
marked-starts marks node (way ∷ arcs) = by_test (way.to == node) (marked-starts marks node arcs)
  where
    by_test : (b : Bool) → list_any (λ start. get_or marks start false) (starts_at arcs node) ≡ list_any (leads_from_marked marks node) arcs
        → list_any (λ start. get_or marks start false) (map (λ (w : Arc). w.from) (cond b (way ∷ filter (λ (w : Arc). w.to == node) arcs) (filter (λ (w : Arc). w.to == node) arcs)))
        ≡ ((b && get_or marks way.from false) || list_any (leads_from_marked marks node) arcs)
    by_test true rest = ap (λ b. get_or marks way.from false || b) rest
    by_test false rest = rest

-- what the code tests is what the definition says
pub led-by_starts : (graph : FlowGraph) (source node : ℕ) (marks : List Bool) (starts : List ℕ) (head some : Bool) → node < graph.nodes
    → starts ≡ get_or (all_starts graph.arcs graph.nodes) node [] → head ≡ get_or (head_marks graph) node false → some ≡ list_any (λ start. get_or marks start false) starts
    → (node == source || (not head && some)) ≡ is_led_to graph.arcs source marks node
led-by_starts graph source node marks starts head some lt starts_are head_is some_is =
    let here : starts ≡ starts_at graph.arcs node =
    starts_are ∙ get_or-map-range_with_len (starts_at graph.arcs) 0 graph.nodes node node [] lt (omega arith) in
    let test : head ≡ is_head graph.arcs node = head_is ∙ head-mark graph node lt in
    let leads : some ≡ list_any (leads_from_marked marks node) graph.arcs =
    some_is ∙ ap (list_any (λ start. get_or marks start false)) here ∙ marked-starts marks node graph.arcs in
    λ i. node == source || (not (test i) && leads i)

pub ahead-next : (graph : FlowGraph) (source node : ℕ) (marks next : List Bool) (led : Bool) → marks ≡ marks_ahead graph.arcs source node → led ≡ is_led_to graph.arcs source marks node
    → next ≡ marks ++ led ∷ [] → next ≡ marks_ahead graph.arcs source (node + 1)
ahead-next graph source node marks next led made is pushed =
    let more : suc node ≡ node + 1 = omega arith in
    pushed ∙ ap (λ b. marks ++ b ∷ []) is ∙ ap (λ ms. ms ++ is_led_to graph.arcs source ms node ∷ []) made ∙ sym (marks-more graph.arcs source node)
    ∙ ap (marks_ahead graph.arcs source) more
