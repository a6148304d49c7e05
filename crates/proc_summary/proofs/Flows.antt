-- The flow of a procedure fits, and holds of activations.
use Rattle.std.proofs.Common.{◌≡◌, ℕ, ◌+◌, ◌-◌, ◌<◌, List, [], ◌∷◌, ◌++◌, length, map, Option, Some, refl, sym, ap, subst, ◌∙◌, arith, length-append}
use Rattle.std.specs.Prelude.{All, slice_get, unwrap_or}
use Rattle.std.specs.List.{AllByRecursion, flat_map, range_with_len}
use Rattle.std.proofs.lemmas.List.{length-replicate, map-append, map-id}
use Rattle.std.proofs.lemmas.List.Elements.{All-from_recursion, recursion_from_All}
use Rattle.items.proofs.Each.{each-append, each-get, each-map}
use Rattle.transition_formula.specs.Composition.{identity_of}
use Rattle.transition_formula.specs.Transition.{Transition}
use Rattle.path_expr.specs.declared.cell.Cell.{Cell}
use Rattle.path_expr.specs.declared.cell.Cell.TheVariants as found
use Rattle.polyhedra.specs.Vocabulary.{Vocabulary}
use Rattle.polyhedra.proofs.Lists.{each-filter}
use Rattle.syntax_tree.specs.declared.program.Proc.{Proc}
use Rattle.syntax_tree.specs.declared.program.Program.{Program}
use Rattle.syntax_tree.specs.Code.{code_of}
use Rattle.syntax_tree.specs.Value.{State}
use Rattle.syntax_tree.specs.WellFormed.{IsWellFormed, width_of}
use Rattle.execution.specs.Execution.{Returns}
use Rattle.flow_graph.specs.declared.parts.Act.{Act}
use Rattle.flow_graph.specs.declared.parts.Act.TheVariants as act
use Rattle.flow_graph.specs.declared.parts.CheckNode.{CheckNode}
use Rattle.flow_graph.specs.declared.parts.Edge.{Edge}
use Rattle.flow_graph.specs.declared.parts.Graph.{Graph}
use Rattle.flow_graph.specs.FlowGraph.{Arc, CheckPlace, FlowGraph, exit_of}
use Rattle.flow_graph.specs.Plain.{arc_of, check_of, statement_of_act}
use Rattle.flow_graph.specs.Walks.{Stride, Walks}
use Rattle.point_induction.specs.Points.{is_head, points_of}
use Rattle.leaf_cases.specs.Conditions.{AreKnown, KnownCalls}
use Rattle.leaf_cases.specs.Summaries.{AreMet, KnowsCallee}
use Rattle.vocabularies.specs.Ends.{full_of}
use Rattle.vocabularies.specs.Procs.{IsProcOf}
use Rattle.checked_tree.specs.Graph.{vocabulary_at}
use Rattle.checked_tree.specs.Law.{AreFittedCells, FitsCell, HoldsCell}
use Rattle.proc_summary.specs.declared.stop.NodeFormula.{NodeFormula}
use Rattle.proc_summary.specs.Subject.{call_node, call_nodes, check_nodes, graph_by, own_graph, subject_of}
use Rattle.proc_summary.specs.Flow.{columns_of, flow_in, formula_of, stop_at}
use Rattle.proc_summary.specs.Claims.{FitsFlow, FitsIf, FitsStop, FlowHolds, HoldsIf, HoldsOfWalks, IsBetweenStates, KnowsCallees, StopHolds, nodes_of}
use Rattle.proc_summary.specs.Parts.{IsGraphOf, act_stop, call_stop, check_stop, graph_flow}
use Rattle.proc_summary.proofs.Graphs.{arcs-are, flat-arcs, full-columns, graph-is, nodes-are, plain-is, vocabulary-is}
use Rattle.proc_summary.proofs.CratesBelow.{identity-fits, identity-holds, met_edges_are_known, range-below, some_at}

-- ---- the same flow by the graph and by the subject

nodes-map : {X : Type 0} (stop : X → NodeFormula) (node : X → ℕ) → ((x : X) → (stop x).node ≡ node x) → (xs : List X) → nodes_of (map stop xs) ≡ map node xs
nodes-map stop node same [] = refl
nodes-map stop node same (x ∷ xs) = λ i. same x i ∷ nodes-map stop node same xs i

module _ (columns : ℕ) (cells : List (Cell Transition)) where
  act-stops : (from : ℕ) (a : Act) → act_stop columns cells from a ≡ map (stop_at columns cells) (call_node from (statement_of_act a))
  act-stops from (act.Guard cond) = refl
  act-stops from (act.Set col value) = refl
  act-stops from (act.Any col) = refl
  act-stops from (act.Call proc args into) = refl

  map-flat : {X : Type 0} (F : X → List ℕ) (xs : List X) → map (stop_at columns cells) (flat_map F xs) ≡ flat_map (λ x. map (stop_at columns cells) (F x)) xs
  map-flat F [] = refl
  map-flat F (x ∷ xs) = map-append (stop_at columns cells) (F x) (flat_map F xs) ∙ ap (λ more. map (stop_at columns cells) (F x) ++ more) (map-flat F xs)

  call-stops : (edges : List Edge) → flat_map (call_stop columns cells) edges ≡ map (stop_at columns cells) (call_nodes (map arc_of edges))
  call-stops edges =
      flat-arcs (call_stop columns cells) (λ (way : Arc). map (stop_at columns cells) (call_node way.from way.act)) (λ edge. act-stops edge.from edge.act) edges
      ∙ sym (map-flat (λ (way : Arc). call_node way.from way.act) (map arc_of edges))

  check-stops : (checks : List CheckNode) → map (check_stop columns cells) checks ≡ map (stop_at columns cells) (check_nodes (map check_of checks))
  check-stops [] = refl
  check-stops (check ∷ checks) = ap (λ more. check_stop columns cells check ∷ more) (check-stops checks)

module _ (program : Program) (proc : ℕ) (p : Proc) (known : List (Option Transition)) (is : IsProcOf program proc p) (g : Graph) (of : IsGraphOf program proc g) where
  checks-are : map check_of g.checks ≡ (own_graph p).checks
  checks-are = ap (λ (f : FlowGraph). f.checks) (plain-is program proc p known is g of)

  some-nodes : 0 < (own_graph p).nodes
  some-nodes = omega arith

  pub some-graph : 0 < g.nodes
  some-graph = subst (λ n. 0 < n) (sym (nodes-are program proc p known is g of)) some-nodes

  columns-of : (formed : IsWellFormed program) (are : AreKnown program known) → columns_of (subject_of program p known) ≡ width_of program p
  columns-of formed are = ap (λ (voc : Vocabulary). voc.columns) (vocabulary-is program proc p known is formed are 0 some-nodes) ∙ full-columns program p

  exit-is : g.nodes - 1 ≡ exit_of (code_of p.body)
  exit-is = let same = nodes-are program proc p known is g of in omega (arith, same)

  pub flow-is : (formed : IsWellFormed program) (are : AreKnown program known) (cells : List (Cell Transition)) → graph_flow (width_of program p) cells g ≡ flow_in (subject_of program p known) cells
  flow-is formed are cells =
      let wide = sym (columns-of formed are) in
      let checks = check-stops (width_of program p) cells g.checks ∙ (λ i. map (stop_at (wide i) cells) (check_nodes (checks-are i))) in
      let calls = call-stops (width_of program p) cells g.edges ∙ (λ i. map (stop_at (wide i) cells) (call_nodes (arcs-are program proc p known is g of i))) in
      let graphs = plain-is program proc p known is g of in
      λ i. record { exit = stop_at (wide i) cells (exit-is i); checks = checks i; calls = calls i; points = map (stop_at (wide i) cells) (points_of (graphs i)) }

  -- ---- the nodes that count are nodes

  pub exit-within : (formed : IsWellFormed program) → exit_of (code_of p.body) < (own_graph p).nodes
  exit-within formed = omega arith

  checks-within : AllByRecursion (λ node. node < (own_graph p).nodes) (check_nodes (own_graph p).checks)
  checks-within =
      subst (λ (all : List CheckPlace). AllByRecursion (λ node. node < (own_graph p).nodes) (check_nodes all)) checks-are
      (within-each g.checks (subst (λ n. AllByRecursion (λ (check : CheckNode). check.node < n) g.checks) (nodes-are program proc p known is g of) (recursion_from_All (λ (check : CheckNode). check.node < g.nodes) g.checks of.checks)))
    where
      within-each : (checks : List CheckNode) → AllByRecursion (λ (check : CheckNode). check.node < (own_graph p).nodes) checks → AllByRecursion (λ node. node < (own_graph p).nodes) (check_nodes (map check_of checks))
      within-each [] h = tt
      within-each (check ∷ checks) h = (h.0, within-each checks h.1)

  calls-within : AllByRecursion (λ node. node < (own_graph p).nodes) (call_nodes (own_graph p).arcs)
  calls-within =
      subst (λ (all : List Arc). AllByRecursion (λ node. node < (own_graph p).nodes) (call_nodes all)) (arcs-are program proc p known is g of)
      (within-each g.edges (subst (λ n. AllByRecursion (λ (edge : Edge). (edge.from < n) × (edge.to < n)) g.edges) (nodes-are program proc p known is g of) (recursion_from_All (λ (edge : Edge). (edge.from < g.nodes) × (edge.to < g.nodes)) g.edges of.edges)))
    where
      one : (from : ℕ) (a : Act) → from < (own_graph p).nodes → AllByRecursion (λ node. node < (own_graph p).nodes) (call_node from (statement_of_act a))
      one from (act.Guard cond) lt = tt
      one from (act.Set col value) lt = tt
      one from (act.Any col) lt = tt
      one from (act.Call q args into) lt = (lt, tt)

      within-each : (edges : List Edge) → AllByRecursion (λ (edge : Edge). (edge.from < (own_graph p).nodes) × (edge.to < (own_graph p).nodes)) edges → AllByRecursion (λ node. node < (own_graph p).nodes) (call_nodes (map arc_of edges))
      within-each [] h = tt
      within-each (edge ∷ edges) h = each-append (λ node. node < (own_graph p).nodes) (call_node edge.from (statement_of_act edge.act)) (call_nodes (map arc_of edges)) (one edge.from edge.act h.0.0) (within-each edges h.1)

  points-within : AllByRecursion (λ node. node < (own_graph p).nodes) (points_of (own_graph p))
  points-within = (
    some-nodes,
    each-filter (λ node. node < (own_graph p).nodes) (is_head (own_graph p).arcs) (range_with_len 0 (own_graph p).nodes) (range-below 0 (own_graph p).nodes (own_graph p).nodes (omega arith)),
  )

  module _ (formed : IsWellFormed program) (are : AreKnown program known) (cells : List (Cell Transition)) where
    abbrev width : ℕ
    width = columns_of (subject_of program p known)

    wide : width ≡ width_of program p
    wide = columns-of formed are

    -- ---- the flow fits

    identity-between : IsBetweenStates width (identity_of width)
    identity-between = record { from = refl; to = refl; fits = identity-fits width; fitted = refl }

    cell-fits : (voc to : Vocabulary) (cell : Cell Transition) → voc.columns ≡ width → to.columns ≡ width → FitsCell voc to cell → FitsIf width (formula_of width cell)
    cell-fits voc to found.Zero e f h = tt
    cell-fits voc to found.One e f h = identity-between
    cell-fits voc to (found.Item t) e f h = record {
      from = h.between.from_is ∙ e;
      to = h.between.to_is ∙ f;
      fits = h.between.fits;
      fitted = h.fitted;
    }

    voc-wide : (node : ℕ) → node < (own_graph p).nodes → (vocabulary_at (graph_by (subject_of program p known)) node).columns ≡ width
    voc-wide node lt = ap (λ (voc : Vocabulary). voc.columns) (vocabulary-is program proc p known is formed are node lt) ∙ full-columns program p ∙ sym wide

    module _ (fitted : AreFittedCells (graph_by (subject_of program p known)) 0 cells) where
      there : (node : ℕ) → node < (own_graph p).nodes → (cell : Cell Transition) × (slice_get cells node ≡ Some cell)
      there node lt = some_at cells node (let long = fitted.one_each in let all = length-replicate (own_graph p).nodes (full_of program p) in subst (λ n. node < n) (sym (long ∙ all)) lt)

      stop-fits : (node : ℕ) → node < (own_graph p).nodes → FitsStop width (stop_at width cells node)
      stop-fits node lt =
          let here = there node lt in
          subst (λ (o : Option (Cell Transition)). FitsIf width (formula_of width (unwrap_or o found.Zero))) (sym here.1)
          (cell-fits (vocabulary_at (graph_by (subject_of program p known)) 0) (vocabulary_at (graph_by (subject_of program p known)) node) here.0 (voc-wide 0 some-nodes) (voc-wide node lt) (fitted.fits node here.0 here.1))

      stops-fit : (nodes : List ℕ) → AllByRecursion (λ node. node < (own_graph p).nodes) nodes → AllByRecursion (FitsStop width) (map (stop_at width cells) nodes)
      stops-fit nodes within = each-map (λ node. node < (own_graph p).nodes) (FitsStop width) (stop_at width cells) stop-fits nodes within

      pub flow-fits : FitsFlow program p (flow_in (subject_of program p known) cells)
      flow-fits = record {
        exit_is = refl;
        checks_are = nodes-map (stop_at width cells) (λ node. node) (λ node. refl) (check_nodes (own_graph p).checks) ∙ map-id (check_nodes (own_graph p).checks);
        calls_are = nodes-map (stop_at width cells) (λ node. node) (λ node. refl) (call_nodes (own_graph p).arcs) ∙ map-id (call_nodes (own_graph p).arcs);
        points_are = nodes-map (stop_at width cells) (λ node. node) (λ node. refl) (points_of (own_graph p)) ∙ map-id (points_of (own_graph p));
        exit = subst (λ n. FitsStop n (stop_at width cells (exit_of (code_of p.body)))) wide (stop-fits (exit_of (code_of p.body)) (exit-within formed));
        checks = subst (λ n. All (FitsStop n) (map (stop_at width cells) (check_nodes (own_graph p).checks))) wide (All-from_recursion (FitsStop width) (map (stop_at width cells) (check_nodes (own_graph p).checks)) (stops-fit (check_nodes (own_graph p).checks) checks-within));
        calls = subst (λ n. All (FitsStop n) (map (stop_at width cells) (call_nodes (own_graph p).arcs))) wide (All-from_recursion (FitsStop width) (map (stop_at width cells) (call_nodes (own_graph p).arcs)) (stops-fit (call_nodes (own_graph p).arcs) calls-within));
        points = subst (λ n. All (FitsStop n) (map (stop_at width cells) (points_of (own_graph p)))) wide (All-from_recursion (FitsStop width) (map (stop_at width cells) (points_of (own_graph p))) (stops-fit (points_of (own_graph p)) points-within));
      }

      -- ---- the flow holds

      module _ (knows : KnowsCallees p known) (met : AreMet program known) (hold : HoldsOfWalks program p known 0 cells) where
        walk-known : (node : ℕ) (before : State) (path : List Stride) (last : ℕ) (final : State)
            → Walks (Returns program) (length program.globals) (own_graph p).arcs node before path last final
            → Walks (KnownCalls known) (length program.globals) (own_graph p).arcs node before path last final
        walk-known node before [] last final walk = walk
        walk-known node before (stride ∷ path) last final (way, is_way, from, relates, later) = (
          way,
          is_way,
          from,
          met_edges_are_known program known are met way.act (each-get (λ (w : Arc). KnowsCallee known w.act) (own_graph p).arcs stride.edge way knows is_way) before stride.state relates,
          walk-known way.to stride.state path last final later,
        )

        cell-holds : (cell : Cell Transition) (before after : State) → length before ≡ width → HoldsCell cell before after → HoldsIf (formula_of width cell) before after
        cell-holds found.Zero before after long h = h
        cell-holds found.One before after long h = identity-holds width before after h long
        cell-holds (found.Item t) before after long h = h

        stop-holds : (node : ℕ) → node < (own_graph p).nodes → StopHolds program proc (stop_at width cells node)
        stop-holds node lt globals args final walk =
            let before = globals ++ (args ++ walk.others) in
            let same : walk.callee ≡ p = some-one walk.is is in
            let all = length-append globals (args ++ walk.others) in
            let both = length-append args walk.others in
            let own = walk.columns ∙ ap (λ (q : Proc). length q.columns + 1) same in
            let globals_are = walk.width in
            let long : length before ≡ width_of program p = omega (arith, all, both, own, globals_are) in
            let walks = subst (λ (f : FlowGraph). Walks (Returns program) (length program.globals) f.arcs 0 before walk.path node final) (graph-is program proc p known is) walk.walk in
            let here = there node lt in
            subst (λ (o : Option (Cell Transition)). HoldsIf (formula_of width (unwrap_or o found.Zero)) before final) (sym here.1)
            (cell-holds here.0 before final (long ∙ sym wide) (hold node here.0 here.1 walk.path before final long (walk-known 0 before walk.path node final walks)))
          where
            some-one : {X : Type 0} {o : Option X} {x y : X} → o ≡ Some x → o ≡ Some y → x ≡ y
            some-one e f = cc

        stops-hold : (nodes : List ℕ) → AllByRecursion (λ node. node < (own_graph p).nodes) nodes → All (StopHolds program proc) (map (stop_at width cells) nodes)
        stops-hold nodes within =
            All-from_recursion (StopHolds program proc) (map (stop_at width cells) nodes)
            (each-map (λ node. node < (own_graph p).nodes) (StopHolds program proc) (stop_at width cells) stop-holds nodes within)

        pub flow-holds : FlowHolds program proc (flow_in (subject_of program p known) cells)
        flow-holds = record {
          exit = stop-holds (exit_of (code_of p.body)) (exit-within formed);
          checks = stops-hold (check_nodes (own_graph p).checks) checks-within;
          calls = stops-hold (call_nodes (own_graph p).arcs) calls-within;
          points = stops-hold (points_of (own_graph p)) points-within;
        }
