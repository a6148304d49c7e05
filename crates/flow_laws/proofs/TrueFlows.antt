-- Every end of the stated flow of a procedure and of its stated summary is true, whatever the answers
-- are.
--     flow-true, flows-true             the flow fits, tells the ways, and holds
--     summary-true, summaries-true      the summary may be known, and is met
use Rattle.std.proofs.Common.{◌≡◌, ℕ, ◌+◌, ◌<◌, List, [], ◌∷◌, ◌++◌, length, map, Option, Some, None, refl, sym, ap, subst, ◌∙◌, arith, length-append}
use Rattle.std.specs.Prelude.{All, ◌↔◌, slice_get, unwrap_or}
use Rattle.std.proofs.lemmas.List.{length-replicate}
use Rattle.std.proofs.lemmas.List.Elements.{All-from_recursion}
use Rattle.std.proofs.lemmas.Option.{slice_get_within}
use Rattle.items.proofs.Each.{each-any, each-get, each-map}
use Rattle.path_expr.specs.declared.cell.Cell.{Cell}
use Rattle.path_expr.specs.declared.cell.Cell.TheVariants as found
use Rattle.path_expr.specs.declared.link.Link.{Link}
use Rattle.path_expr.specs.Elimination.{path_at}
use Rattle.path_expr.specs.PathExpr.{PathExpr, Zero, One, Edge, Seq, Join, Star}
use Rattle.path_expr.specs.Walks.{IsWalk}
use Rattle.path_expr.proofs.WayWalks.{zero_is_no_walk}
use Rattle.syntax_tree.specs.declared.program.Proc.{Proc}
use Rattle.syntax_tree.specs.declared.program.Program.{Program}
use Rattle.syntax_tree.specs.Code.{code_of}
use Rattle.syntax_tree.specs.Value.{State}
use Rattle.syntax_tree.specs.WellFormed.{IsWellFormed, width_of}
use Rattle.execution.specs.Execution.{Returns}
use Rattle.transition_formula.specs.Transition.{Transition}
use Rattle.flow_graph.specs.FlowGraph.{Arc, FlowGraph, exit_of}
use Rattle.flow_graph.specs.Walks.{CallMeaning, Stride, Walks}
use Rattle.flow_graph.proofs.Within.{arcs_within}
use Rattle.point_induction.specs.Points.{points_of}
use Rattle.leaf_cases.specs.Conditions.{AreKnown, KnownCalls}
use Rattle.leaf_cases.specs.Summaries.{AreMet, KnowsCallee}
use Rattle.posing.specs.Posing.{Always, Done}
use Rattle.posing.proofs.Paths.{always_any, always_bind, always_weaker}
use Rattle.posing.proofs.UnderAnswers.{passing-always}
use Rattle.recurrence.proofs.StarLaws.{always_both}
use Rattle.vocabularies.specs.Ends.{full_of}
use Rattle.vocabularies.specs.Procs.{IsProcOf}
use Rattle.checked_tree.specs.Evaluation.{Made, cell_of, cells_of, evaluated_cells, evaluation}
use Rattle.checked_tree.proofs.Cells.{cells-found, cells-one_each}
use Rattle.proc_summary.specs.declared.stop.Flow.{Flow}
use Rattle.proc_summary.specs.declared.stop.NodeFormula.{NodeFormula}
use Rattle.proc_summary.specs.Claims.{FitsStop, HoldsIf, KnowsCallees, StopHolds, nodes_of}
use Rattle.proc_summary.specs.Flow.{cells_from, columns_of, flow_from, flow_in, formula_at, formula_of, stop_at}
use Rattle.proc_summary.specs.Subject.{Subject, call_nodes, check_nodes, graph_by, link_of, own_graph, subject_of}
use Rattle.proc_summary.specs.Summary.{ends_of, summary_from}
use Rattle.proc_summary.proofs.CratesBelow.{all_get, met_edges_are_known, some_at}
use Rattle.proc_summary.proofs.Graphs.{graph-is}
use Rattle.proc_summary.proofs.ExitSummaries.{summary-known, summary-met}
use Rattle.newton_rounds.proofs.LeafFits.{links-inside}
use Rattle.newton_rounds.proofs.Unfoldings.{AreTrueAt, IsCanonicalExit, IsTold, cells-true, summary-told}
use Rattle.newton_rounds.proofs.Widths.{columns-are, some-nodes}
use Rattle.newton_rounds.proofs.PairLists.{some-one}
use Rattle.flow_laws.specs.Laws.{FlowsAreTrue, IsTrueFlow, IsTrueSummary, LeadsTo, SummariesAreTrue, TellsWay, summary_by_flow}

-- ---- lists of stops

nodes-are : (columns : ℕ) (cells : List (Cell Transition)) (nodes : List ℕ) → nodes_of (map (stop_at columns cells) nodes) ≡ nodes
nodes-are columns cells [] = refl
nodes-are columns cells (node ∷ nodes) = ap (λ more. node ∷ more) (nodes-are columns cells nodes)

-- what is so of the stop at each node
stops-all : (P : NodeFormula → Type 0) (columns : ℕ) (cells : List (Cell Transition)) → ((node : ℕ) → P (stop_at columns cells node)) → (nodes : List ℕ) → All P (map (stop_at columns cells) nodes)
stops-all P columns cells tells nodes =
    All-from_recursion P (map (stop_at columns cells) nodes)
    (each-map (λ (node : ℕ). Unit {0}) P (stop_at columns cells) (λ node any. tells node) nodes (each-any (λ (node : ℕ). Unit {0}) (λ node. tt) nodes))

-- ---- cells and paths

-- nothing stands at a node exactly where its path is Zero
abbrev IsZeroBy : PathExpr → Cell Transition → Type 0
IsZeroBy path cell = (cell ≡ found.Zero → path ≡ Zero) × (path ≡ Zero → cell ≡ found.Zero)

zero-by : (made : Made) (path : PathExpr) → IsZeroBy path (cell_of made path)
zero-by made Zero = (λ e. refl, λ e. refl)
zero-by made One = (λ e. absurd (cc e), λ e. absurd (cc e))
zero-by made (Edge n) = (λ e. absurd (cc e), λ e. absurd (cc e))
zero-by made (Seq a b) = (λ e. absurd (cc e), λ e. absurd (cc e))
zero-by made (Join a b) = (λ e. absurd (cc e), λ e. absurd (cc e))
zero-by made (Star a) = (λ e. absurd (cc e), λ e. absurd (cc e))

formula-none : (columns : ℕ) (cell : Cell Transition) → formula_of columns cell ≡ None → cell ≡ found.Zero
formula-none columns found.Zero e = refl
formula-none columns found.One e = absurd (cc e)
formula-none columns (found.Item f) e = absurd (cc e)

module _ (program : Program) (proc : ℕ) (p : Proc) (known : List (Option Transition)) (is : IsProcOf program proc p) (formed : IsWellFormed program) (are : AreKnown program known) where
  abbrev nodes : ℕ
  nodes = (own_graph p).nodes

  abbrev links : List Link
  links = map link_of (own_graph p).arcs

  count : length (graph_by (subject_of program p known)).nodes ≡ nodes
  count = length-replicate nodes (full_of program p)

  -- as many cells as nodes, each Zero exactly where its path is
  record AreByPaths (cells : List (Cell Transition)) : Type 0 where
    each : length cells ≡ nodes
    zero_by : (node : ℕ) (cell : Cell Transition) → slice_get cells node ≡ Some cell → IsZeroBy (path_at nodes links 0 node) cell

  cells-by-paths : Always AreByPaths (cells_from (subject_of program p known) 0)
  unfolding cells_from evaluated_cells
  cells-by-paths =
      let g = graph_by (subject_of program p known) in
      always_bind (λ made. Unit {0}) AreByPaths (evaluation g 0) (λ made. Done (cells_of g 0 made)) (always_any (λ made. Unit {0}) (evaluation g 0) (λ made. tt))
      (λ made any. record {
        each = cells-one_each g 0 made ∙ count;
        zero_by = subst (λ n. (node : ℕ) (cell : Cell Transition) → slice_get (cells_of g 0 made) node ≡ Some cell → IsZeroBy (path_at n links 0 node) cell) count
            (cells-found g 0 (λ node cell. IsZeroBy (path_at (length g.nodes) g.links 0 node) cell) made (λ node lt. zero-by made (path_at (length g.nodes) g.links 0 node)));
      })

  -- ---- walks end at nodes

  link-within : (from to : ℕ) (k : ℕ) → slice_get links k ≡ Some (record { from = from; to = to }) → to < nodes
  link-within from to k e = (all_get (λ (link : Link). (link.from < nodes) × (link.to < nodes)) links k (record { from = from; to = to }) (links-inside program proc p known is formed are) e).1

  word-within : (edges : List ℕ) (from to : ℕ) → from < nodes → IsWalk links from to edges → to < nodes
  word-within [] from to lt walk = subst (λ n. n < nodes) walk lt
  word-within (k ∷ edges) from to lt (next, leads, later) = word-within edges next to (link-within from next k leads) later

  path-within : (calls : CallMeaning) (path : List Stride) (node last : ℕ) (before after : State) → node < nodes → Walks calls (length program.globals) (own_graph p).arcs node before path last after → last < nodes
  path-within calls [] node last before after lt walk = subst (λ n. n < nodes) walk.0 lt
  path-within calls (stride ∷ path) node last before after lt (way, is_way, from, relates, later) =
      path-within calls path way.to last stride.state after (arcs_within (code_of p.body) stride.edge way is_way).1 later

  -- ---- the flow

  abbrev width : ℕ
  width = width_of program p

  abbrev s : Subject
  s = subject_of program p known

  module _ (cells : List (Cell Transition)) (true_cells : AreTrueAt program proc p known is formed are 0 cells) (by : AreByPaths cells) where
    wide : columns_of s ≡ width
    wide = columns-are program proc p formed is known are

    stop-fits : (node : ℕ) → FitsStop width (stop_at (columns_of s) cells node)
    stop-fits node = subst (λ n. FitsStop width (stop_at n cells node)) (sym wide) (true_cells.fit node)

    -- ---- the ways

    stop-way : (node : ℕ) → TellsWay p (stop_at (columns_of s) cells node)
    stop-way node = go (slice_get cells node) refl
      where
        go : (o : Option (Cell Transition)) → slice_get cells node ≡ o → (formula_of (columns_of s) (unwrap_or o found.Zero) ≡ None) ↔ ((edges : List ℕ) → ¬ LeadsTo p node edges)
        go None e = (
          λ none edges walk. let lt = word-within edges 0 node (some-nodes program proc p formed is) walk in let there = some_at cells node (subst (λ n. node < n) (sym by.each) lt) in absurd (cc (sym e ∙ there.1)),
          λ none. refl,
        )
        go (Some cell) e =
            let lt = subst (λ n. node < n) by.each (slice_get_within cells node cell e) in
            let zero = zero_is_no_walk nodes links 0 node (links-inside program proc p known is formed are) (some-nodes program proc p formed is) lt in
            let same = by.zero_by node cell e in (
              λ none. zero.0 (same.0 (formula-none (columns_of s) cell none)),
              λ none. ap (formula_of (columns_of s)) (same.1 (zero.1 none)),
            )

    -- ---- what holds

    module _ (knows : KnowsCallees p known) (met : AreMet program known) where
      walk-known : (node : ℕ) (before : State) (path : List Stride) (last : ℕ) (final : State)
          → Walks (Returns program) (length program.globals) (own_graph p).arcs node before path last final
          → Walks (KnownCalls known) (length program.globals) (own_graph p).arcs node before path last final
      walk-known node before [] last final walk = walk
      walk-known node before (stride ∷ path) last final (way, is_way, from, relates, later) = (
        way,
        is_way,
        from,
        met_edges_are_known program known are met way.act (each-get (λ (w : Arc). KnowsCallee known w.act) (own_graph p).arcs stride.edge way knows is_way) before stride.state relates,
        walk-known way.to stride.state path last final later,
      )

      stop-holds : (node : ℕ) → StopHolds program proc (stop_at (columns_of s) cells node)
      stop-holds node globals args final walk =
          let before = globals ++ (args ++ walk.others) in
          let same : walk.callee ≡ p = some-one walk.is is in
          let all = length-append globals (args ++ walk.others) in
          let both = length-append args walk.others in
          let own = walk.columns ∙ ap (λ (q : Proc). length q.columns + 1) same in
          let globals_are = walk.width in
          let long : length before ≡ width = omega (arith, all, both, own, globals_are) in
          let walks = subst (λ (f : FlowGraph). Walks (Returns program) (length program.globals) f.arcs 0 before walk.path node final) (graph-is program proc p known is) walk.walk in
          let within = path-within (Returns program) walk.path 0 node before final (some-nodes program proc p formed is) walks in
          subst (λ n. HoldsIf (formula_at n cells node) before final) (sym wide)
          (true_cells.hold node walk.path before final within long (walk-known 0 before walk.path node final walks))

    flow-is-true : IsTrueFlow program proc p known (flow_in s cells)
    flow-is-true = record {
      fits = record {
        exit_is = refl;
        checks_are = nodes-are (columns_of s) cells (check_nodes (own_graph p).checks);
        calls_are = nodes-are (columns_of s) cells (call_nodes (own_graph p).arcs);
        points_are = nodes-are (columns_of s) cells (points_of (own_graph p));
        exit = stop-fits (exit_of (code_of p.body));
        checks = stops-all (FitsStop width) (columns_of s) cells stop-fits (check_nodes (own_graph p).checks);
        calls = stops-all (FitsStop width) (columns_of s) cells stop-fits (call_nodes (own_graph p).arcs);
        points = stops-all (FitsStop width) (columns_of s) cells stop-fits (points_of (own_graph p));
      };
      ways = record {
        exit = stop-way (exit_of (code_of p.body));
        checks = stops-all (TellsWay p) (columns_of s) cells stop-way (check_nodes (own_graph p).checks);
        calls = stops-all (TellsWay p) (columns_of s) cells stop-way (call_nodes (own_graph p).arcs);
        points = stops-all (TellsWay p) (columns_of s) cells stop-way (points_of (own_graph p));
      };
      holds = λ knows met. record {
        exit = stop-holds knows met (exit_of (code_of p.body));
        checks = stops-all (StopHolds program proc) (columns_of s) cells (stop-holds knows met) (check_nodes (own_graph p).checks);
        calls = stops-all (StopHolds program proc) (columns_of s) cells (stop-holds knows met) (call_nodes (own_graph p).arcs);
        points = stops-all (StopHolds program proc) (columns_of s) cells (stop-holds knows met) (points_of (own_graph p));
      };
    }

    exit-canonical : IsCanonicalExit (flow_in s cells).exit.formula
    exit-canonical = subst (λ n. IsCanonicalExit (formula_at n cells (exit_of (code_of p.body)))) (sym wide) (true_cells.canonical (exit_of (code_of p.body)))

  -- a true flow whose exit has canonical rows
  abbrev IsFineFlow : Flow → Type 0
  IsFineFlow flow = IsTrueFlow program proc p known flow × IsCanonicalExit flow.exit.formula

  flow-fine : Always IsFineFlow (flow_from s)
  unfolding flow_from
  flow-fine =
      always_bind (λ cells. AreTrueAt program proc p known is formed are 0 cells × AreByPaths cells) IsFineFlow (cells_from s 0) (λ cells. Done (flow_in s cells))
      (always_both (AreTrueAt program proc p known is formed are 0) AreByPaths (cells_from s 0) (cells-true program proc p known is formed are 0 (some-nodes program proc p formed is)) cells-by-paths)
      (λ cells h. (flow-is-true cells h.0 h.1, exit-canonical cells h.0 h.1))

  pub flow-true : Always (IsTrueFlow program proc p known) (flow_from s)
  flow-true = always_weaker IsFineFlow (IsTrueFlow program proc p known) (flow_from s) (λ flow h. h.0) flow-fine

  -- ---- the summary

  summary-is-true : (flow : Flow) → IsTrueFlow program proc p known flow → (f : Transition) → IsTold program proc p known is formed are flow.exit.formula f → IsTrueSummary program proc p known f
  summary-is-true flow h f told = record {
    fits = summary-known program proc p formed is f told.between;
    met = λ knows met. summary-met program proc p formed is flow f h.fits (h.holds knows met) told.covers;
  }

  pub summary-true : Always (IsTrueSummary program proc p known) (summary_by_flow program p known)
  summary-true =
      always_bind IsFineFlow (IsTrueSummary program proc p known) (flow_from s) (λ flow. summary_from (ends_of program p) flow.exit.formula) flow-fine
      (λ flow h. always_weaker (IsTold program proc p known is formed are flow.exit.formula) (IsTrueSummary program proc p known) (summary_from (ends_of program p) flow.exit.formula)
      (summary-is-true flow h.0) (summary-told program proc p known is formed are flow.exit.formula h.0.fits.exit h.1))

pub flows-true : FlowsAreTrue
flows-true program proc p known formed is are = passing-always (IsTrueFlow program proc p known) (flow_from (subject_of program p known)) (flow-true program proc p known is formed are)

pub summaries-true : SummariesAreTrue
summaries-true program proc p known formed is are = passing-always (IsTrueSummary program proc p known) (summary_by_flow program p known) (summary-true program proc p known is formed are)
