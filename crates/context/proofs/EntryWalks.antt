-- An activation on a stack from `main` is at the end of a walk of the entry graph, along which the
-- leaves hold of how it began.
use mathlib.Core.Path.{transport}
use Rattle.std.proofs.Common.{◌≡◌, inl, ℕ, zero, suc, ◌+◌, ◌<◌, ◌^◌, ℤ, pos, length, map, take, List, [], ◌∷◌, ◌++◌, Option, Some, refl, sym, ap, subst, ◌∙◌, append_assoc, append-nil, length-append, arith}
use Rattle.std.specs.Prelude.{◌==◌, Bool, true, false, if◌then◌else◌, nat_lt, slice_get, unwrap_or}
use Rattle.std.specs.Option.{option_map}
use Rattle.std.specs.List.{range_with_len}
use Rattle.std.proofs.lemmas.Bool.{eq-eqb}
use Rattle.std.proofs.lemmas.List.{length-map, take_at}
use Rattle.std.proofs.lemmas.List.Elements.{recursion_from_All}
use Rattle.std.proofs.lemmas.List.FromFn.{length-map-range_with_len}
use Rattle.std.proofs.lemmas.Option.{slice_get-map, slice_get_within}
use Rattle.items.proofs.Each.{each-get}
use Rattle.linear_terms.specs.Polynomial.{constant_of}
use Rattle.linear_terms.specs.Value.{Valuation, value_of}
use Rattle.path_expr.specs.declared.cell.Cell.{Cell}
use Rattle.path_expr.specs.declared.cell.Cell.TheVariants as known
use Rattle.path_expr.specs.declared.link.Link.{Link}
use Rattle.path_expr.specs.Elimination.{path_at}
use Rattle.path_expr.specs.PathExpr.{InLanguage, PathExpr, Zero, One, Edge, Seq, Join, Star}
use Rattle.path_expr.specs.Walks.{IsWalk, Leads}
use Rattle.path_expr.proofs.WayWalks.{language_is_walks}
use Rattle.polyhedra.specs.Vocabulary.{Vocabulary}
use Rattle.syntax_tree.specs.declared.program.GlobalVar.{GlobalVar}
use Rattle.syntax_tree.specs.declared.program.Proc.{Proc}
use Rattle.syntax_tree.specs.declared.program.Program.{Program}
use Rattle.syntax_tree.specs.Code.{Call}
use Rattle.syntax_tree.specs.Term.{Term}
use Rattle.syntax_tree.specs.Value.{State}
use Rattle.syntax_tree.specs.WellFormed.{IsWellFormed, width_of}
use Rattle.execution.specs.Execution.{initial_globals}
use Rattle.execution.specs.Machine.{Do, Frame, Item}
use Rattle.execution.specs.Step.{values_of}
use Rattle.flow_graph.specs.FlowGraph.{Arc, body_of, flow_of}
use Rattle.flow_graph.specs.Stack.{Beginning, StandsOver}
use Rattle.flow_graph.specs.Walks.{Stands, WalksTo}
use Rattle.flow_graph.proofs.Theorems.{calls_are_edges}
use Rattle.transition_formula.specs.Meaning.{Holds, numbers}
use Rattle.transition_formula.specs.Transition.{Transition}
use Rattle.transition_formula.proofs.Meanings.{identity-holds}
use Rattle.leaf_cases.proofs.StepCases.{constant-value}
use Rattle.vocabularies.specs.Ends.{entry_of, entry_width, start_of}
use Rattle.vocabularies.specs.Procs.{IsProcOf}
use Rattle.posing.specs.Posing.{Always, Done}
use Rattle.posing.proofs.Paths.{always_any, always_bind}
use Rattle.checked_tree.specs.Evaluation.{Made, cell_at, cell_of, cells_of, evaluated_cells, evaluation}
use Rattle.checked_tree.specs.Graph.{Graph, graph_of, leaf_at, nothing, vocabulary_at}
use Rattle.checked_tree.specs.Law.{AreFittedCells, CellsHold, FitsCell, HoldsCell, IsEvaluated, IsRun}
use Rattle.proc_summary.specs.declared.stop.Flow.{Flow}
use Rattle.proc_summary.specs.declared.stop.NodeFormula.{NodeFormula}
use Rattle.proc_summary.specs.Claims.{FitsFlow, FitsStop, HoldsIf, StopHolds}
use Rattle.proc_summary.specs.Flow.{formula_at, formula_of}
use Rattle.proc_summary.specs.Subject.{own_graph}
use Rattle.context.specs.declared.edges.Edges.{Edges}
use Rattle.context.specs.declared.stand.Widths.{Widths}
use Rattle.context.specs.Claims.{AreEntries, AreFlows, EntriesHold, FlowsHold, IsEntryIf, start_of_main}
use Rattle.context.specs.Entries.{Calling, Way, call_leaf, call_way, call_ways, callings_in, entries_in, entry_graph, node_of, nodes_of, ways_of, widths_of}
use Rattle.context.specs.Made.{edges_by}
use Rattle.context.proofs.CallLeaves.{leaf-holds}
use Rattle.context.proofs.EntryGraph.{entry-columns, entry-graph-evaluated, few-nodes, no_vocabulary, node-found, none-columns}
use Rattle.context.proofs.AssertionPlaces.{proc-fit}
use Rattle.context.proofs.PlaceColumns.{got}
use Rattle.context.proofs.Soundness.{stands-top}
use Rattle.context.proofs.Ways.{call-place, found-mapped, way-found, ways-found}
use Rattle.context.proofs.WaysFit.{IsCalling, callings-fit, few-ways, main-is, ways-fit, widths-fit}

-- ---- one link more

walk-more : (links : List Link) (from between to : ℕ) (word : List ℕ) (n : ℕ) → IsWalk links from between word → Leads links n between to → IsWalk links from to (word ++ n ∷ [])
walk-more links from between to [] n walk leads = (to, subst (λ m. Leads links n m to) (sym walk) leads, refl)
walk-more links from between to (k ∷ word) n walk leads = (walk.0, walk.1, walk-more links walk.0 between to word n walk.2 leads)

run-more : (g : Graph) (word : List ℕ) (n : ℕ) (before middle after : List ℤ) → IsRun g word before middle → Holds (leaf_at g n) middle after → IsRun g (word ++ n ∷ []) before after
run-more g [] n before middle after run holds = (after, subst (λ s. Holds (leaf_at g n) s after) (sym run) holds, refl)
run-more g (k ∷ word) n before middle after run holds = (run.0, run.1, run-more g word n run.0 middle after run.2 holds)

first-values : (w : Valuation) (globals : List GlobalVar) → map (value_of w) (map (λ (g : GlobalVar). constant_of g.init) globals) ≡ map (λ (g : GlobalVar). g.init) globals
first-values w [] = refl
first-values w (g ∷ globals) = λ i. constant-value w g.init i ∷ first-values w globals i

main-node : (main : ℕ) → node_of main main ≡ 1
main-node main = ap (λ b. if b then 1 else (if nat_lt main main then main + 2 else main + 1)) (eq-eqb main main refl)

range-place : (a n k m : ℕ) → slice_get (range_with_len a n) k ≡ Some m → (m ≡ a + k) × (k < n)
range-place a zero k m e = absurd (cc)
range-place a (suc n) zero m e = let same : a ≡ m = cc in (omega (arith, same), omega arith)
range-place a (suc n) (suc k) m e = let more = range-place (a + 1) n k m e in let one = more.0 in let two = more.1 in (omega (arith, one), omega (arith, two))

-- ---- along the stack

module _ (program : Program) (flows : List Flow) (formed : IsWellFormed program) (fit : AreFlows program flows) (hold : FlowsHold program flows) where
  abbrev g : Graph
  g = entry_graph program flows

  abbrev ways : List Way
  ways = ways_of program flows

  -- a walk from the start to the entry of the activation's procedure, along which the leaves hold
  -- of how it began
  record Arrival (at : Beginning) : Type 0 where
    word : List ℕ
    walk : IsWalk g.links 0 (node_of program.main at.proc) word
    run : IsRun g word [] (at.globals ++ at.args)

  arrival-first : Arrival (start_of_main program)
  arrival-first =
      let first : List ℤ = initial_globals program ++ [] in
      record {
        word = 0 ∷ [];
        walk = (1, refl, sym (main-node program.main));
        run = (
          first,
          record {
            enters = refl;
            some = inl (λ k. pos 0, record { rows = tt; posts = first-values (numbers [] (λ k. pos 0)) program.globals ∙ sym (append-nil (initial_globals program)) });
          },
          refl,
        );
      }

  way-link : (n : ℕ) (way : Way) → slice_get ways n ≡ Some way → slice_get g.links n ≡ Some way.link
  way-link n way e = slice_get-map (λ (w : Way). w.link) ways n ∙ ap (option_map (λ (w : Way). w.link)) e

  way-leaf : (n : ℕ) (way : Way) → slice_get ways n ≡ Some way → leaf_at g n ≡ way.leaf
  way-leaf n way e = ap (λ o. unwrap_or o nothing) (slice_get-map (λ (w : Way). w.leaf) ways n ∙ ap (option_map (λ (w : Way). w.leaf)) e)

  -- the way of a call that an activation stands at
  record Handing (under top : Beginning) : Type 0 where
    number : ℕ
    way : Way
    is : slice_get ways number ≡ Some way
    link_is : way.link ≡ record { from = node_of program.main under.proc; to = node_of program.main top.proc }
    holds : Holds way.leaf (under.globals ++ under.args) (top.globals ++ top.args)

  handing : (under top : Beginning) (values : List Term) (into : Option ℕ) (rest : List Item) (own : State) → Stands program under.proc under.globals under.args (Do (Call top.proc values into) ∷ rest) (top.globals ++ own)
      → values_of values (top.globals ++ own) ≡ Some top.args → length top.globals ≡ length program.globals → Handing under top
  handing under top values into rest own stands values_are width =
      let final : State = top.globals ++ own in
      let edge = (calls_are_edges program under.proc under.globals under.args top.proc values into rest final).0 stands in
      let arc : Arc = edge.0 in
      let k : ℕ = edge.1 in
      let walk : WalksTo program under.proc under.globals under.args arc.from final = edge.5 in
      let p : Proc = walk.callee in
      let is_p : IsProcOf program under.proc p = walk.is in
      let arc_is : slice_get (own_graph p).arcs k ≡ Some arc = subst (λ (o : Option Proc). slice_get (flow_of (body_of o)).arcs k ≡ Some arc) is_p edge.2 in
      let place = call-place (own_graph p).arcs k arc top.proc values into arc_is edge.3 in
      let calling : Calling = record { callee = top.proc; args = values } in
      let call : IsCalling program (width_of program p) calling = each-get (IsCalling program (width_of program p)) _ place.place calling (callings-fit program formed under.proc p is_p) place.calling_is in
      let as_many = fit.each in
      let within = slice_get_within program.procs under.proc p is_p in
      let flow_there = got flows under.proc (omega (arith, as_many, within)) in
      let flow : Flow = flow_there.0 in
      let fits : FitsFlow program p flow = fit.fit under.proc p flow is_p flow_there.1 in
      let stop_there = found-mapped (λ (s : NodeFormula). s.node) flow.calls place.place arc.from (ap (λ l. slice_get l place.place) fits.calls_are ∙ place.node_is) in
      let stop : NodeFormula = stop_there.0 in
      let stop_fits : FitsStop (width_of program p) stop = each-get (FitsStop (width_of program p)) flow.calls place.place stop (recursion_from_All (FitsStop (width_of program p)) flow.calls fits.calls) stop_there.1 in
      let told : StopHolds program under.proc stop = each-get (StopHolds program under.proc) flow.calls place.place stop (recursion_from_All (StopHolds program under.proc) flow.calls (hold under.proc flow flow_there.1).calls) stop_there.1 in
      let Says : ℕ → Type 0 = λ node. (globals args last : State) (way : WalksTo program under.proc globals args node last) → HoldsIf stop.formula (globals ++ (args ++ way.others)) last in
      let led : HoldsIf stop.formula (under.globals ++ (under.args ++ walk.others)) final = (subst Says stop_there.2 told) under.globals under.args final walk in
      let w : Widths = widths_of program p in
      let wide = widths-fit program p formed (proc-fit program under.proc p formed is_p) in
      let leaf = leaf-holds w wide stop.formula stop_fits values call.args (under.globals ++ (under.args ++ walk.others)) final top.args led values_are in
      let sum = length-append under.globals under.args in
      let own_width = walk.width in
      let params = walk.params in
      let enters : take w.entry (under.globals ++ (under.args ++ walk.others)) ≡ under.globals ++ under.args =
      ap (take w.entry) (sym (append_assoc under.globals under.args walk.others)) ∙ take_at (under.globals ++ under.args) walk.others w.entry (omega (arith, sum, own_width, params)) in
      let leaves : take w.globals final ++ top.args ≡ top.globals ++ top.args = ap (λ l. l ++ top.args) (take_at top.globals own (length program.globals) width) in
      let same : 0 + under.proc ≡ under.proc = omega arith in
      let found = ways-found program 0 program.procs flows under.proc p flow (call_way program.main under.proc w calling stop) is_p flow_there.1
      (place.place, ap (λ n. slice_get (call_ways program.main n w (callings_in (own_graph p).arcs) flow.calls) place.place) same ∙ way-found program.main under.proc w (callings_in (own_graph p).arcs) flow.calls place.place calling stop place.calling_is stop_there.1) in
      record {
        number = suc found.0;
        way = call_way program.main under.proc w calling stop;
        is = found.1;
        link_is = refl;
        holds = transport (λ i. Holds (call_leaf w stop.formula values) (enters i) (leaves i)) leaf;
      }

  arrival-more : (under top : Beginning) → Arrival under → Handing under top → Arrival top
  arrival-more under top arrived h =
      record {
        word = arrived.word ++ h.number ∷ [];
        walk = walk-more g.links 0 (node_of program.main under.proc) (node_of program.main top.proc) arrived.word h.number arrived.walk (way-link h.number h.way h.is ∙ ap (λ l. Some l) h.link_is);
        run = run-more g arrived.word h.number [] (under.globals ++ under.args) (top.globals ++ top.args) arrived.run (subst (λ f. Holds f (under.globals ++ under.args) (top.globals ++ top.args)) (sym (way-leaf h.number h.way h.is)) h.holds);
      }

  arrivals : (below : List Frame) (top : Beginning) (globals : State) (items : List Item) (frame : Frame) → StandsOver program (start_of_main program) top globals items frame below → Arrival top
  arrivals [] top globals items frame h = subst Arrival (sym h.0) arrival-first
  arrivals (caller ∷ below) top globals items frame h =
      let under : Beginning = h.2 in
      let values : List Term = h.3 in
      let over = h.5 in
      let stands = stands-top program (start_of_main program) under top.globals (Do (Call top.proc values frame.into) ∷ caller.items) caller below over in
      arrival-more under top (arrivals below under top.globals (Do (Call top.proc values frame.into) ∷ caller.items) caller over)
      (handing under top values frame.into caller.items caller.own stands h.4 h.1.begins.width)

-- ---- the entries

module _ (program : Program) (flows : List Flow) (formed : IsWellFormed program) (cells : List (Cell Transition)) (fitted : AreFittedCells (entry_graph program flows) 0 cells) where
  -- the cell of a procedure's node
  record EntryCell (proc : ℕ) (p : Proc) : Type 0 where
    pub cell : Cell Transition
    pub is : slice_get cells (node_of program.main proc) ≡ Some cell
    pub vocabulary_is : vocabulary_at (entry_graph program flows) (node_of program.main proc) ≡ entry_of program p

  entry-cell : (proc : ℕ) (p : Proc) → IsProcOf program proc p → EntryCell proc p
  entry-cell proc p is =
      let m = main-is program formed in
      let node = node-found program m.0 m.1 proc p is in
      let within = slice_get_within (nodes_of program) (node_of program.main proc) (entry_of program p) node in
      let many = fitted.one_each in
      let there = got cells (node_of program.main proc) (omega (arith, many, within)) in
      record { cell = there.0; is = there.1; vocabulary_is = ap (λ o. unwrap_or o no_vocabulary) node }

  entry-is : (proc : ℕ) (entry : Option Transition) → slice_get (entries_in program cells) proc ≡ Some entry → formula_at 0 cells (node_of program.main proc) ≡ entry
  entry-is proc entry e =
      let there = found-mapped (λ proc. formula_at 0 cells (node_of program.main proc)) (range_with_len 0 (length program.procs)) proc entry e in
      let place = range-place 0 (length program.procs) proc there.0 there.1 in
      let first = place.0 in
      let same : proc ≡ there.0 = omega (arith, first) in
      ap (λ n. formula_at 0 cells (node_of program.main n)) same ∙ there.2

  cell-says : (cell : Cell Transition) (after : List ℤ) → HoldsCell cell [] after → HoldsIf (formula_of 0 cell) [] after
  cell-says known.Zero after h = h
  cell-says known.One after h = identity-holds 0 [] after h refl
  cell-says (known.Item f) after h = h

  pub entries-hold : AreFlows program flows → FlowsHold program flows → CellsHold (entry_graph program flows) 0 cells → EntriesHold program (entries_in program cells)
  entries-hold are hold holds proc entry e config chain same =
      let top : Beginning = chain.top in
      let stands = stands-top program (start_of_main program) top config.globals chain.frame.items chain.frame chain.below chain.stands in
      let entered = stands.begins.entered in
      let arrived = arrivals program flows formed are hold chain.below top config.globals chain.frame.items chain.frame chain.stands in
      let there = entry-cell top.proc entered.callee entered.is in
      let says = cell-says there.cell (top.globals ++ top.args) (holds (node_of program.main top.proc) there.cell there.is arrived.word arrived.walk [] (top.globals ++ top.args) (sym (none-columns program)) arrived.run) in
      let formula : formula_at 0 cells (node_of program.main top.proc) ≡ formula_of 0 there.cell = ap (λ o. formula_of 0 (unwrap_or o known.Zero)) there.is in
      subst (λ o. HoldsIf o [] (top.globals ++ top.args)) (sym formula ∙ ap (λ n. formula_at 0 cells (node_of program.main n)) same ∙ entry-is proc entry e) says

  cell-entry : (proc : ℕ) (p : Proc) (cell : Cell Transition) (voc : Vocabulary) → voc ≡ entry_of program p → (cell ≡ known.One → ⊥) → FitsCell (start_of program) voc cell → IsEntryIf (entry_width program p) (formula_of 0 cell)
  cell-entry proc p known.Zero voc is other h = tt
  cell-entry proc p known.One voc is other h = absurd (other refl)
  cell-entry proc p (known.Item f) voc is other h =
      record {
        from = h.between.from_is ∙ none-columns program;
        to = h.between.to_is ∙ ap (λ (v : Vocabulary). v.columns) is ∙ entry-columns program p;
        fits = h.between.fits;
        fitted = h.fitted;
      }

  pub entries-fit : ((node : ℕ) → 0 < node → slice_get cells node ≡ Some known.One → ⊥) → AreEntries program (entries_in program cells)
  entries-fit never =
      record {
        each = length-map-range_with_len (λ proc. formula_at 0 cells (node_of program.main proc)) 0 (length program.procs);
        fit = λ proc p entry is e.
            let there = entry-cell proc p is in
            let formula : formula_at 0 cells (node_of program.main proc) ≡ formula_of 0 there.cell = ap (λ o. formula_of 0 (unwrap_or o known.Zero)) there.is in
            subst (IsEntryIf (entry_width program p)) (sym formula ∙ entry-is proc entry e)
            (cell-entry proc p there.cell (vocabulary_at (entry_graph program flows) (node_of program.main proc)) there.vocabulary_is
            (λ one. never (node_of program.main proc) (some-node (proc == program.main) (nat_lt proc program.main) proc) (there.is ∙ ap (λ c. Some c) one))
            (fitted.fits (node_of program.main proc) there.cell there.is));
      }
    where
      some-node : (b c : Bool) (proc : ℕ) → 0 < (if b then 1 else (if c then proc + 2 else proc + 1))
      some-node true c proc = omega arith
      some-node false true proc = omega arith
      some-node false false proc = omega arith

-- ---- no way comes to a procedure without a link

one-path : (made : Made) (path : PathExpr) → cell_of made path ≡ known.One → path ≡ One
one-path made Zero e = absurd (cc)
one-path made One e = refl
one-path made (Edge number) e = absurd (cc)
one-path made (Seq a b) e = absurd (cc)
one-path made (Join a b) e = absurd (cc)
one-path made (Star a) e = absurd (cc)

abbrev pub NeverOne : List (Cell Transition) → Type 0
NeverOne cells = (node : ℕ) → 0 < node → slice_get cells node ≡ Some known.One → ⊥

cells-never : (graph : Graph) → IsEvaluated graph 0 → (made : Made) → NeverOne (cells_of graph 0 made)
cells-never graph is made node some e =
    let there = found-mapped (cell_at graph 0 made) (range_with_len 0 (length graph.nodes)) node known.One e in
    let place = range-place 0 (length graph.nodes) node there.0 there.1 in
    let same = place.0 in
    let within = place.1 in
    let path : path_at (length graph.nodes) graph.links 0 there.0 ≡ One = one-path made (path_at (length graph.nodes) graph.links 0 there.0) there.2 in
    let walk = (language_is_walks (length graph.nodes) graph.links 0 there.0 is.graph is.source_is (omega (arith, same, within)) []).0 (subst (λ p. InLanguage p []) (sym path) refl) in
    omega (arith, walk, same, some)

pub evaluated-never : (graph : Graph) → IsEvaluated graph 0 → Always NeverOne (evaluated_cells graph 0)
unfolding evaluated_cells
evaluated-never graph is =
    always_bind (λ made. Unit {0}) NeverOne (evaluation graph 0) (λ made. Done (cells_of graph 0 made)) (always_any (λ made. Unit {0}) (evaluation graph 0) (λ made. tt)) (λ made h. cells-never graph is made)

-- ---- for the code: what is evaluated, and what comes of it

abbrev pub graph_by : Edges → List Vocabulary → Graph
graph_by edges nodes = graph_of edges.links edges.leaves nodes

module _ (program : Program) (flows : List Flow) (formed : IsWellFormed program) (are : AreFlows program flows) (edges : Edges) (nodes : List Vocabulary) (made : edges ≡ edges_by (ways_of program flows)) (nodes_are : nodes ≡ nodes_of program) where
  pub graph-made : graph_by edges nodes ≡ entry_graph program flows
  graph-made = λ i. graph_by (made i) (nodes_are i)

  graph-evaluated : IsEvaluated (entry_graph program flows) 0
  graph-evaluated = let m = main-is program formed in entry-graph-evaluated program flows formed (ways-fit program formed m.0 m.1 m.2 flows are)

  pub made-evaluated : IsEvaluated (graph_by edges nodes) 0
  made-evaluated = subst (λ h. IsEvaluated h 0) (sym graph-made) graph-evaluated

  pub few-made : length edges.links < 2 ^ 32
  few-made =
      let few = few-ways program flows formed in
      let long = length-map (ways_of program flows) (λ (way : Way). way.link) in
      subst (λ (e : Edges). length e.links < 2 ^ 32) (sym made) (omega (arith, few, long))

  pub few-made-nodes : length nodes < 2 ^ 32
  few-made-nodes = subst (λ (l : List Vocabulary). length l < 2 ^ 32) (sym nodes_are) (few-nodes program formed)

  module _ (cells : List (Cell Transition)) (fitted : AreFittedCells (graph_by edges nodes) 0 cells) (entries : List (Option Transition)) (entries_are : entries ≡ entries_in program cells) where
    fitted-own : AreFittedCells (entry_graph program flows) 0 cells
    fitted-own = subst (λ h. AreFittedCells h 0 cells) graph-made fitted

    pub made-fit : NeverOne cells → AreEntries program entries
    made-fit never = subst (AreEntries program) (sym entries_are) (entries-fit program flows formed cells fitted-own never)

    pub made-hold : CellsHold (graph_by edges nodes) 0 cells → FlowsHold program flows → EntriesHold program entries
    made-hold holds hold = subst (EntriesHold program) (sym entries_are) (entries-hold program flows formed cells fitted-own are hold (subst (λ h. CellsHold h 0 cells) graph-made holds))

  pub made-never : Always NeverOne (evaluated_cells (graph_by edges nodes) 0)
  made-never = evaluated-never (graph_by edges nodes) made-evaluated
