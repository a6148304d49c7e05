-- Passages and arrivals are runs of the graph of ways, so its cells hold of them.
use Rattle.std.proofs.Common.{◌≡◌, ℕ, ◌<◌, List, [], ◌∷◌, ◌++◌, map, length, take, Option, Some, refl, sym, ap, subst, ◌∙◌}
use Rattle.std.specs.Prelude.{true, false, slice_get, unwrap_or, if◌then◌else◌}
use Rattle.std.specs.Option.{option_map}
use Rattle.std.specs.List.{AllByRecursion, filter}
use Rattle.std.proofs.lemmas.Option.{slice_get-map}
use Rattle.items.proofs.Each.{each-get}
use Rattle.path_expr.specs.declared.cell.Cell.{Cell}
use Rattle.path_expr.specs.Walks.{IsGraph, IsWalk}
use Rattle.syntax_tree.specs.declared.program.Proc.{Proc}
use Rattle.syntax_tree.specs.declared.program.Program.{Program}
use Rattle.syntax_tree.specs.Value.{State}
use Rattle.syntax_tree.specs.WellFormed.{IsWellFormed, width_of}
use Rattle.transition_formula.specs.Meaning.{Holds}
use Rattle.transition_formula.specs.Transition.{Transition}
use Rattle.flow_graph.specs.FlowGraph.{Arc, FlowGraph}
use Rattle.flow_graph.specs.Walks.{EdgeRelates, Stride, Walks}
use Rattle.leaf_cases.specs.Conditions.{AreKnown, KnownCalls}
use Rattle.vocabularies.specs.Procs.{IsProcOf}
use Rattle.checked_tree.specs.Graph.{Graph, leaf_at, nothing}
use Rattle.checked_tree.specs.Law.{HoldsCell, IsRun}
use Rattle.forward_graphs.specs.Law.{CellsHold}
use Rattle.point_induction.specs.Points.{EntersNoHead, is_head}
use Rattle.proc_summary.specs.Parts.{IsFit}
use Rattle.proc_summary.specs.Subject.{arc_leaf, link_of, own_graph}
use Rattle.proc_summary.proofs.CratesBelow.{act-fits, leaf_holds}
use Rattle.proc_summary.proofs.Graphs.{leaf-ends, length-after}
use Rattle.point_ways.specs.Claims.{ArrivalBetween, PassageBetween, WaysHold}
use Rattle.point_ways.specs.Ways.{arrival_node, is_ahead, way_arcs, way_end, way_graph, way_link}
use Rattle.point_ways.proofs.AheadNodes.{marked-next, source-marked}
use Rattle.point_ways.proofs.Choices.{filter-place}
use Rattle.point_ways.proofs.ForwardWays.{arc-inside}
use Rattle.point_ways.proofs.EdgeActs.{act-of_arc, wide}

module _ (program : Program) (proc : ℕ) (p : Proc) (known : List (Option Transition)) (is_proc : IsProcOf program proc p) (formed : IsWellFormed program)
    (are : AreKnown program known) (source : ℕ) (inside : IsGraph (own_graph p).nodes (map link_of (own_graph p).arcs))
    (all : AllByRecursion IsFit (map (arc_leaf program p known) (way_arcs (own_graph p) source))) where
  abbrev graph : FlowGraph
  graph = own_graph p

  abbrev ways : Graph
  ways = way_graph program p known source

  abbrev IsAheadHere : ℕ → Type 0
  IsAheadHere node = is_ahead graph source node ≡ true

  -- the number of an edge among those that start at nodes ahead
  abbrev number_of : ℕ → ℕ
  number_of k = length (filter (λ (way : Arc). is_ahead graph source way.from) (take k graph.arcs))

  -- ---- one edge

  arc-there : (k : ℕ) (way : Arc) → slice_get graph.arcs k ≡ Some way → IsAheadHere way.from → slice_get (way_arcs graph source) (number_of k) ≡ Some way
  arc-there k way e ahead = filter-place (λ (w : Arc). is_ahead graph source w.from) graph.arcs k way e ahead

  link-there : (k : ℕ) (way : Arc) → slice_get graph.arcs k ≡ Some way → IsAheadHere way.from → slice_get ways.links (number_of k) ≡ Some (way_link graph way)
  link-there k way e ahead = slice_get-map (way_link graph) (way_arcs graph source) (number_of k) ∙ ap (option_map (way_link graph)) (arc-there k way e ahead)

  leaf-there : (k : ℕ) (way : Arc) → slice_get graph.arcs k ≡ Some way → IsAheadHere way.from → slice_get ways.leaves (number_of k) ≡ Some (arc_leaf program p known way)
  leaf-there k way e ahead =
      slice_get-map (arc_leaf program p known) (way_arcs graph source) (number_of k) ∙ ap (option_map (arc_leaf program p known)) (arc-there k way e ahead)

  way-holds : (k : ℕ) (way : Arc) (before after : State) → slice_get graph.arcs k ≡ Some way → IsAheadHere way.from → length before ≡ width_of program p
      → EdgeRelates (KnownCalls known) (length program.globals) way.act before after
      → Holds (leaf_at ways (number_of k)) before after × (length after ≡ width_of program p)
  way-holds k way before after e ahead long relates =
      let f : Transition = arc_leaf program p known way in
      let there = leaf-there k way e ahead in
      let holds : Holds f before after =
      leaf_holds program (width_of program p) (wide program p) known are way.act (act-fits program proc p way.act formed is_proc (act-of_arc program proc p k way is_proc e)) before after long relates in (
        subst (λ (t : Transition). Holds t before after) (sym (ap (λ o. unwrap_or o nothing) there)) holds,
        length-after f before after (each-get IsFit ways.leaves (number_of k) f all there) holds ∙ (leaf-ends (width_of program p) (length program.globals) known way.act).1,
      )

  -- ---- a path that enters no head

  -- it leads to a node ahead by a word, which goes before every other
  record IsLed (node : ℕ) (before : State) (last : ℕ) (after : State) : Type 0 where
    ahead : IsAheadHere last
    long : length after ≡ width_of program p
    word : List ℕ
    walks : (target : ℕ) (rest : List ℕ) → IsWalk ways.links last target rest → IsWalk ways.links node target (word ++ rest)
    runs : (final : State) (rest : List ℕ) → IsRun ways rest after final → IsRun ways (word ++ rest) before final

  led : (path : List Stride) (node last : ℕ) (before after : State) → IsAheadHere node → length before ≡ width_of program p
      → Walks (KnownCalls known) (length program.globals) graph.arcs node before path last after → EntersNoHead graph.arcs path → IsLed node before last after
  led [] node last before after ahead long walk free = record {
    ahead = subst IsAheadHere walk.0 ahead;
    long = subst (λ (s : State). length s ≡ width_of program p) walk.1 long;
    word = [];
    walks = λ target rest more. subst (λ n. IsWalk ways.links n target rest) (sym walk.0) more;
    runs = λ final rest more. subst (λ s. IsRun ways rest s final) (sym walk.1) more;
  }
  led (stride ∷ path) node last before after ahead long (way, is, starts, relates, later) free =
      let unentered : is_head graph.arcs way.to ≡ false = free.0 way is in
      let from : IsAheadHere way.from = subst IsAheadHere (sym starts) ahead in
      let one = way-holds stride.edge way before stride.state is from long relates in
      let next : IsAheadHere way.to = marked-next graph.arcs source graph.nodes stride.edge way is unentered (arc-inside graph inside stride.edge way is).1 from in
      let more : IsLed way.to stride.state last after = led path way.to last stride.state after next one.1 later free.1 in
      let leads : slice_get ways.links (number_of stride.edge) ≡ Some (record { from = node; to = way.to }) =
      link-there stride.edge way is from ∙ (λ i. Some (record { from = starts i; to = if (unentered i) then arrival_node graph way.to else way.to })) in
      record {
        ahead = more.ahead;
        long = more.long;
        word = number_of stride.edge ∷ more.word;
        walks = λ target rest w. (way.to, leads, more.walks target rest w);
        runs = λ final rest r. (stride.state, one.0, more.runs final rest r);
      }

  -- ---- the law

  module _ (within : source < graph.nodes) where
    pub ways-hold : (cells : List (Cell Transition)) → CellsHold ways source cells → WaysHold program p known source cells
    ways-hold cells hold = record { passed = passed; arrived = arrived }
      where
        begins : IsAheadHere source
        begins = source-marked graph.arcs source graph.nodes within

        passed : (node : ℕ) (cell : Cell Transition) → slice_get cells node ≡ Some cell → (before after : State) → length before ≡ width_of program p
            → PassageBetween program p known source before node after → HoldsCell cell before after
        passed node cell e before after long passage =
            let by = led passage.path source node before after begins long passage.walk passage.free in
            hold node cell e (by.word ++ []) (by.walks node [] refl) before after (by.runs after [] refl)

        arrived : (head : ℕ) (cell : Cell Transition) → slice_get cells (arrival_node graph head) ≡ Some cell → (before after : State) → length before ≡ width_of program p
            → ArrivalBetween program p known source before head after → HoldsCell cell before after
        arrived head cell e before after long arrival =
            let way = arrival.way in
            let by = led arrival.passage.path source arrival.last before arrival.between begins long arrival.passage.walk arrival.passage.free in
            let from : IsAheadHere way.from = subst IsAheadHere (sym arrival.starts) by.ahead in
            let one = way-holds arrival.edge way arrival.between after arrival.is from by.long arrival.relates in
            let ends : way_end graph way.to ≡ arrival_node graph head =
            ap (way_end graph) arrival.ends ∙ ap (λ b. if b then arrival_node graph head else head) arrival.head_is in
            let leads : slice_get ways.links (number_of arrival.edge) ≡ Some (record { from = arrival.last; to = arrival_node graph head }) =
            link-there arrival.edge way arrival.is from ∙ (λ i. Some (record { from = arrival.starts i; to = ends i })) in
            let last : ℕ = number_of arrival.edge in
            hold (arrival_node graph head) cell e (by.word ++ last ∷ []) (by.walks (arrival_node graph head) (last ∷ []) (arrival_node graph head, leads, refl)) before after
            (by.runs after (last ∷ []) (after, one.0, refl))
