-- The graph of ways leads forward, and can be evaluated.
use Rattle.std.proofs.Common.{◌≡◌, ◌⊎◌, ℕ, ◌+◌, ◌<◌, ◌≤◌, List, map, length, Option, Some, sym, ap, subst, ◌∙◌, inl, inr, arith}
use Rattle.std.specs.Prelude.{All, Bool, true, false, get_or, slice_get, unwrap_or, if◌then◌else◌}
use Rattle.std.specs.Option.{option_map}
use Rattle.std.specs.List.{AllByRecursion}
use Rattle.std.proofs.lemmas.Bool.{cases_Bool}
use Rattle.std.proofs.lemmas.List.{get_or-replicate, length-map, length-replicate}
use Rattle.std.proofs.lemmas.List.Elements.{All-filter, All-map}
use Rattle.std.proofs.lemmas.Option.{slice_get-get_or, slice_get-map, slice_get_within, unwrap_or-slice_get}
use Rattle.items.proofs.Each.{each-get}
use Rattle.path_expr.specs.declared.link.Link.{Link}
use Rattle.path_expr.specs.Walks.{IsGraph}
use Rattle.syntax_tree.specs.declared.program.Proc.{Proc}
use Rattle.syntax_tree.specs.declared.program.Program.{Program}
use Rattle.syntax_tree.specs.WellFormed.{IsProcFit, IsWellFormed, width_of}
use Rattle.transition_formula.specs.Transition.{AreSolvable, Transition}
use Rattle.polyhedra.specs.Vocabulary.{IsVocabulary, Vocabulary}
use Rattle.flow_graph.specs.FlowGraph.{Arc, FlowGraph}
use Rattle.leaf_cases.specs.Conditions.{AreKnown}
use Rattle.vocabularies.specs.Ends.{full_of}
use Rattle.vocabularies.specs.Procs.{IsProcOf}
use Rattle.checked_tree.specs.Graph.{Graph, leaf_at, link_at, nothing, vocabulary_at}
use Rattle.forward_graphs.specs.Law.{AreForward, IsForward, IsLeaf}
use Rattle.point_induction.specs.Points.{heads_of, is_head}
use Rattle.proc_summary.specs.Parts.{IsFit}
use Rattle.proc_summary.specs.Subject.{arc_leaf, link_of, own_graph}
use Rattle.proc_summary.proofs.CratesBelow.{EdgeFits, act-fits, all_get, leaf_few, some_at}
use Rattle.proc_summary.proofs.Graphs.{few-solvable, full-columns, full-end, leaf-ends, narrow, proc-fit}
use Rattle.point_ways.specs.Ways.{arrival_node, head_rank, is_ahead, way_arcs, way_end, way_graph, way_link}
use Rattle.point_ways.proofs.AheadNodes.{edge-forward}
use Rattle.point_ways.proofs.HeadRanks.{ranks_are_places}
use Rattle.point_ways.proofs.EdgeActs.{act-of_arc, wide}

-- an edge leads between nodes, if to a head then to its arrival, and forward
record LeadsOn (nodes : ℕ) (link : Link) : Type 0 where
  pub forward : link.from < link.to
  pub target : link.to < nodes

module _ (graph : FlowGraph) (inside : IsGraph graph.nodes (map link_of graph.arcs)) where
  pub arc-inside : (k : ℕ) (way : Arc) → slice_get graph.arcs k ≡ Some way → (way.from < graph.nodes) × (way.to < graph.nodes)
  arc-inside k way e =
      all_get (λ link. (link.from < graph.nodes) × (link.to < graph.nodes)) (map link_of graph.arcs) k (link_of way) inside
      (slice_get-map link_of graph.arcs k ∙ ap (option_map link_of) e)

  rank-few : (head : ℕ) → head < graph.nodes → is_head graph.arcs head ≡ true → head_rank graph head < length (heads_of graph)
  rank-few head lt is = slice_get_within (heads_of graph) (head_rank graph head) head (ranks_are_places graph head lt is)

  way-leads : (k : ℕ) (way : Arc) → slice_get graph.arcs k ≡ Some way → LeadsOn (graph.nodes + length (heads_of graph)) (way_link graph way)
  way-leads k way e = by_kind (cases_Bool (is_head graph.arcs way.to))
    where
      between : (way.from < graph.nodes) × (way.to < graph.nodes)
      between = arc-inside k way e

      to_end : (b : Bool) → is_head graph.arcs way.to ≡ b → way_end graph way.to ≡ (if b then arrival_node graph way.to else way.to)
      to_end b is = ap (λ c. if c then arrival_node graph way.to else way.to) is

      by_kind : (is_head graph.arcs way.to ≡ true) ⊎ (is_head graph.arcs way.to ≡ false) → LeadsOn (graph.nodes + length (heads_of graph)) (way_link graph way)
      by_kind (inl head) =
          let few = rank-few way.to between.1 head in
          let from = between.0 in
          let end : way_end graph way.to ≡ graph.nodes + head_rank graph way.to = to_end true head in
          record { forward = omega (arith, end, from); target = omega (arith, end, few) }
      by_kind (inr other) =
          let forward = edge-forward graph.arcs k way e other in
          let to = between.1 in
          let end : way_end graph way.to ≡ way.to = to_end false other in
          record { forward = omega (arith, end, forward); target = omega (arith, end, to) }

  pub ways-forward : (source : ℕ) → AreForward (graph.nodes + length (heads_of graph)) (map (way_link graph) (way_arcs graph source))
  ways-forward source =
      All-map (λ (link : Link). (link.from < link.to) × (link.to < graph.nodes + length (heads_of graph))) (way_link graph) (way_arcs graph source)
      (All-filter (λ (way : Arc). is_ahead graph source way.from) (λ (way : Arc). (way.from < way_end graph way.to) × (way_end graph way.to < graph.nodes + length (heads_of graph))) graph.arcs each)
    where
      each : All (λ (way : Arc). (way.from < way_end graph way.to) × (way_end graph way.to < graph.nodes + length (heads_of graph))) graph.arcs
      each k d lt = let leads = way-leads k (get_or graph.arcs k d) (slice_get-get_or graph.arcs k d lt) in (leads.forward, leads.target)

module _ (program : Program) (proc : ℕ) (p : Proc) (known : List (Option Transition)) (is_proc : IsProcOf program proc p) (formed : IsWellFormed program)
    (are : AreKnown program known) (source : ℕ) (inside : IsGraph (own_graph p).nodes (map link_of (own_graph p).arcs))
    (all : AllByRecursion IsFit (map (arc_leaf program p known) (way_arcs (own_graph p) source))) where
  abbrev graph : FlowGraph
  graph = own_graph p

  abbrev ways : Graph
  ways = way_graph program p known source

  abbrev count : ℕ
  count = graph.nodes + length (heads_of graph)

  fit : IsProcFit program p
  fit = proc-fit program proc p formed is_proc

  nodes-count : length ways.nodes ≡ count
  nodes-count = length-replicate count (full_of program p)

  vocabulary-there : (node : ℕ) → node < count → vocabulary_at ways node ≡ full_of program p
  vocabulary-there node lt = unwrap_or-slice_get ways.nodes node _ ∙ get_or-replicate count node (full_of program p) _ lt

  few-columns : (full_of program p).columns ≤ 63
  few-columns = (full-end program p formed fit).few

  arcs-fit : All (λ (way : Arc). EdgeFits program (width_of program p) way.act) (way_arcs graph source)
  arcs-fit = All-filter (λ (way : Arc). is_ahead graph source way.from) (λ (way : Arc). EdgeFits program (width_of program p) way.act) graph.arcs each
    where
      each : All (λ (way : Arc). EdgeFits program (width_of program p) way.act) graph.arcs
      each k d lt =
          act-fits program proc p (get_or graph.arcs k d).act formed is_proc
          (act-of_arc program proc p k (get_or graph.arcs k d) is_proc (slice_get-get_or graph.arcs k d lt))

  leaf-solvable : (way : Arc) → EdgeFits program (width_of program p) way.act → IsFit (arc_leaf program p known way) → AreSolvable (arc_leaf program p known way).cases
  leaf-solvable way fits is_fit =
      let f : Transition = arc_leaf program p known way in
      let ends = leaf-ends (width_of program p) (length program.globals) known way.act in
      let thin = narrow program p formed fit in
      few-solvable f.from f.to f.cases (subst (λ n. n ≤ 1000) (sym ends.1) (omega (arith, thin))) is_fit
      (leaf_few program (width_of program p) (wide program p) (omega (arith, thin)) known are way.act fits)

  leaf-fits : (number : ℕ) → number < length ways.links → IsLeaf ways number
  leaf-fits number lt =
      let there = some_at (way_arcs graph source) number (subst (λ n. number < n) (length-map (way_arcs graph source) (way_link graph)) lt) in
      let way : Arc = there.0 in
      let f : Transition = arc_leaf program p known way in
      let leaf_is : slice_get ways.leaves number ≡ Some f =
      slice_get-map (arc_leaf program p known) (way_arcs graph source) number ∙ ap (option_map (arc_leaf program p known)) there.1 in
      let link_is : slice_get ways.links number ≡ Some (way_link graph way) =
      slice_get-map (way_link graph) (way_arcs graph source) number ∙ ap (option_map (way_link graph)) there.1 in
      let leads = all_get (λ (link : Link). (link.from < link.to) × (link.to < count)) ways.links number (way_link graph way) (ways-forward graph inside source) link_is in
      let here : leaf_at ways number ≡ f = ap (λ o. unwrap_or o nothing) leaf_is in
      let link_here : link_at ways number ≡ way_link graph way = ap (λ o. unwrap_or o (record { from = 0; to = 0 })) link_is in
      let from : vocabulary_at ways (link_at ways number).from ≡ full_of program p =
      ap (λ (link : Link). vocabulary_at ways link.from) link_here ∙ vocabulary-there way.from (omega (arith, leads.0, leads.1)) in
      let to : vocabulary_at ways (link_at ways number).to ≡ full_of program p =
      ap (λ (link : Link). vocabulary_at ways link.to) link_here ∙ vocabulary-there (way_end graph way.to) leads.1 in
      let ends = leaf-ends (width_of program p) (length program.globals) known way.act in
      let is_fit : IsFit f = each-get IsFit ways.leaves number f all leaf_is in
      let voc : IsVocabulary (full_of program p) = (full-end program p formed fit).is in
      let columns = full-columns program p in
      record {
        between = record {
          fits = subst IsFit (sym here) is_fit;
          starts = ap (λ (v : Vocabulary). v.columns) from ∙ columns ∙ sym (ap (λ (t : Transition). t.from) here ∙ ends.0);
          ends = ap (λ (v : Vocabulary). v.columns) to ∙ columns ∙ sym (ap (λ (t : Transition). t.to) here ∙ ends.1);
          few_before = subst (λ n. n ≤ 63) (columns ∙ sym (ap (λ (t : Transition). t.from) here ∙ ends.0)) few-columns;
          few_after = subst (λ n. n ≤ 63) (columns ∙ sym (ap (λ (t : Transition). t.to) here ∙ ends.1)) few-columns;
          from_is = subst IsVocabulary (sym from) voc;
          to_is = subst IsVocabulary (sym to) voc;
        };
        solvable =
            subst (λ (t : Transition). AreSolvable t.cases) (sym here)
            (leaf-solvable way (all_get (λ (w : Arc). EdgeFits program (width_of program p) w.act) (way_arcs graph source) number way arcs-fit there.1) is_fit);
      }

  pub is-forward : source < graph.nodes → IsForward ways source
  is-forward lt = record {
    forward = subst (λ n. AreForward n ways.links) (sym nodes-count) (ways-forward graph inside source);
    one_each = length-map (way_arcs graph source) (arc_leaf program p known) ∙ sym (length-map (way_arcs graph source) (way_link graph));
    leaves = leaf-fits;
    source_is = subst (λ n. source < n) (sym nodes-count) (omega (arith, lt));
  }
