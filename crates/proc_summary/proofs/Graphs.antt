-- A procedure's subject can be evaluated, and its walks are runs.
use Rattle.std.proofs.Common.{◌≡◌, ℕ, ℤ, ◌+◌, ◌-◌, ◌<◌, ◌≤◌, ◌^◌, List, [], ◌∷◌, ◌++◌, length, map, true, false, Option, None, Some, inl, inr, refl, sym, ap, subst, ◌∙◌, arith}
use Rattle.std.specs.Prelude.{All, IsTrue, get_or, ◌==◌, slice_get, unwrap_or}
use Rattle.std.specs.Option.{option_map}
use Rattle.std.specs.List.{AllByRecursion, flat_map, list_all}
use Rattle.std.proofs.lemmas.Bool.{and_parts}
use Rattle.std.proofs.lemmas.Bool.Decides.{Decides-eqb}
use Rattle.std.proofs.lemmas.List.{length-append, length-map, length-replicate, get_or-replicate, get_or_default}
use Rattle.std.proofs.lemmas.List.Elements.{All-map, All-from_recursion, recursion_from_All}
use Rattle.std.proofs.lemmas.Option.{slice_get-map, unwrap_or-slice_get}
use Rattle.items.proofs.Each.{each-get}
use Rattle.linear_terms.specs.declared.row.Case.{Case}
use Rattle.linear_terms.specs.Value.{value_of}
use Rattle.transition_formula.specs.Meaning.{Holds, HoldsSome, numbers}
use Rattle.transition_formula.specs.Transition.{Transition, IsTransition, IsSolvable, AreSolvable, every_column_of, fits, is_below}
use Rattle.path_expr.specs.declared.cell.Cell.{Cell}
use Rattle.path_expr.specs.declared.link.Link.{Link}
use Rattle.path_expr.specs.Walks.{IsGraph, IsWalk}
use Rattle.polyhedra.specs.Vocabulary.{Vocabulary}
use Rattle.syntax_tree.specs.declared.program.Proc.{Proc}
use Rattle.syntax_tree.specs.declared.program.Program.{Program}
use Rattle.syntax_tree.specs.Code.{Statement, Set, Any, Call, Guard, Check, If, Loop, Break, Continue, Return, Code, End, Then, code_of}
use Rattle.syntax_tree.specs.Nodes.{code_nodes, statement_nodes}
use Rattle.syntax_tree.specs.Value.{State}
use Rattle.syntax_tree.specs.WellFormed.{IsProcFit, IsWellFormed, width_of}
use Rattle.flow_graph.specs.declared.parts.Edge.{Edge}
use Rattle.flow_graph.specs.declared.parts.Graph.{Graph}
use Rattle.flow_graph.specs.FlowGraph.{Arc, FlowGraph, arc, body_of, code_arcs, exit_of, flow_of, graph_of, inside, outermost, skip, statement_arcs, unless}
use Rattle.flow_graph.specs.Plain.{arc_of, plain, statement_of_act}
use Rattle.flow_graph.specs.Walks.{EdgeRelates, Stride, Walks}
use Rattle.leaf_cases.specs.Conditions.{AreKnown, IsActOf, KnownCalls, columns_at, columns_in}
use Rattle.leaf_cases.specs.Edges.{known_call, leaf_of, losses_in_leaf}
use Rattle.vocabularies.specs.Ends.{full_of}
use Rattle.vocabularies.specs.Procs.{IsProcOf}
use Rattle.checked_tree.specs.Graph.{leaf_at, link_at, vocabulary_at}
use Rattle.checked_tree.specs.Graph as graphs
use Rattle.checked_tree.specs.Law.{CellsHold, IsEnd, IsEvaluated, IsLeaf, IsRun}
use Rattle.proc_summary.specs.Subject.{Subject, arc_leaf, graph_by, link_of, losses_in_arc, own_graph, subject_of}
use Rattle.proc_summary.specs.Claims.{HoldsOfWalks}
use Rattle.proc_summary.specs.declared.edges.Parts.{Parts}
use Rattle.proc_summary.specs.Parts.{AreActsOf, ArePartsOf, IsFit, IsGraphOf, edge_leaf, edge_link, graph_of_parts, losses_in_edge}
use Rattle.proc_summary.proofs.CratesBelow.{IsVocabulary-full, act-fits, act_of_edge, all_get, fits-solvable, leaf_few, leaf_holds, some_at}

-- ---- lists of edges

pub map-arcs : {X : Type 0} (F : Edge → X) (G : Arc → X) → ((edge : Edge) → F edge ≡ G (arc_of edge)) → (edges : List Edge) → map F edges ≡ map G (map arc_of edges)
map-arcs F G same [] = refl
map-arcs F G same (edge ∷ edges) = λ i. same edge i ∷ map-arcs F G same edges i

pub flat-arcs : {X : Type 0} (F : Edge → List X) (G : Arc → List X) → ((edge : Edge) → F edge ≡ G (arc_of edge)) → (edges : List Edge) → flat_map F edges ≡ flat_map G (map arc_of edges)
flat-arcs F G same [] = refl
flat-arcs F G same (edge ∷ edges) = λ i. same edge i ++ flat-arcs F G same edges i

-- ---- at most two edges for each node

two-parts : {X : Type 0} (x y z w : X) (xs bs : List X) → length (((x ∷ xs) ++ (y ∷ bs)) ++ (z ∷ w ∷ [])) ≡ length xs + length bs + 4
two-parts x y z w xs bs =
    let all = length-append ((x ∷ xs) ++ (y ∷ bs)) (z ∷ w ∷ []) in
    let first = length-append (x ∷ xs) (y ∷ bs) in omega (arith, all, first)

three-parts : {X : Type 0} (x y z v w : X) (xs bs cs : List X) → length ((((x ∷ xs) ++ (y ∷ bs)) ++ (z ∷ cs)) ++ (v ∷ w ∷ [])) ≡ length xs + length bs + length cs + 5
three-parts x y z v w xs bs cs =
    let all = length-append (((x ∷ xs) ++ (y ∷ bs)) ++ (z ∷ cs)) (v ∷ w ∷ []) in
    let more = length-append ((x ∷ xs) ++ (y ∷ bs)) (z ∷ cs) in
    let first = length-append (x ∷ xs) (y ∷ bs) in omega (arith, all, more, first)

mutual
  few-statement : (t : _) (c : ℕ) (s : Statement) → length (statement_arcs t c s) ≤ statement_nodes s + statement_nodes s
  few-statement t c (Set col value) = omega arith
  few-statement t c (Any col) = omega arith
  few-statement t c (Call proc args into) = omega arith
  few-statement t c (Guard cond) = omega arith
  few-statement t c (Check number cond) = omega arith
  few-statement t c (If cond a b) =
      let e : ℕ = c + 1 + code_nodes a in
      let one = few-code t (c + 1) a in
      let two = few-code t (e + 1) b in
      let all : length (statement_arcs t c (If cond a b)) ≡ length (code_arcs t (c + 1) a) + length (code_arcs t (e + 1) b) + 4 =
      two-parts (arc c (c + 1) (Guard cond)) (arc c (e + 1) (unless cond)) (arc e (e + 1 + code_nodes b + 1) skip) (arc (e + 1 + code_nodes b) (e + 1 + code_nodes b + 1) skip) (code_arcs t (c + 1) a) (code_arcs t (e + 1) b) in
      omega (arith, one, two, all)
  few-statement t c (Loop pre cond body step false) =
      let test : ℕ = c + 1 + code_nodes pre in
      let end_body : ℕ = test + 1 + code_nodes body in
      let end_step : ℕ = end_body + 1 + code_nodes step in
      let inner = inside t (end_step + 1) (end_body + 1) in
      let one = few-code t (c + 1) pre in
      let two = few-code inner (test + 1) body in
      let three = few-code t (end_body + 1) step in
      let all : length (statement_arcs t c (Loop pre cond body step false)) ≡ length (code_arcs t (c + 1) pre) + length (code_arcs inner (test + 1) body) + length (code_arcs t (end_body + 1) step) + 5 =
      three-parts (arc c (c + 1) skip) (arc test (test + 1) (Guard cond)) (arc end_body (end_body + 1) skip) (arc end_step (c + 1) skip) (arc test (end_step + 1) (unless cond)) (code_arcs t (c + 1) pre) (code_arcs inner (test + 1) body) (code_arcs t (end_body + 1) step) in
      omega (arith, one, two, three, all)
  few-statement t c (Loop pre cond body step true) =
      let end_body : ℕ = c + 1 + code_nodes body in
      let test : ℕ = end_body + 1 + code_nodes pre in
      let inner = inside t (test + 1) (end_body + 1) in
      let one = few-code inner (c + 1) body in
      let two = few-code t (end_body + 1) pre in
      let all : length (statement_arcs t c (Loop pre cond body step true)) ≡ length (code_arcs inner (c + 1) body) + length (code_arcs t (end_body + 1) pre) + 4 =
      two-parts (arc c (c + 1) skip) (arc end_body (end_body + 1) skip) (arc test (c + 1) (Guard cond)) (arc test (test + 1) (unless cond)) (code_arcs inner (c + 1) body) (code_arcs t (end_body + 1) pre) in
      omega (arith, one, two, all)
  few-statement t c Break = omega arith
  few-statement t c Continue = omega arith
  few-statement t c Return = omega arith

  few-code : (t : _) (c : ℕ) (code : Code) → length (code_arcs t c code) ≤ code_nodes code + code_nodes code
  few-code t c End = omega arith
  few-code t c (Then s rest) =
      let one = few-statement t c s in
      let two = few-code t (c + statement_nodes s) rest in
      let all = length-append (statement_arcs t c s) (code_arcs t (c + statement_nodes s) rest) in
      omega (arith, one, two, all)

pub few-arcs : (program : Program) (p : Proc) → IsProcFit program p → length (own_graph p).arcs ≤ 1024
few-arcs program p fit =
    let few = few-code (outermost (code_of p.body)) 0 (code_of p.body) in
    let most = fit.nodes in
    let all = length-append (code_arcs (outermost (code_of p.body)) 0 (code_of p.body)) (arc (code_nodes (code_of p.body)) (exit_of (code_of p.body)) skip ∷ []) in
    omega (arith, few, most, all)

-- ---- formulas

pub post-length : (from to : ℕ) (case : Case) → IsTrue (fits from to case) → length case.post ≡ to
post-length from to case h = (Decides-eqb (length case.post) to).0 (and_parts (length case.post == to) (every_column_of (is_below from case.aux) case) h).0

-- states after have a number for each post
holds-length : (from to : ℕ) (cases : List Case) (before after : List ℤ) → IsTransition from to cases → HoldsSome cases before after → length after ≡ to
holds-length from to [] before after h k = absurd k
holds-length from to (case ∷ cases) before after h (inl one) =
    let parts = and_parts (fits from to case) (list_all (fits from to) cases) h in
    sym (ap length one.1.posts) ∙ length-map case.post (value_of (numbers before one.0)) ∙ post-length from to case parts.0
holds-length from to (case ∷ cases) before after h (inr more) =
    let parts = and_parts (fits from to case) (list_all (fits from to) cases) h in holds-length from to cases before after parts.1 more

pub length-after : (f : Transition) (before after : List ℤ) → IsFit f → Holds f before after → length after ≡ f.to
length-after f before after fit h = holds-length f.from f.to f.cases before after fit h.some

solvable-each : (from to : ℕ) (cases : List Case) → to ≤ 1000 → IsTransition from to cases → AllByRecursion (λ case. case.aux < 2 ^ 31) cases → AllByRecursion IsSolvable cases
solvable-each from to [] small h few = tt
solvable-each from to (case ∷ cases) small h few =
    let parts = and_parts (fits from to case) (list_all (fits from to) cases) h in
    let one = few.0 in
    (fits-solvable from to case parts.0 (omega arith), solvable-each from to cases small parts.1 few.1)

pub few-solvable : (from to : ℕ) (cases : List Case) → to ≤ 1000 → IsTransition from to cases → All (λ (case : Case). case.aux < 2 ^ 31) cases → AreSolvable cases
few-solvable from to cases small h few =
    All-from_recursion IsSolvable cases (solvable-each from to cases small h (recursion_from_All (λ (case : Case). case.aux < 2 ^ 31) cases few))

-- the formula of an edge goes between states
module _ (columns globals : ℕ) (known : List (Option Transition)) where
  call-from : (args : List _) (into : Option ℕ) (o : Option (Option Transition)) → ((known_call columns globals args into o).from ≡ columns) × ((known_call columns globals args into o).to ≡ columns)
  call-from args into None = (refl, refl)
  call-from args into (Some None) = (refl, refl)
  call-from args into (Some (Some f)) = (refl, refl)

  pub leaf-ends : (s : Statement) → ((leaf_of columns globals known s).from ≡ columns) × ((leaf_of columns globals known s).to ≡ columns)
  leaf-ends (Set col value) = (refl, refl)
  leaf-ends (Any col) = (refl, refl)
  leaf-ends (Call proc args into) = call-from args into (slice_get known proc)
  leaf-ends (Guard cond) = (refl, refl)
  leaf-ends (Check number cond) = (refl, refl)
  leaf-ends (If cond a b) = (refl, refl)
  leaf-ends (Loop pre cond body step first) = (refl, refl)
  leaf-ends Break = (refl, refl)
  leaf-ends Continue = (refl, refl)
  leaf-ends Return = (refl, refl)

pub full-columns : (program : Program) (p : Proc) → (full_of program p).columns ≡ width_of program p
unfolding full_of
full-columns program p = refl

pub proc-fit : (program : Program) (proc : ℕ) (p : Proc) → IsWellFormed program → IsProcOf program proc p → IsProcFit program p
proc-fit program proc p formed is = all_get (IsProcFit program) program.procs proc p formed.each is

pub narrow : (program : Program) (p : Proc) → IsWellFormed program → IsProcFit program p → width_of program p ≤ 63
narrow program p formed fit = let slots = fit.slots in let globals = formed.globals in omega arith

pub full-end : (program : Program) (p : Proc) → IsWellFormed program → IsProcFit program p → IsEnd (full_of program p)
full-end program p formed fit = record {
  is = IsVocabulary-full program p fit;
  few = subst (λ n. n ≤ 63) (sym (full-columns program p)) (narrow program p formed fit);
}

pub acts-are : (program : Program) (proc : ℕ) (g : Graph) → IsGraphOf program proc g → (edges : List Edge) → edges ≡ g.edges → AreActsOf program proc edges
acts-are program proc g of edges same i d lt = act_of_edge program proc g edges i (get_or edges i d) of.same same lt (get_or_default edges i d (get_or edges i d) lt)

-- ---- the subject of a procedure

abbrev no_vocabulary : Vocabulary
no_vocabulary = record { columns = 0; named = []; harvested = []; rule = 0; extra = [] }

module _ (program : Program) (proc : ℕ) (p : Proc) (known : List (Option Transition)) (is : IsProcOf program proc p) where
  pub graph-is : graph_of program proc ≡ own_graph p
  graph-is = ap (λ (o : Option Proc). flow_of (body_of o)) is

  pub columns-is : columns_at program proc ≡ width_of program p
  columns-is = ap (columns_in program) is

  module _ (g : Graph) (of : IsGraphOf program proc g) where
    pub plain-is : plain g ≡ own_graph p
    plain-is = of.same ∙ graph-is

    pub arcs-are : map arc_of g.edges ≡ (own_graph p).arcs
    arcs-are = ap (λ (f : FlowGraph). f.arcs) plain-is

    pub nodes-are : g.nodes ≡ (own_graph p).nodes
    nodes-are = ap (λ (f : FlowGraph). f.nodes) plain-is

    pub links-are : map edge_link g.edges ≡ (subject_of program p known).links
    links-are = map-arcs edge_link link_of (λ edge. refl) g.edges ∙ ap (map link_of) arcs-are

    pub leaves-are : map (edge_leaf program proc known) g.edges ≡ (subject_of program p known).leaves
    leaves-are =
        map-arcs (edge_leaf program proc known) (arc_leaf program p known) (λ edge. λ i. leaf_of (columns-is i) (length program.globals) known (statement_of_act edge.act)) g.edges
        ∙ ap (map (arc_leaf program p known)) arcs-are

    pub losses-are : flat_map (losses_in_edge program proc known) g.edges ≡ (subject_of program p known).lost
    losses-are =
        flat-arcs (losses_in_edge program proc known) (losses_in_arc program p known) (λ edge. λ i. losses_in_leaf (columns-is i) (length program.globals) known (statement_of_act edge.act)) g.edges
        ∙ ap (flat_map (losses_in_arc program p known)) arcs-are

  module _ (formed : IsWellFormed program) (are : AreKnown program known) where
    abbrev s : Subject
    s = subject_of program p known

    fit : IsProcFit program p
    fit = proc-fit program proc p formed is

    count : length s.nodes ≡ (own_graph p).nodes
    count = length-replicate (own_graph p).nodes (full_of program p)

    pub vocabulary-is : (node : ℕ) → node < (own_graph p).nodes → vocabulary_at (graph_by s) node ≡ full_of program p
    vocabulary-is node lt = unwrap_or-slice_get s.nodes node no_vocabulary ∙ get_or-replicate (own_graph p).nodes node (full_of program p) no_vocabulary lt

    -- the link and the formula of an edge of the graph
    link-is : (k : ℕ) (way : Arc) → slice_get (own_graph p).arcs k ≡ Some way → slice_get s.links k ≡ Some (link_of way)
    link-is k way e = slice_get-map link_of (own_graph p).arcs k ∙ ap (option_map link_of) e

    leaf-is : (k : ℕ) (way : Arc) → slice_get (own_graph p).arcs k ≡ Some way → slice_get s.leaves k ≡ Some (arc_leaf program p known way)
    leaf-is k way e = slice_get-map (arc_leaf program p known) (own_graph p).arcs k ∙ ap (option_map (arc_leaf program p known)) e

    leaf-there : (k : ℕ) (way : Arc) → slice_get (own_graph p).arcs k ≡ Some way → leaf_at (graph_by s) k ≡ arc_leaf program p known way
    leaf-there k way e = ap (λ o. unwrap_or o graphs.nothing) (leaf-is k way e)

    link-there : (k : ℕ) (way : Arc) → slice_get (own_graph p).arcs k ≡ Some way → link_at (graph_by s) k ≡ link_of way
    link-there k way e = ap (λ o. unwrap_or o (record { from = 0; to = 0 })) (link-is k way e)

    act-is : (k : ℕ) (way : Arc) → slice_get (own_graph p).arcs k ≡ Some way → IsActOf program proc way.act
    act-is k way e = record { place = k; way = way; is = ap (λ (f : FlowGraph). slice_get f.arcs k) graph-is ∙ e; does = refl }

    wide : length program.globals ≤ width_of program p
    wide = omega arith

    module _ (all : AllByRecursion IsFit s.leaves) (inside : IsGraph (own_graph p).nodes s.links) where
      fit-leaf : (k : ℕ) (way : Arc) → slice_get (own_graph p).arcs k ≡ Some way → IsFit (arc_leaf program p known way)
      fit-leaf k way e = each-get IsFit s.leaves k (arc_leaf program p known way) all (leaf-is k way e)

      leaf-fits : (k : ℕ) → k < length s.links → IsLeaf (graph_by s) k
      leaf-fits k lt =
          let short : k < length (own_graph p).arcs = subst (λ n. k < n) (length-map (own_graph p).arcs link_of) lt in
          let there = some_at (own_graph p).arcs k short in
          let way = there.0 in
          let e = there.1 in
          let f = arc_leaf program p known way in
          let ends = leaf-ends (width_of program p) (length program.globals) known way.act in
          let between = all_get (λ link. (link.from < (own_graph p).nodes) × (link.to < (own_graph p).nodes)) s.links k (link_of way) inside (link-is k way e) in
          let from : (vocabulary_at (graph_by s) (link_at (graph_by s) k).from).columns ≡ width_of program p =
          ap (λ (link : Link). (vocabulary_at (graph_by s) link.from).columns) (link-there k way e) ∙ ap (λ (voc : Vocabulary). voc.columns) (vocabulary-is way.from between.0) ∙ full-columns program p in
          let to : (vocabulary_at (graph_by s) (link_at (graph_by s) k).to).columns ≡ width_of program p =
          ap (λ (link : Link). (vocabulary_at (graph_by s) link.to).columns) (link-there k way e) ∙ ap (λ (voc : Vocabulary). voc.columns) (vocabulary-is way.to between.1) ∙ full-columns program p in
          let here = leaf-there k way e in
          let thin = narrow program p formed fit in
          let few = leaf_few program (width_of program p) wide (omega (arith, thin)) known are way.act (act-fits program proc p way.act formed is (act-is k way e)) in
          record {
            between = record {
              from_is = ap (λ (t : Transition). t.from) here ∙ ends.0 ∙ sym from;
              to_is = ap (λ (t : Transition). t.to) here ∙ ends.1 ∙ sym to;
              fits = subst IsFit (sym here) (fit-leaf k way e);
            };
            solvable = subst (λ (t : Transition). AreSolvable t.cases) (sym here) (few-solvable f.from f.to f.cases (subst (λ n. n ≤ 1000) (sym ends.1) (omega (arith, thin))) (fit-leaf k way e) few);
          }

      pub is-evaluated : (source : ℕ) → source < (own_graph p).nodes → IsEvaluated (graph_by s) source
      is-evaluated source lt = record {
        graph = subst (λ n. IsGraph n s.links) (sym count) inside;
        one_each = length-map (own_graph p).arcs (arc_leaf program p known) ∙ sym (length-map (own_graph p).arcs link_of);
        leaves = leaf-fits;
        ends = λ node within. subst IsEnd (sym (vocabulary-is node (subst (λ n. node < n) count within))) (full-end program p formed fit);
        source_is = subst (λ n. source < n) (sym count) lt;
      }

      -- ---- walks are runs

      stride-runs : (k : ℕ) (way : Arc) (before after : State) → slice_get (own_graph p).arcs k ≡ Some way → length before ≡ width_of program p
          → EdgeRelates (KnownCalls known) (length program.globals) way.act before after
          → Holds (leaf_at (graph_by s) k) before after × (length after ≡ width_of program p)
      stride-runs k way before after e long relates =
          let f = arc_leaf program p known way in
          let holds : Holds f before after = leaf_holds program (width_of program p) wide known are way.act (act-fits program proc p way.act formed is (act-is k way e)) before after long relates in (
            subst (λ t. Holds t before after) (sym (leaf-there k way e)) holds,
            length-after f before after (fit-leaf k way e) holds ∙ (leaf-ends (width_of program p) (length program.globals) known way.act).1,
          )

      walk-runs : (path : List Stride) (node last : ℕ) (before after : State) → length before ≡ width_of program p
          → Walks (KnownCalls known) (length program.globals) (own_graph p).arcs node before path last after
          → IsWalk s.links node last (map (λ (stride : Stride). stride.edge) path) × IsRun (graph_by s) (map (λ (stride : Stride). stride.edge) path) before after
      walk-runs [] node last before after long walk = walk
      walk-runs (stride ∷ path) node last before after long (way, is_way, from, relates, later) =
          let one = stride-runs stride.edge way before stride.state is_way long relates in
          let more = walk-runs path way.to last stride.state after one.1 later in
          let leads : slice_get s.links stride.edge ≡ Some (record { from = node; to = way.to }) = link-is stride.edge way is_way ∙ (λ i. Some (record { from = from i; to = way.to })) in
          ((way.to, leads, more.0), (stride.state, one.0, more.1))

      pub holds-of-walks : (source : ℕ) (cells : List (Cell Transition)) → source < (own_graph p).nodes → CellsHold (graph_by s) source cells → HoldsOfWalks program p known source cells
      holds-of-walks source cells lt hold node cell e path before after long walk =
          let runs = walk-runs path source node before after long walk in
          hold node cell e (map (λ (stride : Stride). stride.edge) path) runs.0 before after
          (long ∙ sym (ap (λ (voc : Vocabulary). voc.columns) (vocabulary-is source lt) ∙ full-columns program p)) runs.1

-- ---- for the code: what a subject is made from

module _ (program : Program) (proc : ℕ) (p : Proc) (known : List (Option Transition)) (is : IsProcOf program proc p) (g : Graph) (of : IsGraphOf program proc g) where
  pub links-inside : IsGraph (own_graph p).nodes (subject_of program p known).links
  links-inside =
      let within = subst (λ n. All (λ (edge : Edge). (edge.from < n) × (edge.to < n)) g.edges) (nodes-are program proc p known is g of) of.edges in
      subst (IsGraph (own_graph p).nodes) (links-are program proc p known is g of)
      (All-map (λ (link : Link). (link.from < (own_graph p).nodes) × (link.to < (own_graph p).nodes)) edge_link g.edges within)

  module _ (parts : Parts) (made : ArePartsOf (subject_of program p known) parts) where
    pub graph-made : graph_of_parts parts ≡ graph_by (subject_of program p known)
    graph-made = λ i. record { links = made.links i; leaves = made.leaves i; nodes = made.nodes i }

    module _ (formed : IsWellFormed program) (are : AreKnown program known) (all : AllByRecursion IsFit parts.leaves) (source : ℕ) (lt : source < g.nodes) where
      lt-own : source < (own_graph p).nodes
      lt-own = subst (λ n. source < n) (nodes-are program proc p known is g of) lt

      fit-own : AllByRecursion IsFit (subject_of program p known).leaves
      fit-own = subst (AllByRecursion IsFit) made.leaves all

      pub parts-evaluated : IsEvaluated (graph_of_parts parts) source
      parts-evaluated = subst (λ h. IsEvaluated h source) (sym graph-made) (is-evaluated program proc p known is formed are fit-own links-inside source lt-own)

      pub parts-hold : (cells : List (Cell Transition)) → CellsHold (graph_of_parts parts) source cells → HoldsOfWalks program p known source cells
      parts-hold cells hold = holds-of-walks program proc p known is formed are fit-own links-inside source cells lt-own (subst (λ h. CellsHold h source cells) graph-made hold)

    pub few-links : (formed : IsWellFormed program) → length parts.links < 2 ^ 32
    few-links formed =
        let few = few-arcs program p (proc-fit program proc p formed is) in
        let long = length-map (own_graph p).arcs link_of in
        subst (λ (links : List Link). length links < 2 ^ 32) (sym made.links) (omega (arith, few, long))

    pub few-nodes : (formed : IsWellFormed program) → length parts.nodes < 2 ^ 32
    few-nodes formed =
        let fit : IsProcFit program p = proc-fit program proc p formed is in
        let few = fit.nodes in
        let long = length-replicate (own_graph p).nodes (full_of program p) in
        subst (λ (nodes : List Vocabulary). length nodes < 2 ^ 32) (sym made.nodes) (omega (arith, few, long))
