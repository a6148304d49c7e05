-- Edges lead between nodes of the graph, and assertions stand at its nodes.
use Rattle.std.proofs.Common.{◌≡◌, ◌<◌, ℕ, suc, ◌+◌, List, [], ◌∷◌, Some, length, get_or, sym, ap, subst, ◌∙◌, arith}
use Rattle.std.specs.Option.{option_map}
use Rattle.std.specs.Prelude.{true, false, All, map, slice_get}
use Rattle.std.proofs.lemmas.Option.{slice_get-get_or, slice_get-map, slice_get_within}
use Rattle.syntax_tree.specs.Code.{Statement, Set, Any, Call, Guard, Check, If, Loop, Break, Continue, Return, Code, End, Then}
use Rattle.syntax_tree.specs.Nodes.{code_nodes, graph_nodes, statement_nodes}
use Rattle.syntax_tree.specs.declared.program.Program.{Program}
use Rattle.execution.specs.Machine.{Item, Do, Head, Test, Tail, pending}
use Rattle.flow_graph.specs.declared.parts.Graph.{Graph}
use Rattle.flow_graph.specs.FlowGraph.{Arc, CheckPlace, body_of, flow_of, graph_of}
use Rattle.flow_graph.specs.Plain.{arc_of, check_of, plain}
use Rattle.flow_graph.proofs.Each.{each_get}
use Rattle.flow_graph.proofs.Places.{At, all_items, items_at, items_in, parts}
use Rattle.flow_graph.proofs.EdgeSteps.{Checked, Explained, body_checked, body_explained}

mutual
  items_length : (code : Code) (rest : List Item) (after : List (List Item)) → length (items_at code rest after) ≡ code_nodes code + 1 + length after
  items_length End rest after = omega arith
  items_length (Then statement code) rest after =
      let one = inner_length statement (pending code rest) (items_at code rest after) in
      let two = items_length code rest after in omega arith

  inner_length : (statement : Statement) (rest : List Item) (after : List (List Item)) → suc (length (items_in statement rest after)) ≡ statement_nodes statement + length after
  inner_length (Set col value) rest after = omega arith
  inner_length (Any col) rest after = omega arith
  inner_length (Call proc args into) rest after = omega arith
  inner_length (Guard cond) rest after = omega arith
  inner_length (Check number cond) rest after = omega arith
  inner_length (If cond on_true on_false) rest after =
      let one = items_length on_true rest (items_at on_false rest after) in
      let two = items_length on_false rest after in omega arith
  inner_length (Loop pre cond body step false) rest after =
      let loop = parts pre cond body step false in
      let one = items_length pre (Test loop ∷ rest) (items_at body (Tail loop ∷ rest) (items_at step (Head loop ∷ rest) after)) in
      let two = items_length body (Tail loop ∷ rest) (items_at step (Head loop ∷ rest) after) in
      let three = items_length step (Head loop ∷ rest) after in omega arith
  inner_length (Loop pre cond body step true) rest after =
      let loop = parts pre cond body step true in
      let one = items_length body (Tail loop ∷ rest) (items_at pre (Test loop ∷ rest) after) in
      let two = items_length pre (Test loop ∷ rest) after in omega arith
  inner_length Break rest after = omega arith
  inner_length Continue rest after = omega arith
  inner_length Return rest after = omega arith

at_within : (body : Code) (node : ℕ) (items : List Item) → At body node items → node < graph_nodes body
at_within body node items at =
    let within = slice_get_within (all_items body) node items at in
    let all = items_length body [] ([] ∷ []) in omega arith

pub arcs_within : (body : Code) (k : ℕ) (way : Arc) → slice_get (flow_of body).arcs k ≡ Some way → (way.from < graph_nodes body) × (way.to < graph_nodes body)
arcs_within body k way is =
    let why = each_get (Explained (At body)) (flow_of body).arcs k way (body_explained body) is in
    (at_within body way.from why.items why.there, at_within body way.to why.to why.comes)

checks_within : (body : Code) (k : ℕ) (check : CheckPlace) → slice_get (flow_of body).checks k ≡ Some check → check.node < graph_nodes body
checks_within body k check is =
    let why = each_get (Checked (At body)) (flow_of body).checks k check (body_checked body) is in
    at_within body check.node (Do (Check check.number check.cond) ∷ why.0) why.1

pub edges_within : (program : Program) (proc : ℕ) (g : Graph) → plain g ≡ graph_of program proc → All (λ edge. (edge.from < g.nodes) × (edge.to < g.nodes)) g.edges
edges_within program proc g same k d within =
    let body = body_of (slice_get program.procs proc) in
    let edge = get_or g.edges k d in
    let nodes : g.nodes ≡ graph_nodes body = ap (λ f. f.nodes) same in
    let there : slice_get (map arc_of g.edges) k ≡ Some (arc_of edge) =
    slice_get-map arc_of g.edges k ∙ ap (option_map arc_of) (slice_get-get_or g.edges k d within) in
    let fits = arcs_within body k (arc_of edge) (ap (λ f. slice_get f.arcs k) (sym same) ∙ there) in
    subst (λ n. (edge.from < n) × (edge.to < n)) (sym nodes) fits

pub stops_within : (program : Program) (proc : ℕ) (g : Graph) → plain g ≡ graph_of program proc → All (λ check. check.node < g.nodes) g.checks
stops_within program proc g same k d within =
    let body = body_of (slice_get program.procs proc) in
    let check = get_or g.checks k d in
    let nodes : g.nodes ≡ graph_nodes body = ap (λ f. f.nodes) same in
    let there : slice_get (map check_of g.checks) k ≡ Some (check_of check) =
    slice_get-map check_of g.checks k ∙ ap (option_map check_of) (slice_get-get_or g.checks k d within) in
    let fits = checks_within body k (check_of check) (ap (λ f. slice_get f.checks k) (sym same) ∙ there) in
    subst (λ n. check.node < n) (sym nodes) fits
