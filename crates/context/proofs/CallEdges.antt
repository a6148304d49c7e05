-- The calls among the edges of a procedure's graph can be made links, and each has a stop in its
-- flow.
use Rattle.std.proofs.Common.{◌≡◌, ℕ, length, map, List, [], ◌∷◌, Option, refl, sym, ap, subst, ◌∙◌, length-append, arith}
use Rattle.std.specs.Prelude.{All}
use Rattle.std.specs.List.{AllByRecursion}
use Rattle.std.proofs.lemmas.List.{length-map}
use Rattle.std.proofs.lemmas.List.Elements.{All-from_recursion}
use Rattle.std.proofs.lemmas.Option.{slice_get_within}
use Rattle.syntax_tree.specs.declared.program.Proc.{Proc}
use Rattle.syntax_tree.specs.declared.program.Program.{Program}
use Rattle.syntax_tree.specs.Code.{Statement, Set, Any, Call, Guard, Check, If, Loop, Break, Continue, Return}
use Rattle.syntax_tree.specs.WellFormed.{IsWellFormed, width_of}
use Rattle.vocabularies.specs.Procs.{IsProcOf}
use Rattle.flow_graph.specs.declared.parts.Edge.{Edge}
use Rattle.flow_graph.specs.declared.parts.Graph.{Graph}
use Rattle.flow_graph.specs.FlowGraph.{Arc, FlowGraph, body_of, flow_of, graph_of}
use Rattle.flow_graph.specs.Plain.{arc_of, plain, statement_of_act}
use Rattle.leaf_cases.proofs.Graphs.{EdgeFits}
use Rattle.proc_summary.specs.declared.stop.Flow.{Flow}
use Rattle.proc_summary.specs.declared.stop.NodeFormula.{NodeFormula}
use Rattle.proc_summary.specs.Claims.{FitsFlow}
use Rattle.proc_summary.specs.Subject.{call_node, call_nodes, own_graph}
use Rattle.context.specs.Entries.{calling_by, callings_in}
use Rattle.context.specs.Made.{IsCallFit, callings_on}
use Rattle.context.proofs.AssertionPlaces.{proc-fit}
use Rattle.context.proofs.WaysFit.{arcs-fit}

call-fit : (program : Program) (columns : ℕ) (statement : Statement) → IsWellFormed program → EdgeFits program columns statement → IsCallFit columns statement
call-fit program columns (Set col value) formed h = tt
call-fit program columns (Any col) formed h = tt
call-fit program columns (Call proc args into) formed h =
    let within = slice_get_within program.procs proc h.callee h.is in
    let procs = formed.procedures in
    let params = (proc-fit program proc h.callee formed h.is).params in
    let same = h.params in
    (omega (arith, within, procs), record { below = h.below; operators = h.operators; few = omega (arith, params, same) })
call-fit program columns (Guard cond) formed h = tt
call-fit program columns (Check number cond) formed h = tt
call-fit program columns (If cond a b) formed h = tt
call-fit program columns (Loop pre cond body step first) formed h = tt
call-fit program columns Break formed h = tt
call-fit program columns Continue formed h = tt
call-fit program columns Return formed h = tt

each-call : (program : Program) (columns : ℕ) (edges : List Edge) → IsWellFormed program → AllByRecursion (λ (way : Arc). EdgeFits program columns way.act) (map arc_of edges)
    → AllByRecursion (λ (edge : Edge). IsCallFit columns (statement_of_act edge.act)) edges
each-call program columns [] formed h = tt
each-call program columns (edge ∷ edges) formed h = (call-fit program columns (statement_of_act edge.act) formed h.0, each-call program columns edges formed h.1)

as-many-nodes : (arcs : List Arc) → length (callings_in arcs) ≡ length (call_nodes arcs)
as-many-nodes [] = refl
as-many-nodes (way ∷ arcs) =
    let rest = as-many-nodes arcs in
    let one = length-append (calling_by way.act) (callings_in arcs) in
    let other = length-append (call_node way.from way.act) (call_nodes arcs) in
    let same = own way.from way.act in omega (arith, rest, one, other, same)
  where
    own : (node : ℕ) (statement : Statement) → length (calling_by statement) ≡ length (call_node node statement)
    own node (Set col value) = refl
    own node (Any col) = refl
    own node (Call proc args into) = refl
    own node (Guard cond) = refl
    own node (Check number cond) = refl
    own node (If cond a b) = refl
    own node (Loop pre cond body step first) = refl
    own node Break = refl
    own node Continue = refl
    own node Return = refl

module _ (program : Program) (number : ℕ) (p : Proc) (is : IsProcOf program number p) (g : Graph) (same : plain g ≡ graph_of program number) where
  arcs-are : map arc_of g.edges ≡ (own_graph p).arcs
  arcs-are = ap (λ (f : FlowGraph). f.arcs) (same ∙ ap (λ (o : Option Proc). flow_of (body_of o)) is)

  pub callings-are : callings_on g.edges ≡ callings_in (own_graph p).arcs
  callings-are = ap callings_in arcs-are

  pub calls-fit : IsWellFormed program → All (λ (edge : Edge). IsCallFit (width_of program p) (statement_of_act edge.act)) g.edges
  calls-fit formed =
      All-from_recursion (λ (edge : Edge). IsCallFit (width_of program p) (statement_of_act edge.act)) g.edges
      (each-call program (width_of program p) g.edges formed
      (subst (AllByRecursion (λ (way : Arc). EdgeFits program (width_of program p) way.act)) (sym arcs-are) (arcs-fit program formed number p is)))

  pub as-many : (flow : Flow) → FitsFlow program p flow → length (callings_on g.edges) ≡ length flow.calls
  as-many flow fit = ap length callings-are ∙ as-many-nodes (own_graph p).arcs ∙ sym (ap length fit.calls_are) ∙ length-map flow.calls (λ (s : NodeFormula). s.node)
