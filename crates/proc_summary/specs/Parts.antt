-- What the code makes a subject from, by the number of a procedure.
use Rattle.std.specs.Prelude.{◌≡◌, ◌<◌, ◌≤◌, ◌-◌, ℕ, All, List, [], ◌∷◌, Option, length, map}
use Rattle.std.specs.List.{flat_map}
use Rattle.flow_graph.specs.declared.parts.Act.{Act}
use Rattle.flow_graph.specs.declared.parts.Act.TheVariants as act
use Rattle.flow_graph.specs.declared.parts.CheckNode.{CheckNode}
use Rattle.flow_graph.specs.declared.parts.Edge.{Edge}
use Rattle.flow_graph.specs.declared.parts.Graph.{Graph}
use Rattle.flow_graph.specs.FlowGraph.{graph_of}
use Rattle.flow_graph.specs.Plain.{plain, statement_of_act}
use Rattle.point_induction.specs.Points.{points_of}
use Rattle.leaf_cases.specs.Conditions.{columns_at, AreKnown, IsActOf}
use Rattle.leaf_cases.specs.Edges.{leaf_of, losses_in_leaf}
use Rattle.path_expr.specs.declared.cell.Cell.{Cell}
use Rattle.path_expr.specs.declared.link.Link.{Link}
use Rattle.syntax_tree.specs.WellFormed.{IsWellFormed}
use Rattle.syntax_tree.specs.declared.program.Proc.{Proc}
use Rattle.syntax_tree.specs.declared.program.Program.{Program}
use Rattle.transition_formula.specs.declared.loss.Loss.{Loss}
use Rattle.transition_formula.specs.Transition.{Transition, IsTransition, IsFitted}
use Rattle.checked_tree.specs.Graph as graphs
use Rattle.proc_summary.specs.declared.edges.OwnGraph.{OwnGraph}
use Rattle.proc_summary.specs.declared.edges.Parts.{Parts}
use Rattle.proc_summary.specs.declared.stop.Flow.{Flow}
use Rattle.proc_summary.specs.declared.stop.NodeFormula.{NodeFormula}
use Rattle.proc_summary.specs.Subject.{Subject, subject_of}
use Rattle.proc_summary.specs.Flow.{stop_at}
use Rattle.proc_summary.specs.Summary.{exit_formula}

-- it is the flow graph of the procedure, whose edges lead between its nodes and whose assertions
-- stand at them
pub record IsGraphOf (program : Program) (proc : ℕ) (g : Graph) : Type 0 where
  pub same : plain g ≡ graph_of program proc
  pub edges : All (λ edge. (edge.from < g.nodes) × (edge.to < g.nodes)) g.edges
  pub checks : All (λ check. check.node < g.nodes) g.checks

-- the graph of a procedure of the program, and formulas that fit its procedures
pub record IsOwnGraph (own : OwnGraph) : Type 0 where
  pub formed : IsWellFormed own.program.now
  pub procedure : own.proc < length own.program.now.procs
  pub graph : IsGraphOf own.program.now own.proc own.graph.now
  pub known : AreKnown own.program.now own.known.now

-- the subject that its procedure is
abbrev pub own_subject : OwnGraph → Proc → Subject
own_subject own p = subject_of own.program.now p own.known.now

-- the two nodes of an edge of the made graph, without what it does
abbrev pub edge_link : Edge → Link
edge_link edge = record { from = edge.from; to = edge.to }

-- the formula of an edge of the made graph by the known formulas of procedures
abbrev pub edge_leaf : Program → ℕ → List (Option Transition) → Edge → Transition
edge_leaf program proc known edge = leaf_of (columns_at program proc) (length program.globals) known
    (statement_of_act edge.act)

-- what was lost where the formula of an edge was made, in order
abbrev pub losses_in_edge : Program → ℕ → List (Option Transition) → Edge → List Loss
losses_in_edge program proc known edge =
    losses_in_leaf (columns_at program proc) (length program.globals) known
    (statement_of_act edge.act)

-- each edge does what an edge of the procedure's graph does
abbrev pub AreActsOf : Program → ℕ → List Edge → Type 0
AreActsOf program proc edges = All (λ edge. IsActOf program proc (statement_of_act edge.act)) edges

-- the posts and columns of a formula are those that it says
abbrev pub IsFit : Transition → Type 0
IsFit f = IsTransition f.from f.to f.cases

-- the parts of a subject
pub record ArePartsOf (s : Subject) (parts : Parts) : Type 0 where
  pub links : parts.links ≡ s.links
  pub leaves : parts.leaves ≡ s.leaves
  pub lost : parts.lost ≡ s.lost
  pub nodes : parts.nodes ≡ s.nodes

-- the parts of a subject as a graph that can be evaluated
abbrev pub graph_of_parts : Parts → graphs.Graph
graph_of_parts parts = graphs.graph_of parts.links parts.leaves parts.nodes

-- ---- the nodes that count, by the graph that was made

-- the stop of a node from which a call leads; other acts have none
abbrev pub act_stop : ℕ → List (Cell Transition) → ℕ → Act → List NodeFormula
act_stop columns cells from (act.Call proc args into) = stop_at columns cells from ∷ []
act_stop columns cells from _ = []

-- the node from which an edge leads, with its formula, where the edge is a call: one or none
abbrev pub call_stop : ℕ → List (Cell Transition) → Edge → List NodeFormula
call_stop columns cells edge = act_stop columns cells edge.from edge.act

-- the node of an assertion with the formula at it
abbrev pub check_stop : ℕ → List (Cell Transition) → CheckNode → NodeFormula
check_stop columns cells check = stop_at columns cells check.node

-- the flow by the graph that was made, whose last node is the exit
abbrev pub graph_flow : ℕ → List (Cell Transition) → Graph → Flow
graph_flow columns cells g =
    record {
      exit = stop_at columns cells (g.nodes - 1);
      checks = map (check_stop columns cells) g.checks;
      calls = flat_map (call_stop columns cells) g.edges;
      points = map (stop_at columns cells) (points_of (plain g));
    }

-- ---- what is told of an exit

-- a formula with few cases of few auxiliaries, whose entry columns are told up to a number and
-- whose posts at these places
pub record IsToldBy (entry : ℕ) (places : List ℕ) (f : Transition) : Type 0 where
  pub fewer : entry ≤ f.from
  pub there : All (λ place. place < f.to) places
  pub short : length places ≤ 63
  pub from_few : f.from ≤ 63
  pub to_few : f.to ≤ 63
  pub fitted : IsFitted f.cases

-- the same of one that may be missing, over so many columns
abbrev pub IsToldFrom : ℕ → ℕ → List ℕ → Option Transition → Type 0
IsToldFrom columns entry places exit = IsToldBy entry places (exit_formula columns exit)
