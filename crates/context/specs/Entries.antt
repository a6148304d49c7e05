-- The entries of a program's procedures: a graph whose nodes are the start and the entries of
-- procedures, and whose links are the calls. Its evaluation gives each entry a formula of the
-- globals and parameters with which the procedure begins.
use Rattle.std.specs.Prelude.{ℕ, ◌+◌, ◌==◌, nat_lt, Bool, true, false, List, [], ◌∷◌, ◌++◌, Option, None, Some, length, map, slice_get, option_to_list, if◌then◌else◌}
use Rattle.std.specs.List.{flat_map, range_with_len}
use Rattle.linear_terms.specs.declared.row.Case.{Case}
use Rattle.linear_terms.specs.Polynomial.{constant_of}
use Rattle.path_expr.specs.declared.cell.Cell.{Cell}
use Rattle.path_expr.specs.declared.link.Link.{Link}
use Rattle.polyhedra.specs.Vocabulary.{Vocabulary}
use Rattle.syntax_tree.specs.declared.program.Proc.{Proc}
use Rattle.syntax_tree.specs.declared.program.Program.{Program}
use Rattle.syntax_tree.specs.Code.{Call, Statement}
use Rattle.syntax_tree.specs.Term.{Term}
use Rattle.syntax_tree.specs.WellFormed.{width_of}
use Rattle.transition_formula.specs.declared.loss.Loss.{Loss}
use Rattle.transition_formula.specs.Composition.{sequence_of, losses_in_sequence}
use Rattle.transition_formula.specs.Hiding.{hidden, losses_in_hiding}
use Rattle.transition_formula.specs.Transition.{Transition}
use Rattle.flow_graph.specs.FlowGraph.{Arc}
use Rattle.leaf_cases.specs.Edges.{arguments_of, entering, nothing_of}
use Rattle.vocabularies.specs.Ends.{entry_of, entry_width, start_of}
use Rattle.posing.specs.Logs.{loss_notes}
use Rattle.posing.specs.Posing.{Posing, Done, Noted, ◌>>=◌}
use Rattle.checked_tree.specs.Evaluation.{evaluated_cells}
use Rattle.checked_tree.specs.Graph.{Graph, graph_of}
use Rattle.proc_summary.specs.declared.stop.Flow.{Flow}
use Rattle.proc_summary.specs.declared.stop.NodeFormula.{NodeFormula}
use Rattle.proc_summary.specs.Flow.{formula_at}
use Rattle.proc_summary.specs.Subject.{own_graph}
use Rattle.context.specs.declared.stand.Widths.{Widths}

-- ---- nodes: 0 is where the program starts, 1 the entry of `main`, and then come the other
-- procedures in the order of the text

-- the node of a procedure's entry, by the number of `main` and its own, both from 0
abbrev pub node_of : ℕ → ℕ → ℕ
node_of main proc = if proc == main then 1 else (if nat_lt proc main then proc + 2 else proc + 1)

-- a vocabulary before the others; that of `main` is left out
abbrev pub unless_main : Bool → Vocabulary → List Vocabulary → List Vocabulary
unless_main true own others = others
unless_main false own others = own ∷ others

-- the vocabularies of the entries of procedures, from a number on, without that of `main`
abbrev pub others_from : Program → ℕ → List Proc → List Vocabulary
others_from program number [] = []
others_from program number (p ∷ procs) =
    unless_main (number == program.main) (entry_of program p)
    (others_from program (number + 1) procs)

-- the vocabulary of the entry of `main`, as a list of one; [] where no procedure has its number
abbrev pub main_entry : Program → List Vocabulary
main_entry program = map (entry_of program) (option_to_list (slice_get program.procs program.main))

-- the vocabularies of all nodes, in the order of their numbers
abbrev pub nodes_of : Program → List Vocabulary
nodes_of program = start_of program ∷ (main_entry program ++ others_from program 0 program.procs)

-- ---- links, each with its leaf and what was lost in making this

-- a link, the leaf that it has, and what was lost in making the leaf
pub record Way : Type 0 where
  pub link : Link
  pub leaf : Transition
  pub lost : List Loss

-- where the program starts, each global takes its first value, and `main` has no parameters
abbrev pub start_case : Program → Case
start_case program = record {
  aux = 0;
  rows = [];
  post = map (λ g. constant_of g.init) program.globals;
}

-- the leaf from the start, which has no columns, to the globals
abbrev pub start_leaf : Program → Transition
start_leaf program = record {
  from = 0;
  to = length program.globals;
  cases = start_case program ∷ [];
}

-- the way from the start to the entry of `main`, in whose making nothing is lost
abbrev pub start_way : Program → Way
start_way program = record {
  link = record { from = 0; to = 1 };
  leaf = start_leaf program;
  lost = [];
}

-- a call by its procedure and its arguments
pub record Calling : Type 0 where
  pub callee : ℕ
  pub args : List Term

-- the call that a statement is, as a list of one; [] where it is none
abbrev pub calling_by : Statement → List Calling
calling_by (Call proc args into) = record { callee = proc; args = args } ∷ []
calling_by _ = []

-- the calls on these edges, in order
abbrev pub callings_in : List Arc → List Calling
callings_in ways = flat_map (λ way. calling_by way.act) ways

-- how many columns the states of a procedure have, how many of these its entry has, and how many
-- are globals
abbrev pub widths_of : Program → Proc → Widths
widths_of program p =
    record {
      columns = width_of program p;
      entry = entry_width program p;
      globals = length program.globals;
    }

-- where a call stands, as a formula from the entry of its procedure; no case where no way leads
-- there
abbrev pub stand_of : ℕ → Option Transition → Transition
stand_of columns None = nothing_of columns
stand_of columns (Some f) = f

-- from the entry to there, with the entry's other columns as auxiliaries
abbrev pub stand_from_entry : Widths → Option Transition → Transition
stand_from_entry w stand = hidden w.entry (stand_of w.columns stand)

-- to the globals and the arguments
abbrev pub handing_of : Widths → List Term → Transition
handing_of w args = entering w.columns w.globals (length args) (arguments_of args).cases

-- the one and then the other lead to the callee's entry
abbrev pub call_leaf : Widths → Option Transition → List Term → Transition
call_leaf w stand args = sequence_of (stand_from_entry w stand) (handing_of w args)

-- what is lost in making the leaf of a call: in hiding, in the arguments, and then in the sequence
abbrev pub losses_in_call : Widths → Option Transition → List Term → List Loss
losses_in_call w stand args =
    losses_in_hiding w.entry (stand_of w.columns stand)
    ++ ((arguments_of args).lost ++ losses_in_sequence (stand_from_entry w stand) (handing_of w args))

-- the way of a call from the entry of the procedure of a number to that of its callee
abbrev pub call_way : (main number : ℕ) → Widths → Calling → NodeFormula → Way
call_way main number w calling stop =
    record {
      link = record { from = node_of main number; to = node_of main calling.callee };
      leaf = call_leaf w stop.formula calling.args;
      lost = losses_in_call w stop.formula calling.args;
    }

-- the calls of a procedure in the order of its edges, each with where it stands
abbrev pub call_ways : (main number : ℕ) → Widths → List Calling → List NodeFormula → List Way
call_ways main number w (calling ∷ callings) (stop ∷ stops) =
    call_way main number w calling stop ∷ call_ways main number w callings stops
call_ways main number w _ _ = []

-- those of all procedures, from a number on, in the order of the text
abbrev pub ways_from : Program → ℕ → List Proc → List Flow → List Way
ways_from program number (p ∷ procs) (flow ∷ flows) =
    call_ways program.main number (widths_of program p) (callings_in (own_graph p).arcs) flow.calls
    ++ ways_from program (number + 1) procs flows
ways_from program number _ _ = []

-- all ways: that from the start first, and then the calls of each procedure in the order of the
-- text
abbrev pub ways_of : Program → List Flow → List Way
ways_of program flows = start_way program ∷ ways_from program 0 program.procs flows

-- ---- the graph, and its evaluation

-- the links and the leaves of all ways, and the vocabularies of the nodes
abbrev pub entry_graph : Program → List Flow → Graph
entry_graph program flows =
    graph_of (map (λ way. way.link) (ways_of program flows))
    (map (λ way. way.leaf) (ways_of program flows)) (nodes_of program)

-- what was lost in making the leaves of all ways, in their order
abbrev pub losses_on_ways : Program → List Flow → List Loss
losses_on_ways program flows = flat_map (λ way. way.lost) (ways_of program flows)

-- the entry of each procedure in the order of the text; none where no way leads to it
abbrev pub entries_in : Program → List (Cell Transition) → List (Option Transition)
entries_in program cells =
    map (λ proc. formula_at 0 cells (node_of program.main proc))
    (range_with_len 0 (length program.procs))

-- what was lost in making the leaves is noted before the first question
unfoldable pub entries_from : Program → List Flow → Posing (List (Option Transition))
entries_from program flows =
    Noted (loss_notes (losses_on_ways program flows))
    (evaluated_cells (entry_graph program flows) 0 >>= λ cells. Done (entries_in program cells))
