-- The ways out of a point: to the heads, to the calls, to the exit and to the checks that can be
-- come to before a head is entered.
use Rattle.std.specs.Prelude.{ℕ, ◌+◌, ◌==◌, ◌||◌, not, Bool, List, [], ◌∷◌, ◌++◌, Option, None, Some, length, if◌then◌else◌}
use Rattle.std.specs.List.{flat_map}
use Rattle.path_expr.specs.declared.cell.Cell.{Cell}
use Rattle.syntax_tree.specs.declared.program.Proc.{Proc}
use Rattle.syntax_tree.specs.declared.program.Program.{Program}
use Rattle.syntax_tree.specs.Code.{Call, Statement, code_of}
use Rattle.syntax_tree.specs.Term.{Term}
use Rattle.syntax_tree.specs.WellFormed.{width_of}
use Rattle.transition_formula.specs.Composition.{losses_in_sequence, sequence_of}
use Rattle.transition_formula.specs.Transition.{Transition}
use Rattle.flow_graph.specs.FlowGraph.{Arc, CheckPlace, exit_of}
use Rattle.leaf_cases.specs.Edges.{arguments_of, entering}
use Rattle.proc_summary.specs.Flow.{formula_at}
use Rattle.proc_summary.specs.Subject.{own_graph}
use Rattle.point_induction.specs.Points.{heads_of, is_head}
use Rattle.point_steps.specs.declared.outs.WayOut.{WayOut}
use Rattle.point_steps.specs.declared.target.Target.{Target}
use Rattle.point_steps.specs.declared.target.Target.TheVariants.{Head, Entry, Exit, Check}

-- the way to a target by a formula in whose making nothing was lost, as a list of one; [] where no
-- way leads there
abbrev pub out_to : Target → Option Transition → List WayOut
out_to target None = []
out_to target (Some f) = record { target = target; formula = f; lost = [] } ∷ []

-- no head is entered on the way from a point to the node: it is the point, or no head
abbrev pub is_passed : List Arc → (point node : ℕ) → Bool
is_passed arcs point node = node == point || not (is_head arcs node)

-- the list where the node is passed, else []
abbrev pub if_passed : List Arc → (point node : ℕ) → List WayOut → List WayOut
if_passed arcs point node outs = if is_passed arcs point node then outs else []

-- ---- heads

-- those to heads in order, whose arrivals are numbered from one on
abbrev pub head_outs : (columns : ℕ) → List (Cell Transition) → (arrival : ℕ) → List ℕ
    → List WayOut
head_outs columns cells arrival [] = []
head_outs columns cells arrival (head ∷ heads) =
    out_to (Head head) (formula_at columns cells arrival)
    ++ head_outs columns cells (arrival + 1) heads

-- ---- calls

-- from a state to the globals and the arguments
abbrev pub arguments_formula : (columns globals : ℕ) → List Term → Transition
arguments_formula columns globals args =
    entering columns globals (length args) (arguments_of args).cases

-- the way to where a call stands, and then to the entry of the callee
abbrev pub entry_out : (columns globals : ℕ) → Transition → ℕ → List Term → WayOut
entry_out columns globals way callee args =
    record {
      target = Entry callee;
      formula = sequence_of way (arguments_formula columns globals args);
      lost = (arguments_of args).lost
          ++ losses_in_sequence way (arguments_formula columns globals args);
    }

-- the same as a list of one; [] where no way leads to the call
abbrev pub entry_outs : (columns globals : ℕ) → ℕ → List Term → Option Transition → List WayOut
entry_outs columns globals callee args None = []
entry_outs columns globals callee args (Some way) = entry_out columns globals way callee args ∷ []

-- that of an edge by what it does, if its start is passed; edges that are no calls have none
abbrev pub act_outs : (columns globals : ℕ) → List (Cell Transition) → List Arc → (point from : ℕ)
    → Statement → List WayOut
act_outs columns globals cells arcs point from (Call callee args into) =
    if_passed arcs point from
    (entry_outs columns globals callee args (formula_at columns cells from))
act_outs columns globals cells arcs point from _ = []

-- the same by the edge
abbrev pub edge_outs : (columns globals : ℕ) → List (Cell Transition) → List Arc → (point : ℕ) → Arc
    → List WayOut
edge_outs columns globals cells arcs point way =
    act_outs columns globals cells arcs point way.from way.act

-- those of all calls, in the order of the edges
abbrev pub call_outs : (columns globals : ℕ) → List (Cell Transition) → List Arc → (point : ℕ)
    → List WayOut
call_outs columns globals cells arcs point =
    flat_map (edge_outs columns globals cells arcs point) arcs

-- ---- the exit

-- that to the exit; none of `main`, whose return ends the execution
abbrev pub exit_outs : (main proc : ℕ) → (columns : ℕ) → List (Cell Transition) → (exit : ℕ)
    → List WayOut
exit_outs main proc columns cells exit =
    if proc == main then [] else out_to Exit (formula_at columns cells exit)

-- ---- checks

-- those to checks in order, which are numbered from one on, if their nodes are passed
abbrev pub check_outs : (columns : ℕ) → List (Cell Transition) → List Arc → (point number : ℕ)
    → List CheckPlace → List WayOut
check_outs columns cells arcs point number [] = []
check_outs columns cells arcs point number (check ∷ checks) =
    if_passed arcs point check.node (out_to (Check number) (formula_at columns cells check.node))
    ++ check_outs columns cells arcs point (number + 1) checks

-- ---- all

-- the ways out of a point of the procedure of a number, by the cells of its ways: to heads, to
-- calls, to the exit, and to checks
abbrev pub outs_of : Program → (proc : ℕ) → Proc → (point : ℕ) → List (Cell Transition)
    → List WayOut
outs_of program proc p point cells =
    head_outs (width_of program p) cells (own_graph p).nodes (heads_of (own_graph p))
    ++ (call_outs (width_of program p) (length program.globals) cells (own_graph p).arcs point
    ++ (exit_outs program.main proc (width_of program p) cells (exit_of (code_of p.body))
    ++ check_outs (width_of program p) cells (own_graph p).arcs point 0 (own_graph p).checks))
