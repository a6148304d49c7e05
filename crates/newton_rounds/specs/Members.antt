-- The procedures of a recursive group, and the calls between them.
use Rattle.std.specs.Prelude.{ℕ, ◌==◌, ◌+◌, Bool, false, List, [], ◌∷◌, ◌++◌, Option, None, Some, map, slice_get, slice_set, option_to_list, if◌then◌else◌}
use Rattle.std.specs.List.{AllByRecursion, Contains, filter, flat_map}
use Rattle.std.specs.Option.{is_some, option_map}
use Rattle.path_expr.specs.Walks.{IsWalk}
use Rattle.syntax_tree.specs.declared.program.Proc.{Proc}
use Rattle.syntax_tree.specs.declared.program.Program.{Program}
use Rattle.syntax_tree.specs.Code.{Call, Statement}
use Rattle.syntax_tree.specs.Term.{Term}
use Rattle.transition_formula.specs.Transition.{Transition}
use Rattle.flow_graph.specs.FlowGraph.{Arc, graph_of}
use Rattle.proc_summary.specs.Subject.{link_of, own_graph}

-- ---- places in the group

-- where a number stands
abbrev pub place_of : ℕ → List ℕ → Option ℕ
place_of n [] = None
place_of n (m ∷ ms) = if n == m then Some 0 else option_map (λ place. place + 1) (place_of n ms)

-- the procedures, by their numbers
abbrev pub members_of : Program → List ℕ → List Proc
members_of program procs = flat_map (λ n. option_to_list (slice_get program.procs n)) procs

-- ---- calls of the group

-- an edge of a member that calls a member: their places in the group, the nodes that it leads from
-- and to, the arguments and the column that awaits the value
pub record GroupCall : Type 0 where
  pub caller : ℕ
  pub callee : ℕ
  pub from : ℕ
  pub to : ℕ
  pub args : List Term
  pub into : Option ℕ

-- a call on this edge of the member at a place of the group; [] where the callee is no member
abbrev pub call_to : ℕ → Arc → List Term → Option ℕ → Option ℕ → List GroupCall
call_to caller way args into None = []
call_to caller way args into (Some callee) =
    record {
      caller = caller;
      callee = callee;
      from = way.from;
      to = way.to;
      args = args;
      into = into;
    } ∷ []

-- the call of a member that the statement on this edge is; [] where it is none
abbrev pub call_by : List ℕ → ℕ → Arc → Statement → List GroupCall
call_by procs caller way (Call proc args into) = call_to caller way args into (place_of proc procs)
call_by procs caller way _ = []

-- those of one member, in the order of its edges
abbrev pub calls_of : List ℕ → ℕ → Proc → List GroupCall
calls_of procs caller p = flat_map (λ way. call_by procs caller way way.act) (own_graph p).arcs

-- those of these members from a place on, in order
abbrev pub calls_from : List ℕ → ℕ → List Proc → List GroupCall
calls_from procs caller [] = []
calls_from procs caller (p ∷ ps) = calls_of procs caller p ++ calls_from procs (caller + 1) ps

-- ---- linear groups

-- whether it is a call of one of these
abbrev pub is_call_to : List ℕ → Statement → Bool
is_call_to procs (Call proc args into) = is_some (place_of proc procs)
is_call_to procs _ = false

-- the edges that call one of these
abbrev pub calls_in : List ℕ → List Arc → List Arc
calls_in procs ways = filter (λ way. is_call_to procs way.act) ways

-- No walk leads from the end of such an edge to the beginning of such an edge. The walk without an
-- edge counts.
abbrev pub AreApart : List ℕ → List Arc → Type 0
AreApart procs ways =
    (first second : Arc) → Contains (calls_in procs ways) first
    → Contains (calls_in procs ways) second →
    (word : List ℕ) → ¬ IsWalk (map link_of ways) first.to second.from word

-- no call of the group can follow another in one activation of a member
abbrev pub IsLinear : Program → List ℕ → Type 0
IsLinear program procs =
    AllByRecursion (λ proc. AreApart procs (graph_of program proc).arcs) procs

-- ---- what is known

-- the known formulas, with those of a table for the members; a member past the table's end is
-- unknown
abbrev pub with_table : List ℕ → List Transition → List (Option Transition)
    → List (Option Transition)
with_table [] table known = known
with_table (p ∷ ps) [] known = with_table ps [] (slice_set known p None)
with_table (p ∷ ps) (f ∷ table) known = with_table ps table (slice_set known p (Some f))
