-- What every end of the stated flow and of the stated summary of a procedure is, whatever the
-- answers are, as long as they are true and pass.
use Rattle.std.specs.Prelude.{◌≡◌, ◌↔◌, ℕ, All, List, Option, None, map}
use Rattle.path_expr.specs.Walks.{IsWalk}
use Rattle.syntax_tree.specs.declared.program.Proc.{Proc}
use Rattle.syntax_tree.specs.declared.program.Program.{Program}
use Rattle.syntax_tree.specs.WellFormed.{IsWellFormed}
use Rattle.transition_formula.specs.Transition.{Transition}
use Rattle.leaf_cases.specs.Conditions.{AreKnown, IsKnown}
use Rattle.leaf_cases.specs.Summaries.{AreMet, SummaryIsMet}
use Rattle.posing.specs.Posing.{AlwaysPassing, Posing, ◌>>=◌}
use Rattle.vocabularies.specs.Procs.{IsProcOf}
use Rattle.proc_summary.specs.declared.stop.Flow.{Flow}
use Rattle.proc_summary.specs.declared.stop.NodeFormula.{NodeFormula}
use Rattle.proc_summary.specs.Claims.{FitsFlow, FlowHolds, KnowsCallees}
use Rattle.proc_summary.specs.Flow.{flow_from}
use Rattle.proc_summary.specs.Subject.{link_of, own_graph, subject_of}
use Rattle.proc_summary.specs.Summary.{ends_of, summary_from}

-- a path of the procedure's graph leads from its entry to the node, by these edges
abbrev pub LeadsTo : Proc → ℕ → List ℕ → Type 0
LeadsTo p node edges = IsWalk (map link_of (own_graph p).arcs) 0 node edges

-- a stop has no formula exactly where no path leads to its node
abbrev pub TellsWay : Proc → NodeFormula → Type 0
TellsWay p stop = (stop.formula ≡ None) ↔ ((edges : List ℕ) → ¬ LeadsTo p stop.node edges)

-- the exit of a flow, its assertions, its calls and its points have a formula exactly where a path
-- leads to them
pub record FlowTellsWays (p : Proc) (flow : Flow) : Type 0 where
  pub exit : TellsWay p flow.exit
  pub checks : All (TellsWay p) flow.checks
  pub calls : All (TellsWay p) flow.calls
  pub points : All (TellsWay p) flow.points

-- it fits the procedure, tells which nodes are led to, and holds of activations where the known
-- formulas are met
pub record IsTrueFlow (program : Program) (proc : ℕ) (p : Proc)
    (known : List (Option Transition)) (flow : Flow) : Type 0 where
  pub fits : FitsFlow program p flow
  pub ways : FlowTellsWays p flow
  pub holds : KnowsCallees p known → AreMet program known → FlowHolds program proc flow

-- every end of the stated flow of a procedure of a well-formed program is true of it
abbrev pub FlowsAreTrue : Type 0
FlowsAreTrue =
    (program : Program) (proc : ℕ) (p : Proc) (known : List (Option Transition))
    → IsWellFormed program → IsProcOf program proc p → AreKnown program known →
    AlwaysPassing (IsTrueFlow program proc p known) (flow_from (subject_of program p known))

-- the summary of a procedure by the exit of its flow
abbrev pub summary_by_flow : Program → Proc → List (Option Transition) → Posing Transition
summary_by_flow program p known = flow_from (subject_of program p known)
    >>= λ flow. summary_from (ends_of program p) flow.exit.formula

-- it is one that may be known, and is met where the known formulas are
pub record IsTrueSummary (program : Program) (proc : ℕ) (p : Proc)
    (known : List (Option Transition)) (f : Transition) : Type 0 where
  pub fits : IsKnown program p f
  pub met : KnowsCallees p known → AreMet program known → SummaryIsMet program proc f

-- every end of the stated summary of a procedure of a well-formed program is true of it
abbrev pub SummariesAreTrue : Type 0
SummariesAreTrue =
    (program : Program) (proc : ℕ) (p : Proc) (known : List (Option Transition))
    → IsWellFormed program → IsProcOf program proc p → AreKnown program known →
    AlwaysPassing (IsTrueSummary program proc p known) (summary_by_flow program p known)
