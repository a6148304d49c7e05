-- What is proved of assertions.
use Rattle.std.specs.Prelude.{◌≡◌, ℕ, Option, Some, slice_get}
use Rattle.syntax_tree.specs.declared.program.Proc.{Proc}
use Rattle.syntax_tree.specs.declared.program.Program.{Program}
use Rattle.syntax_tree.specs.WellFormed.{IsWellFormed}
use Rattle.execution.specs.Execution.{Fails}
use Rattle.flow_graph.specs.FlowGraph.{CheckPlace}
use Rattle.transition_formula.specs.Transition.{Transition}
use Rattle.vocabularies.specs.Procs.{IsProcOf}
use Rattle.proc_summary.specs.declared.stop.Flow.{Flow}
use Rattle.proc_summary.specs.declared.stop.NodeFormula.{NodeFormula}
use Rattle.proc_summary.specs.Claims.{FitsFlow, FlowHolds}
use Rattle.proc_summary.specs.Subject.{own_graph}
use Rattle.context.specs.Claims.{EntryHolds}
use Rattle.context.specs.Ends.{NoneFails}
use Rattle.context.specs.Verdicts.{place_of}

-- Where no state to which the entry of its procedure and the formula of its node lead makes the
-- condition of an assertion false, no execution of the program fails it.
abbrev pub AssertionsHold : Type 0
AssertionsHold =
    (program : Program) (proc check : ℕ) (p : Proc) (at : CheckPlace) (flow : Flow) (stop : NodeFormula)
    (entry : Option Transition) →
    IsWellFormed program → IsProcOf program proc p
    → slice_get (own_graph p).checks check ≡ Some at →
    slice_get flow.checks check ≡ Some stop → FitsFlow program p flow →
    EntryHolds program proc entry → FlowHolds program proc flow →
    NoneFails (place_of program p) at.cond entry stop.formula → Fails program at.number → ⊥
