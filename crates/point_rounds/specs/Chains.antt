-- Activations on top of a stack in an execution from `main`: `main` as it begins, and what is
-- called by one that is.
use Rattle.std.specs.Prelude.{◌≡◌, ℕ, Option, Some, List, [], slice_get, length, take}
use Rattle.syntax_tree.specs.declared.program.Program.{Program}
use Rattle.syntax_tree.specs.Code.{Call}
use Rattle.syntax_tree.specs.Term.{Term}
use Rattle.syntax_tree.specs.Value.{State}
use Rattle.execution.specs.Execution.{initial_globals}
use Rattle.execution.specs.Machine.{Config}
use Rattle.execution.specs.Step.{values_of}
use Rattle.flow_graph.specs.FlowGraph.{Arc}
use Rattle.flow_graph.specs.Stack.{Beginning, IsChain}
use Rattle.flow_graph.specs.Walks.{WalksTo}
use Rattle.point_induction.specs.Induction.{IsFirstState, arcs_of, start_of}

-- an activation that began so is on top of a stack from `main`
pub record StandsOnChain (program : Program) (top : Beginning) : Type 0 where
  pub config : Config
  pub chain : IsChain program (start_of program) config
  pub is : chain.top ≡ top

-- Where an activation on top of a stack from `main` comes to a call in a state, what the called
-- procedure begins with is on top of one: the globals of that state and the arguments' values.
abbrev pub CalledStandOnChains : Type 0
CalledStandOnChains = (program : Program) (caller : Beginning) (after : State) (edge : ℕ)
    (way : Arc) (callee : ℕ) (terms : List Term) (into : Option ℕ) (values first : State)
    → StandsOnChain program caller
    → slice_get (arcs_of program caller.proc) edge ≡ Some way
    → way.act ≡ Call callee terms into
    → WalksTo program caller.proc caller.globals caller.args way.from after
    → values_of terms after ≡ Some values
    → IsFirstState program callee (take (length program.globals) after) values first
    → StandsOnChain program (record {
      proc = callee;
      globals = take (length program.globals) after;
      args = values;
    })

-- Where `main` can begin, it is on top of a stack from `main`.
abbrev pub MainStandsOnChain : Type 0
MainStandsOnChain = (program : Program) (first : State)
    → IsFirstState program program.main (initial_globals program) [] first
    → StandsOnChain program (start_of program)
