-- What `leaf` asks for, and what known formulas say of calls.
use Rattle.std.specs.Prelude.{◌≡◌, ℕ, ℤ, ◌+◌, ◌≤◌, Option, None, Some, List, [], ◌∷◌, ◌++◌, length, take, slice_get, All, if◌then◌else◌}
use Rattle.syntax_tree.specs.declared.program.Proc.{Proc}
use Rattle.syntax_tree.specs.declared.program.Program.{Program}
use Rattle.syntax_tree.specs.Code.{Statement}
use Rattle.syntax_tree.specs.WellFormed.{width_of}
use Rattle.flow_graph.specs.FlowGraph.{Arc, graph_of}
use Rattle.transition_formula.specs.Meaning.{Holds}
use Rattle.transition_formula.specs.Transition.{Transition, IsTransition, most_cases, most_auxiliaries}

-- an edge of the procedure's graph does this
pub record IsActOf (program : Program) (proc : ℕ) (statement : Statement) : Type 0 where
  pub place : ℕ
  pub way : Arc
  pub is : slice_get (graph_of program proc).arcs place ≡ Some way
  pub does : way.act ≡ statement

-- the globals, and the returned value if there is one
abbrev pub exits_of : Program → Proc → ℕ
exits_of program p = if p.returns then length program.globals + 1 else length program.globals

-- From the globals and the parameters to the globals and the returned value, with no more cases and
-- auxiliaries than a fitted formula has. Its rows may be more: a formula that is tried in rounds
-- has one for each direction of its pairs.
pub record IsKnown (program : Program) (p : Proc) (f : Transition) : Type 0 where
  pub enters : f.from ≡ length program.globals + p.params
  pub leaves : f.to ≡ exits_of program p
  pub fits : IsTransition f.from f.to f.cases
  pub cases : length f.cases ≤ most_cases
  pub auxiliaries : All (λ case. case.aux ≤ most_auxiliaries) f.cases

-- one for each procedure, some of them unknown
pub record AreKnown (program : Program) (known : List (Option Transition)) : Type 0 where
  pub each : length known ≡ length program.procs
  pub fit : (proc : ℕ) (p : Proc) (f : Transition) → slice_get program.procs proc ≡ Some p
      → slice_get known proc ≡ Some (Some f) → IsKnown program p f

-- What known formulas say of a call: that of the procedure holds of the globals and arguments
-- before, and of the globals and, where there is one, the value after.
pub record KnownCalls (known : List (Option Transition)) (proc : ℕ) (globals args left : List ℤ)
    (value : ℤ) : Type 0 where
  pub formula : Transition
  pub is : slice_get known proc ≡ Some (Some formula)
  pub same : length left ≡ length globals
  pub holds : Holds formula (globals ++ args) (take formula.to (left ++ value ∷ []))

-- how many columns the states of a procedure have; 0 where there is none
abbrev pub columns_in : Program → Option Proc → ℕ
columns_in program None = 0
columns_in program (Some p) = width_of program p

-- how many columns the states of the procedure at this place have; 0 past the end
abbrev pub columns_at : Program → ℕ → ℕ
columns_at program proc = columns_in program (slice_get program.procs proc)
