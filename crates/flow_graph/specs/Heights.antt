-- A procedure that returns does so with a tree of calls: each call on its walk returns with a tree
-- that is lower. Induction on the height is how a property of all procedures of a recursive group
-- is shown.
use Rattle.std.specs.Prelude.{◌≡◌, ◌↔◌, ◌≤◌, ℕ, zero, suc, ℤ, ◌+◌, Some, List, ◌++◌, length, take, slice_get}
use Rattle.syntax_tree.specs.declared.program.Proc.{Proc}
use Rattle.syntax_tree.specs.declared.program.Program.{Program}
use Rattle.syntax_tree.specs.Value.{State}
use Rattle.execution.specs.Execution.{Returns}
use Rattle.flow_graph.specs.FlowGraph.{body_of, exit_of, graph_of}
use Rattle.flow_graph.specs.Laws.{last_of}
use Rattle.flow_graph.specs.Walks.{CallMeaning, Stride, Walks}

-- A procedure returns over a walk from the entry of its graph to the exit, where calls mean this.
pub record ReturnsOver (calls : CallMeaning) (program : Program) (proc : ℕ)
    (globals args after : State) (value : ℤ) : Type 0 where
  pub width : length globals ≡ length program.globals
  pub callee : Proc
  pub is : slice_get program.procs proc ≡ Some callee
  pub params : length args ≡ callee.params
  pub others : List ℤ
  pub columns : length args + length others ≡ length callee.columns + 1
  pub path : List Stride
  pub final : State
  pub walk : Walks calls (length program.globals) (graph_of program proc).arcs
      0 (globals ++ (args ++ others)) path (exit_of (body_of (slice_get program.procs proc))) final
  pub after_is : take (length program.globals) final ≡ after
  pub value_is : last_of final ≡ value

-- It returns with a tree of calls whose height is below this.
abbrev pub ReturnsWithin : Program → ℕ → CallMeaning
ReturnsWithin program zero proc globals args after value = ⊥
ReturnsWithin program (suc n) proc globals args after value =
    ReturnsOver (ReturnsWithin program n) program proc globals args after value

-- exactly the calls that return have such a tree
abbrev pub ReturnsHaveHeights : Type 0
ReturnsHaveHeights = (program : Program) (proc : ℕ) (globals args after : State) (value : ℤ)
    → Returns program proc globals args after value
    ↔ ((n : ℕ) × ReturnsWithin program n proc globals args after value)

-- a bound on the height may grow
abbrev pub HeightsGrow : Type 0
HeightsGrow = (program : Program) (n m : ℕ) (proc : ℕ) (globals args after : State) (value : ℤ)
    → n ≤ m
    → ReturnsWithin program n proc globals args after value
    → ReturnsWithin program m proc globals args after value
