-- Executions by hand, in every program. The top frame has the global `x`, column 0.
use Rattle.std.specs.Prelude.{◌≡◌, ℕ, pos, true, false, None, Some, List, [], ◌∷◌, slice_get}
use Rattle.syntax_tree.specs.declared.op.Op.TheVariants.{Sub}
use Rattle.syntax_tree.specs.declared.program.Proc.{Proc}
use Rattle.syntax_tree.specs.declared.program.Program.{Program}
use Rattle.syntax_tree.specs.Term.{Lit, Col, Binary}
use Rattle.syntax_tree.specs.Code.{Statement, Set, Call, Guard, Loop, Break, Continue, End, Then, code_of}
use Rattle.execution.specs.Machine.{Item, Do, Frame, Config}
use Rattle.execution.specs.Step.{Steps}
use Rattle.execution.specs.Execution.{Runs}

-- a frame with x and these items, on top of others
abbrev pub with_x : ℕ → List Item → List Frame → Config
with_x x items below = record {
  globals = pos x ∷ [];
  frames = record { proc = 0; own = pos 0 ∷ []; items = items; into = None } ∷ below;
}

-- `do { x = x - 1; continue; } while (x);`
abbrev pub count_down : Statement
count_down = Loop End (Col 0) (Then (Set 0 (Binary Sub (Col 0) (Lit (pos 1)))) (Then Continue End))
    End true

-- `continue` goes on to the test of the loop: from 2 the loop is done where x is 0
abbrev pub ContinueInDo : Type 0
ContinueInDo = (program : Program) (below : List Frame)
    → (steps : List Config) × Runs program (with_x 2 (Do count_down ∷ []) below) steps
    (with_x 0 [] below)

-- `while (1) { break; }`
abbrev pub inner_loop : Statement
inner_loop = Loop End (Lit (pos 1)) (Then Break End) End false

-- `while (1) { while (1) { break; } x = 5; break; }`
abbrev pub outer_loop : Statement
outer_loop = Loop End (Lit (pos 1)) (Then inner_loop (Then (Set 0 (Lit (pos 5))) (Then Break End)))
    End false

-- each `break` leaves its own loop
abbrev pub BreakInNestedLoop : Type 0
BreakInNestedLoop = (program : Program) (below : List Frame)
    → (steps : List Config) × Runs program (with_x 0 (Do outer_loop ∷ []) below) steps
    (with_x 5 [] below)

-- Where the body of procedure 1 is `assume(0);`, a call of it never returns: there is no step after
-- the call.
abbrev pub CallThatNeverReturns : Type 0
CallThatNeverReturns = (program : Program) (callee : Proc) (below : List Frame)
    (called next : Config)
    → slice_get program.procs 1 ≡ Some callee → code_of callee.body ≡ Then (Guard (Lit (pos 0))) End
    → Steps program (with_x 0 (Do (Call 1 [] None) ∷ []) below) called → Steps program called next
    → ⊥
