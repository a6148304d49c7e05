-- What an activation does, with each call as one step: a tree, whose executions on the machine
-- stand at any place of a stack.
use Rattle.std.proofs.Common.{◌≡◌, ◌≤◌, ℕ, ℤ, ◌+◌, Option, Some, None, List, [], ◌∷◌, ◌++◌, refl, sym, subst, arith, length, take, drop, length-append}
use Rattle.std.specs.Prelude.{max, slice_get}
use Rattle.std.proofs.lemmas.List.{take-append-drop, length-take-le}
use Rattle.syntax_tree.specs.declared.program.Proc.{Proc}
use Rattle.syntax_tree.specs.declared.program.Program.{Program}
use Rattle.syntax_tree.specs.Term.{Term}
use Rattle.syntax_tree.specs.Code.{Call, code_of}
use Rattle.syntax_tree.specs.Value.{State}
use Rattle.execution.specs.Machine.{Item, Do, Frame, Config, pending, returned_value}
use Rattle.execution.specs.Step.{DoesCall, Steps, values_of}
use Rattle.execution.specs.Execution.{Runs}
use Rattle.execution.proofs.Joining.{runs_join}
use Rattle.flow_graph.specs.Walks.{state_with_value}
use Rattle.flow_graph.proofs.Moves.{Plain, plain_length}
use Rattle.flow_graph.proofs.Frames.{frame_with, here, here_of, plain_in, received_length, resumed_here, top_at}

-- a tree of steps: a call has those of its callee
pub data Shape : Type 0 where
  Still : Shape
  Onward : (more : Shape) → Shape
  Through : (inner more : Shape) → Shape

-- how deep its calls go
abbrev pub height : Shape → ℕ
height Still = 0
height (Onward more) = height more
height (Through inner more) = max (1 + height inner) (height more)

pub record Calling : Type 0 where
  pub proc : ℕ
  pub args : List Term
  pub awaits : Option ℕ
  pub rest : List Item
  pub values : List ℤ
  pub callee : Proc
  pub others : List ℤ

pub record IsCalling (program : Program) (items : List Item) (state : State) (call : Calling) : Type 0 where
  pub items_are : items ≡ Do (Call call.proc call.args call.awaits) ∷ call.rest
  pub values_are : values_of call.args state ≡ Some call.values
  pub is : slice_get program.procs call.proc ≡ Some call.callee
  pub params : length call.values ≡ call.callee.params
  pub width : length call.values + length call.others ≡ length call.callee.columns + 1

-- the value that is returned from a state
abbrev pub value_in : ℕ → State → ℤ
value_in w state = returned_value (record { proc = 0; own = drop w state; items = []; into = None })

abbrev pub entry_of : ℕ → Calling → State → State
entry_of w call state = take w state ++ (call.values ++ call.others)

abbrev pub exit_state : ℕ → Calling → State → State → State
exit_state w call state end = state_with_value call.awaits (value_in w end) (take w end ++ drop w state)

abbrev pub Does : Program → ℕ → Shape → List Item → State → List Item → State → Type 0
Does program w Still items state last final = (items ≡ last) × (state ≡ final)
Does program w (Onward more) items state last final =
    (next : List Item) × (after : State) × Plain items state next after × Does program w more next after last final
Does program w (Through inner more) items state last final =
    (call : Calling) × IsCalling program items state call
    × (end : State) × Does program w inner (pending (code_of call.callee.body) []) (entry_of w call state) [] end
    × Does program w more call.rest (exit_state w call state end) last final

module _ (program : Program) (w : ℕ) where
  pub entry_fits : (call : Calling) (state : State) → w ≤ length state → w ≤ length (entry_of w call state)
  entry_fits call state fits =
      let cut = length-take-le w state fits in let sum = length-append (take w state) (call.values ++ call.others) in omega arith

  pub exit_fits : (call : Calling) (state end : State) → w ≤ length end → w ≤ length (exit_state w call state end)
  exit_fits call state end fits =
      let cut = length-take-le w end fits in
      let sum = length-append (take w end) (drop w state) in
      let same = received_length call.awaits (value_in w end) (take w end ++ drop w state) in omega arith

  pub does_fits : (shape : Shape) (items : List Item) (state : State) (last : List Item) (final : State)
      → Does program w shape items state last final → w ≤ length state → w ≤ length final
  does_fits Still items state last final does fits = subst (λ s. w ≤ length s) does.1 fits
  does_fits (Onward more) items state last final (next, after, step, later) fits =
      let same = plain_length items state next after step in
      let there : w ≤ length after = omega arith in
      does_fits more next after last final later there
  does_fits (Through inner more) items state last final (call, is, end, inside, later) fits =
      let there = does_fits inner _ _ _ end inside (entry_fits call state fits) in
      does_fits more call.rest _ last final later (exit_fits call state end there)

  -- one after the other
  pub does_join : (shape : Shape) (items : List Item) (state : State) (between : List Item) (middle : State) (second : Shape) (last : List Item) (final : State)
      → Does program w shape items state between middle → Does program w second between middle last final
      → (joined : Shape) × Does program w joined items state last final
  does_join Still items state between middle second last final one other =
      (second, subst (λ s. Does program w second items s last final) (sym one.1) (subst (λ l. Does program w second l middle last final) (sym one.0) other))
  does_join (Onward more) items state between middle second last final (next, after, step, later) other =
      let joined = does_join more next after between middle second last final later other in
      (Onward joined.0, (next, after, step, joined.1))
  does_join (Through inner more) items state between middle second last final (call, is, end, inside, later) other =
      let joined = does_join more call.rest _ between middle second last final later other in
      (Through inner joined.0, (call, is, end, inside, joined.1))

  -- the call is made, on top of any frames
  enters : (proc : ℕ) (into : Option ℕ) (below : List Frame) (items : List Item) (state : State) (call : Calling) → w ≤ length state
      → IsCalling program items state call
      → Steps program (here w proc into below state items)
      (here w call.proc call.awaits (frame_with w proc into state call.rest ∷ below) (entry_of w call state) (pending (code_of call.callee.body) []))
  enters proc into below items state call fits is =
      let caller = frame_with w proc into state call.rest in
      let body = pending (code_of call.callee.body) [] in
      let does : DoesCall program call.proc call.args call.awaits (top_at w proc into below state (Do (Call call.proc call.args call.awaits) ∷ call.rest)) call.rest
      (here w call.proc call.awaits (caller ∷ below) (entry_of w call state) body) = record {
        values = call.values;
        are = subst (λ s. values_of call.args s ≡ Some call.values) (sym (take-append-drop w state)) is.values_are;
        frame = record { proc = call.proc; own = call.values ++ call.others; items = body; into = call.awaits };
        entered = record { callee = call.callee; is = is.is; params = is.params; others = call.others; width = is.width; frame_is = refl };
        next_is = here_of w call.proc call.awaits (caller ∷ below) (take w state) (call.values ++ call.others) body (length-take-le w state fits);
      } in
      subst (λ l. Steps program (here w proc into below state l) (here w call.proc call.awaits (caller ∷ below) (entry_of w call state) body)) (sym is.items_are) does

  pub does_run : (shape : Shape) (items : List Item) (state : State) (last : List Item) (final : State) (proc : ℕ) (into : Option ℕ) (below : List Frame)
      → w ≤ length state → Does program w shape items state last final
      → (steps : List Config) × Runs program (here w proc into below state items) steps (here w proc into below final last)
  does_run Still items state last final proc into below fits does = ([], (λ i. here w proc into below (does.1 i) (does.0 i)))
  does_run (Onward more) items state last final proc into below fits (next, after, step, later) =
      let same = plain_length items state next after step in
      let there : w ≤ length after = omega arith in
      let onward = does_run more next after last final proc into below there later in
      (here w proc into below after next ∷ onward.0, (plain_in program w proc into below state items next after fits step, onward.1))
  does_run (Through inner more) items state last final proc into below fits (call, is, end, inside, later) =
      let caller = frame_with w proc into state call.rest in
      let body = pending (code_of call.callee.body) [] in
      let entered = entry_of w call state in
      let in_callee = does_run inner body entered [] end call.proc call.awaits (caller ∷ below) (entry_fits call state fits) inside in
      let ended = does_fits inner body entered [] end inside (entry_fits call state fits) in
      let after = exit_state w call state end in
      let onward = does_run more call.rest after last final proc into below (exit_fits call state end ended) later in
      let called = here w call.proc call.awaits (caller ∷ below) entered body in
      let done = here w call.proc call.awaits (caller ∷ below) end [] in
      let back : Steps program done (here w proc into below after call.rest) =
      sym (resumed_here program w proc into below call.awaits (value_in w end) (take w end) state call.rest (length-take-le w end ended)) in
      let tail : Runs program done (here w proc into below after call.rest ∷ onward.0) (here w proc into below final last) = (back, onward.1) in (
        called ∷ (in_callee.0 ++ here w proc into below after call.rest ∷ onward.0),
        (
          enters proc into below items state call fits is,
          runs_join program called done (here w proc into below final last) in_callee.0 (here w proc into below after call.rest ∷ onward.0) in_callee.1 tail,
        ),
      )
