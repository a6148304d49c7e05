-- What becomes of a frame in an execution: it is on top, there is one above it, or it was left.
use Rattle.std.proofs.Common.{◌≡◌, ◌≤◌, ◌<◌, ℕ, zero, suc, Option, Some, None, List, [], ◌∷◌, ◌++◌, refl, sym, ap, subst, ◌∙◌, arith, length, take}
use Rattle.std.proofs.lemmas.List.{take-append-drop, length-take-le}
use Rattle.syntax_tree.specs.declared.program.Program.{Program}
use Rattle.syntax_tree.specs.Term.{Term}
use Rattle.syntax_tree.specs.Code.{Call, code_of}
use Rattle.syntax_tree.specs.Value.{State}
use Rattle.execution.specs.Machine.{Item, Do, Frame, Config, pending}
use Rattle.execution.specs.Step.{DoesCall, Resumes, after_return, values_of}
use Rattle.execution.specs.Execution.{Runs}
use Rattle.flow_graph.proofs.Moves.{Plain, plain_length}
use Rattle.flow_graph.proofs.Frames.{CallsOut, Ends, Inside, OneStep, frame_with, here, here_of, one_step, resumed_here, top_at}
use Rattle.flow_graph.proofs.Does.{Calling, Does, IsCalling, Onward, Shape, Still, Through, entry_fits, entry_of, exit_fits, exit_state, value_in}

module _ (program : Program) (w : ℕ) where
  -- where the execution goes on from a frame that was left, in `n` steps at most
  pub record Leaves (into : Option ℕ) (below : List Frame) (end : State) (n : ℕ) (last : Config) : Type 0 where
    pub caller : Frame
    pub under : List Frame
    pub below_are : below ≡ caller ∷ under
    pub steps : List Config
    pub fewer : length steps ≤ n
    pub runs : Runs program (after_return into (value_in w end) (record { globals = take w end; frame = caller; below = under })) steps last

  pub data Fate (proc : ℕ) (into : Option ℕ) (below : List Frame) (state : State) (items : List Item) (n : ℕ) (last : Config) : Type 0 where
    OnTop : (shape : Shape) (left : List Item) (final : State) → Does program w shape items state left final → w ≤ length final
        → last ≡ here w proc into below final left → Fate proc into below state items n last
    Under : suc (length below) < length last.frames → Fate proc into below state items n last
    Left : (shape : Shape) (end : State) → Does program w shape items state [] end → w ≤ length end
        → Leaves into below end n last → Fate proc into below state items n last

  abbrev pub Fates : ℕ → Type 0
  Fates n = (proc : ℕ) (into : Option ℕ) (below : List Frame) (state : State) (items : List Item) (steps : List Config) (last : Config)
      → w ≤ length state → length steps ≤ n → Runs program (here w proc into below state items) steps last
      → Fate proc into below state items n last

  leaves_later : (into : Option ℕ) (below : List Frame) (end : State) (n : ℕ) (last : Config) → Leaves into below end n last → Leaves into below end (suc n) last
  leaves_later into below end n last leaves = record {
    caller = leaves.caller;
    under = leaves.under;
    below_are = leaves.below_are;
    steps = leaves.steps;
    fewer = (let fewer = leaves.fewer in omega arith);
    runs = leaves.runs;
  }

  after_plain : (proc : ℕ) (into : Option ℕ) (below : List Frame) (state : State) (items more : List Item) (after : State) (n : ℕ) (last : Config)
      → Plain items state more after → Fate proc into below after more n last → Fate proc into below state items (suc n) last
  after_plain proc into below state items more after n last step (OnTop shape left final does fits is) =
      OnTop (Onward shape) left final (more, after, step, does) fits is
  after_plain proc into below state items more after n last step (Under above) = Under above
  after_plain proc into below state items more after n last step (Left shape end does fits leaves) =
      Left (Onward shape) end (more, after, step, does) fits (leaves_later into below end n last leaves)

  after_call : (proc : ℕ) (into : Option ℕ) (below : List Frame) (state : State) (items : List Item) (n : ℕ) (last : Config)
      (call : Calling) (inner : Shape) (end : State) → IsCalling program items state call
      → Does program w inner (pending (code_of call.callee.body) []) (entry_of w call state) [] end
      → Fate proc into below (exit_state w call state end) call.rest n last → Fate proc into below state items (suc n) last
  after_call proc into below state items n last call inner end is inside (OnTop shape left final does fits same) =
      OnTop (Through inner shape) left final (call, is, end, inside, does) fits same
  after_call proc into below state items n last call inner end is inside (Under above) = Under above
  after_call proc into below state items n last call inner end is inside (Left shape final does fits leaves) =
      Left (Through inner shape) final (call, is, end, inside, does) fits (leaves_later into below final n last leaves)

  same_caller : (caller frame : Frame) (under below : List Frame) → frame ∷ below ≡ caller ∷ under → (caller ≡ frame) × (under ≡ below)
  same_caller caller frame under below e = (cc, cc)

  -- the callee's fate is known
  of_call : (n : ℕ) → Fates n → (proc : ℕ) (into : Option ℕ) (below : List Frame) (state : State) (items : List Item) (last : Config) (call : Calling)
      → w ≤ length state → IsCalling program items state call
      → Fate call.proc call.awaits (frame_with w proc into state call.rest ∷ below) (entry_of w call state) (pending (code_of call.callee.body) []) n last
      → Fate proc into below state items (suc n) last
  of_call n fates proc into below state items last call fits is (OnTop shape left final does ends same) =
      let frames : length last.frames ≡ suc (suc (length below)) = ap (λ c. length c.frames) same in
      Under (omega arith)
  of_call n fates proc into below state items last call fits is (Under above) = Under (omega arith)
  of_call n fates proc into below state items last call fits is (Left shape end does ends leaves) =
      let frame = frame_with w proc into state call.rest in
      let those = same_caller leaves.caller frame leaves.under below leaves.below_are in
      let after = exit_state w call state end in
      let back : after_return call.awaits (value_in w end) (record { globals = take w end; frame = leaves.caller; below = leaves.under }) ≡ here w proc into below after call.rest =
      (λ i. after_return call.awaits (value_in w end) (record { globals = take w end; frame = those.0 i; below = those.1 i }))
      ∙ resumed_here program w proc into below call.awaits (value_in w end) (take w end) state call.rest (length-take-le w end ends) in
      after_call proc into below state items n last call shape end is does
      (fates proc into below after call.rest leaves.steps last (exit_fits program w call state end ends) leaves.fewer
      (subst (λ c. Runs program c leaves.steps last) back leaves.runs))

  by_call : (n : ℕ) → Fates n → (proc : ℕ) (into : Option ℕ) (below : List Frame) (state : State) (items : List Item) (next : Config) (steps : List Config) (last : Config)
      (callee : ℕ) (args : List Term) (awaits : Option ℕ) (rest : List Item) → w ≤ length state → length steps ≤ n
      → items ≡ Do (Call callee args awaits) ∷ rest
      → DoesCall program callee args awaits (top_at w proc into below state items) rest next
      → Runs program next steps last → Fate proc into below state items (suc n) last
  by_call n fates proc into below state items next steps last callee args awaits rest fits fewer are does runs =
      let entered = does.entered in
      let call : Calling = record { proc = callee; args = args; awaits = awaits; rest = rest; values = does.values; callee = entered.callee; others = entered.others } in
      let is : IsCalling program items state call = record {
        items_are = are;
        values_are = subst (λ s. values_of args s ≡ Some does.values) (take-append-drop w state) does.are;
        is = entered.is;
        params = entered.params;
        width = entered.width;
      } in
      let frame = frame_with w proc into state rest in
      let body = pending (code_of entered.callee.body) [] in
      let there : next ≡ here w callee awaits (frame ∷ below) (entry_of w call state) body =
      does.next_is
      ∙ (λ i. record { globals = take w state; frames = entered.frame_is i ∷ frame ∷ below })
      ∙ sym (here_of w callee awaits (frame ∷ below) (take w state) (does.values ++ entered.others) body (length-take-le w state fits)) in
      of_call n fates proc into below state items last call fits is
      (fates callee awaits (frame ∷ below) (entry_of w call state) body steps last (entry_fits program w call state fits) fewer
      (subst (λ c. Runs program c steps last) there runs))

  by_end : (n proc : ℕ) (into : Option ℕ) (below : List Frame) (state : State) (items : List Item) (next : Config) (steps : List Config) (last : Config)
      → w ≤ length state → length steps ≤ n → items ≡ [] → Resumes (top_at w proc into below state items) below next
      → Runs program next steps last → Fate proc into below state items (suc n) last
  by_end n proc into [] state items next steps last fits fewer are back runs = absurd back
  by_end n proc into (caller ∷ below) state items next steps last fits fewer are back runs =
      Left Still state (are, refl) fits (record {
        caller = caller;
        under = below;
        below_are = refl;
        steps = steps;
        fewer = omega arith;
        runs = subst (λ c. Runs program c steps last) back runs;
      })

  by_step : (n : ℕ) → Fates n → (proc : ℕ) (into : Option ℕ) (below : List Frame) (state : State) (items : List Item) (next : Config) (steps : List Config) (last : Config)
      → w ≤ length state → length steps ≤ n → Runs program next steps last
      → OneStep program w proc into below state items next → Fate proc into below state items (suc n) last
  by_step n fates proc into below state items next steps last fits fewer runs (Ends are back) =
      by_end n proc into below state items next steps last fits fewer are back runs
  by_step n fates proc into below state items next steps last fits fewer runs (CallsOut callee args awaits rest are does) =
      by_call n fates proc into below state items next steps last callee args awaits rest fits fewer are does runs
  by_step n fates proc into below state items next steps last fits fewer runs (Inside more after step is) =
      let same = plain_length items state more after step in
      let there : w ≤ length after = omega arith in
      after_plain proc into below state items more after n last step
      (fates proc into below after more steps last there fewer (subst (λ c. Runs program c steps last) is runs))

  still : (n proc : ℕ) (into : Option ℕ) (below : List Frame) (state : State) (items : List Item) (last : Config) → w ≤ length state
      → here w proc into below state items ≡ last → Fate proc into below state items n last
  still n proc into below state items last fits is = OnTop Still items state (refl, refl) fits (sym is)

  pub fates : (n : ℕ) → Fates n
  fates zero proc into below state items [] last fits fewer runs = still zero proc into below state items last fits runs
  fates zero proc into below state items (next ∷ steps) last fits fewer runs = absurd (omega arith)
  fates (suc n) proc into below state items [] last fits fewer runs = still (suc n) proc into below state items last fits runs
  fates (suc n) proc into below state items (next ∷ steps) last fits fewer runs =
      let left : length steps ≤ n = omega arith in
      by_step n (fates n) proc into below state items next steps last fits left runs.1
      (one_step program w proc into below state items next fits runs.0)

  -- an execution of one frame alone that comes to one frame
  pub record Alone (items : List Item) (state : State) (proc : ℕ) (last : Config) : Type 0 where
    pub shape : Shape
    pub left : List Item
    pub final : State
    pub does : Does program w shape items state left final
    pub fits : w ≤ length final
    pub is : last ≡ here w proc None [] final left

  alone_of : (items : List Item) (state : State) (proc n : ℕ) (last : Config) → length last.frames ≡ 1 → Fate proc None [] state items n last → Alone items state proc last
  alone_of items state proc n last one (OnTop shape left final does fits is) = record { shape = shape; left = left; final = final; does = does; fits = fits; is = is }
  alone_of items state proc n last one (Under above) = absurd (omega arith)
  alone_of items state proc n last one (Left shape end does fits leaves) = absurd (cc leaves.below_are)

  pub alone : (items : List Item) (state : State) (proc : ℕ) (steps : List Config) (last : Config) → w ≤ length state → length last.frames ≡ 1
      → Runs program (here w proc None [] state items) steps last → Alone items state proc last
  alone items state proc steps last fits one runs =
      alone_of items state proc (length steps) last one (fates (length steps) proc None [] state items steps last fits (omega arith) runs)
