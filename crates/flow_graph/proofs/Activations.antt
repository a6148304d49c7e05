-- An execution that begins in a procedure and comes to one frame, and what the activation does.
use Rattle.std.proofs.Common.{◌≡◌, ◌≤◌, ◌<◌, ℕ, ℤ, pos, ◌+◌, ◌-◌, Some, None, List, [], ◌∷◌, ◌++◌, refl, sym, ap, subst, ◌∙◌, arith, length, take, drop, length-append}
use Rattle.std.specs.Prelude.{slice_get, slice_index_or}
use Rattle.std.proofs.lemmas.List.{take-append-drop, length-take-le, length-drop, get_or-append-add}
use Rattle.syntax_tree.specs.declared.program.Proc.{Proc}
use Rattle.syntax_tree.specs.declared.program.Program.{Program}
use Rattle.syntax_tree.specs.Code.{code_of}
use Rattle.syntax_tree.specs.Value.{State}
use Rattle.execution.specs.Machine.{Item, Frame, Config, pending}
use Rattle.execution.specs.Step.{IsEntered}
use Rattle.execution.specs.Execution.{Begins, Returns, Runs}
use Rattle.flow_graph.specs.Laws.{last_of}
use Rattle.flow_graph.proofs.Moves.{plain_length}
use Rattle.flow_graph.proofs.Frames.{here, here_of, received_length}
use Rattle.flow_graph.proofs.Does.{Does, Onward, Shape, Still, Through, does_run, entry_fits, exit_state, value_in}
use Rattle.flow_graph.proofs.Fates.{alone}

abbrev pub width_in : Program → ℕ
width_in program = length program.globals

-- a procedure is entered
pub record Entry (program : Program) (proc : ℕ) (globals args : State) : Type 0 where
  pub width : length globals ≡ width_in program
  pub callee : Proc
  pub is : slice_get program.procs proc ≡ Some callee
  pub params : length args ≡ callee.params
  pub others : List ℤ
  pub columns : length args + length others ≡ length callee.columns + 1

abbrev pub first_items : {program : Program} {proc : ℕ} {globals args : State} → Entry program proc globals args → List Item
first_items entry = pending (code_of entry.callee.body) []

abbrev pub first_state : {program : Program} {proc : ℕ} {globals args : State} → Entry program proc globals args → State
first_state {globals = globals} {args = args} entry = globals ++ (args ++ entry.others)

pub entry_wide : (program : Program) (proc : ℕ) (globals args : State) (entry : Entry program proc globals args)
    → (width_in program ≤ length (first_state entry)) × (width_in program < length (first_state entry))
entry_wide program proc globals args entry =
    let one = length-append globals (args ++ entry.others) in
    let two = length-append args entry.others in
    let w = entry.width in let c = entry.columns in (omega arith, omega arith)

-- the activation did this, and stands in this frame with these globals
pub record Active (program : Program) (proc : ℕ) (globals args now : State) (frame : Frame) : Type 0 where
  pub entry : Entry program proc globals args
  pub shape : Shape
  pub final : State
  pub does : Does program (width_in program) shape (first_items entry) (first_state entry) frame.items final
  pub fits : width_in program ≤ length final
  pub now_is : take (width_in program) final ≡ now
  pub own_is : drop (width_in program) final ≡ frame.own

pub active : (program : Program) (proc : ℕ) (globals args : State) (first : Config) (steps : List Config) (now : State) (frame : Frame)
    → Begins program proc globals args first → Runs program first steps (record { globals = now; frames = frame ∷ [] })
    → Active program proc globals args now frame
active program proc globals args first steps now frame begins runs =
    let entered = begins.entered in
    let entry : Entry program proc globals args =
    record { width = begins.width; callee = entered.callee; is = entered.is; params = entered.params; others = entered.others; columns = entered.width } in
    let w = width_in program in
    let last : Config = record { globals = now; frames = frame ∷ [] } in
    let there : first ≡ here w proc None [] (first_state entry) (first_items entry) =
    begins.first_is ∙ (λ i. record { globals = globals; frames = entered.frame_is i ∷ [] })
    ∙ sym (here_of w proc None [] globals (args ++ entered.others) (first_items entry) begins.width) in
    let done = alone program w (first_items entry) (first_state entry) proc steps last (entry_wide program proc globals args entry).0 refl
    (subst (λ c. Runs program c steps last) there runs) in
    let frames : frame ∷ [] ≡ record { proc = proc; own = drop w done.final; items = done.left; into = None } ∷ [] = ap (λ c. c.frames) done.is in
    let same : frame ≡ record { proc = proc; own = drop w done.final; items = done.left; into = None } = cc in
    record {
      entry = entry;
      shape = done.shape;
      final = done.final;
      does = subst (λ items. Does program w done.shape (first_items entry) (first_state entry) items done.final) (sym (ap (λ f. f.items) same)) done.does;
      fits = done.fits;
      now_is = sym (ap (λ c. c.globals) done.is);
      own_is = sym (ap (λ f. f.own) same);
    }

-- the other way
pub record Executed (program : Program) (proc : ℕ) (globals args : State) (items : List Item) (final : State) : Type 0 where
  pub first : Config
  pub begins : Begins program proc globals args first
  pub steps : List Config
  pub runs : Runs program first steps (here (width_in program) proc None [] final items)

pub executed : (program : Program) (proc : ℕ) (globals args : State) (entry : Entry program proc globals args) (shape : Shape) (items : List Item) (final : State)
    → Does program (width_in program) shape (first_items entry) (first_state entry) items final → Executed program proc globals args items final
executed program proc globals args entry shape items final does =
    let w = width_in program in
    let run = does_run program w shape (first_items entry) (first_state entry) items final proc None [] (entry_wide program proc globals args entry).0 does in
    let frame : Frame = record { proc = proc; own = args ++ entry.others; items = first_items entry; into = None } in
    let entered : IsEntered program proc args None frame =
    record { callee = entry.callee; is = entry.is; params = entry.params; others = entry.others; width = entry.columns; frame_is = refl } in
    record {
      first = here w proc None [] (first_state entry) (first_items entry);
      begins = record {
        width = entry.width;
        frame = frame;
        entered = entered;
        first_is = here_of w proc None [] globals (args ++ entry.others) (first_items entry) entry.width;
      };
      steps = run.0;
      runs = run.1;
    }

pub does_returns : (program : Program) (proc : ℕ) (globals args : State) (entry : Entry program proc globals args) (shape : Shape) (final : State)
    → Does program (width_in program) shape (first_items entry) (first_state entry) [] final
    → Returns program proc globals args (take (width_in program) final) (value_in (width_in program) final)
does_returns program proc globals args entry shape final does =
    let run = executed program proc globals args entry shape [] final does in
    record {
      first = run.first;
      begins = run.begins;
      steps = run.steps;
      frame = record { proc = proc; own = drop (width_in program) final; items = []; into = None };
      runs = run.runs;
      done = refl;
      value_is = refl;
    }

-- ---- the number of columns stays

module _ (program : Program) (w : ℕ) where
  pub does_length : (shape : Shape) (items : List Item) (state : State) (last : List Item) (final : State)
      → Does program w shape items state last final → w ≤ length state → length final ≡ length state
  does_length Still items state last final does fits = ap length (sym does.1)
  does_length (Onward more) items state last final (next, after, step, later) fits =
      let same = plain_length items state next after step in
      let there : w ≤ length after = omega arith in
      does_length more next after last final later there ∙ same
  does_length (Through inner more) items state last final (call, is, end, inside, later) fits =
      let enough = entry_fits program w call state fits in
      let ended = does_length inner _ _ _ end inside enough in
      let there : w ≤ length end = omega arith in
      let set = received_length call.awaits (value_in w end) (take w end ++ drop w state) in
      let sum = length-append (take w end) (drop w state) in
      let cut = length-take-le w end there in
      let left = length-drop w state in
      let same : length (exit_state w call state end) ≡ length state = omega arith in
      let enough_left : w ≤ length (exit_state w call state end) = omega arith in
      does_length more call.rest _ last final later enough_left ∙ same

-- the value that is returned is the last column
pub last_value : (w : ℕ) (state : State) → w < length state → value_in w state ≡ last_of state
last_value w state more =
    let cut = length-take-le w state (omega arith) in
    let left = length-drop w state in
    let place : length (take w state) + (length (drop w state) - 1) ≡ length state - 1 = omega arith in
    sym (get_or-append-add (take w state) (drop w state) (length (drop w state) - 1) (pos 0))
    ∙ ap (λ k. slice_index_or (take w state ++ drop w state) k (pos 0)) place
    ∙ ap (λ s. slice_index_or s (length state - 1) (pos 0)) (take-append-drop w state)
