-- The stack of an execution is a chain of activations: what each frame did, with the calls that
-- returned as one step each, goes on with every step of the machine.
use Rattle.std.proofs.Common.{◌≡◌, ◌≤◌, ℕ, Option, Some, None, List, [], ◌∷◌, ◌++◌, refl, sym, ap, subst, ◌∙◌, arith, length, take, drop}
use Rattle.std.proofs.lemmas.List.{take-append-drop, length-take-le}
use Rattle.syntax_tree.specs.declared.program.Program.{Program}
use Rattle.syntax_tree.specs.Term.{Term}
use Rattle.syntax_tree.specs.Code.{Call, code_of}
use Rattle.syntax_tree.specs.Value.{State}
use Rattle.execution.specs.Machine.{Config, Do, Frame, Item, config_of, pending}
use Rattle.execution.specs.Step.{DoesCall, IsFalseIn, Resumes, Steps, after_return, values_of}
use Rattle.execution.specs.Execution.{Begins, Runs, initial_globals}
use Rattle.flow_graph.specs.Stack.{Beginning, FailuresAreInChains, IsChain, StacksAreChains, StandsOver}
use Rattle.flow_graph.proofs.Moves.{Plain, plain_length}
use Rattle.flow_graph.proofs.Frames.{CallsOut, Ends, Inside, OneStep, frame_with, here, here_of, one_step, resumed_here, seam, top_at}
use Rattle.flow_graph.proofs.Does.{Calling, Does, IsCalling, Onward, Shape, Still, Through, does_join, entry_of, exit_fits, exit_state, value_in}
use Rattle.flow_graph.proofs.Activations.{Entry, entry_wide, first_items, first_state, width_in}
use Rattle.flow_graph.proofs.Theorems.{stands_by}

module _ (program : Program) where
  -- what an activation did so far
  record Doing (at : Beginning) (items : List Item) (state : State) : Type 0 where
    pub entry : Entry program at.proc at.globals at.args
    pub shape : Shape
    pub does : Does program (width_in program) shape (first_items entry) (first_state entry) items state

  doing_on : (at : Beginning) (items : List Item) (state : State) (more : Shape) (last : List Item) (final : State)
      → Doing at items state → Does program (width_in program) more items state last final → Doing at last final
  doing_on at items state more last final doing onward =
      let joined = does_join program (width_in program) doing.shape (first_items doing.entry) (first_state doing.entry) items state more last final doing.does onward in
      record { entry = doing.entry; shape = joined.0; does = joined.1 }

  -- `StandsOver`, by what each activation did
  abbrev Over : Beginning → Beginning → List Item → State → Option ℕ → List Frame → Type 0
  Over bottom at items state into [] = (at ≡ bottom) × Doing at items state
  Over bottom at items state into (caller ∷ below) =
      Doing at items state × (under : Beginning) × (values : List Term) × (values_of values (at.globals ++ caller.own) ≡ Some at.args)
      × (caller.proc ≡ under.proc)
      × Over bottom under (Do (Call at.proc values into) ∷ caller.items) (at.globals ++ caller.own) caller.into below

  doing_of : (bottom at : Beginning) (items : List Item) (state : State) (into : Option ℕ) (below : List Frame) → Over bottom at items state into below → Doing at items state
  doing_of bottom at items state into [] over = over.1
  doing_of bottom at items state into (caller ∷ below) over = over.0

  over_with : (bottom at : Beginning) (items : List Item) (state : State) (into : Option ℕ) (below : List Frame) (last : List Item) (final : State)
      → Over bottom at items state into below → Doing at last final → Over bottom at last final into below
  over_with bottom at items state into [] last final over doing = (over.0, doing)
  over_with bottom at items state into (caller ∷ below) last final over doing = (doing, over.1, over.2, over.3, over.4, over.5)

  -- a configuration whose frames are so
  record Chained (bottom : Beginning) (config : Config) : Type 0 where
    pub at : Beginning
    pub items : List Item
    pub state : State
    pub into : Option ℕ
    pub below : List Frame
    pub is : config ≡ here (width_in program) at.proc into below state items
    pub fits : width_in program ≤ length state
    pub over : Over bottom at items state into below

  -- ---- the steps

  after_plain : (bottom at : Beginning) (items : List Item) (state : State) (into : Option ℕ) (below : List Frame) (more : List Item) (after : State) (next : Config)
      → width_in program ≤ length state → Over bottom at items state into below → Plain items state more after
      → next ≡ here (width_in program) at.proc into below after more → Chained bottom next
  after_plain bottom at items state into below more after next fits over step is =
      let same = plain_length items state more after step in record {
        at = at;
        items = more;
        state = after;
        into = into;
        below = below;
        is = is;
        fits = omega arith;
        over = over_with bottom at items state into below more after over
            (doing_on at items state (Onward Still) more after (doing_of bottom at items state into below over) (more, after, step, (refl, refl)));
      }

  after_call : (bottom at : Beginning) (items : List Item) (state : State) (into : Option ℕ) (below : List Frame) (callee : ℕ) (args : List Term) (awaits : Option ℕ)
      (rest : List Item) (next : Config) → width_in program ≤ length state → Over bottom at items state into below → items ≡ Do (Call callee args awaits) ∷ rest
      → DoesCall program callee args awaits (top_at (width_in program) at.proc into below state items) rest next → Chained bottom next
  after_call bottom at items state into below callee args awaits rest next fits over are does =
      let w = width_in program in
      let entered = does.entered in
      let width : length (take w state) ≡ w = length-take-le w state fits in
      let called : Beginning = record { proc = callee; globals = take w state; args = does.values } in
      let entry : Entry program callee (take w state) does.values =
      record { width = width; callee = entered.callee; is = entered.is; params = entered.params; others = entered.others; columns = entered.width } in
      let body = pending (code_of entered.callee.body) [] in
      let caller = frame_with w at.proc into state rest in
      let whole : take w state ++ drop w state ≡ state = take-append-drop w state in record {
        at = called;
        items = body;
        state = first_state entry;
        into = awaits;
        below = caller ∷ below;
        is = does.next_is
            ∙ (λ i. record { globals = take w state; frames = entered.frame_is i ∷ caller ∷ below })
            ∙ sym (here_of w callee awaits (caller ∷ below) (take w state) (does.values ++ entered.others) body width);
        fits = (entry_wide program callee (take w state) does.values entry).0;
        over = (
          record { entry = entry; shape = Still; does = (refl, refl) },
          at,
          args,
          does.are,
          refl,
          subst (λ s. Over bottom at (Do (Call callee args awaits) ∷ rest) s into below) (sym whole)
              (subst (λ l. Over bottom at l state into below) are over),
        );
      }

  -- the callee's frame is gone, and what it did is one step of its caller
  after_end : (bottom at : Beginning) (items : List Item) (state : State) (into : Option ℕ) (below : List Frame) (next : Config)
      → width_in program ≤ length state → Over bottom at items state into below → items ≡ []
      → Resumes (top_at (width_in program) at.proc into below state items) below next → Chained bottom next
  after_end bottom at items state into [] next fits over are back = absurd back
  after_end bottom at items state into (caller ∷ below) next fits (doing, under, values, values_are, proc_is, over) are back =
      let w = width_in program in
      let entry = doing.entry in
      let before : State = at.globals ++ caller.own in
      let cut = seam w at.globals caller.own entry.width in
      let call : Calling = record { proc = at.proc; args = values; awaits = into; rest = caller.items; values = at.args; callee = entry.callee; others = entry.others } in
      let is : IsCalling program (Do (Call at.proc values into) ∷ caller.items) before call =
      record { items_are = refl; values_are = values_are; is = entry.is; params = entry.params; width = entry.columns } in
      let inside : Does program w doing.shape (pending (code_of entry.callee.body) []) (entry_of w call before) [] state =
      subst (λ g. Does program w doing.shape (first_items entry) (g ++ (at.args ++ entry.others)) [] state) (sym cut.0)
      (subst (λ l. Does program w doing.shape (first_items entry) (first_state entry) l state) are doing.does) in
      let after = exit_state w call before state in
      let frame : caller ≡ frame_with w under.proc caller.into before caller.items =
      λ i. record { proc = proc_is i; own = sym cut.1 i; items = caller.items; into = caller.into } in record {
        at = under;
        items = caller.items;
        state = after;
        into = caller.into;
        below = below;
        is = back
            ∙ (λ i. after_return into (value_in w state) (record { globals = take w state; frame = frame i; below = below }))
            ∙ resumed_here program w under.proc caller.into below into (value_in w state) (take w state) before caller.items (length-take-le w state fits);
        fits = exit_fits program w call before state fits;
        over = over_with bottom under (Do (Call at.proc values into) ∷ caller.items) before caller.into below caller.items after over
            (doing_on under (Do (Call at.proc values into) ∷ caller.items) before (Through doing.shape Still) caller.items after
            (doing_of bottom under (Do (Call at.proc values into) ∷ caller.items) before caller.into below over) (call, is, state, inside, (refl, refl)));
      }

  by_step : (bottom at : Beginning) (items : List Item) (state : State) (into : Option ℕ) (below : List Frame) (next : Config)
      → width_in program ≤ length state → Over bottom at items state into below
      → OneStep program (width_in program) at.proc into below state items next → Chained bottom next
  by_step bottom at items state into below next fits over (Ends are back) = after_end bottom at items state into below next fits over are back
  by_step bottom at items state into below next fits over (CallsOut callee args awaits rest are does) =
      after_call bottom at items state into below callee args awaits rest next fits over are does
  by_step bottom at items state into below next fits over (Inside more after step is) =
      after_plain bottom at items state into below more after next fits over step is

  chained_step : (bottom : Beginning) (config next : Config) → Chained bottom config → Steps program config next → Chained bottom next
  chained_step bottom config next chained step =
      let w = width_in program in
      by_step bottom chained.at chained.items chained.state chained.into chained.below next chained.fits chained.over
      (one_step program w chained.at.proc chained.into chained.below chained.state chained.items next chained.fits (subst (λ c. Steps program c next) chained.is step))

  chained_runs : (bottom : Beginning) (config : Config) (steps : List Config) (last : Config) → Chained bottom config → Runs program config steps last → Chained bottom last
  chained_runs bottom config [] last chained runs = subst (Chained bottom) runs chained
  chained_runs bottom config (next ∷ steps) last chained runs = chained_runs bottom next steps last (chained_step bottom config next chained runs.0) runs.1

  chained_first : (proc : ℕ) (globals args : State) (first : Config) → Begins program proc globals args first
      → Chained (record { proc = proc; globals = globals; args = args }) first
  chained_first proc globals args first begins =
      let w = width_in program in
      let entered = begins.entered in
      let entry : Entry program proc globals args =
      record { width = begins.width; callee = entered.callee; is = entered.is; params = entered.params; others = entered.others; columns = entered.width } in record {
        at = record { proc = proc; globals = globals; args = args };
        items = first_items entry;
        state = first_state entry;
        into = None;
        below = [];
        is = begins.first_is
            ∙ (λ i. record { globals = globals; frames = entered.frame_is i ∷ [] })
            ∙ sym (here_of w proc None [] globals (args ++ entered.others) (first_items entry) begins.width);
        fits = (entry_wide program proc globals args entry).0;
        over = (refl, record { entry = entry; shape = Still; does = (refl, refl) });
      }

  -- ---- the frames stand

  stands_over : (bottom at : Beginning) (globals : State) (frame : Frame) (below : List Frame) (items : List Item) → frame.proc ≡ at.proc
      → Over bottom at items (globals ++ frame.own) frame.into below → StandsOver program bottom at globals items frame below
  stands_over bottom at globals frame [] items proc_is over =
      (over.0, proc_is, stands_by program at.proc at.globals at.args over.1.entry over.1.shape items (globals ++ frame.own) over.1.does)
  stands_over bottom at globals frame (caller ∷ below) items proc_is (doing, under, values, values_are, caller_is, over) = (
    proc_is,
    stands_by program at.proc at.globals at.args doing.entry doing.shape items (globals ++ frame.own) doing.does,
    under,
    values,
    values_are,
    stands_over bottom under at.globals caller below (Do (Call at.proc values frame.into) ∷ caller.items) caller_is over,
  )

  chain_of : (bottom : Beginning) (config : Config) → Chained bottom config → IsChain program bottom config
  chain_of bottom config chained =
      let w = width_in program in
      let frame : Frame = frame_with w chained.at.proc chained.into chained.state chained.items in
      let globals_are : take w chained.state ≡ config.globals = sym (ap (λ c. c.globals) chained.is) in
      let whole = take-append-drop w chained.state in record {
        top = chained.at;
        frame = frame;
        below = chained.below;
        frames_are = ap (λ c. c.frames) chained.is;
        stands = subst (λ g. StandsOver program bottom chained.at g chained.items frame chained.below) globals_are
            (stands_over bottom chained.at (take w chained.state) frame chained.below chained.items refl
            (subst (λ s. Over bottom chained.at chained.items s chained.into chained.below) (sym whole) chained.over));
      }

pub stacks_are_chains : StacksAreChains
stacks_are_chains program proc globals args first last steps begins runs =
    let bottom : Beginning = record { proc = proc; globals = globals; args = args } in
    chain_of program bottom last (chained_runs program bottom first steps last (chained_first program proc globals args first begins) runs)

same_head : (one other : Frame) (rest more : List Frame) → one ∷ rest ≡ other ∷ more → one ≡ other
same_head one other rest more e = cc

pub failures_are_in_chains : FailuresAreInChains
failures_are_in_chains program number fails =
    let last = config_of fails.top in
    let chain = stacks_are_chains program program.main (initial_globals program) [] fails.first last fails.steps fails.begins fails.runs in
    let same : fails.top.frame ≡ chain.frame = same_head fails.top.frame chain.frame fails.top.below chain.below chain.frames_are in record {
      config = last;
      chain = chain;
      cond = fails.cond;
      rest = fails.rest;
      next = ap (λ f. f.items) (sym same) ∙ fails.next;
      fails = subst (λ f. IsFalseIn fails.cond (fails.top.globals ++ f.own)) same fails.fails;
    }
