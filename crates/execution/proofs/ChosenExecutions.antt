-- The chosen execution of a well-formed program is one of its executions, and its steps have all
-- that they need.
use Rattle.std.proofs.Common.{◌≡◌, ◌≢◌, ◌≤◌, ◌+◌, ◌-◌, ℕ, suc, ℤ, pos, Bool, true, false, List, [], ◌∷◌, ◌++◌, length, take, drop, Option, None, Some, Result, Ok, refl, sym, ap, subst, ◌∙◌, arith, ⊎_elim, inl, inr, length-append}
use Rattle.std.specs.Prelude.{IsSomeAnd, IsTrue, All, is_some, slice_get, slice_set, if◌then◌else◌}
use Rattle.std.proofs.lemmas.Bool.Decides.{Decides-eqb}
use Rattle.std.proofs.lemmas.List.{length-map, length-set, length-take-le, take-append-drop}
use Rattle.std.proofs.lemmas.Option.{get_or_from_slice_get, slice_get_within}
use Rattle.items.proofs.Gives.{on_ok}
use Rattle.syntax_tree.specs.declared.program.Proc.{Proc}
use Rattle.syntax_tree.specs.declared.program.Program.{Program}
use Rattle.syntax_tree.specs.Term.{Term}
use Rattle.syntax_tree.specs.Code.{Statement, Set, Any, Call, Guard, Check, If, Loop, Break, Continue, Return, Code, End, Then, code_of}
use Rattle.syntax_tree.specs.Value.{State, evaluation_result, is_true, value_of}
use Rattle.syntax_tree.specs.WellFormed.{IsProcFit, IsWellFormed, callee_fits, code_fits, columns_below, cond_fits, statement_fits, width_of}
use Rattle.execution.specs.declared.outcome.Event.{Event}
use Rattle.execution.specs.declared.outcome.Event.TheVariants as event
use Rattle.execution.specs.declared.outcome.Stop.{Stop}
use Rattle.execution.specs.declared.outcome.Stop.TheVariants as stop
use Rattle.execution.specs.Machine.{Item, Do, Head, Test, Tail, LoopParts, Frame, Config, Top, after_loop, pending, returned_value, state_of, to_tail, with_items, with_state}
use Rattle.execution.specs.Step.{Chooses, DoesSimple, IsEntered, IsTrueIn, Resumes, StepsBy, StepsFrom, after_return, values_of, with_value}
use Rattle.execution.specs.Execution.{initial_globals}
use Rattle.execution.specs.Chosen.{Stepped, chosen_any, chosen_branch, chosen_by, chosen_from, chosen_pass, chosen_return, first_columns, first_items, new_frame, number_in, numbers_in, zeros}
use Rattle.execution.specs.Laws.{ChosenBegins, ChosenSteps, StepsCanRun}
use Rattle.execution.specs.Runnable.{CodeCanRun, FramesCanRun, IsCallable, ItemsCanRun, LoopCanRun, StatementCanRun}
use Rattle.execution.proofs.Numbers.{both, length-zeros, numbers-length}
use Rattle.execution.proofs.Stops.{evaluated-value, number-there, passed_at, with_items_for, zero_of_false}
use Rattle.execution.proofs.Straight.{length-Changes, with_state-same}
use Rattle.execution.proofs.Widths.{globals_stay}

-- ---- what stands in a well-formed program can run

all_get : {X : Type 0} (P : X → Type 0) (xs : List X) (k : ℕ) (x : X) → All P xs → slice_get xs k ≡ Some x → P x
all_get P xs k x all e = subst P (get_or_from_slice_get xs k x x e) (all k x (slice_get_within xs k x e))

module _ (program : Program) (formed : All (IsProcFit program) program.procs) (width : ℕ) where
  cond-can : (cond : Term) → IsTrue (cond_fits width cond) → IsTrue (columns_below width cond)
  cond-can cond h = (both _ _ (both _ _ (both _ _ h).0).0).0

  callee-can : (proc args : ℕ) (awaits : Bool) (found : Option Proc) → slice_get program.procs proc ≡ found → IsTrue (callee_fits found args awaits) → IsCallable program proc args
  callee-can proc args awaits None is h = absurd (cc h)
  callee-can proc args awaits (Some callee) is h =
      let fit : IsProcFit program callee = all_get (IsProcFit program) program.procs proc callee formed is in
      let same = (Decides-eqb callee.params args).0 (both _ _ h).0 in
      record { callee = callee; is = is; params = sym same; room = fit.first; few = fit.slots }

  mutual
    statement-can : (place : _) (statement : Statement) → IsTrue (statement_fits program width place statement) → StatementCanRun program width statement
    statement-can place (Set col value) h = (both _ _ (both _ _ (both _ _ h).1).0).0
    statement-can place (Any col) h = tt
    statement-can place (Call proc args into) h =
        let parts = both _ _ (both _ _ h).0 in
        ((both _ _ (both _ _ parts.1).0).0, callee-can proc (length args) (is_some into) (slice_get program.procs proc) refl parts.0)
    statement-can place (Guard cond) h = cond-can cond h
    statement-can place (Check number cond) h = cond-can cond (both _ _ h).1
    statement-can place (If cond on_true on_false) h =
        let a = both _ _ h in let b = both _ _ a.0 in
        (cond-can cond b.0, code-can place on_true b.1, code-can place on_false a.1)
    statement-can place (Loop pre cond body step first) h =
        let a = both _ _ h in let b = both _ _ a.0 in let d = both _ _ b.0 in
        (code-can _ pre d.1, cond-can cond d.0, code-can _ body b.1, code-can _ step a.1)
    statement-can place Break h = tt
    statement-can place Continue h = tt
    statement-can place Return h = tt

    code-can : (place : _) (code : Code) → IsTrue (code_fits program width place code) → CodeCanRun program width code
    code-can place End h = tt
    code-can place (Then statement rest) h = let a = both _ _ h in (statement-can place statement a.0, code-can place rest a.1)

-- ---- lists of items

module _ (program : Program) (width : ℕ) where
  pending-can : (code : Code) (rest : List Item) → CodeCanRun program width code → ItemsCanRun program width rest → ItemsCanRun program width (pending code rest)
  pending-can End rest can others = others
  pending-can (Then statement code) rest can others = (can.0, pending-can code rest can.1 others)

  after-can : (items : List Item) → ItemsCanRun program width items → ItemsCanRun program width (after_loop items)
  after-can [] can = tt
  after-can (Do s ∷ rest) can = after-can rest can.1
  after-can (Head l ∷ rest) can = after-can rest can.1
  after-can (Test l ∷ rest) can = after-can rest can.1
  after-can (Tail l ∷ rest) can = can.1

  tail-can : (items : List Item) → ItemsCanRun program width items → ItemsCanRun program width (to_tail items)
  tail-can [] can = tt
  tail-can (Do s ∷ rest) can = tail-can rest can.1
  tail-can (Head l ∷ rest) can = tail-can rest can.1
  tail-can (Test l ∷ rest) can = tail-can rest can.1
  tail-can (Tail l ∷ rest) can = can

  loop-begins : (loop : LoopParts) (rest : List Item) (first : Bool) → LoopCanRun program width loop → ItemsCanRun program width rest
      → ItemsCanRun program width (if first then pending loop.body (Tail loop ∷ rest) else (Head loop ∷ rest))
  loop-begins loop rest true can others = pending-can loop.body (Tail loop ∷ rest) can.2 (can, others)
  loop-begins loop rest false can others = (can, others)

  loop-turns : (loop : LoopParts) (rest : List Item) (first : Bool) → LoopCanRun program width loop → ItemsCanRun program width rest
      → ItemsCanRun program width (if first then pending loop.pre (Test loop ∷ rest) else pending loop.step (Head loop ∷ rest))
  loop-turns loop rest true can others = pending-can loop.pre (Test loop ∷ rest) can.0 (can, others)
  loop-turns loop rest false can others = pending-can loop.step (Head loop ∷ rest) can.3 (can, others)

-- ---- the next configuration

module _ (program : Program) where
  abbrev Good : Config → Type 0
  Good config = FramesCanRun program (length config.globals) config.frames × (1 ≤ length config.frames)

  one_more : (n : ℕ) → 1 ≤ suc n
  one_more n = omega arith

  state-good : (top : Top) (state : State) (items : List Item) → length state ≡ length (state_of top)
      → ItemsCanRun program (length top.globals + length top.frame.own) items → FramesCanRun program (length top.globals) top.below
      → Good (with_state top state items)
  state-good top state items same can below =
      let sum = length-append top.globals top.frame.own in
      let cut : length (take (length top.globals) state) ≡ length top.globals = length-take-le (length top.globals) state (omega arith) in
      let all = length-append (take (length top.globals) state) (drop (length top.globals) state) in
      let whole : length (take (length top.globals) state) + length (drop (length top.globals) state) ≡ length top.globals + length top.frame.own =
      sym all ∙ ap length (take-append-drop (length top.globals) state) ∙ same ∙ sum in (
        (subst (λ (n : ℕ). ItemsCanRun program n items) (sym whole) can, subst (λ (n : ℕ). FramesCanRun program n top.below) (sym cut) below),
        one_more _,
      )

  simple-good : (statement : Statement) (top : Top) (rest : List Item) (next : Config) → DoesSimple statement top rest next
      → ItemsCanRun program (length top.globals + length top.frame.own) rest → FramesCanRun program (length top.globals) top.below → Good next
  simple-good statement top rest next does can below =
      subst Good (sym does.next_is) (state-good top does.after rest (length-Changes statement (state_of top) does.after does.changes) can below)

  chosen-good : (cond : Term) (top : Top) (on_true on_false : List Item) (next : Config) → Chooses cond top on_true on_false next
      → ItemsCanRun program (length top.globals + length top.frame.own) on_true → ItemsCanRun program (length top.globals + length top.frame.own) on_false
      → FramesCanRun program (length top.globals) top.below → Good next
  chosen-good cond top on_true on_false next step yes_can no_can below =
      ⊎_elim (λ p. subst Good (sym p.1) ((yes_can, below), one_more _)) (λ p. subst Good (sym p.1) ((no_can, below), one_more _)) step

  return-good : (into : Option ℕ) (value : ℤ) (caller : Top) → ItemsCanRun program (length caller.globals + length caller.frame.own) caller.frame.items
      → FramesCanRun program (length caller.globals) caller.below → Good (after_return into value caller)
  return-good None value caller can below = ((can, below), one_more _)
  return-good (Some col) value caller can below =
      state-good caller (slice_set (state_of caller) col value) caller.frame.items (length-set (state_of caller) col value) can below

  back-good : (top : Top) (frames : List Frame) (next : Config) → Resumes top frames next → FramesCanRun program (length top.globals) frames → Good next
  back-good top [] next step can = absurd step
  back-good top (caller ∷ below) next step can =
      subst Good (sym step) (return-good top.frame.into (returned_value top.frame) (record { globals = top.globals; frame = caller; below = below }) can.0 can.1)

  entered-can : (formed : All (IsProcFit program) program.procs) (proc globals : ℕ) (args : List ℤ) (into : Option ℕ) (frame : Frame) → globals ≡ length program.globals
      → IsEntered program proc args into frame → ItemsCanRun program (globals + length frame.own) frame.items
  entered-can formed proc globals args into frame same entered =
      let fit : IsProcFit program entered.callee = all_get (IsProcFit program) program.procs proc entered.callee formed entered.is in
      let sum = length-append args entered.others in
      let width = entered.width in
      let own : length frame.own ≡ length (args ++ entered.others) = ap (λ f. length f.own) entered.frame_is in
      let wide : globals + length frame.own ≡ width_of program entered.callee = omega arith in
      let body = pending-can program (width_of program entered.callee) (code_of entered.callee.body) []
      (code-can program formed (width_of program entered.callee) _ (code_of entered.callee.body) fit.body) tt in
      subst (λ (n : ℕ). ItemsCanRun program n frame.items) (sym wide)
      (subst (ItemsCanRun program (width_of program entered.callee)) (sym (ap (λ f. f.items) entered.frame_is)) body)

  step-good : (formed : All (IsProcFit program) program.procs) (top : Top) (items : List Item) (next : Config) → length top.globals ≡ length program.globals
      → ItemsCanRun program (length top.globals + length top.frame.own) items → FramesCanRun program (length top.globals) top.below
      → StepsBy program top items next → Good next
  step-good formed top [] next same can below step = back-good top top.below next step below
  step-good formed top (Do (Set col value) ∷ rest) next same can below step = simple-good (Set col value) top rest next step can.1 below
  step-good formed top (Do (Any col) ∷ rest) next same can below step = simple-good (Any col) top rest next step can.1 below
  step-good formed top (Do (Call proc args into) ∷ rest) next same can below step =
      subst Good (sym step.next_is) ((entered-can formed proc (length top.globals) step.values into step.frame same step.entered, (can.1, below)), one_more _)
  step-good formed top (Do (Guard cond) ∷ rest) next same can below step = simple-good (Guard cond) top rest next step can.1 below
  step-good formed top (Do (Check n cond) ∷ rest) next same can below step = simple-good (Check n cond) top rest next step can.1 below
  step-good formed top (Do (If cond on_true on_false) ∷ rest) next same can below step =
      chosen-good cond top _ _ next step (pending-can program _ on_true rest can.0.1 can.1) (pending-can program _ on_false rest can.0.2 can.1) below
  step-good formed top (Do (Loop pre cond body step' first) ∷ rest) next same can below step =
      subst Good (sym step) ((loop-begins program _ (record { pre = pre; cond = cond; body = body; step = step'; first = first }) rest first can.0 can.1, below), one_more _)
  step-good formed top (Do Break ∷ rest) next same can below step = subst Good (sym step) ((after-can program _ rest can.1, below), one_more _)
  step-good formed top (Do Continue ∷ rest) next same can below step = subst Good (sym step) ((tail-can program _ rest can.1, below), one_more _)
  step-good formed top (Do Return ∷ rest) next same can below step = subst Good (sym step) ((tt, below), one_more _)
  step-good formed top (Head loop ∷ rest) next same can below step =
      subst Good (sym step) ((pending-can program _ loop.pre (Test loop ∷ rest) can.0.0 (can.0, can.1), below), one_more _)
  step-good formed top (Test loop ∷ rest) next same can below step =
      chosen-good loop.cond top _ _ next step (pending-can program _ loop.body (Tail loop ∷ rest) can.0.2 (can.0, can.1)) can.1 below
  step-good formed top (Tail loop ∷ rest) next same can below step =
      subst Good (sym step) ((loop-turns program _ loop rest loop.first can.0 can.1, below), one_more _)

  from-good : (formed : All (IsProcFit program) program.procs) (globals : State) (frames : List Frame) (next : Config) → length globals ≡ length program.globals
      → FramesCanRun program (length globals) frames → StepsFrom program globals frames next → Good next
  from-good formed globals [] next same can step = absurd step
  from-good formed globals (frame ∷ below) next same can step =
      step-good formed (record { globals = globals; frame = frame; below = below }) frame.items next same can.0 can.1 step

pub steps_can_run : StepsCanRun
steps_can_run program config next formed can step =
    let good = from-good program formed.each config.globals config.frames next can.globals can.frames step in
    record { frames = good.0; globals = globals_stay program config next (next ∷ []) (step, refl) ∙ can.globals; some = good.1 }

-- ---- a chosen step is a step

abbrev answer_at : Option Event → Config → Result Stepped Stop
answer_at event next = Ok (record { event = event; next = next })

next-is : (event : Option Event) (next : Config) (stepped : Stepped) → answer_at event next ≡ Ok stepped → stepped.next ≡ next
next-is event next stepped came =
    let made : Stepped = record { event = event; next = next } in let same : made ≡ stepped = cc in sym (ap (λ s. s.next) same)

number-value : (e : Term) (state : State) (v : ℤ) → number_in e state ≡ Ok v → value_of e state ≡ Some v
number-value e state v came = evaluated-value e state (Some v) (number-there v (evaluation_result e state) came)

numbers-values : (terms : List Term) (state : State) (vs : List ℤ) → numbers_in terms state ≡ Ok vs → values_of terms state ≡ Some vs
numbers-values [] state vs came = let none : [] ≡ vs = cc in ap (λ l. Some l) none
numbers-values (e ∷ rest) state vs came =
    on_ok (number_in e state) _ vs came (λ v first later.
    on_ok (numbers_in rest state) _ vs later (λ ws others made.
    let those : v ∷ ws ≡ vs = cc in
    ap (λ o. with_value o (values_of rest state)) (number-value e state v first)
    ∙ ap (with_value (Some v)) (numbers-values rest state ws others) ∙ ap (λ l. Some l) those))

nonzero_of_true : (v : ℤ) → is_true v ≡ true → v ≢ pos 0
nonzero_of_true v e zero_there = let false_there : is_true v ≡ false = ap is_true zero_there in cc

same-state : (top : Top) (rest : List Item) → with_items top rest ≡ with_state top (state_of top) rest
same-state top rest = sym (with_state-same (with_items_for top rest))

passed-next : (event : Option Event) (otherwise : Stop) (top : Top) (rest : List Item) (stepped : Stepped) (b : Bool)
    → passed_at b event otherwise top rest ≡ Ok stepped → (b ≡ true) × (stepped.next ≡ with_items top rest)
passed-next event otherwise top rest stepped true came = (refl, next-is event (with_items top rest) stepped came)
passed-next event otherwise top rest stepped false came = absurd (cc came)

pass-steps : (event : Option Event) (otherwise : Stop) (top : Top) (rest : List Item) (cond : Term) (stepped : Stepped)
    → chosen_pass event otherwise top rest cond ≡ Ok stepped → IsTrueIn cond (state_of top) × (stepped.next ≡ with_state top (state_of top) rest)
pass-steps event otherwise top rest cond stepped came =
    on_ok (number_in cond (state_of top)) _ stepped came (λ v first later.
    let there = passed-next event otherwise top rest stepped (is_true v) later in
    ((v, number-value cond (state_of top) v first, nonzero_of_true v there.0), there.1 ∙ same-state top rest))

branch_at : Bool → Top → List Item → List Item → Config
branch_at b top on_true on_false = if b then with_items top on_true else with_items top on_false

branch-chooses : (cond : Term) (top : Top) (on_true on_false : List Item) (v : ℤ) (next : Config) (b : Bool) → is_true v ≡ b → value_of cond (state_of top) ≡ Some v
    → next ≡ (if b then with_items top on_true else with_items top on_false) → Chooses cond top on_true on_false next
branch-chooses cond top on_true on_false v next true is value next_is = inl ((v, value, nonzero_of_true v is), next_is)
branch-chooses cond top on_true on_false v next false is value next_is = inr (value ∙ ap (λ x. Some x) (zero_of_false v is), next_is)

branch-steps : (cond : Term) (top : Top) (on_true on_false : List Item) (stepped : Stepped)
    → chosen_branch top on_true on_false cond ≡ Ok stepped → Chooses cond top on_true on_false stepped.next
branch-steps cond top on_true on_false stepped came =
    on_ok (number_in cond (state_of top)) _ stepped came (λ v first later.
    branch-chooses cond top on_true on_false v stepped.next (is_true v) refl (number-value cond (state_of top) v first) (next-is None _ stepped later))

return-steps : (top : Top) (below : List Frame) (stepped : Stepped) → chosen_return top below ≡ Ok stepped → Resumes top below stepped.next
return-steps top [] stepped came = absurd (cc came)
return-steps top (caller ∷ below) stepped came = next-is _ _ stepped came

new-entered : (program : Program) (proc : ℕ) (args : List ℤ) (into : Option ℕ) → IsCallable program proc (length args) → IsEntered program proc args into (new_frame program proc args into)
new-entered program proc args into can =
    let count = length-zeros (length can.callee.columns + 1 - length args) in
    let params = can.params in let room = can.room in
    let width : length args + length (zeros (length can.callee.columns + 1 - length args)) ≡ length can.callee.columns + 1 = omega arith in
    record {
      callee = can.callee;
      is = can.is;
      params = params;
      others = zeros (length can.callee.columns + 1 - length args);
      width = width;
      frame_is = (λ i. record { proc = proc; own = first_columns (can.is i) args; items = first_items (can.is i); into = into });
    }

any-steps : (program : Program) (given : Option ℤ) (top : Top) (col : ℕ) (rest : List Item) (stepped : Stepped) → chosen_any given top rest col ≡ Ok stepped
    → DoesSimple (Any col) top rest stepped.next
any-steps program None top col rest stepped came = absurd (cc came)
any-steps program (Some v) top col rest stepped came =
    record { after = slice_set (state_of top) col v; changes = (v, refl); next_is = next-is _ _ stepped came }

chosen-by : (program : Program) (number : Option ℤ) (top : Top) (items : List Item) (stepped : Stepped)
    → ItemsCanRun program (length top.globals + length top.frame.own) items
    → chosen_by program number top items ≡ Ok stepped → StepsBy program top items stepped.next
chosen-by program number top [] stepped can came = return-steps top top.below stepped came
chosen-by program number top (Do (Set col value) ∷ rest) stepped can came =
    on_ok (number_in value (state_of top)) _ stepped came (λ v first later.
    record { after = slice_set (state_of top) col v; changes = (v, number-value value (state_of top) v first, refl); next_is = next-is None _ stepped later })
chosen-by program number top (Do (Any col) ∷ rest) stepped can came = any-steps program number top col rest stepped came
chosen-by program number top (Do (Call proc args into) ∷ rest) stepped can came =
    on_ok (numbers_in args (state_of top)) _ stepped came (λ values first later.
    record {
      values = values;
      are = numbers-values args (state_of top) values first;
      frame = new_frame program proc values into;
      entered = new-entered program proc values into (subst (λ (n : ℕ). IsCallable program proc n) (sym (numbers-length args (state_of top) values first)) can.0.1);
      next_is = next-is _ _ stepped later;
    })
chosen-by program number top (Do (Guard cond) ∷ rest) stepped can came =
    let passes = pass-steps None stop.Guard top rest cond stepped came in
    record { after = state_of top; changes = (passes.0, refl); next_is = passes.1 }
chosen-by program number top (Do (Check n cond) ∷ rest) stepped can came =
    let passes = pass-steps (Some (event.Holds n)) (stop.Failed n) top rest cond stepped came in
    record { after = state_of top; changes = (passes.0, refl); next_is = passes.1 }
chosen-by program number top (Do (If cond on_true on_false) ∷ rest) stepped can came = branch-steps cond top _ _ stepped came
chosen-by program number top (Do (Loop pre cond body step first) ∷ rest) stepped can came = next-is None _ stepped came
chosen-by program number top (Do Break ∷ rest) stepped can came = next-is None _ stepped came
chosen-by program number top (Do Continue ∷ rest) stepped can came = next-is None _ stepped came
chosen-by program number top (Do Return ∷ rest) stepped can came = next-is None _ stepped came
chosen-by program number top (Head loop ∷ rest) stepped can came = next-is None _ stepped came
chosen-by program number top (Test loop ∷ rest) stepped can came = branch-steps loop.cond top _ _ stepped came
chosen-by program number top (Tail loop ∷ rest) stepped can came = next-is None _ stepped came

chosen-from : (program : Program) (number : Option ℤ) (globals : State) (frames : List Frame) (stepped : Stepped) → FramesCanRun program (length globals) frames
    → chosen_from program number globals frames ≡ Ok stepped → StepsFrom program globals frames stepped.next
chosen-from program number globals [] stepped can came = absurd (cc came)
chosen-from program number globals (frame ∷ below) stepped can came =
    chosen-by program number (record { globals = globals; frame = frame; below = below }) frame.items stepped can.0 came

pub chosen_steps : ChosenSteps
chosen_steps program number config stepped can came = chosen-from program number config.globals config.frames stepped can.frames came

-- ---- the beginning

main-at : (program : Program) (found : Option Proc) → All (IsProcFit program) program.procs → slice_get program.procs program.main ≡ found
    → IsSomeAnd found (λ p. p.params ≡ 0) → IsCallable program program.main 0
main-at program None formed is none = absurd none
main-at program (Some p) formed is params =
    let fit : IsProcFit program p = all_get (IsProcFit program) program.procs program.main p formed is in
    record { callee = p; is = is; params = sym params; room = fit.first; few = fit.slots }

pub main-callable : (program : Program) → IsWellFormed program → IsCallable program program.main 0
main-callable program formed = main-at program (slice_get program.procs program.main) formed.each refl formed.main

pub chosen_begins : ChosenBegins
chosen_begins program formed =
    let entered = new-entered program program.main [] None (main-callable program formed) in
    let same = length-map program.globals (λ g. g.init) in (
      record { width = same; frame = new_frame program program.main [] None; entered = entered; first_is = refl },
      record {
        frames = (entered-can program formed.each program.main (length (initial_globals program)) [] None (new_frame program program.main [] None) same entered, tt);
        globals = same;
        some = omega arith;
      },
    )
