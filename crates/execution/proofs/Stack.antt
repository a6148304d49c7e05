-- Frames below one that is left stay as they are.
use Rattle.std.proofs.Common.{◌≡◌, ℕ, ◌<◌, List, [], ◌∷◌, ◌++◌, suc, refl, ap, subst, ◌∙◌, ℤ, Option, Some, None, length, arith, ⊎_elim}
use Rattle.std.proofs.lemmas.List.Elements.{All-head, All-tail}
use Rattle.syntax_tree.specs.declared.program.Program.{Program}
use Rattle.syntax_tree.specs.Code.{Statement, Set, Any, Call, Guard, Check, If, Loop, Break, Continue, Return}
use Rattle.syntax_tree.specs.Term.{Term}
use Rattle.execution.specs.Machine.{Item, Do, Head, Test, Tail, Frame, Config, Top, returned_value, with_items}
use Rattle.execution.specs.Step.{DoesSimple, Resumes, StepsBy, StepsFrom, Chooses, after_return}
use Rattle.execution.specs.Laws.{Above, FramesBelowStay}

resumed-frames : (into : Option ℕ) (value : ℤ) (caller : Top) → (frame : Frame) × ((after_return into value caller).frames ≡ frame ∷ caller.below)
resumed-frames None value caller = (caller.frame, refl)
resumed-frames (Some col) value caller = (_, refl)

-- the frame that was left is the one above: then the step leaves no frame above
back_to_below : (top : Top) (below : List Frame) (next : Config) → Resumes top below next → length below < length next.frames → ⊥
back_to_below top [] next step more = absurd step
back_to_below top (caller ∷ below) next step more =
    let there = resumed-frames top.frame.into (returned_value top.frame) (record { globals = top.globals; frame = caller; below = below }) in
    let same : length next.frames ≡ suc (length below) = ap length (ap (λ c. c.frames) step ∙ there.1) in
    omega arith

back_to : (top : Top) (between below : List Frame) (next : Config) → Resumes top (between ++ below) next → length below < length next.frames → Above below next.frames
back_to top [] below next step more = absurd (back_to_below top below next step more)
back_to top (caller ∷ between) below next step more =
    let there = resumed-frames top.frame.into (returned_value top.frame) (record { globals = top.globals; frame = caller; below = between ++ below }) in
    (there.0, between, ap (λ c. c.frames) step ∙ there.1)

-- the step replaces the top frame
replaced : (top : Top) (frame : Frame) (between below : List Frame) (next : Config) → top.below ≡ between ++ below → next.frames ≡ frame ∷ top.below → Above below next.frames
replaced top frame between below next split is = (frame, between, is ∙ ap (λ frames. frame ∷ frames) split)

items_replaced : (top : Top) (items : List Item) (between below : List Frame) (next : Config) → top.below ≡ between ++ below → next ≡ with_items top items → Above below next.frames
items_replaced top items between below next split is = replaced top _ between below next split (ap (λ c. c.frames) is)

chosen_replaced : (cond : Term) (top : Top) (on_true on_false : List Item) (between below : List Frame) (next : Config) → top.below ≡ between ++ below
    → Chooses cond top on_true on_false next → Above below next.frames
chosen_replaced cond top on_true on_false between below next split =
    ⊎_elim (λ p. items_replaced top on_true between below next split p.1) (λ p. items_replaced top on_false between below next split p.1)

simple_replaced : (statement : Statement) (top : Top) (rest : List Item) (between below : List Frame) (next : Config) → top.below ≡ between ++ below
    → DoesSimple statement top rest next → Above below next.frames
simple_replaced statement top rest between below next split does = replaced top _ between below next split (ap (λ c. c.frames) does.next_is)

stay_by_items : (program : Program) (top : Top) (items : List Item) (between below : List Frame) (next : Config) → top.below ≡ between ++ below
    → StepsBy program top items next → length below < length next.frames → Above below next.frames
stay_by_items program top [] between below next split step more = back_to top between below next (subst (λ frames. Resumes top frames next) split step) more
stay_by_items program top (Do (Set col value) ∷ rest) between below next split step more = simple_replaced (Set col value) top rest between below next split step
stay_by_items program top (Do (Any col) ∷ rest) between below next split step more = simple_replaced (Any col) top rest between below next split step
stay_by_items program top (Do (Guard cond) ∷ rest) between below next split step more = simple_replaced (Guard cond) top rest between below next split step
stay_by_items program top (Do (Check number cond) ∷ rest) between below next split step more = simple_replaced (Check number cond) top rest between below next split step
stay_by_items program top (Do (Call proc args into) ∷ rest) between below next split step more =
    (step.frame, record top.frame { items = rest } ∷ between, ap (λ c. c.frames) step.next_is ∙ ap (λ frames. step.frame ∷ record top.frame { items = rest } ∷ frames) split)
stay_by_items program top (Do (If cond on_true on_false) ∷ rest) between below next split step more = chosen_replaced cond top _ _ between below next split step
stay_by_items program top (Do (Loop pre cond body step' first) ∷ rest) between below next split step more = items_replaced top _ between below next split step
stay_by_items program top (Do Break ∷ rest) between below next split step more = items_replaced top _ between below next split step
stay_by_items program top (Do Continue ∷ rest) between below next split step more = items_replaced top _ between below next split step
stay_by_items program top (Do Return ∷ rest) between below next split step more = items_replaced top _ between below next split step
stay_by_items program top (Head loop ∷ rest) between below next split step more = items_replaced top _ between below next split step
stay_by_items program top (Test loop ∷ rest) between below next split step more = chosen_replaced loop.cond top _ _ between below next split step
stay_by_items program top (Tail loop ∷ rest) between below next split step more = items_replaced top _ between below next split step

stay_by_step : (program : Program) (config next : Config) (below : List Frame) → Above below config.frames
    → StepsFrom program config.globals config.frames next → length below < length next.frames → Above below next.frames
stay_by_step program config next below (frame, between, are) step more =
    let top : Top = record { globals = config.globals; frame = frame; below = between ++ below } in
    stay_by_items program top frame.items between below next refl (subst (λ frames. StepsFrom program config.globals frames next) are step) more

pub frames_below_stay : FramesBelowStay
frames_below_stay program below first last [] above runs longer = subst (λ c. Above below c.frames) runs above
frames_below_stay program below first last (next ∷ steps) above runs longer =
    frames_below_stay program below next last steps
    (stay_by_step program first next below above runs.0 (All-head (λ c. length below < length c.frames) next steps longer))
    runs.1 (All-tail (λ c. length below < length c.frames) next steps longer)
