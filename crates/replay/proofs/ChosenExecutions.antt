-- What the chosen execution comes to: an execution of the program, whose choices take the first
-- values.
use Rattle.std.proofs.Common.{◌≡◌, ◌≤◌, ◌+◌, ℕ, zero, suc, ℤ, Bool, true, false, List, [], ◌∷◌, ◌++◌, length, take, Option, None, Some, Result, Ok, refl, sym, ap, subst, ◌∙◌, arith, add-one, length-append, append-nil}
use Rattle.std.specs.Prelude.{slice_get}
use Rattle.std.proofs.lemmas.Option.{get_or_from_slice_get, slice_get_within}
use Rattle.std.proofs.Math.Seq.{take-suc}
use Rattle.items.specs.Gives.{◌>>=◌}
use Rattle.items.proofs.Gives.{on_ok}
use Rattle.syntax_tree.specs.declared.program.Program.{Program}
use Rattle.syntax_tree.specs.Code.{Set, Any, Call, Guard, Check, If, Loop, Break, Continue, Return}
use Rattle.syntax_tree.specs.Value.{State, is_true}
use Rattle.syntax_tree.specs.Term.{Term}
use Rattle.syntax_tree.specs.WellFormed.{IsWellFormed}
use Rattle.execution.specs.declared.outcome.Event.{Event}
use Rattle.execution.specs.declared.outcome.Event.TheVariants as event
use Rattle.execution.specs.declared.outcome.Stop.{Stop}
use Rattle.execution.specs.declared.outcome.Stop.TheVariants as why
use Rattle.execution.specs.Machine.{Item, Do, Head, Test, Tail, Frame, Config, Top, state_of}
use Rattle.execution.specs.Chosen.{Stepped, chosen_any, chosen_by, chosen_from, chosen_return, chosen_start, chosen_step, number_in, numbers_in}
use Rattle.execution.specs.Runnable.{ConfigCanRun}
use Rattle.execution.proofs.ChosenExecutions.{chosen_begins, chosen_steps, steps_can_run}
use Rattle.execution.proofs.Stops.{passed_at}
use Rattle.execution.proofs.Joining.{runs_join}
use Rattle.replay.specs.Chosen.{Reached, chosen, further, events_after, step_on, count_after}
use Rattle.replay.specs.Laws.{ChoicesTakeValues, ChosenIsExecution, IsExecution, numbers_taken}

-- ---- one step more

-- a step on is a chosen step
pub on_step : {P : Type 0} (program : Program) (values : List ℤ) (here next : Reached) → step_on program values here ≡ Ok next
    → ((s : Stepped) → chosen_step program (slice_get values here.taken) here.config ≡ Ok s → next ≡ further here s → P) → P
on_step program values here next came then =
    on_ok (chosen_step program (slice_get values here.taken) here.config) _ next came (λ s stepped last.
    let same : further here s ≡ next = cc in then s stepped (sym same))

record Came (program : Program) (steps : ℕ) (config : Config) : Type 0 where
  pub execution : IsExecution program steps config
  pub can : ConfigCanRun program config

came : (program : Program) (values : List ℤ) (steps : ℕ) (here : Reached) → IsWellFormed program → chosen program values steps ≡ Ok here → Came program steps here.config
came program values zero here formed is =
    let first : Reached = record { config = chosen_start program; taken = 0; events = [] } in
    let same : first ≡ here = cc in
    let begins = chosen_begins program formed in
    let start : Came program 0 (chosen_start program) = record {
      execution = record { first = chosen_start program; begins = begins.0; over = []; as_many = refl; runs = refl };
      can = begins.1;
    } in
    subst (λ r. Came program 0 r.config) same start
came program values (suc n) here formed is =
    on_ok (chosen program values n) _ here is (λ r before later.
    on_step program values r here later (λ s stepped last.
    let so_far = came program values n r formed before in
    let step = chosen_steps program (slice_get values r.taken) r.config s so_far.can stepped in
    let run = so_far.execution in
    let more : Came program (suc n) s.next = record {
      execution = record {
        first = run.first;
        begins = run.begins;
        over = run.over ++ s.next ∷ [];
        as_many = (let sum = length-append run.over (s.next ∷ []) in let many = run.as_many in omega arith);
        runs = runs_join program run.first r.config s.next run.over (s.next ∷ []) run.runs (step, refl);
      };
      can = steps_can_run program r.config s.next formed so_far.can step;
    } in
    subst (λ x. Came program (suc n) x.config) (sym last) more))

pub chosen_is_execution : ChosenIsExecution
chosen_is_execution program values steps here formed is = (came program values steps here formed is).execution

pub chosen-can : (program : Program) (values : List ℤ) (steps : ℕ) (here : Reached) → IsWellFormed program → chosen program values steps ≡ Ok here → ConfigCanRun program here.config
chosen-can program values steps here formed is = (came program values steps here formed is).can

-- ---- choices

abbrev OfChoice : Option ℤ → Option Event → Type 0
OfChoice number shown = (v : ℤ) → shown ≡ Some (event.Any v) → number ≡ Some v

abbrev answer : Option Event → Config → Result Stepped Stop
answer shown next = Ok (record { event = shown; next = next })

other-shown : (number : Option ℤ) (shown : Option Event) (next : Config) (s : Stepped) → answer shown next ≡ Ok s → OfChoice number shown → OfChoice number s.event
other-shown number shown next s is choice =
    let made : Stepped = record { event = shown; next = next } in
    let same : made ≡ s = cc in subst (λ x. OfChoice number x.event) same choice

quiet : (number : Option ℤ) → OfChoice number None
quiet number v e = absurd (cc e)

after_number : (number : Option ℤ) (e : Term) (state : State) (shown : Option Event) (next : ℤ → Config) (s : Stepped) → OfChoice number shown
    → number_in e state >>= (λ v. answer shown (next v)) ≡ Ok s → OfChoice number s.event
after_number number e state shown next s choice is = on_ok (number_in e state) _ s is (λ v first later. other-shown number shown (next v) s later choice)

by_return : (number : Option ℤ) (top : Top) (below : List Frame) (s : Stepped) → chosen_return top below ≡ Ok s → OfChoice number s.event
by_return number top [] s is = absurd (cc is)
by_return number top (caller ∷ below) s is = other-shown number _ _ s is (λ v e. absurd (cc e))

by_any : (number given : Option ℤ) (top : Top) (col : ℕ) (rest : List Item) (s : Stepped) → number ≡ given → chosen_any given top rest col ≡ Ok s → OfChoice number s.event
by_any number None top col rest s same is = absurd (cc is)
by_any number (Some w) top col rest s same is =
    other-shown number _ _ s is (λ v e. let those : w ≡ v = cc in same ∙ ap (λ x. Some x) those)

by_pass : (number : Option ℤ) (shown : Option Event) (otherwise : Stop) (top : Top) (rest : List Item) (v : ℤ) (b : Bool) (s : Stepped) → OfChoice number shown
    → passed_at b shown otherwise top rest ≡ Ok s → OfChoice number s.event
by_pass number shown otherwise top rest v true s choice is = other-shown number shown _ s is choice
by_pass number shown otherwise top rest v false s choice is = absurd (cc is)

by_items : (program : Program) (number : Option ℤ) (top : Top) (items : List Item) (s : Stepped) → chosen_by program number top items ≡ Ok s → OfChoice number s.event
by_items program number top [] s is = by_return number top top.below s is
by_items program number top (Do (Set col value) ∷ rest) s is = after_number number value (state_of top) None _ s (quiet number) is
by_items program number top (Do (Any col) ∷ rest) s is = by_any number number top col rest s refl is
by_items program number top (Do (Call proc args into) ∷ rest) s is =
    on_ok (numbers_in args (state_of top)) _ s is (λ vs first later. other-shown number _ _ s later (λ v e. absurd (cc e)))
by_items program number top (Do (Guard cond) ∷ rest) s is =
    on_ok (number_in cond (state_of top)) _ s is (λ v first later. by_pass number None why.Guard top rest v (is_true v) s (quiet number) later)
by_items program number top (Do (Check n cond) ∷ rest) s is =
    on_ok (number_in cond (state_of top)) _ s is (λ v first later. by_pass number (Some (event.Holds n)) (why.Failed n) top rest v (is_true v) s (λ w e. absurd (cc e)) later)
by_items program number top (Do (If cond on_true on_false) ∷ rest) s is = after_number number cond (state_of top) None _ s (quiet number) is
by_items program number top (Do (Loop pre cond body step first) ∷ rest) s is = other-shown number None _ s is (quiet number)
by_items program number top (Do Break ∷ rest) s is = other-shown number None _ s is (quiet number)
by_items program number top (Do Continue ∷ rest) s is = other-shown number None _ s is (quiet number)
by_items program number top (Do Return ∷ rest) s is = other-shown number None _ s is (quiet number)
by_items program number top (Head loop ∷ rest) s is = other-shown number None _ s is (quiet number)
by_items program number top (Test loop ∷ rest) s is = after_number number loop.cond (state_of top) None _ s (quiet number) is
by_items program number top (Tail loop ∷ rest) s is = other-shown number None _ s is (quiet number)

by_frames : (program : Program) (number : Option ℤ) (globals : State) (frames : List Frame) (s : Stepped) → chosen_from program number globals frames ≡ Ok s → OfChoice number s.event
by_frames program number globals [] s is = absurd (cc is)
by_frames program number globals (frame ∷ below) s is = by_items program number (record { globals = globals; frame = frame; below = below }) frame.items s is

numbers_taken-append : (events : List Event) (more : List Event) → numbers_taken (events ++ more) ≡ numbers_taken events ++ numbers_taken more
numbers_taken-append [] more = refl
numbers_taken-append (event.Any v ∷ events) more = ap (λ l. v ∷ l) (numbers_taken-append events more)
numbers_taken-append (event.Call proc args ∷ events) more = numbers_taken-append events more
numbers_taken-append (event.Holds n ∷ events) more = numbers_taken-append events more
numbers_taken-append (event.Return proc value ∷ events) more = numbers_taken-append events more

take-one_more : (values : List ℤ) (k : ℕ) (v : ℤ) → slice_get values k ≡ Some v → take (k + 1) values ≡ take k values ++ v ∷ []
take-one_more values k v is =
    ap (λ (n : ℕ). take n values) (add-one k) ∙ take-suc values k v (slice_get_within values k v is)
    ∙ ap (λ x. take k values ++ x ∷ []) (get_or_from_slice_get values k v v is)

abbrev AsTaken : List ℤ → ℕ → ℕ → List Event → Type 0
AsTaken values steps taken events = (numbers_taken events ≡ take taken values) × (taken ≤ length values) × (taken ≤ steps)

one_more : (values : List ℤ) (steps taken : ℕ) (events : List Event) (shown : Option Event) → OfChoice (slice_get values taken) shown
    → AsTaken values steps taken events → AsTaken values (suc steps) (count_after shown taken) (events_after shown events)
one_more values steps taken events None choice so_far = let few = so_far.2 in (so_far.0, so_far.1, omega arith)
one_more values steps taken events (Some (event.Any v)) choice so_far =
    let there = choice v refl in
    let within = slice_get_within values taken v there in
    let few = so_far.2 in
    (numbers_taken-append events _ ∙ ap (λ l. l ++ v ∷ []) so_far.0 ∙ sym (take-one_more values taken v there), omega arith, omega arith)
one_more values steps taken events (Some (event.Call proc args)) choice so_far =
    let few = so_far.2 in (numbers_taken-append events _ ∙ append-nil _ ∙ so_far.0, so_far.1, omega arith)
one_more values steps taken events (Some (event.Holds n)) choice so_far =
    let few = so_far.2 in (numbers_taken-append events _ ∙ append-nil _ ∙ so_far.0, so_far.1, omega arith)
one_more values steps taken events (Some (event.Return proc value)) choice so_far =
    let few = so_far.2 in (numbers_taken-append events _ ∙ append-nil _ ∙ so_far.0, so_far.1, omega arith)

pub choices_take_values : ChoicesTakeValues
choices_take_values program values zero here is =
    let first : Reached = record { config = chosen_start program; taken = 0; events = [] } in
    let same : first ≡ here = cc in
    subst (λ (r : Reached). AsTaken values 0 r.taken r.events) same (refl, omega arith, omega arith)
choices_take_values program values (suc n) here is =
    on_ok (chosen program values n) _ here is (λ r before later.
    on_step program values r here later (λ s stepped last.
    let choice = by_frames program (slice_get values r.taken) r.config.globals r.config.frames s stepped in
    subst (λ (x : Reached). AsTaken values (suc n) x.taken x.events) (sym last)
    (one_more values n r.taken r.events s.event choice (choices_take_values program values n r before))))
