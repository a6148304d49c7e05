-- The chosen execution has no step exactly for the stated causes.
use Rattle.std.proofs.Common.{◌≡◌, ◌≤◌, ℕ, ℤ, pos, Bool, true, false, List, [], ◌∷◌, ◌++◌, length, Option, None, Some, Result, Ok, Err, refl, sym, ap, subst, ◌∙◌, arith, ⊎_elim}
use Rattle.std.specs.Prelude.{if◌then◌else◌, not, ◌↔◌}
use Rattle.std.specs.Ordering.{int_eq}
use Rattle.std.specs.List.{find}
use Rattle.std.proofs.lemmas.Bool.Decides.{Decides-int_eq}
use Rattle.items.specs.Gives.{◌>>=◌}
use Rattle.items.proofs.Gives.{on_err}
use Rattle.syntax_tree.specs.declared.evaluation.EvalWide.{EvalWide}
use Rattle.syntax_tree.specs.declared.program.Program.{Program}
use Rattle.syntax_tree.specs.Term.{Term}
use Rattle.syntax_tree.specs.Code.{Set, Any, Call, Guard, Check, If, Loop, Break, Continue, Return}
use Rattle.syntax_tree.specs.Value.{State, Step, evaluation_result, is_true, is_wide, steps_of, unless_wide, value_of}
use Rattle.execution.specs.Step.{Chooses, DoesSimple, Resumes, StepsBy, StepsFrom, values_of, with_value}
use Rattle.execution.specs.declared.outcome.Event.{Event}
use Rattle.execution.specs.declared.outcome.Event.TheVariants as event
use Rattle.execution.specs.declared.outcome.Stop.{Stop}
use Rattle.execution.specs.declared.outcome.Stop.TheVariants as stop
use Rattle.execution.specs.Machine.{Item, Do, Head, Test, Tail, Frame, Config, Top, returned_value, state_of, with_items}
use Rattle.execution.specs.Chosen.{Stepped, as_needed, chosen_any, chosen_by, chosen_from, chosen_pass, chosen_return, number_in, numbers_in, after_condition}
use Rattle.execution.specs.Laws.{ChosenStops, StopsHaveNoStep, ends_all}
use Rattle.execution.specs.Stops.{HaveNumbers, IsFirstWithout, StopsBy, StopsFrom, first_needs}

-- ---- why a number isn't there

abbrev Without : List Term → State → Stop → Type 0
Without terms state stop.Zero = IsFirstWithout terms state (Ok None)
Without terms state (stop.Wide wide) = IsFirstWithout terms state (Err wide)
Without terms state (stop.Done v) = ⊥
Without terms state (stop.Failed n) = ⊥
Without terms state stop.Guard = ⊥
Without terms state stop.Dry = ⊥
Without terms state stop.Memory = ⊥

first_alone : (e : Term) (rest : List Term) (state : State) (gave : Result (Option ℤ) EvalWide) → evaluation_result e state ≡ gave → IsFirstWithout (e ∷ rest) state gave
first_alone e rest state gave is = record { before = []; e = e; after = rest; are = refl; numbers = tt; is = is }

first-further : (e : Term) (rest : List Term) (state : State) (gave : Result (Option ℤ) EvalWide) (v : ℤ) → evaluation_result e state ≡ Ok (Some v)
    → IsFirstWithout rest state gave → IsFirstWithout (e ∷ rest) state gave
first-further e rest state gave v has later = record {
  before = e ∷ later.before;
  e = later.e;
  after = later.after;
  are = ap (λ l. e ∷ l) later.are;
  numbers = ((v, has), later.numbers);
  is = later.is;
}

without-further : (e : Term) (rest : List Term) (state : State) (why : Stop) (v : ℤ) → evaluation_result e state ≡ Ok (Some v)
    → Without rest state why → Without (e ∷ rest) state why
without-further e rest state stop.Zero v has later = first-further e rest state (Ok None) v has later
without-further e rest state (stop.Wide wide) v has later = first-further e rest state (Err wide) v has later
without-further e rest state (stop.Done w) v has later = absurd later
without-further e rest state (stop.Failed n) v has later = absurd later
without-further e rest state stop.Guard v has later = absurd later
without-further e rest state stop.Dry v has later = absurd later
without-further e rest state stop.Memory v has later = absurd later

number-without : (e : Term) (rest : List Term) (state : State) (why : Stop) (gave : Result (Option ℤ) EvalWide) → evaluation_result e state ≡ gave
    → as_needed gave ≡ Err why → Without (e ∷ rest) state why
number-without e rest state why (Ok (Some v)) is failed = absurd (cc failed)
number-without e rest state why (Ok None) is failed =
    let that : stop.Zero ≡ why = cc in subst (Without (e ∷ rest) state) that (first_alone e rest state (Ok None) is)
number-without e rest state why (Err wide) is failed =
    let that : stop.Wide wide ≡ why = cc in subst (Without (e ∷ rest) state) that (first_alone e rest state (Err wide) is)

pub number-there : (v : ℤ) (gave : Result (Option ℤ) EvalWide) → as_needed gave ≡ Ok v → gave ≡ Ok (Some v)
number-there v (Ok (Some w)) came = let that : w ≡ v = cc in ap (λ x. Ok (Some x)) that
number-there v (Ok None) came = absurd (cc came)
number-there v (Err wide) came = absurd (cc came)

numbers-without : (terms : List Term) (state : State) (why : Stop) → numbers_in terms state ≡ Err why → Without terms state why
numbers-without [] state why failed = absurd (cc failed)
numbers-without (e ∷ rest) state why failed =
    on_err (number_in e state) _ why failed (λ first. number-without e rest state why (evaluation_result e state) refl first)
    (λ v came later. on_err (numbers_in rest state) _ why later
    (λ others. without-further e rest state why v (number-there v (evaluation_result e state) came) (numbers-without rest state why others))
    (λ vs others none. absurd (cc none)))

-- .. and back

numbers-fail : (before : List Term) (e : Term) (after : List Term) (state : State) (why : Stop) → HaveNumbers before state
    → number_in e state ≡ Err why → numbers_in (before ++ e ∷ after) state ≡ Err why
numbers-fail [] e after state why have failed = ap (λ r. r >>= λ v. numbers_in after state >>= λ vs. Ok (v ∷ vs)) failed
numbers-fail (x ∷ before) e after state why have failed =
    ap (λ r. as_needed r >>= λ v. numbers_in (before ++ e ∷ after) state >>= λ vs. Ok (v ∷ vs)) have.0.1
    ∙ ap (λ r. r >>= λ vs. Ok (have.0.0 ∷ vs)) (numbers-fail before e after state why have.1 failed)

first-fails : (terms : List Term) (state : State) (gave : Result (Option ℤ) EvalWide) (why : Stop) → IsFirstWithout terms state gave
    → as_needed gave ≡ Err why → numbers_in terms state ≡ Err why
first-fails terms state gave why first failed =
    ap (λ l. numbers_in l state) first.are
    ∙ numbers-fail first.before first.e first.after state why first.numbers (ap as_needed first.is ∙ failed)

-- ---- the step needs them

single-fails : {Y : Type 0} (e : Term) (state : State) (why : Stop) (f : ℤ → Result Y Stop) → numbers_in (e ∷ []) state ≡ Err why → number_in e state >>= f ≡ Err why
single-fails e state why f failed =
    on_err (number_in e state) _ why failed (λ first. ap (λ r. r >>= f) first) (λ v came none. absurd (cc none))

list-fails : {X Y : Type 0} (r : Result X Stop) (why : Stop) (f : X → Result Y Stop) → r ≡ Err why → r >>= f ≡ Err why
list-fails r why f failed = ap (λ x. x >>= f) failed

needed-fails : (program : Program) (number : Option ℤ) (top : Top) (items : List Item) (why : Stop)
    → numbers_in (first_needs items) (state_of top) ≡ Err why → chosen_by program number top items ≡ Err why
needed-fails program number top [] why failed = absurd (cc failed)
needed-fails program number top (Do (Set col value) ∷ rest) why failed = single-fails value (state_of top) why _ failed
needed-fails program number top (Do (Any col) ∷ rest) why failed = absurd (cc failed)
needed-fails program number top (Do (Call proc args into) ∷ rest) why failed = list-fails (numbers_in args (state_of top)) why _ failed
needed-fails program number top (Do (Guard cond) ∷ rest) why failed = single-fails cond (state_of top) why _ failed
needed-fails program number top (Do (Check n cond) ∷ rest) why failed = single-fails cond (state_of top) why _ failed
needed-fails program number top (Do (If cond on_true on_false) ∷ rest) why failed = single-fails cond (state_of top) why _ failed
needed-fails program number top (Do (Loop pre cond body step first) ∷ rest) why failed = absurd (cc failed)
needed-fails program number top (Do Break ∷ rest) why failed = absurd (cc failed)
needed-fails program number top (Do Continue ∷ rest) why failed = absurd (cc failed)
needed-fails program number top (Do Return ∷ rest) why failed = absurd (cc failed)
needed-fails program number top (Head loop ∷ rest) why failed = absurd (cc failed)
needed-fails program number top (Test loop ∷ rest) why failed = single-fails loop.cond (state_of top) why _ failed
needed-fails program number top (Tail loop ∷ rest) why failed = absurd (cc failed)

-- ---- the causes, from the top frame

abbrev pub with_items_for : Top → List Item → Top
with_items_for top items = record { globals = top.globals; frame = record top.frame { items = items }; below = top.below }

-- `StopsBy` at a frame that has these items
abbrev Stopping : Option ℤ → Top → List Item → Stop → Type 0
Stopping number top items why = StopsBy number (with_items_for top items) why

without-stops : (number : Option ℤ) (top : Top) (items : List Item) (why : Stop) → Without (first_needs items) (state_of top) why → Stopping number top items why
without-stops number top items stop.Zero without = without
without-stops number top items (stop.Wide wide) without = without
without-stops number top items (stop.Done v) without = absurd without
without-stops number top items (stop.Failed n) without = absurd without
without-stops number top items stop.Guard without = absurd without
without-stops number top items stop.Dry without = absurd without
without-stops number top items stop.Memory without = absurd without

pub true_of_not : (b : Bool) → not b ≡ false → b ≡ true
true_of_not true e = refl
true_of_not false e = absurd (cc e)

pub zero_of_false : (v : ℤ) → is_true v ≡ false → v ≡ pos 0
zero_of_false v e = (Decides-int_eq v (pos 0)).0 (true_of_not (int_eq v (pos 0)) e)

abbrev pub passed_at : Bool → Option Event → Stop → Top → List Item → Result Stepped Stop
passed_at b event otherwise top rest = if b then Ok (record { event = event; next = with_items top rest }) else Err otherwise

-- a condition that has to be true fails
pass-zero : (event : Option Event) (otherwise : Stop) (top : Top) (rest : List Item) (v : ℤ) (why : Stop) (b : Bool) → is_true v ≡ b
    → passed_at b event otherwise top rest ≡ Err why → (v ≡ pos 0) × (otherwise ≡ why)
pass-zero event otherwise top rest v why true is failed = absurd (cc failed)
pass-zero event otherwise top rest v why false is failed = (zero_of_false v is, cc)

pass-fails : {P : Type 0} (event : Option Event) (otherwise : Stop) (top : Top) (rest : List Item) (cond : Term) (why : Stop)
    → chosen_pass event otherwise top rest cond ≡ Err why → (Without (cond ∷ []) (state_of top) why → P)
    → ((evaluation_result cond (state_of top) ≡ Ok (Some (pos 0))) → otherwise ≡ why → P) → P
pass-fails event otherwise top rest cond why failed missing fell =
    on_err (number_in cond (state_of top)) _ why failed (λ first. missing (number-without cond [] (state_of top) why (evaluation_result cond (state_of top)) refl first))
    (λ v came later.
    let zero = pass-zero event otherwise top rest v why (is_true v) refl later in
    fell (number-there v (evaluation_result cond (state_of top)) came ∙ ap (λ x. Ok (Some x)) zero.0) zero.1)

needs-one : (e : Term) (state : State) (why : Stop) (f : ℤ → Stepped) → number_in e state >>= (λ v. Ok (f v)) ≡ Err why → Without (e ∷ []) state why
needs-one e state why f failed =
    on_err (number_in e state) _ why failed (λ first. number-without e [] state why (evaluation_result e state) refl first) (λ v came none. absurd (cc none))

call-needs : (args : List Term) (state : State) (why : Stop) (f : List ℤ → Stepped) → numbers_in args state >>= (λ v. Ok (f v)) ≡ Err why → Without args state why
call-needs args state why f failed =
    on_err (numbers_in args state) _ why failed (λ first. numbers-without args state why first) (λ v came none. absurd (cc none))

return-stops : (number : Option ℤ) (top : Top) (below : List Frame) (why : Stop) → top.below ≡ below → chosen_return top below ≡ Err why → Stopping number top [] why
return-stops number top [] why are failed =
    let that : stop.Done (returned_value top.frame) ≡ why = cc in subst (Stopping number top []) that (refl, are, refl)
return-stops number top (caller ∷ below) why are failed = absurd (cc failed)

any-stops : (number : Option ℤ) (top : Top) (col : ℕ) (rest : List Item) (why : Stop) (given : Option ℤ) → number ≡ given
    → chosen_any given top rest col ≡ Err why → Stopping number top (Do (Any col) ∷ rest) why
any-stops number top col rest why None is failed =
    let that : stop.Dry ≡ why = cc in subst (Stopping number top (Do (Any col) ∷ rest)) that (col, rest, refl, is)
any-stops number top col rest why (Some v) is failed = absurd (cc failed)

stops : (program : Program) (number : Option ℤ) (top : Top) (items : List Item) (why : Stop)
    → chosen_by program number top items ≡ Err why → Stopping number top items why
stops program number top [] why failed = return-stops number top top.below why refl failed
stops program number top (Do (Set col value) ∷ rest) why failed = without-stops number top _ why (needs-one value (state_of top) why _ failed)
stops program number top (Do (Any col) ∷ rest) why failed = any-stops number top col rest why number refl failed
stops program number top (Do (Call proc args into) ∷ rest) why failed = without-stops number top _ why (call-needs args (state_of top) why _ failed)
stops program number top (Do (Guard cond) ∷ rest) why failed =
    pass-fails None stop.Guard top rest cond why failed (without-stops number top _ why)
    (λ is that. subst (Stopping number top (Do (Guard cond) ∷ rest)) that (cond, rest, refl, is))
stops program number top (Do (Check n cond) ∷ rest) why failed =
    pass-fails (Some (event.Holds n)) (stop.Failed n) top rest cond why failed (without-stops number top _ why)
    (λ is that. subst (Stopping number top (Do (Check n cond) ∷ rest)) that (cond, rest, refl, is))
stops program number top (Do (If cond on_true on_false) ∷ rest) why failed = without-stops number top _ why (needs-one cond (state_of top) why _ failed)
stops program number top (Do (Loop pre cond body step first) ∷ rest) why failed = absurd (cc failed)
stops program number top (Do Break ∷ rest) why failed = absurd (cc failed)
stops program number top (Do Continue ∷ rest) why failed = absurd (cc failed)
stops program number top (Do Return ∷ rest) why failed = absurd (cc failed)
stops program number top (Head loop ∷ rest) why failed = absurd (cc failed)
stops program number top (Test loop ∷ rest) why failed = without-stops number top _ why (needs-one loop.cond (state_of top) why _ failed)
stops program number top (Tail loop ∷ rest) why failed = absurd (cc failed)

-- ---- .. and back

done-back : (program : Program) (number : Option ℤ) (top : Top) (v : ℤ) → top.below ≡ [] → returned_value top.frame ≡ v → chosen_return top top.below ≡ Err (stop.Done v)
done-back program number top v are is = ap (chosen_return top) are ∙ ap (λ x. Err (stop.Done x)) is

falls : (event : Option Event) (otherwise : Stop) (top : Top) (rest : List Item) (cond : Term) → evaluation_result cond (state_of top) ≡ Ok (Some (pos 0))
    → chosen_pass event otherwise top rest cond ≡ Err otherwise
falls event otherwise top rest cond is = ap (λ r. as_needed r >>= after_condition event otherwise top rest) is

back : (program : Program) (number : Option ℤ) (top : Top) (why : Stop) → StopsBy number top why → chosen_by program number top top.frame.items ≡ Err why
back program number top (stop.Done v) (none, below, is) = ap (chosen_by program number top) none ∙ done-back program number top v below is
back program number top (stop.Failed n) (cond, rest, are, is) =
    ap (chosen_by program number top) are ∙ falls (Some (event.Holds n)) (stop.Failed n) top rest cond is
back program number top stop.Guard (cond, rest, are, is) = ap (chosen_by program number top) are ∙ falls None stop.Guard top rest cond is
back program number top stop.Zero first = needed-fails program number top top.frame.items stop.Zero (first-fails _ _ _ stop.Zero first refl)
back program number top (stop.Wide wide) first =
    needed-fails program number top top.frame.items (stop.Wide wide) (first-fails _ _ _ (stop.Wide wide) first refl)
back program number top stop.Dry (col, rest, are, none) =
    ap (chosen_by program number top) are ∙ ap (λ given. chosen_any given top rest col) none
back program number top stop.Memory never = absurd never

by_frames : (program : Program) (number : Option ℤ) (globals : State) (frames : List Frame) (why : Stop) → 1 ≤ length frames
    → (chosen_from program number globals frames ≡ Err why) ↔ StopsFrom number globals frames why
by_frames program number globals [] why some = absurd (omega arith)
by_frames program number globals (frame ∷ below) why some =
    let top : Top = record { globals = globals; frame = frame; below = below } in
    (stops program number top frame.items why, back program number top why)

pub chosen_stops : ChosenStops
chosen_stops program number config why can = by_frames program number config.globals config.frames why can.some

-- ---- no step at all

some_same : {X : Type 0} {v w : X} → Some v ≡ Some w → v ≡ w
some_same e = cc

unless_value : (first : Option Step) (value gave : Option ℤ) → unless_wide first value ≡ Ok gave → value ≡ gave
unless_value None value gave came = cc
unless_value (Some step) value gave came = absurd (cc came)

pub evaluated-value : (e : Term) (state : State) (gave : Option ℤ) → evaluation_result e state ≡ Ok gave → value_of e state ≡ gave
unfolding evaluation_result
evaluated-value e state gave came = unless_value (find is_wide (steps_of e state)) (value_of e state) gave came

with-none : (o : Option ℤ) → with_value o None ≡ None
with-none None = refl
with-none (Some v) = refl

missing-value : (before : List Term) (e : Term) (after : List Term) (state : State) → value_of e state ≡ None → values_of (before ++ e ∷ after) state ≡ None
missing-value [] e after state none = ap (λ o. with_value o (values_of after state)) none
missing-value (x ∷ before) e after state none =
    ap (with_value (value_of x state)) (missing-value before e after state none) ∙ with-none (value_of x state)

single-value : (e : Term) (state : State) (v : ℤ) → value_of e state ≡ Some v → (vs : List ℤ) × (values_of (e ∷ []) state ≡ Some vs)
single-value e state v is = (v ∷ [], ap (λ o. with_value o (Some [])) is)

chosen-value : (cond : Term) (top : Top) (on_true on_false : List Item) (next : Config) → Chooses cond top on_true on_false next
    → (vs : List ℤ) × (values_of (cond ∷ []) (state_of top) ≡ Some vs)
chosen-value cond top on_true on_false next =
    ⊎_elim (λ p. single-value cond (state_of top) p.0.0 p.0.1) (λ p. single-value cond (state_of top) (pos 0) p.0)

step-values : (program : Program) (top : Top) (items : List Item) (next : Config) → StepsBy program top items next
    → (vs : List ℤ) × (values_of (first_needs items) (state_of top) ≡ Some vs)
step-values program top [] next step = ([], refl)
step-values program top (Do (Set col value) ∷ rest) next step = single-value value (state_of top) step.changes.0 step.changes.1
step-values program top (Do (Any col) ∷ rest) next step = ([], refl)
step-values program top (Do (Call proc args into) ∷ rest) next step = (step.values, step.are)
step-values program top (Do (Guard cond) ∷ rest) next step = single-value cond (state_of top) step.changes.0.0 step.changes.0.1
step-values program top (Do (Check n cond) ∷ rest) next step = single-value cond (state_of top) step.changes.0.0 step.changes.0.1
step-values program top (Do (If cond on_true on_false) ∷ rest) next step = chosen-value cond top _ _ next step
step-values program top (Do (Loop pre cond body step' first) ∷ rest) next step = ([], refl)
step-values program top (Do Break ∷ rest) next step = ([], refl)
step-values program top (Do Continue ∷ rest) next step = ([], refl)
step-values program top (Do Return ∷ rest) next step = ([], refl)
step-values program top (Head loop ∷ rest) next step = ([], refl)
step-values program top (Test loop ∷ rest) next step = chosen-value loop.cond top _ _ next step
step-values program top (Tail loop ∷ rest) next step = ([], refl)

no_step_by : (program : Program) (number : Option ℤ) (top : Top) (next : Config) (why : Stop)
    → StopsBy number top why → ends_all why ≡ true → StepsBy program top top.frame.items next → ⊥
no_step_by program number top next (stop.Done v) (none, below, is) ends step =
    let back : Resumes top top.below next = subst (λ items. StepsBy program top items next) none step in
    subst (λ fs. Resumes top fs next) below back
no_step_by program number top next (stop.Failed n) (cond, rest, are, is) ends step =
    let does : DoesSimple (Check n cond) top rest next = subst (λ items. StepsBy program top items next) are step in
    let false_there = evaluated-value cond (state_of top) (Some (pos 0)) is in
    let same : does.changes.0.0 ≡ pos 0 = some_same (sym does.changes.0.1 ∙ false_there) in does.changes.0.2 same
no_step_by program number top next stop.Guard (cond, rest, are, is) ends step =
    let does : DoesSimple (Guard cond) top rest next = subst (λ items. StepsBy program top items next) are step in
    let false_there = evaluated-value cond (state_of top) (Some (pos 0)) is in
    let same : does.changes.0.0 ≡ pos 0 = some_same (sym does.changes.0.1 ∙ false_there) in does.changes.0.2 same
no_step_by program number top next stop.Zero first ends step =
    let has = step-values program top top.frame.items next step in
    let none = missing-value first.before first.e first.after (state_of top) (evaluated-value first.e (state_of top) None first.is) in
    let both : None ≡ Some has.0 = sym (ap (λ l. values_of l (state_of top)) first.are ∙ none) ∙ has.1 in absurd (cc both)
no_step_by program number top next (stop.Wide wide) first ends step = absurd (cc ends)
no_step_by program number top next stop.Dry dry ends step = absurd (cc ends)
no_step_by program number top next stop.Memory never ends step = never

no_step_from : (program : Program) (number : Option ℤ) (globals : State) (frames : List Frame) (next : Config) (why : Stop)
    → StopsFrom number globals frames why → ends_all why ≡ true → StepsFrom program globals frames next → ⊥
no_step_from program number globals [] next why stopped ends step = stopped
no_step_from program number globals (frame ∷ below) next why stopped ends step =
    no_step_by program number (record { globals = globals; frame = frame; below = below }) next why stopped ends step

pub stops_have_no_step : StopsHaveNoStep
stops_have_no_step program number config next why stopped ends step =
    no_step_from program number config.globals config.frames next why stopped ends step
