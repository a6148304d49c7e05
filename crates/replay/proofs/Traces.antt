-- Traces: each stop is there exactly for its cause, and there is one trace.
use Rattle.std.proofs.Common.{◌≡◌, ◌≤◌, ◌<◌, ℕ, zero, suc, ℤ, pos, List, [], ◌∷◌, Option, Some, Result, Ok, Err, refl, sym, ap, subst, ◌∙◌, arith, ⊎_elim, inl, inr}
use Rattle.std.specs.Prelude.{IfOk, ◌⊎◌, slice_get}
use Rattle.std.proofs.lemmas.Bool.{cases_lt}
use Rattle.items.specs.Gives.{◌>>=◌, FailsBy}
use Rattle.items.proofs.Gives.{on_err}
use Rattle.syntax_tree.specs.declared.program.Program.{Program}
use Rattle.syntax_tree.specs.Value.{State}
use Rattle.syntax_tree.specs.Term.{Term}
use Rattle.syntax_tree.specs.Code.{Check}
use Rattle.syntax_tree.specs.WellFormed.{IsWellFormed}
use Rattle.execution.specs.declared.outcome.Event.{Event}
use Rattle.execution.specs.declared.outcome.Stop.{Stop}
use Rattle.execution.specs.declared.outcome.Stop.TheVariants as why
use Rattle.execution.specs.Machine.{Item, Do, Frame, Top, config_of, state_of}
use Rattle.execution.specs.Step.{IsFalseIn}
use Rattle.execution.specs.Execution.{Runs}
use Rattle.execution.specs.Chosen.{Stepped, cause, chosen_step}
use Rattle.execution.specs.Stops.{StopsAt, StopsFrom}
use Rattle.execution.proofs.Stops.{chosen_stops, evaluated-value}
use Rattle.replay.specs.declared.trace.TraceStop.{TraceStop}
use Rattle.replay.specs.declared.trace.TraceStop.TheVariants as stop
use Rattle.replay.specs.declared.trace.Trace.{Trace}
use Rattle.replay.specs.declared.turns.End.{End}
use Rattle.replay.specs.Chosen.{EndsBy, IsTrace, Reached, chosen, further, step_on}
use Rattle.replay.specs.Follow.{stop_of}
use Rattle.replay.specs.Laws.{FailedStopFails, TracesAreDetermined}
use Rattle.replay.proofs.ChosenExecutions.{chosen-can, chosen_is_execution}

-- ---- a cause that is known

known-cause : {Y : Type 0} (e : Stop) (end : TraceStop) (stated : Result Y Stop) → stop_of e ≡ Some end → FailsBy (cause e) stated → stated ≡ Err e
known-cause (why.Done v) end stated known fails = fails
known-cause (why.Failed n) end stated known fails = fails
known-cause why.Guard end stated known fails = fails
known-cause why.Zero end stated known fails = fails
known-cause why.Dry end stated known fails = fails
known-cause (why.Wide wide) end stated known fails = fails
known-cause why.Memory end stated known fails = absurd (cc known)

step_on-fails : (program : Program) (values : List ℤ) (here : Reached) (e : Stop) → step_on program values here ≡ Err e
    → chosen_step program (slice_get values here.taken) here.config ≡ Err e
step_on-fails program values here e failed =
    on_err (chosen_step program (slice_get values here.taken) here.config) _ e failed (λ first. first) (λ s stepped none. absurd (cc none))

-- ---- the causes of a trace's stop

ends-by : (values : List ℤ) (turns steps : ℕ) (here : Reached) (e : Stop) (end : TraceStop) → stop_of e ≡ Some end
    → StopsAt (slice_get values here.taken) here.config e → EndsBy values turns steps here end
ends-by values turns steps here (why.Done v) end known at = let that : stop.Done v ≡ end = cc in subst (EndsBy values turns steps here) that at
ends-by values turns steps here (why.Failed n) end known at = let that : stop.Failed n ≡ end = cc in subst (EndsBy values turns steps here) that at
ends-by values turns steps here why.Guard end known at = let that : stop.Guard ≡ end = cc in subst (EndsBy values turns steps here) that at
ends-by values turns steps here why.Zero end known at = let that : stop.Zero ≡ end = cc in subst (EndsBy values turns steps here) that at
ends-by values turns steps here why.Dry end known at = let that : stop.Dry ≡ end = cc in subst (EndsBy values turns steps here) that at
ends-by values turns steps here (why.Wide wide) end known at =
    let that : stop.Wide wide.left wide.right wide.op ≡ end = cc in subst (EndsBy values turns steps here) that at
ends-by values turns steps here why.Memory end known at = absurd (cc known)

-- what a stop stands for: a cause at which there is no step, or that all turns are used
abbrev Cause : List ℤ → ℕ → ℕ → Reached → TraceStop → Type 0
Cause values turns steps here end = ((e : Stop) × (stop_of e ≡ Some end) × StopsAt (slice_get values here.taken) here.config e)
    ⊎ ((end ≡ stop.Spent) × (steps ≡ turns) × ((e : Stop) → StopsAt (slice_get values here.taken) here.config e → ⊥))

cause-of : (values : List ℤ) (turns steps : ℕ) (here : Reached) (end : TraceStop) → EndsBy values turns steps here end → Cause values turns steps here end
cause-of values turns steps here (stop.Done v) ends = inl (why.Done v, refl, ends)
cause-of values turns steps here (stop.Failed n) ends = inl (why.Failed n, refl, ends)
cause-of values turns steps here stop.Guard ends = inl (why.Guard, refl, ends)
cause-of values turns steps here stop.Zero ends = inl (why.Zero, refl, ends)
cause-of values turns steps here stop.Dry ends = inl (why.Dry, refl, ends)
cause-of values turns steps here (stop.Wide left right op) ends = inl (why.Wide (record { left = left; right = right; op = op }), refl, ends)
cause-of values turns steps here stop.Spent ends = inr (refl, ends.0, ends.1)

-- ---- the traces that are made

same_error : {Y : Type 0} (r : Result Y Stop) (a b : Stop) → r ≡ Err a → r ≡ Err b → a ≡ b
same_error r a b one other = cc

no_error : {Y : Type 0} (r : Result Y Stop) (x : Y) (e : Stop) → r ≡ Ok x → r ≡ Err e → ⊥
no_error r x e one other = cc

same_stop : {a b : TraceStop} → Some a ≡ Some b → a ≡ b
same_stop e = cc

module _ (program : Program) (values : List ℤ) (turns steps : ℕ) (here : Reached) (formed : IsWellFormed program)
    (within : steps ≤ turns) (is : chosen program values steps ≡ Ok here) where
  no-step : (e : Stop) → StopsAt (slice_get values here.taken) here.config e → chosen_step program (slice_get values here.taken) here.config ≡ Err e
  no-step e at = (chosen_stops program (slice_get values here.taken) here.config e (chosen-can program values steps here formed is)).1 at

  pub stopped-trace : (e : Stop) (end : TraceStop) (events : List Event) → events ≡ here.events → stop_of e ≡ Some end
      → chosen_step program (slice_get values here.taken) here.config ≡ Err e
      → IsTrace program values turns (record { events = events; steps = steps; stop = end })
  stopped-trace e end events same known failed =
      let at = (chosen_stops program (slice_get values here.taken) here.config e (chosen-can program values steps here formed is)).0 failed in
      let back : (c : TraceStop) → EndsBy values turns steps here c → end ≡ c = λ c ends.
      ⊎_elim (λ other. let those : e ≡ other.0 = same_error _ e other.0 failed (no-step other.0 other.2) in same_stop (sym known ∙ ap stop_of those ∙ other.1))
      (λ spent. absurd (spent.2 e at)) (cause-of values turns steps here c ends) in
      record {
        within = within;
        reached = here;
        is = is;
        events = same;
        stops = λ c. ((λ that. subst (EndsBy values turns steps here) that (ends-by values turns steps here e end known at)), back c);
      }

  pub spent-trace : (s : Stepped) (events : List Event) → events ≡ here.events → steps ≡ turns
      → chosen_step program (slice_get values here.taken) here.config ≡ Ok s
      → IsTrace program values turns (record { events = events; steps = steps; stop = stop.Spent })
  spent-trace s events same all stepped =
      let none : (e : Stop) → StopsAt (slice_get values here.taken) here.config e → ⊥ = λ e at. no_error _ s e stepped (no-step e at) in
      let back : (c : TraceStop) → EndsBy values turns steps here c → stop.Spent ≡ c = λ c ends.
      ⊎_elim (λ other. absurd (none other.0 other.2)) (λ spent. sym spent.0) (cause-of values turns steps here c ends) in
      record {
        within = within;
        reached = here;
        is = is;
        events = same;
        stops = λ c. ((λ that. subst (EndsBy values turns steps here) that (all, none)), back c);
      }

  -- .. as the code answers them
  pub stopped-end : {E : Type 0} (r : Result End E) (e : Stop) (events : List Event) → events ≡ here.events
      → IfOk r (λ end. (end.steps ≡ steps) × (stop_of e ≡ Some end.stop))
      → FailsBy (cause e) (step_on program values here)
      → IfOk r (λ end. IsTrace program values turns (record { events = events; steps = end.steps; stop = end.stop }))
  stopped-end (Ok end) e events same (steps_is, known) fails =
      let failed = step_on-fails program values here e (known-cause e end.stop (step_on program values here) known fails) in
      subst (λ (n : ℕ). IsTrace program values turns (record { events = events; steps = n; stop = end.stop })) (sym steps_is)
      (stopped-trace e end.stop events same known failed)
  stopped-end (Err error) e events same known fails = tt

  pub last-end : {E : Type 0} (r : Result End E) (e : Stop) (events : List Event) → events ≡ here.events
      → IfOk r (λ end. (end.steps ≡ steps) × (stop_of e ≡ Some end.stop))
      → FailsBy (cause e) (chosen_step program (slice_get values here.taken) here.config)
      → IfOk r (λ end. IsTrace program values turns (record { events = events; steps = end.steps; stop = end.stop }))
  last-end (Ok end) e events same (steps_is, known) fails =
      let failed = known-cause e end.stop (chosen_step program (slice_get values here.taken) here.config) known fails in
      subst (λ (n : ℕ). IsTrace program values turns (record { events = events; steps = n; stop = end.stop })) (sym steps_is)
      (stopped-trace e end.stop events same known failed)
  last-end (Err error) e events same known fails = tt

-- ---- a failed assertion

record Failing (number : ℕ) (globals : State) (frames : List Frame) : Type 0 where
  pub top : Top
  pub is : record { globals = globals; frames = frames } ≡ config_of top
  pub cond : Term
  pub rest : List Item
  pub next : top.frame.items ≡ Do (Check number cond) ∷ rest
  pub fails : IsFalseIn cond (state_of top)

failing : (given : Option ℤ) (number : ℕ) (globals : State) (frames : List Frame) → StopsFrom given globals frames (why.Failed number) → Failing number globals frames
failing given number globals [] at = absurd at
failing given number globals (frame ∷ below) (cond, rest, are, value) =
    let top : Top = record { globals = globals; frame = frame; below = below } in
    record { top = top; is = refl; cond = cond; rest = rest; next = are; fails = evaluated-value cond (state_of top) (Some (pos 0)) value }

pub failed_stop_fails : FailedStopFails
failed_stop_fails program values turns trace number formed is failed =
    let here = is.reached in
    let at = (is.stops (stop.Failed number)).0 failed in
    let run = chosen_is_execution program values trace.steps here formed is.is in
    let f = failing (slice_get values here.taken) number here.config.globals here.config.frames at in
    record {
      first = run.first;
      begins = run.begins;
      steps = run.over;
      top = f.top;
      runs = subst (λ c. Runs program run.first run.over c) f.is run.runs;
      cond = f.cond;
      rest = f.rest;
      next = f.next;
      fails = f.fails;
    }

-- ---- there is one trace

same_reached : (r : Result Reached Stop) (a b : Reached) → r ≡ Ok a → r ≡ Ok b → a ≡ b
same_reached r a b one other = cc

-- where there is no step, there are no more
no-more : (program : Program) (values : List ℤ) (n : ℕ) (here : Reached) (e : Stop) → chosen program values n ≡ Ok here → step_on program values here ≡ Err e
    → (m : ℕ) → n < m → chosen program values m ≡ Err e
no-more program values n here e is failed zero less = absurd (omega arith)
no-more program values n here e is failed (suc m) less =
    ⊎_elim (λ before. ap (λ r. r >>= step_on program values) (no-more program values n here e is failed m before))
    (λ late. let same : m ≡ n = omega arith in
    ap (λ r. r >>= step_on program values) (ap (chosen program values) same ∙ is) ∙ failed) (cases_lt n m)

no-longer : (program : Program) (values : List ℤ) (turns : ℕ) (one other : Trace) → IsWellFormed program
    → IsTrace program values turns one → IsTrace program values turns other → other.steps ≤ one.steps
no-longer program values turns one other formed a b =
    let within = b.within in
    let here = a.reached in
    ⊎_elim (λ less.
    ⊎_elim (λ ended.
    let failed = no-step program values turns one.steps here formed a.within a.is ended.0 ended.2 in
    let none = no-more program values one.steps here ended.0 a.is (ap (λ r. r >>= λ stepped. Ok (further here stepped)) failed) other.steps less in
    absurd (no_error (chosen program values other.steps) b.reached ended.0 b.is none))
    (λ spent. let all : one.steps ≡ turns = spent.1 in omega arith)
    (cause-of values turns one.steps here one.stop ((a.stops one.stop).0 refl)))
    (λ late. late) (cases_lt one.steps other.steps)

pub traces_are_determined : TracesAreDetermined
traces_are_determined program values turns one other formed a b =
    let fewer = no-longer program values turns one other formed a b in
    let more = no-longer program values turns other one formed b a in
    let steps : one.steps ≡ other.steps = omega arith in
    let reached : a.reached ≡ b.reached = same_reached (chosen program values one.steps) a.reached b.reached a.is (ap (chosen program values) steps ∙ b.is) in
    let events : one.events ≡ other.events = a.events ∙ ap (λ r. r.events) reached ∙ sym b.events in
    let ends = (a.stops one.stop).0 refl in
    let there = subst (λ (n : ℕ). EndsBy values turns n b.reached one.stop) steps (subst (λ r. EndsBy values turns one.steps r one.stop) reached ends) in
    let stops : other.stop ≡ one.stop = (b.stops one.stop).1 there in
    λ i. record { events = events i; steps = steps i; stop = sym stops i }
