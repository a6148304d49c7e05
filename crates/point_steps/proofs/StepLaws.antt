-- Steps go from no columns to those of the point and of their targets; each way out is covered by a
-- step, and each passage and arrival by a way out.
use Rattle.std.proofs.Common.{◌≡◌, ℕ, zero, suc, ◌+◌, ◌<◌, ◌≤◌, ◌^◌, ℤ, length, take, get_or, List, [], ◌∷◌, ◌++◌, Option, None, Some, refl, sym, ap, subst, ◌∙◌, arith}
use Rattle.std.specs.Prelude.{All, Err, IfOk, Ok, Result, slice_get}
use Rattle.std.specs.List.{AllByRecursion}
use Rattle.std.proofs.lemmas.List.{take_all, take_more}
use Rattle.std.proofs.lemmas.List.Elements.{All-from_recursion}
use Rattle.items.proofs.Each.{each-append, each-back, each-front, each-get, each-more}
use Rattle.linear_terms.specs.declared.row.Case.{Case}
use Rattle.path_expr.specs.declared.cell.Cell.{Cell}
use Rattle.syntax_tree.specs.declared.program.Proc.{Proc}
use Rattle.syntax_tree.specs.declared.program.Program.{Program}
use Rattle.syntax_tree.specs.Code.{Call, code_of}
use Rattle.syntax_tree.specs.Term.{Term}
use Rattle.syntax_tree.specs.Value.{State}
use Rattle.syntax_tree.specs.WellFormed.{IsWellFormed, width_of}
use Rattle.execution.specs.Step.{values_of}
use Rattle.transition_formula.specs.Composition.{sequence_of}
use Rattle.transition_formula.specs.Meaning.{Covers, Holds, HoldsSome}
use Rattle.transition_formula.specs.Transition.{IsTransition, Transition}
use Rattle.transition_formula.proofs.Meanings.{sequence-holds}
use Rattle.farkas_check.specs.Asking.{Asking}
use Rattle.posing.specs.declared.error.WorkError.{WorkError}
use Rattle.posing.specs.declared.log.Log.{Log}
use Rattle.posing.specs.Follows.{Follows}
use Rattle.posing.specs.Posing.{Always, Done, Posing, each}
use Rattle.posing.proofs.Steps.{value_has}
use Rattle.posing.proofs.Paths.{always_bind, always_each, always_weaker}
use Rattle.polyhedra.specs.Settle.{settled_cases, settled_formula}
use Rattle.polyhedra.proofs.SettleLaws.{settled_cases-fit}
use Rattle.flow_graph.specs.FlowGraph.{Arc, CheckPlace, exit_of}
use Rattle.flow_graph.specs.Laws.{last_of}
use Rattle.flow_graph.proofs.Within.{arcs_within}
use Rattle.leaf_cases.specs.Conditions.{KnownCalls}
use Rattle.leaf_cases.specs.Summaries.{exit_values}
use Rattle.leaf_cases.proofs.EdgeMeanings.{entering_holds}
use Rattle.leaf_cases.proofs.Graphs.{CallFits, EdgeFits}
use Rattle.vocabularies.specs.Ends.{entry_width}
use Rattle.vocabularies.specs.Procs.{IsProcOf}
use Rattle.checked_tree.proofs.Between.{some-length}
use Rattle.proc_summary.specs.Claims.{HoldsIf}
use Rattle.proc_summary.specs.Flow.{formula_at}
use Rattle.proc_summary.specs.Subject.{own_graph}
use Rattle.proc_summary.specs.Summary.{ends_of, exit_places}
use Rattle.context.proofs.AssertionPlaces.{proc-fit}
use Rattle.context.proofs.Few.{few-more}
use Rattle.context.proofs.WaysFit.{arcs-fit}
use Rattle.point_induction.specs.Points.{Arrival, Passage, heads_of}
use Rattle.point_steps.specs.declared.outs.WayOut.{WayOut}
use Rattle.point_steps.specs.declared.target.PointStep.{PointStep}
use Rattle.point_steps.specs.declared.target.Target.{Target}
use Rattle.point_steps.specs.declared.target.Target.TheVariants as targets
use Rattle.point_steps.specs.Claims.{ArePointSteps, AreWayCells, HasStep, IsPointStep, IsState, IsStateAt, StepsCover, WaysCover, target_columns}
use Rattle.point_steps.specs.Outs.{arguments_formula, call_outs, check_outs, exit_outs, head_outs, outs_of}
use Rattle.point_steps.specs.Parts.{CoverOuts, CoversOut, IsBehind, IsOut, IsOutFormula, IsStepOrigin, IsWayOut, way_columns}
use Rattle.point_steps.specs.Steps.{returning_formula, step_formula, step_of, steps_by, with_step}
use Rattle.point_steps.proofs.HeadPlaces.{head-place}
use Rattle.point_steps.proofs.OutFits.{arguments-formula-fits, entry-formula, exit-places-below, exit-places-length, exit-places-told, globals-within, narrow-width, out-ready, state-ready}
use Rattle.point_steps.proofs.StepFormulas.{passing-fits, passing-holds, returning-fits, returning-holds}
use Rattle.point_steps.proofs.StepOuts.{call-out, check-out, exit-out, head-out, passage-passed}

-- ---- what a call's value is

pub if_ok-has : {S A : Type 0} {O : Asking S} {old new : S} {before after : Log} {p : Posing A} (result : Result A WorkError) (P : A → Type 0) → Follows O old new before after result p → Always P p → IfOk result P
if_ok-has (Ok value) P follows holds = value_has P follows holds
if_ok-has (Err error) P follows holds = tt

-- ---- steps that are made stay

got-front : {A : Type 0} (xs ys : List A) (k : ℕ) (x : A) → slice_get xs k ≡ Some x → slice_get (xs ++ ys) k ≡ Some x
got-front [] ys k x e = absurd (cc)
got-front (z ∷ xs) ys zero x e = e
got-front (z ∷ xs) ys (suc k) x e = got-front xs ys k x e

got-last : {A : Type 0} (xs : List A) (x : A) → slice_get (xs ++ x ∷ []) (length xs) ≡ Some x
got-last [] x = refl
got-last (z ∷ xs) x = got-last xs x

step-stays : (made all : List PointStep) (target : Target) (after : List ℤ) → IsBehind made all → HasStep made target after → HasStep all target after
step-stays made all target after behind h = record {
  place = h.place;
  step = h.step;
  is = ap (λ steps. slice_get steps h.place) behind.is ∙ got-front made behind.more h.place h.step h.is;
  leads = h.leads;
  holds = h.holds;
}

pub covers-more : (columns : ℕ) (places : List ℕ) (state : Transition) (made all : List PointStep) → IsBehind made all → (outs : List WayOut) → CoverOuts columns places state outs made → CoverOuts columns places state outs all
covers-more columns places state made all behind outs h =
    each-more (CoversOut columns places state made) (CoversOut columns places state all) (λ out k. record { covers = λ after holds. step-stays made all out.target after behind (k.covers after holds) }) outs h

-- ---- a step that is made covers its way out

pub made-behind : (made all : List PointStep) (target : Target) (left : Transition) → all ≡ made ++ step_of target left left.cases → IsBehind made all
made-behind made all target left e = record { more = step_of target left left.cases; is = e }

pub made-covers : (columns : ℕ) (places : List ℕ) (state : Transition) (made all : List PointStep) (out : WayOut) (f left : Transition) → f ≡ step_formula columns places out.target state out.formula → Covers left f → all ≡ made ++ step_of out.target left left.cases
    → CoversOut columns places state all out
made-covers columns places state made all out f left same covers e = record {
  covers = λ after h. let held = covers [] after (subst (λ g. Holds g [] after) (sym same) h) in there after held left.cases e held.some;
}
  where
    there : (after : List ℤ) → Holds left [] after → (cases : List Case) → all ≡ made ++ step_of out.target left cases → HoldsSome cases [] after → HasStep all out.target after
    there after held [] e some = absurd some
    there after held (case ∷ cases) e some = record {
      place = length made;
      step = record { target = out.target; formula = left };
      is = ap (λ steps. slice_get steps (length made)) e ∙ got-last made (record { target = out.target; formula = left });
      leads = refl;
      holds = held;
    }

-- ---- for the loop over the ways out

pub covers-next : (columns : ℕ) (places : List ℕ) (state : Transition) (outs : List WayOut) (i : ℕ) (out : WayOut) (made all : List PointStep) → i < length outs → out ≡ get_or outs i out → IsBehind made all
    → CoversOut columns places state all out → CoverOuts columns places state (take i outs) made → CoverOuts columns places state (take (i + 1) outs) all
covers-next columns places state outs i out made all lt is behind one h =
    subst (λ xs. CoverOuts columns places state xs all) (sym (take_more outs i out lt ∙ ap (λ x. take i outs ++ x ∷ []) (sym is)))
    (each-append (CoversOut columns places state all) (take i outs) (out ∷ []) (covers-more columns places state made all behind (take i outs) h) (one, tt))

pub covers-all : (columns : ℕ) (places : List ℕ) (state : Transition) (outs : List WayOut) (i : ℕ) (made : List PointStep) → length outs ≤ i → CoverOuts columns places state (take i outs) made → CoverOuts columns places state outs made
covers-all columns places state outs i made le h = subst (λ xs. CoverOuts columns places state xs made) (take_all i outs le) h

-- ---- what steps are like

record SettlesTo (f g : Transition) : Type 0 where
  from : g.from ≡ f.from
  to : g.to ≡ f.to
  fits : IsTransition g.from g.to g.cases

settled-is : (f : Transition) → IsTransition f.from f.to f.cases → Always (SettlesTo f) (settled_formula f)
unfolding settled_formula
settled-is f fit =
    always_bind (IsTransition f.from f.to) (SettlesTo f) (settled_cases f.cases) (λ cases. Done record { from = f.from; to = f.to; cases = cases })
    (settled_cases-fit f.from f.to f.cases fit) (λ cases k. record { from = refl; to = refl; fits = k })

module _ (program : Program) (proc : ℕ) (p : Proc) (formed : IsWellFormed program) (is : IsProcOf program proc p) (state : Transition) (is_state : IsState (width_of program p + entry_width program p) state) where
  ready-state : IsStepOrigin (width_of program p) (exit_places (ends_of program p)) state
  ready-state = state-ready program proc p formed is state is_state (exit_places (ends_of program p)) refl

  record IsStepFormula (target : Target) (f : Transition) : Type 0 where
    from : f.from ≡ 0
    to : f.to ≡ width_of program p + target_columns program p target
    fits : IsTransition f.from f.to f.cases

  step-formula-is : (target : Target) (way : Transition) → IsWayOut program p (record { target = target; formula = way; lost = [] }) → IsStepFormula target (step_formula (width_of program p) (exit_places (ends_of program p)) target state way)
  step-formula-is target way out = go target (out-ready program proc p formed is (exit_places (ends_of program p)) refl (record { target = target; formula = way; lost = [] }) out) out.to
    where
      go : (target : Target) → IsOut (width_of program p) (exit_places (ends_of program p)) (record { target = target; formula = way; lost = [] }) → way.to ≡ way_columns program p target
          → IsStepFormula target (step_formula (width_of program p) (exit_places (ends_of program p)) target state way)
      go (targets.Head node) o e = record { from = refl; to = ap (λ n. width_of program p + n) e; fits = passing-fits (width_of program p) (exit_places (ends_of program p)) state ready-state way o.formula }
      go (targets.Entry callee) o e = record { from = refl; to = ap (λ n. width_of program p + n) e; fits = passing-fits (width_of program p) (exit_places (ends_of program p)) state ready-state way o.formula }
      go targets.Exit o e =
          let to = is_state.to in
          let long = exit-places-length program proc p formed is in
          record { from = refl; to = omega (arith, to, long); fits = returning-fits (width_of program p) (exit_places (ends_of program p)) state ready-state way o.formula o.there }
      go (targets.Check number) o e = record { from = refl; to = ap (λ n. width_of program p + n) e; fits = passing-fits (width_of program p) (exit_places (ends_of program p)) state ready-state way o.formula }

  step-of-is : (target : Target) (f g : Transition) → IsStepFormula target f → SettlesTo f g → AllByRecursion (IsPointStep program p) (step_of target g g.cases)
  step-of-is target f g h k = go g.cases refl
    where
      go : (cases : List Case) → g.cases ≡ cases → AllByRecursion (IsPointStep program p) (step_of target g cases)
      go [] e = tt
      go (case ∷ cases) e = (record { from = k.from ∙ h.from; to = k.to ∙ h.to; fits = k.fits; some = subst (λ cs. 1 ≤ length cs) (sym e) (omega arith) }, tt)

  abbrev Keeps : List WayOut → List PointStep → Type 0
  Keeps rest made = AllByRecursion (IsWayOut program p) rest × AllByRecursion (IsPointStep program p) made

  with_step-is : (out : WayOut) (rest : List WayOut) (made : List PointStep) → Keeps (out ∷ rest) made → Always (Keeps rest) (with_step (width_of program p) (exit_places (ends_of program p)) state made out)
  unfolding with_step
  with_step-is out rest made h =
      let f : Transition = step_formula (width_of program p) (exit_places (ends_of program p)) out.target state out.formula in
      let own = h.0.0 in
      let fit = step-formula-is out.target out.formula (record { from = own.from; to = own.to; fits = own.fits; few = own.few }) in
      always_bind (SettlesTo f) (Keeps rest) (settled_formula f) (λ g. Done (made ++ step_of out.target g g.cases)) (settled-is f fit.fits)
      (λ g k. (h.0.1, each-append (IsPointStep program p) made (step_of out.target g g.cases) h.1 (step-of-is out.target f g fit k)))

  pub steps-are : (outs : List WayOut) → AllByRecursion (IsWayOut program p) outs → Always (ArePointSteps program p) (steps_by (width_of program p) (exit_places (ends_of program p)) state outs)
  unfolding steps_by
  steps-are outs h =
      always_weaker (Keeps []) (ArePointSteps program p) (each (with_step (width_of program p) (exit_places (ends_of program p)) state) [] outs) (λ steps k. All-from_recursion (IsPointStep program p) steps k.1)
      (always_each Keeps (with_step (width_of program p) (exit_places (ends_of program p)) state) [] outs with_step-is (h, tt))

-- ---- what the ways out cover

-- a formula that may be missing and holds is there
record IsThere (o : Option Transition) (before after : State) : Type 0 where
  f : Transition
  is : o ≡ Some f
  holds : Holds f before after

there-is : (o : Option Transition) (before after : State) → HoldsIf o before after → IsThere o before after
there-is None before after h = absurd h
there-is (Some f) before after h = record { f = f; is = refl; holds = h }

module _ (program : Program) (proc : ℕ) (p : Proc) (formed : IsWellFormed program) (is : IsProcOf program proc p) (known : List (Option Transition)) (point : ℕ) (state : Transition)
    (is_state : IsState (width_of program p + entry_width program p) state) (cells : List (Cell Transition)) (ways : AreWayCells (width_of program p) cells) (cover : WaysCover program p known point cells) (steps : List PointStep)
    (outs : CoverOuts (width_of program p) (exit_places (ends_of program p)) state (outs_of program proc p point cells) steps) where
  abbrev Covered : WayOut → Type 0
  Covered out = CoversOut (width_of program p) (exit_places (ends_of program p)) state steps out

  abbrev HeadOuts : List WayOut
  HeadOuts = head_outs (width_of program p) cells (own_graph p).nodes (heads_of (own_graph p))

  abbrev CallOuts : List WayOut
  CallOuts = call_outs (width_of program p) (length program.globals) cells (own_graph p).arcs point

  abbrev ExitOuts : List WayOut
  ExitOuts = exit_outs program.main proc (width_of program p) cells (exit_of (code_of p.body))

  abbrev CheckOuts : List WayOut
  CheckOuts = check_outs (width_of program p) cells (own_graph p).arcs point 0 (own_graph p).checks

  heads-covered : AllByRecursion Covered HeadOuts
  heads-covered = each-front Covered HeadOuts (CallOuts ++ (ExitOuts ++ CheckOuts)) outs

  calls-covered : AllByRecursion Covered CallOuts
  calls-covered = each-front Covered CallOuts (ExitOuts ++ CheckOuts) (each-back Covered HeadOuts (CallOuts ++ (ExitOuts ++ CheckOuts)) outs)

  exits-covered : AllByRecursion Covered ExitOuts
  exits-covered = each-front Covered ExitOuts CheckOuts (each-back Covered CallOuts (ExitOuts ++ CheckOuts) (each-back Covered HeadOuts (CallOuts ++ (ExitOuts ++ CheckOuts)) outs))

  checks-covered : AllByRecursion Covered CheckOuts
  checks-covered = each-back Covered ExitOuts CheckOuts (each-back Covered CallOuts (ExitOuts ++ CheckOuts) (each-back Covered HeadOuts (CallOuts ++ (ExitOuts ++ CheckOuts)) outs))

  own-state : IsStepOrigin (width_of program p) (exit_places (ends_of program p)) state
  own-state = state-ready program proc p formed is state is_state (exit_places (ends_of program p)) refl

  way-formula : (node : ℕ) (f : Transition) → formula_at (width_of program p) cells node ≡ Some f → IsOutFormula (width_of program p) f
  way-formula node f e =
      let way = ways.each node f e in
      let narrow = narrow-width program proc p formed is in
      let to = way.to in
      record { from = way.from; to = omega (arith, to, narrow); fits = way.fits; few = few-more 64 (2 ^ 31 + 1000) f (omega arith) way.few }

  way-end : (node : ℕ) (f : Transition) (before after : State) → formula_at (width_of program p) cells node ≡ Some f → Holds f before after → length after ≡ width_of program p
  way-end node f before after e h = let way = ways.each node f e in some-length f.from f.to f.cases way.fits before after h.some ∙ way.to

  head-covered : (before begun after : State) (head : ℕ) → IsStateAt program p state before begun → Arrival (KnownCalls known) (length program.globals) (own_graph p).arcs point before head after → HasStep steps (targets.Head head) (before ++ after)
  head-covered before begun after head at arrival =
      let within = (arcs_within (code_of p.body) arrival.edge arrival.way arrival.is).1 in
      let place = head-place (own_graph p) head arrival.head_is (subst (λ n. n < (own_graph p).nodes) arrival.ends within) in
      let way = there-is (formula_at (width_of program p) cells ((own_graph p).nodes + place.0)) before after (cover.arrived place.0 head before after at.width place.1 arrival) in
      (head-out Covered (width_of program p) cells (own_graph p).nodes (heads_of (own_graph p)) place.0 head way.f place.1 way.is heads-covered).covers (before ++ after)
      (passing-holds (width_of program p) (exit_places (ends_of program p)) state own-state way.f (way-formula ((own_graph p).nodes + place.0) way.f way.is) before begun after at.width at.holds way.holds)

  entry-covered : (before begun after values : State) (edge : ℕ) (way : Arc) (callee : ℕ) (terms : List Term) (into : Option ℕ) → IsStateAt program p state before begun → slice_get (own_graph p).arcs edge ≡ Some way → way.act ≡ Call callee terms into
      → Passage (KnownCalls known) (length program.globals) (own_graph p).arcs point before way.from after → values_of terms after ≡ Some values → HasStep steps (targets.Entry callee) (before ++ (take (length program.globals) after ++ values))
  entry-covered before begun after values edge way callee terms into at is_edge act passage are =
      let columns : ℕ = width_of program p in
      let globals : ℕ = length program.globals in
      let there = there-is (formula_at columns cells way.from) before after (cover.passed way.from before after at.width passage) in
      let called : CallFits program columns callee terms into = subst (EdgeFits program columns) act (each-get (λ (w : Arc). EdgeFits program columns w.act) (own_graph p).arcs edge way (arcs-fit program formed proc p is) is_edge) in
      let params = (proc-fit program callee called.callee formed called.is).params in
      let same = called.params in
      let few : length terms ≤ 8 = omega (arith, params, same) in
      let own = ways.each way.from there.f there.is in
      let wide = globals-within program proc p formed is in
      let narrow = narrow-width program proc p formed is in
      let long = way-end way.from there.f before after there.is there.holds in
      let both = sequence-holds there.f (arguments_formula columns globals terms) own.to own.fits (arguments-formula-fits columns globals terms wide narrow few called.below called.operators) before after (take globals after ++ values) there.holds
      (entering_holds columns globals terms wide called.below after values long are) in
      let out = entry-formula columns globals terms wide narrow few called.below called.operators there.f own in
      (call-out Covered columns globals cells (own_graph p).arcs point edge way callee terms into there.f is_edge act (passage-passed (KnownCalls known) globals (own_graph p).arcs point before way.from after passage) there.is calls-covered).covers
      (before ++ (take globals after ++ values))
      (passing-holds columns (exit_places (ends_of program p)) state own-state (sequence_of there.f (arguments_formula columns globals terms)) out before begun (take globals after ++ values) at.width at.holds both)

  exit-covered : (before begun after : State) → IsStateAt program p state before begun → (proc ≡ program.main → ⊥) → Passage (KnownCalls known) (length program.globals) (own_graph p).arcs point before (exit_of (code_of p.body)) after
      → HasStep steps targets.Exit (before ++ (begun ++ exit_values p (take (length program.globals) after) (last_of after)))
  exit-covered before begun after at other passage =
      let columns : ℕ = width_of program p in
      let node : ℕ = exit_of (code_of p.body) in
      let there = there-is (formula_at columns cells node) before after (cover.passed node before after at.width passage) in
      let own = ways.each node there.f there.is in
      let long = way-end node there.f before after there.is there.holds in
      let told = exit-places-told program proc p formed is after long in
      (exit-out Covered program.main proc columns cells node there.f other there.is exits-covered).covers (before ++ (begun ++ exit_values p (take (length program.globals) after) (last_of after)))
      (subst (λ values. Holds (returning_formula columns (exit_places (ends_of program p)) state there.f) [] (before ++ (begun ++ values))) told
      (returning-holds columns (exit_places (ends_of program p)) state own-state there.f (way-formula node there.f there.is) (subst (λ n. All (λ place. place < n) (exit_places (ends_of program p))) (sym own.to) (exit-places-below program proc p formed is)) before begun after at.width at.holds there.holds))

  check-covered : (before begun after : State) (number : ℕ) (check : CheckPlace) → IsStateAt program p state before begun → slice_get (own_graph p).checks number ≡ Some check → Passage (KnownCalls known) (length program.globals) (own_graph p).arcs point before check.node after
      → HasStep steps (targets.Check number) (before ++ after)
  check-covered before begun after number check at is_check passage =
      let columns : ℕ = width_of program p in
      let there = there-is (formula_at columns cells check.node) before after (cover.passed check.node before after at.width passage) in
      let here : 0 + number ≡ number = omega arith in
      subst (λ n. HasStep steps (targets.Check n) (before ++ after)) here
      ((check-out Covered columns cells (own_graph p).arcs point 0 (own_graph p).checks number check there.f is_check (passage-passed (KnownCalls known) (length program.globals) (own_graph p).arcs point before check.node after passage) there.is checks-covered).covers
      (before ++ after) (passing-holds columns (exit_places (ends_of program p)) state own-state there.f (way-formula check.node there.f there.is) before begun after at.width at.holds there.holds))

  pub steps-cover : StepsCover program proc p known point state steps
  steps-cover = record { heads = head-covered; entries = entry-covered; exits = exit-covered; checks = check-covered }
