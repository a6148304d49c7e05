-- The steps of a table cover what activations do, where they cover it from the states of points and
-- by the known formulas with the rows of the table at exits.
use Rattle.std.proofs.Common.{◌≡◌, ℕ, ℤ, List, [], ◌∷◌, ◌++◌, Option, Some, refl, sym, ap, subst, ◌∙◌, arith, append_assoc, length, take, length-append}
use Rattle.std.specs.Prelude.{slice_get, ◌≢◌}
use Rattle.std.specs.List.{AllByRecursion}
use Rattle.std.proofs.lemmas.Option.{same_Some}
use Rattle.items.proofs.Each.{each-get}
use Rattle.syntax_tree.specs.declared.program.Proc.{Proc}
use Rattle.syntax_tree.specs.declared.program.Program.{Program}
use Rattle.syntax_tree.specs.Code.{Statement, Set, Any, Call, Guard, Check, If, Loop, Break, Continue, Return, code_of}
use Rattle.syntax_tree.specs.Term.{Term}
use Rattle.syntax_tree.specs.Value.{State}
use Rattle.execution.specs.Step.{values_of}
use Rattle.flow_graph.specs.FlowGraph.{Arc, body_of, exit_of, flow_of}
use Rattle.flow_graph.specs.Laws.{last_of}
use Rattle.flow_graph.specs.Walks.{EdgeRelates, Stride, Walks}
use Rattle.transition_formula.specs.Meaning.{Holds}
use Rattle.transition_formula.specs.Transition.{Transition}
use Rattle.leaf_cases.specs.Conditions.{KnownCalls, columns_in}
use Rattle.leaf_cases.specs.Summaries.{KnowsCallee, exit_values}
use Rattle.leaf_cases.proofs.MetCalls.{exits_are, met_calls_are_known, returns-globals}
use Rattle.proc_summary.specs.Subject.{own_graph}
use Rattle.point_induction.specs.Points.{Arrival, Passage}
use Rattle.point_induction.specs.Induction.{ReturnsSaid, Sayings, arcs_of}
use Rattle.point_rows.specs.Exits.{formulas_with_exits}
use Rattle.point_rows.specs.ExitLaws.{ExitRowsAreMet}
use Rattle.point_rows.specs.Reading.{AreTrueOf}
use Rattle.point_steps.specs.Claims.{HasStep, IsStateAt}
use Rattle.point_rounds.specs.declared.round.PointState.{PointState}
use Rattle.point_rounds.specs.declared.round.StepFrom.{StepFrom}
use Rattle.point_rounds.specs.declared.table.PointTable.{PointTable}
use Rattle.point_rounds.specs.Closed.{CoverTable, CoversState, HasState, IsStepFrom, StatesHold, TellCalls, target_of}
use Rattle.point_rounds.specs.Laws.{ClosedTablesAreTrue}
use Rattle.point_rounds.specs.Sayings.{exit_numbers, pair_numbers, sayings_of_table}
use Rattle.point_rounds.specs.Steps.{CoversPassages, StepGoal, IsAtPoint, ToEntry, ToExit, ToHead}
use Rattle.point_rounds.specs.Table.{rows_at_exit}
use Rattle.point_rounds.proofs.KeptRows.{kept_rows_are_true}
use Rattle.point_rounds.proofs.WalkWidths.{walk-width}

module _ (met_exits : ExitRowsAreMet) (program : Program) (known : List (Option Transition)) (table : PointTable) (tell : TellCalls program known) where
  abbrev say : Sayings
  say = sayings_of_table program table

  abbrev all : List (Option Transition)
  all = formulas_with_exits known table.exits

  -- ---- calls that returned, by the known formulas with rows at exits

  said-known : (callee : ℕ) (f : Transition) → slice_get known callee ≡ Some (Some f) → (globals args left : State) (value : ℤ) → ReturnsSaid program say callee globals args left value
      → KnownCalls all callee globals args left value
  said-known callee f is globals args left value r =
      let call = met_calls_are_known program known tell.fits tell.met callee f is globals args left value r.returns in
      let p : Proc = r.returns.begins.entered.callee in
      let there = r.returns.begins.entered.is in
      let to = (tell.fits.fit callee p call.formula there call.is).leaves in
      let long = returns-globals program callee globals args left value r.returns ∙ r.returns.begins.width in
      let told : take call.formula.to (left ++ value ∷ []) ≡ exit_numbers (slice_get program.procs callee) left value =
      ap (λ n. take n (left ++ value ∷ [])) to ∙ exits_are p.returns (length program.globals) left value long ∙ ap (λ o. exit_numbers o left value) (sym there) in
      met_exits known table.exits callee globals args left value call
      (subst (λ numbers. AreTrueOf (rows_at_exit table callee) (globals ++ (args ++ numbers))) (sym told) r.said)

  relates-known : (act : Statement) (before after : State) → KnowsCallee known act → EdgeRelates (ReturnsSaid program say) (length program.globals) act before after
      → EdgeRelates (KnownCalls all) (length program.globals) act before after
  relates-known (Call callee terms into) before after knows call =
      record {
        values = call.values;
        are = call.are;
        left = call.left;
        value = call.value;
        returns = said-known callee knows.0 knows.1 _ call.values call.left call.value call.returns;
        after_is = call.after_is;
      }
  relates-known (Set col value) before after knows relates = relates
  relates-known (Any col) before after knows relates = relates
  relates-known (Guard cond) before after knows relates = relates
  relates-known (Check number cond) before after knows relates = relates
  relates-known (If cond on_true on_false) before after knows relates = relates
  relates-known (Loop pre cond body step first) before after knows relates = relates
  relates-known Break before after knows relates = relates
  relates-known Continue before after knows relates = relates
  relates-known Return before after knows relates = relates

  walks-known : (arcs : List Arc) → AllByRecursion (λ (way : Arc). KnowsCallee known way.act) arcs → (node : ℕ) (before : State) (path : List Stride) (last : ℕ) (after : State)
      → Walks (ReturnsSaid program say) (length program.globals) arcs node before path last after → Walks (KnownCalls all) (length program.globals) arcs node before path last after
  walks-known arcs knows node before [] last after walk = walk
  walks-known arcs knows node before (stride ∷ path) last after (way, is, from, relates, later) =
      (way, is, from, relates-known way.act before stride.state (each-get (λ (w : Arc). KnowsCallee known w.act) arcs stride.edge way knows is) relates, walks-known arcs knows way.to stride.state path last after later)

  module _ (states : List PointState) (steps : List StepFrom) (holds : StatesHold program states) where
    -- ---- from one point

    module _ (proc node : ℕ) (globals args before : State) (at : IsAtPoint program proc node globals args before) (state : PointState) (proc_is : state.proc ≡ proc) (node_is : state.node ≡ node)
        (held : HasState states proc node (before ++ (globals ++ args))) (same : held.state ≡ state) (cover : CoversState program all steps state) where
      here : slice_get program.procs proc ≡ Some cover.p
      here = ap (slice_get program.procs) (sym proc_is) ∙ cover.is

      arcs-are : arcs_of program proc ≡ (own_graph cover.p).arcs
      arcs-are = ap (λ (o : Option Proc). (flow_of (body_of o)).arcs) here

      pub state-at : IsStateAt program cover.p state.formula before (globals ++ args)
      state-at =
          let sum = length-append globals args in
          let width = at.walk.width in
          let params : length args ≡ cover.p.params = subst (λ (q : Proc). length args ≡ q.params) (same_Some at.walk.callee cover.p (sym at.walk.is ∙ here)) at.walk.params in
          record {
            width = walk-width program proc globals args node before cover.p here at.walk;
            entry = omega (arith, sum, width, params);
            holds = subst (λ (s : PointState). Holds s.formula [] (before ++ (globals ++ args))) same held.holds;
          }

      knows : AllByRecursion (λ (way : Arc). KnowsCallee known way.act) (arcs_of program proc)
      knows = subst (λ arcs. AllByRecursion (λ (way : Arc). KnowsCallee known way.act) arcs) (sym arcs-are) (tell.callees proc cover.p here)

      pub passage-known : (to : ℕ) (after : State) → Passage (ReturnsSaid program say) (length program.globals) (arcs_of program proc) node before to after
          → Passage (KnownCalls all) (length program.globals) (own_graph cover.p).arcs state.node before to after
      passage-known to after p =
          subst (λ n. Passage (KnownCalls all) (length program.globals) (own_graph cover.p).arcs n before to after) (sym node_is)
          (subst (λ arcs. Passage (KnownCalls all) (length program.globals) arcs node before to after) arcs-are
          record { path = p.path; walk = walks-known (arcs_of program proc) knows node before p.path to after p.walk; free = p.free })

      arrival-known : (head : ℕ) (after : State) → Arrival (ReturnsSaid program say) (length program.globals) (arcs_of program proc) node before head after
          → Arrival (KnownCalls all) (length program.globals) (own_graph cover.p).arcs state.node before head after
      arrival-known head after a =
          let near : Passage (KnownCalls all) (length program.globals) (arcs_of program proc) node before a.last a.between =
          record { path = a.passage.path; walk = walks-known (arcs_of program proc) knows node before a.passage.path a.last a.between a.passage.walk; free = a.passage.free } in
          let callee = each-get (λ (w : Arc). KnowsCallee known w.act) (arcs_of program proc) a.edge a.way knows a.is in
          subst (λ n. Arrival (KnownCalls all) (length program.globals) (own_graph cover.p).arcs n before head after) (sym node_is)
          (subst (λ arcs. Arrival (KnownCalls all) (length program.globals) arcs node before head after) arcs-are
          record {
            last = a.last;
            between = a.between;
            passage = near;
            edge = a.edge;
            way = a.way;
            is = a.is;
            starts = a.starts;
            ends = a.ends;
            head_is = a.head_is;
            relates = relates-known a.way.act a.between after callee a.relates;
          })

      -- a step of the state is one of the steps
      step-among : (goal : StepGoal) (after : State) → HasStep cover.own (target_of goal) (before ++ after) → IsStepFrom program steps proc node goal before after
      step-among goal after has =
          let found = cover.among has.place has.step has.is in
          record {
            width = state-at.width ∙ ap (columns_in program) (sym here);
            place = found.0;
            from = record { proc = state.proc; node = state.node; step = has.step };
            is = found.1;
            proc_is = proc_is;
            node_is = node_is;
            leads = has.leads;
            holds = has.holds;
          }

      head-covered : (head : ℕ) (after : State) → Arrival (ReturnsSaid program say) (length program.globals) (arcs_of program proc) node before head after
          → IsStepFrom program steps proc node (ToHead head) before after
      head-covered head after a = step-among (ToHead head) after (cover.cover.heads before (globals ++ args) after head state-at (arrival-known head after a))

      entry-covered : (after : State) (edge : ℕ) (way : Arc) → slice_get (arcs_of program proc) edge ≡ Some way
          → Passage (ReturnsSaid program say) (length program.globals) (arcs_of program proc) node before way.from after
          → (callee : ℕ) (terms : List Term) (into : Option ℕ) (values : State) → way.act ≡ Call callee terms into → values_of terms after ≡ Some values
          → IsStepFrom program steps proc node (ToEntry callee) before (take (length program.globals) after ++ values)
      entry-covered after edge way is p callee terms into values act are =
          step-among (ToEntry callee) (take (length program.globals) after ++ values)
          (cover.cover.entries before (globals ++ args) after values edge way callee terms into state-at (subst (λ arcs. slice_get arcs edge ≡ Some way) arcs-are is) act (passage-known way.from after p) are)

      exit-covered : (after : State) → proc ≢ program.main → Passage (ReturnsSaid program say) (length program.globals) (arcs_of program proc) node before (exit_of (body_of (slice_get program.procs proc))) after
          → IsStepFrom program steps proc node ToExit before (pair_numbers program proc globals args (take (length program.globals) after) (last_of after))
      exit-covered after other p =
          let left : State = take (length program.globals) after in
          let value : ℤ = last_of after in
          let exit : exit_of (body_of (slice_get program.procs proc)) ≡ exit_of (code_of cover.p.body) = ap (λ (o : Option Proc). exit_of (body_of o)) here in
          let passage = subst (λ n. Passage (KnownCalls all) (length program.globals) (own_graph cover.p).arcs state.node before n after) exit (passage-known (exit_of (body_of (slice_get program.procs proc))) after p) in
          let numbers : (globals ++ args) ++ exit_values cover.p left value ≡ pair_numbers program proc globals args left value =
          append_assoc globals args (exit_values cover.p left value) ∙ ap (λ o. globals ++ (args ++ exit_numbers o left value)) (sym here) in
          subst (λ after. IsStepFrom program steps proc node ToExit before after) numbers
          (step-among ToExit ((globals ++ args) ++ exit_values cover.p left value)
          (cover.cover.exits before (globals ++ args) after state-at (λ e. other (sym proc_is ∙ e)) passage))

    -- ---- from all points

    covers : CoverTable program known states steps table → CoversPassages program table (IsStepFrom program steps)
    covers cover =
        record {
          heads = λ proc node head globals args before after at arrival.
              let held = holds proc node globals args before at in
              head-covered proc node globals args before at held.state held.proc_is held.node_is held refl (each-get (CoversState program all steps) states held.place held.state cover held.is) head after arrival;
          entries = λ proc node globals args before after at edge way is passage callee terms into values act are.
              let held = holds proc node globals args before at in
              entry-covered proc node globals args before at held.state held.proc_is held.node_is held refl (each-get (CoversState program all steps) states held.place held.state cover held.is) after edge way is passage callee terms into values act are;
          exits = λ proc node globals args before after other at passage.
              let held = holds proc node globals args before at in
              exit-covered proc node globals args before at held.state held.proc_is held.node_is held refl (each-get (CoversState program all steps) states held.place held.state cover held.is) after other passage;
        }

module _ (met_exits : ExitRowsAreMet) where
  pub closed_tables_are_true : ClosedTablesAreTrue
  closed_tables_are_true program known states steps table shape tell holds cover kept =
      kept_rows_are_true program table (IsStepFrom program steps) shape (covers met_exits program known table tell states steps holds cover) kept
