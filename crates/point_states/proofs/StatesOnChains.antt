-- The states of all points hold wherever an activation on top of a stack from `main` is at a point.
--     points-ready      what is asked of the points of the procedure of a number
--     procedure-is      the states of its points are those by its entry and its flow
--     states-hold       the states that are made hold
use Rattle.std.proofs.Common.{◌≡◌, ℕ, zero, suc, ◌+◌, ◌<◌, List, [], ◌++◌, length, get_or, Some, sym, ap, subst, ◌∙◌, arith}
use Rattle.std.specs.Prelude.{Option, slice_get}
use Rattle.std.specs.List.{range_with_len}
use Rattle.std.proofs.lemmas.List.Elements.{recursion_from_All}
use Rattle.std.proofs.lemmas.Option.{slice_get_read, slice_get_within}
use Rattle.items.proofs.Each.{each-get}
use Rattle.syntax_tree.specs.declared.program.Program.{Program}
use Rattle.syntax_tree.specs.Value.{State}
use Rattle.syntax_tree.specs.WellFormed.{IsWellFormed, width_of}
use Rattle.flow_graph.specs.FlowGraph.{body_of, flow_of}
use Rattle.flow_graph.specs.Stack.{Beginning}
use Rattle.flow_graph.specs.Walks.{WalksTo}
use Rattle.transition_formula.specs.Transition.{Transition}
use Rattle.proc_summary.specs.declared.stop.Flow.{Flow}
use Rattle.proc_summary.specs.Claims.{FitsStop, StopHolds}
use Rattle.proc_summary.specs.Subject.{own_graph}
use Rattle.context.specs.Claims.{AreEntries, AreFlows, EntriesHold, FlowsHold}
use Rattle.context.proofs.PlaceColumns.{got}
use Rattle.point_induction.specs.Points.{is_point, points_of}
use Rattle.point_rounds.specs.declared.round.PointState.{PointState}
use Rattle.point_rounds.specs.Closed.{HasState, StatesHold}
use Rattle.point_states.specs.Additions.{AddsStates, ArePointsOf, TellsProcedure, TellsStop}
use Rattle.point_states.specs.AllStates.{with_flow, with_points, with_procedure}
use Rattle.point_states.proofs.PointPlaces.{point-place, stop-at, stops-are}

-- ---- the procedure of a number

-- what stands at its place: its entry and its flow, whose points are ready
pub record StandsFor (program : Program) (entries : List (Option Transition)) (flows : List Flow) (proc : ℕ) (begun : Option Transition) (flow : Flow) : Type 0 where
  pub entry_is : slice_get entries proc ≡ Some begun
  pub flow_is : slice_get flows proc ≡ Some flow
  pub points : ArePointsOf program proc begun flow.points

pub points-ready : {program : Program} {entries : List (Option Transition)} {flows : List Flow} (proc : ℕ) {begun : Option Transition} {flow : Flow} → IsWellFormed program → AreEntries program entries → AreFlows program flows → proc < length program.procs
    → begun ≡ get_or entries proc begun → flow ≡ get_or flows proc flow → StandsFor program entries flows proc begun flow
points-ready {program} {entries} {flows} proc {begun} {flow} formed are_entries are_flows lt entry_read flow_read =
    let there = got program.procs proc lt in
    let entry_is = slice_get_read entries (length program.procs) proc begun (sym are_entries.each) lt entry_read in
    let flow_is = slice_get_read flows (length program.procs) proc flow (sym are_flows.each) lt flow_read in
    let fit = are_flows.fit proc there.0 flow there.1 flow_is in
    record {
      entry_is = entry_is;
      flow_is = flow_is;
      points = record {
        formed = formed;
        p = there.0;
        is = there.1;
        entry = are_entries.fit proc there.0 begun there.1 entry_is;
        each = stops-are program there.0 flow.points fit.points_are (recursion_from_All (FitsStop (width_of program there.0)) flow.points fit.points);
      };
    }

pub procedure-is : (program : Program) (entries : List (Option Transition)) (flows : List Flow) (made : List PointState) (proc : ℕ) (begun : Option Transition) (flow : Flow) → slice_get entries proc ≡ Some begun → slice_get flows proc ≡ Some flow
    → with_points program proc begun made flow.points ≡ with_procedure program entries flows made proc
unfolding with_procedure
procedure-is program entries flows made proc begun flow entry_is flow_is = λ i. with_flow program proc (sym entry_is i) (sym flow_is i) made

-- ---- all procedures

range-at : (first count k : ℕ) → k < count → slice_get (range_with_len first count) k ≡ Some (first + k)
range-at first zero k lt = absurd (omega (arith, lt))
range-at first (suc n) zero lt = ap (λ m. Some m) (omega arith)
range-at first (suc n) (suc k) lt = range-at (first + 1) n k (omega (arith, lt)) ∙ ap (λ m. Some m) (omega arith)

module _ (program : Program) (entries : List (Option Transition)) (flows : List Flow) (states : List PointState) (are_entries : AreEntries program entries) (are_flows : AreFlows program flows)
    (added : AddsStates program (TellsProcedure program entries flows) (range_with_len 0 (length program.procs)) [] states) (enter : EntriesHold program entries) (hold : FlowsHold program flows) where
  at-top : (proc node : ℕ) (globals args before : State) (top : Beginning) → top ≡ record { proc = proc; globals = globals; args = args } → (other : ℕ) → other ≡ node
      → HasState added.more proc other (before ++ (top.globals ++ top.args)) → HasState states proc node (before ++ (globals ++ args))
  at-top proc node globals args before top top_is other node_is h =
      subst (λ all. HasState all proc node (before ++ (globals ++ args))) (sym added.is)
      (subst (λ n. HasState added.more proc n (before ++ (globals ++ args))) node_is
      (subst (λ (t : Beginning). HasState added.more proc other (before ++ (t.globals ++ t.args))) top_is h))

  walk-there : (proc node : ℕ) (globals args before : State) (top : Beginning) → top ≡ record { proc = proc; globals = globals; args = args } → (other : ℕ) → other ≡ node
      → WalksTo program proc globals args node before → WalksTo program proc top.globals top.args other before
  walk-there proc node globals args before top top_is other node_is walk =
      subst (λ n. WalksTo program proc top.globals top.args n before) (sym node_is) (subst (λ (t : Beginning). WalksTo program proc t.globals t.args node before) (sym top_is) walk)

  pub states-hold : StatesHold program states
  states-hold proc node globals args before at =
      let p = at.walk.callee in
      let is = at.walk.is in
      let lt = slice_get_within program.procs proc p is in
      let many = are_entries.each in
      let all = are_flows.each in
      let begun = got entries proc (omega (arith, lt, many)) in
      let flow = got flows proc (omega (arith, lt, all)) in
      let fit = are_flows.fit proc p flow.0 is flow.1 in
      let place = point-place p node (ap (λ o. is_point (flow_of (body_of o)).arcs node) (sym is) ∙ at.is) in
      let there = stop-at flow.0.points (points_of (own_graph p)) place.0 node fit.points_are place.1 in
      let told = (each-get (TellsProcedure program entries flows added.more) (range_with_len 0 (length program.procs)) proc proc added.tells (range-at 0 (length program.procs) proc lt ∙ ap (λ n. Some n) (omega arith))).tells begun.0 flow.0 begun.1 flow.1 in
      let one = each-get (TellsStop program proc begun.0 added.more) flow.0.points place.0 there.stop told there.is in
      let stops = each-get (StopHolds program proc) flow.0.points place.0 there.stop (recursion_from_All (StopHolds program proc) flow.0.points (hold proc flow.0 flow.1).points) there.is in
      let chain = at.stands.chain in
      at-top proc node globals args before chain.top at.stands.is there.stop.node there.node_is
      (one.holds (enter proc begun.0 begun.1) stops at.stands.config chain (ap (λ (t : Beginning). t.proc) at.stands.is) before
      (walk-there proc node globals args before chain.top at.stands.is there.stop.node there.node_is at.walk))
