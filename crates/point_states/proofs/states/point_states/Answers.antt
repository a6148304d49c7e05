use Rattle.std.proofs.Common.{◌≡◌, ◌<◌, [], ◌∙◌, get_or, length, sym, ap, subst, arith}
use Rattle.std.specs.List.{range_with_len}
use Rattle.std.proofs.lemmas.List.FromFn.{get_or-range_with_len, length-range_with_len}
use Rattle.posing.specs.Follows.{Leads}
use Rattle.posing.specs.Posing.{each}
use Rattle.posing.proofs.Following.{leads_none, loop_ends}
use Rattle.posing.proofs.Steps.{each_fails, each_next, in_other_words}
use Rattle.proc_summary.specs.declared.stop.Flow.{Flow}
use Rattle.point_rounds.specs.Closed.{ArePointStates}
use Rattle.point_states.specs.Additions.{AddsStates, ArePointsOf, TellsProcedure, TellsStop}
use Rattle.point_states.specs.AllStates.{states_of_points, with_points, with_procedure}
use Rattle.point_states.proofs.AddedStates.{back-procedure, both-added, front-procedure, nothing-added, procedure-added, range-next}
use Rattle.point_states.proofs.StatesOnChains.{points-ready, procedure-is, states-hold}
use Rattle.point_states.proofs.states.point_states.Goals as goal

pub loop-number-init : goal.loop-number-init
unfolding states_of_points
loop-number-init g c =
    let program = c.args.program.now in
    let numbers = range_with_len 0 (length program.procs) in
    let step = with_procedure program c.args.entries.now c.args.flows.now in
    let none = sym c.new-made.ensures in
    record {
      leads = subst (λ made. Leads g.O.Oracle.asking c.args.oracle.now c.args.oracle.now c.args.log.now c.args.log.now (each step [] numbers) (each step made numbers)) none (leads_none _ _ _ _);
      added = subst (AddsStates program (TellsProcedure program c.args.entries.now c.args.flows.now) [] []) none (nothing-added program (TellsProcedure program c.args.entries.now c.args.flows.now) []);
    }

pub with_points-requires : goal.with_points-requires
with_points-requires g c =
    let there = points-ready c.loop-number.number c.requires.formed c.requires.entries c.requires.flows (omega arith) c.index-entries-number.is c.index-flows-number.is in
    let same = c.as_slice-points.ensures ∙ ap (λ (flow : Flow). flow.points) (sym c.index-flows-number.is) in
    subst (ArePointsOf c.args.program.now c.loop-number.number c.index-entries-number.result) (sym same) there.points

pub loop-number-preserved : goal.loop-number-preserved
loop-number-preserved g c =
    let program = c.args.program.now in
    let entries = c.args.entries.now in
    let flows = c.args.flows.now in
    let count = length program.procs in
    let n = c.loop-number.number in
    let lt : n < count = omega arith in
    let long = length-range_with_len 0 count in
    let is : n ≡ get_or (range_with_len 0 count) n n = let at = get_or-range_with_len 0 count n n lt in omega (arith, at) in
    let there = points-ready n c.requires.formed c.requires.entries c.requires.flows lt c.index-entries-number.is c.index-flows-number.is in
    let begun = c.index-entries-number.result in
    let flow = c.index-flows-number.result in
    let made = c.loop-number.made in
    let Tells = TellsProcedure program entries flows in
    let same = c.as_slice-points.ensures ∙ ap (λ (flow : Flow). flow.points) (sym c.index-flows-number.is) in
    record {
      leads =
          each_next (with_procedure program entries flows) (range_with_len 0 count) n c.loop-number.invariant.leads (omega (arith, lt, long)) is
          (in_other_words (ap (with_points program n begun made) same ∙ procedure-is program entries flows made n begun flow there.entry_is there.flow_is) c.in_ok-made.ensures.follows);
      added =
          subst (λ numbers. AddsStates program Tells numbers [] c.in_ok-made.made) (sym (range-next n))
          (both-added program Tells (front-procedure program entries flows) (back-procedure program entries flows) c.loop-number.invariant.added
          (procedure-added program entries flows n begun flow made c.in_ok-made.made there.entry_is there.flow_is
          (subst (λ points. AddsStates program (TellsStop program n begun) points made c.in_ok-made.made) same c.in_ok-made.ensures.added)));
    }

pub returns-in_err-made-clause-follows : goal.returns-in_err-made-clause-follows
returns-in_err-made-clause-follows g c =
    let program = c.args.program.now in
    let entries = c.args.entries.now in
    let flows = c.args.flows.now in
    let count = length program.procs in
    let n = c.loop-number.number in
    let lt : n < count = omega arith in
    let long = length-range_with_len 0 count in
    let is : n ≡ get_or (range_with_len 0 count) n n = let at = get_or-range_with_len 0 count n n lt in omega (arith, at) in
    let there = points-ready n c.requires.formed c.requires.entries c.requires.flows lt c.index-entries-number.is c.index-flows-number.is in
    let begun = c.index-entries-number.result in
    let made = c.loop-number.made in
    let same = c.as_slice-points.ensures ∙ ap (λ (flow : Flow). flow.points) (sym c.index-flows-number.is) in
    each_fails (with_procedure program entries flows) (range_with_len 0 count) n c.loop-number.invariant.leads (omega (arith, lt, long)) is
    (in_other_words (ap (with_points program n begun made) same ∙ procedure-is program entries flows made n begun c.index-flows-number.result there.entry_is there.flow_is) c.in_err-made.ensures.follows)
    c.from_residual.ensures.1

pub returns-clause-follows : goal.returns-clause-follows
returns-clause-follows g c =
    let program = c.args.program.now in
    let long = length-range_with_len 0 (length program.procs) in
    loop_ends _ _ _ _ _ _ (with_procedure program c.args.entries.now c.args.flows.now) _ (range_with_len 0 (length program.procs)) c.loop-number.number c.loop-number.invariant.leads (omega (arith, long))

pub returns-clause-fits : goal.returns-clause-fits
returns-clause-fits g c = subst (ArePointStates c.args.program.now) (sym c.loop-number.invariant.added.is) c.loop-number.invariant.added.fits

pub returns-clause-holds : goal.returns-clause-holds
returns-clause-holds g c = λ enter hold.
    let program = c.args.program.now in
    let all : c.loop-number.number ≡ length program.procs = omega arith in
    states-hold program c.args.entries.now c.args.flows.now c.loop-number.made c.requires.entries c.requires.flows
    (subst (λ n. AddsStates program (TellsProcedure program c.args.entries.now c.args.flows.now) (range_with_len 0 n) [] c.loop-number.made) all c.loop-number.invariant.added) enter hold
