use Rattle.std.proofs.Common.{List, Option, refl, sym, ap, subst, ◌∙◌}
use Rattle.std.specs.Prelude.{IfSome}
use Rattle.syntax_tree.specs.declared.program.Program.{Program}
use Rattle.posing.proofs.Following.{stops}
use Rattle.posing.proofs.Steps.{at_end, error_first, value_first}
use Rattle.context.specs.Claims.{AreEntries, AreFlows, EntriesHold, FlowsHold}
use Rattle.leaf_cases.specs.Conditions.{AreKnown}
use Rattle.posing.specs.Posing.{Posing, Done, ◌>>=◌}
use Rattle.point_rounds.specs.declared.round.PointRound.{PointRound}
use Rattle.point_rounds.specs.declared.round.PointState.{PointState}
use Rattle.point_rounds.specs.Closed.{ArePointStates, StatesHold, TellCalls}
use Rattle.point_rounds.specs.Source.{AreGraphsOf, all_heads}
use Rattle.point_search.specs.declared.found.FoundTable.{FoundTable}
use Rattle.point_states.specs.AllStates.{states_of_points}
use Rattle.analysis.specs.declared.whole.FoundReport.{FoundReport}
use Rattle.point_reports.specs.declared.rounds.RoundsTold.{RoundsTold}
use Rattle.point_reports.specs.Parts.{CoversRound, IsTrueRound}
use Rattle.point_reports.specs.Proof.{rounds_of, rounds_on}
use Rattle.point_reports.proofs.PointTruth.{calls-told, no_table, round-known}
use Rattle.point_reports.proofs.rounds.rounds_on.Goals as goal

-- what is told of a round that was left of a table
abbrev told_of : FoundTable → Option PointRound → Posing RoundsTold
told_of found round = Done record { round = round; is_cut = found.is_cut }

-- what follows the states of points
abbrev after_states : Program → FoundReport → FoundTable → List PointState → Posing RoundsTold
after_states program made found states = rounds_of program made.known states found.table >>= told_of found

pub returns-in_err-states-clause-follows : goal.returns-in_err-states-clause-follows
unfolding rounds_on
returns-in_err-states-clause-follows g c =
    let program = c.args.ground.program.now in
    let made = c.args.ground.made.now in
    (no_table, error_first (after_states program made no_table) c.in_err-states.ensures.follows (λ i. states_of_points program (c.as_slice.ensures i) (c.as_slice-2.ensures i)) c.from_residual.ensures.1)

pub returns-in_err-table-clause-follows : goal.returns-in_err-table-clause-follows
unfolding rounds_on
returns-in_err-table-clause-follows g c =
    let program = c.args.ground.program.now in
    let made = c.args.ground.made.now in
    (no_table, value_first (after_states program made no_table) c.in_ok-states.ensures.follows (λ i. states_of_points program (c.as_slice.ensures i) (c.as_slice-2.ensures i)) (stops _ _ _ _ _ _ refl c.from_residual-in_err-table.ensures.1))

pub returns-in_err-round-clause-follows : goal.returns-in_err-round-clause-follows
unfolding rounds_on
returns-in_err-round-clause-follows g c =
    let program = c.args.ground.program.now in
    let made = c.args.ground.made.now in
    let found = c.in_ok-table.field-0 in (
      found,
      value_first (after_states program made found) c.in_ok-states.ensures.follows (λ i. states_of_points program (c.as_slice.ensures i) (c.as_slice-2.ensures i))
          (error_first (told_of found) c.in_err-round.ensures.follows (λ i. rounds_of program (c.as_slice-4.ensures i) (c.as_slice-5.ensures i) found.table) c.from_residual-in_err-round.ensures.1),
    )

pub point_states-requires-clause-entries : goal.point_states-requires-clause-entries
point_states-requires-clause-entries g c = subst (AreEntries c.args.ground.program.now) (sym c.as_slice.ensures) c.requires.fits.entries

pub point_states-requires-clause-flows : goal.point_states-requires-clause-flows
point_states-requires-clause-flows g c = subst (AreFlows c.args.ground.program.now) (sym c.as_slice-2.ensures) c.requires.fits.flows

pub found_table-requires : goal.found_table-requires
found_table-requires g c =
    let program = c.args.ground.program.now in record {
      formed = c.requires.formed;
      graphs = subst (AreGraphsOf program) (sym c.as_slice-3.ensures) c.requires.graphs;
      heads = c.requires.heads ∙ ap all_heads (sym c.as_slice-3.ensures);
      known = subst (AreKnown program) (sym c.as_slice-4.ensures) c.requires.fits.known;
      states = subst (ArePointStates program) (sym c.as_slice-5.ensures) c.in_ok-states.ensures.fits;
    }

pub rounds_of-requires-clause-source : goal.rounds_of-requires-clause-source
rounds_of-requires-clause-source g c =
    let program = c.args.ground.program.now in record {
      formed = c.requires.formed;
      graphs = subst (AreGraphsOf program) (sym c.as_slice-3.ensures) c.requires.graphs;
      heads = c.requires.heads ∙ ap all_heads (sym c.as_slice-3.ensures);
      known = subst (AreKnown program) (sym c.as_slice-4.ensures) c.requires.fits.known;
      states = subst (ArePointStates program) (sym c.as_slice-5.ensures) c.in_ok-states.ensures.fits;
    }

pub returns-clause-follows : goal.returns-clause-follows
unfolding rounds_on
returns-clause-follows g c =
    let program = c.args.ground.program.now in
    let made = c.args.ground.made.now in
    let found = c.in_ok-table.field-0 in (
      found,
      value_first (after_states program made found) c.in_ok-states.ensures.follows (λ i. states_of_points program (c.as_slice.ensures i) (c.as_slice-2.ensures i))
          (value_first (told_of found) c.in_ok-round.ensures.follows (λ i. rounds_of program (c.as_slice-4.ensures i) (c.as_slice-5.ensures i) found.table) (at_end refl)),
    )

pub returns-clause-known : goal.returns-clause-known
returns-clause-known g c = λ holds.
    let program = c.args.ground.program.now in
    let made = c.args.ground.made.now in
    let states = c.in_ok-states.states in
    let calls = calls-told program made c.requires.formed c.requires.fits holds in
    let reached = c.in_ok-states.ensures.holds (subst (EntriesHold program) (sym c.as_slice.ensures) holds.entries) (subst (FlowsHold program) (sym c.as_slice-2.ensures) holds.flows) in
    let round = c.in_ok-round.round in
    let covers : IfSome round (CoversRound program made.known states) = subst (λ known. IfSome round (CoversRound program known states)) c.as_slice-4.ensures
    (subst (λ all. IfSome round (CoversRound program c.as_slice-4.result.now all)) c.as_slice-5.ensures c.in_ok-round.ensures.covers) in
    let are : IfSome round (IsTrueRound program) = c.in_ok-round.ensures.holds (subst (TellCalls program) (sym c.as_slice-4.ensures) calls) (subst (StatesHold program) (sym c.as_slice-5.ensures) reached) in
    round-known program made c.requires.formed c.requires.fits states round holds reached covers are
