-- The analysis whose assertions are judged once more from points: where some are not proved, rounds
-- of questions tell which rows of a table hold at points, and these judge them.
use Rattle.std.specs.Prelude.{Bool, false, List, [], ◌++◌, Option, None, Some, if◌then◌else◌}
use Rattle.std.specs.List.{list_all}
use Rattle.syntax_tree.specs.declared.program.Program.{Program}
use Rattle.transition_formula.specs.Transition.{Transition}
use Rattle.posing.specs.declared.note.Note.{Note}
use Rattle.posing.specs.Posing.{Posing, Done, ◌>>=◌}
use Rattle.report.specs.Text.{is_proved}
use Rattle.point_rounds.specs.declared.round.PointRound.{PointRound}
use Rattle.point_rounds.specs.declared.round.PointState.{PointState}
use Rattle.point_rounds.specs.declared.table.PointTable.{PointTable}
use Rattle.point_rounds.specs.Rounds.{last_round}
use Rattle.point_states.specs.AllStates.{states_of_points}
use Rattle.point_search.specs.declared.found.FoundTable.{FoundTable}
use Rattle.analysis.specs.declared.places.TextPlace.{TextPlace}
use Rattle.analysis.specs.declared.planning.Planned.{Planned}
use Rattle.analysis.specs.declared.whole.FoundReport.{FoundReport}
use Rattle.analysis.specs.Analysis.{found_report}
use Rattle.analysis.specs.Apart.{apart}
use Rattle.analysis.specs.Found.{findings_by_plan}
use Rattle.point_reports.specs.declared.rounds.RoundsTold.{RoundsTold}
use Rattle.point_reports.specs.declared.whole.PointReport.{PointReport}
use Rattle.point_reports.specs.Again.{judgements_again}
use Rattle.point_reports.specs.Blocks.{rows_of_table}

-- a report without rows at points
abbrev pub without_points : FoundReport → PointReport
without_points made = record {
  report = made.report;
  points = record { is_cut = false; rows = [] };
}

-- the rounds on a table, if there is one
unfoldable pub rounds_of : Program → List (Option Transition) → List PointState
    → Option PointTable → Posing (Option PointRound)
rounds_of program known states None = Done None
rounds_of program known states (Some table) =
    last_round program known states table >>= λ round. Done (Some round)

-- the states of points, and then the rounds on a table that is found
unfoldable pub rounds_on : Program → FoundReport → FoundTable → Posing RoundsTold
rounds_on program made found =
    states_of_points program made.entries made.flows >>= λ states.
    rounds_of program made.known states found.table >>= λ round.
    Done record { round = round; is_cut = found.is_cut }

-- a report with further notes behind its own, and without rows at points
abbrev pub without_round : FoundReport → Bool → List Note → PointReport
without_round made is_cut notes = record {
  report = record {
    procs = made.report.procs;
    notes = made.report.notes ++ notes;
    judged = made.report.judged;
  };
  points = record { is_cut = is_cut; rows = [] };
}

-- a report whose assertions are judged once more, with the rows that a round leaves
unfoldable pub with_round : Program → FoundReport → PointRound → Bool → List Note
    → Posing PointReport
with_round program made round is_cut notes =
    judgements_again program round made.report.judged >>= λ judged.
    Done record {
      report = record {
        procs = made.report.procs;
        notes = made.report.notes ++ notes;
        judged = judged;
      };
      points = record { is_cut = is_cut; rows = rows_of_table program round.table };
    }

-- as it is where there is no round, since the search for a table was given up
unfoldable pub by_round : Program → FoundReport → Bool → List Note → Option PointRound
    → Posing PointReport
by_round program made is_cut notes None = Done (without_round made is_cut notes)
by_round program made is_cut notes (Some round) = with_round program made round is_cut notes

-- The report by what the last round leaves; the notes of states and rounds stand behind those of the
-- entries. Whether the search was cut is told as it is found.
unfoldable pub with_points : Program → FoundReport → FoundTable → Posing PointReport
with_points program made found =
    apart (rounds_on program made found) >>= λ left.
    by_round program made left.0.is_cut left.1 left.0.round

-- the same where some assertion is not proved, else the report as it is
unfoldable pub points_if_open : Program → FoundReport → FoundTable → Posing PointReport
points_if_open program made found =
    if list_all is_proved made.report.judged then Done (without_points made)
    else with_points program made found

-- the whole by the plan of the program
unfoldable pub proof_by_plan : Program → List TextPlace → List Planned → FoundTable
    → Posing PointReport
proof_by_plan program places plan found =
    findings_by_plan program plan >>= λ all. found_report program places all >>= λ made.
    points_if_open program made found
