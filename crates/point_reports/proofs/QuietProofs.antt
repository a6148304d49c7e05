-- No step of the analysis with points makes notes: they come with its values.
use Rattle.std.proofs.Common.{Bool, true, false, ℕ, List, [], Option, Some, None}
use Rattle.std.specs.Prelude.{if◌then◌else◌, slice_get}
use Rattle.std.specs.List.{list_all}
use Rattle.syntax_tree.specs.declared.program.Program.{Program}
use Rattle.flow_graph.specs.FlowGraph.{CheckPlace, graph_of}
use Rattle.posing.specs.declared.note.Note.{Note}
use Rattle.posing.specs.Posing.{Done}
use Rattle.report.specs.declared.blocks.Judged.{Judged}
use Rattle.report.specs.Text.{is_proved}
use Rattle.point_rounds.specs.declared.round.PointRound.{PointRound}
use Rattle.point_search.specs.declared.found.FoundTable.{FoundTable}
use Rattle.point_verdicts.specs.Exclusions.{exclusion_of}
use Rattle.analysis.specs.declared.places.TextPlace.{TextPlace}
use Rattle.analysis.specs.declared.planning.Planned.{Planned}
use Rattle.analysis.specs.declared.standing.CheckAt.{CheckAt}
use Rattle.analysis.specs.declared.whole.FoundReport.{FoundReport}
use Rattle.analysis.specs.Apart.{apart}
use Rattle.analysis.specs.Analysis.{found_report}
use Rattle.analysis.specs.Found.{findings_by_plan}
use Rattle.analysis.specs.Judging.{check_with, checks_of}
use Rattle.analysis.proofs.Quiet.{IsQuiet, found-quiet, found_report-quiet, quiet-apart_from, quiet-bind, quiet-each}
use Rattle.point_reports.specs.Again.{judgement_again, judgement_at, judgement_by, judgements_again, judgements_from, with_judgement}
use Rattle.point_reports.specs.Proof.{by_round, points_if_open, proof_by_plan, rounds_on, with_points, with_round, without_points}

module _ (program : Program) (left : PointRound) (judged : Judged) where
  by-quiet : (c : CheckAt) (at : Option CheckPlace) → IsQuiet (judgement_by program left judged c at)
  unfolding judgement_by
  by-quiet c None = tt
  by-quiet c (Some at) =
      quiet-bind (apart (exclusion_of program c.proc at.cond c.check left.steps left.table)) _ (quiet-apart_from [] (exclusion_of program c.proc at.cond c.check left.steps left.table)) (λ found. tt)

  at-quiet : (c : Option CheckAt) → IsQuiet (judgement_at program left judged c)
  at-quiet None = tt
  at-quiet (Some c) = by-quiet c (slice_get (graph_of program c.proc).checks c.check)

  again-quiet : (number : ℕ) → IsQuiet (judgement_again program left number judged)
  unfolding judgement_again
  again-quiet number = by (is_proved judged)
    where
      by : (b : Bool) → IsQuiet (if b then Done judged else judgement_at program left judged (check_with number (checks_of 0 program.procs)))
      by true = tt
      by false = at-quiet (check_with number (checks_of 0 program.procs))

all_again-quiet : (program : Program) (left : PointRound) (judged : List Judged) → IsQuiet (judgements_again program left judged)
unfolding judgements_again with_judgement
all_again-quiet program left judged =
    quiet-each _ [] (judgements_from 1 judged) (λ made one. quiet-bind (judgement_again program left one.0 one.1) _ (again-quiet program left one.1 one.0) (λ after. tt))

by_round-quiet : (program : Program) (made : FoundReport) (is_cut : Bool) (notes : List Note) (round : Option PointRound) → IsQuiet (by_round program made is_cut notes round)
unfolding by_round with_round
by_round-quiet program made is_cut notes None = tt
by_round-quiet program made is_cut notes (Some round) = quiet-bind (judgements_again program round made.report.judged) _ (all_again-quiet program round made.report.judged) (λ judged. tt)

points-quiet : (program : Program) (made : FoundReport) (found : FoundTable) → IsQuiet (points_if_open program made found)
unfolding points_if_open with_points
points-quiet program made found = by (list_all is_proved made.report.judged)
  where
    by : (b : Bool) → IsQuiet (if b then Done (without_points made) else with_points program made found)
    by true = tt
    by false =
        quiet-bind (apart (rounds_on program made found)) _ (quiet-apart_from [] (rounds_on program made found))
        (λ left. by_round-quiet program made left.0.is_cut left.1 left.0.round)

pub proof-quiet : (program : Program) (places : List TextPlace) (plan : List Planned) (found : FoundTable) → IsQuiet (proof_by_plan program places plan found)
unfolding proof_by_plan
proof-quiet program places plan found =
    quiet-bind (findings_by_plan program plan) _ (found-quiet program plan)
    (λ all. quiet-bind (found_report program places all) _ (found_report-quiet program places all) (λ made. points-quiet program made found))
