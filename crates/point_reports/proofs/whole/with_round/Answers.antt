use Rattle.std.proofs.Common.{Bool, List, ◌++◌, map, refl, sym, ap, subst, ◌∙◌}
use Rattle.syntax_tree.specs.declared.program.Program.{Program}
use Rattle.posing.specs.declared.note.Note.{Note}
use Rattle.posing.specs.Posing.{Done}
use Rattle.posing.proofs.Following.{stops}
use Rattle.posing.proofs.Steps.{at_end, error_first, value_first}
use Rattle.report.specs.declared.blocks.Judged.{Judged}
use Rattle.point_rounds.specs.declared.round.PointRound.{PointRound}
use Rattle.analysis.specs.declared.whole.FoundReport.{FoundReport}
use Rattle.analysis.specs.Claims.{AreJudged, AreRefuted}
use Rattle.point_reports.specs.declared.whole.PointReport.{PointReport}
use Rattle.point_reports.specs.Again.{judgements_again}
use Rattle.point_reports.specs.Blocks.{rows_of_table}
use Rattle.point_reports.specs.Claims.{PointRowsAreMet}
use Rattle.point_reports.specs.Proof.{with_round}
use Rattle.point_reports.proofs.JudgedAgain.{again-judged, again-refuted, ats-same}
use Rattle.point_reports.proofs.OwnGraphs.{heads-are}
use Rattle.point_reports.proofs.ToldRows.{rows-met}
use Rattle.point_reports.proofs.whole.with_round.Goals as goal

-- the report with judgements once more, and with what is told
abbrev told_with : Program → FoundReport → PointRound → Bool → List Note → List Judged → PointReport
told_with program made round is_cut notes judged = record {
  report = record { procs = made.report.procs; notes = made.report.notes ++ notes; judged = judged };
  points = record { is_cut = is_cut; rows = rows_of_table program round.table };
}

pub judgements_again-requires : goal.judgements_again-requires
judgements_again-requires g c = c.requires.left

pub returns-in_err-judged-clause-follows : goal.returns-in_err-judged-clause-follows
unfolding with_round
returns-in_err-judged-clause-follows g c =
    let program = c.args.left.program.now in
    let round = c.args.left.round.now in
    error_first (λ judged. Done (told_with program c.args.made round c.args.is_cut c.args.own judged)) c.in_err-judged.ensures.follows (ap (judgements_again program round) c.as_slice.ensures) c.from_residual.ensures.1

pub returns-in_err-append-clause-follows : goal.returns-in_err-append-clause-follows
unfolding with_round
returns-in_err-append-clause-follows g c =
    let program = c.args.left.program.now in
    let round = c.args.left.round.now in
    value_first (λ judged. Done (told_with program c.args.made round c.args.is_cut c.args.own judged)) c.in_ok-judged.ensures.follows (ap (judgements_again program round) c.as_slice.ensures)
    (stops _ _ _ _ _ _ refl c.from_residual-in_err-append.ensures.1)

pub rows_of_table-requires-clause-heads : goal.rows_of_table-requires-clause-heads
rows_of_table-requires-clause-heads g c =
    heads-are c.args.left.program.now c.args.left.standing.now.graphs c.args.left.heads.now c.requires.left.graphs c.requires.left.heads

pub returns-in_err-rows-clause-follows : goal.returns-in_err-rows-clause-follows
unfolding with_round
returns-in_err-rows-clause-follows g c =
    let program = c.args.left.program.now in
    let round = c.args.left.round.now in
    value_first (λ judged. Done (told_with program c.args.made round c.args.is_cut c.args.own judged)) c.in_ok-judged.ensures.follows (ap (judgements_again program round) c.as_slice.ensures)
    (stops _ _ _ _ _ _ refl c.from_residual-in_err-rows.ensures.1)

pub returns-clause-follows : goal.returns-clause-follows
unfolding with_round
returns-clause-follows g c =
    let program = c.args.left.program.now in
    let round = c.args.left.round.now in
    let made = c.args.made in
    value_first (λ judged. Done (told_with program made round c.args.is_cut c.args.own judged)) c.in_ok-judged.ensures.follows (ap (judgements_again program round) c.as_slice.ensures)
    (at_end (λ i. record {
      report = record { procs = made.report.procs; notes = c.in_ok-append.ensures.ok i; judged = c.in_ok-judged.judged };
      points = record { is_cut = c.args.is_cut; rows = c.in_ok-rows.ensures i };
    }))

pub returns-clause-keeps : goal.returns-clause-keeps
returns-clause-keeps g c = record {
  procs = refl;
  ats = ats-same c.args.left.program.now c.args.left.round.now 1 c.as_slice.result.now c.in_ok-judged.judged c.in_ok-judged.ensures.again ∙ ap (map (λ (j : Judged). j.at)) c.as_slice.ensures;
}

pub returns-clause-met : goal.returns-clause-met
returns-clause-met g c =
    let program = c.args.left.program.now in
    let round = c.args.left.round.now in
    let known = c.requires.known in
    record {
      claims = record {
        summaries = c.requires.made.met.summaries;
        proved = again-judged program round c.as_slice.result.now c.in_ok-judged.judged c.in_ok-judged.ensures.again known (subst (AreJudged program) (sym c.as_slice.ensures) c.requires.made.met.proved);
      };
      points = subst (PointRowsAreMet program) (sym c.in_ok-rows.ensures) (rows-met program round.table known.2.rows);
    }

pub returns-clause-points : goal.returns-clause-points
returns-clause-points g c =
    again-refuted c.args.left.program.now c.args.left.round.now c.as_slice.result.now c.in_ok-judged.judged c.in_ok-judged.ensures.again (subst AreRefuted (sym c.as_slice.ensures) c.requires.made.points)
