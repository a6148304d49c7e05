use Rattle.std.proofs.Common.{refl}
use Rattle.posing.specs.Posing.{◌>>=◌}
use Rattle.posing.proofs.Steps.{error_first, value_first}
use Rattle.analysis.specs.Analysis.{found_report}
use Rattle.analysis.proofs.Quiet.{quiet-kept}
use Rattle.point_reports.specs.Proof.{points_if_open, proof_by_plan}
use Rattle.point_reports.proofs.PointTruth.{no_table, report-covers}
use Rattle.point_reports.proofs.QuietProofs.{proof-quiet}
use Rattle.point_reports.proofs.whole.prove.Goals as goal

pub returns-in_err-found-clause-follows : goal.returns-in_err-found-clause-follows
unfolding proof_by_plan
returns-in_err-found-clause-follows g c =
    let program = c.args.program.now in
    (no_table, error_first (λ found. found_report program c.args.places.now found >>= λ made. points_if_open program made no_table) c.in_err-found.ensures.follows refl c.from_residual.ensures.1)

pub returns-in_err-found-clause-kept : goal.returns-in_err-found-clause-kept
unfolding proof_by_plan
returns-in_err-found-clause-kept g c =
    let program = c.args.program.now in
    quiet-kept _ _ _ _ _ _ _ (proof-quiet program c.args.places.now c.args.plan.now no_table)
    (error_first (λ found. found_report program c.args.places.now found >>= λ made. points_if_open program made no_table) c.in_err-found.ensures.follows refl c.from_residual.ensures.1)

pub returns-in_err-made-clause-follows : goal.returns-in_err-made-clause-follows
unfolding proof_by_plan
returns-in_err-made-clause-follows g c =
    let program = c.args.program.now in (
      no_table,
      value_first (λ found. found_report program c.args.places.now found >>= λ made. points_if_open program made no_table) c.in_ok-found.ensures.follows refl
          (error_first (λ made. points_if_open program made no_table) c.in_err-made.ensures.follows refl c.from_residual-in_err-made.ensures.1),
    )

pub returns-in_err-made-clause-kept : goal.returns-in_err-made-clause-kept
unfolding proof_by_plan
returns-in_err-made-clause-kept g c =
    let program = c.args.program.now in
    quiet-kept _ _ _ _ _ _ _ (proof-quiet program c.args.places.now c.args.plan.now no_table)
    (value_first (λ found. found_report program c.args.places.now found >>= λ made. points_if_open program made no_table) c.in_ok-found.ensures.follows refl
    (error_first (λ made. points_if_open program made no_table) c.in_err-made.ensures.follows refl c.from_residual-in_err-made.ensures.1))

pub points_if_open-requires-clause-made : goal.points_if_open-requires-clause-made
points_if_open-requires-clause-made g c = record {
  fits = c.in_ok-made.ensures.fits;
  holds = c.in_ok-made.ensures.holds c.in_ok-found.ensures.met;
  met = c.in_ok-made.ensures.met c.in_ok-found.ensures.met;
  points = c.in_ok-made.ensures.points;
}

pub returns-clause-follows : goal.returns-clause-follows
unfolding proof_by_plan
returns-clause-follows g c =
    let program = c.args.program.now in
    let search = c.points_if_open.ensures.follows.0 in (
      search,
      value_first (λ found. found_report program c.args.places.now found >>= λ made. points_if_open program made search) c.in_ok-found.ensures.follows refl
          (value_first (λ made. points_if_open program made search) c.in_ok-made.ensures.follows refl c.points_if_open.ensures.follows.1),
    )

pub returns-clause-kept : goal.returns-clause-kept
unfolding proof_by_plan
returns-clause-kept g c =
    let program = c.args.program.now in
    let search = c.points_if_open.ensures.follows.0 in
    quiet-kept _ _ _ _ _ _ _ (proof-quiet program c.args.places.now c.args.plan.now search)
    (value_first (λ found. found_report program c.args.places.now found >>= λ made. points_if_open program made search) c.in_ok-found.ensures.follows refl
    (value_first (λ made. points_if_open program made search) c.in_ok-made.ensures.follows refl c.points_if_open.ensures.follows.1))

pub returns-clause-covers : goal.returns-clause-covers
returns-clause-covers g c = λ theirs. report-covers c.args.program.now c.in_ok-made.made c.points_if_open.result c.points_if_open.ensures.keeps (c.in_ok-made.ensures.covers theirs)
