use Rattle.std.proofs.Common.{refl, sym, ap, subst, ◌∙◌}
use Rattle.std.specs.Prelude.{if◌then◌else◌}
use Rattle.posing.specs.Posing.{Done}
use Rattle.posing.proofs.Steps.{at_end, in_other_words}
use Rattle.point_reports.specs.declared.whole.PointReport.{PointReport}
use Rattle.report.specs.Claims.{PointsMeetRows}
use Rattle.point_reports.specs.Claims.{AreAllMet}
use Rattle.point_reports.specs.Parts.{KeepsReport}
use Rattle.point_reports.specs.Proof.{points_if_open, with_points, without_points}
use Rattle.point_reports.proofs.PointTruth.{no_table, none-met}
use Rattle.point_reports.proofs.whole.points_if_open.Goals as goal

pub returns-then-are_all_proved-clause-follows : goal.returns-then-are_all_proved-clause-follows
unfolding points_if_open
returns-then-are_all_proved-clause-follows g c =
    let program = c.args.program.now in
    let made = c.args.made in
    (no_table, in_other_words (ap (λ proved. if proved then Done (without_points made) else with_points program made no_table) (sym c.if-are_all_proved.true ∙ c.are_all_proved.ensures)) (at_end c.without_points.ensures))

pub returns-then-are_all_proved-clause-keeps : goal.returns-then-are_all_proved-clause-keeps
returns-then-are_all_proved-clause-keeps g c = subst (KeepsReport c.args.made) (sym c.without_points.ensures) record { procs = refl; ats = refl }

pub returns-then-are_all_proved-clause-met : goal.returns-then-are_all_proved-clause-met
returns-then-are_all_proved-clause-met g c = subst (AreAllMet c.args.program.now) (sym c.without_points.ensures) record { claims = c.requires.made.met; points = none-met c.args.program.now }

pub returns-then-are_all_proved-clause-points : goal.returns-then-are_all_proved-clause-points
returns-then-are_all_proved-clause-points g c = subst (λ (made : PointReport). PointsMeetRows made.report) (sym c.without_points.ensures) c.requires.made.points

pub returns-clause-follows : goal.returns-clause-follows
unfolding points_if_open
returns-clause-follows g c =
    let program = c.args.program.now in
    let made = c.args.made in
    let found = c.with_points.ensures.follows.0 in
    (found, in_other_words (ap (λ proved. if proved then Done (without_points made) else with_points program made found) (sym c.if-are_all_proved.false ∙ c.are_all_proved.ensures)) c.with_points.ensures.follows.1)
