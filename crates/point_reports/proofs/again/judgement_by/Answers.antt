use Rattle.std.proofs.Common.{refl, sym, ap}
use Rattle.posing.specs.Posing.{Done}
use Rattle.posing.proofs.Following.{stops}
use Rattle.posing.proofs.Steps.{at_end, error_first, in_other_words, value_first}
use Rattle.point_reports.specs.Again.{judgement_after, judgement_by}
use Rattle.point_reports.proofs.JudgedAgain.{again-after}
use Rattle.point_reports.proofs.OwnGraphs.{check-stands}
use Rattle.point_reports.proofs.again.judgement_by.Goals as goal

pub returns-in_err-excluded-clause-follows : goal.returns-in_err-excluded-clause-follows
unfolding judgement_by
returns-in_err-excluded-clause-follows g c =
    let program = c.args.left.program.now in
    let there = check-stands program c.args.at c.requires.at in
    in_other_words (ap (judgement_by program c.args.left.round.now c.args.one.now c.args.at) (sym there))
    (error_first (λ found. Done (judgement_after c.args.one.now found)) (c.in_err-excluded.ensures.follows c.requires.at.at there) refl c.from_residual.ensures.1)

pub returns-in_err-after-clause-follows : goal.returns-in_err-after-clause-follows
unfolding judgement_by
returns-in_err-after-clause-follows g c =
    let program = c.args.left.program.now in
    let there = check-stands program c.args.at c.requires.at in
    in_other_words (ap (judgement_by program c.args.left.round.now c.args.one.now c.args.at) (sym there))
    (value_first (λ found. Done (judgement_after c.args.one.now found)) (c.in_ok-excluded.ensures.follows c.requires.at.at there) refl (stops _ _ _ _ _ _ refl c.from_residual-in_err-after.ensures.1))

pub returns-clause-follows : goal.returns-clause-follows
unfolding judgement_by
returns-clause-follows g c =
    let program = c.args.left.program.now in
    let there = check-stands program c.args.at c.requires.at in
    in_other_words (ap (judgement_by program c.args.left.round.now c.args.one.now c.args.at) (sym there))
    (value_first (λ found. Done (judgement_after c.args.one.now found)) (c.in_ok-excluded.ensures.follows c.requires.at.at there) refl (at_end c.in_ok-after.ensures))

pub returns-clause-again : goal.returns-clause-again
returns-clause-again g c =
    again-after c.args.left.program.now c.args.left.round.now c.args.at.number c.args.one.now c.in_ok-after.after c.in_ok-excluded.excluded c.in_ok-excluded.notes c.in_ok-after.ensures (λ known. c.in_ok-excluded.ensures.sound known)
