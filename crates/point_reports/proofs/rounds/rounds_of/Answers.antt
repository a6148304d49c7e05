use Rattle.std.proofs.Common.{Some, refl, sym, ap}
use Rattle.posing.specs.Posing.{Done}
use Rattle.posing.proofs.Steps.{at_end, error_first, in_other_words, value_first}
use Rattle.point_reports.specs.Proof.{rounds_of}
use Rattle.point_reports.proofs.rounds.rounds_of.Goals as goal

pub returns-in_err-round-in-Some-clause-follows : goal.returns-in_err-round-in-Some-clause-follows
unfolding rounds_of
returns-in_err-round-in-Some-clause-follows g c =
    in_other_words (ap (rounds_of c.args.source.program.now c.args.source.known.now c.args.source.states.now) (sym c.in-Some.is))
    (error_first (λ round. Done (Some round)) c.in_err-round-in-Some.ensures.follows refl c.from_residual.ensures.1)

pub returns-in_ok-round-in-Some-clause-follows : goal.returns-in_ok-round-in-Some-clause-follows
unfolding rounds_of
returns-in_ok-round-in-Some-clause-follows g c =
    in_other_words (ap (rounds_of c.args.source.program.now c.args.source.known.now c.args.source.states.now) (sym c.in-Some.is))
    (value_first (λ round. Done (Some round)) c.in_ok-round-in-Some.ensures.follows refl (at_end refl))

pub returns-in-None-clause-follows : goal.returns-in-None-clause-follows
unfolding rounds_of
returns-in-None-clause-follows g c =
    in_other_words (ap (rounds_of c.args.source.program.now c.args.source.known.now c.args.source.states.now) (sym c.in-None.is)) (at_end refl)
