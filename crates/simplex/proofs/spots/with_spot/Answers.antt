use Rattle.std.proofs.Common.{◌++◌, ◌∷◌, []}
use Rattle.simplex.proofs.CalmSteps.{under_error}
use Rattle.simplex.proofs.StrataStops.{more_stop}
use Rattle.simplex.proofs.spots.with_spot.Goals as goal

pub more_spots-requires-clause-independent : goal.more_spots-requires-clause-independent
more_spots-requires-clause-independent c = c.requires.apart.any c.in_ok-line.line c.in_ok-line.scale c.in_ok-line.ensures.line

pub returns-clause-refusal : goal.returns-clause-refusal
returns-clause-refusal c =
    under_error c.args.strata.now c.args.strata.now.count (c.args.known.lines ++ c.in_ok-line.line ∷ []) c.more_spots.result c.more_spots.ensures.refusal
    (λ calm. c.requires.calm.frame calm c.in_ok-line.line c.in_ok-line.scale c.in_ok-line.ensures.line)
    (more_stop c.args.strata.now c.args.known c.args.spot c.args.terms.now c.in_ok-line.line c.in_ok-line.scale c.more_spots.result c.requires.of c.requires.point c.requires.terms c.in_ok-line.ensures.line c.more_spots.ensures.step)
