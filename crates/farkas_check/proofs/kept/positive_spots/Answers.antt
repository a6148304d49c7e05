use Rattle.std.proofs.Common.{sym, subst, arith}
use Rattle.std.proofs.lemmas.List.{take_all}
use Rattle.std.proofs.lemmas.List.Elements.{All-more, All-same}
use Rattle.farkas_check.specs.Kept.{IsPositiveSpot}
use Rattle.farkas_check.proofs.kept.positive_spots.Goals as goal

pub loop-spot-preserved : goal.loop-spot-preserved
loop-spot-preserved c =
    All-more IsPositiveSpot c.args.spots.now c.loop-spot.spot-index c.spot-item.result (omega arith) c.loop-spot.invariant
    (subst IsPositiveSpot c.spot-item.is c.positive_spot.ensures)

pub returns : goal.returns
returns c = All-same IsPositiveSpot c.args.spots.now _ (sym (take_all c.loop-spot.spot-index c.args.spots.now (omega arith))) c.loop-spot.invariant
