use Rattle.posing.proofs.Steps.{value_has}
use Rattle.forward_graphs.proofs.CellLaws.{IsWalkMade, walk-made}
use Rattle.forward_graphs.proofs.arriving.with_walk.Goals as goal

pub also_found-requires-clause-more : goal.also_found-requires-clause-more
also_found-requires-clause-more g c =
    let made = value_has (IsWalkMade c.args.arrival.ends.from.now c.args.arrival.ends.to.now c.args.arrival.cell.now c.args.arrival.step.now) c.in_ok-more.ensures
    (walk-made c.args.arrival.ends.from.now c.args.arrival.ends.to.now c.args.arrival.cell.now c.args.arrival.step.now c.requires.further) in
    made.fit
