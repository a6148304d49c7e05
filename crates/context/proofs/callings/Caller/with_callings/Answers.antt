use Rattle.std.proofs.Common.{refl, arith}
use Rattle.context.proofs.Loops.{edge-next, edge-there, edges-end}
use Rattle.context.proofs.callings.Caller.with_callings.Goals as goal

pub loop-edge-init : goal.loop-edge-init
loop-edge-init c = let many = c.requires.as_many in record { made = refl; left = omega (arith, many) }

pub with_edge-requires-clause-there : goal.with_edge-requires-clause-there
with_edge-requires-clause-there c =
    edge-there c.args.self.main c.args.self.number c.args.self.widths c.args.edges.now c.loop-edge.edge-index c.edge-item.result c.args.stops.now c.loop-edge.place c.loop-edge-test.true c.edge-item.is c.loop-edge.invariant.left

pub loop-edge-preserved : goal.loop-edge-preserved
loop-edge-preserved c =
    let both = edge-next c.args.self.main c.args.self.number c.args.self.widths c.args.edges.now c.loop-edge.edge-index c.edge-item.result c.args.stops.now c.loop-edge.place _ c.loop-edge.all _ _
    c.loop-edge-test.true c.edge-item.is c.loop-edge.invariant.made c.loop-edge.invariant.left c.in_ok-more.ensures.made c.in_ok-more.ensures.next in
    record { made = both.0; left = both.1 }

pub returns : goal.returns
returns c =
    edges-end c.args.self.main c.args.self.number c.args.self.widths c.args.edges.now c.loop-edge.edge-index c.args.stops.now c.loop-edge.place c.loop-edge.all _ c.loop-edge-test.false c.loop-edge.invariant.made
