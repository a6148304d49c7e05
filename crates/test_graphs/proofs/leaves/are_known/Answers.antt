use Rattle.std.proofs.Common.{◌≡◌, ◌<◌, arith, refl, ap, length}
use Rattle.test_graphs.proofs.Knowing.{all_known, at_place, known_more}
use Rattle.test_graphs.proofs.leaves.are_known.Goals as goal

pub loop-n-preserved : goal.loop-n-preserved
loop-n-preserved c =
    let procs = c.as_slice-procs.result.now in
    let there : c.loop-n.n < length c.args.known.now = omega arith in
    known_more c.args.program.now c.args.known.now c.loop-n.n c.index-procs-n.result c.index-known-n.result
    (at_place procs c.args.program.now.procs c.loop-n.n c.index-procs-n.result c.as_slice-procs.ensures c.loop-n-test.true c.index-procs-n.is)
    (at_place c.args.known.now c.args.known.now c.loop-n.n c.index-known-n.result refl there c.index-known-n.is)
    (λ f e. c.may_be_known.ensures f c.if-not-may_be_known.false e) c.loop-n.invariant

pub returns : goal.returns
returns c = λ yes.
    let same : length c.as_slice-procs.result.now ≡ length c.args.program.now.procs = ap length c.as_slice-procs.ensures in
    let long : length c.args.known.now ≡ length c.args.program.now.procs = omega (arith, same) in
    all_known c.args.program.now c.args.known.now c.loop-n.n long (omega (arith, same)) c.loop-n.invariant
