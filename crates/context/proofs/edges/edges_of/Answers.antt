use Rattle.std.proofs.Common.{length, ap, refl, arith}
use Rattle.std.proofs.lemmas.Option.{slice_get_read}
use Rattle.context.specs.Entries.{ways_from}
use Rattle.context.specs.Made.{with_ways}
use Rattle.context.proofs.Loops.{proc-next}
use Rattle.context.proofs.PlaceColumns.{got}
use Rattle.context.proofs.edges.edges_of.Goals as goal

pub loop-number-init : goal.loop-number-init
loop-number-init c = ap (λ made. with_ways made (ways_from c.args.program.now 0 c.args.program.now.procs c.args.flows.now)) c.in_ok-made.ensures

pub with_calls-requires-clause-flow : goal.with_calls-requires-clause-flow
with_calls-requires-clause-flow c = λ p is.
    c.requires.flows.fit c.loop-number.number p c.index-flows-number.result is
    (slice_get_read c.args.flows.now (length c.args.flows.now) c.loop-number.number c.index-flows-number.result refl (omega arith) c.index-flows-number.is)

pub loop-number-preserved : goal.loop-number-preserved
loop-number-preserved c =
    let many = c.requires.flows.each in
    let there = got c.args.program.now.procs c.loop-number.number (omega (arith, many)) in
    proc-next c.args.program.now c.args.flows.now c.loop-number.number there.0 c.index-flows-number.result c.loop-number.made _ _ there.1
    (slice_get_read c.args.flows.now (length c.args.flows.now) c.loop-number.number c.index-flows-number.result refl (omega arith) c.index-flows-number.is)
    c.loop-number.invariant (c.in_ok-made-2.ensures there.0 there.1)
