use Rattle.std.proofs.Common.{Ok, ap, sym}
use Rattle.polyhedra.specs.Kept.{objectives_of}
use Rattle.polyhedra.proofs.Objectives.{objectives_of-next}
use Rattle.polyhedra.proofs.bounds.objectives_before.Goals as goal

pub loop-case-preserved : goal.loop-case-preserved
loop-case-preserved c =
    let next = objectives_of-next (λ case. Ok c.args.d.now) c.args.cases.now c.loop-case._case-index c._case-item.result c.loop-case.objectives (objectives_of (λ case. Ok c.args.d.now) c.args.cases.now)
    c.loop-case-test.true c._case-item.is c.loop-case.invariant c.in_ok-clone.field-0 (ap (λ p. Ok p) (sym c.in_ok-clone.ensures.cases)) in
    rw c.in_ok-push.ensures.ok next
