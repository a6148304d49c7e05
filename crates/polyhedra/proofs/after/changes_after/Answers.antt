use Rattle.std.proofs.Common.{arith}
use Rattle.transition_formula.proofs.Ranges.{counted_more}
use Rattle.polyhedra.specs.Squash.{change_after}
use Rattle.polyhedra.proofs.after.changes_after.Goals as goal

pub loop-v-preserved : goal.loop-v-preserved
loop-v-preserved c = counted_more (change_after c.args.one c.args.modified.now) 0 c.loop-v.v c.loop-v.v c.loop-v.changes c.push.new.self c.in_ok-change_after.field-0 (omega arith) c.loop-v.invariant c.in_ok-change_after.ensures c.in_ok-push.ensures.ok
