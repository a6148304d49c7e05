use Rattle.std.proofs.Common.{arith}
use Rattle.transition_formula.proofs.Ranges.{counted_more}
use Rattle.polyhedra.specs.Squash.{after_from}
use Rattle.polyhedra.proofs.after.posts_after.Goals as goal

pub loop-v-preserved : goal.loop-v-preserved
loop-v-preserved c = counted_more (after_from c.args.one 0 c.args.modified.now) 0 c.loop-v.v c.loop-v.v c.loop-v.posts c.push.new.self c.in_ok-post_after.field-0 (omega arith) c.loop-v.invariant c.in_ok-post_after.ensures c.in_ok-push.ensures.ok
