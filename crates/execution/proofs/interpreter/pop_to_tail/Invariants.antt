use Rattle.std.proofs.Common.{◌≡◌, length}
use Rattle.execution.specs.Machine.{after_loop, to_tail}
use Rattle.execution.specs.Interpreter.{items_of}
use Rattle.execution.proofs.interpreter.pop_to_tail.Given as goal

abbrev pub invariant-loop-task : goal.invariant-loop-task
invariant-loop-task l = record {
  tail : to_tail (items_of l.tasks) ≡ to_tail (items_of l.initial.tasks);
  left : after_loop (items_of l.tasks) ≡ after_loop (items_of l.initial.tasks);
}

abbrev pub decreases-loop-task : goal.decreases-loop-task
decreases-loop-task l = length l.tasks
