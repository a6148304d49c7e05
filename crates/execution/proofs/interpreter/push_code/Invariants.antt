use Rattle.std.proofs.Common.{◌≡◌, ◌≤◌, drop, length}
use Rattle.syntax_tree.specs.Code.{code_of}
use Rattle.execution.specs.Machine.{pending}
use Rattle.execution.specs.Interpreter.{items_of}
use Rattle.execution.proofs.interpreter.push_code.Given as goal

abbrev pub invariant-loop-left : goal.invariant-loop-left
invariant-loop-left l = record {
  within : l.left ≤ length l.code;
  pushed : items_of l.tasks ≡ pending (code_of (drop l.left l.code)) (items_of l.initial.tasks);
}

abbrev pub decreases-loop-left : goal.decreases-loop-left
decreases-loop-left l = l.left
