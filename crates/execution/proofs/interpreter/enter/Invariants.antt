use Rattle.std.proofs.Common.{◌≡◌, ℕ, ◌-◌, ◌≤◌, ◌++◌, length}
use Rattle.execution.specs.Chosen.{zeros}
use Rattle.execution.proofs.interpreter.enter.Given as goal

abbrev pub invariant-loop-own : goal.invariant-loop-own
invariant-loop-own l = (length l.own ≤ l.width) × (n : ℕ) × (l.own ≡ l.fn.args ++ zeros n)

abbrev pub decreases-loop-own : goal.decreases-loop-own
decreases-loop-own l = l.width - length l.own
