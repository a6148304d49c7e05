use Rattle.std.proofs.Common.{◌≡◌, ℕ, ◌≤◌, ◌<◌}
use Rattle.syntax_tree.specs.WellFormed.{procs_checks}
use Rattle.syntax_tree.proofs.well_formed.has_each_check.Given as goal

abbrev pub invariant-loop-number : goal.invariant-loop-number
invariant-loop-number l = (k : ℕ) → 1 ≤ k → k < l.number → procs_checks k l.program.procs ≡ 1
