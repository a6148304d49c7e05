use Rattle.std.proofs.Common.{◌≡◌, ◌<◌, ℕ, pos}
use Rattle.farkas_check.specs.Relations.{entry}
use Rattle.simplex.proofs.gauss.question_column.Given as goal

abbrev pub invariant-loop-j : goal.invariant-loop-j
invariant-loop-j l = (k : ℕ) → k < l.j → entry l.line k ≡ pos 0
