use Rattle.std.proofs.Common.{◌≡◌, ◌<◌, ℕ, true, pos, ◌*ℤ◌, ◌≤ℤ◌}
use Rattle.farkas_check.specs.Relations.{entry}
use Rattle.simplex.specs.Raise.{sign_of, enters_at}
use Rattle.simplex.proofs.raise.entering.Given as goal

abbrev pub invariant-loop-j : goal.invariant-loop-j
invariant-loop-j l = (k : ℕ) → k < l.j → enters_at l.enters k ≡ true → pos 0 ≤ℤ (sign_of l.up *ℤ entry l.line k)
