use Rattle.std.proofs.Common.{◌≡◌, drop}
use Rattle.transition_formula.specs.Rows.{can_agree}
use Rattle.transition_formula.proofs.tidy.can_agree.Given as goal

abbrev pub invariant-loop-place : goal.invariant-loop-place
invariant-loop-place l = can_agree (drop l.place l.rows) ≡ can_agree l.rows
