use Rattle.std.proofs.Common.{◌≡◌, None, drop}
use Rattle.farkas_check.specs.Walk.{least_in_multiplied}
use Rattle.farkas_check.proofs.columns.least_in_multiplied.Given as goal

abbrev pub invariant-loop-i : goal.invariant-loop-i
invariant-loop-i l = least_in_multiplied l.last l.least (drop l.i l.rows) (drop l.i l.by) ≡ least_in_multiplied l.last None l.rows l.by
