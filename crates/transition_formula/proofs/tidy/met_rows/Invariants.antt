use Rattle.std.proofs.Common.{◌≡◌, ◌++◌, [], take, drop}
use Rattle.transition_formula.specs.Rows.{met_rows}
use Rattle.transition_formula.proofs.tidy.met_rows.Given as goal

abbrev pub invariant-loop-place : goal.invariant-loop-place
invariant-loop-place l = l.made ++ met_rows (take l.place l.rows) (drop l.place l.rows) ≡ met_rows [] l.rows
