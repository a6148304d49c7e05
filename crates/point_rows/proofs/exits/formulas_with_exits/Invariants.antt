use Rattle.std.proofs.Common.{◌≡◌, ◌++◌, drop}
use Rattle.point_rows.specs.Exits.{formulas_with_exits}
use Rattle.point_rows.proofs.exits.formulas_with_exits.Given as goal

abbrev pub invariant-loop-place : goal.invariant-loop-place
invariant-loop-place l = l.made ++ formulas_with_exits (drop l.place l.known) (drop l.place l.exits) ≡ formulas_with_exits l.known l.exits
