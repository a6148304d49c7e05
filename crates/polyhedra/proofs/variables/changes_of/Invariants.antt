use Rattle.std.proofs.Common.{◌≡◌, ◌++◌, drop}
use Rattle.polyhedra.specs.Tables.{changes_from}
use Rattle.polyhedra.proofs.variables.changes_of.Given as goal

abbrev pub invariant-loop-place : goal.invariant-loop-place
invariant-loop-place l = l.changes ++ changes_from l.variables (drop l.place l.cases) (drop l.place l.tables) ≡ changes_from l.variables l.cases l.tables
