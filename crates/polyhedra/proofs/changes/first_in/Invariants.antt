use Rattle.std.proofs.Common.{◌≡◌, drop}
use Rattle.polyhedra.specs.Tables.{first_in}
use Rattle.polyhedra.proofs.changes.first_in.Given as goal

abbrev pub invariant-loop-col : goal.invariant-loop-col
invariant-loop-col l = first_in l.faults (drop l.col-index l.columns) ≡ first_in l.faults l.columns
