use Rattle.std.proofs.Common.{◌≡◌, drop}
use Rattle.polyhedra.specs.Tables.{first_fault}
use Rattle.polyhedra.proofs.changes.first_fault.Given as goal

abbrev pub invariant-loop-mono : goal.invariant-loop-mono
invariant-loop-mono l = first_fault l.faults (drop l.mono-index l.terms) ≡ first_fault l.faults l.terms
