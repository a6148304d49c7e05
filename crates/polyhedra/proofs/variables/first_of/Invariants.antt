use Rattle.std.proofs.Common.{◌≡◌, drop}
use Rattle.polyhedra.specs.Tables.{first_of}
use Rattle.polyhedra.proofs.variables.first_of.Given as goal

abbrev pub invariant-loop-moves : goal.invariant-loop-moves
invariant-loop-moves l = first_of (drop l.moves-index l.tables) l.v ≡ first_of l.tables l.v
