use Rattle.std.proofs.Common.{◌≡◌, ◌++◌, map, drop}
use Rattle.polyhedra.specs.Tables.{table_of}
use Rattle.polyhedra.proofs.changes.tables_of.Given as goal

abbrev pub invariant-loop-case : goal.invariant-loop-case
invariant-loop-case l = l.tables ++ map (table_of l.one l.to) (drop l.case-index l.cases) ≡ map (table_of l.one l.to) l.cases
