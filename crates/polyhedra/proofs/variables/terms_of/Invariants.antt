use Rattle.std.proofs.Common.{◌≡◌, ◌++◌, map, drop}
use Rattle.polyhedra.specs.Changes.{poly_at}
use Rattle.polyhedra.proofs.variables.terms_of.Given as goal

abbrev pub invariant-loop-v : goal.invariant-loop-v
invariant-loop-v l = l.terms ++ map (poly_at l.polys) (drop l.v-index l.variables) ≡ map (poly_at l.polys) l.variables
