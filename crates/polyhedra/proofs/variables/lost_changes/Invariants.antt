use Rattle.std.proofs.Common.{◌≡◌, ◌++◌, drop}
use Rattle.std.specs.List.{flat_map}
use Rattle.polyhedra.specs.Tables.{first_of, losses_at}
use Rattle.polyhedra.proofs.variables.lost_changes.Given as goal

abbrev pub invariant-loop-v : goal.invariant-loop-v
invariant-loop-v l = l.losses ++ flat_map (λ v. losses_at (first_of l.tables v)) (drop l.v-index l.variables) ≡ flat_map (λ v. losses_at (first_of l.tables v)) l.variables
