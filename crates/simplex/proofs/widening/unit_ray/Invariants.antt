use Rattle.std.proofs.Common.{◌≡◌, map, take}
use Rattle.simplex.specs.Wider.{number_along}
use Rattle.simplex.proofs.widening.unit_ray.Given as goal

abbrev pub invariant-loop-column : goal.invariant-loop-column
invariant-loop-column l = l.ray ≡ map (λ c. number_along l.mono l.up c) (take l.column-index l.columns)
