use Rattle.std.proofs.Common.{◌≡◌}
use Rattle.std.specs.List.{filter, range_with_len}
use Rattle.polyhedra.specs.Changes.{occurs_in}
use Rattle.polyhedra.proofs.variables.occurring.Given as goal

abbrev pub invariant-loop-v : goal.invariant-loop-v
invariant-loop-v l = l.columns ≡ filter (occurs_in l.cases) (range_with_len 0 l.v)
