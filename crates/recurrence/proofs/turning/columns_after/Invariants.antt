use Rattle.std.proofs.Common.{◌≡◌, ◌++◌, map, drop}
use Rattle.linear_terms.specs.Polynomial.{column_of}
use Rattle.recurrence.specs.Star.{after_from}
use Rattle.recurrence.proofs.turning.columns_after.Given as goal

abbrev pub invariant-loop-v : goal.invariant-loop-v
invariant-loop-v l = l.columns ++ map column_of (map (after_from 0 l.modified) (drop l.v-index l.variables)) ≡ map column_of (map (after_from 0 l.modified) l.variables)
