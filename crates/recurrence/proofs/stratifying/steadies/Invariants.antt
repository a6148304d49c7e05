use Rattle.std.proofs.Common.{◌≡◌, ◌++◌, map, drop}
use Rattle.recurrence.specs.Strata.{steady}
use Rattle.recurrence.proofs.stratifying.steadies.Given as goal

abbrev pub invariant-loop-v : goal.invariant-loop-v
invariant-loop-v l = l.lower ++ map steady (drop l.v-index l.columns) ≡ map steady l.columns
