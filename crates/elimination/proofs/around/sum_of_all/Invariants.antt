use Rattle.std.proofs.Common.{◌≡◌, ◌*◌, ◌≤◌, drop, ◌+ℤ◌}
use Rattle.std.specs.Prelude.{◌^◌, unsigned_abs}
use Rattle.elimination.specs.Around.{sum_of_all}
use Rattle.elimination.proofs.around.sum_of_all.Given as goal

abbrev pub invariant-loop-number : goal.invariant-loop-number
invariant-loop-number l = (l.total +ℤ sum_of_all (drop l.number-index l.numbers) ≡ sum_of_all l.numbers) × (unsigned_abs l.total ≤ l.number-index * 20 ^ 5)
