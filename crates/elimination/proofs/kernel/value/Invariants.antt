use Rattle.std.proofs.Common.{◌≡◌, ◌≤◌, ◌*◌}
use Rattle.std.specs.Prelude.{◌^◌, unsigned_abs}
use Rattle.elimination.specs.Stages.{chosen_value}
use Rattle.elimination.proofs.kernel.value.Given as goal

abbrev pub invariant-loop-place : goal.invariant-loop-place
invariant-loop-place l =
    (l.sum ≡ chosen_value l.columns l.cases l.lower l.chosen l.numbers l.probe l.place) × (unsigned_abs l.sum ≤ l.place * (28 ^ 6 * 4))
