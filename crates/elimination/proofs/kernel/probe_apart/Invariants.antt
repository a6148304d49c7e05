use Rattle.std.proofs.Common.{ℕ, ◌<◌}
use Rattle.elimination.specs.Stages.{VanishesIn}
use Rattle.elimination.proofs.kernel.probe_apart.Given as goal

abbrev pub invariant-loop-case : goal.invariant-loop-case
invariant-loop-case l = (k : ℕ) → k < l.case → VanishesIn l.columns l.cases l.lower l.chosen l.numbers k
