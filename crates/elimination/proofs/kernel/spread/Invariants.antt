use Rattle.std.proofs.Common.{◌≡◌}
use Rattle.farkas_check.specs.Relations.{entry}
use Rattle.elimination.specs.Stages.{spread}
use Rattle.elimination.proofs.kernel.spread.Given as goal

abbrev pub invariant-loop-unknown : goal.invariant-loop-unknown
invariant-loop-unknown l = l.line ≡ spread l.chosen (entry l.numbers) l.unknown
