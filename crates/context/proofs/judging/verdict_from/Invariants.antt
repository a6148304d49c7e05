use Rattle.std.proofs.Common.{◌≡◌}
use Rattle.context.specs.Verdicts.{verdict_from}
use Rattle.context.proofs.judging.verdict_from.Given as goal

abbrev pub invariant-loop-verdict : goal.invariant-loop-verdict
invariant-loop-verdict l = l.found ≡ verdict_from l.yielded
