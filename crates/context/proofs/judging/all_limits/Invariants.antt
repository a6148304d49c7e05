use Rattle.std.proofs.Common.{◌≡◌, ◌++◌, drop}
use Rattle.std.specs.List.{filter_map}
use Rattle.context.specs.Verdicts.{limit_of}
use Rattle.context.proofs.judging.all_limits.Given as goal

abbrev pub invariant-loop-verdict : goal.invariant-loop-verdict
invariant-loop-verdict l = l.notes ++ filter_map limit_of (drop l.verdict-index l.verdicts) ≡ filter_map limit_of l.verdicts
