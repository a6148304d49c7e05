use Rattle.std.proofs.Common.{◌≡◌, drop}
use Rattle.analysis.specs.Judging.{check_with}
use Rattle.analysis.proofs.standing.check_with.Given as goal

abbrev pub invariant-loop-check : goal.invariant-loop-check
invariant-loop-check l = check_with l.number (drop l.check-index l.checks) ≡ check_with l.number l.checks
