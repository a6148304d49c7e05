use Rattle.std.proofs.Common.{◌≡◌, ◌++◌, drop}
use Rattle.newton_rounds.specs.Candidates.{limit_notes}
use Rattle.newton_rounds.proofs.refuting.limit_notes.Given as goal

abbrev pub invariant-loop-limit : goal.invariant-loop-limit
invariant-loop-limit l = l.notes ++ limit_notes (drop l.limit-index l.limits) ≡ limit_notes l.limits
