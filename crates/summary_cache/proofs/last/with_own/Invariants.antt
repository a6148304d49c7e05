use Rattle.std.proofs.Common.{◌≡◌, ◌++◌}
use Rattle.summary_cache.proofs.last.with_own.Given as goal

abbrev pub invariant-loop-answer : goal.invariant-loop-answer
invariant-loop-answer l = l.made ≡ l.initial.made ++ l.yielded
