use Rattle.std.proofs.Common.{◌≡◌, ◌++◌}
use Rattle.std.specs.Prelude.{take}
use Rattle.summary_cache.proofs.last.with_copies.Given as goal

abbrev pub invariant-loop-answer : goal.invariant-loop-answer
invariant-loop-answer l = l.made ≡ l.initial.made ++ take l.answer-index l.more
