use Rattle.std.proofs.Common.{◌≡◌, ◌++◌, drop}
use Rattle.checked_tree.proofs.mark.answers_copy.Given as goal

abbrev pub invariant-loop-answer : goal.invariant-loop-answer
invariant-loop-answer l = l.copy ++ drop l.answer-index l.answers ≡ l.answers
