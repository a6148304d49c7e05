use Rattle.std.proofs.Common.{◌≡◌}
use Rattle.kept_groups.specs.Kept.{answers_in}
use Rattle.summary_cache.proofs.last.joined_answers.Given as goal

abbrev pub invariant-loop-part : goal.invariant-loop-part
invariant-loop-part l = l.answers ≡ answers_in l.yielded
