use Rattle.std.proofs.Common.{◌≡◌}
use Rattle.std.specs.Prelude.{take}
use Rattle.kept_groups.specs.Kept.{answers_in}
use Rattle.summary_cache.proofs.last.copied_answers.Given as goal

abbrev pub invariant-loop-part : goal.invariant-loop-part
invariant-loop-part l = l.answers ≡ answers_in (take l.part-index l.parts)
