use Rattle.std.proofs.Common.{◌++◌, sym, ap, ◌∙◌}
use Rattle.summary_cache.proofs.PartAnswers.{answers-more}
use Rattle.summary_cache.proofs.last.joined_answers.Goals as goal

pub loop-part-preserved : goal.loop-part-preserved
loop-part-preserved c = c.in_ok-answers.ensures ∙ ap (λ answers. answers ++ c.in-Some.part.answers) c.loop-part.invariant ∙ sym (answers-more c.loop-part.yielded c.in-Some.part)
