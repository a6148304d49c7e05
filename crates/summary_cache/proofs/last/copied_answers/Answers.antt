use Rattle.std.proofs.Common.{rules, ◌≡◌, [], ◌∷◌, ◌++◌, sym, ap, ◌∙◌}
use Rattle.std.specs.Prelude.{take}
use Rattle.std.proofs.lemmas.List.{take_more}
use Rattle.kept_groups.specs.Kept.{answers_in}
use Rattle.summary_cache.proofs.PartAnswers.{answers-more}
use Rattle.summary_cache.proofs.last.copied_answers.Goals as goal

pub loop-part-preserved : goal.loop-part-preserved
loop-part-preserved c =
    let parts = c.args.parts.now in
    let i = c.loop-part.part-index in
    let part = c.part-item.result in
    let own : c.deref.result.now ≡ part.answers = search rules in
    c.in_ok-answers.ensures ∙ ap (λ more. c.loop-part.answers ++ more) own ∙ ap (λ answers. answers ++ part.answers) c.loop-part.invariant
    ∙ sym (answers-more (take i parts) part) ∙ ap answers_in (sym (take_more parts i part c.loop-part-test.true ∙ ap (λ p. take i parts ++ p ∷ []) (sym c.part-item.is)))
