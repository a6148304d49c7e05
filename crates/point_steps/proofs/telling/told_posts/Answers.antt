use Rattle.std.proofs.Common.{◌++◌, ◌∙◌, append_assoc}
use Rattle.point_steps.proofs.telling.told_posts.Goals as goal

pub returns : goal.returns
returns c =
    c.in_ok-append-2.ensures.ok ∙ (λ i. (c.in_ok-append.ensures.ok ∙ (λ j. c.in_ok-told.ensures j ++ c.in_ok-copies_of.ensures j)) i ++ c.in_ok-copies_of-2.ensures i)
    ∙ append_assoc c.args.front.now c.args.posts.now c.args.behind.now
