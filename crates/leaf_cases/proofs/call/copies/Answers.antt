use Rattle.std.proofs.Common.{◌∙◌}
use Rattle.leaf_cases.proofs.StatedPolys.{one_copied, all_copied}
use Rattle.leaf_cases.proofs.call.copies.Goals as goal

pub loop-post-preserved : goal.loop-post-preserved
loop-post-preserved c =
    one_copied c.args.posts.now c.loop-post.post-index c.post-item.result c.in_ok-clone.field-0 c.loop-post.made c.push.new.self c.loop-post-test.true c.post-item.is c.in_ok-clone.ensures.cases c.in_ok-push.ensures.ok
    ∙ c.loop-post.invariant

pub returns : goal.returns
returns c = all_copied c.args.posts.now c.loop-post.post-index c.loop-post.made c.loop-post-test.false c.loop-post.invariant
