use Rattle.std.proofs.Common.{◌+◌, ◌∙◌}
use Rattle.linear_terms.specs.Auxiliaries.{renumbered_polynomial}
use Rattle.transition_formula.proofs.Loops.{one_mapped}
use Rattle.leaf_cases.proofs.listed.Later.push_posts.Goals as goal

pub loop-post-preserved : goal.loop-post-preserved
loop-post-preserved c =
    one_mapped (renumbered_polynomial (λ n. c.args.self.now.first + n)) c.args.posts.now c.loop-post.post-index c.post-item.result c.loop-post.made c.push.new.self
    c.in_ok-poly.field-0 c.loop-post-test.true c.post-item.is c.in_ok-poly.ensures c.in_ok-push.ensures.ok
    ∙ c.loop-post.invariant
