use Rattle.linear_terms.specs.Auxiliaries.{occurs}
use Rattle.transition_formula.proofs.Loops.{any_item}
use Rattle.transition_formula.proofs.numbering.posts_renumbered.Goals as goal

pub renumbered_poly-requires-clause-order : goal.renumbered_poly-requires-clause-order
renumbered_poly-requires-clause-order c m n h k lt =
    let item = c.post-item.result in
    c.requires.order m n (any_item (occurs m) c.args.posts.now c.loop-post.post-index item item c.loop-post-test.true c.post-item.is h)
    (any_item (occurs n) c.args.posts.now c.loop-post.post-index item item c.loop-post-test.true c.post-item.is k) lt
