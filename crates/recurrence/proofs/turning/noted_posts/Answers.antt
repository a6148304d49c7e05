use Rattle.std.proofs.Common.{true, map, length, ap, subst, ◌∙◌, arith}
use Rattle.std.specs.List.{range_with_len}
use Rattle.posing.specs.Logs.{HasNoted, loss_notes}
use Rattle.polyhedra.specs.Squash.{after_from}
use Rattle.recurrence.proofs.Parts.{posts-same}
use Rattle.recurrence.proofs.turning.noted_posts.Goals as goal

pub posts_after-requires : goal.posts_after-requires
posts_after-requires c = let long = ap length c.as_slice-modified.ensures in let few = c.requires.few in omega arith

pub returns-clause-noted : goal.returns-clause-noted
returns-clause-noted c =
    subst (HasNoted c.args.log.now c.add_losses.new.self) (ap loss_notes c.as_slice.ensures ∙ c.requires.lost) c.in_ok-add_losses.ensures

pub returns-clause-exact : goal.returns-clause-exact
returns-clause-exact c =
    let variables = c.as_slice-modified.ensures ∙ c.requires.modified in
    c.in_ok-posts.ensures ∙ (λ i. map (after_from true 0 (variables i)) (range_with_len 0 (c.to.ensures i))) ∙ posts-same c.args.body.formula.now
