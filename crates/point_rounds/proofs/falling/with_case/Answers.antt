use Rattle.std.proofs.Common.{◌≤◌, length, drop, refl, ap, sym, subst, ◌∙◌}
use Rattle.posing.proofs.Following.{stops}
use Rattle.posing.proofs.Steps.{in_other_words}
use Rattle.point_rows.specs.Reading.{AreOverColumns, given_rows}
use Rattle.point_rounds.specs.Rounds.{with_case, with_rows}
use Rattle.point_rounds.proofs.falling.with_case.Goals as goal

pub given_rows-requires : goal.given_rows-requires
given_rows-requires g c = subst (λ posts. AreOverColumns (length posts) c.args.ends.source.now) (sym c.as_slice-posts.ensures) c.requires.source

pub posts_behind-posts-requires : goal.posts_behind-posts-requires
posts_behind-posts-requires g c = subst (λ posts. c.args.ends.columns ≤ length posts) (sym c.as_slice-posts.ensures) c.requires.long

pub with_rows-requires : goal.with_rows-requires
with_rows-requires g c =
    subst (λ posts. AreOverColumns (length posts) c.args.ends.rows.now) (sym (c.posts_behind-posts.ensures ∙ ap (drop c.args.ends.columns) c.as_slice-posts.ensures)) c.requires.rows

pub returns : goal.returns
unfolding with_case
returns g c =
    in_other_words
    (λ i. with_rows c.args.ends.place c.args.ends.rows.now ((c.posts_behind-posts.ensures ∙ ap (drop c.args.ends.columns) c.as_slice-posts.ensures) i) c.args.fell
    ((c.in_ok-given.ensures ∙ (λ j. given_rows (c.as_slice-posts.ensures j) (c.as_slice.ensures j) c.args.ends.source.now)) i))
    c.with_rows.ensures

pub returns-in_err-given : goal.returns-in_err-given
returns-in_err-given g c = stops _ _ _ _ _ _ refl c.from_residual.ensures.1
