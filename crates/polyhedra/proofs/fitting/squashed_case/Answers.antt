use Rattle.std.proofs.Common.{length, refl, ap, ◌∙◌, arith}
use Rattle.posing.proofs.Following.{stops}
use Rattle.posing.proofs.Steps.{value_first, error_first, notes_first, at_end}
use Rattle.polyhedra.specs.Squash.{squashed_case}
use Rattle.polyhedra.proofs.Coverage.{modified-few}
use Rattle.polyhedra.proofs.fitting.squashed_case.Goals as goal

pub overflow_cast-aux : goal.overflow_cast-aux
overflow_cast-aux g c =
    let few = modified-few c.args.fitting.one c.args.fitting.f.now in let long = c.len-aux.ensures ∙ ap length c.in_ok-movement.ensures.modified in let most = c.requires.between.few_after in omega arith

pub noted_posts-requires : goal.noted_posts-requires
noted_posts-requires g c =
    let few = modified-few c.args.fitting.one c.args.fitting.f.now in
    let long = ap length c.in_ok-movement.ensures.modified in
    let most = c.requires.between.few_after in
    record { few = omega arith; modified = c.in_ok-movement.ensures.modified; lost = c.in_ok-movement.ensures.lost }

pub squash_rows-requires : goal.squash_rows-requires
squash_rows-requires g c =
    let is = c.in_ok-movement.ensures in
    record {
      between = c.requires.between;
      one = c.requires.one;
      modified = is.modified;
      moving = is.moving;
      cases = is.cases;
      occurring = is.occurring;
    }

pub returns-in_err-movement : goal.returns-in_err-movement
returns-in_err-movement g c = stops _ _ _ _ _ _ refl c.from_residual.ensures.1

pub returns-in_err-post : goal.returns-in_err-post
returns-in_err-post g c = stops _ _ _ _ _ _ c.in_err-post.ensures.noted c.from_residual-in_err-post.ensures.1

pub returns-in_err-rows : goal.returns-in_err-rows
unfolding squashed_case
returns-in_err-rows g c =
    notes_first c.in_ok-post.ensures.noted refl (error_first _ c.in_err-rows.ensures refl c.from_residual-in_err-rows.ensures.1)

pub returns : goal.returns
unfolding squashed_case
returns g c =
    let long = c.len-aux.ensures ∙ ap length c.in_ok-movement.ensures.modified in
    notes_first c.in_ok-post.ensures.noted refl
    (value_first _ c.in_ok-rows.ensures refl (at_end (λ i. record { aux = long i; rows = c.in_ok-rows.rows; post = c.in_ok-post.ensures.exact i })))
