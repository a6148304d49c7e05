use Rattle.std.proofs.Common.{refl, ap, sym}
use Rattle.polyhedra.specs.Bounds.{put_in_for, rows_with_bound, with_row, with_row_for, after_row}
use Rattle.posing.proofs.Following.{stops}
use Rattle.posing.proofs.Steps.{value_first, error_first, notes_first, at_end, in_other_words}
use Rattle.polyhedra.proofs.bounds.bound_after.Goals as goal

pub returns-in_err-bound-clause-follows : goal.returns-in_err-bound-clause-follows
unfolding rows_with_bound
returns-in_err-bound-clause-follows g c = error_first _ (c.in_err-bound.ensures.follows c.args.posts.cases.now (λ case. put_in_for case.post c.args.d.now) c.requires.goals c.objectives_after-objectives.ensures) refl c.from_residual.ensures.1

pub returns-in_err-with_row-in-Some-clause-follows : goal.returns-in_err-with_row-in-Some-clause-follows
unfolding rows_with_bound
returns-in_err-with_row-in-Some-clause-follows g c =
    value_first (with_row_for c.args.rows (after_row c.args.posts.after.now c.args.d.now)) (c.in_ok-bound.ensures.follows c.args.posts.cases.now (λ case. put_in_for case.post c.args.d.now) c.requires.goals c.objectives_after-objectives.ensures) refl
    (in_other_words (ap (with_row_for c.args.rows (after_row c.args.posts.after.now c.args.d.now)) (sym c.in-Some.is))
    (stops _ _ _ _ _ _ (c.in_err-with_row-in-Some.ensures.noted (after_row c.args.posts.after.now c.args.d.now c.in-Some.most) c.after_row-row.ensures) c.from_residual-in_err-with_row-in-Some.ensures.1))

pub returns-in-None-clause-follows : goal.returns-in-None-clause-follows
unfolding rows_with_bound
returns-in-None-clause-follows g c =
    value_first (with_row_for c.args.rows (after_row c.args.posts.after.now c.args.d.now)) (c.in_ok-bound.ensures.follows c.args.posts.cases.now (λ case. put_in_for case.post c.args.d.now) c.requires.goals c.objectives_after-objectives.ensures) refl
    (in_other_words (ap (with_row_for c.args.rows (after_row c.args.posts.after.now c.args.d.now)) (sym c.in-None.is)) (at_end refl))

pub returns-in_ok-with_row-in-Some-clause-follows : goal.returns-in_ok-with_row-in-Some-clause-follows
unfolding rows_with_bound with_row
returns-in_ok-with_row-in-Some-clause-follows g c =
    value_first (with_row_for c.args.rows (after_row c.args.posts.after.now c.args.d.now)) (c.in_ok-bound.ensures.follows c.args.posts.cases.now (λ case. put_in_for case.post c.args.d.now) c.requires.goals c.objectives_after-objectives.ensures) refl
    (in_other_words (ap (with_row_for c.args.rows (after_row c.args.posts.after.now c.args.d.now)) (sym c.in-Some.is))
    (notes_first (c.in_ok-with_row-in-Some.ensures.noted (after_row c.args.posts.after.now c.args.d.now c.in-Some.most) c.after_row-row.ensures) refl
    (at_end (c.in_ok-with_row-in-Some.ensures.exact (after_row c.args.posts.after.now c.args.d.now c.in-Some.most) c.after_row-row.ensures))))
