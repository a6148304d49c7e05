use Rattle.std.proofs.Common.{Ok, refl, ap, sym}
use Rattle.polyhedra.specs.Bounds.{rows_with_bound, with_row, with_row_for, before_row}
use Rattle.posing.proofs.Following.{stops}
use Rattle.posing.proofs.Steps.{value_first, error_first, notes_first, at_end, in_other_words}
use Rattle.polyhedra.proofs.bounds.bound_before.Goals as goal

pub returns-in_err-bound-clause-follows : goal.returns-in_err-bound-clause-follows
unfolding rows_with_bound
returns-in_err-bound-clause-follows g c = error_first _ (c.in_err-bound.ensures.follows c.args.cases.now (λ case. Ok c.args.d.now) c.requires c.objectives_before-objectives.ensures) refl c.from_residual.ensures.1

pub returns-in_err-with_row-in-Some-clause-follows : goal.returns-in_err-with_row-in-Some-clause-follows
unfolding rows_with_bound
returns-in_err-with_row-in-Some-clause-follows g c =
    value_first (with_row_for c.args.rows (before_row c.args.d.now)) (c.in_ok-bound.ensures.follows c.args.cases.now (λ case. Ok c.args.d.now) c.requires c.objectives_before-objectives.ensures) refl
    (in_other_words (ap (with_row_for c.args.rows (before_row c.args.d.now)) (sym c.in-Some.is))
    (stops _ _ _ _ _ _ (c.in_err-with_row-in-Some.ensures.noted (before_row c.args.d.now c.in-Some.most) c.before_row-row.ensures) c.from_residual-in_err-with_row-in-Some.ensures.1))

pub returns-in-None-clause-follows : goal.returns-in-None-clause-follows
unfolding rows_with_bound
returns-in-None-clause-follows g c =
    value_first (with_row_for c.args.rows (before_row c.args.d.now)) (c.in_ok-bound.ensures.follows c.args.cases.now (λ case. Ok c.args.d.now) c.requires c.objectives_before-objectives.ensures) refl
    (in_other_words (ap (with_row_for c.args.rows (before_row c.args.d.now)) (sym c.in-None.is)) (at_end refl))

pub returns-in_ok-with_row-in-Some-clause-follows : goal.returns-in_ok-with_row-in-Some-clause-follows
unfolding rows_with_bound with_row
returns-in_ok-with_row-in-Some-clause-follows g c =
    value_first (with_row_for c.args.rows (before_row c.args.d.now)) (c.in_ok-bound.ensures.follows c.args.cases.now (λ case. Ok c.args.d.now) c.requires c.objectives_before-objectives.ensures) refl
    (in_other_words (ap (with_row_for c.args.rows (before_row c.args.d.now)) (sym c.in-Some.is))
    (notes_first (c.in_ok-with_row-in-Some.ensures.noted (before_row c.args.d.now c.in-Some.most) c.before_row-row.ensures) refl
    (at_end (c.in_ok-with_row-in-Some.ensures.exact (before_row c.args.d.now c.in-Some.most) c.before_row-row.ensures))))
