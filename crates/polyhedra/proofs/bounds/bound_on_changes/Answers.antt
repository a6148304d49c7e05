use Rattle.std.proofs.Common.{true, refl, ap, sym}
use Rattle.linear_terms.specs.Expressions.{put_into}
use Rattle.polyhedra.specs.Changes.{change}
use Rattle.polyhedra.specs.Bounds.{for_entries, rows_with_bound, with_row, with_row_for, change_row}
use Rattle.posing.proofs.Following.{stops}
use Rattle.posing.proofs.Steps.{value_first, error_first, notes_first, at_end, in_other_words}
use Rattle.polyhedra.proofs.bounds.bound_on_changes.Goals as goal

pub returns-in_err-bound-clause-follows : goal.returns-in_err-bound-clause-follows
unfolding rows_with_bound
returns-in_err-bound-clause-follows g c = error_first _ (c.in_err-bound.ensures.follows c.args.changes.cases.now (λ case. put_into (for_entries (change true case)) c.args.d.now) c.requires.goals c.objectives_on_changes-objectives.ensures) refl c.from_residual.ensures.1

pub returns-in_err-with_row-in-Some-clause-follows : goal.returns-in_err-with_row-in-Some-clause-follows
unfolding rows_with_bound
returns-in_err-with_row-in-Some-clause-follows g c =
    value_first (with_row_for c.args.rows (change_row c.args.changes.moved.now c.args.changes.turns c.args.d.now)) (c.in_ok-bound.ensures.follows c.args.changes.cases.now (λ case. put_into (for_entries (change true case)) c.args.d.now) c.requires.goals c.objectives_on_changes-objectives.ensures) refl
    (in_other_words (ap (with_row_for c.args.rows (change_row c.args.changes.moved.now c.args.changes.turns c.args.d.now)) (sym c.in-Some.is))
    (stops _ _ _ _ _ _ (c.in_err-with_row-in-Some.ensures.noted (change_row c.args.changes.moved.now c.args.changes.turns c.args.d.now c.in-Some.most) c.change_row-row.ensures) c.from_residual-in_err-with_row-in-Some.ensures.1))

pub returns-in-None-clause-follows : goal.returns-in-None-clause-follows
unfolding rows_with_bound
returns-in-None-clause-follows g c =
    value_first (with_row_for c.args.rows (change_row c.args.changes.moved.now c.args.changes.turns c.args.d.now)) (c.in_ok-bound.ensures.follows c.args.changes.cases.now (λ case. put_into (for_entries (change true case)) c.args.d.now) c.requires.goals c.objectives_on_changes-objectives.ensures) refl
    (in_other_words (ap (with_row_for c.args.rows (change_row c.args.changes.moved.now c.args.changes.turns c.args.d.now)) (sym c.in-None.is)) (at_end refl))

pub returns-in_ok-with_row-in-Some-clause-follows : goal.returns-in_ok-with_row-in-Some-clause-follows
unfolding rows_with_bound with_row
returns-in_ok-with_row-in-Some-clause-follows g c =
    value_first (with_row_for c.args.rows (change_row c.args.changes.moved.now c.args.changes.turns c.args.d.now)) (c.in_ok-bound.ensures.follows c.args.changes.cases.now (λ case. put_into (for_entries (change true case)) c.args.d.now) c.requires.goals c.objectives_on_changes-objectives.ensures) refl
    (in_other_words (ap (with_row_for c.args.rows (change_row c.args.changes.moved.now c.args.changes.turns c.args.d.now)) (sym c.in-Some.is))
    (notes_first (c.in_ok-with_row-in-Some.ensures.noted (change_row c.args.changes.moved.now c.args.changes.turns c.args.d.now c.in-Some.most) c.change_row-row.ensures) refl
    (at_end (c.in_ok-with_row-in-Some.ensures.exact (change_row c.args.changes.moved.now c.args.changes.turns c.args.d.now c.in-Some.most) c.change_row-row.ensures))))
