use Rattle.std.proofs.Common.{refl, ap, sym}
use Rattle.linear_terms.specs.declared.col.Col.TheVariants.{Aux}
use Rattle.polyhedra.specs.Bounds.{rows_with_bound, with_row, with_row_for}
use Rattle.posing.proofs.Following.{stops}
use Rattle.posing.proofs.Steps.{value_first, error_first, notes_first, at_end, in_other_words}
use Rattle.std.proofs.Common.{length}
use Rattle.recurrence.specs.Progressions.{progression_row}
use Rattle.recurrence.specs.Words.{plain_progression, change_over_turns_by}
use Rattle.recurrence.proofs.progressions.with_progression.Goals as goal

pub bound_over-requires : goal.bound_over-requires
bound_over-requires g c = record { turns = c.requires.turns; low = c.requires.low }

pub progression_row-row-requires : goal.progression_row-row-requires
progression_row-row-requires g c = c.requires.turns.few

pub returns-in_err-bound : goal.returns-in_err-bound
unfolding rows_with_bound
returns-in_err-bound g c = error_first _ c.in_err-bound.ensures refl c.from_residual.ensures.1

pub returns-in_err-with_row-in-Some : goal.returns-in_err-with_row-in-Some
unfolding rows_with_bound
returns-in_err-with_row-in-Some g c =
    let p = plain_progression c.args.progression in
    let row = progression_row (change_over_turns_by c.args.turns.modified.now) (Aux (length c.args.turns.modified.now)) p in
    value_first (with_row_for c.args.rows row) c.in_ok-bound.ensures refl
    (in_other_words (ap (with_row_for c.args.rows row) (sym c.in-Some.is))
    (stops _ _ _ _ _ _ (c.in_err-with_row-in-Some.ensures.noted (row c.in-Some.most) c.progression_row-row.ensures) c.from_residual-in_err-with_row-in-Some.ensures.1))

pub returns-in-None : goal.returns-in-None
unfolding rows_with_bound
returns-in-None g c =
    let p = plain_progression c.args.progression in
    let row = progression_row (change_over_turns_by c.args.turns.modified.now) (Aux (length c.args.turns.modified.now)) p in
    value_first (with_row_for c.args.rows row) c.in_ok-bound.ensures refl
    (in_other_words (ap (with_row_for c.args.rows row) (sym c.in-None.is)) (at_end refl))

pub returns-in_ok-with_row-in-Some : goal.returns-in_ok-with_row-in-Some
unfolding rows_with_bound with_row
returns-in_ok-with_row-in-Some g c =
    let p = plain_progression c.args.progression in
    let row = progression_row (change_over_turns_by c.args.turns.modified.now) (Aux (length c.args.turns.modified.now)) p in
    value_first (with_row_for c.args.rows row) c.in_ok-bound.ensures refl
    (in_other_words (ap (with_row_for c.args.rows row) (sym c.in-Some.is))
    (notes_first (c.in_ok-with_row-in-Some.ensures.noted (row c.in-Some.most) c.progression_row-row.ensures) refl
    (at_end (c.in_ok-with_row-in-Some.ensures.exact (row c.in-Some.most) c.progression_row-row.ensures))))
