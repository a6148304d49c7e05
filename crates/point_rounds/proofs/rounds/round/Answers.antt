use Rattle.std.proofs.Common.{ap, refl, sym, subst, ◌∙◌}
use Rattle.std.specs.Prelude.{not}
use Rattle.posing.specs.Posing.{Done, ◌>>=◌}
use Rattle.posing.proofs.Following.{stops}
use Rattle.posing.proofs.Steps.{at_end, error_first, in_other_words, value_first}
use Rattle.point_rounds.specs.Closed.{AreStepsFrom}
use Rattle.point_rounds.specs.Rounds.{fallen_rows, round, round_left, some_fell, table_left}
use Rattle.point_rounds.proofs.RoundLoops.{fallen-there, round-is, some-tell}
use Rattle.point_rounds.proofs.rounds.round.Goals as goal

pub fallen_rows-requires-clause-steps : goal.fallen_rows-requires-clause-steps
fallen_rows-requires-clause-steps g c = subst (λ (steps : _). AreStepsFrom c.args.source.program.now steps) (sym c.as_slice.ensures) c.in_ok-steps.ensures.fits

pub returns-clause-follows : goal.returns-clause-follows
unfolding round
returns-clause-follows g c =
    let program = c.args.source.program.now in
    let table = c.args.table in
    let steps = c.in_ok-steps.steps in
    value_first (λ steps. fallen_rows program table steps >>= λ fell. Done (round_left program table steps fell, some_fell fell)) c.in_ok-steps.ensures.follows refl
    (value_first (λ fell. Done (round_left program table steps fell, some_fell fell)) c.in_ok-fell.ensures (ap (fallen_rows program table) c.as_slice.ensures)
    (at_end (λ i. (record { table = (c.in_ok-table.ensures.exact ∙ ap (λ fell. table_left program fell table) c.as_slice-2.ensures) i; steps = steps }, some-tell c.in_ok-fell.fell c.is_empty.result c.is_empty.ensures i))))

pub returns-clause-made : goal.returns-clause-made
returns-clause-made g c =
    let program = c.args.source.program.now in
    let table = c.args.table in
    round-is c.args.source table c.requires.table c.in_ok-fell.fell
    (fallen-there program table c.in_ok-steps.steps (in_other_words (ap (fallen_rows program table) c.as_slice.ensures) c.in_ok-fell.ensures))
    c.in_ok-steps.steps c.in_ok-steps.ensures.fits c.in_ok-steps.ensures.covers c.in_ok-table.table (not c.is_empty.result)
    (c.in_ok-table.ensures.exact ∙ ap (λ fell. table_left program fell table) c.as_slice-2.ensures) (some-tell c.in_ok-fell.fell c.is_empty.result c.is_empty.ensures)

pub returns-in_err-steps-clause-follows : goal.returns-in_err-steps-clause-follows
unfolding round
returns-in_err-steps-clause-follows g c =
    let program = c.args.source.program.now in
    let table = c.args.table in
    error_first (λ steps. fallen_rows program table steps >>= λ fell. Done (round_left program table steps fell, some_fell fell)) c.in_err-steps.ensures.follows refl c.from_residual.ensures.1

pub returns-in_err-fell-clause-follows : goal.returns-in_err-fell-clause-follows
unfolding round
returns-in_err-fell-clause-follows g c =
    let program = c.args.source.program.now in
    let table = c.args.table in
    let steps = c.in_ok-steps.steps in
    value_first (λ steps. fallen_rows program table steps >>= λ fell. Done (round_left program table steps fell, some_fell fell)) c.in_ok-steps.ensures.follows refl
    (error_first (λ fell. Done (round_left program table steps fell, some_fell fell)) c.in_err-fell.ensures (ap (fallen_rows program table) c.as_slice.ensures) c.from_residual-in_err-fell.ensures.1)

pub returns-in_err-table-clause-follows : goal.returns-in_err-table-clause-follows
unfolding round
returns-in_err-table-clause-follows g c =
    let program = c.args.source.program.now in
    let table = c.args.table in
    let steps = c.in_ok-steps.steps in
    value_first (λ steps. fallen_rows program table steps >>= λ fell. Done (round_left program table steps fell, some_fell fell)) c.in_ok-steps.ensures.follows refl
    (value_first (λ fell. Done (round_left program table steps fell, some_fell fell)) c.in_ok-fell.ensures (ap (fallen_rows program table) c.as_slice.ensures) (stops _ _ _ _ _ _ refl c.from_residual-in_err-table.ensures.1))
