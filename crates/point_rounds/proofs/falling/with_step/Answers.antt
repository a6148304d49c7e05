use Rattle.std.proofs.Common.{◌≡◌, Some, ap, rules, sym, subst, ◌∙◌}
use Rattle.std.specs.List.{AllByRecursion}
use Rattle.std.proofs.lemmas.Option.{slice_get_within}
use Rattle.posing.proofs.Steps.{in_other_words}
use Rattle.point_rounds.specs.declared.falling.StepRows.{StepRows}
use Rattle.point_rounds.specs.Parts.{IsReadBy}
use Rattle.point_rounds.specs.Rounds.{place_of, with_cases, with_place, with_step}
use Rattle.point_rounds.proofs.StepEnds.{cases-read}
use Rattle.point_rounds.proofs.falling.with_step.Goals as goal

pub columns_at-requires-clause-procedure : goal.columns_at-requires-clause-procedure
columns_at-requires-clause-procedure g c = slice_get_within c.args.source.program.now.procs c.args.from.now.proc c.requires.from.p c.requires.from.is

pub with_cases-requires : goal.with_cases-requires
with_cases-requires g c =
    let program = c.args.source.program.now in
    let from = c.args.from.now in
    let place : place_of from.proc from.step.target ≡ Some c.in-Some.place = search rules in
    let ends : StepRows = record { columns = c.columns_at.result; source = c.rows_at.result; place = c.in-Some.place; rows = c.rows_at_place.result } in
    subst (AllByRecursion (IsReadBy ends)) (sym c.cases.ensures.cases)
    (cases-read program c.requires.source.formed c.args.table.now c.requires.table from c.requires.from ends c.columns_at.ensures (c.rows_at.ensures program c.heads_at.ensures) c.rows_at_place.ensures place)

pub returns-in-Some : goal.returns-in-Some
unfolding with_step
returns-in-Some g c =
    let program = c.args.source.program.now in
    let table = c.args.table.now in
    let from = c.args.from.now in
    let place : place_of from.proc from.step.target ≡ Some c.in-Some.place = search rules in
    in_other_words
    ((λ i. with_cases (c.columns_at.ensures i) (c.rows_at.ensures program c.heads_at.ensures i) (c.cases.ensures.cases i) c.in-Some.place c.args.fell (c.rows_at_place.ensures i))
    ∙ ap (with_place program table from c.args.fell) (sym place))
    c.with_cases.ensures
