use Rattle.std.proofs.Common.{ap, map, subst, sym, ◌∙◌}
use Rattle.transition_formula.specs.Transition.{IsTransition}
use Rattle.leaf_cases.proofs.Guards.{all_mapped}
use Rattle.point_rows.specs.Exits.{case_with_exit_rows}
use Rattle.point_rows.proofs.ExitColumns.{cases-fit}
use Rattle.point_rows.proofs.exits.cases_with_exit_rows.Goals as goal

pub returns-clause-fit : goal.returns-clause-fit
returns-clause-fit c =
    let f = c.args.f.now in
    let rows = c.args.rows.now in
    let items = c.cases-case-items.result.now in
    let made =
    all_mapped (case_with_exit_rows f.from rows) items c.loop-case.case-index c.loop-case.cases c.loop-case-test.false
    (c.loop-case.invariant ∙ ap (map (case_with_exit_rows f.from rows)) (sym c.cases-case-items.ensures.cases)) in
    subst (IsTransition f.from f.to) (sym made) (cases-fit f.from f.to rows items c.cases-case-items.ensures.fit c.requires)
