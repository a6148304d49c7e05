use Rattle.std.proofs.Common.{◌≡◌, true, ap, refl, subst, sym, ◌∙◌}
use Rattle.std.specs.Prelude.{if◌then◌else◌}
use Rattle.std.specs.List.{AllByRecursion}
use Rattle.leaf_cases.specs.Conditions.{columns_at}
use Rattle.posing.specs.Posing.{Done}
use Rattle.posing.proofs.Steps.{at_end, in_other_words}
use Rattle.point_induction.specs.Points.{heads_of}
use Rattle.point_rows.specs.Reading.{AreOverColumns}
use Rattle.point_rounds.specs.Table.{rows_at}
use Rattle.point_rounds.proofs.RowColumns.{points-over}
use Rattle.point_verdicts.specs.Exclusions.{case_excluded, every, step_excluded}
use Rattle.point_verdicts.specs.Parts.{AreFailures, IsArrivingCase}
use Rattle.point_verdicts.proofs.Exclusions.{step-arrives}
use Rattle.point_verdicts.proofs.steps.is_step_excluded.Goals as goal

pub returns-then-not-leads_to_check : goal.returns-then-not-leads_to_check
unfolding step_excluded
returns-then-not-leads_to_check g c =
    let a = c.args.assertion in
    let n = columns_at a.program.now a.proc in
    let from = c.args.from.now in
    in_other_words
    (ap (λ leads. if leads then every (case_excluded n c.args.falsity.now.cases (rows_at a.program.now a.round.now.table a.proc from.node)) from.step.formula.cases else Done true) (sym c.if-not-leads_to_check.true ∙ c.leads_to_check.ensures))
    (at_end refl)

pub are_cases_excluded-requires-clause-source : goal.are_cases_excluded-requires-clause-source
are_cases_excluded-requires-clause-source g c =
    let a = c.args.assertion in
    let heads = c.requires.assertion.heads ∙ ap heads_of c.requires.assertion.graph.same in
    subst (λ n. AreOverColumns n c.rows_at-source.result.now) (sym c.requires.falsity.from)
    (subst (AreOverColumns (columns_at a.program.now a.proc)) (sym (c.rows_at-source.ensures a.program.now heads)) (points-over a.program.now a.round.now.table c.requires.assertion.formed c.requires.assertion.table a.proc c.args.from.now.node))

pub are_cases_excluded-requires-clause-cases : goal.are_cases_excluded-requires-clause-cases
are_cases_excluded-requires-clause-cases g c =
    let a = c.args.assertion in
    subst (λ n. AllByRecursion (IsArrivingCase n) c.cases-cases.result.now) (sym c.requires.falsity.from)
    (subst (AllByRecursion (IsArrivingCase (columns_at a.program.now a.proc))) (sym c.cases-cases.ensures.cases)
    (step-arrives a.program.now a.proc a.check c.args.from.now c.requires.step (sym c.leads_to_check.ensures ∙ c.if-not-leads_to_check.false)))

pub are_cases_excluded-requires-clause-falsity : goal.are_cases_excluded-requires-clause-falsity
are_cases_excluded-requires-clause-falsity g c = subst (λ n. AreFailures n c.args.falsity.now) (sym c.requires.falsity.from) c.requires.falsity

pub returns : goal.returns
unfolding step_excluded
returns g c =
    let a = c.args.assertion in
    let n = columns_at a.program.now a.proc in
    let from = c.args.from.now in
    let falsity = c.args.falsity.now.cases in
    let heads = c.requires.assertion.heads ∙ ap heads_of c.requires.assertion.graph.same in
    let source = rows_at a.program.now a.round.now.table a.proc from.node in
    let same : every (case_excluded c.args.falsity.now.from falsity c.rows_at-source.result.now) c.cases-cases.result.now ≡ every (case_excluded n falsity source) from.step.formula.cases =
    (λ i. every (case_excluded (c.requires.falsity.from i) falsity (c.rows_at-source.ensures a.program.now heads i)) (c.cases-cases.ensures.cases i)) in
    in_other_words (same ∙ ap (λ leads. if leads then every (case_excluded n falsity source) from.step.formula.cases else Done true) (sym c.if-not-leads_to_check.false ∙ c.leads_to_check.ensures)) c.are_cases_excluded.ensures
