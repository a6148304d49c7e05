use Rattle.std.proofs.Common.{◌≡◌, ◌<◌, ◌++◌, [], get_or, length, ap, sym, subst, ◌∙◌, arith}
use Rattle.std.specs.Prelude.{IfOk, IsTrue}
use Rattle.linear_terms.specs.declared.row.Case.{Case}
use Rattle.transition_formula.specs.Composition.{sequence_of_cases}
use Rattle.transition_formula.specs.Transition.{Transition, fits}
use Rattle.point_verdicts.specs.Parts.{formula_of_case, only_case}
use Rattle.point_verdicts.proofs.FailingCases.{made-case, made-few, made-losses, on_ok-any}
use Rattle.point_verdicts.proofs.failures.failing_case.Goals as goal

pub formula_of_case-requires : goal.formula_of_case-requires
formula_of_case-requires c =
    subst (λ n. IsTrue (fits n n c.in_ok-copy.copy)) (sym c.to-columns.ensures) (subst (λ case. IsTrue (fits c.args.arriving.now.to c.args.arriving.now.to case)) (sym c.in_ok-copy.ensures.cases) c.requires.bad.fits)

pub seq-requires-clause-between : goal.seq-requires-clause-between
seq-requires-clause-between c = sym c.to-columns.ensures ∙ sym (ap (λ (f : Transition). f.from) c.in_ok-falsity.ensures)

pub seq-requires-clause-few : goal.seq-requires-clause-few
seq-requires-clause-few c =
    let same = c.in_ok-falsity.ensures ∙ (λ i. formula_of_case (c.to-columns.ensures i) (c.to-columns.ensures i) (c.in_ok-copy.ensures.cases i)) in
    made-few c.args.arriving.now c.in_ok-falsity.falsity c.args.arriving.now c.args.bad.now c.requires.arriving same c.requires.bad

pub bounds-cases-0 : goal.bounds-cases-0
bounds-cases-0 c =
    let same = c.in_ok-falsity.ensures ∙ (λ i. formula_of_case (c.to-columns.ensures i) (c.to-columns.ensures i) (c.in_ok-copy.ensures.cases i)) in
    let made = c.cases.ensures.cases ∙ made-case c.args.arriving.now c.in_ok-falsity.falsity c.in_ok-failing.failing c.args.bad.now c.requires.arriving same c.in_ok-failing.ensures.exact in
    subst (λ cases. 0 < length cases) (sym made) (omega arith)

pub returns-clause-exact : goal.returns-clause-exact
returns-clause-exact c =
    let same = c.in_ok-falsity.ensures ∙ (λ i. formula_of_case (c.to-columns.ensures i) (c.to-columns.ensures i) (c.in_ok-copy.ensures.cases i)) in
    let made = c.cases.ensures.cases ∙ made-case c.args.arriving.now c.in_ok-falsity.falsity c.in_ok-failing.failing c.args.bad.now c.requires.arriving same c.in_ok-failing.ensures.exact in
    let whole = sequence_of_cases (only_case c.args.arriving.now) c.args.bad.now in
    subst (λ (case : Case). IfOk c.case_without_posts.result (λ made. made ≡ record { aux = case.aux; rows = case.rows; post = [] })) (c.index-cases-0.is ∙ ap (λ cases. get_or cases 0 c.index-cases-0.result) made) c.case_without_posts.ensures

pub returns-clause-noted : goal.returns-clause-noted
returns-clause-noted c =
    let same = c.in_ok-falsity.ensures ∙ (λ i. formula_of_case (c.to-columns.ensures i) (c.to-columns.ensures i) (c.in_ok-copy.ensures.cases i)) in
    on_ok-any c.case_without_posts.result
    (c.in_ok-failing.ensures.noted ∙ ap (λ l. c.args.losses.now ++ l) (made-losses c.args.arriving.now c.in_ok-falsity.falsity c.in_ok-failing.failing c.args.bad.now c.requires.arriving same))
