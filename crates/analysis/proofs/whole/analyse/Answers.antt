use Rattle.std.proofs.Common.{◌∙◌, ap, Result, Ok, Err}
use Rattle.std.specs.Prelude.{IfOk}
use Rattle.posing.proofs.Steps.{error_first, value_first}
use Rattle.analysis.specs.Analysis.{report_by_plan}
use Rattle.analysis.specs.Found.{findings_by_plan}
use Rattle.analysis.proofs.OnePlan.{plan-one}
use Rattle.analysis.proofs.Quiet.{analysed-quiet, quiet-kept}
use Rattle.analysis.proofs.whole.analyse.Goals as goal

pub returns-in_err-found-clause-follows : goal.returns-in_err-found-clause-follows
unfolding report_by_plan
returns-in_err-found-clause-follows g c = λ plan is.
    let same = c.as_slice.ensures ∙ plan-one c.args.program.now c.in_ok-plan.plan plan c.in_ok-plan.ensures is in
    error_first _ c.in_err-found.ensures.follows (ap (findings_by_plan c.args.program.now) same) c.from_residual-in_err-found.ensures.1

pub returns-clause-follows : goal.returns-clause-follows
unfolding report_by_plan
returns-clause-follows g c = λ plan is.
    let same = c.as_slice.ensures ∙ plan-one c.args.program.now c.in_ok-plan.plan plan c.in_ok-plan.ensures is in
    value_first _ c.in_ok-found.ensures.follows (ap (findings_by_plan c.args.program.now) same) c.report_by_findings.ensures.follows

pub returns-in_err-found-clause-kept : goal.returns-in_err-found-clause-kept
returns-in_err-found-clause-kept g c =
    quiet-kept _ _ _ _ _ _ (report_by_plan c.args.program.now c.args.places.now c.in_ok-plan.plan) (analysed-quiet c.args.program.now c.args.places.now c.in_ok-plan.plan)
    (returns-in_err-found-clause-follows g c c.in_ok-plan.plan c.in_ok-plan.ensures)

ok-any : {A E X : Type 0} (r : Result A E) → X → IfOk r (λ a. X)
ok-any (Ok a) x = x
ok-any (Err e) x = tt

pub returns-clause-planned : goal.returns-clause-planned
returns-clause-planned g c = ok-any c.report_by_findings.result (c.in_ok-plan.plan, c.in_ok-plan.ensures)

pub returns-clause-kept : goal.returns-clause-kept
returns-clause-kept g c =
    quiet-kept _ _ _ _ _ _ (report_by_plan c.args.program.now c.args.places.now c.in_ok-plan.plan) (analysed-quiet c.args.program.now c.args.places.now c.in_ok-plan.plan)
    (returns-clause-follows g c c.in_ok-plan.plan c.in_ok-plan.ensures)
