use Rattle.std.proofs.Common.{◌++◌, ◌∷◌, [], take, ap, sym, subst, ◌∙◌}
use Rattle.std.proofs.lemmas.List.{take_all, take_more}
use Rattle.items.proofs.Each.{each-append}
use Rattle.polyhedra.specs.Laws.{HaveCanonicalRows}
use Rattle.point_rounds.specs.declared.round.StepFrom.{StepFrom}
use Rattle.point_verdicts.specs.Parts.{HaveCanonicalSteps}
use Rattle.point_verdicts.proofs.steps.see_steps.Goals as goal

pub loop-from-preserved : goal.loop-from-preserved
loop-from-preserved c =
    let steps = c.args.steps.now in
    let i = c.loop-from.from-index in
    let from = c.from-item.result in
    subst HaveCanonicalSteps (sym (take_more steps i from c.loop-from-test.true ∙ ap (λ (f : StepFrom). take i steps ++ f ∷ []) (sym c.from-item.is)))
    (each-append (λ (f : StepFrom). HaveCanonicalRows f.step.formula.cases) (take i steps) (from ∷ []) c.loop-from.invariant (subst HaveCanonicalRows c.cases.ensures.cases c.see_cases.ensures, tt))

pub returns : goal.returns
returns c = subst HaveCanonicalSteps (take_all c.loop-from.from-index c.args.steps.now c.loop-from-test.false) c.loop-from.invariant
