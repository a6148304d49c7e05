use Rattle.std.proofs.Common.{ap, sym, ◌∙◌}
use Rattle.farkas_check.specs.declared.question.Question.TheVariants as question
use Rattle.farkas_check.specs.Stratum.{tested_basis}
use Rattle.farkas_check.specs.Tested.{outcome}
use Rattle.farkas_check.proofs.passing.stratum_outcome.Goals as goal

pub returns-in-Basis : goal.returns-in-Basis
returns-in-Basis c =
    c.tested_basis.ensures
    ∙ ap (λ relations. tested_basis c.args.stratum.now.cases c.args.stratum.now.lower relations c.as_slice-in-Basis.result.now c.as_slice-in-Basis-2.result.now) c.as_slice.ensures
    ∙ ap (λ spots. tested_basis c.args.stratum.now.cases c.args.stratum.now.lower c.in-Basis.relations spots c.as_slice-in-Basis-2.result.now) c.as_slice-in-Basis.ensures
    ∙ ap (λ free. tested_basis c.args.stratum.now.cases c.args.stratum.now.lower c.in-Basis.relations c.in-Basis.spots free) c.as_slice-in-Basis-2.ensures
    ∙ ap (λ answer. outcome (question.Stratum c.args.stratum.now) answer) (sym c.in-Basis.is)
