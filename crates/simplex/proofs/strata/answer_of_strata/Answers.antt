use Rattle.std.proofs.Common.{subst}
use Rattle.farkas_check.specs.Relations.{stratum_columns}
use Rattle.simplex.specs.Calm.{IsMemory}
use Rattle.simplex.specs.Refusal.{IsRefusal}
use Rattle.simplex.specs.SearchSteps.{StopsBy}
use Rattle.simplex.specs.StrataSteps.{IsSearchStep}
use Rattle.simplex.proofs.strata.answer_of_strata.Goals as goal

pub step_of_strata-requires-clause-step : goal.step_of_strata-requires-clause-step
step_of_strata-requires-clause-step c =
    let asked = c.args.asked.now in
    let is = c.in-Err-Wide.field-0-is in (
      subst IsRefusal is c.in-Err-Wide.ensures.refusal,
      λ calm. subst IsMemory is (c.in-Err-Wide.ensures.calm calm),
      subst (StopsBy (IsSearchStep (stratum_columns asked.cases asked.lower) asked.cases asked.lower)) is c.in-Err-Wide.ensures.step,
    )
