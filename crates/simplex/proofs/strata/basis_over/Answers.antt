use Rattle.simplex.proofs.CalmSteps.{plain_error, calm_error}
use Rattle.simplex.proofs.StrataStops.{search_stop}
use Rattle.simplex.proofs.SmallBases.{over_result}
use Rattle.simplex.proofs.strata.basis_over.Goals as goal

pub returns-clause-refusal : goal.returns-clause-refusal
returns-clause-refusal c = plain_error _ c.basis_of.result c.basis_of.ensures.refusal

pub returns-clause-calm : goal.returns-clause-calm
returns-clause-calm c = λ few calm. calm_error _ c.basis_of.result c.basis_of.ensures.refusal (record { few_cases = few; calm = calm })

pub returns-clause-small : goal.returns-clause-small
returns-clause-small c = over_result _ c.basis_of.result c.basis_of.ensures.small

pub returns-clause-step : goal.returns-clause-step
returns-clause-step c = search_stop _ c.basis_of.result c.basis_of.ensures.refusal
