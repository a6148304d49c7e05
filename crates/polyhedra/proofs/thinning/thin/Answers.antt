use Rattle.std.proofs.Common.{subst}
use Rattle.std.specs.Prelude.{IfOk}
use Rattle.linear_terms.specs.declared.row.Case.{Case}
use Rattle.polyhedra.specs.Laws.{IsWider}
use Rattle.polyhedra.proofs.Results.{result_has}
use Rattle.polyhedra.proofs.ThinLaws.{thinned-covers}
use Rattle.polyhedra.proofs.thinning.thin.Goals as goal

pub returns-clause-covers : goal.returns-clause-covers
returns-clause-covers g c =
    subst (λ (case : Case). IfOk c.thin_case.result (IsWider case)) c.in_ok-copy.ensures.cases
    (result_has (IsWider c.in_ok-copy.copy) c.thin_case.result c.thin_case.ensures (thinned-covers c.in_ok-copy.copy))
