use Rattle.std.proofs.Common.{rules, ◌≡◌, List, subst}
use Rattle.linear_terms.specs.declared.row.Row.{Row}
use Rattle.farkas_check.specs.Columns.{columns}
use Rattle.simplex.specs.Suprema.{IsSupremumOver}
use Rattle.simplex.proofs.OwnColumns.{case_columns}
use Rattle.simplex.proofs.next_supremum.next_supremum.Goals as goal

pub supremum_anew-requires-clause-columns : goal.supremum_anew-requires-clause-columns
supremum_anew-requires-clause-columns c =
    let is : c.as_slice-in-None.result.now ≡ columns c.as_slice-rows.result.now c.args.goal.now.objective.terms = search rules in
    case_columns c.as_slice-in-None.result.now c.as_slice-rows.result.now c.args.goal.now.objective is

pub returns-in_ok-found-in-Some-clause-supremum : goal.returns-in_ok-found-in-Some-clause-supremum
returns-in_ok-found-in-Some-clause-supremum c =
    let rows : c.as_slice-rows.result.now ≡ c.args.goal.now.rows = search rules in
    subst (λ (rs : List Row). IsSupremumOver (columns rs c.args.goal.now.objective.terms) rs c.args.goal.now.objective c.args.budget c.in_ok-found-in-Some.found) rows c.in_ok-found-in-Some.ensures.supremum
