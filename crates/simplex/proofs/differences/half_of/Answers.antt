use Rattle.std.proofs.Common.{rules, ◌≡◌, ◌+◌, List, length, sym, subst}
use Rattle.std.specs.Prelude.{IfErr}
use Rattle.linear_terms.specs.declared.row.Row.{Row}
use Rattle.simplex.specs.CalmStrata.{IsRefusalOf}
use Rattle.simplex.specs.Refusal.{IsRefusalIn}
use Rattle.simplex.specs.Suprema.{own_frame, IsSupremumOver}
use Rattle.simplex.specs.Wider.{AreColumnsOf}
use Rattle.simplex.proofs.CalmHalves.{half_refusal}
use Rattle.simplex.proofs.OwnColumns.{difference_columns}
use Rattle.simplex.proofs.differences.half_of.Goals as goal

pub supremum_from-requires : goal.supremum_from-requires
supremum_from-requires c =
    let own : c.as_slice.result.now ≡ c.args.case.now.rows = search rules in
    subst (λ (rows : List Row). AreColumnsOf c.args.strata.now.columns.now rows c.in_ok-objective.objective) (sym own)
    (difference_columns c.args.strata.now c.args.case.now c.args.numbers.now c.args.up c.in_ok-objective.objective c.requires.asked c.requires.case c.in_ok-objective.ensures.difference)

pub half_at-requires-clause-came : goal.half_at-requires-clause-came
half_at-requires-clause-came c =
    let own : c.as_slice.result.now ≡ c.args.case.now.rows = search rules in
    subst (λ (rows : List Row). IsSupremumOver c.args.strata.now.columns.now rows c.in_ok-objective.objective c.args.strata.now.budget c.in_ok-found.found) own c.in_ok-found.ensures.supremum

pub returns-in_err-found-clause-refusal : goal.returns-in_err-found-clause-refusal
returns-in_err-found-clause-refusal c =
    let own : c.as_slice.result.now ≡ c.args.case.now.rows = search rules in
    let refused : IfErr c.supremum_from.result (IsRefusalIn (own_frame c.args.case.now.rows c.in_ok-objective.objective) (length c.args.case.now.rows + 1)) =
    subst (λ (rows : List Row). IfErr c.supremum_from.result (IsRefusalIn (own_frame rows c.in_ok-objective.objective) (length rows + 1))) own c.supremum_from.ensures.refusal in
    let columns = difference_columns c.args.strata.now c.args.case.now c.args.numbers.now c.args.up c.in_ok-objective.objective c.requires.asked c.requires.case c.in_ok-objective.ensures.difference in
    let known : IfErr c.supremum_from.result (IsRefusalOf c.args.strata.now) =
    half_refusal c.args.strata.now c.args.case.now c.args.numbers.now c.args.up c.in_ok-objective.objective c.supremum_from.result columns c.requires.case c.requires.candidate c.requires.calm c.in_ok-objective.ensures.difference refused in search rules
