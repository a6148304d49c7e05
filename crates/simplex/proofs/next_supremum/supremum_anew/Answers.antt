use Rattle.std.proofs.Common.{rules, [], ◌+◌, length, sym, subst}
use Rattle.std.specs.Prelude.{IfErr}
use Rattle.farkas_check.specs.Columns.{monos_of}
use Rattle.farkas_check.proofs.Walks.{IsOrdered, IsOrdered-columns}
use Rattle.simplex.specs.Endings.{FoundFor}
use Rattle.simplex.specs.Refusal.{IsRefusalIn}
use Rattle.simplex.specs.Suprema.{own_frame}
use Rattle.simplex.specs.declared.search.SearchEnd.{SearchEnd}
use Rattle.simplex.proofs.OwnColumns.{refused_own, refuted_over, spent_over}
use Rattle.simplex.proofs.next_supremum.supremum_anew.Goals as goal

pub searched_case-requires : goal.searched_case-requires
searched_case-requires c = subst IsOrdered (sym c.requires.own) (IsOrdered-columns (monos_of c.args.goal.rows.now []))

pub returns-in_err-stage-clause-refusal : goal.returns-in_err-stage-clause-refusal
returns-in_err-stage-clause-refusal c =
    let known : IfErr c.searched_case.result (IsRefusalIn (own_frame c.args.goal.rows.now c.args.goal.objective.now) (length c.args.goal.rows.now + 1)) =
    refused_own c.args.goal.rows.now c.args.goal.objective.now c.args.own c.searched_case.result c.requires.own c.searched_case.ensures.refusal in search rules

pub returns-in-Refuted-clause-supremum : goal.returns-in-Refuted-clause-supremum
returns-in-Refuted-clause-supremum c =
    refuted_over c.args.goal.rows.now c.args.goal.objective.now c.args.goal.columns.now c.args.own c.requires.columns c.requires.own c.args.budget c.in-Refuted._line c.in_ok-stage.stage.enters c.in_ok-stage.stage.tableau
    (subst (λ (f : SearchEnd). FoundFor c.args.own c.args.goal.rows.now c.args.goal.objective.now c.args.budget c.in_ok-stage.stage.enters c.in_ok-stage.stage.tableau f) c.in-Refuted.is c.in_ok-stage.ensures.found)

pub returns-in-Pivots-clause-supremum : goal.returns-in-Pivots-clause-supremum
returns-in-Pivots-clause-supremum c =
    spent_over c.args.goal.rows.now c.args.goal.objective.now c.args.goal.columns.now c.args.own c.requires.columns c.requires.own c.args.budget c.in_ok-stage.stage.enters c.in_ok-stage.stage.tableau
    (subst (λ (f : SearchEnd). FoundFor c.args.own c.args.goal.rows.now c.args.goal.objective.now c.args.budget c.in_ok-stage.stage.enters c.in_ok-stage.stage.tableau f) c.in-Pivots.is c.in_ok-stage.ensures.found)
