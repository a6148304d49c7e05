use Rattle.std.proofs.Common.{rules, ◌≡◌, ◌+◌, length, sym, subst}
use Rattle.std.specs.Prelude.{IfErr}
use Rattle.simplex.specs.Refusal.{IsRefusalIn}
use Rattle.simplex.specs.Suprema.{own_frame, IsSupremumOver}
use Rattle.simplex.specs.Wider.{widened_supremum}
use Rattle.simplex.specs.declared.supremum.Supremum.{Supremum}
use Rattle.simplex.proofs.OwnColumns.{refused_own, topped_wide}
use Rattle.simplex.proofs.next_supremum.supremum_over.Goals as goal

pub returns-in_err-found-clause-refusal : goal.returns-in_err-found-clause-refusal
returns-in_err-found-clause-refusal c =
    let known : IfErr c.supremum_from_corner.result (IsRefusalIn (own_frame c.args.goal.rows.now c.args.goal.objective.now) (length c.args.goal.rows.now + 1)) =
    refused_own c.args.goal.rows.now c.args.goal.objective.now c.args.own.now c.supremum_from_corner.result c.requires.own c.supremum_from_corner.ensures.refusal in search rules

pub returns-clause-supremum : goal.returns-clause-supremum
returns-clause-supremum c =
    let wide : c.in_ok-wide.wide ≡ widened_supremum c.args.own.now c.args.goal.columns.now c.in_ok-found.found = search rules in
    subst (λ (r : Supremum). IsSupremumOver c.args.goal.columns.now c.args.goal.rows.now c.args.goal.objective.now c.args.budget r) (sym wide)
    (topped_wide c.args.goal.rows.now c.args.goal.objective.now c.args.goal.columns.now c.args.own.now c.requires.columns c.requires.own c.args.budget c.in_ok-found.found c.requires.inside c.in_ok-found.ensures.supremum)
