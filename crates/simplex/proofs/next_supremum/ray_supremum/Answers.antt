use Rattle.std.proofs.Common.{rules, ◌≡◌, ◌+◌, ℕ, List, length, ap, sym, subst}
use Rattle.std.specs.Prelude.{IfErr}
use Rattle.farkas_check.specs.Ratios.{Fraction}
use Rattle.simplex.specs.Refusal.{IsRefusalIn}
use Rattle.simplex.specs.Search.{IsCornerOf}
use Rattle.simplex.specs.Suprema.{frame_over, own_frame, IsSupremumOver}
use Rattle.simplex.specs.Wider.{widened_numbers, unit_ray}
use Rattle.simplex.specs.declared.supremum.Supremum.TheVariants as supremum
use Rattle.simplex.proofs.OtherGoals.{many}
use Rattle.simplex.proofs.OwnColumns.{refused_own, opened_wide}
use Rattle.simplex.specs.SearchSteps.{IsTableauIn}
use Rattle.simplex.proofs.Overruns.{refused}
use Rattle.simplex.proofs.Stops.{numbers_stop}
use Rattle.simplex.proofs.next_supremum.ray_supremum.Goals as goal

pub returns-in_err-point-clause-refusal : goal.returns-in_err-point-clause-refusal
returns-in_err-point-clause-refusal g c =
    let met = c.requires.1.1.1.0 in
    let over = frame_over c.args.own.now c.args.goal.rows.now c.args.goal.objective.now in
    let len : c.len.result ≡ length c.args.own.now = search rules in
    let of : IsTableauIn over (length c.args.goal.rows.now + 1) c.args.stage.now.tableau = record {
      many = many c.args.own.now c.args.goal.rows.now c.args.goal.objective.now c.args.goal.objective.now c.args.stage.now.enters c.args.stage.now.tableau met;
      tableau = met.placed.marked.sized.tableau;
      primitive = met.placed.marked.sized.primitive;
    } in
    let known : IfErr c.corner.result (IsRefusalIn (own_frame c.args.goal.rows.now c.args.goal.objective.now) (length c.args.goal.rows.now + 1)) =
    refused_own c.args.goal.rows.now c.args.goal.objective.now c.args.own.now c.corner.result c.requires.1.1.0
    (refused over (length c.args.goal.rows.now + 1) c.args.stage.now.tableau of c.corner.result c.corner.ensures.refusal c.corner.ensures.calm
    (numbers_stop over (length c.args.goal.rows.now + 1) c.args.stage.now.tableau of c.len.result c.corner.result (ap (λ (n : ℕ). n + 1) (sym len)) c.corner.ensures.step)) in search rules

pub returns-clause-supremum : goal.returns-clause-supremum
returns-clause-supremum g c budget =
    let len : c.len.result ≡ length c.args.own.now = search rules in
    let at : c.in_ok-at.at ≡ widened_numbers c.args.own.now c.args.goal.columns.now c.in_ok-point.point = search rules in
    let ray : c.in_ok-ray.ray ≡ unit_ray c.args.mono.now c.args.up c.args.goal.columns.now = search rules in
    subst (λ (zs : List Fraction). IsSupremumOver c.args.goal.columns.now c.args.goal.rows.now c.args.goal.objective.now budget (supremum.Unbounded zs c.in_ok-ray.ray)) (sym at)
    (subst (λ (us : List Fraction). IsSupremumOver c.args.goal.columns.now c.args.goal.rows.now c.args.goal.objective.now budget (supremum.Unbounded (widened_numbers c.args.own.now c.args.goal.columns.now c.in_ok-point.point) us)) (sym ray)
    (opened_wide c.args.goal.rows.now c.args.goal.objective.now c.args.goal.columns.now c.args.own.now c.requires.1.0 c.requires.1.1.0 budget c.args.mono.now c.args.up c.args.stage.now.enters c.args.stage.now.tableau c.in_ok-point.point c.requires.1.1.1.1 c.requires.1.1.1.0
    (subst (λ (n : ℕ). IsCornerOf c.args.stage.now.tableau n n c.in_ok-point.point) len c.in_ok-point.ensures.corner)))
