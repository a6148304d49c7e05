use Rattle.std.proofs.Common.{◌≡◌, ◌^◌, List, Ok, map, sym, ap, subst, ◌∙◌}
use Rattle.std.specs.Prelude.{Option, MatchOption}
use Rattle.linear_terms.specs.Row.{AreCanonical}
use Rattle.farkas_check.specs.declared.question.Goal.{Goal}
use Rattle.farkas_check.specs.Ratios.{Fraction}
use Rattle.farkas_check.specs.Tested.{goal_columns}
use Rattle.elimination.specs.Descents.{HasNoDescent, line_row, line_goal, IsLineCorner, AreRatiosBelow}
use Rattle.elimination.specs.Equations.{values_to, least_numerators}
use Rattle.elimination.proofs.InnerPoints.{line_corner, descent_of}
use Rattle.elimination.proofs.descents.descent.Goals as goal

pub numbers_at-requires-clause-small : goal.numbers_at-requires-clause-small
numbers_at-requires-clause-small c =
    let corner : IsLineCorner c.args.lines.now c.in-Some.point = subst (λ (o : Option (List Fraction)). MatchOption o (HasNoDescent c.args.count c.args.lines.now) (IsLineCorner c.args.lines.now)) c.in-Some.is c.in_ok-point.ensures in
    subst (AreRatiosBelow (20 ^ 5)) (sym c.as_slice-in-Some.ensures) (line_corner c.args.count c.args.lines.now c.in-Some.point c.requires corner)

pub returns-in-Some : goal.returns-in-Some
returns-in-Some c =
    let corner : IsLineCorner c.args.lines.now c.in-Some.point = subst (λ (o : Option (List Fraction)). MatchOption o (HasNoDescent c.args.count c.args.lines.now) (IsLineCorner c.args.lines.now)) c.in-Some.is c.in_ok-point.ensures in
    let canonical : AreCanonical (map line_row c.args.lines.now) = subst AreCanonical (c.as_slice.ensures ∙ ap (λ (g : Goal). g.rows) c.in_ok-goal.ensures) c.canonical_rows.ensures in
    let made : least_numerators (values_to (goal_columns (line_goal c.args.lines.now)) c.in-Some.point c.args.count) ≡ Ok c.in_ok-numbers-in-Some.numbers =
    subst (λ (g : Goal). least_numerators (values_to (goal_columns g) c.in-Some.point c.args.count) ≡ Ok c.in_ok-numbers-in-Some.numbers) c.in_ok-goal.ensures
    (subst (λ (p : List Fraction). least_numerators (values_to (goal_columns c.in_ok-goal.goal) p c.args.count) ≡ Ok c.in_ok-numbers-in-Some.numbers) c.as_slice-in-Some.ensures c.in_ok-numbers-in-Some.ensures) in
    descent_of c.args.count c.args.lines.now c.in-Some.point c.in_ok-numbers-in-Some.numbers c.requires canonical corner made
