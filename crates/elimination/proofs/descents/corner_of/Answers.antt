use Rattle.std.proofs.Common.{◌+◌, List, length, sym, subst}
use Rattle.std.specs.Prelude.{Option, MatchOption}
use Rattle.farkas_check.specs.Ratios.{Fraction}
use Rattle.simplex.specs.Refusal.{IsRefusalIn}
use Rattle.simplex.specs.Suprema.{goal_frame}
use Rattle.elimination.specs.Descents.{HasNoDescent, IsLineCorner}
use Rattle.elimination.proofs.InnerGoals.{found_corner, never_wide}
use Rattle.elimination.proofs.descents.corner_of.Goals as goal

pub returns-in-Ok : goal.returns-in-Ok
returns-in-Ok c =
    subst (λ (p : Option (List Fraction)). MatchOption p (HasNoDescent c.args.count c.args.lines.now) (IsLineCorner c.args.lines.now)) (sym c.point_of.ensures)
    (found_corner c.args.count c.args.lines.now c.args.goal.now c.in-Ok.found c.requires.small c.requires.goal c.requires.canonical c.in-Ok.ensures.supremum)

pub returns-in-Err-Wide : goal.returns-in-Err-Wide
returns-in-Err-Wide c = absurd (never_wide c.args.count c.args.lines.now c.args.goal.now c.in-Err-Wide._step c.requires.small c.requires.goal (subst (IsRefusalIn (goal_frame c.args.goal.now) (length c.args.goal.now.rows + 1)) c.in-Err-Wide.field-0-is c.in-Err-Wide.ensures.refusal))
