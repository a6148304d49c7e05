-- What is asked of a procedure whose calls are made links.
use Rattle.std.specs.Prelude.{◌≤◌}
use Rattle.context.specs.declared.callings.Caller.{Caller}
use Rattle.context.specs.Made.{AreWidths}

-- a procedure's number is at most 256, and its widths fit one another
pub record IsCaller (caller : Caller) : Type 0 where
  pub few : caller.number ≤ 256
  pub widths : AreWidths caller.widths
