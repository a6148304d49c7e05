use Rattle.std.proofs.Common.{refl}
use Rattle.posing.proofs.Following.{stops}
use Rattle.recurrence.proofs.turning.turns.Goals as goal

pub turns_by-requires : goal.turns_by-requires
turns_by-requires g c =
    let is = c.in_ok-movement.ensures in
    record {
      starred = c.requires;
      movement = record { modified = is.modified; moving = is.moving; cases = is.cases; occurring = is.occurring };
      lost = is.lost;
    }

pub returns-in_err-movement : goal.returns-in_err-movement
returns-in_err-movement g c = stops _ _ _ _ _ _ refl c.from_residual.ensures.1

pub returns : goal.returns
returns g c = c.turns_by.ensures
