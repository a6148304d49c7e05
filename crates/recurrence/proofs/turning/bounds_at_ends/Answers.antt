use Rattle.std.proofs.Common.{refl}
use Rattle.posing.proofs.Steps.{value_first, error_first}
use Rattle.recurrence.specs.Words.{bounds_at_ends}
use Rattle.recurrence.proofs.turning.bounds_at_ends.Goals as goal

pub returns-in_err-before : goal.returns-in_err-before
unfolding bounds_at_ends
returns-in_err-before g c = error_first _ c.in_err-before.ensures refl c.from_residual.ensures.1

pub bounds_after-requires : goal.bounds_after-requires
bounds_after-requires g c = record { posts = c.requires.posts; rows = c.requires.rows }

pub returns : goal.returns
unfolding bounds_at_ends
returns g c = value_first _ c.in_ok-before.ensures refl c.bounds_after.ensures
