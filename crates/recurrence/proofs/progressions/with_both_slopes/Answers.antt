use Rattle.std.proofs.Common.{refl}
use Rattle.posing.proofs.Steps.{value_first, error_first, at_end}
use Rattle.recurrence.proofs.progressions.with_both_slopes.Goals as goal

pub returns-in_err-once : goal.returns-in_err-once
returns-in_err-once g c = error_first _ c.in_err-once.ensures refl c.from_residual.ensures.1

pub returns-in_err-both : goal.returns-in_err-both
returns-in_err-both g c = value_first _ c.in_ok-once.ensures refl (error_first _ c.in_err-both.ensures refl c.from_residual-in_err-both.ensures.1)

pub returns : goal.returns
returns g c = value_first _ c.in_ok-once.ensures refl (value_first _ c.in_ok-both.ensures refl (at_end refl))
