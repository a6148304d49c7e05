use Rattle.std.proofs.Common.{refl}
use Rattle.posing.proofs.Steps.{value_first, error_first, at_end, in_other_words}
use Rattle.recurrence.proofs.Parts.{variable-parts}
use Rattle.recurrence.proofs.progressions.with_variable.Goals as goal

pub returns-in_err-upward : goal.returns-in_err-upward
returns-in_err-upward g c = in_other_words (variable-parts c.args.turns c.args.rows c.args.v.now) (error_first _ c.in_err-upward.ensures refl c.from_residual.ensures.1)

pub returns-in_err-both : goal.returns-in_err-both
returns-in_err-both g c =
    in_other_words (variable-parts c.args.turns c.args.rows c.args.v.now)
    (value_first _ c.in_ok-upward.ensures refl (error_first _ c.in_err-both.ensures refl c.from_residual-in_err-both.ensures.1))

pub returns : goal.returns
returns g c =
    in_other_words (variable-parts c.args.turns c.args.rows c.args.v.now)
    (value_first _ c.in_ok-upward.ensures refl (value_first _ c.in_ok-both.ensures refl (at_end refl)))
