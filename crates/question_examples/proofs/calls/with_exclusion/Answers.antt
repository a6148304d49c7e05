use Rattle.std.proofs.Common.{refl}
use Rattle.question_examples.specs.Calls.{with_exclusion}
use Rattle.posing.proofs.Steps.{value_first, at_end}
use Rattle.question_examples.proofs.calls.with_exclusion.Goals as goal

pub returns : goal.returns
unfolding with_exclusion
returns g c = value_first _ c.in_ok-excluded.ensures refl (at_end c.in_ok-with_last.ensures)
