use Rattle.std.proofs.Common.{refl, ap}
use Rattle.polyhedra.specs.Infeasibility.{limits_of, noted_answer}
use Rattle.posing.proofs.Following.{stops}
use Rattle.posing.proofs.Steps.{value_first, error_first, notes_first, at_end}
use Rattle.polyhedra.proofs.infeasible.noted_answer.Goals as goal

pub returns-in_err-answer : goal.returns-in_err-answer
unfolding noted_answer
returns-in_err-answer g c = error_first _ c.in_err-answer.ensures refl c.from_residual.ensures.1

pub returns-in_err-note_limit : goal.returns-in_err-note_limit
unfolding noted_answer
returns-in_err-note_limit g c =
    value_first _ c.in_ok-answer.ensures refl (stops _ _ _ _ _ _ c.in_err-note_limit.ensures c.from_residual-in_err-note_limit.ensures.1)

pub returns : goal.returns
unfolding noted_answer
returns g c = value_first _ c.in_ok-answer.ensures refl (notes_first c.in_ok-note_limit.ensures (ap limits_of c.get.ensures) (at_end refl))
