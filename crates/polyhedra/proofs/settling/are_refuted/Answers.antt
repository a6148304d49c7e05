use Rattle.std.proofs.Common.{refl, ap}
use Rattle.polyhedra.specs.Infeasibility.{assent}
use Rattle.posing.proofs.Following.{stops}
use Rattle.posing.proofs.Steps.{in_other_words}
use Rattle.polyhedra.proofs.settling.are_refuted.Goals as goal

pub returns-in_err-question : goal.returns-in_err-question
returns-in_err-question g c = stops _ _ _ _ _ _ refl c.from_residual.ensures.1

pub returns : goal.returns
returns g c = in_other_words (ap assent c.in_ok-question.ensures) c.assent.ensures
