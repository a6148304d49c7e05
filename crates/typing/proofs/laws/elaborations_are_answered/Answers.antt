use Rattle.typing.proofs.Outcomes.{answered, answers}
use Rattle.typing.proofs.laws.elaborations_are_answered.Goals as goal

pub returns : goal.returns
returns c = record { answered = answered; answers = answers }
