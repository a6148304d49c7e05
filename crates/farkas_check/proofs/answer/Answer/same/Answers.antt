use Rattle.std.proofs.lemmas.Bool.Decides.{Decides-at}
use Rattle.farkas_check.proofs.Equal.{answer_decides}
use Rattle.farkas_check.proofs.answer.Answer.same.Goals as goal

pub returns : goal.returns
returns c = Decides-at _ _ c.eq.ensures (answer_decides c.args.self.now c.args.other.now)
