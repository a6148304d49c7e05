use Rattle.commands.proofs.Tame.{tame-texts}
use Rattle.commands.proofs.laws.tame_texts_have_no_limit.Goals as goal

pub returns : goal.returns
returns c = tame-texts
