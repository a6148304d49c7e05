use Rattle.newton_rounds.proofs.Alike.{alike_groups_are_one}
use Rattle.newton_rounds.proofs.laws.alike_groups_are_one.Goals as goal

pub returns : goal.returns
returns c = alike_groups_are_one
