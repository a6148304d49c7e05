use Rattle.alike_groups.proofs.Parts.{alike_parts_are_one, plans_are_planned}
use Rattle.alike_groups.proofs.laws.alike_parts_are_one.Goals as goal

pub returns : goal.returns
returns c = record { planned = plans_are_planned; one = alike_parts_are_one }
