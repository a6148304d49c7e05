use Rattle.std.proofs.Common.{refl}
use Rattle.polyhedra.specs.Settle.{with_settled}
use Rattle.posing.proofs.Steps.{value_first, at_end}
use Rattle.polyhedra.proofs.settling.add_settled.Goals as goal

pub returns : goal.returns
unfolding with_settled
returns g c = value_first _ c.in_ok-left.ensures refl (at_end c.in_ok-with_left.ensures)
