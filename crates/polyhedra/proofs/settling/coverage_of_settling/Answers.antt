use Rattle.polyhedra.proofs.SettleLaws.{settled-covers}
use Rattle.polyhedra.proofs.settling.coverage_of_settling.Goals as goal

pub returns : goal.returns
returns c = settled-covers
