use Rattle.point_steps.proofs.HeadPlaces.{head-found, head-missing}
use Rattle.point_steps.proofs.source.is_head.Goals as goal

pub returns-in-Ok : goal.returns-in-Ok
returns-in-Ok c = λ g same lt. head-found g c.args.heads.now c.args.node c.in-Ok._place same c.in-Ok.ensures.position

pub returns-in-Err : goal.returns-in-Err
returns-in-Err c = λ g same lt. head-missing g c.args.heads.now c.args.node c.in-Err._place same lt c.in-Err.ensures.position
