use Rattle.std.proofs.Common.{rules, arith}
use Rattle.simplex.proofs.SpotFrames.{spots_framed-is}
use Rattle.simplex.proofs.spots.spot_tableau.Goals as goal

pub loop-line-init : goal.loop-line-init
loop-line-init c = (spots_framed-is c.args.count c.args.lines.now c.in_ok-t.t (search rules), λ i h. absurd (omega (arith, h)))
