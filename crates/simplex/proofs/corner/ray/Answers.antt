use Rattle.std.proofs.Common.{◌≡◌, ◌++◌, ◌∷◌, [], rules, pos}
use Rattle.farkas_check.specs.Ratios.{Fraction, whole}
use Rattle.simplex.specs.Suprema.{SlopeAt}
use Rattle.simplex.proofs.Behind.{each-next}
use Rattle.simplex.proofs.corner.ray.Goals as goal

pub loop-own-preserved : goal.loop-own-preserved
loop-own-preserved g c =
    let r : Fraction = c.in_ok-slope_of.field-0 in
    let more : c.push.new.self ≡ c.loop-own.made ++ r ∷ [] = search rules in
    let here : SlopeAt c.args.t.now c.args.column c.args.up c.loop-own.own r = search rules in
    let next = each-next (SlopeAt c.args.t.now c.args.column c.args.up) c.loop-own.made c.push.new.self r (whole (pos 0)) c.loop-own.own c.loop-own.invariant.each c.loop-own.invariant.same more here in
    record { each = next.0; same = next.1 }
