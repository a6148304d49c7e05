use Rattle.simplex.specs.Suprema.{IsRayOf}
use Rattle.simplex.proofs.corner.ray.Given as goal

abbrev pub ghost-slope_of : goal.ghost-slope_of
ghost-slope_of g a = g.over

abbrev pub invariant-loop-own : goal.invariant-loop-own
invariant-loop-own g l = IsRayOf l.t l.column l.up l.own l.made
