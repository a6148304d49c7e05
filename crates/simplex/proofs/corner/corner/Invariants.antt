use Rattle.simplex.proofs.CornersByLines.{IsCornerTo}
use Rattle.simplex.proofs.corner.corner.Given as goal

abbrev pub ghost-number_in : goal.ghost-number_in
ghost-number_in g a = g.over

abbrev pub invariant-loop-line : goal.invariant-loop-line
invariant-loop-line g l = IsCornerTo l.t l.constants l.line l.point.items
