use Rattle.posing.specs.Follows.{Leads}
use Rattle.posing.specs.Posing.{down}
use Rattle.polyhedra.specs.Thin.{thinned_rows, thinning_at}
use Rattle.polyhedra.proofs.thinning.thin_rows.Given as goal

abbrev pub invariant-loop-place : goal.invariant-loop-place
invariant-loop-place g l = Leads g.O.Oracle.asking l.initial.oracle l.oracle l.initial.log l.log (thinned_rows l.initial.left) (down thinning_at l.left l.place)

abbrev pub decreases-loop-place : goal.decreases-loop-place
decreases-loop-place g l = l.place
