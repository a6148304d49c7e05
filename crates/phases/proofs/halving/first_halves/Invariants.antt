use Rattle.std.proofs.Common.{drop}
use Rattle.posing.specs.Follows.{Leads}
use Rattle.phases.specs.Phases.{first_halves}
use Rattle.phases.proofs.halving.first_halves.Given as goal

abbrev pub invariant-loop-poly : goal.invariant-loop-poly
invariant-loop-poly g l =
    Leads g.O.Oracle.asking l.initial.oracle l.oracle l.initial.log l.log (first_halves l.body l.tried) (first_halves l.body (drop l.poly-index l.tried))
