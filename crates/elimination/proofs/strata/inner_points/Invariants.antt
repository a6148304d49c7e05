use Rattle.elimination.specs.SmallStrata.{AreInnersTo}
use Rattle.elimination.proofs.strata.inner_points.Given as goal

abbrev pub invariant-loop-probe : goal.invariant-loop-probe
invariant-loop-probe l = AreInnersTo l.columns l.cases l.probes l.probe-index l.made
